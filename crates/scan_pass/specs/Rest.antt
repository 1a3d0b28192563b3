-- What is left of a pass.
use Rattle.std.specs.Prelude.{ℕ, ◌+◌, ◌-◌, zero, suc, None}
use Rattle.verb_log.specs.declared.entry.Verb.TheVariants.{Read}
use Rattle.verb_log.specs.Decoded.{birth}
use Rattle.verbs.specs.Programs.{Prog, ret, ask, do_verb}
use Rattle.node_words.specs.Addresses.{birth_at, child_at}
use Rattle.kv_block.specs.Reading.{block_value}
use Rattle.pass_text.specs.declared.job.Job.{Job}
use Rattle.pass_text.specs.declared.passed.Passed.{Passed}
use Rattle.pass_text.specs.declared.passed.PassEnd.TheVariants.{Clear, Gone, Spent}
use Rattle.pass_text.specs.Words.{count, candidate_at, directory_word, address_of}
use Rattle.pass_text.specs.Pass.{Seen, read_words, after_block, drop_word, judge, judge_once, spare, scan, last, follow, search, first_seen, after_lost, below, begin, at_table, passed, held}
use Rattle.scan_pass.specs.declared.scan.Scan.{Scan}
use Rattle.scan_pass.specs.declared.at.At.{At}
use Rattle.scan_pass.specs.declared.at.At.TheVariants.{Depth, Directory, Header, Parent, Birth, Slot, Block, Drop, KeyHeader, Child, Held as HeldAt, Clear as ClearAt, Gone as GoneAt, Spent as SpentAt}
use Rattle.scan_pass.specs.declared.pass.Pass.{Pass}
use Rattle.scan_pass.specs.BlockWords.{words_of}
use Rattle.scan_pass.specs.Seen.{seen}

-- the candidates from number i on, and what follows: the key's header, and n tables at most
unfoldable pub onward : Job → ℕ → ℕ → Seen → Prog Passed
onward j i n s = scan j (count j - i) i s (last j (follow j n))

abbrev pub lost_again : Job → ℕ → ℕ → Seen → ℕ → ℕ → Prog Passed
lost_again j i n r found zero = ret (passed j r Spent)
lost_again j i n r found (suc m) = judge j m i r found (onward j (i + 1) n)

-- what a lost drop of candidate i leads to, where so many more might be lost before the one with which the pass ends
unfoldable pub again : Job → ℕ → ℕ → ℕ → Seen → ℕ → Prog Passed
again j spared i n r found = lost_again j i n r found spared

-- what follows the scan's candidate, and what a lost drop of it leads to
abbrev pub goes_on : Job → Scan → Seen → Prog Passed
goes_on j s = onward j (s.index + 1) s.follow

abbrev pub judges_again : Job → Scan → Seen → ℕ → Prog Passed
judges_again j s = again j (spare j (seen s)) s.index s.follow

-- what is left, by where the pass stands
abbrev pub at_rest : Job → Scan → At → Prog Passed
at_rest j s Depth = ask (do_verb None (Read 1)) (λ depth. ask (do_verb None (Read (directory_word j depth))) (λ table. at_table j (address_of table)))
at_rest j s Directory = ask (do_verb None (Read s.next)) (λ table. at_table j (address_of table))
at_rest j s Header = at_table j s.next
at_rest j s Parent = ask (do_verb None (Read (birth_at s.opened.table))) (λ w. begin j s.opened (birth w).parent)
at_rest j s Birth = ask (do_verb None (Read (birth_at s.next))) (λ w. search j j.geometry.max_depth (first_seen s.opened s.next (birth w).depth))
at_rest j s Slot = ask (do_verb None (Read (candidate_at j s.table s.index))) (λ word. judge_once j s.index (seen s) word (goes_on j s) (judges_again j s))
at_rest j s Block = read_words s.from (suc s.more) s.next (words_of s.block) (λ ws. after_block j s.index (seen s) s.word s.mark ws (goes_on j s) (judges_again j s))
at_rest j s Drop = drop_word j s.index (seen s) s.word (goes_on j s) (judges_again j s)
at_rest j s KeyHeader = last j (follow j s.follow) (seen s)
at_rest j s Child = ask (do_verb None (Read (child_at s.table s.level))) (λ child. follow j s.follow (below (seen s) child s.level))
at_rest j s HeldAt = ret (passed j (seen s) (held (candidate_at j s.table s.index) s.word (block_value (words_of s.block))))
at_rest j s ClearAt = ret (passed j (seen s) Clear)
at_rest j s GoneAt = ret (passed j (seen s) Gone)
at_rest j s SpentAt = ret (passed j (after_lost (seen s)) Spent)

abbrev pub pass_rest : Pass → Prog Passed
pass_rest p = at_rest p.task.job p.scan p.at
