-- What is left of a posted look.
use Rattle.std.specs.Prelude.{ℕ, ◌+◌, Bool, true, false, List, [], ◌∷◌, length, drop, take, slice_index, Option, Some, None}
use Rattle.verb_log.specs.Decoded.{birth}
use Rattle.node_words.specs.Addresses.{header_at, birth_at, child_at}
use Rattle.kv_block.specs.Reading.{block_value}
use Rattle.bucket_group.specs.Buckets.{candidates}
use Rattle.pass_text.specs.declared.job.Job.{Job}
use Rattle.pass_text.specs.declared.passed.Passed.{Passed}
use Rattle.pass_text.specs.declared.passed.PassEnd.TheVariants.{Clear}
use Rattle.pass_text.specs.Words.{candidate_at, key_header_at, directory_word, address_of, head_in}
use Rattle.pass_text.specs.Pass.{Seen, first_seen, below, passed, held}
use Rattle.post_text.specs.Posts.{Posts, ends, reads, post, post_one, range}
use Rattle.post_text.specs.Look.{candidates_in, after_block, judge_all, last, follow, search, begin, on_header, at_table, head_read}
use Rattle.batch_pass.specs.declared.scan.Scan.{Scan}
use Rattle.batch_pass.specs.declared.at.At.{At}
use Rattle.batch_pass.specs.declared.at.At.TheVariants.{Depth, Directory, Header, Parent, Birth, Slots, Block, KeyHeader, Child, Held as HeldAt, Clear as ClearAt}
use Rattle.batch_pass.specs.declared.outstanding.Outstanding.{Outstanding}
use Rattle.batch_pass.specs.Seen.{seen}
use Rattle.batch_pass.specs.Waiting.{cells}

-- the candidates from number i on, by their words, and what follows: the key's header, and n tables at most
unfoldable pub onward : Job → List ℕ → ℕ → ℕ → Seen → Posts Passed
onward j slots i n s = judge_all j (drop i (take (length (candidates j.geometry.groups j.hash)) slots)) i s (last j (follow j n))

-- what follows the scan's candidate
abbrev pub goes_on : Job → Scan → Seen → Posts Passed
goes_on j s = onward j s.slots (s.index + 1) s.follow

-- a candidate was judged: it was taken, so that the words of its block are to be posted; or the next one comes
abbrev pub judged : Job → Scan → Bool → Posts Passed
judged j s true = post (Some s.from) (range s.from s.len) (λ ws. after_block j s.index (seen s) s.word ws (goes_on j s))
judged j s false = onward j s.slots s.index s.follow (seen s)

-- the addresses of the reads that were posted last, by where the look stands
abbrev pub posted_at : Job → Scan → At → List ℕ
posted_at j s Depth = 1 ∷ []
posted_at j s Directory = s.next ∷ []
posted_at j s Header = header_at s.next ∷ []
posted_at j s Parent = birth_at s.opened.table ∷ []
posted_at j s Birth = birth_at s.next ∷ []
posted_at j s Slots = candidates_in j s.table
posted_at j s Block = range s.from s.len
posted_at j s KeyHeader = key_header_at j s.table ∷ []
posted_at j s Child = child_at s.table s.level ∷ []
posted_at j s HeldAt = []
posted_at j s ClearAt = []

-- .. and the block of which they read words
abbrev pub block_at : Scan → At → Option ℕ
block_at s Block = Some s.from
block_at s _ = None

-- the word of the one read
abbrev pub only : List ℕ → ℕ
only ws = slice_index ws 0

-- what follows their words
abbrev pub then_at : Job → Scan → At → List ℕ → List ℕ → Posts Passed
then_at j s Depth words ws = post_one (directory_word j (only ws)) (λ table. at_table j (address_of table))
then_at j s Directory words ws = at_table j (address_of (only ws))
then_at j s Header words ws = on_header j s.next (head_in (only ws))
then_at j s Parent words ws = begin j s.opened (birth (only ws)).parent
then_at j s Birth words ws = search j j.geometry.max_depth (first_seen s.opened s.next (birth (only ws)).depth)
then_at j s Slots words ws = judge_all j ws 0 (seen s) (last j (follow j s.follow))
then_at j s Block words ws = after_block j s.index (seen s) s.word ws (goes_on j s)
then_at j s KeyHeader words ws = head_read j (follow j s.follow) (seen s) (head_in (only ws))
then_at j s Child words ws = follow j s.follow (below (seen s) (only ws) s.level)
then_at j s HeldAt words ws = ends (passed j (seen s) (held (candidate_at j s.table s.index) s.word (block_value (take s.len words))))
then_at j s ClearAt words ws = ends (passed j (seen s) Clear)

-- what is left
unfoldable pub rest_at : Job → Scan → Outstanding → At → Posts Passed
rest_at j s r at = reads (block_at s at) r.left (cells (posted_at j s at) r.words r.done) (then_at j s at r.words)
