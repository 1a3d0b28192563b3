-- Naming a child in the directory, as a program, in the order of the sentences of docs/PROTOCOL.md, "Naming a child".
use Rattle.std.specs.Prelude.{ℕ, zero, suc, ◌+◌, ◌-◌, ◌%◌, ◌^◌, ◌==◌, ◌&&◌, nat_lt, min, if◌then◌else◌, None}
use Rattle.verb_log.specs.declared.entry.Verb.TheVariants.{Read, Swap}
use Rattle.verb_log.specs.Decoded.{birth}
use Rattle.verbs.specs.Programs.{Prog, ret, ask, do_verb}
use Rattle.node_words.specs.Addresses.{directory_at, birth_at}
use Rattle.pass_text.specs.Words.{address_of}
use Rattle.directory.specs.declared.naming.Naming.{Naming}
use Rattle.directory.specs.declared.naming.Named.{Named}

-- the depth that the parent had before it was split
abbrev pub old_depth : Naming → ℕ
old_depth t = t.birth.depth - 1

-- from an index with the child's suffix to the next one
abbrev pub step : Naming → ℕ
step t = 2 ^ t.birth.depth

-- the least index with the child's suffix; a suffix has no more bits than the birth depth says
abbrev pub first_index : Naming → ℕ
first_index t = t.birth.suffix % 2 ^ t.birth.depth

-- how many indices below 2 ^ depth have the child's suffix; none where the directory is not as deep as the child
abbrev pub indices : Naming → ℕ → ℕ
indices t depth = if nat_lt depth t.birth.depth then 0 else 2 ^ (depth - t.birth.depth)

-- Looking at the word of index j, as it was read or found: read the birth of the table that it names; where its birth depth is
-- below the child's, swap the word to the child. A lost swap gives the word found, which is looked at in the same way. Each
-- word found names a table that was born deeper, so n = birth depth + 1 words are enough; a word behind them, which no legal
-- log has, is passed over.
abbrev pub look : Naming → ℕ → ℕ → ℕ → Prog Named → Prog Named
look t zero j word next = next
look t (suc n) j word next =
    ask (do_verb None (Read (birth_at (address_of word))))
    (λ w. if nat_lt (birth w).depth t.birth.depth
    then ask (do_verb None (Swap (directory_at j) word t.child)) (λ found. if found == word then next else look t n j found next)
    else next)

-- n indices with the child's suffix in order, from j on: read the word, and look at it
abbrev pub name_each : Naming → ℕ → ℕ → ℕ → Prog Named
name_each t depth zero j = ret (record { depth = depth })
name_each t depth (suc n) j =
    ask (do_verb None (Read (directory_at j))) (λ word. look t (suc t.birth.depth) j word (name_each t depth n (j + step t)))

-- the indices below 2 ^ depth, where a global depth above the greatest, which no legal log has, is the greatest
abbrev pub name_below : Naming → ℕ → Prog Named
name_below t global =
    let depth = min global t.geometry.max_depth in name_each t depth (indices t depth) (first_index t)

-- the directory has as many words as its depth says: swap the global depth to the next one, and name the child below that, or
-- below the depth found
abbrev pub deepen : Naming → Prog Named
deepen t =
    ask (do_verb None (Swap 1 (old_depth t) (old_depth t + 1)))
    (λ found. name_below t (if found == old_depth t then old_depth t + 1 else found))

-- doubling, of n upper words from j on: read the lower word, and swap the upper word from 0 to what was read; then the depth
abbrev pub double : Naming → ℕ → ℕ → Prog Named
double t zero j = deepen t
double t (suc n) j =
    ask (do_verb None (Read (directory_at (j - 2 ^ old_depth t))))
    (λ word. ask (do_verb None (Swap (directory_at j) 0 word)) (λ found. double t n (j + 1)))

-- the global depth was read: the directory is doubled where it is as deep as the parent was, and not at the greatest depth
abbrev pub after_depth : Naming → ℕ → Prog Named
after_depth t global =
    if nat_lt global t.geometry.max_depth && (global + 1 == t.birth.depth) then double t (2 ^ old_depth t) (2 ^ old_depth t)
    else name_below t global

abbrev pub naming : Naming → Prog Named
naming t = ask (do_verb None (Read 1)) (λ global. after_depth t global)
