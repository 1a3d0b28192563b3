-- Taking a block, as a program, in the order of the sentences of docs/PROTOCOL.md, "Taking a block".
use Rattle.std.specs.Prelude.{ℕ, zero, suc, ◌+◌, ◌-◌, ◌*◌, ◌%◌, ◌==◌, nat_le, if◌then◌else◌, None, List, length, take, replicate, slice_index, slice_set}
use Rattle.verb_log.specs.declared.entry.Verb.TheVariants.{Read, Write, Swap}
use Rattle.verbs.specs.Programs.{Prog, ret, ask, do_verb}
use Rattle.node_words.specs.declared.geometry.Geometry.{Geometry}
use Rattle.node_words.specs.Addresses.{node_size, node_at}
use Rattle.pass_text.specs.Words.{address_of}
use Rattle.block_taking.specs.declared.taking.Area.{Area}
use Rattle.block_taking.specs.declared.taking.Taking.{Taking}
use Rattle.block_taking.specs.declared.taking.TakeOutcome.{TakeOutcome}
use Rattle.block_taking.specs.declared.taking.TakeOutcome.TheVariants.{Taken, NoBlock, Spent}
use Rattle.block_taking.specs.declared.taking.TakeEnd.{TakeEnd}

-- how many words the block has
abbrev pub need : Taking → ℕ
need t = length t.block

-- the first address behind a node
abbrev pub end_of : Taking → ℕ → ℕ
end_of t k = (k + 1) * node_size t.geometry

-- the node that is tried first, and the one behind a node, round
abbrev pub first_node : Taking → ℕ
first_node t = t.client % t.geometry.nodes

abbrev pub next_node : Taking → ℕ → ℕ
next_node t k = if k + 1 == t.geometry.nodes then 0 else k + 1

abbrev pub ended : TakeOutcome → Area → ℕ → Prog TakeEnd
ended outcome area left = ret (record { outcome = outcome; area = area; left = left })

-- what is left of an area after so many words of its front
abbrev pub behind : ℕ → Area → Area
behind n area = record { at = address_of area.at + n; left = area.left - n }

-- the n words of the block from number i on are written in order, where the block's first word is at this address
abbrev pub write_words : Taking → ℕ → ℕ → ℕ → Area → ℕ → Prog TakeEnd
write_words t zero i at area left = ended (Taken at) area left
write_words t (suc n) i at area left = ask (do_verb None (Write (at + i) (slice_index t.block i))) (λ answer. write_words t n (i + 1) at area left)

abbrev pub write_block : Taking → ℕ → Area → ℕ → Prog TakeEnd
write_block t at area left = write_words t (need t) 0 at area left

-- A node whose next word was read or found as n: where the block goes past its end, the next node is tried, which `full` says.
-- Where at least 65,536 words are left, 1,024 are taken as the new area, and the rest of the old one is given up; else the block
-- alone is taken. A lost Take gives the new number, and the tests of this node come again, while swaps may be lost.
abbrev pub take_at : Taking → ℕ → ℕ → ℕ → Area → (ℕ → ℕ → Prog TakeEnd) → Prog TakeEnd
take_at t zero k n area full = ended Spent area 0
take_at t (suc left) k n area full =
    if nat_le (n + need t) (end_of t k) then
    (if nat_le (n + 65536) (end_of t k) then
    ask (do_verb None (Swap (node_at t.geometry k) n (n + 1024)))
    (λ found. if found == n then write_block t n (record { at = n + need t; left = 1024 - need t }) (suc left) else take_at t left k found area full)
    else
    ask (do_verb None (Swap (node_at t.geometry k) n (n + need t)))
    (λ found. if found == n then write_block t n area (suc left) else take_at t left k found area full))
    else full n (suc left)

-- n nodes are tried from node k on, round: its next word is read, and kept as the last number read of this node
abbrev pub take_from : Taking → ℕ → ℕ → List ℕ → Area → ℕ → Prog TakeEnd
take_from t zero k nexts area left = ended (NoBlock (take t.geometry.nodes nexts) (need t)) area left
take_from t (suc n) k nexts area left =
    ask (do_verb None (Read (node_at t.geometry k)))
    (λ found. take_at t left k found area (λ next left2. take_from t n (next_node t k) (slice_set nexts k next) area left2))

-- the block is cut from the area's front where it has enough words, else it is taken
abbrev pub take_block : Taking → Area → ℕ → Prog TakeEnd
take_block t area left =
    if nat_le (need t) area.left then write_block t (address_of area.at) (behind (need t) area) left
    else take_from t t.geometry.nodes (first_node t) (replicate 8 0) area left
