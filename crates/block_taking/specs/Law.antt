-- What is proved of a taking.
use Rattle.std.specs.Prelude.{◌≡◌, ℕ, ◌+◌, ◌*◌, ◌<◌, ◌≤◌, List, reverse, length, slice_index, Some, ◌⊎◌}
use Rattle.node_words.specs.Addresses.{node_size, node_at}
use Rattle.verb_log.specs.declared.entry.Entry.{Entry}
use Rattle.verb_log.specs.Tables.{Past, Before, word_at}
use Rattle.verbs.specs.Programs.{Prog}
use Rattle.verbs.specs.Safe.{Safe}
use Rattle.race_laws.specs.Setting.{Setting, hash}
use Rattle.race_laws.specs.Legal.{IsLegal}
use Rattle.log_facts.specs.Among.{quiet_among}
use Rattle.log_facts.specs.Mine.{Block}
use Rattle.block_taking.specs.declared.taking.Area.{Area}
use Rattle.block_taking.specs.declared.taking.Taking.{Taking}
use Rattle.block_taking.specs.declared.taking.TakeOutcome.{TakeOutcome}
use Rattle.block_taking.specs.declared.taking.TakeOutcome.TheVariants.{Taken, NoBlock, Spent}
use Rattle.block_taking.specs.declared.taking.TakeEnd.{TakeEnd}
use Rattle.block_taking.specs.Holdings.{Apart, Owns}
use Rattle.block_taking.specs.Text.{need, take_block}

-- a taking may begin: its sizes are the setting's, the block has as many words as a block may have, and the area is the client's
pub record MayTake (s : Setting) (c : ℕ) (q : Past) (t : Taking) (area : Area) : Type 0 where
  pub geometry : t.geometry ≡ s.geometry
  pub least : 2 ≤ need t
  pub most : need t ≤ 137
  pub owns : Owns s c area q

-- at a position of the taking this was the next word of node k, and so many words more go past the node's end
pub record WasFull (s : Setting) (from q : Past) (k next words : ℕ) : Type 0 where
  pub at : Past
  pub from_then : Before from at
  pub till : Before at q
  pub read : word_at s.geometry at (node_at s.geometry k) ≡ next
  pub past : (k + 1) * node_size s.geometry < next + words

-- Taken: the block's words are the client's, written and not published, and apart from the area. NoBlock: the list has a number for
-- each node, and each node was full. Spent: no swap more may be lost; else one may.
abbrev pub TakenSo : Setting → ℕ → Taking → Past → Past → TakeEnd → TakeOutcome → Type 0
TakenSo s c t from q e (Taken at) = Block s c at t.block q × Apart at (need t) e.area × (1 ≤ e.left)
TakenSo s c t from q e (NoBlock next words) =
    (words ≡ need t) × (length next ≡ s.geometry.nodes) × ((k : ℕ) → k < s.geometry.nodes → WasFull s from q k (slice_index next k) (need t)) × (1 ≤ e.left)
TakenSo s c t from q e Spent = e.left ≡ 0

-- A taking has ended. The area that is told is the client's.
pub record HasTaken (s : Setting) (c : ℕ) (t : Taking) (left : ℕ) (from q : Past) (e : TakeEnd) : Type 0 where
  pub owns : Owns s c e.area q
  pub fewer : e.left ≤ left
  pub so : TakenSo s c t from q e e.outcome

-- a program that plays a taking that may lose so many swaps, at least one, is safe for each client on each legal log on which it
-- may begin: whatever others add between its verbs, each of its entries may follow and changes nothing in the map, and it ends so
abbrev pub IsSafeTaking : Taking → Area → ℕ → Prog TakeEnd → Type 0
IsSafeTaking t area left program =
    (s : Setting) (c : ℕ) (log : List Entry) → IsLegal s log → MayTake s c (reverse log) t area → 1 ≤ left
    → Safe (quiet_among s c) (hash s) log program (λ log2 e. HasTaken s c t left (reverse log) (reverse log2) e)

-- each taking is safe
abbrev pub TakingIsSafe : Type 0
TakingIsSafe = (t : Taking) (area : Area) (left : ℕ) → IsSafeTaking t area left (take_block t area left)
