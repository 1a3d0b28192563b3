-- What the end of a part of an insert says of the log.
use Rattle.std.specs.Prelude.{◌≡◌, ◌≢◌, ℕ, ◌<◌, ◌≤◌, ◌∷◌, length, slice_index, Some}
use Rattle.std.proofs.Common.{sym, ◌∙◌, ap}
use Rattle.slot_word.specs.declared.slots.Mark.TheVariants.{Live, Pending}
use Rattle.kv_block.specs.Packing.{Pair}
use Rattle.node_words.specs.Addresses.{slot_at}
use Rattle.verb_log.specs.declared.entry.Entry.{Entry}
use Rattle.verb_log.specs.declared.kind.Kind.TheVariants.{Place}
use Rattle.verb_log.specs.Decoded.{Body, Full, content}
use Rattle.verb_log.specs.Tables.{Past, Before, word_at, pair_at}
use Rattle.verb_log.specs.Kinds.{kind}
use Rattle.race_laws.specs.Setting.{Setting, hash}
use Rattle.race_laws.specs.Standing.{IsTable}
use Rattle.race_laws.specs.Looks.{Swept}
use Rattle.race_laws.specs.Rows.{IsPlace}
use Rattle.log_facts.specs.Start.{Start}
use Rattle.log_facts.specs.Reached.{Deeper}
use Rattle.log_facts.proofs.Places.{EachPlace, None_placed, Placed_one}
use Rattle.pass_laws.specs.HasPassed.{HeldAt}
use Rattle.block_taking.specs.declared.taking.Area.{Area}
use Rattle.block_taking.specs.Holdings.{Apart, Owns, KeptBlock}
use Rattle.block_taking.specs.Law.{WasFull}
use Rattle.block_taking.specs.Text.{need}
use Rattle.op_insert.specs.Text.{Inserting, Result, to_commit, exists_with, start_again, left_again, spent, no_block, need_room, Part, pending_word, live_word}
use Rattle.op_insert.specs.Law.{NonePending, NoRoom}

-- the block's pending word may be committed: it was placed, and swept for
pub record ToCommit (s : Setting) (c : ℕ) (i : Inserting) (pair : Pair) (area : Area) (q : Past) (own at : ℕ) : Type 0 where
  pub table : ℕ
  pub place : ℕ
  pub own_is : own ≡ slot_at table place
  pub is_place : IsPlace s.geometry place
  pub body : Body
  pub pending : content (pending_word i at) ≡ Full Pending body
  pub live : content (live_word i at) ≡ Full Live body
  pub placed : Entry
  pub before : Past
  pub is_table : IsTable s.geometry (placed ∷ before) table
  pub packs : pair_at s.geometry (placed ∷ before) body ≡ Some pair
  pub kept : Before (placed ∷ before) q
  pub placing : kind s.geometry before placed ≡ Some Place
  pub slot : placed.at ≡ slot_at table place
  pub word : placed.new ≡ pending_word i at
  pub client : placed.client ≡ c
  pub swept : Swept s q (placed ∷ before) pair.key (slot_at table place)
  pub apart : Apart body.at body.length area

abbrev pub ResultSo : Setting → ℕ → Inserting → Pair → Past → Past → Part → Result → Type 0
ResultSo s c i pair from q part (to_commit own at) = ToCommit s c i pair part.area q own at × (1 ≤ part.left)
ResultSo s c i pair from q part (exists_with h) = HeldAt s pair.key from q part.table h
ResultSo s c i pair from q part start_again = 1 ≤ part.left
ResultSo s c i pair from q part left_again = (1 ≤ part.left) × Deeper s pair.key from q
ResultSo s c i pair from q part spent = Unit {0}
ResultSo s c i pair from q part (no_block next words) = (words ≡ need i.taking) × (length next ≡ s.geometry.nodes) × ((k : ℕ) → k < s.geometry.nodes → WasFull s from q k (slice_index next k) (need i.taking)) × (1 ≤ part.left)
ResultSo s c i pair from q part (need_room p) = NoRoom s i from q p × (p.table ≡ part.table) × (1 ≤ part.left)

-- of the places that the client has made since the part began, the own word alone may stand, and only where it is to be committed
abbrev pub LeavesSo : Setting → ℕ → Inserting → Past → Past → Result → Type 0
LeavesSo s c i from q (to_commit own at) = EachPlace s c from (Placed_one own (pending_word i at)) q
LeavesSo s c i from q (exists_with h) = NonePending s c from q
LeavesSo s c i from q start_again = NonePending s c from q
LeavesSo s c i from q left_again = NonePending s c from q
LeavesSo s c i from q spent = NonePending s c from q
LeavesSo s c i from q (no_block next words) = NonePending s c from q
LeavesSo s c i from q (need_room p) = NonePending s c from q

-- how many swaps may be lost after a part: fewer where it starts again by a lost swap
abbrev pub FallsBy : ℕ → ℕ → Result → Type 0
FallsBy most left (to_commit own at) = left ≤ most
FallsBy most left (exists_with h) = left ≤ most
FallsBy most left start_again = left < most
FallsBy most left left_again = left ≤ most
FallsBy most left spent = Unit {0}
FallsBy most left (no_block next words) = left ≤ most
FallsBy most left (need_room p) = left ≤ most

pub record PartEnd (s : Setting) (c : ℕ) (i : Inserting) (pair : Pair) (most : ℕ) (from q : Past) (part : Part) : Type 0 where
  pub start : Start s.geometry q (hash s pair.key) part.table
  pub owns : Owns s c part.area q
  pub kept : KeptBlock s c i.taking.block part.kept part.area q
  pub so : ResultSo s c i pair from q part part.result
  pub leaves : LeavesSo s c i from q part.result
  pub falls : FallsBy most part.left part.result

pub none_pending : (s : Setting) (c : ℕ) (from q : Past) → EachPlace s c from None_placed q → NonePending s c from q
none_pending s c from q h e x b d o k w = h e x b d o k

pub gone_pending : (s : Setting) (c : ℕ) (from q : Past) (a w : ℕ) → EachPlace s c from (Placed_one a w) q → word_at s.geometry q a ≢ w → NonePending s c from q
gone_pending s c from q a w h n e x b d o k z = let y = h e x b d o k in n (ap (word_at s.geometry q) (sym y.0) ∙ z ∙ y.1)
