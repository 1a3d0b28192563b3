-- What is proved of an insert.
use Rattle.std.specs.Prelude.{◌≡◌, ◌≢◌, ℕ, ◌<◌, ◌≤◌, ◌%◌, ◌^◌, false, IsTrue, List, [], ◌∷◌, ◌++◌, reverse, length, slice_index, Option, Some, None, ◌⊎◌}
use Rattle.std.specs.FinMap.{get}
use Rattle.kv_block.specs.declared.changes.Change.{Change}
use Rattle.kv_block.specs.Packing.{Pair, IsPair, packed}
use Rattle.map_model.specs.Machine.{map_at}
use Rattle.slot_word.specs.declared.slots.Mark.{Mark}
use Rattle.slot_word.specs.declared.heads.Head.{Head}
use Rattle.bucket_group.specs.Choice.{is_free}
use Rattle.verb_log.specs.declared.entry.Entry.{Entry}
use Rattle.verb_log.specs.declared.kind.Kind.TheVariants.{Place, Commit}
use Rattle.verb_log.specs.Tables.{Past, Before, word_at}
use Rattle.verb_log.specs.Kinds.{kind}
use Rattle.verb_log.specs.Decoded.{Body, header_of}
use Rattle.verbs.specs.Logs.{Entries}
use Rattle.verbs.specs.Programs.{Prog}
use Rattle.race_laws.specs.Setting.{Setting, hash}
use Rattle.race_laws.specs.Legal.{IsLegal}
use Rattle.race_laws.specs.Standing.{header_in, Word}
use Rattle.log_facts.specs.Start.{Start}
use Rattle.log_facts.specs.Among.{changes_of}
use Rattle.pass_text.specs.declared.job.PassMode.TheVariants.{Look}
use Rattle.pass_text.specs.declared.passed.Passed.{Passed}
use Rattle.pass_text.specs.Words.{is_filling}
use Rattle.pass_laws.specs.HasPassed.{HeldAt, LookedAt}
use Rattle.pass_laws.specs.Law.{MayBegin}
use Rattle.call_laws.specs.Judged.{SafeOnce}
use Rattle.block_taking.specs.declared.taking.Area.{Area}
use Rattle.block_taking.specs.Holdings.{Owns, KeptBlock}
use Rattle.block_taking.specs.Law.{WasFull}
use Rattle.block_taking.specs.Text.{need}
use Rattle.op_insert.specs.declared.end.InsertOutcome.{InsertOutcome}
use Rattle.op_insert.specs.declared.end.InsertOutcome.TheVariants.{Inserted, Exists, NeedRoom, Again, NoBlock}
use Rattle.op_insert.specs.declared.end.InsertEnd.{InsertEnd}
use Rattle.op_insert.specs.Text.{Inserting, live_word, places_of, insert}
use Rattle.op_insert.specs.Bound.{insert_verbs}

-- what the insert of a pair is started with, with these sizes and hashes: the client that tries the nodes, and the swaps that may be lost
abbrev pub inserting_of : Setting → ℕ → Pair → ℕ → Inserting
inserting_of s client pair tries = record {
  job = record { geometry = s.geometry; key = pair.key; hash = hash s pair.key; mode = Look };
  taking = record { geometry = s.geometry; client = client; block = packed pair.key pair.value };
  tries = tries;
}

-- no pending word that a client has placed since a position stands in its slot
abbrev pub NonePending : Setting → ℕ → Past → Past → Type 0
NonePending s c from q = (e : Entry) (x : Past) → Before (e ∷ x) q → Before from x → e.client ≡ c → kind s.geometry x e ≡ Some Place → word_at s.geometry q e.at ≢ e.new

-- A look has ended as Clear. A header of the last table that it opened there with, where one is told, was read at the position
-- `opened`, and all else that it tells after that.
pub record LookedFrom (s : Setting) (key : List ℕ) (from q : Past) (p : Passed) : Type 0 where
  pub opened : Past
  pub from_then : Before from opened
  pub till : Before opened q
  pub opened_head : (h : Head) → p.opened ≡ Some h → header_in s.geometry opened p.table ≡ header_of (Some h)
  pub looked : LookedAt s key opened q p

-- candidate number x of a table that fills is left out: in the same place of its parent stood a word of a key that leaves for it
pub record LeftOut (s : Setting) (i : Inserting) (from q : Past) (p : Passed) (x : ℕ) : Type 0 where
  pub fills : IsTrue (is_filling p.head.state)
  pub parent : ℕ
  pub is_parent : p.parent ≡ Some parent
  pub at : Past
  pub from_then : Before from at
  pub till : Before at q
  pub mark : Mark
  pub body : Body
  pub pair : Pair
  pub word : Word s.geometry at mark parent (slice_index (places_of i) x) body pair
  pub leaves : hash s pair.key % 2 ^ p.head.depth ≡ i.job.hash % 2 ^ p.head.depth

-- .. or was read as not 0
abbrev pub Occupied : Setting → Inserting → Past → Past → Passed → ℕ → Type 0
Occupied s i from q p x = (is_free p.free x ≡ false) ⊎ LeftOut s i from q p x

-- a look of the insert has ended as Clear, and each candidate is occupied
pub record NoRoom (s : Setting) (i : Inserting) (from q : Past) (p : Passed) : Type 0 where
  pub look : LookedFrom s i.job.key from q p
  pub occupied : (x : ℕ) → x < length (places_of i) → Occupied s i look.opened q p x

-- the pair was added by the last entry, a Commit of the client of its block at this address; the map had no such key before
pub record Committed (s : Setting) (c : ℕ) (i : Inserting) (pair : Pair) (before : List Change) (l : Entries) (at : ℕ) : Type 0 where
  pub change : changes_of s l ≡ before ++ (record { key = pair.key; value = Some pair.value }) ∷ []
  pub absent : get (map_at before (length before)) pair.key ≡ None
  pub last : Entry
  pub earlier : Past
  pub is_last : reverse l ≡ last ∷ earlier
  pub client : last.client ≡ c
  pub commits : kind s.geometry earlier last ≡ Some Commit
  pub word : last.new ≡ live_word i at

-- what each answer says
abbrev pub AnswersSo : Setting → ℕ → Inserting → Pair → Past → List Change → Entries → InsertEnd → InsertOutcome → Type 0
AnswersSo s c i pair from before l e (Inserted at) = Committed s c i pair before l at
AnswersSo s c i pair from before l e (Exists h) = HeldAt s pair.key from (reverse l) e.table h
AnswersSo s c i pair from before l e (NeedRoom p kept) = NoRoom s i from (reverse l) p × (p.table ≡ e.table) × KeptBlock s c i.taking.block kept e.area (reverse l) × (e.lost < i.tries)
AnswersSo s c i pair from before l e Again = e.lost ≡ i.tries
AnswersSo s c i pair from before l e (NoBlock next words) =
    (words ≡ need i.taking) × (length next ≡ s.geometry.nodes) × ((k : ℕ) → k < s.geometry.nodes → WasFull s from (reverse l) k (slice_index next k) (need i.taking)) × (e.lost < i.tries)

-- where nothing was inserted the map stays, and no pending word of the insert stands
abbrev pub StaysSo : Setting → ℕ → Past → List Change → Entries → InsertOutcome → Type 0
StaysSo s c from before l (Inserted at) = Unit {0}
StaysSo s c from before l (Exists h) = (changes_of s l ≡ before) × NonePending s c from (reverse l)
StaysSo s c from before l (NeedRoom p kept) = (changes_of s l ≡ before) × NonePending s c from (reverse l)
StaysSo s c from before l Again = (changes_of s l ≡ before) × NonePending s c from (reverse l)
StaysSo s c from before l (NoBlock next words) = (changes_of s l ≡ before) × NonePending s c from (reverse l)

-- An insert has ended, where `before` were the changes when its last verb was done. A pass may start at the table that is told, and
-- the area is the client's.
pub record HasInserted (s : Setting) (c : ℕ) (i : Inserting) (pair : Pair) (from : Past) (before : List Change) (l : Entries) (e : InsertEnd) : Type 0 where
  pub start : Start s.geometry (reverse l) (hash s pair.key) e.table
  pub owns : Owns s c e.area (reverse l)
  pub so : AnswersSo s c i pair from before l e e.outcome
  pub stays : StaysSo s c from before l e.outcome

-- an insert of a pair may begin: its look may, the area is the client's, a block that is kept is written and apart from it, and a swap
-- may be lost
pub record MayInsert (s : Setting) (c : ℕ) (q : Past) (i : Inserting) (pair : Pair) (start kept : Option ℕ) (area : Area) : Type 0 where
  pub is_pair : IsPair pair
  pub is : i ≡ inserting_of s i.taking.client pair i.tries
  pub begin : MayBegin s pair.key Look q start
  pub owns : Owns s c area q
  pub keeps : KeptBlock s c i.taking.block kept area q
  pub some : 1 ≤ i.tries

-- a program that plays an insert is safe for each client on each legal log on which it may begin: whatever others add before each of
-- its verbs, it ends within so many verbs and hashes, each of its entries may follow, none but the last changes the map, and it ends so
abbrev pub IsSafeInsert : Inserting → Option ℕ → Option ℕ → Area → Prog InsertEnd → Type 0
IsSafeInsert i start kept area program =
    (s : Setting) (c : ℕ) (pair : Pair) (log : List Entry) → IsLegal s log → MayInsert s c (reverse log) i pair start kept area
    → SafeOnce s c (insert_verbs i) (changes_of s log) log program (HasInserted s c i pair (reverse log))

-- each insert is safe
abbrev pub InsertIsSafe : Type 0
InsertIsSafe = (i : Inserting) (start kept : Option ℕ) (area : Area) → IsSafeInsert i start kept area (insert i start kept area)
