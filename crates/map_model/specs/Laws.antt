-- What the laws of histories say.
use Rattle.std.specs.Prelude.{◌≡◌, ℕ, ◌<◌, ◌≤◌, true, false, List, [], ◌∷◌, ◌++◌, length, Option, Some, None, ◌⊎◌}
use Rattle.std.specs.Bool.{MatchBool}
use Rattle.std.specs.List.{AllByRecursion}
use Rattle.kv_block.specs.declared.changes.Change.{Change}
use Rattle.kv_block.specs.Bytes.{key_eq}
use Rattle.map_model.specs.declared.calls.Call.{Call}
use Rattle.map_model.specs.declared.calls.Reply.{Reply}
use Rattle.map_model.specs.declared.records.Record.{Record}
use Rattle.map_model.specs.Machine.{key_of, reply_at, value_after, change_of, is_change}
use Rattle.map_model.specs.History.{history, is_answer, is_change_at, in_order, IsLegal, IsFounded, IsAfter, IsAnsweredRight, IsMade, AreApart, EachPair, Has}
use Rattle.map_model.specs.Moments.{IsFirst}

-- the calls of one key are those of a cell of one thread that has `value` at first: each call of the key gets the
-- reply that the cell's value gives, and leaves the cell to the next
abbrev pub IsCell : List ℕ → Option (List ℕ) → List Record → Type 0
IsCell key value [] = Unit {0}
IsCell key value (r ∷ rs) =
    MatchBool (key_eq key (key_of r.call)) ((reply_at r.call value ≡ Some r.reply) × IsCell key (value_after r.call value) rs)
    (IsCell key value rs)

-- a record that is `a` stands somewhere before one that is `b`
abbrev pub StandsBefore : List Record → Record → Record → Type 0
StandsBefore [] a b = ⊥
StandsBefore (x ∷ xs) a b = ((x ≡ a) × Has xs b) ⊎ StandsBefore xs a b

-- in a legal history each key by itself behaves as a cell of one thread
abbrev pub EachKeyIsCell : Type 0
EachKeyIsCell = (changes : List Change) (records : List Record) (key : List ℕ)
    → IsLegal changes records → IsCell key None (history changes records)

-- a changing record had seen its own change after it
abbrev pub SawItsChange : Record → Type 0
SawItsChange r = is_change r.reply ≡ true → r.point < r.hi

-- where all that the client of `a` had seen after it had been seen by the client of `b` before it, and one of the two
-- changed the map, `a` stands before `b`
abbrev pub SeenStandsBefore : Type 0
SeenStandsBefore = (changes : List Change) (records : List Record) (a b : Record)
    → IsLegal changes records → Has records a → Has records b → is_answer a ≡ true → is_answer b ≡ true
    → a.hi ≤ b.lo → SawItsChange a → (is_change a.reply ≡ true) ⊎ (is_change b.reply ≡ true)
    → StandsBefore (history changes records) a b

-- the facts of each record and of each change alone give a legal history
abbrev pub FoundedIsLegal : Type 0
FoundedIsLegal = (changes : List Change) (records : List Record) → IsFounded changes records → IsLegal changes records

-- no record and no change are founded
abbrev pub NoneIsFounded : Type 0
NoneIsFounded = IsFounded [] []

-- a record more that made no change keeps the facts
abbrev pub QuietKeepsFounded : Type 0
QuietKeepsFounded = (changes : List Change) (records : List Record) (r : Record)
    → IsFounded changes records → is_change r.reply ≡ false → IsAnsweredRight changes r → AllByRecursion (IsAfter r) records
    → IsFounded changes (records ++ r ∷ [])

-- and so does one with its change
abbrev pub ChangeKeepsFounded : Type 0
ChangeKeepsFounded = (changes : List Change) (change : Change) (records : List Record) (r : Record)
    → IsFounded changes records → is_change r.reply ≡ true → change_of r.call ≡ Some change → r.point ≡ length changes
    → IsAnsweredRight (changes ++ change ∷ []) r → AllByRecursion (IsAfter r) records
    → IsFounded (changes ++ change ∷ []) (records ++ r ∷ [])

-- more changes do not move a point that is among those that there were
abbrev pub PointsStay : Type 0
PointsStay = (changes more : List Change) (lo : ℕ) (call : Call) (reply : Reply) (point : ℕ)
    → point ≤ length changes → IsFirst changes lo call reply point → IsFirst (changes ++ more) lo call reply point

-- in any order of the clients: where each record is right, each changing record's change is its own, no two have one
-- point, each change has a record, and each client's records are in order, the facts hold
abbrev pub AnyOrderIsFounded : Type 0
AnyOrderIsFounded = (changes : List Change) (records : List Record)
    → AllByRecursion (IsAnsweredRight changes) records → AllByRecursion (IsMade changes) records → EachPair AreApart records
    → ((n : ℕ) → n < length changes → (r : Record) × Has records r × (is_change_at n r ≡ true)) → in_order records ≡ true
    → IsFounded changes records
