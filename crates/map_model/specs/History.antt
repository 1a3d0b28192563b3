-- Histories of records, and when they are legal.
use Rattle.std.specs.Prelude.{◌≡◌, ◌≢◌, ℕ, ◌+◌, ◌<◌, ◌≤◌, Bool, true, false, ◌&&◌, ◌||◌, nat_lt, nat_le, ◌==◌, List, [], ◌∷◌, ◌++◌, length, map, filter, find, All, slice_get, Option, Some, None, ◌⊎◌}
use Rattle.std.specs.List.{AllByRecursion}
use Rattle.std.specs.FinMap.{empty}
use Rattle.kv_block.specs.declared.changes.Change.{Change}
use Rattle.map_model.specs.declared.records.Record.{Record}
use Rattle.map_model.specs.Contents.{Contents}
use Rattle.map_model.specs.Machine.{reply_of, after, map_at, change_of, is_change, is_quiet}

-- records whose reply is the map's
abbrev pub is_answer : Record → Bool
is_answer r = is_quiet r.reply || is_change r.reply

-- answered after n changes, without a change
abbrev pub is_quiet_at : ℕ → Record → Bool
is_quiet_at n r = is_quiet r.reply && (r.point == n)

-- answered by change number n
abbrev pub is_change_at : ℕ → Record → Bool
is_change_at n r = is_change r.reply && (r.point == n)

-- answered by the map, after n changes or more
abbrev pub is_late : ℕ → Record → Bool
is_late n r = is_answer r && nat_le n r.point

-- the calls whose points are n and more, where `changes` are those from the n-th on: for each change the calls without
-- a change that stand before it, then its own, and last the calls that stand after all changes; each kind in the order
-- of the list
abbrev pub history_from : ℕ → List Change → List Record → List Record
history_from n [] records = filter (is_late n) records
history_from n (change ∷ changes) records =
    filter (is_quiet_at n) records ++ (filter (is_change_at n) records ++ history_from (n + 1) changes records)

-- the one order of the calls that the map answered
abbrev pub history : List Change → List Record → List Record
history changes records = history_from 0 changes records

-- run from this map, each call gets its record's reply
abbrev pub Replays : Contents → List Record → Type 0
Replays m [] = Unit {0}
Replays m (r ∷ rs) = (reply_of m r.call ≡ Some r.reply) × Replays (after m r.call) rs

-- a change, as the record of its call tells it: its number, and what its call makes
abbrev pub told : Record → ℕ × Option Change
told r = (r.point, change_of r.call)

-- the changes that records tell, in their order
abbrev pub made : List Record → List (ℕ × Option Change)
made records = map told (filter (λ r. is_change r.reply) records)

-- changes, each with its number
abbrev pub numbered : ℕ → List Change → List (ℕ × Option Change)
numbered n [] = []
numbered n (change ∷ changes) = (n, Some change) ∷ numbered (n + 1) changes

-- a record's point lies within what its client had seen
pub record IsWithin (count : ℕ) (r : Record) : Type 0 where
  pub least : r.lo ≤ r.point
  pub most : r.point ≤ r.hi
  pub seen : r.hi ≤ count

-- where the map answered it
abbrev pub IsAnswerWithin : ℕ → Record → Type 0
IsAnswerWithin count r = is_answer r ≡ true → IsWithin count r

-- a record comes before the client's next, where there is one: it has the smaller number, and its client had seen no
-- more after it than before the next
abbrev pub precedes : Record → Option Record → Bool
precedes r None = true
precedes r (Some next) = nat_lt r.number next.number && nat_le r.hi next.lo

-- each record comes before its client's next
abbrev pub in_order : List Record → Bool
in_order [] = true
in_order (r ∷ rs) = precedes r (find (λ s. s.client == r.client) rs) && in_order rs

-- a legal history. Run from the empty map each call gets its record's reply; the changing records, in the order of
-- the history, are the changes one to one, by their numbers, keys and values; each answered record lies within its
-- bounds; and each client's records stand by rising number, none of which has seen more than the next had seen before
pub record IsLegal (changes : List Change) (records : List Record) : Type 0 where
  pub replies : Replays empty (history changes records)
  pub one_to_one : made (history changes records) ≡ numbered 0 changes
  pub bounds : All (IsAnswerWithin (length changes)) records
  pub clients : in_order records ≡ true

-- what a call leaves of a record: its reply is the map's at its point, within its bounds
pub record IsRight (changes : List Change) (r : Record) : Type 0 where
  pub reply : reply_of (map_at changes r.point) r.call ≡ Some r.reply
  pub within : IsWithin (length changes) r

-- where the map answered it
abbrev pub IsAnsweredRight : List Change → Record → Type 0
IsAnsweredRight changes r = is_answer r ≡ true → IsRight changes r

-- a changing record whose change has number n or more
abbrev pub is_change_late : ℕ → Record → Bool
is_change_late n r = is_change r.reply && nat_le n r.point

-- each change, from the n-th on, is that of the one changing record of its number
abbrev pub Matches : ℕ → List Change → List Record → Type 0
Matches n [] records = AllByRecursion (λ r. is_change_late n r ≡ false) records
Matches n (change ∷ changes) records =
    (map told (filter (is_change_at n) records) ≡ (n, Some change) ∷ []) × Matches (n + 1) changes records

-- facts of each record alone and of each change alone: from them a legal history follows, and one record more keeps them
pub record IsFounded (changes : List Change) (records : List Record) : Type 0 where
  pub right : AllByRecursion (IsAnsweredRight changes) records
  pub matched : Matches 0 changes records
  pub clients : in_order records ≡ true

-- the client of r made its calls in s before r
abbrev pub IsAfter : Record → Record → Type 0
IsAfter r s = s.client ≡ r.client → (s.number < r.number) × (s.hi ≤ r.lo)

-- no two changing records have one point
abbrev pub AreApart : Record → Record → Type 0
AreApart r s = is_change r.reply ≡ true → is_change s.reply ≡ true → r.point ≢ s.point

-- the change at a changing record's point is its own
abbrev pub IsMade : List Change → Record → Type 0
IsMade changes r = is_change r.reply ≡ true → (r.point < length changes) × (slice_get changes r.point ≡ change_of r.call)

-- a record among records
abbrev pub Has : List Record → Record → Type 0
Has [] r = ⊥
Has (x ∷ xs) r = (x ≡ r) ⊎ Has xs r

-- R holds of each two records, the first of which stands before the second
abbrev pub EachPair : (Record → Record → Type 0) → List Record → Type 0
EachPair R [] = Unit {0}
EachPair R (r ∷ rs) = AllByRecursion (R r) rs × EachPair R rs
