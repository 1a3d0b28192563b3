-- The records of a run, from the lines of each client and the changes of the log.
use Rattle.std.specs.Prelude.{◌≡◌, ◌≢◌, ℕ, ◌+◌, ◌<◌, ◌≤◌, Bool, true, false, List, [], ◌∷◌, ◌++◌, length, slice_get, Some}
use Rattle.std.specs.List.{AllByRecursion}
use Rattle.kv_block.specs.declared.changes.Change.{Change}
use Rattle.map_model.specs.declared.calls.Call.{Call}
use Rattle.map_model.specs.declared.calls.Reply.{Reply}
use Rattle.map_model.specs.declared.records.Record.{Record}
use Rattle.map_model.specs.Machine.{reply_of, map_at, change_of, is_change, is_quiet}
use Rattle.map_model.specs.Moments.{IsFirst}
use Rattle.map_model.specs.History.{IsLegal}

-- a line of a client: what was asked, and what was answered
pub record Line : Type 0 where
  pub call : Call
  pub reply : Reply

-- client c made no change with a number from `low` on, and below `high`; `owners` has the client of each change
abbrev pub NoneOf : List ℕ → ℕ → ℕ → ℕ → Type 0
NoneOf owners c low high = (p : ℕ) → low ≤ p → p < high → slice_get owners p ≢ Some c

abbrev pub NoneFrom : List ℕ → ℕ → ℕ → Type 0
NoneFrom owners c low = (p : ℕ) → low ≤ p → slice_get owners p ≢ Some c

-- the numbers of the client's changes from `low` on, in order
abbrev pub AreOwn : List ℕ → ℕ → ℕ → List ℕ → Type 0
AreOwn owners c low [] = NoneFrom owners c low
AreOwn owners c low (q ∷ own) = (low ≤ q) × (slice_get owners q ≡ Some c) × NoneOf owners c low q × AreOwn owners c (q + 1) own

-- the client's next change, or a number past all changes, so many
abbrev pub next_own : ℕ → List ℕ → ℕ
next_own count [] = count + 1
next_own count (q ∷ own) = q

-- its changes after the line, which had one where it is a changing line
abbrev pub rest_own : Bool → List ℕ → List ℕ
rest_own false own = own
rest_own true [] = []
rest_own true (q ∷ own) = own

-- The record of client c's line with this number. `lo` is the `hi` of the line before it. A changing line's point is the client's next
-- change, and its `hi` one more; a quiet line's point is the least from `lo` on at which the map gives its reply, and its `hi`; the
-- point of any other line is `lo`.
pub record IsRecord (changes : List Change) (c number lo : ℕ) (own : List ℕ) (line : Line) (r : Record) : Type 0 where
  pub client : r.client ≡ c
  pub counted : r.number ≡ number
  pub call : r.call ≡ line.call
  pub reply : r.reply ≡ line.reply
  pub low : r.lo ≡ lo
  pub changed : is_change line.reply ≡ true → (r.point ≡ next_own (length changes) own) × (r.hi ≡ r.point + 1)
  pub left : is_change line.reply ≡ false → r.hi ≡ r.point
  pub quiet : is_quiet line.reply ≡ true → IsFirst changes lo line.call line.reply r.point
  pub other : is_change line.reply ≡ false → is_quiet line.reply ≡ false → r.point ≡ lo

-- the records of a client's lines, where these are its changes
abbrev pub AreRecords : List Change → ℕ → ℕ → ℕ → List ℕ → List Line → List Record → Type 0
AreRecords changes c number lo own [] [] = Unit {0}
AreRecords changes c number lo own [] (r ∷ rs) = ⊥
AreRecords changes c number lo own (line ∷ lines) [] = ⊥
AreRecords changes c number lo own (line ∷ lines) (r ∷ rs) = IsRecord changes c number lo own line r × AreRecords changes c (number + 1) r.hi (rest_own (is_change line.reply) own) lines rs

-- What is known of a call of client c: the client had seen `began` changes before it and `ended` after it, and `since` after its call
-- before. Between the two calls it made no change. A call with another reply made none; a quiet reply was right at a moment of the
-- call; and with a changing reply the last change that the client saw then was the call's, and its first since the call began.
pub record IsCall (changes : List Change) (owners : List ℕ) (c since began ended : ℕ) (line : Line) : Type 0 where
  pub after : since ≤ began
  pub order : began ≤ ended
  pub within : ended ≤ length changes
  pub idle : NoneOf owners c since began
  pub left : is_change line.reply ≡ false → NoneOf owners c began ended
  pub quiet : is_quiet line.reply ≡ true → (n : ℕ) × (began ≤ n) × (n ≤ ended) × (reply_of (map_at changes n) line.call ≡ Some line.reply)
  pub changed : is_change line.reply ≡ true → (p : ℕ) × (began ≤ p) × (p + 1 ≡ ended) × NoneOf owners c began p × (slice_get owners p ≡ Some c)
      × (slice_get changes p ≡ change_of line.call) × (reply_of (map_at changes p) line.call ≡ Some line.reply)

-- the calls of a client, one after another, and no change of it after them
abbrev pub Went : List Change → List ℕ → ℕ → ℕ → List Line → Type 0
Went changes owners c since [] = NoneFrom owners c since
Went changes owners c since (line ∷ lines) = (began : ℕ) × (ended : ℕ) × IsCall changes owners c since began ended line × Went changes owners c ended lines

-- those of each client, from number c on
abbrev pub EachWent : List Change → List ℕ → ℕ → List (List Line) → Type 0
EachWent changes owners c [] = Unit {0}
EachWent changes owners c (lines ∷ more) = Went changes owners c 0 lines × EachWent changes owners (c + 1) more

-- the records of the lines of each client, which count from 1
abbrev pub EachRecorded : List Change → List ℕ → ℕ → List (List Line) → List (List Record) → Type 0
EachRecorded changes owners c [] [] = Unit {0}
EachRecorded changes owners c [] (rs ∷ all) = ⊥
EachRecorded changes owners c (lines ∷ more) [] = ⊥
EachRecorded changes owners c (lines ∷ more) (rs ∷ all) =
    ((own : List ℕ) × AreOwn owners c 0 own × AreRecords changes c 1 0 own lines rs) × EachRecorded changes owners (c + 1) more all

-- one client after another
abbrev pub joined : List (List Record) → List Record
joined [] = []
joined (rs ∷ all) = rs ++ joined all

-- the records stand in a legal history
abbrev pub RecordsStand : Type 0
RecordsStand = (changes : List Change) (owners : List ℕ) (lines : List (List Line)) (records : List (List Record))
    → length owners ≡ length changes → AllByRecursion (λ c. c < length lines) owners
    → EachWent changes owners 0 lines → EachRecorded changes owners 0 lines records → IsLegal changes (joined records)

-- there are such records
abbrev pub RecordsExist : Type 0
RecordsExist = (changes : List Change) (owners : List ℕ) (lines : List (List Line)) → length owners ≡ length changes → EachWent changes owners 0 lines
    → (records : List (List Record)) × EachRecorded changes owners 0 lines records

-- and no others
abbrev pub RecordsOne : Type 0
RecordsOne = (changes : List Change) (owners : List ℕ) (lines : List (List Line)) (records more : List (List Record))
    → EachRecorded changes owners 0 lines records → EachRecorded changes owners 0 lines more → records ≡ more
