-- Calls, over the whole log of a memory that was closed.
use Rattle.std.specs.Prelude.{◌≡◌, ◌≢◌, ℕ, ◌+◌, ◌<◌, ◌≤◌, true, List, length, slice_get, Some, None}
use Rattle.kv_block.specs.declared.changes.Change.{Change}
use Rattle.map_model.specs.declared.calls.Call.{Call}
use Rattle.map_model.specs.Machine.{reply_of, map_at, change_of, is_change, is_quiet}
use Rattle.verbs.specs.Logs.{Entries, Begins, Lengthened}
use Rattle.race_laws.specs.Setting.{Setting}
use Rattle.race_laws.specs.Legal.{MayFollow}
use Rattle.log_facts.specs.Among.{changes_of}
use Rattle.client_seat.specs.Rule.{OfSeats}
use Rattle.client_seat.specs.Seated.{Seated}
use Rattle.call_texts.specs.State.{State}
use Rattle.call_machine.specs.declared.answer.Answer.{Answer}
use Rattle.running_client.specs.Points.{Replied}
use Rattle.run_laws.specs.Lives.{Lives}

-- over the changes of a whole log: the reply is a single map's at a point between two numbers of changes; of a call that changed the
-- map, at the last of them before the second
pub record IsRightBetween (changes : List Change) (low high : ℕ) (call : Call) (a : Answer) : Type 0 where
  pub order : low ≤ high
  pub within : high ≤ length changes
  pub quiet : is_quiet a.reply ≡ true → (n : ℕ) × (low ≤ n) × (n ≤ high) × (reply_of (map_at changes n) call ≡ Some a.reply)
  pub changed : is_change a.reply ≡ true → (n : ℕ) × (low ≤ n) × (n + 1 ≡ high) × (slice_get changes n ≡ change_of call) × (reply_of (map_at changes n) call ≡ Some a.reply)

-- a reply that is right between two fronts is so over the changes of each log that the second begins
abbrev pub RightOverAll : Type 0
RightOverAll = (s : Setting) (c : ℕ) (state : State) (call : Call) (before front log : Entries) (a : Answer) → Begins front log → Replied s c state call before front a
    → IsRightBetween (changes_of s log) (length (changes_of s before)) (length (changes_of s front)) call a

-- this has met, of each seat, a front with all the entries that the seat made in the log
abbrev pub HasMet : Setting → (ℕ → Type 0) → Entries → Entries → Type 0
HasMet s Whose log seen = (c : ℕ) → Whose c → (front : Entries) × (Lengthened (MayFollow s) c front log × Begins front seen)

-- a front that has met all seats is the whole log
abbrev pub MetAll : Type 0
MetAll = (s : Setting) (seats : ℕ) (log seen : Entries) → OfSeats seats log → Begins seen log → HasMet s (λ c. c < seats) log seen → log ≡ seen

-- what a last client, which has met all others and then only looks, learns by its calls is a single map's after all changes of the log
abbrev pub LastLooks : Type 0
LastLooks = (s : Setting) (seats : ℕ) (log : Entries) (begin last : Seated) (calls : List Call) (first kept : State) (n : ℕ) (answers : List Answer)
    → OfSeats seats log → begin.home.setting ≡ s → HasMet s (λ c. (c < seats) × (c ≢ begin.client)) log begin.front → Lengthened (MayFollow s) begin.client last.front log
    → Lives calls begin first n last kept answers → ((i : ℕ) (call : Call) → slice_get calls i ≡ Some call → change_of call ≡ None)
    → (log ≡ last.front) × ((i : ℕ) (call : Call) (a : Answer) → slice_get calls i ≡ Some call → slice_get answers i ≡ Some a → is_quiet a.reply ≡ true
    → reply_of (map_at (changes_of s log) (length (changes_of s log))) call ≡ Some a.reply)
