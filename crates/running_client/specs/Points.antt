-- When a call on running words is answered rightly, between the front before it and the front after it.
use Rattle.std.specs.Prelude.{◌≡◌, ◌≢◌, ℕ, ◌≤◌, true, false, [], ◌∷◌, ◌++◌, length, reverse, Some}
use Rattle.kv_block.specs.declared.changes.Change.{Change}
use Rattle.map_model.specs.declared.calls.Call.{Call}
use Rattle.map_model.specs.Machine.{reply_of, map_at, change_of, is_change, is_quiet}
use Rattle.verb_log.specs.declared.entry.Entry.{Entry}
use Rattle.verbs.specs.Logs.{Entries, Begins}
use Rattle.race_laws.specs.Setting.{Setting}
use Rattle.race_laws.specs.Legal.{IsLegal}
use Rattle.log_facts.specs.Among.{changes_of}
use Rattle.call_texts.specs.State.{State}
use Rattle.call_machine.specs.declared.answer.Answer.{Answer}
use Rattle.whole_calls.specs.Right.{Blocks, AtPoint, WasRead, Cause}

-- from the log l on the client has made no change of the map: each entry since then is of another, or changes nothing
pub data MadeNone (s : Setting) (c : ℕ) (l : Entries) : Entries → Type 0 where
  none_yet : MadeNone s c l l
  by_another : {m : Entries} (e : Entry) → MadeNone s c l m → e.client ≢ c → MadeNone s c l (m ++ e ∷ [])
  by_itself : {m : Entries} (e : Entry) → MadeNone s c l m → changes_of s (m ++ e ∷ []) ≡ changes_of s m → MadeNone s c l (m ++ e ∷ [])

-- the call changed the map, by the last entry of the front after it: the client's own, and its only change since the front before.
-- The change is the call's. The number of changes before it is the call's point: there a single map gives this reply. The answer
-- tells the blocks of the entry's old and new word
pub record Changed (s : Setting) (c : ℕ) (call : Call) (before front : Entries) (a : Answer) : Type 0 where
  pub until : Entries
  pub entry : Entry
  pub last : front ≡ until ++ entry ∷ []
  pub client : entry.client ≡ c
  pub none : MadeNone s c before until
  pub change : Change
  pub is : change_of call ≡ Some change
  pub made : changes_of s front ≡ changes_of s until ++ change ∷ []
  pub since : length (changes_of s before) ≤ length (changes_of s until)
  pub answers : reply_of (map_at (changes_of s front) (length (changes_of s until))) call ≡ Some a.reply
  pub blocks : Blocks s c call entry a.reply a.from a.to

-- the call of client c, which kept this, had this answer between the front before it and the front after it
pub record Replied (s : Setting) (c : ℕ) (state : State) (call : Call) (before front : Entries) (a : Answer) : Type 0 where
  pub begins : Begins before front
  pub legal : IsLegal s front
  -- a reply of a change: the client made one, the call's
  pub changed : is_change a.reply ≡ true → Changed s c call before front a
  -- any other reply: it made none
  pub left : is_change a.reply ≡ false → MadeNone s c before front
  -- and where it is one of the map, a single map gives it at a point between the two fronts
  pub quiet : is_quiet a.reply ≡ true → AtPoint s call before front a.reply
  -- what was found was read in the block that is told, at a position between the two
  pub read : WasRead s call (reverse before) (reverse front) a.reply a.from a.to
  -- a refusal has its cause, at positions between the two
  pub cause : Cause s c call state (reverse before) (reverse front) a.reply

-- what a client has seen by a note that it met stands before the point of each later call: the note's front begins the front before
-- the call, and so no change of it comes after the point
abbrev pub MetIsSeen : Type 0
MetIsSeen = (s : Setting) (c : ℕ) (call : Call) (note before front : Entries) (a : Answer) → Begins note before
    → ((x : Changed s c call before front a) → length (changes_of s note) ≤ length (changes_of s x.until))
    × ((x : AtPoint s call before front a.reply) → length (changes_of s note) ≤ x.point)
