-- What is proved of whole calls.
use Rattle.std.specs.Prelude.{ℕ, ◌^◌, ◌<◌, ◌≤◌, List, reverse}
use Rattle.kv_block.specs.Bytes.{AreBytes}
use Rattle.kv_block.specs.Packing.{IsPair}
use Rattle.kv_block.specs.declared.changes.Change.{Change}
use Rattle.map_model.specs.declared.calls.Call.{Call}
use Rattle.map_model.specs.declared.calls.Call.TheVariants.{Insert, Search, Update, Delete, Resize}
use Rattle.map_model.specs.Machine.{key_of}
use Rattle.verb_log.specs.Tables.{Before}
use Rattle.verbs.specs.Logs.{Entries}
use Rattle.verbs.specs.Programs.{goes_on}
use Rattle.verbs.specs.Calls.{SafeCall}
use Rattle.race_laws.specs.Setting.{Setting, hash}
use Rattle.race_laws.specs.Legal.{IsLegal}
use Rattle.log_facts.specs.Among.{changes_of}
use Rattle.pass_text.specs.Bound.{most_verbs}
use Rattle.call_laws.specs.Judged.{judged}
use Rattle.call_texts.specs.State.{State, CallEnd, state_after}
use Rattle.call_texts.specs.Text.{part_of, begin_call}
use Rattle.call_texts.specs.Bound.{call_most}
use Rattle.whole_calls.specs.Fits.{StateFits}
use Rattle.whole_calls.specs.Right.{Right}

-- keys and values within their limits
abbrev pub IsCall : Call → Type 0
IsCall (Insert key value) = IsPair (record { key = key; value = value })
IsCall (Search key) = AreBytes key
IsCall (Update key value) = IsPair (record { key = key; value = value })
IsCall (Delete key) = AreBytes key
IsCall (Resize key) = AreBytes key

-- the call is safe within so many acts and is answered rightly: whatever others add before each of its verbs, each of its entries may
-- follow, and none but that of its last verb changes the map
abbrev pub IsSafeWithin : ℕ → Setting → ℕ → State → Call → Entries → Type 0
IsSafeWithin most s c k call l =
    SafeCall (judged s c part_of) most (changes_of s l) l (goes_on part_of (begin_call k (hash s (key_of call)) call)) (Right s c call k l)

-- the state that a call leaves fits the log again
abbrev pub LeavesFitting : Type 0
LeavesFitting = (s : Setting) (c : ℕ) (k : State) (call : Call) (first l : Entries) (before : List Change) (e : CallEnd) → IsLegal s l → Before (reverse first) (reverse l) → StateFits s c (reverse first) k → Right s c call k first before l e → StateFits s c (reverse l) (state_after k e)

-- a call with keys and values within their limits may begin: its key's hash is a word, it may lose a swap, and no more than 64, and
-- the state fits the log
pub record MayCall (s : Setting) (c : ℕ) (k : State) (call : Call) (l : Entries) : Type 0 where
  pub is_call : IsCall call
  pub small : hash s (key_of call) < 2 ^ 64
  pub some : 1 ≤ k.tries
  pub few : k.tries ≤ 64
  pub fits : StateFits s c (reverse l) k

-- each search is safe within P
abbrev pub SearchIsSafe : Type 0
SearchIsSafe = (s : Setting) (c : ℕ) (k : State) (key : List ℕ) (l : Entries) → IsLegal s l → MayCall s c k (Search key) l → IsSafeWithin (most_verbs s.geometry.max_depth) s c k (Search key) l

-- each delete and each update is safe within B
abbrev pub DeleteIsSafe : Type 0
DeleteIsSafe = (s : Setting) (c : ℕ) (k : State) (key : List ℕ) (l : Entries) → IsLegal s l → MayCall s c k (Delete key) l → IsSafeWithin (call_most s.geometry k.tries) s c k (Delete key) l

abbrev pub UpdateIsSafe : Type 0
UpdateIsSafe = (s : Setting) (c : ℕ) (k : State) (key value : List ℕ) (l : Entries) → IsLegal s l → MayCall s c k (Update key value) l → IsSafeWithin (call_most s.geometry k.tries) s c k (Update key value) l

-- each insert is safe within B, with or without a ticket
abbrev pub InsertIsSafe : Type 0
InsertIsSafe = (s : Setting) (c : ℕ) (k : State) (key value : List ℕ) (l : Entries) → IsLegal s l → MayCall s c k (Insert key value) l → IsSafeWithin (call_most s.geometry k.tries) s c k (Insert key value) l

-- each resize is safe within B, with or without a ticket
abbrev pub ResizeIsSafe : Type 0
ResizeIsSafe = (s : Setting) (c : ℕ) (k : State) (key : List ℕ) (l : Entries) → IsLegal s l → MayCall s c k (Resize key) l → IsSafeWithin (call_most s.geometry k.tries) s c k (Resize key) l
