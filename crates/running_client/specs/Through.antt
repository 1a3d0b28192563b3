-- One call of a client that may have a cache of blocks.
use Rattle.std.specs.Prelude.{◌≡◌, ℕ, ◌≤◌, List, [], length, Option, Some, None}
use Rattle.map_model.specs.declared.calls.Call.{Call}
use Rattle.client_seat.specs.declared.view.Deed.{Deed}
use Rattle.client_seat.specs.Seated.{Seated}
use Rattle.block_cache.specs.Cache.{Cache}
use Rattle.call_texts.specs.State.{State}
use Rattle.call_machine.specs.declared.answer.Answer.{Answer}
use Rattle.running_client.specs.Called.{Called, Stopped}
use Rattle.running_client.specs.Cached.{acts_of_call, Through, Filled}

-- a seat with this trace in the place of its own
abbrev pub with_trace : Seated → List Deed → Seated
with_trace seat deeds = record { home = seat.home; client = seat.client; front = seat.front; trace = deeds }

-- the call was answered, as `Called` says with its filled trace in the place of the seat's: a read that the cache served stands there
-- as a read of that moment. The seat's own trace has the verbs that the cache does not serve, and the cache has gone on by all
pub record CalledThrough (seat : Seated) (cache : Option Cache) (state : State) (call : Call) (next : Seated) (after : Option Cache) (kept : State) (a : Answer) : Type 0 where
  pub deeds : List Deed
  pub called : Called (with_trace seat []) state call (with_trace next deeds) kept a
  pub filled : Filled seat called.trace next deeds
  pub through : Through seat cache (acts_of_call seat.home.setting state call called.trace) next after

-- the call was left with no answer, as `Stopped` says with its filled trace
pub record StoppedThrough (seat : Seated) (cache : Option Cache) (state : State) (call : Call) (next : Seated) (after : Option Cache) : Type 0 where
  pub deeds : List Deed
  pub stopped : Stopped (with_trace seat []) state call (with_trace next deeds)
  pub filled : Filled seat stopped.trace next deeds
  pub through : Through seat cache (acts_of_call seat.home.setting state call stopped.trace) next after

-- so many verbs of the call were done or served, at most so many as it might: it was answered with them, or left after just as many
abbrev pub CameThrough : Seated → Option Cache → State → Call → ℕ → Seated → Option Cache → State → Option Answer → ℕ → Type 0
CameThrough seat cache state call most next after kept (Some a) verbs = (x : CalledThrough seat cache state call next after kept a) × (length x.called.trace ≡ verbs) × (verbs ≤ most)
CameThrough seat cache state call most next after kept None verbs = (x : StoppedThrough seat cache state call next after) × (length x.stopped.trace ≡ verbs) × (verbs ≡ most)
