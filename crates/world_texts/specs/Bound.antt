-- How many verbs a call does at most.
use Rattle.std.specs.Prelude.{ℕ}
use Rattle.map_model.specs.declared.calls.Call.{Call}
use Rattle.map_model.specs.declared.calls.Call.TheVariants.{Insert, Search, Update, Delete, Resize}
use Rattle.pass_text.specs.Bound.{most_verbs}
use Rattle.call_texts.specs.State.{State}
use Rattle.call_texts.specs.Bound.{call_most}

-- so many verbs a call of a client with this state does at most: a search P, any other B
unfoldable pub most_acts : State → Call → ℕ
most_acts k (Search key) = most_verbs k.geometry.max_depth
most_acts k (Delete key) = call_most k.geometry k.tries
most_acts k (Update key value) = call_most k.geometry k.tries
most_acts k (Insert key value) = call_most k.geometry k.tries
most_acts k (Resize key) = call_most k.geometry k.tries
