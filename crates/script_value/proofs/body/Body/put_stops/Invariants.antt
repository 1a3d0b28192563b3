use Rattle.std.proofs.Common.{◌≡◌, ◌++◌, ◌<◌, length, map}
use Rattle.std.specs.List.{AllByRecursion}
use Rattle.script_value.specs.Content.{names_of}
use Rattle.script_value.specs.ScriptText.{stop_words, text_of}
use Rattle.script_value.proofs.body.Body.put_stops.Given as goal

-- the lines so far, and those that are left
abbrev pub invariant-loop-client : goal.invariant-loop-client
invariant-loop-client l = record {
  known : AllByRecursion (λ e. e.0 < length l.self.clients) l.stops;
  same : l.out.items ++ text_of (map (stop_words (names_of l.self)) l.stops) ≡ l.fn.out.items ++ text_of (map (stop_words (names_of l.self)) l.self.stops);
}

abbrev pub decreases-loop-client : goal.decreases-loop-client
decreases-loop-client l = length l.stops
