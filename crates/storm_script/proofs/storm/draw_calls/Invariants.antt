use Rattle.std.proofs.Common.{◌≡◌, ◌-◌, ◌++◌, map}
use Rattle.storm_script.specs.Draws.{drawn_numbers, state_after}
use Rattle.storm_script.specs.Storm.{storm_call}
use Rattle.storm_script.proofs.storm.draw_calls.Given as goal

-- the calls so far, and those that are left to draw
abbrev pub invariant-loop-i : goal.invariant-loop-i
invariant-loop-i l = record {
  calls : l.calls.items ++ map storm_call (drawn_numbers (l.count - l.i) l.draws.state) ≡ map storm_call (drawn_numbers l.count l.fn.draws.state);
  state : state_after (l.count - l.i) l.draws.state ≡ state_after l.count l.fn.draws.state;
}
