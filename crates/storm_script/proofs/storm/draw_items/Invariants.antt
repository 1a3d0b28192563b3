use Rattle.std.proofs.Common.{◌≡◌, ◌-◌, ◌++◌, map}
use Rattle.storm_script.specs.Draws.{drawn_numbers}
use Rattle.storm_script.specs.Storm.{storm_item}
use Rattle.storm_script.proofs.storm.draw_items.Given as goal

-- the items so far, and those that are left to draw
abbrev pub invariant-loop-i : goal.invariant-loop-i
invariant-loop-i l =
    l.items.items ++ map (storm_item l.clients) (drawn_numbers (l.count - l.i) l.draws.state) ≡ map (storm_item l.clients) (drawn_numbers l.count l.fn.draws.state)
