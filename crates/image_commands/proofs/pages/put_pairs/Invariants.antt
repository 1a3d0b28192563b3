use Rattle.std.proofs.Common.{◌≡◌, ◌+◌, ◌≤◌, ◌++◌, ℕ, List, length}
use Rattle.std.specs.List.{flat_map}
use Rattle.std.specs.FinMap as fin
use Rattle.play_report.specs.Report.{map_line}
use Rattle.image_commands.specs.Pages.{Moves}
use Rattle.image_commands.proofs.pages.put_pairs.Given as goal

-- the lines so far went to the sink by way of the page, and those of the pairs that are left are the rest
abbrev pub invariant-loop-key : goal.invariant-loop-key
invariant-loop-key g l = record {
  text : List ℕ;
  moved : Moves (g.K.Sink.taken l.fn.sink) (g.K.Sink.taken l.sink) l.page.items text;
  rest : text ++ flat_map map_line l.pairs ≡ l.fn.page.items ++ flat_map map_line (fin.entries l.map);
  kept : length l.page.items + l.page.room ≡ length l.fn.page.items + l.fn.page.room;
  counted : g.K.Sink.faults l.fn.sink ≤ g.K.Sink.faults l.sink;
}

abbrev pub decreases-loop-key : goal.decreases-loop-key
decreases-loop-key g l = length l.pairs
