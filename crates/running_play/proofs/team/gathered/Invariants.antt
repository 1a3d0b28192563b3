use Rattle.std.proofs.Common.{◌≡◌, ◌++◌, length, reverse}
use Rattle.running_play.specs.Gathered.{all_ok}
use Rattle.running_play.proofs.team.gathered.Given as goal

abbrev pub invariant-loop-result : goal.invariant-loop-result
invariant-loop-result l = l.initial.results.items ≡ l.results.items ++ all_ok (reverse l.all.items)

abbrev pub decreases-loop-result : goal.decreases-loop-result
decreases-loop-result l = length l.results.items
