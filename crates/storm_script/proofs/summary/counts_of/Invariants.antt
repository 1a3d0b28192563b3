use Rattle.std.proofs.Common.{◌≡◌, ℕ, ◌<◌, ◌≤◌, take, length, get_or}
use Rattle.storm_script.specs.Summary.{replies_at}
use Rattle.storm_script.proofs.summary.counts_of.Given as goal

-- the counts of the calls so far
abbrev pub invariant-loop-i : goal.invariant-loop-i
invariant-loop-i l = record {
  places : length l.counts ≡ 12;
  counts : (place : ℕ) → place < 12 → get_or l.counts place 0 ≡ replies_at (take l.i l.lines.items) place;
  few : (place : ℕ) → place < 12 → get_or l.counts place 0 ≤ l.i;
}
