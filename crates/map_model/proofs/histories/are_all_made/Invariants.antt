use Rattle.std.proofs.Common.{◌≡◌, ◌≤◌, ◌↔◌, drop, length}
use Rattle.map_model.specs.History.{made, numbered}
use Rattle.map_model.proofs.histories.are_all_made.Given as goal

-- the records that are left make the changes that are left just where all make all
abbrev pub invariant-loop-answered : goal.invariant-loop-answered
invariant-loop-answered l = record {
  upto : l.n ≤ length l.changes;
  left : (made (drop l.answered-index l.history) ≡ numbered l.n (drop l.n l.changes)) ↔ (made l.history ≡ numbered 0 l.changes);
}
