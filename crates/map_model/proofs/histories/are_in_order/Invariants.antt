use Rattle.std.proofs.Common.{◌≡◌, ℕ, ◌≤◌, true, drop, length, eqb, find}
use Rattle.std.specs.BTreeMap as tree
use Rattle.std.specs.Ordering.{nat_cmp}
use Rattle.map_model.specs.History.{in_order}
use Rattle.map_model.proofs.histories.are_in_order.Given as goal

-- the records from i on are in order, and each client's first among them is at hand
abbrev pub invariant-loop-i : goal.invariant-loop-i
invariant-loop-i l = record {
  upto : l.i ≤ length l.records;
  ordered : in_order (drop l.i l.records) ≡ true;
  nexts : (client : ℕ) → tree.get nat_cmp l.nexts client ≡ find (λ s. eqb s.client client) (drop l.i l.records);
}

abbrev pub decreases-loop-i : goal.decreases-loop-i
decreases-loop-i l = l.i
