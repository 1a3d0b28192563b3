use Rattle.std.proofs.Common.{◌≡◌, ℕ, ◌≤◌, true, false, ltb, List, length, sym, subst, rules, tests}
use Rattle.std.specs.List.Sorted.{IsPartitionedBy, IsPartitionPoint}
use Rattle.std.proofs.lemmas.List.Sorted.{IsPartitionPoint-from_clause}
use Rattle.map_model.proofs.FirstMoment.{partitioned, partition_is}
use Rattle.map_model.proofs.timeline.count_below.Goals as goal

pub returns-clause-cut : goal.returns-clause-cut
returns-clause-cut c = λ xs ys e h g.
    let lo = c.args.lo in
    let i = c.partition_point.result in
    let cut = IsPartitionPoint-from_clause (λ p. ltb p lo) c.args.places.now i c.partition_point.ensures.partitioned
    (subst (λ (zs : List ℕ). IsPartitionedBy (λ p. ltb p lo) zs) (sym e) (partitioned xs ys lo h g)) (λ a r q k. search (rules, tests)) in
    partition_is xs ys lo i h g (subst (λ (zs : List ℕ). i ≤ length zs) e c.partition_point.ensures.bound)
    (subst (λ (zs : List ℕ). IsPartitionPoint (λ p. ltb p lo ≡ true) (λ p. ltb p lo ≡ false) zs i) e cut)
