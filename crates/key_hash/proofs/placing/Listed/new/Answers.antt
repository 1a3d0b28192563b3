use Rattle.std.proofs.Common.{[], refl, sym, subst}
use Rattle.std.specs.List.{IsDistinct}
use Rattle.key_hash.specs.Placing.{AreDistinct}
use Rattle.key_hash.proofs.placing.Listed.new.Goals as goal

-- no pair, and an empty map
none_distinct : AreDistinct []
unfolding IsDistinct
none_distinct = tt

pub invariant_of-result : goal.invariant_of-result
invariant_of-result c =
    (subst AreDistinct (sym c.new.ensures.items) none_distinct, λ key. rw c.new-2.ensures.empty (rw c.new.ensures.items refl))
