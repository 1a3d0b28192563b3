use Rattle.std.proofs.Common.{◌∙◌, ap, arith, Some, length}
use Rattle.std.proofs.lemmas.Option.{slice_get-get_or}
use Rattle.bucket_group.specs.PlaceLists.{length-places_range, index-places}
use Rattle.bucket_group.proofs.place_list.Places.get.Goals as goal

pub bounds-buckets-i : goal.bounds-buckets-i
bounds-buckets-i c =
    let r = length-places_range c.self.inside.first.main c.self.inside.first.overflow c.self.inside.second.main c.self.inside.second.overflow in
    let e = ap length c.self.view_is in omega arith

pub returns-clause-place : goal.returns-clause-place
returns-clause-place c =
    let e = ap length c.self.view_is in
    rw (← c.self.view_is)
    (slice_get-get_or _ c.args.i 0 (omega arith)
    ∙ ap (λ w. Some w) (index-places c.self.inside.first.main c.self.inside.first.overflow c.self.inside.second.main c.self.inside.second.overflow c.args.i (omega arith)))
