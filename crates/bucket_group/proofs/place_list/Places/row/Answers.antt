use Rattle.bucket_group.proofs.PlaceRows.{row_is}
use Rattle.bucket_group.proofs.place_list.Places.row.Goals as goal

pub returns : goal.returns
returns c =
    let buckets = c.self.inside in
    rw (← c.self.view_is) (row_is buckets.first.main buckets.first.overflow buckets.second.main buckets.second.overflow)
