use Rattle.std.proofs.Common.{rules, ◌<◌, ◌≤◌, length}
use Rattle.quiet_walk.proofs.ListedTables.{next_small, listed_more, listed_smaller, listed_end}
use Rattle.quiet_walk.proofs.listing.list_tables.Goals as goal

pub add_children-requires : goal.add_children-requires
add_children-requires g c = let a = c.len.ensures in let b = c.loop-index-test.true in
    let low : c.loop-index.index < length c.loop-index.list.items = search rules in
    next_small _ _ c.loop-index.index _ c.loop-index.invariant c.index.result.now low c.index.ensures c.requires

pub loop-index-smaller : goal.loop-index-smaller
loop-index-smaller g c = let a = c.len.ensures in let b = c.loop-index-test.true in
    let low : c.loop-index.index < length c.loop-index.list.items = search rules in
    listed_smaller _ _ c.loop-index.index _ c.loop-index.invariant c.index.result.now low c.index.ensures

pub loop-index-preserved : goal.loop-index-preserved
loop-index-preserved g c = let a = c.len.ensures in let b = c.loop-index-test.true in
    let low : c.loop-index.index < length c.loop-index.list.items = search rules in
    listed_more _ _ c.loop-index.index _ c.loop-index.invariant c.index.result.now low c.index.ensures _ c.in_ok-add_children.ensures

pub returns : goal.returns
returns g c = let a = c.len.ensures in let b = c.loop-index-test.false in
    let high : length c.loop-index.list.items ≤ c.loop-index.index = search rules in
    listed_end _ _ c.loop-index.index _ c.loop-index.invariant high
