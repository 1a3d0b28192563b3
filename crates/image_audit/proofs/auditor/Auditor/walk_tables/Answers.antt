use Rattle.std.proofs.Common.{rules, ◌<◌, ◌≤◌, length}
use Rattle.image_audit.proofs.Loops.{through_start, small_next, smaller, through_none, through_some, through_end}
use Rattle.image_audit.proofs.auditor.Auditor.walk_tables.Goals as goal

pub walk_table-requires-clause-table : goal.walk_table-requires-clause-table
walk_table-requires-clause-table g c κs within = let a = c.len.ensures in let b = c.loop-index-test.true in
    let low : c.loop-index.index < length c.loop-index.self.tables.items = search rules in small_next _ _ _ _ c.loop-index.index _ _ _ c.loop-index.invariant c.index.result.now low c.index.ensures

pub returns-in-Some-clause-walked : goal.returns-in-Some-clause-walked
returns-in-Some-clause-walked g c = let a = c.len.ensures in let b = c.loop-index-test.true in
    let low : c.loop-index.index < length c.loop-index.self.tables.items = search rules in through_some _ _ _ _ c.loop-index.index _ _ _ c.loop-index.invariant c.index.result.now low c.index.ensures c.in_ok-stop.stop c.in-Some.at _ _ _ c.in-Some.is c.in_ok-stop.ensures.walked

pub loop-index-preserved : goal.loop-index-preserved
loop-index-preserved g c = let a = c.len.ensures in let b = c.loop-index-test.true in
    let low : c.loop-index.index < length c.loop-index.self.tables.items = search rules in through_none _ _ _ _ c.loop-index.index _ _ _ c.loop-index.invariant c.index.result.now low c.index.ensures c.in_ok-stop.stop _ _ _ c.in-None.is c.in_ok-stop.ensures.walked c.in_ok-stop.ensures.small

pub loop-index-smaller : goal.loop-index-smaller
loop-index-smaller g c = let a = c.len.ensures in let b = c.loop-index-test.true in
    let low : c.loop-index.index < length c.loop-index.self.tables.items = search rules in smaller _ _ _ _ c.loop-index.index _ _ _ c.loop-index.invariant low

pub returns-clause-walked : goal.returns-clause-walked
returns-clause-walked g c = let a = c.len.ensures in let b = c.loop-index-test.false in
    let low : length c.loop-index.self.tables.items ≤ c.loop-index.index = search rules in through_end _ _ _ _ c.loop-index.index _ _ _ c.loop-index.invariant low

pub loop-index-init : goal.loop-index-init
loop-index-init g c = through_start _ _ _ _ _ _ _ c.requires.tables c.requires.cells c.requires.unmarked c.requires.blocks c.requires.small

pub returns-in-Some-clause-small : goal.returns-in-Some-clause-small
returns-in-Some-clause-small g c = c.in_ok-stop.ensures.small c.loop-index.invariant.small
