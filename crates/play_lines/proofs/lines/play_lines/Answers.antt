use Rattle.std.proofs.Common.{ℕ, ◌<◌, length, refl, sym, subst, arith}
use Rattle.std.proofs.lemmas.Option.{slice_get_read}
use Rattle.std.specs.List.{AllByRecursion}
use Rattle.play_lines.specs.PlayLines.{AreOf}
use Rattle.play_lines.proofs.Listing.{client-done}
use Rattle.play_lines.proofs.lines.play_lines.Goals as goal

pub push_answered-requires : goal.push_answered-requires
push_answered-requires c =
    let lists = c.in_ok-lists.lists.items in
    let client = c.loop-client.client in
    let number = c.in_ok-lists.ensures.number in
    let low : client < length lists = omega (arith, number, c.loop-client-test.true) in
    let own = c.in_ok-lists.ensures.listed client c.index.result.now (slice_get_read lists (length lists) client c.index.result.now refl low c.index.ensures) in
    subst (AllByRecursion (λ (place : ℕ). place < length c.args.records.now.items)) (sym c.as_slice.ensures) own.within

pub loop-client-preserved : goal.loop-client-preserved
loop-client-preserved c =
    let records = c.args.records.now.items in
    let lists = c.in_ok-lists.lists.items in
    let client = c.loop-client.client in
    let number = c.in_ok-lists.ensures.number in
    let low : client < length lists = omega (arith, number, c.loop-client-test.true) in
    let own = c.in_ok-lists.ensures.listed client c.index.result.now (slice_get_read lists (length lists) client c.index.result.now refl low c.index.ensures) in
    client-done records c.args.unfinished.now client c.loop-client.lines.items c.push_answered.new.lines.items c.push_open.new.lines.items _ c.as_slice.result.now c.loop-client-test.true
    (subst (AreOf records (length records) client) (sym c.as_slice.ensures) own) c.in_ok-push_answered.ensures c.in_ok-push_open.ensures c.loop-client.invariant
