use Rattle.std.proofs.Common.{◌≡◌, ◌+◌, ◌<◌, ◌≤◌, length, slice_set, sym, ap, subst, ◌∙◌, arith}
use Rattle.std.proofs.lemmas.List.{length-set}
use Rattle.play_lines.specs.PlayLines.{AreListed}
use Rattle.play_lines.proofs.Listing.{element-there, listed-none, listed-pushed, listed-past, listed-whole}
use Rattle.play_lines.proofs.lines.places_of.Goals as goal
use Rattle.play_lines.proofs.lines.places_of.Goals.{then-client-len+in_ok-push, else-client-len}

pub loop-place-init : goal.loop-place-init
loop-place-init c = record {
  number = c.in_ok-lists.ensures.number;
  listed = listed-none c.args.records.now.items c.in_ok-lists.lists.items c.in_ok-lists.ensures.empty;
}

pub loop-place-preserved : goal.loop-place-preserved
loop-place-preserved c =
    let records = c.args.records.now.items in
    let lists = c.loop-place.lists.items in
    let place = c.loop-place.place in
    let all = c.len-place-end.ensures.value in
    let low : place < length records = omega (arith, c.loop-place-test.true, all) in
    let found = element-there records place low in
    let client = c.client_at-client.ensures found.0 found.1 in
    let number = c.loop-place.invariant.number in
    let long = c.len.ensures in
    elim c.if-client-len.branch [
      | then-client-len+in_ok-push w ↦
          let set : c.if-client-len.lists.items ≡ slice_set lists c.client_at-client.result w.push.new.self = ap (λ ls. ls.items) w.lists-is in
          let within : c.client_at-client.result < length lists = omega (arith, w.if-client-len.true, long) in
          record {
            number = ap length set ∙ length-set lists c.client_at-client.result w.push.new.self ∙ number;
            listed = listed-pushed records lists c.if-client-len.lists.items place c.client_at-client.result found.0 w.index_mut.result.now w.push.new.self found.1 client within
                w.index_mut.ensures.value w.in_ok-push.ensures.appended set c.loop-place.invariant.listed;
          }
      | else-client-len w ↦
          let same : c.if-client-len.lists.items ≡ lists = ap (λ ls. ls.items) w.lists-is in
          let past : length lists ≤ found.0.client = subst (λ n. length lists ≤ n) client (omega (arith, w.if-client-len.false, long)) in
          record {
            number = ap length same ∙ number;
            listed = subst (AreListed records (place + 1)) (sym same) (listed-past records lists place found.0 found.1 past c.loop-place.invariant.listed);
          }
    ]

pub returns-clause-listed : goal.returns-clause-listed
returns-clause-listed c =
    let all = c.len-place-end.ensures.value in
    let most = c.loop-place.auto.place-end in
    listed-whole c.args.records.now.items c.loop-place.lists.items c.loop-place.place (omega (arith, all, most, c.loop-place-test.false)) c.loop-place.invariant.listed
