use Rattle.std.proofs.Common.{◌≡◌, cond, [], ◌∷◌, ◌++◌, length, sym, ap, ◌∙◌}
use Rattle.kv_block.specs.Bytes.{key_eq}
use Rattle.map_model.specs.Places.{places_from}
use Rattle.map_model.proofs.FirstMoment.{places_from-push}
use Rattle.map_model.proofs.PlacesKept.{OnOk_gives}
use Rattle.map_model.proofs.timeline.Timeline.push.Goals as goal

pub invariant_of-self-2 : goal.invariant_of-self-2
invariant_of-self-2 c = λ key.
    let items = c.self.inside.changes.items in
    let change = c.args.change.now in
    let was = c.self.invariant key in
    let n : c.len-place.result ≡ length items = c.len-place.ensures.value ∙ ap length c.in_ok-reserve.ensures.items in
    let pushed : c.push.new.self.items ≡ items ++ change ∷ [] =
    OnOk_gives c.push.result _ (c.push.ensures.succeeds c.in_ok-reserve.ensures.room) c.push.ensures.appended ∙ ap (λ cs. cs ++ change ∷ []) c.in_ok-reserve.ensures.items in
    c.in_ok-add_place.ensures.ok key
    ∙ (λ i. cond (key_eq key change.key) (was i ++ n i ∷ []) (was i))
    ∙ sym (places_from-push key items change)
    ∙ ap (places_from key 0) (sym pushed)
