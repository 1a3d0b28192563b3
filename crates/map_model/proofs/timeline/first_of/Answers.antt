use Rattle.std.proofs.Common.{ℕ, ◌<◌, List, None, length, take, drop, sym, ap, ◌∙◌, subst, arith}
use Rattle.std.proofs.lemmas.List.{take_rest}
use Rattle.std.specs.List.{AllByRecursion}
use Rattle.map_model.specs.Machine.{key_of}
use Rattle.map_model.specs.Moments.{Steady}
use Rattle.map_model.specs.Places.{places_from, latest}
use Rattle.map_model.proofs.Filtered.{weaker}
use Rattle.map_model.proofs.FirstMoment.{places_cut, places_below, places_least, steady_at, cut_front, cut_back}
use Rattle.map_model.proofs.timeline.first_of.Goals as goal

pub value_after-value-requires : goal.value_after-value-requires
value_after-value-requires c =
    let C = c.args.changes.now.items in
    let lo = c.args.lo in
    let key = key_of c.args.call.now in
    let xs = places_from key 0 (take lo C) in
    let ys = places_from key lo (drop lo C) in
    let all = c.requires.placed ∙ places_cut key C lo c.requires.lo in
    let below = places_below key C lo c.requires.lo in
    let from = c.count_below-from.ensures.cut xs ys all below (places_least key lo (drop lo C)) in
    subst (AllByRecursion (λ p. p < length C)) (sym (cut_front xs ys c.args.places.now c.count_below-from.result all from))
    (weaker (λ p. p < lo) (λ p. p < length C) (λ p l. omega (arith, c.requires.lo)) xs below)

pub first_from-requires-clause-steady : goal.first_from-requires-clause-steady
first_from-requires-clause-steady c =
    let C = c.args.changes.now.items in
    let lo = c.args.lo in
    let key = key_of c.args.call.now in
    let xs = places_from key 0 (take lo C) in
    let ys = places_from key lo (drop lo C) in
    let all = c.requires.placed ∙ places_cut key C lo c.requires.lo in
    let from = c.count_below-from.ensures.cut xs ys all (places_below key C lo c.requires.lo) (places_least key lo (drop lo C)) in
    let value = c.value_after-value.ensures ∙ ap (latest C None) (cut_front xs ys c.args.places.now c.count_below-from.result all from) in
    let rest = take_rest c.args.places.now c.count_below-from.result ∙ cut_back xs ys c.args.places.now c.count_below-from.result all from in
    subst (λ (ps : List ℕ). Steady C key c.value_after-value.result lo ps) (sym rest)
    (subst (λ o. Steady C key o lo ys) (sym value) (steady_at C key lo c.requires.lo))
