use Rattle.std.proofs.Common.{ap, sym, ◌∙◌, refl, subst, arith}
use Rattle.std.specs.Prelude.{Some}
use Rattle.race_laws.specs.Standing.{IsIn}
use Rattle.image_audit.proofs.Slots.{in_by_get, get_by_in}
use Rattle.image_audit.proofs.homes.is_candidate.Goals as goal

pub returns-then-get-place : goal.returns-then-get-place
returns-then-get-place c = ((λ t. subst (IsIn c.args.place) c.places-places.ensures.places (in_by_get c.places-places.result c.loop-i.i c.args.place (c.get.ensures.place ∙ ap Some c.if-get-place.true))), λ x. refl)

pub returns : goal.returns
returns c = (
  (λ t. absurd (cc)),
  λ x. let y = subst (IsIn c.args.place) (sym c.places-places.ensures.places) x in let r = get_by_in c.places-places.result c.args.place y in
      let a = c.len-i-end.ensures.len in let b = c.loop-i-test.false in let d = r.1 in absurd (c.loop-i.invariant r.0 (omega arith) r.2),
)
