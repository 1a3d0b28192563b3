use Rattle.std.proofs.Common.{◌≡◌, ◌∙◌, ◌++◌, ◌∷◌, [], false, sym, subst, ap}
use Rattle.std.specs.Prelude.{is_some}
use Rattle.key_hash.specs.Placing.{AreDistinct, Finds, is_listed}
use Rattle.key_hash.proofs.PlacingLaws.{AreDistinct-push, Finds-push}
use Rattle.key_hash.proofs.placing.Listed.add.Goals as goal

pub invariant_of-self-2 : goal.invariant_of-self-2
invariant_of-self-2 c =
    let new : is_listed c.self.inside.pairs.items c.args.key ≡ false =
    ap (λ pairs. is_listed pairs c.args.key) c.self.view_is ∙ sym c.contains.ensures ∙ c.if-contains.false in
    let pushed = c.push_reserved.ensures.items ∙ ap (λ pairs. pairs ++ (c.args.key, c.args.hash) ∷ []) c.reserve.ensures.items in (
      subst AreDistinct (sym pushed) (AreDistinct-push c.self.inside.pairs.items c.args.key c.args.hash c.self.invariant.0 new),
      subst (Finds c.insert.new.self) (sym pushed)
          (Finds-push c.self.inside.numbers c.insert.new.self c.self.inside.pairs.items c.args.key c.args.hash c.self.invariant.1 new c.in_ok-insert.ensures.updates.0),
    )
