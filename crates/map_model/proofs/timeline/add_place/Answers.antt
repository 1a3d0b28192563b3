use Rattle.std.proofs.Common.{ℕ, cond, Some, List, [], ◌∷◌, ◌++◌, sym, ap, ◌∙◌, rules}
use Rattle.std.specs.BTreeMap as tree
use Rattle.std.specs.BTreeMap.{is_at}
use Rattle.kv_block.specs.Bytes.{key_cmp}
use Rattle.map_model.proofs.PlacesKept.{place_added, place_same, place_first, OnErr_from}
use Rattle.map_model.proofs.timeline.add_place.Goals as goal

pub returns-in_err-push-in-Some-clause-err : goal.returns-in_err-push-in-Some-clause-err
returns-in_err-push-in-Some-clause-err c = OnErr_from c.from_residual.result _ (λ q.
    place_same c.args.places.now (c.get_mut.follows.lender c.push.new.self) c.args.key q c.in-Some.known.now c.push.new.self
    (sym c.in-Some.ensures.value) (((c.get_mut.follows.holds c.push.new.self).3 (search rules)).0 q) c.in_err-push-in-Some.ensures.items)

pub returns-in_ok-push-in-Some-clause-ok : goal.returns-in_ok-push-in-Some-clause-ok
returns-in_ok-push-in-Some-clause-ok c = λ q.
    place_added c.args.places.now (c.get_mut.follows.lender c.push.new.self) c.args.key q c.in-Some.known.now c.push.new.self c.args.place
    (sym c.in-Some.ensures.value) (((c.get_mut.follows.holds c.push.new.self).3 (search rules)).0 q) c.in_ok-push-in-Some.ensures.items

pub returns-in_ok-insert-in-None-clause-ok : goal.returns-in_ok-insert-in-None-clause-ok
returns-in_ok-insert-in-None-clause-ok c = λ q.
    place_first c.args.places.now c.insert.new.self c.args.key q c.push-in-None.new.self c.args.place (sym c.in-None.ensures.value)
    (c.in_ok-insert-in-None.ensures.updates.0 q ∙ ap (λ m. cond (is_at (key_cmp c.args.key) q) (Some c.push-in-None.new.self) (tree.get key_cmp m q)) c.get_mut.follows.holds-at-none)
    (c.in_ok-push-in-None.ensures.items ∙ ap (λ (ps : List ℕ). ps ++ c.args.place ∷ []) c.new-first.ensures.items)
