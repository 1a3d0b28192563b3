use Rattle.std.proofs.Common.{◌≡◌, ◌↔◌, List, [], drop, subst, arith}
use Rattle.std.proofs.lemmas.List.{drop_all}
use Rattle.map_model.specs.declared.records.Record.{Record}
use Rattle.map_model.specs.History.{made, numbered}
use Rattle.map_model.proofs.LegalSteps.{none_left, none_left_only}
use Rattle.map_model.proofs.histories.are_all_made.Goals as goal

pub returns : goal.returns
returns c =
    let n = c.loop-answered.n in
    let C = c.args.changes.now in
    let ended : drop c.loop-answered.answered-index c.args.history.now ≡ [] = drop_all c.loop-answered.answered-index c.args.history.now (omega arith) in
    let left = subst (λ (rs : List Record). (made rs ≡ numbered n (drop n C)) ↔ (made c.args.history.now ≡ numbered 0 C)) ended c.loop-answered.invariant.left in
    (λ e. left.0 (none_left n C c.loop-answered.invariant.upto e), λ e. none_left_only n C c.loop-answered.invariant.upto (left.1 e))
