use Rattle.std.specs.Prelude.{◌≡◌, List, IfOk}
use Rattle.std.specs.List.{AllByRecursion}
use Rattle.std.proofs.Common.{refl, subst}
use Rattle.call_machine.specs.declared.call.CallMachine.{CallMachine}
use Rattle.verb_core.specs.Play.{Play, Event}
use Rattle.verb_core.specs.Schedules.{Plays}
use Rattle.verb_core.specs.Machine.{call_kind}
use Rattle.verb_core.proofs.Turns.{IfOk_weaker}
use Rattle.verb_core.proofs.Draws.{drawn_first}
use Rattle.verb_core.proofs.world.World.run.Goals as goal

pub returns-clause-played : goal.returns-clause-played
returns-clause-played g c =
    subst (λ (w : Play CallMachine). IfOk c.run.result (λ _. (es : List Event) × Plays call_kind w c.args.items.now.items es c.run.new.self × AllByRecursion (λ (e : Event). e.choice ≡ 0) es)) c.self.view_is
    (IfOk_weaker c.run.result _ _ (λ _ t. (t.0, t.1, drawn_first (λ n. 0) t.0 _ (λ n. refl) t.2)) c.run.ensures.played)
