use Rattle.std.proofs.Common.{◌≡◌, ℕ, length, map, ap, subst, ◌∙◌, arith}
use Rattle.node_words.specs.declared.geometry.Geometry.{Geometry}
use Rattle.race_laws.specs.Setting.{Setting}
use Rattle.verb_core.specs.Play.{AreFresh}
use Rattle.race_play.specs.Planned.{plan_view}
use Rattle.race_play.proofs.Beginning.{plan-short}
use Rattle.race_play.proofs.Lines.{plans-many}
use Rattle.race_play.proofs.Results.{if-ok-all}
use Rattle.race_play.proofs.played.begin.Goals as goal

pub make-requires-clause-short : goal.make-requires-clause-short
make-requires-clause-short c _ i plan there =
    let own = plan-short c.args.script.now.content c.args.script.now.content.clients 0 c.in_ok-plans.plans.items i plan c.in_ok-plans.ensures.planned there in
    let all = c.is_script.ensures.content.calls in
    omega (arith, own, all)

pub returns : goal.returns
returns c =
    let content = c.args.script.now.content in
    let many : length c.in_ok-plans.plans.items ≡ length content.clients = plans-many content c.in_ok-plans.plans.items c.in_ok-plans.ensures.planned in
    if-ok-all _ _ _ _ _ c.make.result
    (λ w set plans empty players. record {
      setting = set ∙ (λ i. (let s : Setting = record { geometry = c.geometry.ensures i; listed = c.in_ok-placer.ensures i } in s));
      plans = ap (map plan_view) plans ∙ c.in_ok-plans.ensures.planned;
      entries = empty.0;
      records = empty.1;
      players = subst (λ (g : Geometry). AreFresh g c.args.script.now.tries (length content.clients) w.players) c.geometry.ensures
          (subst (λ (t : ℕ). AreFresh c.geometry.result t (length content.clients) w.players) c.tries.ensures.value
          (subst (λ (n : ℕ). AreFresh c.geometry.result c.tries.result n w.players) many players));
    })
    c.make.ensures.setting c.make.ensures.plans c.make.ensures.empty c.make.ensures.players
