use Rattle.std.proofs.Common.{◌≡◌, ℕ, sym, ap, subst, ◌∙◌}
use Rattle.node_words.specs.declared.geometry.Geometry.{Geometry}
use Rattle.log_facts.specs.Among.{among}
use Rattle.client_seat.specs.Seated.{Home, Seated}
use Rattle.call_machine.specs.Fresh.{fresh_state}
use Rattle.running_client.specs.Cached.{AllKept}
use Rattle.running_client.proofs.Fresh.{fresh_fits}
use Rattle.running_client.proofs.client.Client.seated.Goals as goal

pub invariant_of-result : goal.invariant_of-result
invariant_of-result g c =
    let node = c.of-node.result in
    let home : node.home ≡ c.args.memory.now = ap (λ (s : Seated). s.home) c.of-node.ensures.seat ∙ c.requires.home in
    let sizes = c.geometry-geometry.ensures ∙ ap (λ (h : Home). h.setting.geometry) (sym home) in
    let number = c.number.ensures ∙ ap (λ (s : Seated). s.client) (sym c.of-node.ensures.seat) in
    record {
      home = home;
      legal = c.keep.ensures.legal;
      fits = fresh_fits c.law_states_fit.ensures.fresh node.home.setting node.front node.client c.args.tries c.in-Ok.state
          (c.in-Ok.ensures.state ∙ ap (λ (x : Geometry). fresh_state x c.number.result c.args.tries) sizes ∙ ap (λ (n : ℕ). fresh_state node.home.setting.geometry n c.args.tries) number)
          c.in-Ok.ensures.unknown c.requires.some c.requires.few;
      kept = subst (λ (x : Seated). AllKept (among x.home.setting x.client) x.front c.args.cache) (sym c.of-node.ensures.seat) c.requires.keeps;
    }
