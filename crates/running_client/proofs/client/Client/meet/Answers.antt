use Rattle.std.proofs.Common.{ℕ, sym, subst, ◌∙◌}
use Rattle.verbs.specs.Logs.{MayStand, Begins}
use Rattle.verbs.proofs.Growth.{longer-begins}
use Rattle.race_laws.specs.Legal.{MayFollow}
use Rattle.log_facts.specs.Among.{among}
use Rattle.log_facts.proofs.Lasting.{blocks_last}
use Rattle.client_seat.specs.Seated.{Home}
use Rattle.world_texts.specs.Fits.{Fits}
use Rattle.running_client.specs.Served.{Serving}
use Rattle.running_client.proofs.Passing.{kept_longer}
use Rattle.running_client.proofs.Runs.{kept_as}
use Rattle.running_client.proofs.client.Client.meet.Goals as goal

pub invariant_of-self : goal.invariant_of-self
invariant_of-self g c =
    let e = c.meet.ensures in
    let inv = c.self.invariant in
    let node = c.self.inside.node in
    let next = c.meet.new.self in
    record {
      home = e.home ∙ inv.home;
      legal = subst (λ (h : Home). MayStand (MayFollow h.setting) next.front) (sym e.home) e.longer.0;
      fits = subst (λ (h : Home). Fits h.setting next.front next.client c.self.inside.state) (sym e.home)
          (subst (λ (n : ℕ). Fits node.home.setting next.front n c.self.inside.state) (sym e.client) (c.law_calls_in_worlds.ensures.longer node.home.setting node.front next.front node.client c.self.inside.state e.longer inv.fits));
      kept = kept_as next node next.front c.self.inside.cache (sym e.home) (sym e.client)
          (kept_longer (among node.home.setting node.client) (blocks_last node.home.setting node.client) node.front next.front e.longer c.self.inside.cache inv.kept);
    }

pub returns-clause-begins : goal.returns-clause-begins
returns-clause-begins g c =
    let node = c.self.inside.node in
    subst (λ (x : Serving). Begins x.seat.front c.meet.new.self.front) c.self.view_is
    (longer-begins (MayFollow node.home.setting) node.client node.front c.meet.new.self.front c.meet.ensures.longer.1)
