use Rattle.std.proofs.Common.{rules, ◌++◌, [], ◌∷◌, Option, sym, ap, subst, refl, inl, inr, ◌∙◌, append-nil, length-append, arith}
use Rattle.std.specs.Prelude.{IsSome}
use Rattle.key_hash.specs.Placing.{Pairs, placed}
use Rattle.verbs.specs.Logs.{MayStand}
use Rattle.verbs.specs.Programs.{answer_of, block_of}
use Rattle.verbs.proofs.Growth.{begins-then}
use Rattle.race_laws.specs.Legal.{MayFollow}
use Rattle.client_seat.specs.Seated.{Home, Seated}
use Rattle.call_texts.specs.Text.{part_of}
use Rattle.call_machine.specs.declared.call.CallMachine.{CallMachine}
use Rattle.block_cache.specs.Cache.{Cache}
use Rattle.world_texts.specs.Bound.{most_acts}
use Rattle.world_texts.specs.Texts.{after_verb}
use Rattle.running_client.specs.Traces.{Text, text}
use Rattle.running_client.specs.Running.{IsRunning, Came}
use Rattle.running_client.proofs.Runs.{running_permits, running_step, permitted_as, step_as, kept_as}
use Rattle.running_client.proofs.Passing.{filled_more}
use Rattle.running_client.proofs.Done.{through_none, through_more}
use Rattle.running_client.proofs.drive.drive.Goals as goal

pub loop-done-init : goal.loop-done-init
loop-done-init g c = record {
  home = refl;
  client = refl;
  settled = c.requires.settled;
  begins = ([], sym (append-nil c.args.node.now.front));
  running = ([], most_acts c.args.state.now c.args.call.now, [], refl, record { told = refl; at = tt }, through_none c.args.node.now c.args.cache.now c.requires.keeps, c.requires.running);
}

pub advance-requires-clause-legal : goal.advance-requires-clause-legal
advance-requires-clause-legal g c κs within =
    let inv = c.loop-done.invariant in
    subst (λ (h : Home). MayStand (MayFollow h.setting) c.loop-done.node.front) (sym inv.home) inv.running.6.legal

pub advance-requires-clause-keeps : goal.advance-requires-clause-keeps
advance-requires-clause-keeps g c κs within =
    let inv = c.loop-done.invariant in
    kept_as c.loop-done.node c.args.node.now c.loop-done.node.front c.loop-done.cache (sym inv.home) (sym inv.client) inv.running.5.keeps

pub advance-requires-clause-may : goal.advance-requires-clause-may
advance-requires-clause-may g c κs within =
    let before = c.args.node.now in
    let inv = c.loop-done.invariant in
    let p = text (placed (g.P.Placer.listed c.args.placer.now)) c.loop-done.machine in
    λ verb e. permitted_as before c.loop-done.node (block_of p) verb inv.home inv.client
    (running_permits before.home.setting before.client c.args.call.now c.args.state.now before.front inv.running.1 c.loop-done.node.front p inv.running.0 verb inv.running.6 e)

pub loop-done-preserved : goal.loop-done-preserved
loop-done-preserved g c =
    let before = c.args.node.now in
    let node = c.loop-done.node in
    let next = c.advance.new.node in
    let s = before.home.setting in
    let inv = c.loop-done.invariant in
    let p = text (placed (g.P.Placer.listed c.args.placer.now)) c.loop-done.machine in
    let w = c.advance.ensures.went (search rules) in
    let step = step_as before node next.front w.0 w.1 inv.home inv.client w.3.step in
    let went = running_step s before.client c.args.call.now c.args.state.now before.front inv.running.1 node.front p inv.running.0 w.0 next.front w.1 inv.running.6 w.2 step in
    let trace = inv.running.0 ++ (w.0, w.1) ∷ [] in
    let pushed = filled_more s before.client before.front node.front next.front inv.running.0 inv.running.2 w.0 w.1 inv.begins step inv.running.4.told inv.running.4.at in
    record {
      home = w.3.home ∙ inv.home;
      client = w.3.client ∙ inv.client;
      settled = c.advance.ensures.settled;
      begins = begins-then before.front node.front next.front inv.begins w.3.begins;
      running = (
        trace,
        went.left,
        pushed.deeds,
        (let long = length-append inv.running.0 ((w.0, w.1) ∷ []) in let so_far = inv.running.3 in omega arith),
        record { told = pushed.told; at = pushed.at },
        through_more before c.args.cache.now node c.loop-done.cache next c.advance.new.cache c.args.state.now c.args.call.now inv.running.0 p w.0 w.1 inv.home inv.client inv.running.6.ran inv.running.5 w.3,
        subst (λ (q : Text). IsRunning s before.client c.args.call.now c.args.state.now before.front went.left next.front q trace) (ap (λ (x : Pairs). after_verb part_of (placed x) p w.1) (sym c.requires.listed) ∙ sym w.4) went.running,
      );
    }

pub returns-then-not-advance-clause-came : goal.returns-then-not-advance-clause-came
returns-then-not-advance-clause-came g c =
    let before = c.args.node.now in
    let inv = c.loop-done.invariant in
    let hash = placed (g.P.Placer.listed c.args.placer.now) in
    let same = c.advance.ensures.ended (search rules) in
    subst (λ (m : CallMachine). Came before c.args.cache.now c.args.call.now c.args.state.now c.advance.new.node c.advance.new.cache c.loop-done.done (text hash m)) (sym same.0)
    (subst (λ (n : Seated). Came before c.args.cache.now c.args.call.now c.args.state.now n c.advance.new.cache c.loop-done.done (text hash c.loop-done.machine)) (sym same.1)
    (subst (λ (o : Option Cache). Came before c.args.cache.now c.args.call.now c.args.state.now c.loop-done.node o c.loop-done.done (text hash c.loop-done.machine)) (sym same.2) (record {
      home = inv.home;
      client = inv.client;
      trace = inv.running.0;
      deeds = inv.running.2;
      filled = inv.running.4;
      through = inv.running.5;
      count = inv.running.3;
      left = inv.running.1;
      running = inv.running.6;
    })))

pub returns-then-not-advance-clause-halted : goal.returns-then-not-advance-clause-halted
returns-then-not-advance-clause-halted g c =
    let hash = placed (g.P.Placer.listed c.args.placer.now) in
    let same = c.advance.ensures.ended (search rules) in
    inl (subst (λ (m : CallMachine). IsSome (answer_of (text hash m))) (sym same.0) same.3)

pub returns-clause-came : goal.returns-clause-came
returns-clause-came g c =
    let inv = c.loop-done.invariant in
    let past = c.loop-done-test.false in
    record {
      home = inv.home;
      client = inv.client;
      trace = inv.running.0;
      deeds = inv.running.2;
      filled = inv.running.4;
      through = inv.running.5;
      count = (let so_far = inv.running.3 in omega arith);
      left = inv.running.1;
      running = inv.running.6;
    }

pub returns-clause-halted : goal.returns-clause-halted
returns-clause-halted g c = inr refl
