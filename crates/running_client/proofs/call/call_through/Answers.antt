use Rattle.std.proofs.Common.{◌≡◌, ◌<◌, ◌^◌, [], sym, ap, subst, ◌∙◌, arith}
use Rattle.key_hash.specs.Placing.{Pairs, placed}
use Rattle.map_model.specs.Machine.{key_of}
use Rattle.verbs.specs.Programs.{answer_of}
use Rattle.log_facts.proofs.Growing.{stands_legal}
use Rattle.client_seat.specs.Seated.{Home}
use Rattle.call_texts.specs.State.{State}
use Rattle.call_machine.specs.declared.answer.Answer.{Answer}
use Rattle.call_machine.specs.CallRest.{call_rest}
use Rattle.world_texts.specs.Bound.{most_acts}
use Rattle.world_texts.specs.Fits.{Fits}
use Rattle.loss_laws.specs.Again.{ReplyLost}
use Rattle.running_client.specs.Traces.{Text, text, begun, lost_in}
use Rattle.running_client.specs.Replies.{MayReply}
use Rattle.running_client.specs.Points.{Replied}
use Rattle.running_client.specs.Running.{IsRunning}
use Rattle.running_client.proofs.Texts.{told_answer, told_none, is_there, halted_none}
use Rattle.running_client.proofs.Runs.{begun_running, running_replied, running_on}
use Rattle.running_client.proofs.Answering.{replies}
use Rattle.running_client.proofs.Losing.{lost_as_told}
use Rattle.running_client.proofs.call.call_through.Goals as goal

pub drive-verbs-requires-clause-listed : goal.drive-verbs-requires-clause-listed
drive-verbs-requires-clause-listed g c κs within = c.placer-placer.ensures ∙ ap (λ (h : Home). h.setting.listed) (sym c.requires.home)

pub drive-verbs-requires-clause-begun : goal.drive-verbs-requires-clause-begun
drive-verbs-requires-clause-begun g c κs within =
    let listed : g.P.Placer.listed c.placer-placer.result.now ≡ c.args.node.now.home.setting.listed = c.placer-placer.ensures ∙ ap (λ (h : Home). h.setting.listed) (sym c.requires.home) in
    c.begin-machine.ensures.text ∙ ap (λ (x : Pairs). begun (placed x) c.args.state.now c.args.call.now) listed

pub drive-verbs-requires-clause-running : goal.drive-verbs-requires-clause-running
drive-verbs-requires-clause-running g c κs within =
    let node = c.args.node.now in
    let s = node.home.setting in
    let listed : g.P.Placer.listed c.placer-placer.result.now ≡ s.listed = c.placer-placer.ensures ∙ ap (λ (h : Home). h.setting.listed) (sym c.requires.home) in
    subst (λ (p : Text). IsRunning s node.client c.args.call.now c.args.state.now node.front (most_acts c.args.state.now c.args.call.now) node.front p [])
    (sym (c.begin-machine.ensures.text ∙ ap (λ (x : Pairs). begun (placed x) c.args.state.now c.args.call.now) listed))
    (begun_running s node.client c.args.call.now c.args.state.now node.front c.law_calls_in_worlds.ensures c.requires.legal c.begin-machine.ensures.limits
    (subst (λ (x : Pairs). placed x (key_of c.args.call.now) < 2 ^ 64) listed c.begin-machine.ensures.small) c.requires.fits)

pub finish-requires : goal.finish-requires
finish-requires g c =
    let hash = placed (g.P.Placer.listed c.placer-placer.result.now) in
    let told = told_answer hash (call_rest c.drive-verbs.new.machine) c.in-Some.answer c.drive-verbs.ensures.settled c.keep_acting.ensures c.in-Some.ensures in
    is_there _ _ told.machine_ended

pub returns-in-Some-clause-came : goal.returns-in-Some-clause-came
returns-in-Some-clause-came g c =
    let node = c.args.node.now in
    let next = c.drive-verbs.new.node in
    let s = node.home.setting in
    let state = c.args.state.now in
    let call = c.args.call.now in
    let hash = placed (g.P.Placer.listed c.placer-placer.result.now) in
    let p = call_rest c.drive-verbs.new.machine in
    let left = text hash c.drive-verbs.new.machine in
    let came = c.drive-verbs.ensures.came in
    let told = told_answer hash p c.in-Some.answer c.drive-verbs.ensures.settled c.keep_acting.ensures c.in-Some.ensures in
    let replied = running_replied s node.client call state node.front came.left next.front left came.trace told.come_to came.running told.ended in
    let keeps = c.finish.ensures told.come_to told.machine_ended in (
      record {
        deeds = came.deeds;
        called = record {
          home = came.home;
          client = came.client;
          trace = came.trace;
          told = came.filled.told;
          few = (let within = came.running.within in omega arith);
          left = left;
          ran = came.running.ran;
          come_to = told.come_to;
          ended = told.ended;
          answer = told.answer;
          keeps = keeps;
          fits = subst (λ (k : State). Fits s next.front node.client k) (sym keeps) replied.1;
          lost = subst (λ (a : Answer). ReplyLost (lost_in came.trace) a.reply) (sym told.answer) (lost_as_told c.law_calls_in_worlds.ensures.losses (placed s.listed) state call came.trace left told.come_to came.running.ran told.ended);
          kind = subst (λ (a : Answer). MayReply call a.reply a.from a.to) (sym told.answer) (replies (placed s.listed) state call came.trace left told.come_to came.running.ran told.ended);
          replied = subst (λ (a : Answer). Replied s node.client state call node.front next.front a) (sym told.answer) replied.0;
        };
        filled = came.filled;
        through = came.through;
      },
      came.count,
      c.drive-verbs.ensures.few,
    )

pub returns-in-None-clause-came : goal.returns-in-None-clause-came
returns-in-None-clause-came g c =
    let node = c.args.node.now in
    let next = c.drive-verbs.new.node in
    let s = node.home.setting in
    let hash = placed (g.P.Placer.listed c.placer-placer.result.now) in
    let p = call_rest c.drive-verbs.new.machine in
    let left = text hash c.drive-verbs.new.machine in
    let came = c.drive-verbs.ensures.came in
    let none = told_none hash p c.drive-verbs.ensures.settled c.keep_acting.ensures (sym c.in-None.is ∙ c.answer.ensures) in
    let on = running_on s node.client c.args.call.now c.args.state.now node.front came.left next.front left came.trace came.running none in (
      record {
        deeds = came.deeds;
        stopped = record {
          home = came.home;
          client = came.client;
          trace = came.trace;
          told = came.filled.told;
          few = on.few;
          left = left;
          ran = came.running.ran;
          goes = none;
          begins = on.begins;
          legal = stands_legal s next.front came.running.legal;
          none = on.none;
        };
        filled = came.filled;
        through = came.through;
      },
      came.count,
      halted_none c.drive-verbs.result c.args.most (answer_of left) none c.drive-verbs.ensures.halted,
    )

pub returns-in-Some-clause-legal : goal.returns-in-Some-clause-legal
returns-in-Some-clause-legal g c = c.drive-verbs.ensures.came.running.legal

pub returns-in-None-clause-legal : goal.returns-in-None-clause-legal
returns-in-None-clause-legal g c = c.drive-verbs.ensures.came.running.legal
