use Rattle.running_client.proofs.Answered.{came_plain}
use Rattle.running_client.proofs.call.call_within.Goals as goal

pub returns-clause-came : goal.returns-clause-came
returns-clause-came g c =
    let went = c.call_through in
    came_plain c.args.node.now c.args.state.now c.args.call.now c.args.most went.new.node went.new.cache went.new.state went.result.answer went.result.verbs went.ensures.came
