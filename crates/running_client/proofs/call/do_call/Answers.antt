use Rattle.running_client.proofs.Answered.{answers_within}
use Rattle.running_client.proofs.call.do_call.Goals as goal

pub unreachable-requires : goal.unreachable-requires
unreachable-requires g c =
    let went = c.call_through-went in
    answers_within c.args.node.now c.args.cache.now c.args.state.now c.args.call.now went.new.node went.new.cache went.new.state went.result.answer went.result.verbs c.in-None.is c.keep.ensures.few went.ensures.came
