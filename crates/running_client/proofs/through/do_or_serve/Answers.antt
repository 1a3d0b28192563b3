use Rattle.std.specs.Prelude.{Some}
use Rattle.std.proofs.Common.{subst, sym}
use Rattle.verbs.specs.Programs.{block_of}
use Rattle.call_machine.specs.CallRest.{call_rest}
use Rattle.running_client.specs.Cached.{DoesThrough}
use Rattle.running_client.proofs.through.do_or_serve.Goals as goal

pub returns-in-Some : goal.returns-in-Some
returns-in-Some g c =
    let n = c.args.node.now in
    let v = c.args.verb.now in
    subst (λ k. DoesThrough n k (block_of (call_rest c.args.machine.now)) v c.serve.result c.serve.new.node (Some c.serve.new.cache)) (sym c.in-Some.is)
    (subst (λ b. DoesThrough n (Some c.in-Some.cache) b v c.serve.result c.serve.new.node (Some c.serve.new.cache)) c.block.ensures c.serve.ensures)
