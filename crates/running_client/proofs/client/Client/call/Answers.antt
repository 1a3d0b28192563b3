use Rattle.std.proofs.Common.{◌≡◌, None, subst}
use Rattle.running_client.specs.Served.{Serving}
use Rattle.running_client.specs.Called.{Called}
use Rattle.running_client.proofs.Answered.{called_alone, stays_none}
use Rattle.running_client.proofs.client.Client.call.Goals as goal

pub returns-clause-called : goal.returns-clause-called
returns-clause-called g c =
    let inside = c.self.inside in
    let next = c.do_call.new in
    let call = c.args.call.now in
    subst (λ (x : Serving). x.cache ≡ None → Called x.seat x.state call next.node next.state c.do_call.result) c.self.view_is
    (called_alone inside.node inside.cache inside.state call next.node next.cache next.state c.do_call.result c.do_call.ensures.called)

pub returns-clause-none : goal.returns-clause-none
returns-clause-none g c =
    let inside = c.self.inside in
    let next = c.do_call.new in
    subst (λ (x : Serving). x.cache ≡ None → next.cache ≡ None) c.self.view_is
    (stays_none inside.node inside.cache inside.state c.args.call.now next.node next.cache next.state c.do_call.result c.do_call.ensures.called)
