use Rattle.std.proofs.Common.{sym, ap, ◌∙◌}
use Rattle.client_seat.specs.Seated.{Home, Seated}
use Rattle.running_client.specs.Served.{Serving}
use Rattle.thread_play.proofs.Learning.{looks_home, looks_from, reads_from}
use Rattle.thread_play.proofs.seen.look.Goals as goal

pub of-node-requires : goal.of-node-requires
of-node-requires c =
    ap (λ (s : Seated). s.home) c.leave.ensures
    ∙ looks_home c.args.keys.now c.in-Ok.client.seat c.in-Ok.client.state c.learn.new.client.seat c.learn.new.map c.in_ok-learn.ensures
    ∙ ap (λ (x : Serving). x.seat.home) c.in-Ok.ensures.made ∙ c.requires.home

pub read_nexts-next-requires : goal.read_nexts-next-requires
read_nexts-next-requires c =
    c.geometry-geometry.ensures
    ∙ ap (λ (h : Home). h.setting.geometry)
    (sym (ap (λ (s : Seated). s.home) (c.of-node.ensures.seat ∙ c.leave.ensures)
    ∙ looks_home c.args.keys.now c.in-Ok.client.seat c.in-Ok.client.state c.learn.new.client.seat c.learn.new.map c.in_ok-learn.ensures
    ∙ ap (λ (x : Serving). x.seat.home) c.in-Ok.ensures.made ∙ c.requires.home))

pub returns : goal.returns
returns c = (
  c.learn.new.client.seat,
  looks_from c.args.keys.now c.in-Ok.client c.args.seat c.args.tries c.args.memory.now c.learn.new.client.seat c.learn.new.map c.in-Ok.ensures.made c.requires.home c.in_ok-learn.ensures,
  reads_from c.learn.new.client.seat c.of-node.result c.geometry-geometry.result c.args.memory.now.setting.geometry c.read_nexts-next.new.node c.leave-2.result c.read_nexts-next.result
      (c.of-node.ensures.seat ∙ c.leave.ensures) c.geometry-geometry.ensures c.leave-2.ensures c.read_nexts-next.ensures,
)

pub learn-requires-clause-none : goal.learn-requires-clause-none
learn-requires-clause-none c = ap (λ (x : Serving). x.cache) c.in-Ok.ensures.made
