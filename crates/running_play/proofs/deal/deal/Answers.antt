use Rattle.std.proofs.Common.{sym, ap, ◌∙◌}
use Rattle.std.specs.Prelude.{option_map}
use Rattle.client_seat.specs.Seated.{Seated}
use Rattle.running_play.proofs.Dealing.{not_none, one_dealt}
use Rattle.running_play.proofs.deal.deal.Goals as goal

pub unreachable-requires : goal.unreachable-requires
unreachable-requires c =
    let l = c.loop-client in
    not_none c.args.seats.now.home c.args.clients l._client l.seats.places l.dealt.items l.invariant.dealing (sym (ap (option_map (λ (s : Seated). s.client)) c.in_default.is) ∙ c.take.ensures.least)

pub loop-client-preserved : goal.loop-client-preserved
loop-client-preserved c =
    let l = c.loop-client in
    let seat = c.in-Some.seat in
    let got = c.in-Some.ensures.taken in
    record {
      home = c.take.ensures.home ∙ l.invariant.home;
      dealing = one_dealt c.args.seats.now.home c.args.clients l._client l.seats.places c.take.new.self.places l.dealt.items c.push.new.self.items seat c.loop-client-test.true l.invariant.dealing c.in-Some.ensures.least got.1 got.2 c.in_ok-push.ensures.items;
    }
