use Rattle.std.proofs.Common.{sym, ap, ◌∙◌}
use Rattle.std.specs.Prelude.{option_map}
use Rattle.client_seat.specs.Seated.{Seated}
use Rattle.running_play.proofs.Dealing.{none_left, last_taken}
use Rattle.running_play.proofs.deal.deal_all.Goals as goal

pub unreachable-requires : goal.unreachable-requires
unreachable-requires c =
    none_left c.args.seats.now.home c.args.clients c.deal.new.seats.places c.in_ok-dealt.ensures.places
    (sym (ap (option_map (λ (s : Seated). s.client)) c.in_default.is) ∙ c.take.ensures.least)

pub returns-clause-last : goal.returns-clause-last
returns-clause-last c =
    let got = c.in-Some.ensures.taken in
    (last_taken c.args.seats.now.home c.args.clients c.in-Some.last c.deal.new.seats.places c.take.new.self.places c.in_ok-dealt.ensures.places c.in-Some.ensures.least got.1 got.2).0

pub returns-clause-places : goal.returns-clause-places
returns-clause-places c =
    let got = c.in-Some.ensures.taken in
    (last_taken c.args.seats.now.home c.args.clients c.in-Some.last c.deal.new.seats.places c.take.new.self.places c.in_ok-dealt.ensures.places c.in-Some.ensures.least got.1 got.2).1
