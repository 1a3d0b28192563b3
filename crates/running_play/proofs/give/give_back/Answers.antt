use Rattle.std.proofs.Common.{◌≡◌, ◌+◌, ◌++◌, List, [], ◌∷◌, Option, Some, length, take, drop, sym, ap, subst, ◌∙◌, append_assoc, length-append, arith}
use Rattle.std.specs.Prelude.{slice_set}
use Rattle.client_seat.specs.Seated.{Seated}
use Rattle.running_play.specs.GivenBack.{AreNumbered, places_of}
use Rattle.running_play.proofs.Giving.{numbered_last, set_front}
use Rattle.running_play.proofs.give.give_back.Goals as goal

pub give-requires : goal.give-requires
give-requires c =
    let inv = c.loop-worked.invariant in
    let popped : c.loop-worked.all.items ≡ c.pop.new.self.items ++ c.in-Some.worked ∷ [] = c.in-Some.ensures.items in
    (numbered_last c.args.seats.now.home 0 c.pop.new.self.items c.in-Some.worked (subst (AreNumbered c.args.seats.now.home 0) popped inv.numbered)).1.0 ∙ sym inv.home

pub loop-worked-preserved : goal.loop-worked-preserved
loop-worked-preserved c =
    let inv = c.loop-worked.invariant in
    let ps = c.args.seats.now.places in
    let left = c.pop.new.self.items in
    let worked = c.in-Some.worked in
    let popped : c.loop-worked.all.items ≡ left ++ worked ∷ [] = c.in-Some.ensures.items in
    let last = numbered_last c.args.seats.now.home 0 left worked (subst (AreNumbered c.args.seats.now.home 0) popped inv.numbered) in
    let long : length c.loop-worked.all.items ≡ length left + 1 = ap length popped ∙ length-append left (worked ∷ []) in
    let done = inv.given.0 in
    let all = inv.given.1 ∙ ap (λ l. l ++ done) popped ∙ append_assoc left (worked ∷ []) done in
    let many = ap length all ∙ length-append left (worked ∷ done) in
    let few = c.requires.few in
    let rest : List (Option Seated) = places_of done ++ drop (length c.args.all.items) ps in
    let client : worked.seat.client ≡ length left = last.1.1 ∙ (let k : 0 + length left ≡ length left = omega arith in k) in
    record {
      home = c.give.ensures.home ∙ inv.home;
      numbered = last.0;
      given = (
        worked ∷ done,
        all,
        c.give.ensures.given
            ∙ ap (λ n. slice_set c.loop-worked.seats.places n (Some worked.seat)) client
            ∙ ap (λ l. slice_set l (length left) (Some worked.seat)) (inv.given.2 ∙ ap (λ n. take n ps ++ rest) long)
            ∙ set_front ps rest (length left) (Some worked.seat) (omega arith),
      );
    }
