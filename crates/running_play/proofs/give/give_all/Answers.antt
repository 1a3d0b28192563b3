use Rattle.std.proofs.Common.{◌≡◌, ◌+◌, ◌++◌, Some, length, drop, sym, ap, ◌∙◌}
use Rattle.std.proofs.lemmas.List.{length-map}
use Rattle.std.specs.Prelude.{slice_set}
use Rattle.running_play.specs.declared.worker.Worked.{Worked}
use Rattle.running_play.specs.GivenBack.{places_of}
use Rattle.running_play.proofs.Giving.{set_end}
use Rattle.running_play.proofs.give.give_all.Goals as goal

pub returns-clause-given : goal.returns-clause-given
returns-clause-given c =
    let ps = c.args.seats.now.places in
    let xs = places_of c.args.all.items in
    let many : length xs ≡ length c.args.all.items = length-map c.args.all.items (λ (w : Worked). Some w.seat) in
    c.give.ensures.given
    ∙ ap (λ l. slice_set l c.args.last.client (Some c.args.last)) c.give_back.ensures.given
    ∙ ap (λ n. slice_set (xs ++ drop (length c.args.all.items) ps) n (Some c.args.last)) (c.requires.client ∙ sym many)
    ∙ ap (λ n. slice_set (xs ++ drop n ps) (length xs) (Some c.args.last)) (sym many)
    ∙ set_end xs ps (Some c.args.last) (c.requires.places ∙ ap (λ n. n + 1) (sym many))
