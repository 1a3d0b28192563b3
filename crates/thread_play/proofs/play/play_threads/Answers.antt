use Rattle.std.proofs.Common.{◌+◌, ◌≤◌, ℕ, List, length, sym, ap, subst, ◌∙◌, arith}
use Rattle.std.proofs.lemmas.List.Elements.{All-from_recursion}
use Rattle.std.specs.List.{All, AllByRecursion}
use Rattle.std.specs.Prelude.{IsSome}
use Rattle.play_report.specs.declared.report.Line.{Line}
use Rattle.play_report.specs.Report.{IsOfCall}
use Rattle.client_seat.specs.Seated.{Home, Seated, Given}
use Rattle.running_play.specs.declared.worker.Worked.{Worked}
use Rattle.running_play.specs.GivenBack.{AreNumbered}
use Rattle.thread_play.specs.Played.{lines_by}
use Rattle.thread_play.proofs.Telling.{lines_known}
use Rattle.thread_play.proofs.Ending.{are_numbered, home_at, all_there, has_played, seen_seat, as_last, as_closed, as_setting}
use Rattle.thread_play.proofs.play.play_threads.Goals as goal

pub see_all-requires-clause-seats : goal.see_all-requires-clause-seats
see_all-requires-clause-seats g c = λ i d low.
    let counted = c.in_ok-all.all.ok.0 in
    home_at c.in_ok-memory.memory c.args.script.now 0 c.in_ok-all.all.items c.in_ok-all.ensures.worked i d (omega (arith, counted, low))

pub give_all-requires-clause-numbered : goal.give_all-requires-clause-numbered
give_all-requires-clause-numbered g c =
    subst (λ (all : List Worked). AreNumbered c.deal_all.new.seats.home 0 all) (sym c.in_ok-seen.ensures.same)
    (subst (λ (home : Home). AreNumbered home 0 c.in_ok-all.all.items) (sym (c.deal_all.ensures.home ∙ ap (λ (s : Given). s.home) c.in_ok-memory.ensures.seats))
    (are_numbered c.in_ok-memory.memory c.args.script.now 0 c.in_ok-all.all.items c.in_ok-all.ensures.worked))

pub give_all-requires-clause-home : goal.give_all-requires-clause-home
give_all-requires-clause-home g c =
    let seen = c.in_ok-seen.seen in
    (seen_seat c.in_ok-memory.memory c.in_ok-dealt.last c.in_ok-all.all.items c.as_slice-2.result.now seen.seat seen.map seen.next c.in_ok-seen.ensures.seen).0
    ∙ sym (c.deal_all.ensures.home ∙ ap (λ (s : Given). s.home) c.in_ok-memory.ensures.seats)

pub give_all-requires-clause-client : goal.give_all-requires-clause-client
give_all-requires-clause-client g c =
    let seen = c.in_ok-seen.seen in
    (seen_seat c.in_ok-memory.memory c.in_ok-dealt.last c.in_ok-all.all.items c.as_slice-2.result.now seen.seat seen.map seen.next c.in_ok-seen.ensures.seen).1
    ∙ ap (λ (s : Seated). s.client) c.in_ok-dealt.ensures.last ∙ c.clients-clients.ensures.number ∙ sym c.in_ok-all.ensures.many ∙ ap (length {A = Worked}) (sym c.in_ok-seen.ensures.same)

pub close-requires-clause-all : goal.close-requires-clause-all
close-requires-clause-all g c κs = subst (AllByRecursion IsSome) (sym c.give_all.ensures.given) (all_there c.see_all.new.all.items c.in_ok-seen.seen.seat)

pub returns-clause-played : goal.returns-clause-played
returns-clause-played g c =
    let memory = c.in_ok-memory.memory in
    let script = c.args.script.now in
    let all = c.in_ok-all.all.items in
    let seen = c.in_ok-seen.seen in
    let made = c.in_ok-memory.ensures in
    has_played memory script c.in_ok-keys.keys.items all c.in_ok-all.ensures.worked c.in_ok-all.ensures.many (made.number ∙ ap (λ (n : ℕ). n + 1) c.clients-clients.ensures.number) seen.seat seen.map seen.next
    (as_last memory c.in_ok-memory.seats.home (length script.content.clients) c.clients-clients.result c.in_ok-dealt.last all c.in_ok-keys.keys.items c.as_slice-2.result.now seen.seat seen.map seen.next
    c.in_ok-dealt.ensures.last (ap (λ (s : Given). s.home) made.seats) c.clients-clients.ensures.number c.as_slice-2.ensures.value c.in_ok-seen.ensures.seen)
    c.close.result
    (as_closed memory all c.see_all.new.all.items seen.seat c.give_all.new.seats.places c.close.result c.in_ok-seen.ensures.same c.give_all.ensures.given c.close.ensures)
    c.law_workers_have_run.ensures c.law_headline_beside.ensures c.law_changes_are_asked.ensures c.law_last_looks.ensures c.in_ok-keys.ensures
    (as_setting memory script (made.geometry ∙ c.geometry.ensures) (made.listed ∙ c.in_ok-placer.ensures))
    c.in_ok-lines.lines.items (c.in_ok-lines.ensures ∙ ap lines_by c.as_slice.ensures.value)

pub returns-clause-calls : goal.returns-clause-calls
returns-clause-calls g c =
    let script = c.args.script.now in
    let all = c.in_ok-all.all.items in
    let many = c.in_ok-all.ensures.many in
    let few : 0 + length all ≤ length script.content.clients = omega (arith, many) in
    subst (λ (lines : List Line). All (λ (line : Line). IsOfCall script.content line) lines) (sym (c.in_ok-lines.ensures ∙ ap lines_by c.as_slice.ensures.value))
    (All-from_recursion (IsOfCall script.content) _ (lines_known c.in_ok-memory.memory script 0 all c.in_ok-all.ensures.worked few))
