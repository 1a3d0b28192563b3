use Rattle.std.proofs.Common.{List, sym, subst, ◌∙◌}
use Rattle.std.proofs.lemmas.List.Elements.{All-from_recursion}
use Rattle.std.specs.List.{All}
use Rattle.play_report.specs.declared.report.Line.{Line}
use Rattle.play_report.specs.Report.{IsOfCall}
use Rattle.race_play.proofs.Lines.{lines-known, players-many}
use Rattle.race_play.proofs.Results.{if-ok}
use Rattle.race_play.proofs.played.play_replay.Goals as goal

pub told-requires-clause-clients : goal.told-requires-clause-clients
told-requires-clause-clients c = c.clients.ensures.number ∙ sym (players-many c.args.script.now c.in_ok-world.world c.in_ok-world.ensures)

pub returns-clause-replayed : goal.returns-clause-replayed
returns-clause-replayed c = if-ok _ _ c.told.result (λ played told. record { ended = c.in_ok-world.world; played = c.in_ok-world.ensures; told = told }) c.told.ensures

pub returns-clause-calls : goal.returns-clause-calls
returns-clause-calls c =
    let content = c.args.script.now.content in
    if-ok _ _ c.told.result
    (λ played told. subst (λ (lines : List Line). All (λ (line : Line). IsOfCall content line) lines) (sym told.lines_are) (All-from_recursion (IsOfCall content) _ (lines-known c.args.script.now c.in_ok-world.world c.in_ok-world.ensures)))
    c.told.ensures
