use Rattle.std.proofs.Common.{◌∙◌, ◌∷◌, [], codes}
use Rattle.std.proofs.lemmas.Result.{on_ok_weaker}
use Rattle.script_value.specs.Content.{names_of}
use Rattle.script_value.specs.ScriptText.{spaced_items}
use Rattle.script_value.proofs.Joined.{schedule_line, three_parts}
use Rattle.script_value.proofs.body.Body.put_schedule_line.Goals as goal

pub returns : goal.returns
returns c =
    let names = names_of c.args.self.now in
    let items = c.args.items.now.items in
    rw (schedule_line names items) (on_ok_weaker c.push.result (λ e. e
    ∙ rw (c.in_ok-put_items.ensures, c.in_ok-put.ensures, c.as_slice.ensures) (three_parts c.args.out.now.items (codes "schedule") (spaced_items names items) (10 ∷ []))) c.push.ensures)
