use Rattle.std.specs.Prelude.{Some}
use Rattle.std.proofs.Common.{◌∙◌, ap, sym}
use Rattle.verbs.specs.Programs.{mapped, answer_of}
use Rattle.scan_pass.specs.Rest.{pass_rest}
use Rattle.op_search.specs.Text.{found}
use Rattle.call_machine.specs.Tasks.{call_end}
use Rattle.call_machine.specs.Rest.{rest_of, on_search}
use Rattle.call_machine.proofs.Parts.{ends-told}
use Rattle.call_machine.proofs.at.At.end.Goals as goal

pub returns-in-Some-clause-end : goal.returns-in-Some-clause-end
returns-in-Some-clause-end c =
    let t = c.args.task.now in
    let m = c.args.machines.now in
    ends-told (on_search t) (mapped found (pass_rest m.work.pass)) c.in-Some.end (Some (call_end t.hash c.search_end-in-Some.result)) (sym c.search_end.ensures.value ∙ c.in-Some.is) c.search_end-in-Some.ensures.end
    ∙ ap (λ o. answer_of (rest_of t m o)) (sym c.in-Search.is)
