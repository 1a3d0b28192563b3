-- What is left of an update.
use Rattle.std.specs.Prelude.{◌-◌, None, Some}
use Rattle.verb_log.specs.declared.entry.Verb.TheVariants.{Swap}
use Rattle.verbs.specs.Programs.{Prog, ask, do_verb, bind}
use Rattle.scan_pass.specs.Rest.{pass_rest}
use Rattle.scan_pass.specs.Ends.{held_of}
use Rattle.call_laws.specs.Settling.{after_settle}
use Rattle.block_taking.specs.declared.taking.Area.{Area}
use Rattle.block_taking.specs.Rest.{take_rest}
use Rattle.op_update.specs.declared.end.UpdateEnd.{UpdateEnd}
use Rattle.op_update.specs.declared.end.UpdateOutcome.TheVariants.{Updated as UpdatedEnd, Missing as MissingEnd, Again as AgainEnd}
use Rattle.work_area.specs.declared.work.Work.{Work}
use Rattle.op_update.specs.declared.at.At.{At}
use Rattle.op_update.specs.declared.at.At.TheVariants.{Looking, Taking, Settle, Replace, Updated, Missing, Again, NoBlock}
use Rattle.op_update.specs.declared.update.UpdateOp.{UpdateOp}
use Rattle.op_update.specs.Text.{Plan, More, refused, again, after_look, after_take, replace_word, ended}

abbrev pub plan : Work → Plan
plan w = record { job = w.pass.task.job; print = w.replacement.print; taking = w.take.taking; tries = w.replacement.tries }

abbrev pub area_of : Work → Area
area_of w = w.take.progress.area

-- what it does where the next counted swap is lost
abbrev pub more : Work → More
more w = again (plan w) w.replacement.rounds

abbrev pub at_rest : Work → At → Prog UpdateEnd
at_rest w Looking = bind (pass_rest w.pass) (after_look (plan w) (more w) w.replacement.kept (area_of w) w.replacement.left)
at_rest w Taking = bind (take_rest w.take) (λ e. after_take (plan w) (more w) (held_of w.pass) w.pass.scan.table e e.outcome)
at_rest w Settle =
    ask (do_verb None (Swap (held_of w.pass).at (held_of w.pass).word w.replacement.live))
    (after_settle (held_of w.pass) w.replacement.live (replace_word (plan w) (more w) (held_of w.pass) w.pass.scan.table w.replacement.block (area_of w) w.replacement.left) (more w (Some w.replacement.block) (area_of w) (w.replacement.left - 1) w.pass.scan.table))
at_rest w Replace = replace_word (plan w) (more w) (held_of w.pass) w.pass.scan.table w.replacement.block (area_of w) w.replacement.left w.replacement.live
at_rest w Updated = ended (plan w) (UpdatedEnd (held_of w.pass) w.replacement.block) w.pass.scan.table (area_of w) w.replacement.left
at_rest w Missing = ended (plan w) MissingEnd w.pass.scan.table (area_of w) w.replacement.left
at_rest w Again = ended (plan w) AgainEnd w.pass.scan.table (area_of w) w.replacement.left
at_rest w NoBlock = bind (take_rest w.take) (λ e. ended (plan w) (refused e.outcome) w.pass.scan.table (area_of w) w.replacement.left)

abbrev pub update_rest : UpdateOp → Prog UpdateEnd
update_rest u = at_rest u.work u.at
