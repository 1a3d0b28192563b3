-- What is left of a delete.
use Rattle.std.specs.Prelude.{ℕ, ◌+◌, ◌-◌, None}
use Rattle.verb_log.specs.declared.entry.Verb.TheVariants.{Swap}
use Rattle.verbs.specs.Programs.{Prog, ask, do_verb, bind}
use Rattle.scan_pass.specs.Rest.{pass_rest}
use Rattle.scan_pass.specs.Ends.{held_of}
use Rattle.call_laws.specs.Settling.{after_settle}
use Rattle.op_delete.specs.declared.end.DeleteEnd.{DeleteEnd}
use Rattle.op_delete.specs.declared.end.DeleteOutcome.TheVariants.{Deleted as DeletedEnd, Missing as MissingEnd, Again as AgainEnd}
use Rattle.work_area.specs.declared.work.Work.{Work}
use Rattle.op_delete.specs.declared.at.At.{At}
use Rattle.op_delete.specs.declared.at.At.TheVariants.{Looking, Settle, Remove, Deleted, Missing, Again}
use Rattle.op_delete.specs.declared.delete.DeleteOp.{DeleteOp}
use Rattle.op_delete.specs.Text.{again, after_look, remove_word, ended}

-- what it does where the next counted swap is lost
abbrev pub more : Work → ℕ → Prog DeleteEnd
more w = again w.pass.task.job (w.removal.left - 1) (w.removal.lost + 1)

abbrev pub at_rest : Work → At → Prog DeleteEnd
at_rest w Looking = bind (pass_rest w.pass) (after_look w.removal.lost (more w))
at_rest w Settle =
    ask (do_verb None (Swap (held_of w.pass).at (held_of w.pass).word w.removal.live))
    (after_settle (held_of w.pass) w.removal.live (remove_word w.removal.lost (more w) (held_of w.pass) w.pass.scan.table) (more w w.pass.scan.table))
at_rest w Remove = remove_word w.removal.lost (more w) (held_of w.pass) w.pass.scan.table w.removal.live
at_rest w Deleted = ended (DeletedEnd (held_of w.pass)) w.pass.scan.table w.removal.lost
at_rest w Missing = ended MissingEnd w.pass.scan.table w.removal.lost
at_rest w Again = ended AgainEnd w.pass.scan.table w.removal.lost

abbrev pub delete_rest : DeleteOp → Prog DeleteEnd
delete_rest d = at_rest d.work d.at
