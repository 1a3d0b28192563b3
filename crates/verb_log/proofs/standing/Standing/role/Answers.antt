use Rattle.std.proofs.Common.{◌∙◌, sym, ap}
use Rattle.verb_log.specs.PlainRoles.{plain_role}
use Rattle.verb_log.proofs.Judged.{role_inside, role_outside}
use Rattle.verb_log.proofs.standing.Standing.role.Goals as goal

pub returns-in-Some : goal.returns-in-Some
returns-in-Some c = c.table_role.ensures ∙ sym (ap plain_role (role_inside c.args.geometry.now c.args.at c.in-Some.table _ c.in-Some.is))

pub returns-in-None : goal.returns-in-None
returns-in-None c = c.outer_role.ensures ∙ sym (ap plain_role (role_outside c.args.geometry.now c.args.at _ c.in-None.is))
