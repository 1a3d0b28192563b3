use Rattle.directory.proofs.Bounds.{naming-within}
use Rattle.directory.proofs.Whole.{naming_is_safe}
use Rattle.directory.proofs.name_op.NameOp.start.Goals as goal

pub returns-clause-within : goal.returns-clause-within
returns-clause-within c = naming-within (record { geometry = c.args.geometry; child = c.args.child; birth = c.args.birth })

pub returns-clause-safe : goal.returns-clause-safe
returns-clause-safe c = naming_is_safe (record { geometry = c.args.geometry; child = c.args.child; birth = c.args.birth })
