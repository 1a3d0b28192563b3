use Rattle.std.proofs.Common.{◌∙◌, sym, subst}
use Rattle.image_audit.specs.Kept.{AllSmall}
use Rattle.quiet_walk.proofs.Walking.{walk_ends}
use Rattle.quiet_walk.proofs.walk.first_loud.Goals as goal

pub loud_in_tables-requires : goal.loud_in_tables-requires
loud_in_tables-requires g c = subst AllSmall (sym (c.deref.ensures.value ∙ c.in_ok-tables.ensures)) c.requires

pub returns : goal.returns
returns g c = walk_ends (g.M.Memory.shape c.args.memory.now) (g.M.Memory.words c.args.memory.now) _ (c.deref.ensures.value ∙ c.in_ok-tables.ensures) _ c.loud_in_tables.ensures
