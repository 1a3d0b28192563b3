use Rattle.std.proofs.Common.{ap, sym, ◌∙◌, subst}
use Rattle.image_laws.specs.Walk.{firsts}
use Rattle.image_audit.specs.Kept.{AllSmall, setting_of}
use Rattle.image_audit.proofs.Loops.{some_of}
use Rattle.image_audit.proofs.DirectoryWords.{tables_bad, small_firsts}
use Rattle.image_audit.proofs.audit.audit_words.Goals as goal

pub walk_tables-requires-clause-small : goal.walk_tables-requires-clause-small
walk_tables-requires-clause-small g c κs within = subst AllSmall (sym (c.in_ok-first_tables.ensures ∙ ap firsts c.geometry-geometry.ensures)) (small_firsts (g.M.Memory.shape c.args.memory.now))

pub returns-in-Some : goal.returns-in-Some
returns-in-Some g c = tables_bad (setting_of (g.M.Memory.shape c.args.memory.now) (g.P.Placer.listed c.args.placer.now)) (g.M.Memory.words c.args.memory.now) c.in-Some.at (some_of _ _ c.in_ok-stop.stop c.in-Some.at c.in-Some.is c.in_ok-stop.ensures.walked)
