use Rattle.std.proofs.Common.{sym, ap}
use Rattle.node_words.proofs.OpeningWords.{next_region, directory_region}
use Rattle.verb_log.specs.PlainRoles.{plain_role}
use Rattle.verb_log.proofs.role.outer_role.Goals as goal

pub returns-in-Next : goal.returns-in-Next
returns-in-Next c = sym (ap plain_role (next_region _ _ _ (sym c.in-Next.ensures.region)).0)

pub returns-in-Directory : goal.returns-in-Directory
returns-in-Directory c = sym (ap plain_role (directory_region _ _ _ (sym c.in-Directory.ensures.region)).0)
