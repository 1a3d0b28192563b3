use Rattle.std.proofs.Common.{sym}
use Rattle.key_hash.specs.Placing.{placed}
use Rattle.verb_core.proofs.player.tell_hash.Goals as goal

pub returns-clause-text : goal.returns-clause-text
returns-clause-text g c = c.told.ensures.text (placed (g.P.Placer.listed c.args.placer.now)) c.in-Some.key (sym c.in-Some.ensures) c.hash.ensures.value

pub returns-clause-questions : goal.returns-clause-questions
returns-clause-questions g c = c.told.ensures.questions (placed (g.P.Placer.listed c.args.placer.now)) c.in-Some.key (sym c.in-Some.ensures) c.hash.ensures.value
