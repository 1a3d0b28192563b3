use Rattle.std.proofs.Common.{sym}
use Rattle.quiet_walk.proofs.Offsets.{settled}
use Rattle.quiet_walk.proofs.quiet.is_settled.Goals as goal

pub returns-in-Some : goal.returns-in-Some
returns-in-Some c = settled c.args.word c.in-Some.slot c.is_live.result c.if-word-eq0.false (sym c.in-Some.ensures.value) c.is_live.ensures
