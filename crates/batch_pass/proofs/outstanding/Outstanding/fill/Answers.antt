use Rattle.std.proofs.Common.{arith, ◌-◌}
use Rattle.batch_pass.proofs.Opens.{filled, open_filled}
use Rattle.batch_pass.proofs.outstanding.Outstanding.fill.Goals as goal

pub returns-clause-wait : goal.returns-clause-wait
returns-clause-wait c = λ n e.
    let o = c.args.self.now in
    open_filled n o.done c.args.i c.place-place.result o.left (o.left - 1) e c.requires.some c.place-place.ensures.place (omega (arith, c.requires.some))

pub returns-clause-rest : goal.returns-clause-rest
returns-clause-rest c = λ block ats go_on few e.
    let o = c.args.self.now in
    filled block ats o.words o.done c.args.i c.place-place.result c.args.word o.left (o.left - 1) go_on (omega (arith, few, o.words_long)) e c.requires.some c.place-place.ensures.place (omega (arith, c.requires.some))
