use Rattle.std.proofs.Common.{sym, refl}
use Rattle.batch_pass.proofs.Counted.{goes-on}
use Rattle.batch_pass.proofs.batch.BatchPass.passed.Goals as goal

pub returns-in_default : goal.returns-in_default
returns-in_default c =
    let p = c.args.self.now in
    let h = goes-on p.task.job p.scan p.reads p.at p.some p.wait c.in_default.not-Held c.in_default.not-Clear in
    record { end = sym h.0; none = ((λ e. h.1), (λ e. refl)) }
