use Rattle.std.proofs.Common.{◌≡◌, suc, arith}
use Rattle.pass_text.specs.Pass.{spare, after_lost}
use Rattle.scan_pass.specs.Seen.{seen}
use Rattle.scan_pass.proofs.Onward.{again-judged}
use Rattle.scan_pass.proofs.at.At.lost.Goals as goal

pub returns-else-scan-left-clause-rest : goal.returns-else-scan-left-clause-rest
returns-else-scan-left-clause-rest c =
    let j = c.args.task.now.job in
    let s = c.args.scan.now in
    let e : spare j (seen s) ≡ suc (spare j (after_lost (seen s))) = omega (arith, c.left.ensures) in
    let t = c.lose.ensures in
    again-judged j _ _ _ _ _ (seen c.lose.new.self) (after_lost (seen s)) c.args.found _ t.seen t.index t.follow e c.judge.ensures.rest
