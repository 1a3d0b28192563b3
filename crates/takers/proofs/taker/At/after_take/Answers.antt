use Rattle.std.proofs.Common.{ℕ, None, cond, ap, sym}
use Rattle.std.proofs.lemmas.Bool.{eq-eqb}
use Rattle.verbs.specs.Programs.{ret}
use Rattle.takers.specs.Text.{stores}
use Rattle.takers.proofs.taker.At.after_take.Goals as goal

pub returns-then-found-next-clause-rest : goal.returns-then-found-next-clause-rest
returns-then-found-next-clause-rest c = λ end word. sym (ap (λ b. cond b (stores word c.args.next c.args.next 3) (ret None)) (eq-eqb c.args.found c.args.next c.if-found-next.true))
