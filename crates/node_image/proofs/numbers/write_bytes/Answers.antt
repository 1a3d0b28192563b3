use Rattle.std.proofs.Common.{rules}
use Rattle.node_image.proofs.ImageNumbers.{small_in}
use Rattle.node_image.proofs.numbers.write_bytes.Goals as goal

pub returns-in_err-push_number-clause-small : goal.returns-in_err-push_number-clause-small
returns-in_err-push_number-clause-small c = small_in c.args.numbers.now (λ k. let f = c.type_inv.numbers k in search rules)

pub returns-clause-small : goal.returns-clause-small
returns-clause-small c = small_in c.args.numbers.now (λ k. let f = c.type_inv.numbers k in search rules)
