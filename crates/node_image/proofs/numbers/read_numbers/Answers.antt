use Rattle.std.proofs.Common.{rules, ◌≡◌, length, subst}
use Rattle.std.proofs.lemmas.List.{take_at}
use Rattle.race_laws.specs.Standing.{IsIn}
use Rattle.node_image.proofs.numbers.read_numbers.Goals as goal

pub returns-clause-small : goal.returns-clause-small
returns-clause-small c = λ x i. let e : length c.fill.new.numbers ≡ c.in_ok-numbers.numbers.len = search rules in c.fill.ensures.small x (subst (IsIn x) (take_at c.fill.new.numbers _ c.in_ok-numbers.numbers.len e) i)
