use Rattle.std.proofs.Common.{◌++◌, ◌≤◌, length, take, arith}
use Rattle.std.proofs.lemmas.Grind.{common_steps}
use Rattle.race_io.proofs.Chains.{Consumes-then}
use Rattle.race_io.proofs.reading.take_pieces.Goals as goal

pub returns-then-is_err-clause-stopped : goal.returns-then-is_err-clause-stopped
returns-then-is_err-clause-stopped g c =
    let bytes = c.loop-bytes.bytes.items ++ take c.in-Ok.count c.take.new.into in
    let few : length bytes ≤ c.args.limit = grind (arith, common_steps) in
    (bytes, few, Consumes-then _ _ _ _ _ c.loop-bytes.invariant.front c.in-Ok.ensures.front)
