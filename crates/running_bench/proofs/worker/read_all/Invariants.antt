use Rattle.std.proofs.Common.{◌≡◌, ◌<◌}
use Rattle.node_words.specs.Addresses.{node_at}
use Rattle.running_bench.proofs.worker.read_all.Given as goal

abbrev pub invariant-loop : goal.invariant-loop
invariant-loop l = (l.k < l.node.home.setting.geometry.nodes) × (l.at ≡ node_at l.node.home.setting.geometry l.k)
