use Rattle.std.proofs.Common.{◌≡◌, ◌<◌, ◌+◌, ◌*◌}
use Rattle.node_words.specs.Addresses.{node_at, node_size}
use Rattle.running_bench.proofs.worker.swap_all.Given as goal

abbrev pub invariant-loop : goal.invariant-loop
invariant-loop l = (l.k < l.node.home.setting.geometry.nodes) × (l.at ≡ node_at l.node.home.setting.geometry l.k) × (l.end ≡ (l.k + 1) * node_size l.node.home.setting.geometry)
