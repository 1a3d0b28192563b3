use Rattle.std.proofs.Common.{sym, subst}
use Rattle.kv_block.specs.Packing.{HasShape}
use Rattle.kv_block.proofs.Packed.{HasShape-packed}
use Rattle.block_cache.proofs.tests.block_of.Goals as goal

pub returns : goal.returns
returns c = subst HasShape (sym c.write_block.ensures.words) (HasShape-packed _ c.write_block.ensures.pair)
