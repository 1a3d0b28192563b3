use Rattle.block_cache.proofs.DoneLemmas.{does_left}
use Rattle.block_cache.proofs.laws.law_reads_done.Goals as goal

pub returns : goal.returns
returns c = does_left
