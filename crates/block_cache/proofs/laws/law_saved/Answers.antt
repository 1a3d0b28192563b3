use Rattle.block_cache.proofs.SavedLemmas.{counts_saved, keeps_met}
use Rattle.block_cache.proofs.laws.law_saved.Goals as goal

pub returns-clause-saved : goal.returns-clause-saved
returns-clause-saved c = counts_saved

pub returns-clause-kept : goal.returns-clause-kept
returns-clause-kept c = keeps_met
