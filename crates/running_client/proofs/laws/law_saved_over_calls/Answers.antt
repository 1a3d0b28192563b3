use Rattle.running_client.proofs.Saved.{go_on_through, saves_over, does_over}
use Rattle.running_client.proofs.laws.law_saved_over_calls.Goals as goal

pub returns-clause-then : goal.returns-clause-then
returns-clause-then c = go_on_through

pub returns-clause-saved : goal.returns-clause-saved
returns-clause-saved c = saves_over c.law_saved.ensures.saved

pub returns-clause-done : goal.returns-clause-done
returns-clause-done c = does_over c.law_reads_done.ensures
