use Rattle.split_laws.proofs.Whole.{resume_is_safe}
use Rattle.split_laws.proofs.laws.law_resume_safe.Goals as goal

-- src/laws.rt
pub returns : goal.returns
returns c = resume_is_safe
