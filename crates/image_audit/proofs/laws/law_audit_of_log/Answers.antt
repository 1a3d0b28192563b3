use Rattle.image_audit.proofs.Audited.{audit_of_log}
use Rattle.image_audit.proofs.laws.law_audit_of_log.Goals as goal

pub returns : goal.returns
returns c = audit_of_log
