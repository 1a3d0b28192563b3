use Rattle.std.specs.Prelude.{◌≡◌, Result, Err}
use Rattle.std.proofs.Common.{ap}
use Rattle.image_audit.specs.Shape.{lists_of}
use Rattle.image_audit.specs.declared.audit.Audit.{Audit}
use Rattle.node_image.specs.declared.reading.ImageFault.{ImageFault}
use Rattle.node_image.specs.declared.reading.ImageFault.TheVariants.{Malformed}
use Rattle.node_image.proofs.audit.audit_bytes.Goals as goal

fault_is : (a b : ImageFault) → (let r : Result Audit ImageFault = Err a in r) ≡ Err b → a ≡ b
fault_is a b e = cc

pub returns-in_ok-audit-in-Ok-clause-audited : goal.returns-in_ok-audit-in-Ok-clause-audited
returns-in_ok-audit-in-Ok-clause-audited c = record {
  geometry = c.in-Ok.read.0.geometry;
  listed = c.in-Ok.read.1;
  nodes = lists_of c.in-Ok.read.0.nodes.items;
  is_image = c.in-Ok.ensures.image;
  is_audit = c.in_ok-audit-in-Ok.ensures;
}

pub returns-in-Err-clause-malformed : goal.returns-in-Err-clause-malformed
returns-in-Err-clause-malformed c = λ f. c.in-Err.ensures.malformed (ap Err (fault_is c.in-Err.fault Malformed f))
