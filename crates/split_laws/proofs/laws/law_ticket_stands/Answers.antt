use Rattle.split_laws.proofs.Around.{fits_firm}
use Rattle.split_laws.proofs.laws.law_ticket_stands.Goals as goal

-- src/laws.rt
pub returns : goal.returns
returns c = fits_firm
