use Rattle.map_model.proofs.Added.{founded_none, founded_quiet, founded_change}
use Rattle.map_model.proofs.laws.law_one_more.Goals as goal

pub returns : goal.returns
returns c = record { none = founded_none; quiet = founded_quiet; change = founded_change }
