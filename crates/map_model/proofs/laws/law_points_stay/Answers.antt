use Rattle.map_model.proofs.Points.{first_stays}
use Rattle.map_model.proofs.laws.law_points_stay.Goals as goal

pub returns : goal.returns
returns c = first_stays
