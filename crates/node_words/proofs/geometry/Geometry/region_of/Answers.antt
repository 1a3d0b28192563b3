use Rattle.std.proofs.Common.{sym}
use Rattle.node_words.proofs.RegionLemmas.{region_stands}
use Rattle.node_words.proofs.geometry.Geometry.region_of.Goals as goal

pub returns-clause-stands : goal.returns-clause-stands
returns-clause-stands c = region_stands c.args.self.now c.args.at c.region_by_tests.result c.requires (sym c.region_by_tests.ensures)
