use Rattle.std.proofs.Common.{slice_index}
use Rattle.std.proofs.lemmas.Grind.{common_steps}
use Rattle.std.proofs.Common.{arith}
use Rattle.storm_script.specs.Summary.{replies_at}
use Rattle.storm_script.proofs.Counts.{lines-same}
use Rattle.storm_script.proofs.summary.summary_text.Goals as goal

pub returns : goal.returns
returns c =
    let counted = lines-same (slice_index c.counts_of.result) (replies_at c.args.lines.now.items) c.counts_of.ensures in
    grind (arith, common_steps, counted)
