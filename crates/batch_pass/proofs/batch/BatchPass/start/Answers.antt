use Rattle.pass_text.specs.declared.job.PassMode.TheVariants.{Look}
use Rattle.post_text.proofs.Counts.{short_as_look}
use Rattle.batch_pass.specs.BatchRest.{batch_rest}
use Rattle.batch_pass.proofs.batch.BatchPass.start.Goals as goal

pub returns-clause-within : goal.returns-clause-within
returns-clause-within c = short_as_look (record { geometry = c.args.geometry; key = c.args.key.now; hash = c.args.hash; mode = Look }) c.args.entry (batch_rest c.of.result) c.of.ensures
