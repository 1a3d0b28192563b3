-- What is left of a posted look, of the machine.
use Rattle.pass_text.specs.declared.passed.Passed.{Passed}
use Rattle.post_text.specs.Posts.{Posts}
use Rattle.batch_pass.specs.declared.batch.BatchPass.{BatchPass}
use Rattle.batch_pass.specs.Rest.{rest_at}

abbrev pub batch_rest : BatchPass → Posts Passed
batch_rest b = rest_at b.task.job b.scan b.reads b.at
