-- What a look of a pass's key is started with.
use Rattle.pass_text.specs.declared.job.Job.{Job}
use Rattle.pass_text.specs.declared.job.PassMode.TheVariants.{Look}

abbrev pub look_form : Job → Job
look_form j = record { geometry = j.geometry; key = j.key; hash = j.hash; mode = Look }
