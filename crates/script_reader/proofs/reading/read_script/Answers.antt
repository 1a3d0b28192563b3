use Rattle.script_reader.proofs.AgainScript.{only-read}
use Rattle.script_reader.proofs.reading.read_script.Goals as goal

pub returns-clause-only : goal.returns-clause-only
returns-clause-only c = λ s h text. only-read c.args.bytes.now c.read_whole.result s c.read_whole.ensures.exact h text
