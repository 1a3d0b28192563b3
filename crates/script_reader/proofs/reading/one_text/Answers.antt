use Rattle.script_reader.proofs.AgainScript.{one-text}
use Rattle.script_reader.proofs.reading.one_text.Goals as goal

pub returns : goal.returns
returns c = one-text
