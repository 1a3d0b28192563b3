use Rattle.std.proofs.Common.{Some, None, take, ◌∙◌, arith}
use Rattle.spelling.proofs.Room.{number-read}
use Rattle.spelling.proofs.word.read_hex_number.Goals as goal

pub returns-in_err-len : goal.returns-in_err-len
returns-in_err-len c = c.from_residual.ensures ∙ number-read c.args.word.now None (omega (arith, c.if-word-ne16.false)) c.in_err-len.ensures.read

pub returns : goal.returns
returns c =
    c.bytes_number.ensures
    ∙ number-read c.args.word.now (Some (take c.in_ok-len.len c.fill_hex.new.bytes)) (omega (arith, c.if-word-ne16.false)) c.in_ok-len.ensures.read
