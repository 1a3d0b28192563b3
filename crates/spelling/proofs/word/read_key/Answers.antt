use Rattle.std.proofs.Common.{Some, None, take, sym, ◌∙◌}
use Rattle.spelling.proofs.Room.{key-read}
use Rattle.spelling.proofs.word.read_key.Goals as goal

pub returns-in_err-len : goal.returns-in_err-len
returns-in_err-len c =
    c.from_residual.ensures ∙ key-read c.args.word.now None (sym c.is_plainly_spelled.ensures ∙ c.if-is_plainly_spelled.false) c.in_err-len.ensures.read

pub returns : goal.returns
returns c =
    c.key_from-2.ensures
    ∙ key-read c.args.word.now (Some (take c.in_ok-len.len c.fill_escaped.new.bytes)) (sym c.is_plainly_spelled.ensures ∙ c.if-is_plainly_spelled.false) c.in_ok-len.ensures.read
