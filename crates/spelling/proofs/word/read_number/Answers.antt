use Rattle.std.proofs.Common.{◌∙◌, sym, arith}
use Rattle.spelling.proofs.Numbers.{number_of-ended, number_of-read}
use Rattle.spelling.proofs.word.read_number.Goals as goal

pub returns-in_err-number : goal.returns-in_err-number
returns-in_err-number c =
    c.from_residual.ensures ∙ sym (number_of-ended c.args.word.now c.loop-digit.number c.loop-digit.digit-index (omega arith) c.loop-digit.invariant.value c.in_err-number.ensures)

pub returns : goal.returns
returns c = number_of-read c.args.word.now c.loop-digit.number c.loop-digit.digit-index (omega arith) (omega arith) (sym c.is_decimal.ensures ∙ c.if-not-is_decimal.false) c.loop-digit.invariant.value
