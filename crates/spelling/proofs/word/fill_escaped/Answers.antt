use Rattle.std.proofs.Common.{◌-◌, length, take, drop, sym, ap, ◌∙◌, arith}
use Rattle.std.proofs.lemmas.Bool.{cond-true, cond-false}
use Rattle.std.specs.Option.{option_and_then}
use Rattle.spelling.specs.Words.{hex_bytes, at_most, not_plain}
use Rattle.spelling.proofs.Room.{escaped-word, plain-room}
use Rattle.spelling.proofs.word.fill_escaped.Goals as goal

pub returns-then-is_plainly_spelled-clause-read : goal.returns-then-is_plainly_spelled-clause-read
returns-then-is_plainly_spelled-clause-read c =
    let word = c.args.word.now in
    let n = length c.args.bytes.now in
    let escaped = escaped-word word c.in-len1-up.len_at_least (omega (arith, c.if-first-ne37.false)) in
    sym (cond-true _ _ _ (sym c.is_plainly_spelled.ensures ∙ c.if-is_plainly_spelled.true))
    ∙ ap (option_and_then not_plain) c.in_ok-len.ensures.read
    ∙ sym (plain-room n (hex_bytes (take (length word - 1) (drop 1 word))))
    ∙ ap (option_and_then (at_most n)) (sym escaped)

pub returns-clause-read : goal.returns-clause-read
returns-clause-read c =
    let word = c.args.word.now in
    let n = length c.args.bytes.now in
    let escaped = escaped-word word c.in-len1-up.len_at_least (omega (arith, c.if-first-ne37.false)) in
    sym (cond-false _ _ _ (sym c.is_plainly_spelled.ensures ∙ c.if-is_plainly_spelled.false))
    ∙ ap (option_and_then not_plain) c.in_ok-len.ensures.read
    ∙ sym (plain-room n (hex_bytes (take (length word - 1) (drop 1 word))))
    ∙ ap (option_and_then (at_most n)) (sym escaped)
