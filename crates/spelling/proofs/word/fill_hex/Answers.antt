use Rattle.std.proofs.Common.{◌-◌, length, take, drop, sym, ap, ◌∙◌, refl, arith}
use Rattle.std.proofs.lemmas.List.{length-take-le, take_more_set, length-set}
use Rattle.spelling.specs.Words.{hex_bytes}
use Rattle.spelling.proofs.Hex.{behind, behind-nothing, hex-pair, hex-step}
use Rattle.spelling.proofs.Room.{hex-full}
use Rattle.spelling.proofs.word.fill_hex.Goals as goal

pub loop-rest-init : goal.loop-rest-init
loop-rest-init c = record { read = behind-nothing (hex_bytes c.args.digits.now); room = omega arith; same = refl }

pub returns-then-len-bytes-clause-read : goal.returns-then-len-bytes-clause-read
returns-then-len-bytes-clause-read c =
    let l = c.loop-rest in
    let rest = l.rest.now in
    let front = take l.len l.bytes in
    let others = hex_bytes (take (length rest - 2) (drop 2 rest)) in
    let long = length-take-le l.len l.bytes l.invariant.room in
    let pair = sym c.read_hex_pair.ensures ∙ c.in_ok-byte.was in
    hex-full (length c.args.bytes.now) front c.in_ok-byte.byte others (hex_bytes c.args.digits.now) (omega (arith, long, c.if-len-bytes.true, l.invariant.same))
    (ap (behind front) (sym (hex-pair rest c.in_ok-byte.byte (omega arith) pair)) ∙ l.invariant.read)

pub loop-rest-preserved : goal.loop-rest-preserved
loop-rest-preserved c =
    let l = c.loop-rest in
    let rest = l.rest.now in
    let b = c.in_ok-byte.byte in
    let pair = sym c.read_hex_pair.ensures ∙ c.in_ok-byte.was in
    let more = c.if-len-bytes.false in
    record {
      read = ap (λ t. behind t (hex_bytes (take (length rest - 2) (drop 2 rest)))) (take_more_set l.bytes l.len b (omega (arith, more)))
          ∙ hex-step (take l.len l.bytes) rest c.args.digits.now b (omega arith) l.invariant.read pair;
      room = rw (length-set l.bytes l.len b) (omega (arith, more));
      same = length-set l.bytes l.len b ∙ l.invariant.same;
    }
