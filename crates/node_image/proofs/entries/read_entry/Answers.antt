use Rattle.std.proofs.Common.{◌+◌, arith, refl}
use Rattle.std.specs.Prelude.{slice_index, ◌/◌}
use Rattle.kv_block.proofs.Packed.{IsPair-from_unpacked}
use Rattle.node_image.proofs.ListedKeys.{entry_read, not_short, not_long, not_cut, not_odd}
use Rattle.node_image.proofs.entries.read_entry.Goals as goal

pub returns-then-numbers-lt2-clause-none : goal.returns-then-numbers-lt2-clause-none
returns-then-numbers-lt2-clause-none c = λ p rest h e. not_short c.args.numbers.now p rest h e c.if-numbers-lt2.true

pub returns-then-length-gt64-clause-none : goal.returns-then-length-gt64-clause-none
returns-then-length-gt64-clause-none c = λ p rest h e. not_long c.args.numbers.now p rest h e c.if-length-gt64.true

pub returns-then-numbers-count-clause-none : goal.returns-then-numbers-count-clause-none
returns-then-numbers-count-clause-none c = λ p rest h e. not_cut c.args.numbers.now p rest h e c.if-numbers-count.true

pub returns-in_default-clause-none : goal.returns-in_default-clause-none
returns-in_default-clause-none c = λ p rest h e. not_odd c.args.numbers.now p rest h e c.in_default.ensures.none

pub returns-clause-some : goal.returns-clause-some
returns-clause-some c =
    let low = c.if-numbers-count.false in
    let r = entry_read c.args.numbers.now (slice_index c.args.numbers.now 0) ((slice_index c.args.numbers.now 0 + 7) / 8 + 1) c.in-Some.pair.0 c.in-Some.pair.1 refl c.if-length-gt64.false refl (omega arith) c.in-Some.ensures.some (IsPair-from_unpacked _ _ c.in-Some.ensures.pair) in
    (r.0, omega arith, r.1)
