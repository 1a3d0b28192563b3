use Rattle.std.proofs.Common.{◌-◌, arith}
use Rattle.quiet_walk.proofs.Offsets.{header_quiet, lock_quiet, low_quiet, slot_quiet, overflow_quiet, bucket_quiet}
use Rattle.quiet_walk.proofs.quiet.is_quiet.Goals as goal

pub returns-then-offset-eq1 : goal.returns-then-offset-eq1
returns-then-offset-eq1 g c = header_quiet (g.M.Memory.shape c.args.memory.now) (g.M.Memory.words c.args.memory.now) c.args.table.now c.args.offset c.word-word.result c.word-word.ensures c.if-offset-eq1.true _ c.is_plain.ensures

pub returns-then-offset-eq2 : goal.returns-then-offset-eq2
returns-then-offset-eq2 g c = lock_quiet (g.M.Memory.shape c.args.memory.now) (g.M.Memory.words c.args.memory.now) c.args.table.now c.args.offset c.word-word.result c.word-word.ensures c.if-offset-eq2.true

pub returns-then-offset-lt20 : goal.returns-then-offset-lt20
returns-then-offset-lt20 g c = low_quiet (g.M.Memory.words c.args.memory.now) c.args.table.now c.args.offset c.if-offset-eq1.false c.if-offset-eq2.false c.if-offset-lt20.true

pub returns-then-place-ne0 : goal.returns-then-place-ne0
returns-then-place-ne0 g c = slot_quiet (g.M.Memory.shape c.args.memory.now) (g.M.Memory.words c.args.memory.now) c.args.table.now c.args.offset c.word-word.result c.word-word.ensures (c.args.offset - 20) (omega arith) c.if-place-ne0.true _ c.is_settled.ensures

pub returns-then-place-eq8 : goal.returns-then-place-eq8
returns-then-place-eq8 g c = overflow_quiet (g.M.Memory.words c.args.memory.now) c.args.table.now c.args.offset (c.args.offset - 20) (omega arith) c.if-place-eq8.true

pub returns : goal.returns
returns g c = bucket_quiet (g.M.Memory.shape c.args.memory.now) (g.M.Memory.words c.args.memory.now) c.args.table.now c.args.offset c.word-word.result c.word-word.ensures (c.args.offset - 20) (omega arith) c.if-place-ne0.false c.if-place-eq8.false _ c.is_plain-2.ensures
