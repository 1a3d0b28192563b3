-- What is left of a split's machine.
use Rattle.std.specs.Prelude.{ℕ, ◌-◌}
use Rattle.verbs.specs.Programs.{Prog}
use Rattle.split_text.specs.declared.resized.ResizeEnd.{ResizeEnd}
use Rattle.remote_resize.specs.declared.resize_op.ResizeOp.{ResizeOp}
use Rattle.remote_resize.specs.ResizeRest.{resize_rest_at, left_at}

abbrev pub resize_rest : ResizeOp → Prog ResizeEnd
resize_rest op = resize_rest_at op.work op.at

-- how many swaps were lost
abbrev pub lost_of : ResizeOp → ℕ
lost_of op = op.tries - left_at op.work op.at
