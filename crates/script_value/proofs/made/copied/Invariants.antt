use Rattle.std.proofs.Common.{◌≡◌, ◌++◌}
use Rattle.std.specs.List.{AllByRecursion}
use Rattle.script_value.specs.Valid.{IsCall}
use Rattle.script_value.proofs.made.copied.Given as goal

-- the calls so far, which are known, and those that are left
abbrev pub invariant-loop-call : goal.invariant-loop-call
invariant-loop-call l = record {
  same : l.copy.items ++ l.call-iterator ≡ l.calls.items;
  known : AllByRecursion IsCall l.copy.items;
}
