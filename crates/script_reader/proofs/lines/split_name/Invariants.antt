use Rattle.std.proofs.Common.{length, ◌-◌, ◌≡◌, ◌≤◌, ◌++◌, take, drop}
use Rattle.script_reader.specs.Rules.{item_name, item_rest}
use Rattle.script_reader.proofs.lines.split_name.Given as goal

-- the bytes so far are in the name
abbrev pub invariant-loop-len : goal.invariant-loop-len
invariant-loop-len l = record {
  within : l.len ≤ length l.word;
  name : take l.len l.word ++ item_name (drop l.len l.word) ≡ item_name l.word;
  rest : item_rest (drop l.len l.word) ≡ item_rest l.word;
}

abbrev pub decreases-loop-len : goal.decreases-loop-len
decreases-loop-len l = length l.word - l.len
