use Rattle.std.proofs.Common.{◌≡◌, ◌++◌, drop}
use Rattle.script_value.specs.Valid.{Each, IsHash}
use Rattle.script_value.proofs.body.Body.placer.Given as goal

-- the keys so far, and those that are left
abbrev pub invariant-loop-key : goal.invariant-loop-key
invariant-loop-key l = record {
  fresh : Each IsHash l.listed (drop l.key-index l.self.hashes);
  same : l.listed ++ drop l.key-index l.self.hashes ≡ l.self.hashes;
}
