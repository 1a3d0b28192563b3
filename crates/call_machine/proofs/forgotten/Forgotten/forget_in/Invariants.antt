use Rattle.std.proofs.Common.{◌≡◌, take}
use Rattle.call_texts.specs.State.{forgetting}
use Rattle.call_machine.proofs.forgotten.Forgotten.forget_in.Given as goal

-- the cache has forgotten the tables before the index
abbrev pub invariant-loop-table : goal.invariant-loop-table
invariant-loop-table l = (l.table-items ≡ l.self) × (l.cache ≡ forgetting (take l.table-index l.table-items) l.fn.cache)
