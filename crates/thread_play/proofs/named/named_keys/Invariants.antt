use Rattle.thread_play.specs.Named.{AreSeen}
use Rattle.thread_play.proofs.Naming.{NamedBefore}
use Rattle.thread_play.proofs.named.named_keys.Given as goal

-- the keys of the clients so far
abbrev pub invariant-loop-client : goal.invariant-loop-client
invariant-loop-client l = record {
  seen : AreSeen l.seen l.keys.items;
  named : NamedBefore l.script.content l.client l.keys.items;
}
