use Rattle.thread_play.specs.Named.{AreSeen, AreKept}
use Rattle.thread_play.proofs.Naming.{NamedSoFar}
use Rattle.thread_play.proofs.named.name_all.Given as goal

-- the keys of the calls so far
abbrev pub invariant-loop-i : goal.invariant-loop-i
invariant-loop-i l = record {
  seen : AreSeen l.seen l.keys.items;
  kept : AreKept l.initial.keys.items l.keys.items;
  named : NamedSoFar l.calls.items l.i l.keys.items;
}
