use Rattle.std.proofs.Common.{◌≡◌, None}
use Rattle.thread_play.proofs.Learning.{Learning}
use Rattle.thread_play.proofs.seen.learn.Given as goal

-- the searches so far
abbrev pub invariant-loop-i : goal.invariant-loop-i
invariant-loop-i l = record {
  none : l.client.cache ≡ None;
  learning : Learning l.keys l.initial.client.seat l.initial.client.state l.i l.client.seat l.client.state l.map;
}
