use Rattle.std.proofs.Common.{◌≡◌, length}
use Rattle.thread_play.specs.Seen.{ReadNexts}
use Rattle.thread_play.proofs.seen.read_nexts.Given as goal

-- the next words of the nodes so far
abbrev pub invariant-loop-number : goal.invariant-loop-number
invariant-loop-number l = record {
  reads : ReadNexts l.fn.node l.number l.node l.next;
  many : length l.next ≡ l.number;
  home : l.node.home ≡ l.fn.node.home;
}
