use Rattle.std.proofs.Common.{◌≢◌, ℕ, ◌<◌, ◌≤◌, drop, length, Some}
use Rattle.map_model.specs.Machine.{key_of, reply_of, map_at}
use Rattle.map_model.specs.Moments.{Steady}
use Rattle.map_model.proofs.timeline.first_from.Given as goal

-- no moment from `lo` up to `start` gives the reply, and from there on the key has `value` up to the next place
abbrev pub invariant-loop-place : goal.invariant-loop-place
invariant-loop-place l = record {
  low : l.lo ≤ l.start;
  high : l.start ≤ length l.changes.items;
  steady : Steady l.changes.items (key_of l.call) l.value l.start (drop l.place-index l.places);
  before : (n : ℕ) → l.lo ≤ n → n < l.start → reply_of (map_at l.changes.items n) l.call ≢ Some l.reply;
}
