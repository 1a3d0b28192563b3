use Rattle.std.proofs.Common.{◌≡◌, length}
use Rattle.play_lines.specs.PlayLines.{AreListed}
use Rattle.play_lines.proofs.lines.places_of.Given as goal

-- the places of the records so far
abbrev pub invariant-loop-place : goal.invariant-loop-place
invariant-loop-place l = record {
  number : length l.lists.items ≡ l.clients;
  listed : AreListed l.records.items l.place l.lists.items;
}
