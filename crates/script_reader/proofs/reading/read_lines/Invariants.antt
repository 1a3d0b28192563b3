use Rattle.std.proofs.Common.{◌≡◌, ◌+◌, ◌≤◌, length}
use Rattle.spelling.specs.Words.{parts_at}
use Rattle.script_value.specs.Content.{no_content}
use Rattle.script_reader.specs.Rules.{read_lines}
use Rattle.script_reader.specs.Drafts.{reading_of}
use Rattle.script_reader.proofs.reading.read_lines.Given as goal

-- the lines that are left go on with what was read
abbrev pub invariant-lines : goal.invariant-lines
invariant-lines l = record {
  most : l.draft.most ≡ l.most;
  counted : l.number + length l.rest ≤ 4194307;
  same : read_lines l.draft.most l.number (reading_of l.draft) (parts_at 10 l.rest) ≡ read_lines l.most 3 (record { calls = 0; content = no_content }) (parts_at 10 l.bytes);
}

abbrev pub decreases-lines : goal.decreases-lines
decreases-lines l = length l.rest
