-- Where a record stands in the history, as a number.
use Rattle.std.specs.Prelude.{ℕ, ◌+◌, ◌*◌, nat_lt, if◌then◌else◌}
use Rattle.map_model.specs.declared.records.Record.{Record}
use Rattle.map_model.specs.Machine.{is_change}

-- the quiet records of a point come first and then its change, of the points below the number of changes; all others last
abbrev pub place_of : ℕ → Record → ℕ
place_of count r = if nat_lt r.point count then 2 * r.point + (if is_change r.reply then 1 else 0) else 2 * count
