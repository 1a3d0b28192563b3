-- The kinds of entries on the header of a table and on that of a bucket, in one table.
use Rattle.std.specs.Prelude.{◌+◌, ◌==◌, Option, None}
use Rattle.verb_log.specs.declared.kind.Kind.{Kind}
use Rattle.verb_log.specs.declared.kind.Kind.TheVariants.{Ripen}
use Rattle.verb_log.specs.Decoded.{Header, PlainAt, SplittingAt, FillingAt}
use Rattle.verb_log.specs.Kinds.{only_if}

-- one kind starts a split and another one stops it
abbrev pub head_kind : Kind → Kind → Header → Header → Option Kind
head_kind starts stops (PlainAt d) (SplittingAt e) = only_if (e == d) starts
head_kind starts stops (SplittingAt d) (PlainAt e) = only_if (e == d + 1) stops
head_kind starts stops (FillingAt d) (PlainAt e) = only_if (e == d) Ripen
head_kind starts stops _ _ = None
