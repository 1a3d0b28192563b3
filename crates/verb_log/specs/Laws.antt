-- What the laws of kinds and roles say.
use Rattle.std.specs.Prelude.{◌≡◌, ◌↔◌, ℕ, ◌≤◌, List, take, reverse, Some, None}
use Rattle.node_words.specs.declared.geometry.Geometry.{Geometry}
use Rattle.verb_log.specs.declared.entry.Entry.{Entry}
use Rattle.verb_log.specs.declared.kind.Kind.{Kind}
use Rattle.verb_log.specs.declared.kind.Kind.TheVariants.{Store}
use Rattle.verb_log.specs.Tables.{Past, table_of, role}
use Rattle.verb_log.specs.Kinds.{kind}
use Rattle.verb_log.specs.Fits.{Fits, IsFirstRow}

-- the kind is the first row that fits
abbrev pub RowsAreKinds : Type 0
RowsAreKinds = (g : Geometry) (past : Past) (e : Entry) (k : Kind) → (kind g past e ≡ Some k) ↔ IsFirstRow g past e (role g past e.at) k

-- there is no kind exactly where no row fits
abbrev pub NoRowNoKind : Type 0
NoRowNoKind = (g : Geometry) (past : Past) (e : Entry) → (kind g past e ≡ None) ↔ ((k : Kind) → Fits g past e (role g past e.at) k → ⊥)

-- where the row Store does not fit, at most one row does
abbrev pub OneRow : Type 0
OneRow = (g : Geometry) (past : Past) (e : Entry) (j k : Kind) → (Fits g past e (role g past e.at) Store → ⊥) → Fits g past e (role g past e.at) j → Fits g past e (role g past e.at) k → j ≡ k

-- an address that stands in a table at a position of a log stands in that table, with the same role, at each later one
abbrev pub RolesStay : Type 0
RolesStay = (g : Geometry) (log : List Entry) (n m a t : ℕ) → n ≤ m → table_of g (reverse (take n log)) a ≡ Some t → (table_of g (reverse (take m log)) a ≡ Some t) × (role g (reverse (take m log)) a ≡ role g (reverse (take n log)) a)
