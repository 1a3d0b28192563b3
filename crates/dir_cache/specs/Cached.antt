-- What a clause sees of a cached directory.
use Rattle.std.specs.Prelude.{ℕ, zero, suc, ◌%◌, ◌^◌, ◌==◌, List, Option, Some, None, slice_index_or, if◌then◌else◌}

-- an entry for each index below 2^depth: a table, or nothing where it is unknown
pub record Cached : Type 0 where
  pub depth : ℕ
  pub entries : List (Option ℕ)

-- the entry of a hash
abbrev pub entry_of : Cached → ℕ → Option ℕ
entry_of cache hash = slice_index_or cache.entries (hash % 2 ^ cache.depth) None

-- an entry that names this table becomes unknown
abbrev pub unless_names : ℕ → Option ℕ → Option ℕ
unless_names table None = None
unless_names table (Some t) = if t == table then None else Some t

-- the entry that a word keeps: the address of a table plus 1, or 0
abbrev pub entry_in : ℕ → Option ℕ
entry_in zero = None
entry_in (suc table) = Some table
