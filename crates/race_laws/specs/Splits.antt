-- Splits under way: places that are done with, and tables that no split touches.
use Rattle.std.specs.Prelude.{◌≡◌, ◌≢◌, ℕ, ◌+◌, ◌*◌, ◌<◌, ◌≤◌}
use Rattle.slot_word.specs.declared.slots.Mark.{Mark}
use Rattle.slot_word.specs.declared.slots.Mark.TheVariants.{Copied}
use Rattle.kv_block.specs.Packing.{Pair}
use Rattle.node_words.specs.declared.geometry.Geometry.{Geometry}
use Rattle.verb_log.specs.Decoded.{Body, Header, PlainAt, SplittingAt, FillingAt, NoHeader}
use Rattle.verb_log.specs.Tables.{Past, Before}
use Rattle.race_laws.specs.Setting.{Setting}
use Rattle.race_laws.specs.Standing.{IsTable, header_in, birth_in, child_in, bucket_in, depth, IsFilling, IsPlain, Exits, Word}

-- the split at depth d has opened: the header is (d, splitting) or deeper
abbrev pub IsOpen : Header → ℕ → Type 0
IsOpen (SplittingAt e) d = d ≤ e
IsOpen (PlainAt e) d = d < e
IsOpen (FillingAt e) d = d < e
IsOpen NoHeader d = ⊥

-- the place is clear for the split of table t at depth d: the split has opened, and the table's word there is no pending,
-- live or moved word of a key that leaves with this split
pub record IsClear (s : Setting) (past : Past) (t d p : ℕ) : Type 0 where
  pub table : IsTable s.geometry past t
  pub opened : IsOpen (header_in s.geometry past t) d
  pub clear : (m : Mark) (b : Body) (q : Pair) → Word s.geometry past m t p b q → Exits s past t q.key d → m ≡ Copied

-- the place was clear at a position up to this one
pub record WasClear (s : Setting) (past : Past) (t d p : ℕ) : Type 0 where
  pub at : Past
  pub before : Before at past
  pub clear : IsClear s at t d p

-- no split touches the table: its header is plain, each bucket header equals it, no child is linked at its depth, and the
-- child that its last split made is not filling
pub record IsQuiet (g : Geometry) (past : Past) (t : ℕ) : Type 0 where
  pub plain : IsPlain (header_in g past t)
  pub buckets : (m : ℕ) → m < 2 * g.groups → bucket_in g past t m ≡ header_in g past t
  pub no_child : depth (header_in g past t) < 16 → child_in g past t (depth (header_in g past t)) ≡ 0
  pub ripe : (d : ℕ) → depth (header_in g past t) ≡ d + 1 → (birth_in g past t).depth ≤ d → IsFilling (header_in g past (child_in g past t d)) → ⊥

-- c is the child of table t: what the child word at its header's depth names
pub record IsChild (g : Geometry) (past : Past) (t c : ℕ) : Type 0 where
  pub below : depth (header_in g past t) < g.max_depth
  pub linked : child_in g past t (depth (header_in g past t)) ≡ c
  pub some : c ≢ 0
