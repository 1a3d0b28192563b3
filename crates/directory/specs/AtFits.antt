-- What is known of each place where a naming stands.
use Rattle.std.specs.Prelude.{ℕ, ◌+◌, ◌*◌, ◌≤◌, ◌^◌}
use Rattle.std.proofs.Props.{props}
use Rattle.directory.specs.declared.naming.Naming.{Naming}
use Rattle.directory.specs.declared.progress.Progress.{Progress}
use Rattle.directory.specs.declared.at.At.{At}
use Rattle.directory.specs.declared.at.At.TheVariants.{Depth, Lower, Upper, Deepen, Word, Birth, Name, Done}
use Rattle.directory.specs.Text.{old_depth, step}

-- the directory is doubled: the child was not born deeper than a table may be
abbrev pub MayDouble : Naming → Type 0
MayDouble t = (1 ≤ t.birth.depth) × (t.birth.depth ≤ 16)

-- n upper words are left from this index on
abbrev pub AreUpper : Naming → ℕ → ℕ → Type 0
AreUpper t n index = (2 ^ old_depth t ≤ index) × (index + n ≤ 2 ^ 17)

-- n indices with the child's suffix are left from this one on
abbrev pub AreIndices : Naming → ℕ → ℕ → Type 0
AreIndices t n index = (t.birth.depth ≤ 16) × (index + n * step t ≤ 2 ^ 17)

abbrev pub AtFits : Naming → Progress → At → Type 0
AtFits t s Depth = Unit {0}
AtFits t s Lower = MayDouble t × AreUpper t (s.left + 1) s.index
AtFits t s Upper = MayDouble t × AreUpper t (s.left + 1) s.index
AtFits t s Deepen = MayDouble t
AtFits t s Word = AreIndices t (s.left + 1) s.index
AtFits t s Birth = AreIndices t (s.left + 1) s.index
AtFits t s Name = AreIndices t (s.left + 1) s.index
AtFits t s Done = Unit {0}

pub AtFits-prop : (t : Naming) (s : Progress) (at : At) → IsProp (AtFits t s at)
AtFits-prop t s Depth = Prim.hlevel props
AtFits-prop t s Lower = Prim.hlevel props
AtFits-prop t s Upper = Prim.hlevel props
AtFits-prop t s Deepen = Prim.hlevel props
AtFits-prop t s Word = Prim.hlevel props
AtFits-prop t s Birth = Prim.hlevel props
AtFits-prop t s Name = Prim.hlevel props
AtFits-prop t s Done = Prim.hlevel props
