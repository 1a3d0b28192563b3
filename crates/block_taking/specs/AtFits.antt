-- What is known of each place where a taking stands.
use Rattle.std.specs.Prelude.{◌≡◌, ℕ, ◌+◌, ◌≤◌, ◌<◌, ◌^◌}
use Rattle.std.proofs.Props.{props}
use Rattle.block_taking.specs.declared.taking.Taking.{Taking}
use Rattle.block_taking.specs.declared.progress.Progress.{Progress}
use Rattle.block_taking.specs.declared.at.At.{At}
use Rattle.block_taking.specs.declared.at.At.TheVariants.{Read, Area, Alone, Write, Taken, NoBlock, Spent}
use Rattle.block_taking.specs.Text.{need, end_of}

-- a node of the memory is tried
abbrev pub IsTried : Taking → Progress → Type 0
IsTried t s = s.node < t.geometry.nodes

-- .. in which so many words are left
abbrev pub HasRoom : Taking → Progress → ℕ → Type 0
HasRoom t s words = (s.next + words ≤ end_of t s.node) × (s.next ≤ 2 ^ 27) × (1 ≤ s.left)

-- a word of the block is written
abbrev pub IsWriting : Taking → Progress → Type 0
IsWriting t s = (s.index + s.after + 1 ≡ need t) × (s.index + s.after < 137) × (s.block < 2 ^ 46)

abbrev pub AtFits : Taking → Progress → At → Type 0
AtFits t s Read = IsTried t s
AtFits t s Area = IsTried t s × HasRoom t s 65536
AtFits t s Alone = IsTried t s × HasRoom t s (need t)
AtFits t s Write = IsWriting t s
AtFits t s Taken = Unit {0}
AtFits t s NoBlock = Unit {0}
AtFits t s Spent = Unit {0}

pub AtFits-prop : (t : Taking) (s : Progress) (at : At) → IsProp (AtFits t s at)
AtFits-prop t s Read = Prim.hlevel props
AtFits-prop t s Area = Prim.hlevel props
AtFits-prop t s Alone = Prim.hlevel props
AtFits-prop t s Write = Prim.hlevel props
AtFits-prop t s Taken = Prim.hlevel props
AtFits-prop t s NoBlock = Prim.hlevel props
AtFits-prop t s Spent = Prim.hlevel props
