-- The blocks that a cache keeps, the most recent first, and the entries in which they stand.
use Rattle.std.specs.Prelude.{◌≡◌, ℕ, Bool, false, cond, nat_eq, List, [], ◌∷◌, Option, Some, None}
use Rattle.block_cache.specs.declared.recent.KeptBlock.{KeptBlock}

-- the entries of the cache below, the most recent first: each has its key, and a block or none
abbrev pub Entries : Type 0
Entries = List (ℕ × Option KeptBlock)

-- the key of an entry
abbrev pub key_of : ℕ × Option KeptBlock → ℕ
key_of entry = entry.0

-- the blocks among entries, in their order
abbrev pub kept : Entries → List KeptBlock
kept [] = []
kept ((key, None) ∷ entries) = kept entries
kept ((key, Some held) ∷ entries) = held ∷ kept entries

-- an entry has the block at this address
abbrev pub holds : ℕ → Option KeptBlock → Bool
holds block None = false
holds block (Some held) = nat_eq block held.at

-- the key of the first entry that has the block at this address
abbrev pub key_holding : ℕ → Entries → Option ℕ
key_holding block [] = None
key_holding block (entry ∷ entries) = cond (holds block entry.1) (Some entry.0) (key_holding block entries)

-- no entry with a block stands behind one without
abbrev pub IsPacked : Entries → Type 0
IsPacked [] = Unit {0}
IsPacked ((key, None) ∷ entries) = kept entries ≡ []
IsPacked ((key, Some held) ∷ entries) = IsPacked entries

-- the most recent block
abbrev pub first : List KeptBlock → Option KeptBlock
first [] = None
first (held ∷ helds) = Some held

-- the block that is kept at this address
abbrev pub found : ℕ → List KeptBlock → Option KeptBlock
found block [] = None
found block (held ∷ helds) = cond (nat_eq block held.at) (Some held) (found block helds)

-- the blocks without the one at this address
abbrev pub without : ℕ → List KeptBlock → List KeptBlock
without block [] = []
without block (held ∷ helds) = cond (nat_eq block held.at) helds (held ∷ without block helds)

-- the blocks with the one that was found at this address as the first; as they are where none was
abbrev pub with_first : Option KeptBlock → ℕ → List KeptBlock → List KeptBlock
with_first None block helds = helds
with_first (Some held) block helds = held ∷ without block helds

-- the blocks after a use of the one at this address: where it is kept it is the most recent, and the order of the others stays
abbrev pub to_front : ℕ → List KeptBlock → List KeptBlock
to_front block helds = with_first (found block helds) block helds

-- what a clause sees of blocks by recency: the blocks, the most recent first, and how many there may be
pub record Bounded : Type 0 where
  pub kept : List KeptBlock
  pub blocks : ℕ
