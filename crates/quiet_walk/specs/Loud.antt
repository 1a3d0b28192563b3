-- Words of a walk that are quiet, and the first that is not.
use Rattle.std.specs.Prelude.{◌≡◌, ℕ, List, ◌∷◌, ◌++◌, Option, Some, None}
use Rattle.node_words.specs.declared.geometry.Geometry.{Geometry}
use Rattle.race_laws.specs.Standing.{IsIn}
use Rattle.image_laws.specs.Walk.{Words, WalkWord, address_of}
use Rattle.image_laws.specs.Quiet.{QuietAt, AreQuiet, FirstLoud}

-- each of these words of a walk is quiet
abbrev pub AllQuiet : Words → List WalkWord → Type 0
AllQuiet w xs = (x : WalkWord) → IsIn x xs → QuietAt w x

-- one of these words of a walk is not quiet, those before it are, and this is its address
pub record Loud (w : Words) (xs : List WalkWord) (at : ℕ) : Type 0 where
  pub front : List WalkWord
  pub word : WalkWord
  pub rest : List WalkWord
  pub is : xs ≡ front ++ word ∷ rest
  pub quiet : AllQuiet w front
  pub breaks : QuietAt w word → ⊥
  pub address : at ≡ address_of word

-- the words are quiet, or this is the address of the first word of the walk that is not
abbrev pub IsFirstLoud : Geometry → Words → Option ℕ → Type 0
IsFirstLoud g w None = AreQuiet g w
IsFirstLoud g w (Some at) = (x : WalkWord) × FirstLoud g w x × (at ≡ address_of x)
