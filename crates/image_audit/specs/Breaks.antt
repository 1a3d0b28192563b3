-- Words of a walk that meet a rule one after the other, and the first that does not.
use Rattle.std.specs.Prelude.{◌≡◌, ℕ, List, [], ◌∷◌, ◌++◌}
use Rattle.image_laws.specs.Walk.{WalkWord, address_of}

-- behind these words, each of the others meets the rule, given those before it
abbrev pub AllMeet : (List WalkWord → WalkWord → Type 0) → List WalkWord → List WalkWord → Type 0
AllMeet R before [] = Unit {0}
AllMeet R before (x ∷ xs) = R before x × AllMeet R (before ++ x ∷ []) xs

-- behind these words, one of the others breaks the rule, those before it meet it, and this is its address
pub record Breaks (R : List WalkWord → WalkWord → Type 0) (before xs : List WalkWord) (at : ℕ) : Type 0 where
  pub front : List WalkWord
  pub word : WalkWord
  pub rest : List WalkWord
  pub is : xs ≡ front ++ word ∷ rest
  pub meets : AllMeet R before front
  pub breaks : R (before ++ front) word → ⊥
  pub address : at ≡ address_of word
