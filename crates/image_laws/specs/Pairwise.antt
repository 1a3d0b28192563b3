-- Lists whose items stand in a relation, each to all behind it.
use Rattle.std.specs.Prelude.{List, [], ◌∷◌}
use Rattle.race_laws.specs.Standing.{IsIn}

-- each item of a list stands in the relation to all behind it
abbrev pub Pairwise : {A : Type 0} → (A → A → Type 0) → List A → Type 0
Pairwise R [] = Unit {0}
Pairwise {A = A} R (x ∷ xs) = ((y : A) → IsIn y xs → R x y) × Pairwise R xs
