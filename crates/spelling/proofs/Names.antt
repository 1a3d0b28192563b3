-- Names of clients.
use Rattle.std.proofs.Common.{◌≡◌, ℕ, ◌<◌, ◌≤◌, true, List, [], ◌∷◌, length, arith, refl, Option, Some, None, IsTrue}
use Rattle.std.proofs.lemmas.Bool.{and_parts, and_from, or_right, leb-true, le-leb}
use Rattle.std.proofs.lemmas.Fmt.{length-decimal-le, digits_decimal}
use Rattle.std.specs.List.{list_all}
use Rattle.std.specs.Option.{SomeIff, IsSome}
use Rattle.std.specs.Fmt.{decimal}
use Rattle.spelling.specs.Spelling.{is_digit, is_small, is_name_byte}
use Rattle.spelling.specs.Words.{is_name, made_name}
use Rattle.spelling.proofs.Spelled.{own}

-- a name has at most 16 bytes
pub length-name : (bytes : List ℕ) → is_name bytes ≡ true → length bytes ≤ 16
length-name [] h = omega arith
length-name (b ∷ bs) h = let short = leb-true (length bs) 15 (and_parts _ _ h).1 in omega arith

-- digits may stand in a name
digits-named : (ds : List ℕ) → list_all is_digit ds ≡ true → list_all is_name_byte ds ≡ true
digits-named [] h = refl
digits-named (d ∷ ds) h =
    let parts = and_parts (is_digit d) (list_all is_digit ds) h in
    and_from _ _ (or_right (is_small d) (is_digit d) parts.0) (digits-named ds parts.1)

-- `c0` to `c15` are names
pub made-is-name : (place : ℕ) → place < 16 → IsTrue (is_name (made_name place))
made-is-name place h =
    let short = length-decimal-le 2 place (omega arith) (omega arith) (omega arith) in
    and_from _ _ (digits-named (decimal place) (digits_decimal own place (omega arith))) (le-leb (length (decimal place)) 15 (omega (arith, short)))

-- a name of these bytes is there
pub name-there : (o : Option (List ℕ)) (P : Type 0) (bytes : List ℕ) → SomeIff o P bytes → P → IsSome o
name-there (Some name) P bytes h p = refl
name-there None P bytes h p = absurd (h p)
