-- Schedule lines, none of which is empty.
use Rattle.std.proofs.Common.{◌≡◌, ◌==◌, ◌++◌, ℕ, suc, List, [], ◌∷◌, length, refl, sym, arith}
use Rattle.std.proofs.lemmas.Bool.{ne_eqb}
use Rattle.std.specs.List.{AllByRecursion, flat_map}
use Rattle.map_model.specs.declared.plans.Item.{Item}
use Rattle.spelling.specs.Words.{is_empty}
use Rattle.script_value.specs.Valid.{IsSchedule}

-- there is no item exactly where there is no line
pub no_items : (clients : ℕ) (lines : List (List Item)) → AllByRecursion (IsSchedule clients) lines → is_empty lines ≡ (length (flat_map (λ line. line) lines) == 0)
no_items clients [] known = refl
no_items clients ([] ∷ lines) known = absurd (omega (arith, known.0.0))
no_items clients ((i ∷ is) ∷ lines) known = sym (ne_eqb (suc (length (is ++ flat_map (λ line. line) lines))) 0 (λ e. omega (arith, e)))
