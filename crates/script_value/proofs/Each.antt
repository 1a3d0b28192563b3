-- Lists of which each item agrees with those before it.
use Rattle.std.proofs.Common.{List, [], ◌∷◌, ◌++◌, sym, subst, append_assoc, append-nil}
use Rattle.script_value.specs.Valid.{Each}

-- one item more
pub Each-push : {X : Type 0} (P : List X → X → Type 0) (front xs : List X) (x : X) → Each P front xs → P (front ++ xs) x → Each P front (xs ++ x ∷ [])
Each-push P front [] x h p = (subst (λ f. P f x) (append-nil front) p, tt)
Each-push P front (y ∷ ys) x h p = (h.0, Each-push P (front ++ y ∷ []) ys x h.1 (subst (λ f. P f x) (sym (append_assoc front (y ∷ []) ys)) p))
