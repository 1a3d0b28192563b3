-- Words that are cut into pieces, one for each item.
use Rattle.std.specs.declared.alloc.Global.{Global}
use Rattle.std.specs.Prelude.{◌≡◌, ℕ, ◌+◌, ◌≤◌, ◌&&◌, nat_le, nat_lt, if◌then◌else◌, List, [], ◌∷◌, Vec, vec_len, vec_capacity}
use Rattle.std.specs.List.{between}

-- the pieces of words, from `at` on, that end at these places
abbrev pub pieces : ℕ → List ℕ → List ℕ → List (List ℕ)
pieces at words [] = []
pieces at words (e ∷ ends) = between at e words ∷ pieces e words ends

-- the places rise from `at` on, and the last is the end
abbrev pub IsCut : ℕ → ℕ → List ℕ → Type 0
IsCut at n [] = at ≡ n
IsCut at n (e ∷ ends) = (at ≤ e) × IsCut e n ends

-- 1 where so many words and one more place fit, else 0
abbrev pub room_of : ℕ → Vec ℕ Global → Vec ℕ Global → ℕ
room_of most words ends = if nat_le (vec_len words + most) (vec_capacity words) && nat_lt (vec_len ends) (vec_capacity ends) then 1 else 0
