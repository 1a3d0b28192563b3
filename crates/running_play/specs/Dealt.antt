-- The seats of a new memory, dealt in order.
use Rattle.std.specs.Prelude.{ℕ, zero, suc, ◌+◌, List, [], ◌∷◌, map, Option, Some, None}
use Rattle.std.specs.List.{range_with_len}
use Rattle.client_seat.specs.Seated.{Home, Seated, fresh_seat}

-- so many fresh seats, from this number on
abbrev pub fresh_seats : Home → ℕ → ℕ → List Seated
fresh_seats home n zero = []
fresh_seats home n (suc m) = fresh_seat home n ∷ fresh_seats home (n + 1) m

-- so many places whose seats are taken
abbrev pub taken_places : ℕ → List (Option Seated)
taken_places zero = []
taken_places (suc n) = None ∷ taken_places n

-- so many places with fresh seats, from this number on
abbrev pub fresh_places : Home → ℕ → ℕ → List (Option Seated)
fresh_places home n m = map (λ c. Some (fresh_seat home c)) (range_with_len n m)
