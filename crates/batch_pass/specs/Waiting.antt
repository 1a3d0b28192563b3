-- Posted reads as a machine keeps them: for each place, in the order of posting, whether the read is done, and its word.
use Rattle.std.specs.Prelude.{ℕ, zero, suc, Bool, true, false, List, [], ◌∷◌}
use Rattle.post_text.specs.Posts.{Posted, waits, has}

-- how many of the first n wait
abbrev pub open_in : ℕ → List Bool → ℕ
open_in zero done = 0
open_in (suc n) [] = 0
open_in (suc n) (true ∷ done) = open_in n done
open_in (suc n) (false ∷ done) = suc (open_in n done)

-- how many wait
abbrev pub opens : List Bool → ℕ
opens [] = 0
opens (true ∷ done) = opens done
opens (false ∷ done) = suc (opens done)

-- the place of the one of this number among those that wait
abbrev pub nth_open : List Bool → ℕ → ℕ
nth_open [] i = 0
nth_open (true ∷ done) i = suc (nth_open done i)
nth_open (false ∷ done) zero = 0
nth_open (false ∷ done) (suc i) = suc (nth_open done i)

abbrev pub cell : ℕ → ℕ → Bool → Posted
cell at word true = has at word
cell at word false = waits at

-- the reads of these addresses, with their words and whether they are done
abbrev pub cells : List ℕ → List ℕ → List Bool → List Posted
cells [] words done = []
cells (at ∷ ats) [] done = []
cells (at ∷ ats) (word ∷ words) [] = []
cells (at ∷ ats) (word ∷ words) (d ∷ done) = cell at word d ∷ cells ats words done
