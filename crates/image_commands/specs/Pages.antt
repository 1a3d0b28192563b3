-- What a page is to the text that goes to a sink by way of it.
use Rattle.std.specs.Prelude.{◌≡◌, ℕ, List, ◌++◌, Option}
use Rattle.std.specs.Io.KnownBytes.{Appends}

-- the front of a text was written, and its rest stands on the page
abbrev pub Moves : Option (List ℕ) → Option (List ℕ) → List ℕ → List ℕ → Type 0
Moves taken_old taken_new page text = (done : List ℕ) × Appends taken_old taken_new done × (text ≡ done ++ page)
