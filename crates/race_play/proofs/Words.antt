-- Words that are no command.
use Rattle.std.proofs.Common.{◌≡◌, ◌≢◌, ℕ, List, [], ◌∷◌, length, refl, None}
use Rattle.race_play.specs.Commands.{command_of}

-- they are neither one nor four
pub no-command : (words : List (List ℕ)) → length words ≢ 1 → length words ≢ 4 → command_of words ≡ None
no-command [] one four = refl
no-command (a ∷ []) one four = absurd (one refl)
no-command (a ∷ b ∷ []) one four = refl
no-command (a ∷ b ∷ c ∷ []) one four = refl
no-command (a ∷ b ∷ c ∷ d ∷ []) one four = absurd (four refl)
no-command (a ∷ b ∷ c ∷ d ∷ e ∷ words) one four = refl
