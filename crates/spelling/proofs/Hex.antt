-- Hexadecimal digits.
use Rattle.std.proofs.Common.{◌≡◌, ℕ, ◌-◌, ◌≤◌, List, [], ◌∷◌, ◌++◌, Option, Some, None, length, take, drop, get_or, refl, sym, ap, ◌∙◌, append_assoc, arith}
use Rattle.std.proofs.lemmas.List.{take_all}
use Rattle.spelling.specs.Words.{in_front, hex_bytes, hex_pair, hex_value}

-- bytes, and those behind them that may be there
abbrev pub behind : List ℕ → Option (List ℕ) → Option (List ℕ)
behind bytes (Some others) = Some (bytes ++ others)
behind bytes None = None

pub behind-nothing : (o : Option (List ℕ)) → behind [] o ≡ o
behind-nothing (Some others) = refl
behind-nothing None = refl

-- one byte more
pub behind-push : (bytes : List ℕ) (b : ℕ) (o : Option (List ℕ)) → behind (bytes ++ b ∷ []) o ≡ behind bytes (in_front (Some b) o)
behind-push bytes b (Some others) = ap Some (append_assoc bytes (b ∷ []) others)
behind-push bytes b None = refl

-- the bytes of two digits and those behind them
pub hex-pair : (rest : List ℕ) (b : ℕ) → 2 ≤ length rest → hex_pair (hex_value (get_or rest 0 0)) (hex_value (get_or rest 1 0)) ≡ Some b
    → hex_bytes rest ≡ in_front (Some b) (hex_bytes (take (length rest - 2) (drop 2 rest)))
hex-pair [] b two pair = absurd (omega arith)
hex-pair (h ∷ []) b two pair = absurd (omega arith)
hex-pair (h ∷ l ∷ others) b two pair =
    ap (λ p. in_front p (hex_bytes others)) pair
    ∙ ap (λ r. in_front (Some b) (hex_bytes r)) (sym (take_all (length (h ∷ l ∷ others) - 2) others (omega arith)))

-- two digits more are read
pub hex-step : (bytes rest digits : List ℕ) (b : ℕ) → 2 ≤ length rest → behind bytes (hex_bytes rest) ≡ hex_bytes digits
    → hex_pair (hex_value (get_or rest 0 0)) (hex_value (get_or rest 1 0)) ≡ Some b
    → behind (bytes ++ b ∷ []) (hex_bytes (take (length rest - 2) (drop 2 rest))) ≡ hex_bytes digits
hex-step bytes rest digits b two same pair =
    behind-push bytes b (hex_bytes (take (length rest - 2) (drop 2 rest))) ∙ ap (behind bytes) (sym (hex-pair rest b two pair)) ∙ same
