-- The key's header, and the levels that a header shows as gone. Of every log.
use Rattle.std.specs.Prelude.{ℕ, ◌*◌, ◌<◌, ◌≤◌, List, ◌⊎◌}
use Rattle.std.proofs.Common.{inl, inr, arith, ⊎_elim}
use Rattle.std.proofs.lemmas.Bool.{cases_lt}
use Rattle.bucket_group.proofs.CandidateLaws.{first_below}
use Rattle.node_words.proofs.Sizes.{some_groups}
use Rattle.verb_log.specs.Decoded.{Header, PlainAt, SplittingAt, FillingAt, NoHeader}
use Rattle.race_laws.specs.Setting.{Setting, hash, main_of}
use Rattle.race_laws.specs.Standing.{IsGone}

positive : (n : ℕ) → 1 ≤ n → 0 < n
positive n h = omega arith

-- the first main bucket of a key is a main bucket
pub main_below : (s : Setting) (key : List ℕ) → main_of s key < 2 * s.geometry.groups
main_below s key = first_below s.geometry.groups (hash s key) (positive s.geometry.groups (some_groups s.geometry))

below_or_not : (i d : ℕ) → (i < d) ⊎ (i < d → ⊥)
below_or_not i d = ⊎_elim (λ (x : i < d). inl x) (λ (x : d ≤ i). inr (λ y. omega arith)) (cases_lt i d)

up_to_or_not : (i d : ℕ) → (i ≤ d) ⊎ (i ≤ d → ⊥)
up_to_or_not i d = ⊎_elim (λ (x : d < i). inr (λ y. omega arith)) (λ (x : i ≤ d). inl x) (cases_lt d i)

-- a header shows a level gone, or it does not
pub gone_or_not : (h : Header) (i : ℕ) → IsGone h i ⊎ (IsGone h i → ⊥)
gone_or_not (PlainAt d) i = below_or_not i d
gone_or_not (SplittingAt d) i = up_to_or_not i d
gone_or_not (FillingAt d) i = below_or_not i d
gone_or_not NoHeader i = inr (λ x. x)
