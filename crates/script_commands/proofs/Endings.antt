-- Where a text of a play was written, the script was played.
use Rattle.std.proofs.Common.{◌≡◌, ℕ, ◌⊎◌, inl, inr, arith}
use Rattle.script_commands.specs.Endings.{IsPlayStatus, IsUnplayed}

pub written-status : (n : ℕ) → (n ≡ 0) ⊎ (n ≡ 5) → IsPlayStatus n
written-status n (inl e) = inl e
written-status n (inr e) = inr (inr (inr (inl e)))

pub not-unplayed : {X : Type 0} (n : ℕ) → (n ≡ 0) ⊎ (n ≡ 5) → IsUnplayed n → X
not-unplayed n (inl e) (inl f) = absurd (omega (arith, e, f))
not-unplayed n (inl e) (inr (inl f)) = absurd (omega (arith, e, f))
not-unplayed n (inl e) (inr (inr f)) = absurd (omega (arith, e, f))
not-unplayed n (inr e) (inl f) = absurd (omega (arith, e, f))
not-unplayed n (inr e) (inr (inl f)) = absurd (omega (arith, e, f))
not-unplayed n (inr e) (inr (inr f)) = absurd (omega (arith, e, f))
