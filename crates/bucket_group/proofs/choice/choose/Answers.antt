use Rattle.std.proofs.Common.{◌≡◌, ◌∙◌, ℕ, ◌⊎◌, length, ap, subst}
use Rattle.bucket_group.specs.Choice.{choice}
use Rattle.bucket_group.proofs.ChoiceLaws.{choice-tells_first, choice-tells_some, choice-tells_none}
use Rattle.bucket_group.proofs.choice.choose.Goals as goal

-- the two numbers of candidates
count_two : (n m : ℕ) → m ≡ n → (m ≡ 21) ⊎ (m ≡ 28) → (n ≡ 21) ⊎ (n ≡ 28)
count_two n m e h = subst (λ k. (k ≡ 21) ⊎ (k ≡ 28)) e h

pub returns-clause-choice : goal.returns-clause-choice
returns-clause-choice c = c.choice_among.ensures ∙ ap (λ n. choice n c.args.free.now) c.len-candidates.ensures.len

pub returns-clause-first : goal.returns-clause-first
returns-clause-first c =
    choice-tells_first (length c.args.places.now) c.args.free.now c.choice_among.result
    (c.choice_among.ensures ∙ ap (λ n. choice n c.args.free.now) c.len-candidates.ensures.len)

pub returns-clause-some : goal.returns-clause-some
returns-clause-some c =
    choice-tells_some (length c.args.places.now) c.args.free.now c.choice_among.result (count_two _ _ c.len-candidates.ensures.len c.len-candidates.ensures.two)
    (c.choice_among.ensures ∙ ap (λ n. choice n c.args.free.now) c.len-candidates.ensures.len)

pub returns-clause-none : goal.returns-clause-none
returns-clause-none c =
    choice-tells_none (length c.args.places.now) c.args.free.now c.choice_among.result (count_two _ _ c.len-candidates.ensures.len c.len-candidates.ensures.two)
    (c.choice_among.ensures ∙ ap (λ n. choice n c.args.free.now) c.len-candidates.ensures.len)
