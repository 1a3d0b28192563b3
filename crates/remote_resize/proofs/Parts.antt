-- One part of a split after another.
use Rattle.std.specs.Prelude.{◌≡◌, ℕ, zero, suc, ◌+◌, ◌-◌, ◌≤◌, IsSome}
use Rattle.std.proofs.Common.{sym, ◌∙◌, ap, subst, arith}
use Rattle.node_words.specs.declared.geometry.Geometry.{Geometry}
use Rattle.verbs.specs.Programs.{Prog, bind, after, asked, next_act}
use Rattle.verbs.proofs.Progs.{next_verb-bind, block_of-bind, asked-bind, outcome-bind, after-bind}
use Rattle.split_text.specs.declared.site.Site.{Site}
use Rattle.split_text.specs.declared.moved.MoveEnd.{MoveEnd}
use Rattle.split_text.specs.Words.{place_of, slot_count, cut}
use Rattle.split_text.specs.Move.{judge, move}
use Rattle.split_text.specs.Text.{after_move, slots, resume_at}

-- a slot, and those that follow
pub slots_more : (g : Geometry) (c : ℕ) (site : Site) (n i left : ℕ) (program : Prog MoveEnd) → program ≡ move site (place_of i) 0 left → 1 ≤ n → bind program (λ e. after_move g c site i (slots g c site (n - 1) (i + 1)) e e.outcome) ≡ slots g c site n i left
slots_more g c site zero i left program e h = absurd (omega arith)
slots_more g c site (suc n) i left program e h = ap (λ p. bind p (λ e. after_move g c site i (slots g c site (suc n - 1) (i + 1)) e e.outcome)) e ∙ ap (λ m. bind (move site (place_of i) 0 left) (λ e. after_move g c site i (slots g c site m (i + 1)) e e.outcome)) (minus n)
  where
    minus : (n : ℕ) → suc n - 1 ≡ n
    minus n = omega arith

-- an act of the first part, and then what is left of both
pub after_part : {A B : Type 0} (p q : Prog A) (f g : A → Prog B) (r : Prog B) (answer : ℕ) → IsSome (next_act p) → q ≡ after p answer → g ≡ f → r ≡ bind q g → r ≡ after (bind p f) answer
after_part p q f g r answer h e k m = m ∙ ap (λ x. bind x g) e ∙ ap (bind (after p answer)) k ∙ sym (after-bind p f answer h)

-- the question of both is that of the first
pub asked_part : {A B : Type 0} (p : Prog A) (f : A → Prog B) → IsSome (next_act p) → IsSome (asked (bind p f)) → IsSome (asked p)
asked_part p f h k = subst (λ v. IsSome v) (asked-bind p f h) k

-- a place that is gone on with
pub resumed_on : (g : Geometry) (c : ℕ) (site from : Site) (slot i place more word copy left : ℕ) (p : Prog MoveEnd) → p ≡ judge site place (left - 1) word copy → site ≡ cut from → slot ≡ i → place ≡ place_of i → more ≡ slot_count g - (i + 1) → bind p (λ e. after_move g c site slot (slots g c site more (slot + 1)) e e.outcome) ≡ resume_at g c (cut from) i word copy left
resumed_on g c site from slot i place more word copy left p e es ei ep em = ap (λ q. bind q (λ x. after_move g c site slot (slots g c site more (slot + 1)) x x.outcome)) e ∙ (λ k. bind (judge (es k) (ep k) (left - 1) word copy) (λ x. after_move g c (es k) (ei k) (slots g c (es k) (em k) (ei k + 1)) x x.outcome))

pub ruleset slots_left = (slots_more)

pub ruleset binds = (next_verb-bind, block_of-bind, asked-bind, outcome-bind, after-bind)
