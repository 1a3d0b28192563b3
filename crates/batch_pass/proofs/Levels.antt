-- The level at which a key leaves a table: it is below 16, and `leaves` answers it.
use Rattle.std.proofs.Common.{◌≡◌, ◌∙◌, ℕ, ◌<◌, Bool, true, false, Some, None, refl, sym, ap, arith}
use Rattle.std.specs.Prelude.{Option, cond, ◌↔◌, IfSome}
use Rattle.std.proofs.lemmas.Bool.Decides.{nat_tests}
use Rattle.slot_word.specs.declared.heads.Head.{Head}
use Rattle.slot_word.specs.declared.heads.State.{State}
use Rattle.slot_word.specs.declared.heads.State.TheVariants.{Plain, Splitting, Filling}
use Rattle.bucket_group.specs.ExitLevel.{exit_level}
use Rattle.bucket_group.proofs.ExitLaws.{exit-below}
use Rattle.verb_log.specs.Decoded.{header_with}
use Rattle.race_laws.specs.Standing.{IsGone}
use Rattle.pass_text.specs.Words.{is_gone, level_if_gone, level_left}

-- the test of the text and the fact of the laws
is_gone-fact : (s : State) (d i : ℕ) → is_gone s d i ≡ true → IsGone (header_with d s) i
is_gone-fact Plain d i e = grind (arith, nat_tests)
is_gone-fact Splitting d i e = grind (arith, nat_tests)
is_gone-fact Filling d i e = grind (arith, nat_tests)

is_gone-true : (s : State) (d i : ℕ) → IsGone (header_with d s) i → is_gone s d i ≡ true
is_gone-true Plain d i e = grind (arith, nat_tests, e)
is_gone-true Splitting d i e = grind (arith, nat_tests, e)
is_gone-true Filling d i e = grind (arith, nat_tests, e)

stays : (head : Head) (k : ℕ) (v : Bool) → is_gone head.state head.depth k ≡ v → (IsGone (header_with head.depth head.state) k → ⊥) → cond v (Some k) None ≡ None
stays head k true e never = absurd (never (is_gone-fact head.state head.depth k e))
stays head k false e never = refl

leaves_by : (head : Head) (e : Option ℕ) (k : ℕ) → e ≡ Some k → IsGone (header_with head.depth head.state) k → level_if_gone head e ≡ Some k
leaves_by head e k is gone =
    ap (level_if_gone head) is ∙ ap (λ (v : Bool). cond v (Some k) None) (is_gone-true head.state head.depth k gone)

by_exit : (head : Head) (e o : Option ℕ) → ((i : ℕ) → (o ≡ Some i) ↔ ((e ≡ Some i) × IsGone (header_with head.depth head.state) i)) → o ≡ level_if_gone head e
by_exit head None None h = refl
by_exit head (Some k) None h = sym (stays head k _ refl (λ gone. let is = (h k).1 (refl, gone) in absurd (cc)))
by_exit head e (Some k) h = let both = (h k).0 refl in sym (leaves_by head e k both.0 both.1)

pub level_left-answer : (hash b : ℕ) (head : Head) (o : Option ℕ)
    → ((i : ℕ) → (o ≡ Some i) ↔ ((exit_level hash b ≡ Some i) × IsGone (header_with head.depth head.state) i)) → o ≡ level_left hash b head
unfolding level_left
level_left-answer hash b head o h = by_exit head (exit_level hash b) o h

pub level_left-low : (hash b : ℕ) (head : Head) (o : Option ℕ)
    → ((i : ℕ) → (o ≡ Some i) ↔ ((exit_level hash b ≡ Some i) × IsGone (header_with head.depth head.state) i)) → IfSome o (λ level. level < 16)
level_left-low hash b head None h = tt
level_left-low hash b head (Some k) h = exit-below hash b k ((h k).0 refl).0
