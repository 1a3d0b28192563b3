-- The rounds of a call that starts again: how many verbs they do, and the look with which each begins.
use Rattle.std.specs.Prelude.{◌≡◌, ◌≢◌, ℕ, zero, suc, ◌+◌, ◌-◌, ◌*◌, ◌≤◌, ◌==◌, ◌||◌, Bool, true, false, cond, List, ◌∷◌, Option, Some, None}
use Rattle.std.proofs.Common.{◌∙◌, ap, subst, arith}
use Rattle.slot_word.specs.declared.slots.Slot.{Slot}
use Rattle.node_words.specs.declared.geometry.Geometry.{Geometry}
use Rattle.verb_log.specs.declared.entry.Entry.{Entry}
use Rattle.verb_log.specs.declared.entry.Verb.TheVariants.{Swap}
use Rattle.verb_log.specs.Tables.{Past}
use Rattle.verbs.specs.Programs.{Prog, ask, do_verb, Within}
use Rattle.verbs.proofs.Progs.{Within-more}
use Rattle.race_laws.specs.Setting.{Setting}
use Rattle.race_laws.specs.Legal.{Legal}
use Rattle.pass_text.specs.declared.job.PassMode.TheVariants.{Look}
use Rattle.pass_text.specs.declared.passed.Held.{Held as HeldWord}
use Rattle.pass_text.specs.Pass.{pass}
use Rattle.pass_text.specs.Bound.{most_verbs}
use Rattle.pass_text.proofs.Bounds.{pass-within}
use Rattle.pass_laws.specs.SafeIn.{Calmly, SafeIn}
use Rattle.pass_laws.specs.Drops.{Drops}
use Rattle.pass_laws.specs.HasPassed.{HasPassed}
use Rattle.pass_laws.specs.Law.{MayBegin, IsJobOf}
use Rattle.pass_laws.proofs.Keeping.{drop_calmly, look_holds}
use Rattle.pass_laws.proofs.Rules.{by_weaker, by_kept}
use Rattle.pass_laws.proofs.Whole.{pass_safe}
use Rattle.call_laws.specs.Settling.{look_job, live_form, is_copied, after_settle, settle_first}

-- rounds are counted
pub one_more : (n r : ℕ) → r + n * r ≡ suc n * r
one_more n r = omega arith

pub all_rounds : (n r : ℕ) → 1 ≤ n → r + (n - 1) * r ≡ n * r
all_rounds zero r le = absurd (omega arith)
all_rounds (suc n) r le = let e : suc n - 1 ≡ n = omega arith in ap (λ v. r + v * r) e ∙ one_more n r

-- a look
pub look-within : (g : Geometry) (key : List ℕ) (h : ℕ) (entry : Option ℕ) → Within (most_verbs g.max_depth) (pass (look_job g key h) entry)
look-within g key h entry = subst (λ v. Within v (pass (look_job g key h) entry)) (none (most_verbs g.max_depth)) (pass-within (look_job g key h) entry g.deep)
  where
    none : (n : ℕ) → n + 138 * 0 ≡ n
    none n = omega arith

-- a Settle, and what follows it
pub settle-within : {A : Type 0} (n : ℕ) (h : HeldWord) (next : ℕ → Prog A) (lost : Prog A) → ((live : ℕ) → Within n (next live)) → Within n lost → (o : Option Slot) → Within (suc n) (settle_first h o next lost)
settle-within n h next lost f g None = Within-more n (suc n) (next h.word) (omega arith) (f h.word)
settle-within n h next lost f g (Some slot) = by (is_copied slot.mark)
  where
    found : (live : ℕ) (v : Bool) → Within n (cond v (next live) lost)
    found live true = f live
    found live false = g

    by : (v : Bool) → Within (suc n) (cond v (ask (do_verb None (Swap h.at h.word (live_form slot))) (after_settle h (live_form slot) next lost)) (next h.word))
    by true = λ word. found (live_form slot) ((word == h.word) || (word == live_form slot))
    by false = Within-more n (suc n) (next h.word) (omega arith) (f h.word)

-- a look is safe as part of a call, with what others keep: it makes no entry of its own
pub look_calm : (s : Setting) (c : ℕ) (g : Geometry) (key : List ℕ) (h : ℕ) → IsJobOf s (look_job g key h) → (start : Option ℕ) (q : Past) → Legal s q → MayBegin s key Look q start
    → (P : Past → Type 0) → ((y : Past) (e : Entry) → Legal s (e ∷ y) → e.client ≢ c → P y → P (e ∷ y)) → P q
    → SafeIn s c q (pass (look_job g key h) start) (λ y p. HasPassed s key Look q y p × P y)
look_calm s c g key h job start q l b P k pq =
    by_weaker (Drops Look) s c Calmly (λ x e d. drop_calmly s c Look x e d) q (pass (look_job g key h) start) (λ y p. HasPassed s key Look q y p × P y) (λ y p. HasPassed s key Look q y p × P y) (λ n a x. x)
    (by_kept (Drops Look) s c P (look_holds s c P k) q (pass (look_job g key h) start) (λ y p. HasPassed s key Look q y p) pq (pass_safe s c (look_job g key h) job start q l b))
