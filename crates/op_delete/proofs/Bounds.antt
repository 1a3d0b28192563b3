-- A delete ends within its bound, whatever is answered.
use Rattle.std.specs.Prelude.{◌≡◌, ℕ, zero, suc, ◌+◌, ◌-◌, ◌*◌, ◌≤◌, ◌==◌, Bool, true, false, cond, List, Option, Some, None, IsSome, refl}
use Rattle.std.proofs.Common.{subst, arith}
use Rattle.slot_word.specs.Slots.{slot_of}
use Rattle.node_words.specs.declared.geometry.Geometry.{Geometry}
use Rattle.verbs.specs.Programs.{Prog, bind, next_act, Within}
use Rattle.verbs.proofs.Progs.{Within-more, Within-bind}
use Rattle.pass_text.specs.declared.passed.PassEnd.{PassEnd}
use Rattle.pass_text.specs.declared.passed.PassEnd.TheVariants.{Held, Clear, Gone, Spent}
use Rattle.pass_text.specs.Pass.{pass}
use Rattle.pass_text.specs.Bound.{most_verbs}
use Rattle.call_laws.specs.Settling.{look_job}
use Rattle.call_laws.proofs.Rounds.{one_more, all_rounds, look-within, settle-within}
use Rattle.op_delete.specs.declared.end.DeleteEnd.{DeleteEnd}
use Rattle.op_delete.specs.declared.end.DeleteOutcome.TheVariants.{Deleted}
use Rattle.op_delete.specs.Text.{ended, remove_word, on_end, after_look, again, delete}
use Rattle.op_delete.specs.Bound.{delete_round, delete_verbs}

module _ (g : Geometry) (key : List ℕ) (h : ℕ) where
  abbrev round : ℕ
  round = delete_round g.max_depth

  end-within : (n lost t : ℕ) (goes : ℕ → Prog DeleteEnd) → ((u : ℕ) → Within n (goes u)) → (e : PassEnd) → Within (suc (suc n)) (on_end lost goes t e)
  end-within n lost t goes f (Held w) = settle-within (suc n) w (remove_word lost goes w t) (goes t) (λ live found. by live found (found == live)) (Within-more n (suc n) (goes t) (omega arith) (f t)) (slot_of w.word)
    where
      by : (live found : ℕ) (v : Bool) → Within n (cond v (ended (Deleted w) t lost) (goes t))
      by live found true = tt
      by live found false = f t
  end-within n lost t goes f Clear = tt
  end-within n lost t goes f Gone = tt
  end-within n lost t goes f Spent = tt

  from-within : (n lost : ℕ) (goes : ℕ → Prog DeleteEnd) → ((u : ℕ) → Within n (goes u)) → (entry : Option ℕ) → Within (round + n) (bind (pass (look_job g key h) entry) (after_look lost goes))
  from-within n lost goes f entry =
      subst (λ v. Within v (bind (pass (look_job g key h) entry) (after_look lost goes))) (sum (most_verbs g.max_depth) n)
      (Within-bind (most_verbs g.max_depth) (suc (suc n)) (pass (look_job g key h) entry) (after_look lost goes) (look-within g key h entry) (λ p. end-within n lost p.table goes f p.end))
    where
      sum : (k n : ℕ) → k + suc (suc n) ≡ k + 2 + n
      sum k n = omega arith

  again-within : (left lost t : ℕ) → Within (left * round) (again (look_job g key h) left lost t)
  unfolding again
  again-within zero lost t = tt
  again-within (suc left) lost t =
      subst (λ v. Within v (again (look_job g key h) (suc left) lost t)) (one_more left round)
      (from-within (left * round) lost (again (look_job g key h) left (lost + 1)) (λ u. again-within left (lost + 1) u) (Some t))

  pub delete-within : (tries : ℕ) → 1 ≤ tries → (entry : Option ℕ) → Within (delete_verbs g.max_depth tries) (delete (look_job g key h) tries entry)
  delete-within tries some entry =
      subst (λ v. Within v (delete (look_job g key h) tries entry)) (all_rounds tries round some)
      (from-within ((tries - 1) * round) 0 (again (look_job g key h) (tries - 1) 1) (λ u. again-within (tries - 1) 1 u) entry)

  -- it begins with a verb
  pub delete-waits : (tries : ℕ) (entry : Option ℕ) → IsSome (next_act (delete (look_job g key h) tries entry))
  delete-waits tries None = refl
  delete-waits tries (Some t) = refl
