-- The swaps that a delete and an update lose.
use Rattle.std.specs.Prelude.{◌≡◌, ℕ, zero, suc, ◌+◌, ◌-◌, ◌≤◌, ◌==◌, ◌||◌, Bool, true, false, cond, List, Option, Some, None, refl}
use Rattle.std.proofs.Common.{arith}
use Rattle.std.proofs.lemmas.Bool.Decides.{nat_tests}
use Rattle.slot_word.specs.declared.slots.Slot.{Slot}
use Rattle.slot_word.specs.Slots.{slot_of}
use Rattle.verb_log.specs.declared.entry.Verb.TheVariants.{Swap}
use Rattle.verbs.specs.Programs.{Prog, bind}
use Rattle.pass_text.specs.declared.job.Job.{Job}
use Rattle.pass_text.specs.declared.passed.Held.{Held as HeldWord}
use Rattle.pass_text.specs.declared.passed.Passed.{Passed}
use Rattle.pass_text.specs.declared.passed.PassEnd.{PassEnd}
use Rattle.pass_text.specs.declared.passed.PassEnd.TheVariants.{Held, Clear, Gone, Spent}
use Rattle.pass_text.specs.Pass.{pass}
use Rattle.call_laws.specs.Settling.{live_form, is_copied, settle_first}
use Rattle.block_taking.specs.declared.taking.Area.{Area}
use Rattle.block_taking.specs.declared.taking.TakeEnd.{TakeEnd}
use Rattle.block_taking.specs.declared.taking.TakeOutcome.{TakeOutcome}
use Rattle.block_taking.specs.declared.taking.TakeOutcome.TheVariants.{Taken, NoBlock as NoBlockTaken, Spent as SpentTaking}
use Rattle.block_taking.specs.Text.{take_block}
use Rattle.op_delete.specs.declared.end.DeleteEnd.{DeleteEnd}
use Rattle.op_delete.specs.declared.end.DeleteOutcome.{DeleteOutcome}
use Rattle.op_delete.specs.declared.end.DeleteOutcome.TheVariants as deleted
use Rattle.op_delete.specs.Text as deletes
use Rattle.op_update.specs.declared.end.UpdateEnd.{UpdateEnd}
use Rattle.op_update.specs.declared.end.UpdateOutcome.{UpdateOutcome}
use Rattle.op_update.specs.declared.end.UpdateOutcome.TheVariants as updated
use Rattle.op_update.specs.Text.{Plan, More, new_word, with_block, after_take, on_held, on_end, after_look, again, update}
use Rattle.loss_laws.specs.Loses.{Loses}
use Rattle.loss_laws.proofs.Rules.{Grows, loses_more, counted, pick, in_turn, after_any}
use Rattle.loss_laws.proofs.Takings.{TakeLost, take-loses}

-- a Settle that is lost is counted where the word found is not live of the same block
pub settle-loses : {A : Type 0} (E : ℕ → A → Type 0) → Grows E → (n : ℕ) (h : HeldWord) (o : Option Slot) (next : ℕ → Prog A) (lost : Prog A) → ((live : ℕ) → Loses E n (next live)) → Loses E (suc n) lost → Loses E n (settle_first h o next lost)
settle-loses E g n h None next lost goes loses = goes h.word
settle-loses E g n h (Some slot) next lost goes loses = pick E n (is_copied slot.mark) _ (next h.word) (λ v found. by (found == h.word) (found == live_form slot)) (λ v. goes h.word)
  where
    by : (a b : Bool) → Loses E (cond a n (suc n)) (cond (a || b) (next (live_form slot)) lost)
    by true b = goes (live_form slot)
    by false true = loses_more E g n (suc n) (next (live_form slot)) (omega arith) (goes (live_form slot))
    by false false = loses

-- a delete that ends as Again has lost so many swaps
abbrev pub DeleteLost : ℕ → ℕ → DeleteOutcome → Type 0
DeleteLost least n (deleted.Deleted h) = Unit {0}
DeleteLost least n deleted.Missing = Unit {0}
DeleteLost least n deleted.Again = least ≤ n

module _ (j : Job) (least : ℕ) where
  abbrev D : ℕ → DeleteEnd → Type 0
  D n e = DeleteLost least n e.outcome

  deletes-grow : Grows D
  deletes-grow n m e h d = by e.outcome d
    where
      by : (o : DeleteOutcome) → DeleteLost least n o → DeleteLost least m o
      by (deleted.Deleted x) d = tt
      by deleted.Missing d = tt
      by deleted.Again d = omega arith

  delete-looked : (lost n : ℕ) (more : ℕ → Prog DeleteEnd) → ((t : ℕ) → Loses D (suc n) (more t)) → (t : ℕ) (e : PassEnd) → Loses D n (deletes.on_end lost more t e)
  delete-looked lost n more goes t (Held h) = settle-loses D deletes-grow n h (slot_of h.word) _ (more t) (λ live. counted D n h.at live 0 (deletes.ended (deleted.Deleted h) t lost) (λ found. more t) tt (λ found. goes t)) (goes t)
  delete-looked lost n more goes t Clear = tt
  delete-looked lost n more goes t Gone = tt
  delete-looked lost n more goes t Spent = tt

  delete-again : (left lost t n : ℕ) → least ≤ n + left → Loses D n (deletes.again j left lost t)
  unfolding deletes.again
  delete-again zero lost t n h = omega arith
  delete-again (suc left) lost t n h = after_any D deletes-grow n (pass j (Some t)) _ (λ p. delete-looked lost n _ (λ u. delete-again left (lost + 1) u (suc n) (omega arith)) p.table p.end)

  pub delete-loses : (entry : Option ℕ) → Loses D 0 (deletes.delete j least entry)
  delete-loses entry = after_any D deletes-grow 0 (pass j entry) _ (λ p. delete-looked 0 0 _ (λ u. delete-again (least - 1) 1 u 1 (omega arith)) p.table p.end)

-- an update that ends as Again has lost so many swaps
abbrev pub UpdateLost : ℕ → ℕ → UpdateOutcome → Type 0
UpdateLost least n (updated.Updated h at) = Unit {0}
UpdateLost least n updated.Missing = Unit {0}
UpdateLost least n updated.Again = least ≤ n
UpdateLost least n (updated.NoBlock next words) = Unit {0}

module _ (u : Plan) (least : ℕ) where
  abbrev U : ℕ → UpdateEnd → Type 0
  U n e = UpdateLost least n e.outcome

  updates-grow : Grows U
  updates-grow n m e h d = by e.outcome d
    where
      by : (o : UpdateOutcome) → UpdateLost least n o → UpdateLost least m o
      by (updated.Updated x at) d = tt
      by updated.Missing d = tt
      by updated.Again d = omega arith
      by (updated.NoBlock next words) d = tt

  -- a counted swap was lost; no more than k looks follow
  abbrev Follows : ℕ → More → Type 0
  Follows k more = (kept : Option ℕ) (area : Area) (left t n : ℕ) → least ≤ n + left → left ≤ k → Loses U n (more kept area left t)

  module _ (k : ℕ) (more : More) (goes : Follows k more) (h : HeldWord) (t : ℕ) where
    block-loses : (at : ℕ) (area : Area) (left n : ℕ) → least ≤ n + left → left ≤ suc k → Loses U n (with_block u more h t at area left)
    block-loses at area left n c le = settle-loses U updates-grow n h (slot_of h.word) _ (more (Some at) area (left - 1) t)
        (λ live. counted U n h.at live (new_word u at) _ (λ found. more (Some at) area (left - 1) t) tt (λ found. goes (Some at) area (left - 1) t (suc n) (omega arith) (omega arith)))
        (goes (Some at) area (left - 1) t (suc n) (omega arith) (omega arith))

    taken-loses : (most n : ℕ) (e : TakeEnd) (o : TakeOutcome) → TakeLost least most n (record { outcome = o; area = e.area; left = e.left }) → most ≤ suc k → Loses U n (after_take u more h t e o)
    taken-loses most n e (Taken at) x le = block-loses at e.area e.left n x.0 (let y = x.1 in omega arith)
    taken-loses most n e (NoBlockTaken next words) x le = tt
    taken-loses most n e SpentTaking x le = let y = x.0 in omega arith

    held-loses : (kept : Option ℕ) (area : Area) (left n : ℕ) → least ≤ n + left → left ≤ suc k → Loses U n (on_held u more h t kept area left)
    held-loses None area left n c le = in_turn (λ m e. TakeLost least left m e) U n (take_block u.taking area left) (λ e. after_take u more h t e e.outcome) (take-loses u.taking least left area left n c (same left)) (λ m e x. taken-loses left m e e.outcome x le)
      where
        same : (x : ℕ) → x ≤ x
        same x = omega arith
    held-loses (Some at) area left n c le = block-loses at area left n c le

  update-looked : (k : ℕ) (more : More) → Follows k more → (kept : Option ℕ) (area : Area) (left t n : ℕ) (e : PassEnd) → least ≤ n + left → left ≤ suc k → Loses U n (on_end u more kept area left t e)
  update-looked k more goes kept area left t n (Held h) c le = held-loses k more goes h t kept area left n c le
  update-looked k more goes kept area left t n Clear c le = tt
  update-looked k more goes kept area left t n Gone c le = tt
  update-looked k more goes kept area left t n Spent c le = tt

  update-again : (k : ℕ) → Follows k (again u k)
  unfolding again
  update-again zero kept area left t n c le = omega arith
  update-again (suc k) kept area left t n c le =
      pick U n (left == 0) _ _ (λ v. none_left n left c v)
      (λ v. after_any U updates-grow n (pass u.job (Some t)) _ (λ p. update-looked k (again u k) (update-again k) kept area left p.table n p.end c le))
    where
      none_left : (n left : ℕ) → least ≤ n + left → (left == 0) ≡ true → least ≤ n
      none_left n left c v = grind (arith, nat_tests)

  pub update-loses : u.tries ≡ least → (area : Area) (entry : Option ℕ) → Loses U 0 (update u area entry)
  update-loses e area entry = after_any U updates-grow 0 (pass u.job entry) _ (λ p. update-looked (u.tries - 1) (again u (u.tries - 1)) (update-again (u.tries - 1)) None area u.tries p.table 0 p.end (omega arith) (omega arith))
