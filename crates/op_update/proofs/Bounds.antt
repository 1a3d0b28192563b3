-- An update ends within its bound, whatever is answered.
use Rattle.std.specs.Prelude.{◌≡◌, ℕ, zero, suc, ◌+◌, ◌-◌, ◌*◌, ◌≤◌, ◌==◌, Bool, true, false, cond, nat_le, List, replicate, slice_set, Option, Some, None}
use Rattle.std.proofs.Common.{subst, arith}
use Rattle.slot_word.specs.Slots.{slot_of}
use Rattle.verbs.specs.Programs.{Prog, bind, Within, Outcomes}
use Rattle.verbs.proofs.Progs.{Within-more, Within-bind, Within-bind_by}
use Rattle.kv_block.specs.Packing.{Pair}
use Rattle.node_words.specs.declared.geometry.Geometry.{Geometry}
use Rattle.pass_text.specs.declared.passed.Held.{Held as HeldWord}
use Rattle.pass_text.specs.declared.passed.PassEnd.{PassEnd}
use Rattle.pass_text.specs.declared.passed.PassEnd.TheVariants.{Held, Clear, Gone, Spent}
use Rattle.pass_text.specs.Words.{address_of}
use Rattle.pass_text.specs.Pass.{pass}
use Rattle.pass_text.specs.Bound.{most_verbs}
use Rattle.block_taking.specs.declared.taking.Area.{Area}
use Rattle.block_taking.specs.declared.taking.Taking.{Taking}
use Rattle.block_taking.specs.declared.taking.TakeEnd.{TakeEnd}
use Rattle.block_taking.specs.declared.taking.TakeOutcome.{TakeOutcome}
use Rattle.block_taking.specs.declared.taking.TakeOutcome.TheVariants.{Taken as TakenBlock, NoBlock as NoRoom, Spent as SpentTakes}
use Rattle.block_taking.specs.Text.{need, end_of, first_node, next_node, behind, write_words, write_block, take_at, take_from, take_block}
use Rattle.block_taking.specs.Bound.{taking_verbs}
use Rattle.block_taking.proofs.Bounds.{taking-within}
use Rattle.call_laws.proofs.Rounds.{one_more, all_rounds, look-within, settle-within}
use Rattle.op_update.specs.declared.end.UpdateOutcome.TheVariants.{Updated, Again}
use Rattle.op_update.specs.Text.{Plan, More, ended, replace_word, with_block, after_take, on_held, on_end, after_look, again, update}
use Rattle.op_update.specs.Bound.{update_round, update_verbs}
use Rattle.op_update.specs.Law.{plan_of}

-- a taking leaves no more swaps that may be lost than it began with
module _ (most : ℕ) where
  abbrev Few : TakeEnd → Type 0
  Few e = e.left ≤ most

  either : (v : Bool) (p q : Prog TakeEnd) → Outcomes Few p → Outcomes Few q → Outcomes Few (cond v p q)
  either true p q h k = h
  either false p q h k = k

  writes-few : (t : Taking) (n i at : ℕ) (area : Area) (left : ℕ) → left ≤ most → Outcomes Few (write_words t n i at area left)
  writes-few t zero i at area left le = le
  writes-few t (suc n) i at area left le = λ answer. writes-few t n (i + 1) at area left le

  at-few : (t : Taking) (left k n : ℕ) (area : Area) (full : ℕ → ℕ → Prog TakeEnd) → left ≤ most → ((next left2 : ℕ) → left2 ≤ most → Outcomes Few (full next left2)) → Outcomes Few (take_at t left k n area full)
  at-few t zero k n area full le h = omega arith
  at-few t (suc left) k n area full le h =
      either (nat_le (n + need t) (end_of t k)) _ (full n (suc left))
      (either (nat_le (n + 65536) (end_of t k)) _ _
      (λ found. either (found == n) _ (take_at t left k found area full) (writes-few t (need t) 0 n _ (suc left) le) (at-few t left k found area full (omega arith) h))
      (λ found. either (found == n) (write_block t n area (suc left)) (take_at t left k found area full) (writes-few t (need t) 0 n area (suc left) le) (at-few t left k found area full (omega arith) h)))
      (h n (suc left) le)

  from-few : (t : Taking) (n k : ℕ) (nexts : List ℕ) (area : Area) (left : ℕ) → left ≤ most → Outcomes Few (take_from t n k nexts area left)
  from-few t zero k nexts area left le = le
  from-few t (suc n) k nexts area left le = λ found. at-few t left k found area _ le (λ next left2 le2. from-few t n (next_node t k) (slice_set nexts k next) area left2 le2)

  pub take-few : (t : Taking) (area : Area) (left : ℕ) → left ≤ most → Outcomes Few (take_block t area left)
  take-few t area left le = either (nat_le (need t) area.left) _ _ (writes-few t (need t) 0 (address_of area.at) (behind (need t) area) left le) (from-few t t.geometry.nodes (first_node t) (replicate 8 0) area left le)

module _ (g : Geometry) (client : ℕ) (pair : Pair) (h tries : ℕ) where
  abbrev u : Plan
  u = plan_of g client pair h tries

  abbrev round : ℕ
  round = update_round u

  -- what follows a lost swap ends within n verbs
  abbrev GoesWithin : ℕ → More → Type 0
  GoesWithin n more = (kept : Option ℕ) (area : Area) (left t : ℕ) → left ≤ tries → Within n (more kept area left t)

  module _ (n : ℕ) (more : More) (f : GoesWithin n more) where
    block-within : (w : HeldWord) (t at : ℕ) (area : Area) (left : ℕ) → left ≤ tries → Within (suc (suc n)) (with_block u more w t at area left)
    block-within w t at area left le =
        settle-within (suc n) w (replace_word u more w t at area left) (more (Some at) area (left - 1) t) (λ live found. by (found == live))
        (Within-more n (suc n) (more (Some at) area (left - 1) t) (omega arith) (f (Some at) area (left - 1) t (omega arith))) (slot_of w.word)
      where
        by : (v : Bool) → Within n (cond v (ended u (Updated w at) t area left) (more (Some at) area (left - 1) t))
        by true = tt
        by false = f (Some at) area (left - 1) t (omega arith)

    taken-within : (w : HeldWord) (t : ℕ) (e : TakeEnd) (o : TakeOutcome) → e.left ≤ tries → Within (suc (suc n)) (after_take u more w t e o)
    taken-within w t e (TakenBlock at) le = block-within w t at e.area e.left le
    taken-within w t e (NoRoom next words) le = tt
    taken-within w t e SpentTakes le = tt

    held-within : (w : HeldWord) (t : ℕ) (kept : Option ℕ) (area : Area) (left : ℕ) → left ≤ tries → Within (taking_verbs u.taking tries + suc (suc n)) (on_held u more w t kept area left)
    held-within w t None area left le =
        Within-bind_by (Few tries) (taking_verbs u.taking tries) (suc (suc n)) (take_block u.taking area left) (λ e. after_take u more w t e e.outcome)
        (Within-more (taking_verbs u.taking left) (taking_verbs u.taking tries) (take_block u.taking area left) (omega arith) (taking-within u.taking area left)) (take-few tries u.taking area left le) (λ e few. taken-within w t e e.outcome few)
    held-within w t (Some at) area left le = Within-more (suc (suc n)) (taking_verbs u.taking tries + suc (suc n)) (with_block u more w t at area left) (omega arith) (block-within w t at area left le)

    end-within : (t : ℕ) (kept : Option ℕ) (area : Area) (left : ℕ) → left ≤ tries → (e : PassEnd) → Within (taking_verbs u.taking tries + suc (suc n)) (on_end u more kept area left t e)
    end-within t kept area left le (Held w) = held-within w t kept area left le
    end-within t kept area left le Clear = tt
    end-within t kept area left le Gone = tt
    end-within t kept area left le Spent = tt

    from-within : (kept : Option ℕ) (area : Area) (left : ℕ) → left ≤ tries → (entry : Option ℕ) → Within (round + n) (bind (pass u.job entry) (after_look u more kept area left))
    from-within kept area left le entry =
        subst (λ v. Within v (bind (pass u.job entry) (after_look u more kept area left))) (sum (most_verbs g.max_depth) (taking_verbs u.taking tries) n)
        (Within-bind (most_verbs g.max_depth) (taking_verbs u.taking tries + suc (suc n)) (pass u.job entry) (after_look u more kept area left) (look-within g pair.key h entry) (λ p. end-within p.table kept area left le p.end))
      where
        sum : (k t n : ℕ) → k + (t + suc (suc n)) ≡ k + (t + 2) + n
        sum k t n = omega arith

  again-within : (n : ℕ) → GoesWithin (n * round) (again u n)
  unfolding again
  again-within zero kept area left t le = tt
  again-within (suc n) kept area left t le = subst (λ v. Within v (again u (suc n) kept area left t)) (one_more n round) (by (left == 0) (from-within (n * round) (again u n) (again-within n) kept area left le (Some t)))
    where
      by : (v : Bool) → Within (round + n * round) (bind (pass u.job (Some t)) (after_look u (again u n) kept area left)) → Within (round + n * round) (cond v (ended u Again t area left) (bind (pass u.job (Some t)) (after_look u (again u n) kept area left)))
      by true f = tt
      by false f = f

  pub update-within : 1 ≤ tries → (area : Area) (entry : Option ℕ) → Within (update_verbs u) (update u area entry)
  update-within some area entry =
      subst (λ v. Within v (update u area entry)) (all_rounds tries round some)
      (from-within ((tries - 1) * round) (again u (tries - 1)) (again-within (tries - 1)) None area tries (omega arith) entry)
