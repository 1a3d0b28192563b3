-- The look and the taking inside an update, and how it starts again.
use Rattle.std.specs.Prelude.{◌≡◌, ◌≢◌, ℕ, zero, suc, ◌-◌, ◌==◌, Bool, true, false, cond, Option, Some, None, IsSome, refl}
use Rattle.std.proofs.Common.{sym, ap, subst, ◌∙◌, arith}
use Rattle.std.proofs.lemmas.Bool.Decides.{nat_tests}
use Rattle.verbs.specs.Programs.{Prog, ret, ask, next_act, next_verb, block_of, asked, after, outcome_of, bind}
use Rattle.verbs.proofs.Progs.{next_verb-bind, block_of-bind, asked-bind, after-bind, outcome-bind, ret-by-outcome, asks-by-outcome}
use Rattle.pass_text.specs.declared.job.Job.{Job}
use Rattle.pass_text.specs.Pass.{pass}
use Rattle.scan_pass.specs.declared.pass.Pass.{Pass}
use Rattle.scan_pass.specs.declared.scan.Scan.{Scan}
use Rattle.scan_pass.specs.declared.at.At as pass_at
use Rattle.scan_pass.specs.declared.at.At.TheVariants.{Depth, Directory, Header, Parent, Birth, Slot, Block, Drop, KeyHeader, Child, Held as HeldAt, Clear as ClearAt, Gone as GoneAt, Spent as SpentAt}
use Rattle.scan_pass.specs.BlockWords.{words_of}
use Rattle.scan_pass.specs.Ends.{held_of, is_held, has_ended}
use Rattle.scan_pass.specs.Rest.{at_rest as pass_at_rest, pass_rest}
use Rattle.kv_block.specs.Reading.{block_value}
use Rattle.pass_text.specs.Words.{candidate_at}
use Rattle.block_taking.specs.declared.taking.Area.{Area}
use Rattle.block_taking.specs.declared.taking.Taking as takings
use Rattle.block_taking.specs.declared.taking.TakeEnd.{TakeEnd}
use Rattle.block_taking.specs.Text.{take_block}
use Rattle.block_taking.specs.declared.progress.Progress.{Progress}
use Rattle.block_taking.specs.declared.at.At as take_at
use Rattle.block_taking.specs.declared.at.At.TheVariants.{Read, Area as TakesArea, Alone, Write, Taken, NoBlock as NoBlockAt, Spent}
use Rattle.block_taking.specs.declared.take_op.TakeOp.{TakeOp}
use Rattle.block_taking.specs.Rest.{at_rest as take_at_rest, take_rest}
use Rattle.op_update.specs.declared.end.UpdateEnd.{UpdateEnd}
use Rattle.op_update.specs.declared.end.UpdateOutcome.TheVariants.{Again, Missing}
use Rattle.work_area.specs.declared.work.Work.{Work}
use Rattle.op_update.specs.declared.at.At.{At}
use Rattle.op_update.specs.declared.at.At.TheVariants.{Looking, Taking, NoBlock}
use Rattle.op_update.specs.Text.{Plan, More, refused, again, after_look, on_held, after_take, ended, update}
use Rattle.op_update.specs.Rest.{plan, area_of, more, at_rest}
use Rattle.op_update.specs.AtFits.{AtFits}

-- how the look has ended
at_held : (j : Job) (s : Scan) (at : pass_at.At) (u : Plan) (goes : More) (kept : Option ℕ) (area : Area) (left : ℕ) → is_held at ≡ true
    → bind (pass_at_rest j s at) (after_look u goes kept area left) ≡ on_held u goes (record { at = candidate_at j s.table s.index; word = s.word; value = block_value (words_of s.block) }) s.table kept area left
at_held j s Depth u goes kept area left e = absurd (cc)
at_held j s Directory u goes kept area left e = absurd (cc)
at_held j s Header u goes kept area left e = absurd (cc)
at_held j s Parent u goes kept area left e = absurd (cc)
at_held j s Birth u goes kept area left e = absurd (cc)
at_held j s Slot u goes kept area left e = absurd (cc)
at_held j s Block u goes kept area left e = absurd (cc)
at_held j s Drop u goes kept area left e = absurd (cc)
at_held j s KeyHeader u goes kept area left e = absurd (cc)
at_held j s Child u goes kept area left e = absurd (cc)
at_held j s HeldAt u goes kept area left e = refl
at_held j s ClearAt u goes kept area left e = absurd (cc)
at_held j s GoneAt u goes kept area left e = absurd (cc)
at_held j s SpentAt u goes kept area left e = absurd (cc)

at_missing : (j : Job) (s : Scan) (at : pass_at.At) (u : Plan) (goes : More) (kept : Option ℕ) (area : Area) (left : ℕ) → has_ended at ≡ true → is_held at ≡ false
    → bind (pass_at_rest j s at) (after_look u goes kept area left) ≡ ended u Missing s.table area left
at_missing j s Depth u goes kept area left h e = absurd (cc)
at_missing j s Directory u goes kept area left h e = absurd (cc)
at_missing j s Header u goes kept area left h e = absurd (cc)
at_missing j s Parent u goes kept area left h e = absurd (cc)
at_missing j s Birth u goes kept area left h e = absurd (cc)
at_missing j s Slot u goes kept area left h e = absurd (cc)
at_missing j s Block u goes kept area left h e = absurd (cc)
at_missing j s Drop u goes kept area left h e = absurd (cc)
at_missing j s KeyHeader u goes kept area left h e = absurd (cc)
at_missing j s Child u goes kept area left h e = absurd (cc)
at_missing j s HeldAt u goes kept area left h e = absurd (cc)
at_missing j s ClearAt u goes kept area left h e = refl
at_missing j s GoneAt u goes kept area left h e = refl
at_missing j s SpentAt u goes kept area left h e = refl

pub look-held : (p : Pass) (u : Plan) (goes : More) (kept : Option ℕ) (area : Area) (left : ℕ) → is_held p.at ≡ true → bind (pass_rest p) (after_look u goes kept area left) ≡ on_held u goes (held_of p) p.scan.table kept area left
look-held p u goes kept area left e = at_held p.task.job p.scan p.at u goes kept area left e

pub look-missing : (p : Pass) (u : Plan) (goes : More) (kept : Option ℕ) (area : Area) (left : ℕ) → has_ended p.at ≡ true → is_held p.at ≡ false → bind (pass_rest p) (after_look u goes kept area left) ≡ ended u Missing p.scan.table area left
look-missing p u goes kept area left h e = at_missing p.task.job p.scan p.at u goes kept area left h e

pub ruleset looks = (look-held, look-missing)

-- how the taking has ended: with the area as it leaves it
same_area : (area : Area) (a b : TakeEnd) → Some a ≡ Some b → a.area ≡ area → area ≡ b.area
same_area area a b e t = sym t ∙ ap (λ (x : TakeEnd). x.area) (given a b e)
  where
    given : (a b : TakeEnd) → Some a ≡ Some b → a ≡ b
    given a b e = cc

at_area : (t : takings.Taking) (s : Progress) (at : take_at.At) (e : TakeEnd) → outcome_of (take_at_rest t s at) ≡ Some e → s.area ≡ e.area
at_area t s Read e h = absurd (cc)
at_area t s TakesArea e h = absurd (cc)
at_area t s Alone e h = absurd (cc)
at_area t s Write e h = absurd (cc)
at_area t s Taken e h = same_area s.area _ e h refl
at_area t s NoBlockAt e h = same_area s.area _ e h refl
at_area t s Spent e h = same_area s.area _ e h refl

pub take-area : (t : TakeOp) (e : TakeEnd) → outcome_of (take_rest t) ≡ Some e → t.progress.area ≡ e.area
take-area t e h = at_area t.taking t.progress t.at e h

pub take-ended : (t : TakeOp) (e : TakeEnd) (f : TakeEnd → Prog UpdateEnd) → outcome_of (take_rest t) ≡ Some e → bind (take_rest t) f ≡ f e
take-ended t e f h = ap (λ p. bind p f) (ret-by-outcome (take_rest t) e h)

pub take-some : (t : TakeOp) (e : TakeEnd) → outcome_of (take_rest t) ≡ Some e → IsSome (outcome_of (take_rest t))
take-some t e h = subst (λ o. IsSome o) (sym h) refl

pub ruleset takes = (take-area, take-ended, take-some, asks-by-outcome)

-- what the end of a taking with no room is made of
pub full-some : (t : TakeOp) (e : TakeEnd) (g : TakeEnd → UpdateEnd) → outcome_of (take_rest t) ≡ Some e → outcome_of (bind (take_rest t) (λ x. ret (g x))) ≡ Some (g e)
full-some t e g h = ap outcome_of (take-ended t e (λ x. ret (g x)) h)

pub full-none : (t : TakeOp) (f : TakeEnd → Prog UpdateEnd) → outcome_of (take_rest t) ≡ None → outcome_of (bind (take_rest t) f) ≡ None
full-none t f h = outcome-bind (take_rest t) f (asks-by-outcome (take_rest t) h)

pub ruleset fulls = (full-some, full-none)

-- where the key is held and no block is kept, the taking begins
abbrev taken_with : Work → TakeOp → TakeEnd → Prog UpdateEnd
taken_with w q e = let u : Plan = record { job = w.pass.task.job; print = w.replacement.print; taking = q.taking; tries = w.replacement.tries } in after_take u (again u w.replacement.rounds) (held_of w.pass) w.pass.scan.table e e.outcome

same_plan : (w : Work) (q : TakeOp) (p : Prog TakeEnd) → q.taking ≡ w.take.taking → bind p (taken_with w q) ≡ bind p (λ e. after_take (plan w) (more w) (held_of w.pass) w.pass.scan.table e e.outcome)
same_plan w q p e = ap (λ (k : takings.Taking). let u : Plan = record { job = w.pass.task.job; print = w.replacement.print; taking = k; tries = w.replacement.tries } in bind p (λ x. after_take u (again u w.replacement.rounds) (held_of w.pass) w.pass.scan.table x x.outcome)) e

pub take-begins : (w : Work) (q : TakeOp) (kept : Option ℕ) → kept ≡ None → take_rest q ≡ take_block w.take.taking (area_of w) w.replacement.left → q.taking ≡ w.take.taking
    → bind (take_rest q) (taken_with w q) ≡ on_held (plan w) (more w) (held_of w.pass) w.pass.scan.table kept (area_of w) w.replacement.left
take-begins w q kept n e t =
    same_plan w q (take_rest q) t ∙ ap (λ p. bind p (λ x. after_take (plan w) (more w) (held_of w.pass) w.pass.scan.table x x.outcome)) e
    ∙ ap (λ k. on_held (plan w) (more w) (held_of w.pass) w.pass.scan.table k (area_of w) w.replacement.left) (sym n)

-- how often it may start again
again-ends : (u : Plan) (n : ℕ) (kept : Option ℕ) (area : Area) (left t : ℕ) → left ≡ 0 → again u n kept area left t ≡ ended u Again t area left
unfolding again
again-ends u zero kept area left t e = refl
again-ends u (suc n) kept area left t e = by (left == 0) (zero_is left e)
  where
    zero_is : (x : ℕ) → x ≡ 0 → (x == 0) ≡ true
    zero_is x e = grind (arith, nat_tests)

    by : (v : Bool) → v ≡ true → cond v (ended u Again t area left) (bind (pass u.job (Some t)) (after_look u (again u n) kept area left)) ≡ ended u Again t area left
    by true e = refl
    by false e = absurd (cc)

pub again-none : (u : Plan) (n : ℕ) (kept : Option ℕ) (area : Area) (left t : ℕ) → left ≡ 0 → again u n kept area left t ≡ ended u Again t area left
again-none u n kept area left t e = again-ends u n kept area left t e

pub again-last : (u : Plan) (n : ℕ) (kept : Option ℕ) (area : Area) (left t : ℕ) → n ≡ 0 → again u n kept area left t ≡ ended u Again t area left
unfolding again
again-last u n kept area left t e = rw e refl

again-suc : (u : Plan) (n : ℕ) (kept : Option ℕ) (area : Area) (left t : ℕ) → 0 ≢ left → again u (suc n) kept area left t ≡ bind (pass u.job (Some t)) (after_look u (again u n) kept area left)
unfolding again
again-suc u n kept area left t e = by (left == 0) (some left e)
  where
    some : (x : ℕ) → 0 ≢ x → (x == 0) ≡ false
    some x e = grind (arith, nat_tests)

    by : (v : Bool) → v ≡ false → cond v (ended u Again t area left) (bind (pass u.job (Some t)) (after_look u (again u n) kept area left)) ≡ bind (pass u.job (Some t)) (after_look u (again u n) kept area left)
    by true e = absurd (cc)
    by false e = refl

pub again-more : (u : Plan) (n : ℕ) (kept : Option ℕ) (area : Area) (left t : ℕ) → 0 ≢ left → 0 ≢ n → again u n kept area left t ≡ bind (pass u.job (Some t)) (after_look u (again u (n - 1)) kept area left)
again-more u n kept area left t some more = let e : n ≡ suc (n - 1) = omega arith in ap (λ m. again u m kept area left t) e ∙ again-suc u (n - 1) kept area left t some

pub ruleset agains = (again-none, again-last, again-more)

-- the acts of the look are those of the update
module _ (w : Work) (at : At) (e : at ≡ Looking) (h : AtFits w at) where
  waits : IsSome (next_act (pass_rest w.pass))
  waits = subst (AtFits w) e h

  pub look-next : next_verb (pass_rest w.pass) ≡ next_verb (at_rest w at)
  look-next = sym (next_verb-bind (pass_rest w.pass) (after_look (plan w) (more w) w.replacement.kept (area_of w) w.replacement.left) waits) ∙ ap (λ a. next_verb (at_rest w a)) (sym e)

  pub look-block : block_of (pass_rest w.pass) ≡ block_of (at_rest w at)
  look-block = sym (block_of-bind (pass_rest w.pass) (after_look (plan w) (more w) w.replacement.kept (area_of w) w.replacement.left) waits) ∙ ap (λ a. block_of (at_rest w a)) (sym e)

  pub look-asks : asked (pass_rest w.pass) ≡ asked (at_rest w at)
  look-asks = sym (asked-bind (pass_rest w.pass) (after_look (plan w) (more w) w.replacement.kept (area_of w) w.replacement.left) waits) ∙ ap (λ a. asked (at_rest w a)) (sym e)

  pub look-outcome : None ≡ outcome_of (at_rest w at)
  look-outcome = sym (outcome-bind (pass_rest w.pass) (after_look (plan w) (more w) w.replacement.kept (area_of w) w.replacement.left) waits) ∙ ap (λ a. outcome_of (at_rest w a)) (sym e)

  pub look-act : (answer : ℕ) (q : Pass) → pass_rest q ≡ after (pass_rest w.pass) answer → bind (pass_rest q) (after_look (plan w) (more w) w.replacement.kept (area_of w) w.replacement.left) ≡ after (at_rest w at) answer
  look-act answer q g =
      ap (λ x. bind x (after_look (plan w) (more w) w.replacement.kept (area_of w) w.replacement.left)) g
      ∙ sym (after-bind (pass_rest w.pass) (after_look (plan w) (more w) w.replacement.kept (area_of w) w.replacement.left) answer waits) ∙ ap (λ a. after (at_rest w a) answer) (sym e)

-- .. and so are those of the taking
abbrev taken_by : Work → TakeEnd → Prog UpdateEnd
taken_by w e = after_take (plan w) (more w) (held_of w.pass) w.pass.scan.table e e.outcome

module _ (w : Work) (at : At) (e : at ≡ Taking) (h : AtFits w at) where
  goes_on : IsSome (next_act (take_rest w.take))
  goes_on = (subst (AtFits w) e h).0

  pub take-next : next_verb (take_rest w.take) ≡ next_verb (at_rest w at)
  take-next = sym (next_verb-bind (take_rest w.take) (taken_by w) goes_on) ∙ ap (λ a. next_verb (at_rest w a)) (sym e)

  pub take-block : block_of (take_rest w.take) ≡ block_of (at_rest w at)
  take-block = sym (block_of-bind (take_rest w.take) (taken_by w) goes_on) ∙ ap (λ a. block_of (at_rest w a)) (sym e)

  pub take-asks : asked (take_rest w.take) ≡ asked (at_rest w at)
  take-asks = sym (asked-bind (take_rest w.take) (taken_by w) goes_on) ∙ ap (λ a. asked (at_rest w a)) (sym e)

  pub take-outcome : None ≡ outcome_of (at_rest w at)
  take-outcome = sym (outcome-bind (take_rest w.take) (taken_by w) goes_on) ∙ ap (λ a. outcome_of (at_rest w a)) (sym e)

  pub take-act : (answer : ℕ) (q : TakeOp) → take_rest q ≡ after (take_rest w.take) answer → q.taking ≡ w.take.taking → bind (take_rest q) (taken_with w q) ≡ after (at_rest w at) answer
  take-act answer q g t = same_plan w q (take_rest q) t ∙ ap (λ x. bind x (taken_by w)) g ∙ sym (after-bind (take_rest w.take) (taken_by w) answer goes_on) ∙ ap (λ a. after (at_rest w a) answer) (sym e)

-- a taking that has ended has no act left
module _ (w : Work) (at : At) (e : at ≡ NoBlock) (h : AtFits w at) where
  full : IsSome (outcome_of (take_rest w.take))
  full = subst (AtFits w) e h

  by_outcome : {A : Type 0} (read : Prog UpdateEnd → Option A) → ((a : UpdateEnd) → read (ret a) ≡ None) → (g : TakeEnd → UpdateEnd) (p : Prog TakeEnd) → IsSome (outcome_of p) → read (bind p (λ x. ret (g x))) ≡ None
  by_outcome read none g (ask act k) f = absurd (cc)
  by_outcome read none g (ret x) f = none (g x)

  abbrev told : TakeEnd → UpdateEnd
  told x = record { outcome = refused x.outcome; table = w.pass.scan.table; area = area_of w; lost = w.replacement.tries - w.replacement.left }

  pub full-next : None ≡ next_verb (at_rest w at)
  full-next = sym (by_outcome next_verb (λ a. refl) told (take_rest w.take) full) ∙ ap (λ a. next_verb (at_rest w a)) (sym e)

  pub full-block : None ≡ block_of (at_rest w at)
  full-block = sym (by_outcome block_of (λ a. refl) told (take_rest w.take) full) ∙ ap (λ a. block_of (at_rest w a)) (sym e)

  pub full-asks : None ≡ asked (at_rest w at)
  full-asks = sym (by_outcome asked (λ a. refl) told (take_rest w.take) full) ∙ ap (λ a. asked (at_rest w a)) (sym e)

pub ruleset updates = (look-next, look-block, look-asks, look-outcome, look-act, take-next, take-block, take-asks, take-outcome, full-next, full-block, full-asks)

-- what a look and a taking that were made for it begin
pub begins_update : (u : Plan) (area : Area) (start : Option ℕ) (w : Work) → pass_rest w.pass ≡ pass u.job start → plan w ≡ u → area_of w ≡ area → w.replacement.kept ≡ None → w.replacement.left ≡ u.tries → w.replacement.rounds ≡ u.tries - 1
    → at_rest w Looking ≡ update u area start
begins_update u area start w e p a k l r = λ i. bind (e i) (after_look (p i) (again (p i) (r i)) (k i) (a i) (l i))

pub ruleset begins = (begins_update)
