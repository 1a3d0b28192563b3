-- The acts of a part are those of the insert; and how an insert starts again.
use Rattle.std.specs.Prelude.{◌≡◌, ◌≢◌, ℕ, suc, ◌+◌, ◌-◌, true, Option, Some, None, IsSome, refl}
use Rattle.std.proofs.Common.{sym, ap, subst, ◌∙◌, arith}
use Rattle.verbs.specs.Programs.{Prog, ret, next_act, next_verb, block_of, asked, after, outcome_of, bind}
use Rattle.verbs.proofs.Progs.{next_act-bind, next_verb-bind, block_of-bind, asked-bind, after-bind, outcome-bind}
use Rattle.pass_text.specs.Pass.{pass}
use Rattle.scan_pass.specs.declared.pass.Pass.{Pass}
use Rattle.scan_pass.specs.Rest.{pass_rest}
use Rattle.block_taking.specs.declared.taking.Area.{Area}
use Rattle.block_taking.specs.Rest.{take_rest}
use Rattle.op_insert.specs.declared.end.InsertEnd.{InsertEnd}
use Rattle.op_insert.specs.declared.end.InsertOutcome.TheVariants.{Again as AgainEnd}
use Rattle.work_area.specs.declared.work.Work.{Work}
use Rattle.op_insert.specs.declared.at.At.{At}
use Rattle.op_insert.specs.declared.at.At.TheVariants.{Look, ParentHeader, Begin, Open, ParentSlot, ParentBlock, ParentHash, Take, Place, Sweep, WithdrawHeld, WithdrawGone, WithdrawSpent, Commit, Lost, Left, Inserted, Exists, NeedRoom, Again, NoBlock, Out}
use Rattle.op_insert.specs.Text.{Inserting, Part, look_of, after_look, after_sweep, after_taking, insert_from, insert}
use Rattle.op_insert.specs.Rest.{inserting, area, part_rest, next_part, at_rest, acts, Same}
use Rattle.op_insert.specs.AtFits.{PartFits, AtFits}

-- a part that acts has an act
waits : (w : Work) (at : At) → acts at ≡ true → AtFits w at → IsSome (next_act (part_rest w at))
waits w Look e h = subst IsSome (sym (next_act-bind (pass_rest w.pass) (after_look (inserting w) w.numbers.kept (area w) w.numbers.left) h)) h
waits w ParentHeader e h = refl
waits w Begin e h = refl
waits w Open e h = refl
waits w ParentSlot e h = refl
waits w ParentBlock e h = refl
waits w ParentHash e h = refl
waits w Take e h = subst IsSome (sym (next_act-bind (take_rest w.take) (after_taking (inserting w) w.pass.scan.table w.numbers.own) h)) h
waits w Place e h = refl
waits w Sweep e h = subst IsSome (sym (next_act-bind (pass_rest w.pass) (after_sweep (inserting w) w.numbers.own w.numbers.block (area w) w.numbers.left) h)) h
waits w WithdrawHeld e h = refl
waits w WithdrawGone e h = refl
waits w WithdrawSpent e h = refl
waits w Commit e h = absurd (cc)
waits w Lost e h = absurd (cc)
waits w Left e h = absurd (cc)
waits w Inserted e h = absurd (cc)
waits w Exists e h = absurd (cc)
waits w NeedRoom e h = absurd (cc)
waits w Again e h = absurd (cc)
waits w NoBlock e h = absurd (cc)
waits w Out e h = absurd (cc)

rest_is : (w : Work) (at : At) → acts at ≡ true → at_rest w at ≡ bind (part_rest w at) (next_part (inserting w) w.numbers.parts)
rest_is w Look e = refl
rest_is w ParentHeader e = refl
rest_is w Begin e = refl
rest_is w Open e = refl
rest_is w ParentSlot e = refl
rest_is w ParentBlock e = refl
rest_is w ParentHash e = refl
rest_is w Take e = refl
rest_is w Place e = refl
rest_is w Sweep e = refl
rest_is w WithdrawHeld e = refl
rest_is w WithdrawGone e = refl
rest_is w WithdrawSpent e = refl
rest_is w Commit e = absurd (cc)
rest_is w Lost e = absurd (cc)
rest_is w Left e = absurd (cc)
rest_is w Inserted e = absurd (cc)
rest_is w Exists e = absurd (cc)
rest_is w NeedRoom e = absurd (cc)
rest_is w Again e = absurd (cc)
rest_is w NoBlock e = absurd (cc)
rest_is w Out e = absurd (cc)

-- it fits
pub fits-part : (w : Work) (at : At) → acts at ≡ true → AtFits w at → PartFits w at
fits-part w Look e h = h
fits-part w ParentHeader e h = h
fits-part w Begin e h = h
fits-part w Open e h = h
fits-part w ParentSlot e h = h
fits-part w ParentBlock e h = h
fits-part w ParentHash e h = h
fits-part w Take e h = h
fits-part w Place e h = h
fits-part w Sweep e h = h
fits-part w WithdrawHeld e h = h
fits-part w WithdrawGone e h = h
fits-part w WithdrawSpent e h = h
fits-part w Commit e h = absurd (cc)
fits-part w Lost e h = absurd (cc)
fits-part w Left e h = absurd (cc)
fits-part w Inserted e h = absurd (cc)
fits-part w Exists e h = absurd (cc)
fits-part w NeedRoom e h = absurd (cc)
fits-part w Again e h = absurd (cc)
fits-part w NoBlock e h = absurd (cc)
fits-part w Out e h = absurd (cc)

pub fits-at : (w : Work) (at : At) → at ≢ Lost → at ≢ Left → PartFits w at → AtFits w at
fits-at w Look a b h = h
fits-at w ParentHeader a b h = h
fits-at w Begin a b h = h
fits-at w Open a b h = h
fits-at w ParentSlot a b h = h
fits-at w ParentBlock a b h = h
fits-at w ParentHash a b h = h
fits-at w Take a b h = h
fits-at w Place a b h = h
fits-at w Sweep a b h = h
fits-at w WithdrawHeld a b h = h
fits-at w WithdrawGone a b h = h
fits-at w WithdrawSpent a b h = h
fits-at w Commit a b h = h
fits-at w Lost a b h = absurd (a refl)
fits-at w Left a b h = absurd (b refl)
fits-at w Inserted a b h = tt
fits-at w Exists a b h = h
fits-at w NeedRoom a b h = h
fits-at w Again a b h = h
fits-at w NoBlock a b h = h
fits-at w Out a b h = tt

module _ (w : Work) (at : At) (e : acts at ≡ true) (h : AtFits w at) where
  abbrev f : Part → Prog InsertEnd
  f = next_part (inserting w) w.numbers.parts

  pub act-next : next_verb (part_rest w at) ≡ next_verb (at_rest w at)
  act-next = sym (next_verb-bind (part_rest w at) f (waits w at e h)) ∙ ap next_verb (sym (rest_is w at e))

  pub act-block : block_of (part_rest w at) ≡ block_of (at_rest w at)
  act-block = sym (block_of-bind (part_rest w at) f (waits w at e h)) ∙ ap block_of (sym (rest_is w at e))

  pub act-asked : asked (part_rest w at) ≡ asked (at_rest w at)
  act-asked = sym (asked-bind (part_rest w at) f (waits w at e h)) ∙ ap asked (sym (rest_is w at e))

  pub act-outcome : None ≡ outcome_of (at_rest w at)
  act-outcome = sym (outcome-bind (part_rest w at) f (waits w at e h)) ∙ ap outcome_of (sym (rest_is w at e))

  pub act-verb : IsSome (next_verb (at_rest w at)) → IsSome (next_verb (part_rest w at))
  act-verb v = subst IsSome (sym act-next) v

  pub act-after : (answer : ℕ) (q : Prog Part) → q ≡ after (part_rest w at) answer → bind q (next_part (inserting w) w.numbers.parts) ≡ after (at_rest w at) answer
  act-after answer q g = ap (λ x. bind x f) g ∙ sym (after-bind (part_rest w at) f answer (waits w at e h)) ∙ ap (λ x. after x answer) (sym (rest_is w at e))

-- what is left, where the insert does not stand as inserted
pub rest-at : (w : Work) (at : At) → PartFits w at → at_rest w at ≡ bind (part_rest w at) (next_part (inserting w) w.numbers.parts)
rest-at w Look h = refl
rest-at w ParentHeader h = refl
rest-at w Begin h = refl
rest-at w Open h = refl
rest-at w ParentSlot h = refl
rest-at w ParentBlock h = refl
rest-at w ParentHash h = refl
rest-at w Take h = refl
rest-at w Place h = refl
rest-at w Sweep h = refl
rest-at w WithdrawHeld h = refl
rest-at w WithdrawGone h = refl
rest-at w WithdrawSpent h = refl
rest-at w Commit h = refl
rest-at w Lost h = refl
rest-at w Left h = refl
rest-at w Inserted h = absurd h
rest-at w Exists h = refl
rest-at w NeedRoom h = refl
rest-at w Again h = refl
rest-at w NoBlock h = refl
rest-at w Out h = absurd h

pub rest-fed : (w v : Work) (at b : At) (answer : ℕ) → acts at ≡ true → AtFits w at → PartFits v b → Same w v → part_rest v b ≡ after (part_rest w at) answer → at_rest v b ≡ after (at_rest w at) answer
rest-fed w v at b answer e h k s g =
    rest-at v b k ∙ ap (λ i. bind (part_rest v b) (next_part i v.numbers.parts)) s.0 ∙ ap (λ n. bind (part_rest v b) (next_part (inserting w) n)) s.1 ∙ act-after w at e h answer (part_rest v b) g

-- how often it may start again
pub insert-none : (i : Inserting) (n t : ℕ) (kept : Option ℕ) (area : Area) (left : ℕ) → n ≡ 0 → insert_from i n (Some t) kept area left ≡ ret (record { outcome = AgainEnd; table = t; area = area; lost = i.tries - left })
unfolding insert_from
insert-none i n t kept area left e = rw e refl

insert_suc : (i : Inserting) (n t : ℕ) (kept : Option ℕ) (area : Area) (left : ℕ) → insert_from i (suc n) (Some t) kept area left ≡ bind (bind (pass (look_of i) (Some t)) (after_look i kept area left)) (next_part i n)
unfolding insert_from
insert_suc i n t kept area left = refl

pub insert-more : (i : Inserting) (n t : ℕ) (kept : Option ℕ) (area : Area) (left : ℕ) → 0 ≢ n → insert_from i n (Some t) kept area left ≡ bind (bind (pass (look_of i) (Some t)) (after_look i kept area left)) (next_part i (n - 1))
insert-more i n t kept area left some = let e : n ≡ suc (n - 1) = omega arith in ap (λ m. insert_from i m (Some t) kept area left) e ∙ insert_suc i (n - 1) t kept area left

-- the first part
insert_first : (i : Inserting) (n : ℕ) (start kept : Option ℕ) (area : Area) (left : ℕ) → bind (bind (pass (look_of i) start) (after_look i kept area left)) (next_part i n) ≡ insert_from i (suc n) start kept area left
unfolding insert_from
insert_first i n start kept area left = refl

pub start-rest : (p : Pass) (i j : Inserting) (n : ℕ) (entry kept : Option ℕ) (a b : Area) → j ≡ i → pass_rest p ≡ pass (look_of i) entry → b ≡ a → n ≡ i.tries + (i.job.geometry.max_depth - i.job.geometry.first_depth)
    → bind (bind (pass_rest p) (after_look j kept b i.tries)) (next_part j n) ≡ insert i entry kept a
start-rest p i j n entry kept a b e f g h =
    ap (λ v. bind (bind (pass_rest p) (after_look v kept b i.tries)) (next_part v n)) e ∙ ap (λ v. bind (bind v (after_look i kept b i.tries)) (next_part i n)) f
    ∙ ap (λ v. bind (bind (pass (look_of i) entry) (after_look i kept v i.tries)) (next_part i n)) g ∙ insert_first i n entry kept a i.tries ∙ ap (λ v. insert_from i (suc v) entry kept a i.tries) h

-- what a look and a taking that were made for it begin
pub begins_insert : (i : Inserting) (entry kept : Option ℕ) (a : Area) (w : Work) → pass_rest w.pass ≡ pass (look_of i) entry → inserting w ≡ i → area w ≡ a → w.numbers.kept ≡ kept → w.numbers.left ≡ i.tries
    → w.numbers.parts ≡ i.tries + (i.job.geometry.max_depth - i.job.geometry.first_depth) → at_rest w Look ≡ insert i entry kept a
begins_insert i entry kept a w e s f k l n = (λ t. bind (bind (pass_rest w.pass) (after_look (inserting w) (k t) (area w) (l t))) (next_part (inserting w) w.numbers.parts)) ∙ start-rest w.pass i (inserting w) w.numbers.parts entry kept a (area w) s e f n

pub ruleset agains = (insert-none, insert-more)

pub ruleset whole = (fits-part, fits-at, act-next, act-block, act-asked, act-outcome, act-verb, rest-fed)
