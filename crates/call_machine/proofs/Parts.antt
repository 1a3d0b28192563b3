-- An operation inside a call: its acts are the call's, and so is the answer that it ends with.
use Rattle.std.specs.Prelude.{◌≡◌, ℕ, true, not, ◌||◌, Option, Some, None, IsSome, is_some, is_none, refl}
use Rattle.std.proofs.Common.{sym, ◌∙◌, ap, subst}
use Rattle.verbs.specs.Programs.{Act, do_verb, ask_hash, Prog, ret, ask, next_act, next_verb, block_of, asked, verb_of, block_in, key_of, after, outcome_of, bind, mapped, again, done, goes_on, answer_of}
use Rattle.verbs.proofs.Progs.{next_act-bind, after-bind, ret-by-outcome, asks-by-outcome}
use Rattle.verbs.proofs.Insides.{acts_unanswered}
use Rattle.scan_pass.specs.Rest.{pass_rest}
use Rattle.op_search.specs.declared.end.SearchOutcome.{SearchOutcome}
use Rattle.op_search.specs.declared.end.SearchOutcome.TheVariants as searched
use Rattle.op_search.specs.Text.{found}
use Rattle.op_delete.specs.declared.end.DeleteOutcome.{DeleteOutcome}
use Rattle.op_delete.specs.declared.end.DeleteOutcome.TheVariants as deleted
use Rattle.op_delete.specs.Rest.{at_rest as delete_at}
use Rattle.op_update.specs.declared.end.UpdateEnd.{UpdateEnd}
use Rattle.op_update.specs.declared.end.UpdateOutcome.{UpdateOutcome}
use Rattle.op_update.specs.declared.end.UpdateOutcome.TheVariants as updated
use Rattle.op_update.specs.Rest.{at_rest as update_at}
use Rattle.op_insert.specs.declared.end.InsertEnd.{InsertEnd}
use Rattle.op_insert.specs.declared.end.InsertOutcome.{InsertOutcome}
use Rattle.op_insert.specs.declared.end.InsertOutcome.TheVariants as inserted
use Rattle.op_insert.specs.Rest.{at_rest as insert_at}
use Rattle.split_text.specs.declared.resized.ResizeOutcome.{ResizeOutcome}
use Rattle.split_text.specs.declared.resized.ResizeOutcome.TheVariants as split
use Rattle.remote_resize.specs.ResizeOpRest.{resize_rest}
use Rattle.call_texts.specs.State.{CallEnd}
use Rattle.call_texts.specs.Text.{part_of, after_search, after_delete, after_update, after_insert, after_split, after_own}
use Rattle.call_machine.specs.declared.task.Task.{Task}
use Rattle.call_machine.specs.declared.machines.Machines.{Machines}
use Rattle.call_machine.specs.declared.at.At.{At}
use Rattle.call_machine.specs.declared.at.At.TheVariants as op
use Rattle.call_machine.specs.Tasks.{caller_in, pair_in, inserting_in, insert_end_in}
use Rattle.call_machine.specs.Rest.{Left, rest_of, act_of, on_search, on_delete, on_update, on_insert, on_room, on_walk, on_split}
use Rattle.call_machine.specs.Spare.{EndsBy, NeedsNone, InsertDone, Refuses, RoomDone, Answers, SplitDone}
use Rattle.call_machine.specs.Fits.{Stands, HasSpare, Settled, CallFits}
use Rattle.call_machine.specs.Follows.{Follows}
use Rattle.call_machine.proofs.Ways.{outcomes-fed, outcomes-told}

-- a call that has answered has no act, and stays; one that has an act stays too
done-acts : (q : Left) → IsSome (answer_of q) → next_act q ≡ None
done-acts (ret (again s)) h = absurd (cc)
done-acts (ret (done e)) h = refl
done-acts (ask act k) h = absurd (cc)

done-stays : (q : Left) → IsSome (answer_of q) → goes_on part_of q ≡ q
done-stays (ret (again s)) h = absurd (cc)
done-stays (ret (done e)) h = refl
done-stays (ask act k) h = refl

pub acts-stay : (q : Left) → IsSome (next_act q) → goes_on part_of q ≡ q
acts-stay (ret a) h = absurd (cc)
acts-stay (ask act k) h = refl

-- one operation, and what follows it, which is an answer where it ends in this way
module _ {A : Type 0} (P : A → Type 0) (f : A → Left) (ends : (a : A) → P a → IsSome (answer_of (f a))) where
  act-in : (p : Prog A) → EndsBy P p → next_act (bind p f) ≡ next_act p
  act-in (ret a) h = done-acts (f a) (ends a h)
  act-in (ask act k) h = refl

  stays-in : (p : Prog A) → EndsBy P p → goes_on part_of (bind p f) ≡ bind p f
  stays-in (ret a) h = done-stays (f a) (ends a h)
  stays-in (ask act k) h = refl

  answers-in : (p : Prog A) → EndsBy P p → next_act p ≡ None → IsSome (answer_of (bind p f))
  answers-in (ret a) h e = ends a h
  answers-in (ask act k) h e = absurd (cc)

-- nothing is asked of how it ends
anyhow : {A : Type 0} (p : Prog A) → EndsBy (λ (a : A). Unit {0}) p
anyhow (ret a) = tt
anyhow (ask act k) = tt

pub ends-acting : {A : Type 0} (P : A → Type 0) (p : Prog A) → IsSome (next_act p) → EndsBy P p
ends-acting P (ret a) h = absurd (cc)
ends-acting P (ask act k) h = tt

-- the ends of each operation that are answers of the call
search-ends : (t : Task) (table : ℕ) (o : SearchOutcome) → IsSome (answer_of (after_search (caller_in t) t.area t.ticket table o))
search-ends t table (searched.Found h) = refl
search-ends t table searched.Missing = refl

delete-ends : (t : Task) (table : ℕ) (o : DeleteOutcome) → IsSome (answer_of (after_delete (caller_in t) t.area t.ticket table o))
delete-ends t table (deleted.Deleted h) = refl
delete-ends t table deleted.Missing = refl
delete-ends t table deleted.Again = refl

update-ends : (t : Task) (e : UpdateEnd) (o : UpdateOutcome) → IsSome (answer_of (after_update (caller_in t) t.ticket e o))
update-ends t e (updated.Updated h at) = refl
update-ends t e updated.Missing = refl
update-ends t e updated.Again = refl
update-ends t e (updated.NoBlock next need) = refl

insert-ends : (t : Task) (e : InsertEnd) (o : InsertOutcome) → NeedsNone o → IsSome (answer_of (after_insert (caller_in t) (pair_in t) (inserting_in t) e o))
insert-ends t e (inserted.Inserted at) h = refl
insert-ends t e (inserted.Exists x) h = refl
insert-ends t e (inserted.NeedRoom p kept) h = absurd h
insert-ends t e inserted.Again h = refl
insert-ends t e (inserted.NoBlock next need) h = refl

room-ends : (t : Task) (left : ℕ) (o : ResizeOutcome) → Refuses o → IsSome (answer_of (after_split (caller_in t) (pair_in t) (inserting_in t) (insert_end_in t) t.kept t.depth left o))
room-ends t left (split.Split u d) h = absurd h
room-ends t left split.Changed h = absurd h
room-ends t left split.Locked h = absurd h
room-ends t left (split.Again ticket) h = refl
room-ends t left (split.FullWords next need) h = refl

split-ends : (t : Task) (table : Option ℕ) (left : ℕ) (o : ResizeOutcome) → Answers o → IsSome (answer_of (after_own (caller_in t) t.key t.area table left o))
split-ends t table left (split.Split u d) h = refl
split-ends t table left split.Changed h = absurd h
split-ends t table left split.Locked h = absurd h
split-ends t table left (split.Again ticket) h = refl
split-ends t table left (split.FullWords next need) h = refl

act-told : (t : Task) (m : Machines) (o : At) → Settled m o → next_act (rest_of t m o) ≡ act_of m o
act-told t m op.Search h = act-in (λ e. Unit {0}) (on_search t) (λ e x. search-ends t e.table e.outcome) (mapped found (pass_rest m.work.pass)) (anyhow (mapped found (pass_rest m.work.pass)))
act-told t m (op.Delete a) h = act-in (λ e. Unit {0}) (on_delete t) (λ e x. delete-ends t e.table e.outcome) (delete_at m.work a) (anyhow (delete_at m.work a))
act-told t m (op.Update a) h = act-in (λ e. Unit {0}) (on_update t) (λ e x. update-ends t e e.outcome) (update_at m.work a) (anyhow (update_at m.work a))
act-told t m (op.Insert a) h = act-in InsertDone (on_insert t) (λ e x. insert-ends t e e.outcome x) (insert_at m.work a) h
act-told t m op.Room h = act-in RoomDone (on_room t) (λ e x. room-ends t e.left e.outcome x) (resize_rest m.split) h
act-told t m op.Walk h = next_act-bind (pass_rest m.work.pass) (on_walk t) h
act-told t m op.Split h = act-in SplitDone (on_split t (Some t.table)) (λ e x. split-ends t (Some t.table) e.left e.outcome x) (resize_rest m.split) h
act-told t m op.Resume h = act-in SplitDone (on_split t None) (λ e x. split-ends t None e.left e.outcome x) (resize_rest m.split) h
act-told t m op.Full h = refl

-- a call that has been settled stays
stays : (t : Task) (m : Machines) (o : At) → Settled m o → goes_on part_of (rest_of t m o) ≡ rest_of t m o
stays t m op.Search h = stays-in (λ e. Unit {0}) (on_search t) (λ e x. search-ends t e.table e.outcome) (mapped found (pass_rest m.work.pass)) (anyhow (mapped found (pass_rest m.work.pass)))
stays t m (op.Delete a) h = stays-in (λ e. Unit {0}) (on_delete t) (λ e x. delete-ends t e.table e.outcome) (delete_at m.work a) (anyhow (delete_at m.work a))
stays t m (op.Update a) h = stays-in (λ e. Unit {0}) (on_update t) (λ e x. update-ends t e e.outcome) (update_at m.work a) (anyhow (update_at m.work a))
stays t m (op.Insert a) h = stays-in InsertDone (on_insert t) (λ e x. insert-ends t e e.outcome x) (insert_at m.work a) h
stays t m op.Room h = stays-in RoomDone (on_room t) (λ e x. room-ends t e.left e.outcome x) (resize_rest m.split) h
stays t m op.Walk h = acts-stay (rest_of t m op.Walk) (subst (λ a. IsSome a) (sym (act-told t m op.Walk h)) h)
stays t m op.Split h = stays-in SplitDone (on_split t (Some t.table)) (λ e x. split-ends t (Some t.table) e.left e.outcome x) (resize_rest m.split) h
stays t m op.Resume h = stays-in SplitDone (on_split t None) (λ e x. split-ends t None e.left e.outcome x) (resize_rest m.split) h
stays t m op.Full h = refl

-- one with no act has answered
answers : (t : Task) (m : Machines) (o : At) → Settled m o → act_of m o ≡ None → IsSome (answer_of (rest_of t m o))
answers t m op.Search h e = answers-in (λ e. Unit {0}) (on_search t) (λ e x. search-ends t e.table e.outcome) (mapped found (pass_rest m.work.pass)) (anyhow (mapped found (pass_rest m.work.pass))) e
answers t m (op.Delete a) h e = answers-in (λ e. Unit {0}) (on_delete t) (λ e x. delete-ends t e.table e.outcome) (delete_at m.work a) (anyhow (delete_at m.work a)) e
answers t m (op.Update a) h e = answers-in (λ e. Unit {0}) (on_update t) (λ e x. update-ends t e e.outcome) (update_at m.work a) (anyhow (update_at m.work a)) e
answers t m (op.Insert a) h e = answers-in InsertDone (on_insert t) (λ e x. insert-ends t e e.outcome x) (insert_at m.work a) h e
answers t m op.Room h e = answers-in RoomDone (on_room t) (λ e x. room-ends t e.left e.outcome x) (resize_rest m.split) h e
answers t m op.Walk h e = absurd (cc)
answers t m op.Split h e = answers-in SplitDone (on_split t (Some t.table)) (λ e x. split-ends t (Some t.table) e.left e.outcome x) (resize_rest m.split) h e
answers t m op.Resume h e = answers-in SplitDone (on_split t None) (λ e x. split-ends t None e.left e.outcome x) (resize_rest m.split) h e
answers t m op.Full h e = refl

-- What a call tells of its operation.
pub verb-told : (t : Task) (m : Machines) (o : At) → CallFits t m o → verb_of (act_of m o) ≡ next_verb (rest_of t m o)
verb-told t m o h = ap verb_of (sym (act-told t m o h.2))

pub block-told : (t : Task) (m : Machines) (o : At) → CallFits t m o → block_in (act_of m o) ≡ block_of (rest_of t m o)
block-told t m o h = ap block_in (sym (act-told t m o h.2))

pub key-told : (t : Task) (m : Machines) (o : At) → CallFits t m o → key_of (act_of m o) ≡ asked (rest_of t m o)
key-told t m o h = ap key_of (sym (act-told t m o h.2))

pub none-told : (t : Task) (m : Machines) (o : At) → CallFits t m o → not (is_some (act_of m o)) ≡ is_none (next_act (rest_of t m o))
none-told t m o h = by (act_of m o) ∙ ap is_none (sym (act-told t m o h.2))
  where
    by : (a : Option Act) → not (is_some a) ≡ is_none a
    by None = refl
    by (Some act) = refl

pub answered-told : (t : Task) (m : Machines) (o : At) → CallFits t m o → not (is_some (act_of m o)) ≡ is_some (answer_of (rest_of t m o))
answered-told t m o h = by (act_of m o) refl
  where
    some : (a : Option Act) (act : Act) → a ≡ Some act → IsSome a
    some a act e = subst (λ v. IsSome v) (sym e) refl

    by : (a : Option Act) → act_of m o ≡ a → not (is_some a) ≡ is_some (answer_of (rest_of t m o))
    by None e = sym (answers t m o h.2 e)
    by (Some act) e = sym (ap is_some (acts_unanswered (rest_of t m o) (subst (λ v. IsSome v) (sym (act-told t m o h.2)) (some (act_of m o) act e))))

pub ruleset seen = (verb-told, block-told, key-told, none-told, answered-told)

pub either_act : (a : Option Act) → (is_some (verb_of a) || is_some (key_of a)) ≡ is_some a
either_act None = refl
either_act (Some (do_verb block verb)) = refl
either_act (Some (ask_hash key)) = refl

pub ruleset either_acts = (either_act)

-- One act of the operation.
verb-some : {A : Type 0} (p : Prog A) → IsSome (next_verb p) → IsSome (next_act p)
verb-some (ret a) h = absurd (cc)
verb-some (ask act k) h = refl

key-some : {A : Type 0} (p : Prog A) → IsSome (asked p) → IsSome (next_act p)
key-some (ret a) h = absurd (cc)
key-some (ask act k) h = refl

fed-on : {A : Type 0} (p q : Prog A) (f : A → Left) (answer : ℕ) → IsSome (next_act p) → q ≡ after p answer → bind q f ≡ after (bind p f) answer
fed-on p q f answer h e = ap (λ x. bind x f) e ∙ sym (after-bind p f answer h)

pub verb-fed : {A : Type 0} (p q : Prog A) (f : A → Left) (answer : ℕ) → IsSome (next_verb p) → q ≡ after p answer → bind q f ≡ after (bind p f) answer
verb-fed p q f answer h e = fed-on p q f answer (verb-some p h) e

pub key-fed : {A : Type 0} (p q : Prog A) (f : A → Left) (answer : ℕ) → IsSome (asked p) → q ≡ after p answer → bind q f ≡ after (bind p f) answer
key-fed p q f answer h e = fed-on p q f answer (key-some p h) e

pub ruleset fed_ons = (verb-fed, key-fed, outcomes-fed)

-- What follows an operation.
acts-settled : (m : Machines) (o : At) → IsSome (act_of m o) → Settled m o
acts-settled m op.Search h = tt
acts-settled m (op.Delete a) h = tt
acts-settled m (op.Update a) h = tt
acts-settled m (op.Insert a) h = ends-acting InsertDone (insert_at m.work a) h
acts-settled m op.Room h = ends-acting RoomDone (resize_rest m.split) h
acts-settled m op.Walk h = h
acts-settled m op.Split h = ends-acting SplitDone (resize_rest m.split) h
acts-settled m op.Resume h = ends-acting SplitDone (resize_rest m.split) h
acts-settled m op.Full h = tt

pub acts_settle : (m : Machines) (o : At) → is_some (act_of m o) ≡ true → Settled m o
acts_settle m o h = acts-settled m o h

pub settled-fits : (t : Task) (m : Machines) (o : At) → Stands m o → HasSpare t m o → Settled m o → CallFits t m o
settled-fits t m o k s h = (k, s, h)

pub settled-onward : (t : Task) (m : Machines) (o : At) → Settled m o → rest_of t m o ≡ goes_on part_of (rest_of t m o)
settled-onward t m o h = sym (stays t m o h)

pub none-onward : (t : Task) (m : Machines) (u : Task) (n : Machines) (o : At) → Follows (Settled m o) (rest_of t m o) t m u n None → rest_of u n o ≡ goes_on part_of (rest_of t m o)
none-onward t m u n o h = (λ i. rest_of (h.1 i) (h.2 i) o) ∙ sym (stays t m o h.0)

pub none-fits : (t : Task) (m : Machines) (u : Task) (n : Machines) (o : At) → Stands m o → HasSpare t m o → Follows (Settled m o) (rest_of t m o) t m u n None → CallFits u n o
none-fits t m u n o k s h = (subst (λ y. Stands y o) (sym h.2) k, subst (λ v. HasSpare v n o) (sym h.1) (subst (λ y. HasSpare t y o) (sym h.2) s), subst (λ y. Settled y o) (sym h.2) h.0)

pub none-caller : (t : Task) (m : Machines) (u : Task) (n : Machines) (o : At) → Follows (Settled m o) (rest_of t m o) t m u n None → caller_in u ≡ caller_in t
none-caller t m u n o h = ap caller_in h.1

-- it has ended so
pub ends-follow : {A : Type 0} (P : A → Type 0) (f : A → Left) (p : Prog A) (e : A) (t : Task) (m : Machines) (u : Task) (n : Machines) (r : Option At) → outcome_of p ≡ Some e → Follows (P e) (f e) t m u n r → Follows (EndsBy P p) (bind p f) t m u n r
ends-follow P f p e t m u n r h k = subst (λ q. Follows (EndsBy P q) (bind q f) t m u n r) (sym (ret-by-outcome p e h)) k

-- it has an act
pub acts-follow : {A : Type 0} (P : A → Type 0) (f : A → Left) (p : Prog A) (t : Task) (m : Machines) → outcome_of p ≡ None → Follows (EndsBy P p) (bind p f) t m t m None
acts-follow P f p t m h = (ends-acting P p (asks-by-outcome p h), refl, refl)

-- a walk has ended so
pub walked-on : {A : Type 0} (f : A → Left) (p : Prog A) (e : A) (q : Left) → outcome_of p ≡ Some e → q ≡ goes_on part_of (f e) → q ≡ goes_on part_of (bind p f)
walked-on f p e q h k = k ∙ ap (λ x. goes_on part_of (bind x f)) (sym (ret-by-outcome p e h))

pub walks-on : {A : Type 0} (p : Prog A) → outcome_of p ≡ None → IsSome (next_act p)
walks-on p h = asks-by-outcome p h

pub ruleset onward = (settled-fits, settled-onward, none-onward, none-fits, none-caller, ends-follow, acts-follow, walked-on, walks-on, outcomes-told)

-- How a call ends.
pub ends-told : {A : Type 0} (f : A → Left) (p : Prog A) (e : A) (x : Option CallEnd) → outcome_of p ≡ Some e → x ≡ answer_of (f e) → x ≡ answer_of (bind p f)
ends-told f p e x h k = k ∙ ap (λ q. answer_of (bind q f)) (sym (ret-by-outcome p e h))

pub acts-told : {A : Type 0} (f : A → Left) (p : Prog A) → outcome_of p ≡ None → None ≡ answer_of (bind p f)
acts-told f p h = sym (acts_unanswered (bind p f) (subst (λ a. IsSome a) (sym (next_act-bind p f (asks-by-outcome p h))) (asks-by-outcome p h)))

pub walk-told : {A : Type 0} (f : A → Left) (p : Prog A) → IsSome (next_act p) → None ≡ answer_of (bind p f)
walk-told f p h = sym (acts_unanswered (bind p f) (subst (λ a. IsSome a) (sym (next_act-bind p f h)) h))

pub ends-so : {A : Type 0} (P : A → Type 0) (p : Prog A) (e : A) → outcome_of p ≡ Some e → EndsBy P p → P e
ends-so P p e h k = subst (λ q. EndsBy P q) (ret-by-outcome p e h) k

pub ruleset told = (ends-told, acts-told, walk-told, ends-so)
