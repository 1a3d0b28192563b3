-- An operation has an act exactly where it has not ended.
use Rattle.std.specs.Prelude.{◌≡◌, true, false, not, IsSome, is_some, refl}
use Rattle.std.proofs.Common.{◌∙◌}
use Rattle.verbs.specs.Programs.{Prog, ret, ask, next_act, bind, mapped, outcome_of}
use Rattle.pass_text.specs.declared.job.Job.{Job}
use Rattle.scan_pass.specs.declared.pass.Pass.{Pass}
use Rattle.scan_pass.specs.declared.scan.Scan.{Scan}
use Rattle.scan_pass.specs.declared.at.At.{At as PassAt}
use Rattle.scan_pass.specs.declared.at.At.TheVariants as pass
use Rattle.scan_pass.specs.Rest.{at_rest as pass_at, pass_rest}
use Rattle.scan_pass.specs.Ends.{has_ended as pass_ended}
use Rattle.op_search.specs.Text.{found}
use Rattle.work_area.specs.declared.work.Work.{Work}
use Rattle.op_delete.specs.declared.at.At.{At as DeleteAt}
use Rattle.op_delete.specs.declared.at.At.TheVariants as delete
use Rattle.op_delete.specs.AtFits.{AtFits as DeleteFits}
use Rattle.op_delete.specs.Ends.{has_ended as delete_ended}
use Rattle.op_delete.specs.Rest.{at_rest as delete_at}
use Rattle.op_update.specs.declared.at.At.{At as UpdateAt}
use Rattle.op_update.specs.declared.at.At.TheVariants as update
use Rattle.op_update.specs.AtFits.{AtFits as UpdateFits}
use Rattle.op_update.specs.Ends.{has_ended as update_ended}
use Rattle.op_update.specs.Rest.{at_rest as update_at}
use Rattle.op_insert.specs.declared.at.At.{At as InsertAt}
use Rattle.op_insert.specs.declared.at.At.TheVariants as insert
use Rattle.op_insert.specs.AtFits.{AtFits as InsertFits}
use Rattle.op_insert.specs.Rest.{at_rest as insert_at, has_ended as insert_ended}

pub pass-acts : (j : Job) (s : Scan) (at : PassAt) → not (pass_ended at) ≡ is_some (next_act (pass_at j s at))
pass-acts j s pass.Depth = refl
pass-acts j s pass.Directory = refl
pass-acts j s pass.Header = refl
pass-acts j s pass.Parent = refl
pass-acts j s pass.Birth = refl
pass-acts j s pass.Slot = refl
pass-acts j s pass.Block = refl
pass-acts j s pass.Drop = refl
pass-acts j s pass.KeyHeader = refl
pass-acts j s pass.Child = refl
pass-acts j s pass.Held = refl
pass-acts j s pass.Clear = refl
pass-acts j s pass.Gone = refl
pass-acts j s pass.Spent = refl

mapped-acts : {A B : Type 0} (f : A → B) (p : Prog A) → is_some (next_act p) ≡ is_some (next_act (mapped f p))
unfolding mapped
mapped-acts f (ret a) = refl
mapped-acts f (ask act k) = refl

pub search-acts : (p : Pass) → not (pass_ended p.at) ≡ is_some (next_act (mapped found (pass_rest p)))
search-acts p = pass-acts p.task.job p.scan p.at ∙ mapped-acts found (pass_rest p)

-- one program and then another has an act where the first has one
bind-acts : {A B : Type 0} (p : Prog A) (f : A → Prog B) → IsSome (next_act p) → true ≡ is_some (next_act (bind p f))
bind-acts (ret a) f h = absurd (cc)
bind-acts (ask act k) f h = refl

-- .. and has ended where both have
ret-ends : {A B : Type 0} (p : Prog A) (f : A → B) → IsSome (outcome_of p) → false ≡ is_some (next_act (bind p (λ a. ret (f a))))
ret-ends (ret a) f h = refl
ret-ends (ask act k) f h = absurd (cc)

pub delete-acts : (w : Work) (at : DeleteAt) → DeleteFits w at → not (delete_ended at) ≡ is_some (next_act (delete_at w at))
delete-acts w delete.Looking h = bind-acts (pass_rest w.pass) _ h.0
delete-acts w delete.Settle h = refl
delete-acts w delete.Remove h = refl
delete-acts w delete.Deleted h = refl
delete-acts w delete.Missing h = refl
delete-acts w delete.Again h = refl

pub update-acts : (w : Work) (at : UpdateAt) → UpdateFits w at → not (update_ended at) ≡ is_some (next_act (update_at w at))
update-acts w update.Looking h = bind-acts (pass_rest w.pass) _ h
update-acts w update.Taking h = bind-acts _ _ h.0
update-acts w update.Settle h = refl
update-acts w update.Replace h = refl
update-acts w update.Updated h = refl
update-acts w update.Missing h = refl
update-acts w update.Again h = refl
update-acts w update.NoBlock h = ret-ends _ _ h

-- a part of an insert, by what it begins with
bind-acts_twice : {A B C : Type 0} (p : Prog A) (f : A → Prog B) (g : B → Prog C) → IsSome (next_act p) → true ≡ is_some (next_act (bind (bind p f) g))
bind-acts_twice (ret a) f g h = absurd (cc)
bind-acts_twice (ask act k) f g h = refl

pub insert-acts : (w : Work) (at : InsertAt) → InsertFits w at → not (insert_ended at) ≡ is_some (next_act (insert_at w at))
insert-acts w insert.Look h = bind-acts_twice (pass_rest w.pass) _ _ h
insert-acts w insert.ParentHeader h = refl
insert-acts w insert.Begin h = refl
insert-acts w insert.Open h = refl
insert-acts w insert.ParentSlot h = refl
insert-acts w insert.ParentBlock h = refl
insert-acts w insert.ParentHash h = refl
insert-acts w insert.Take h = bind-acts_twice _ _ _ h
insert-acts w insert.Place h = refl
insert-acts w insert.Sweep h = bind-acts_twice (pass_rest w.pass) _ _ h
insert-acts w insert.WithdrawHeld h = refl
insert-acts w insert.WithdrawGone h = refl
insert-acts w insert.WithdrawSpent h = refl
insert-acts w insert.Commit h = refl
insert-acts w insert.Lost h = absurd h
insert-acts w insert.Left h = absurd h
insert-acts w insert.Inserted h = refl
insert-acts w insert.Exists h = refl
insert-acts w insert.NeedRoom h = refl
insert-acts w insert.Again h = refl
insert-acts w insert.NoBlock h = refl
insert-acts w insert.Out h = refl

pub ruleset acting = (pass-acts, search-acts, delete-acts, update-acts, insert-acts)
