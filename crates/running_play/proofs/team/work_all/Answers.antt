use Rattle.std.proofs.Common.{Ok, Err, Result, IfOk, rules}
use Rattle.running_play.proofs.team.work_all.Goals as goal

IfOk-weaker : {A E : Type 0} (P Q : A → Type 0) (r : Result A E) → ((a : A) → P a → Q a) → IfOk r P → IfOk r Q
IfOk-weaker P Q (Ok a) f h = f a h
IfOk-weaker P Q (Err e) f h = tt

pub returns-clause-each : goal.returns-clause-each
returns-clause-each g c = IfOk-weaker _ _ c.map_vec.result (λ all h. λ i d low. let x = (h i d (search rules)).1 in (x.job, x.job_read, search rules)) c.map_vec.ensures.each
