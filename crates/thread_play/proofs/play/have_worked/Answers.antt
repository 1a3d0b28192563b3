use Rattle.std.proofs.Common.{length, Ok, Err, Result, IfOk}
use Rattle.thread_play.proofs.Telling.{may_work, all_worked, all_many}
use Rattle.thread_play.proofs.play.have_worked.Goals as goal

if_ok : {A E : Type 0} (P Q : A → Type 0) (r : Result A E) → ((a : A) → P a → Q a) → IfOk r P → IfOk r Q
if_ok P Q (Ok a) f h = f a h
if_ok P Q (Err e) f h = h

pub work_all-requires-after_bounds : goal.work_all-requires-after_bounds
work_all-requires-after_bounds g c κs within = λ i seat low at. may_work c.args.memory.now c.args.script.now c.args.seats.items _ i seat c.requires c.args.seats.ok.0 low at

pub returns-clause-worked : goal.returns-clause-worked
returns-clause-worked g c = if_ok _ _ c.gathered.result
    (λ all is. all_worked c.args.memory.now c.args.script.now c.args.seats.items _ _ c.in_ok-results.results.items all.items c.requires c.args.seats.ok.0 c.in_ok-results.ensures.many c.in_ok-results.results.ok.0 is c.in_ok-results.ensures.each)
    c.gathered.ensures

pub returns-clause-many : goal.returns-clause-many
returns-clause-many g c = if_ok _ _ c.gathered.result
    (λ all is. all_many c.args.memory.now c.args.seats.items (length c.args.script.now.content.clients) _ _ c.in_ok-results.results.items all.items c.requires c.args.seats.ok.0 c.in_ok-results.ensures.many c.in_ok-results.results.ok.0 is)
    c.gathered.ensures
