-- The swaps that a call loses, part by part.
use Rattle.std.specs.Prelude.{◌≡◌, ℕ, zero, suc, ◌+◌, ◌-◌, ◌≤◌, ◌==◌, ◌||◌, Bool, true, false, cond, List, [], Option, Some, None, refl}
use Rattle.std.proofs.Common.{arith, subst}
use Rattle.kv_block.specs.Packing.{Pair, packed}
use Rattle.map_model.specs.declared.calls.Call.{Call}
use Rattle.map_model.specs.declared.calls.Call.TheVariants.{Insert, Search, Update, Delete, Resize}
use Rattle.map_model.specs.declared.calls.Reply.{Reply}
use Rattle.map_model.specs.declared.calls.Reply.TheVariants as reply
use Rattle.dir_cache.specs.Cached.{entry_of}
use Rattle.verbs.specs.Programs.{Prog, Go, again, done, bind}
use Rattle.pass_text.specs.declared.passed.Passed.{Passed}
use Rattle.pass_text.specs.Pass.{pass}
use Rattle.call_laws.specs.Settling.{look_job}
use Rattle.block_taking.specs.declared.taking.Area.{Area}
use Rattle.op_search.specs.declared.end.SearchEnd.{SearchEnd}
use Rattle.op_search.specs.declared.end.SearchOutcome.{SearchOutcome}
use Rattle.op_search.specs.declared.end.SearchOutcome.TheVariants as searched
use Rattle.op_search.specs.Text.{search}
use Rattle.op_delete.specs.declared.end.DeleteEnd.{DeleteEnd}
use Rattle.op_delete.specs.declared.end.DeleteOutcome.{DeleteOutcome}
use Rattle.op_delete.specs.declared.end.DeleteOutcome.TheVariants as deleted
use Rattle.op_delete.specs.Text.{delete}
use Rattle.op_update.specs.declared.end.UpdateEnd.{UpdateEnd}
use Rattle.op_update.specs.declared.end.UpdateOutcome.{UpdateOutcome}
use Rattle.op_update.specs.declared.end.UpdateOutcome.TheVariants as updated
use Rattle.op_update.specs.Text.{update}
use Rattle.op_update.specs.Law.{plan_of}
use Rattle.op_insert.specs.declared.end.InsertEnd.{InsertEnd}
use Rattle.op_insert.specs.declared.end.InsertOutcome.{InsertOutcome}
use Rattle.op_insert.specs.declared.end.InsertOutcome.TheVariants as inserted
use Rattle.op_insert.specs.Text.{insert, is_plain_at}
use Rattle.split_text.specs.declared.site.Ticket.{Ticket}
use Rattle.split_text.specs.declared.resized.ResizeEnd.{ResizeEnd}
use Rattle.split_text.specs.declared.resized.ResizeOutcome.{ResizeOutcome}
use Rattle.split_text.specs.declared.resized.ResizeOutcome.TheVariants as split
use Rattle.split_text.specs.Text.{resize, resume}
use Rattle.call_texts.specs.State.{State, Caller, caller_of, CallEnd, Inserting, Stage, inserting, walking}
use Rattle.call_texts.specs.Text.{insert_plan, split_job, walk_job, after_search, search_call, after_delete, delete_call, after_update, update_call, refuses, starts_again, after_split, was_full, room, after_insert, insert_part, after_own, after_walk, walk_part, resize_call, part_of, begin_call}
use Rattle.loss_laws.specs.Loses.{Loses}
use Rattle.loss_laws.specs.Again.{ReplyLost, CallLost}
use Rattle.loss_laws.proofs.Rules.{Grows, pick, in_turn, after_any, any_ends}
use Rattle.loss_laws.proofs.Changes.{DeleteLost, UpdateLost, delete-loses, update-loses}
use Rattle.loss_laws.proofs.Inserts.{InsertLost, insert-loses}
use Rattle.loss_laws.proofs.Splits.{SplitLost, split-loses, resume-loses}

calls-grow : Grows CallLost
calls-grow n m (done e) h x = by e.reply x
  where
    by : (r : Reply) → ReplyLost n r → ReplyLost m r
    by (reply.Found v) x = tt
    by reply.Missing x = tt
    by reply.Inserted x = tt
    by (reply.Exists v) x = tt
    by (reply.Updated v) x = tt
    by (reply.Deleted v) x = tt
    by (reply.Split t d) x = tt
    by (reply.Again k) x = omega arith
    by (reply.FullDepth d) x = tt
    by (reply.FullWords next need) x = tt
    by (reply.NoBlock next need) x = tt
calls-grow n m (again (inserting who pair st)) h x = omega arith
calls-grow n m (again (walking who key start left area)) h x = omega arith

module _ (who : Caller) where
  search-ends : (area : Area) (ticket : Option Ticket) (t n : ℕ) (o : SearchOutcome) → Loses CallLost n (after_search who area ticket t o)
  search-ends area ticket t n (searched.Found h) = tt
  search-ends area ticket t n searched.Missing = tt

  search-loses : (key : List ℕ) (entry : Option ℕ) (area : Area) (ticket : Option Ticket) → Loses CallLost 0 (search_call who key entry area ticket)
  search-loses key entry area ticket = after_any CallLost calls-grow 0 (search (look_job who.geometry key who.hash) entry) (λ e. after_search who area ticket e.table e.outcome) (λ e. search-ends area ticket e.table 0 e.outcome)

  delete-ends : (area : Area) (ticket : Option Ticket) (t n : ℕ) (o : DeleteOutcome) → DeleteLost who.tries n o → Loses CallLost n (after_delete who area ticket t o)
  delete-ends area ticket t n (deleted.Deleted h) x = tt
  delete-ends area ticket t n deleted.Missing x = tt
  delete-ends area ticket t n deleted.Again x = x

  delete_call-loses : (key : List ℕ) (entry : Option ℕ) (area : Area) (ticket : Option Ticket) → Loses CallLost 0 (delete_call who key entry area ticket)
  delete_call-loses key entry area ticket =
      in_turn (λ n e. DeleteLost who.tries n e.outcome) CallLost 0 (delete (look_job who.geometry key who.hash) who.tries entry) (λ e. after_delete who area ticket e.table e.outcome)
      (delete-loses (look_job who.geometry key who.hash) who.tries entry) (λ n e x. delete-ends area ticket e.table n e.outcome x)

  update-ends : (ticket : Option Ticket) (e : UpdateEnd) (n : ℕ) (o : UpdateOutcome) → UpdateLost who.tries n o → Loses CallLost n (after_update who ticket e o)
  update-ends ticket e n (updated.Updated h at) x = tt
  update-ends ticket e n updated.Missing x = tt
  update-ends ticket e n updated.Again x = x
  update-ends ticket e n (updated.NoBlock next need) x = tt

  update_call-loses : (pair : Pair) (entry : Option ℕ) (area : Area) (ticket : Option Ticket) → Loses CallLost 0 (update_call who pair entry area ticket)
  update_call-loses pair entry area ticket =
      in_turn (λ n e. UpdateLost who.tries n e.outcome) CallLost 0 (update (plan_of who.geometry who.client pair who.hash who.tries) area entry) (λ e. after_update who ticket e e.outcome)
      (update-loses (plan_of who.geometry who.client pair who.hash who.tries) who.tries refl area entry) (λ n e x. update-ends ticket e n e.outcome x)

  module _ (pair : Pair) (st : Inserting) where
    split-ends : (e : InsertEnd) (kept : Option ℕ) (d left n : ℕ) (o : ResizeOutcome) → SplitLost who.tries n (record { outcome = o; left = left }) → Loses CallLost n (after_split who pair st e kept d left o)
    split-ends e kept d left n (split.Split u k) x = x
    split-ends e kept d left n split.Changed x = x
    split-ends e kept d left n split.Locked x = x
    split-ends e kept d left n (split.Again ticket) x = let y : who.tries ≤ n + 0 = x in omega (arith, y)
    split-ends e kept d left n (split.FullWords next need) x = tt

    room-loses : (e : InsertEnd) (p : Passed) (kept : Option ℕ) (left n : ℕ) → who.tries ≤ n + left → (o : Option Ticket) → Loses CallLost n (room who pair st e p kept left o)
    room-loses e p kept left n h (Some tk) = in_turn (λ m r. SplitLost who.tries m r) CallLost n (resume tk left) (λ r. after_split who pair st e kept p.head.depth r.left r.outcome) (resume-loses who.tries tk left n h) (λ m r x. split-ends e kept p.head.depth r.left m r.outcome x)
    room-loses e p kept left n h None =
        pick CallLost n (is_plain_at who.geometry.max_depth p.head) _ _ (λ v. pick CallLost n (was_full who pair st e.table p) _ _ (λ w. tt) (λ w. h))
        (λ v. in_turn (λ m r. SplitLost who.tries m r) CallLost n (resize (split_job who e.table p.head.depth) left) (λ r. after_split who pair st e kept p.head.depth r.left r.outcome) (split-loses who.tries (split_job who e.table p.head.depth) left n h) (λ m r x. split-ends e kept p.head.depth r.left m r.outcome x))

    insert-ends : (e : InsertEnd) (n : ℕ) (o : InsertOutcome) → InsertLost who.tries st.left n e.lost o → Loses CallLost n (after_insert who pair st e o)
    insert-ends e n (inserted.Inserted at) x = tt
    insert-ends e n (inserted.Exists h) x = tt
    insert-ends e n (inserted.NeedRoom p kept) x = room-loses e p kept (st.left - e.lost) n x st.ticket
    insert-ends e n inserted.Again x = let y : who.tries ≤ n + (st.left - e.lost) = x in omega (arith, y)
    insert-ends e n (inserted.NoBlock next need) x = tt

    insert_part-loses : (n : ℕ) → who.tries ≤ n + st.left → Loses CallLost n (insert_part who pair st)
    insert_part-loses n h =
        in_turn (λ m e. InsertLost who.tries st.left m e.lost e.outcome) CallLost n (insert (insert_plan who pair st.left) st.start st.kept st.area) (λ e. after_insert who pair st e e.outcome)
        (insert-loses (insert_plan who pair st.left) who.tries st.start st.kept st.area n h) (λ m e x. insert-ends e m e.outcome x)

  own-ends : (key : List ℕ) (area : Area) (t : Option ℕ) (left n : ℕ) (o : ResizeOutcome) → SplitLost who.tries n (record { outcome = o; left = left }) → Loses CallLost n (after_own who key area t left o)
  own-ends key area t left n (split.Split u d) x = tt
  own-ends key area t left n split.Changed x = x
  own-ends key area t left n split.Locked x = x
  own-ends key area t left n (split.Again ticket) x = let y : who.tries ≤ n + 0 = x in omega (arith, y)
  own-ends key area t left n (split.FullWords next need) x = tt

  walk-ends : (key : List ℕ) (area : Area) (left n : ℕ) (p : Passed) → who.tries ≤ n + left → Loses CallLost n (after_walk who key area left p)
  walk-ends key area left n p h =
      pick CallLost n (is_plain_at who.geometry.max_depth p.head) _ _ (λ v. tt)
      (λ v. in_turn (λ m r. SplitLost who.tries m r) CallLost n (resize (split_job who p.table p.head.depth) left) (λ r. after_own who key area (Some p.table) r.left r.outcome) (split-loses who.tries (split_job who p.table p.head.depth) left n h) (λ m r x. own-ends key area (Some p.table) r.left m r.outcome x))

  walk_part-loses : (key : List ℕ) (area : Area) (start : Option ℕ) (left n : ℕ) → who.tries ≤ n + left → Loses CallLost n (walk_part who key area start left)
  walk_part-loses key area start left n h = after_any CallLost calls-grow n (pass (walk_job who key) start) (after_walk who key area left) (λ p. walk-ends key area left n p h)

  resize_call-loses : (key : List ℕ) (entry : Option ℕ) (area : Area) (o : Option Ticket) → Loses CallLost 0 (resize_call who key entry area o)
  resize_call-loses key entry area (Some tk) = in_turn (λ m r. SplitLost who.tries m r) CallLost 0 (resume tk who.tries) (λ r. after_own who key area None r.left r.outcome) (resume-loses who.tries tk who.tries 0 (same who.tries)) (λ m r x. own-ends key area None r.left m r.outcome x)
    where
      same : (x : ℕ) → x ≤ 0 + x
      same x = omega arith
  resize_call-loses key entry area None = walk_part-loses key area entry who.tries 0 (same who.tries)
    where
      same : (x : ℕ) → x ≤ 0 + x
      same x = omega arith

-- each part
pub part-loses : (n : ℕ) (stage : Stage) → CallLost n (again stage) → Loses CallLost n (part_of stage)
part-loses n (inserting who pair st) h = insert_part-loses who pair st n h
part-loses n (walking who key start left area) h = walk_part-loses who key area start left n h

-- each call
pub begin-loses : (k : State) (hash : ℕ) (call : Call) → Loses CallLost 0 (begin_call k hash call)
begin-loses k hash (Search key) = search-loses (caller_of k hash) key (entry_of k.cache hash) k.area k.ticket
begin-loses k hash (Delete key) = delete_call-loses (caller_of k hash) key (entry_of k.cache hash) k.area k.ticket
begin-loses k hash (Update key value) = update_call-loses (caller_of k hash) (record { key = key; value = value }) (entry_of k.cache hash) k.area k.ticket
begin-loses k hash (Insert key value) = insert_part-loses (caller_of k hash) (record { key = key; value = value })
    (record { start = entry_of k.cache hash; kept = None; left = k.tries; full = None; forgotten = []; area = k.area; ticket = k.ticket }) 0 (same k.tries)
  where
    same : (x : ℕ) → x ≤ 0 + x
    same x = omega arith
begin-loses k hash (Resize key) = resize_call-loses (caller_of k hash) key (entry_of k.cache hash) k.area k.ticket
