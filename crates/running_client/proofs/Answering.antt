-- Each call's text comes to one of its replies.
use Rattle.std.specs.Prelude.{◌≡◌, ℕ, Bool, true, false, if◌then◌else◌, List, [], Option, Some, None, refl}
use Rattle.std.proofs.Common.{subst}
use Rattle.kv_block.specs.Packing.{Pair}
use Rattle.map_model.specs.declared.calls.Call.{Call}
use Rattle.map_model.specs.declared.calls.Call.TheVariants.{Insert, Search, Update, Delete, Resize}
use Rattle.verb_log.specs.declared.entry.Verb.{Verb}
use Rattle.verbs.specs.Programs.{do_verb, ask_hash, Prog, ret, ask, bind, again, done, Go, after, goes_on, answer_of, Outcomes}
use Rattle.block_taking.specs.declared.taking.Area.{Area}
use Rattle.pass_text.specs.declared.passed.Passed.{Passed}
use Rattle.dir_cache.specs.Cached.{entry_of}
use Rattle.op_search.specs.declared.end.SearchEnd.{SearchEnd}
use Rattle.op_search.specs.declared.end.SearchOutcome.{SearchOutcome}
use Rattle.op_search.specs.declared.end.SearchOutcome.TheVariants as searched
use Rattle.op_delete.specs.declared.end.DeleteEnd.{DeleteEnd}
use Rattle.op_delete.specs.declared.end.DeleteOutcome.{DeleteOutcome}
use Rattle.op_delete.specs.declared.end.DeleteOutcome.TheVariants as deleted
use Rattle.op_update.specs.declared.end.UpdateEnd.{UpdateEnd}
use Rattle.op_update.specs.declared.end.UpdateOutcome.{UpdateOutcome}
use Rattle.op_update.specs.declared.end.UpdateOutcome.TheVariants as updated
use Rattle.op_insert.specs.declared.end.InsertEnd.{InsertEnd}
use Rattle.op_insert.specs.declared.end.InsertOutcome.{InsertOutcome}
use Rattle.op_insert.specs.declared.end.InsertOutcome.TheVariants as inserted
use Rattle.map_model.specs.declared.calls.Reply.TheVariants.{FullDepth}
use Rattle.pass_text.specs.Pass.{pass}
use Rattle.op_insert.specs.Text.{is_plain_at}
use Rattle.split_text.specs.Text.{resize}
use Rattle.split_text.specs.declared.site.Ticket.{Ticket}
use Rattle.split_text.specs.declared.resized.ResizeEnd.{ResizeEnd}
use Rattle.split_text.specs.declared.resized.ResizeOutcome.{ResizeOutcome}
use Rattle.split_text.specs.declared.resized.ResizeOutcome.TheVariants as split
use Rattle.call_texts.specs.State.{State, Caller, caller_of, CallEnd, Inserting, Stage, inserting, walking}
use Rattle.call_texts.specs.Text.{part_of, begin_call, ended, refuses, starts_again, was_full, split_job, walk_job, after_search, after_delete, after_update, after_insert, after_split, room, insert_part, after_own, after_walk, walk_part, resize_call}
use Rattle.world_texts.specs.Texts.{placing, placed_part, whole, after_verb}
use Rattle.running_client.specs.Traces.{Text, begun, RanCall, ran_none, ran_more}
use Rattle.running_client.specs.Replies.{OfNone, MayReply}

-- the call may start again from this
abbrev Starts : Call → Stage → Type 0
Starts (Insert key value) (inserting who pair st) = Unit {0}
Starts (Resize key) (walking who other start left area) = Unit {0}
Starts _ _ = ⊥

-- a part of the call may come to this
abbrev Ends : Call → Go Stage CallEnd → Type 0
Ends call (done e) = MayReply call e.reply e.source e.target
Ends call (again stage) = Starts call stage

-- whatever a program comes to, what follows ends so
after_any : {A B : Type 0} (P : B → Type 0) (p : Prog A) (f : A → Prog B) → ((a : A) → Outcomes P (f a)) → Outcomes P (bind p f)
after_any P (ret a) f h = h a
after_any P (ask act k) f h = λ answer. after_any P (k answer) f h

either : {B : Type 0} (P : B → Type 0) (b : Bool) (p q : Prog B) → Outcomes P p → Outcomes P q → Outcomes P (if b then p else q)
either P true p q h k = h
either P false p q h k = k

none : OfNone 0 0
none = (refl, refl)

module _ (who : Caller) where
  searches : (key : List ℕ) (area : Area) (ticket : Option Ticket) (t : ℕ) (o : SearchOutcome) → Outcomes (Ends (Search key)) (after_search who area ticket t o)
  searches key area ticket t (searched.Found h) = refl
  searches key area ticket t searched.Missing = none

  deletes : (key : List ℕ) (area : Area) (ticket : Option Ticket) (t : ℕ) (o : DeleteOutcome) → Outcomes (Ends (Delete key)) (after_delete who area ticket t o)
  deletes key area ticket t (deleted.Deleted h) = refl
  deletes key area ticket t deleted.Missing = none
  deletes key area ticket t deleted.Again = none

  updates : (key value : List ℕ) (ticket : Option Ticket) (e : UpdateEnd) (o : UpdateOutcome) → Outcomes (Ends (Update key value)) (after_update who ticket e o)
  updates key value ticket e (updated.Updated h at) = tt
  updates key value ticket e updated.Missing = none
  updates key value ticket e updated.Again = none
  updates key value ticket e (updated.NoBlock next need) = none

  splits : (key value : List ℕ) (pair : Pair) (st : Inserting) (e : InsertEnd) (kept : Option ℕ) (d left : ℕ) (o : ResizeOutcome) → Outcomes (Ends (Insert key value)) (after_split who pair st e kept d left o)
  splits key value pair st e kept d left (split.Split u k) = tt
  splits key value pair st e kept d left split.Changed = tt
  splits key value pair st e kept d left split.Locked = tt
  splits key value pair st e kept d left (split.Again ticket) = none
  splits key value pair st e kept d left (split.FullWords next need) = none

  rooms : (key value : List ℕ) (pair : Pair) (st : Inserting) (e : InsertEnd) (p : Passed) (kept : Option ℕ) (left : ℕ) (ticket : Option Ticket) → Outcomes (Ends (Insert key value)) (room who pair st e p kept left ticket)
  rooms key value pair st e p kept left (Some ticket) = after_any (Ends (Insert key value)) _ _ (λ (r : ResizeEnd). splits key value pair st e kept p.head.depth r.left r.outcome)
  rooms key value pair st e p kept left None =
      either (Ends (Insert key value)) (is_plain_at who.geometry.max_depth p.head)
      (if was_full who pair st e.table p then refuses who pair (FullDepth who.geometry.max_depth) None st e else starts_again who pair None st e (Some e.table) kept left (Some e.table) st.forgotten)
      (bind (resize (split_job who e.table p.head.depth) left) (λ (r : ResizeEnd). after_split who pair st e kept p.head.depth r.left r.outcome))
      (either (Ends (Insert key value)) (was_full who pair st e.table p) (refuses who pair (FullDepth who.geometry.max_depth) None st e) (starts_again who pair None st e (Some e.table) kept left (Some e.table) st.forgotten) none tt)
      (after_any (Ends (Insert key value)) (resize (split_job who e.table p.head.depth) left) (λ (r : ResizeEnd). after_split who pair st e kept p.head.depth r.left r.outcome) (λ (r : ResizeEnd). splits key value pair st e kept p.head.depth r.left r.outcome))

  inserts : (key value : List ℕ) (pair : Pair) (st : Inserting) (e : InsertEnd) (o : InsertOutcome) → Outcomes (Ends (Insert key value)) (after_insert who pair st e o)
  inserts key value pair st e (inserted.Inserted at) = refl
  inserts key value pair st e (inserted.Exists h) = refl
  inserts key value pair st e (inserted.NeedRoom p kept) = rooms key value pair st e p kept _ st.ticket
  inserts key value pair st e inserted.Again = none
  inserts key value pair st e (inserted.NoBlock next need) = none

  insert_parts : (key value : List ℕ) (pair : Pair) (st : Inserting) → Outcomes (Ends (Insert key value)) (insert_part who pair st)
  insert_parts key value pair st = after_any (Ends (Insert key value)) _ _ (λ (e : InsertEnd). inserts key value pair st e e.outcome)

  owns : (key other : List ℕ) (area : Area) (t : Option ℕ) (left : ℕ) (o : ResizeOutcome) → Outcomes (Ends (Resize key)) (after_own who other area t left o)
  owns key other area t left (split.Split u d) = none
  owns key other area t left split.Changed = tt
  owns key other area t left split.Locked = tt
  owns key other area t left (split.Again ticket) = none
  owns key other area t left (split.FullWords next need) = none

  walks : (key other : List ℕ) (area : Area) (start : Option ℕ) (left : ℕ) → Outcomes (Ends (Resize key)) (walk_part who other area start left)
  walks key other area start left = after_any (Ends (Resize key)) (pass (walk_job who other) start) (after_walk who other area left) (λ (p : Passed).
      either (Ends (Resize key)) (is_plain_at who.geometry.max_depth p.head)
      (ended who (FullDepth who.geometry.max_depth) 0 0 (Some p.table) [] area None)
      (bind (resize (split_job who p.table p.head.depth) left) (λ (r : ResizeEnd). after_own who other area (Some p.table) r.left r.outcome))
      none
      (after_any (Ends (Resize key)) (resize (split_job who p.table p.head.depth) left) (λ (r : ResizeEnd). after_own who other area (Some p.table) r.left r.outcome) (λ (r : ResizeEnd). owns key other area (Some p.table) r.left r.outcome)))

  resizes : (key : List ℕ) (entry : Option ℕ) (area : Area) (ticket : Option Ticket) → Outcomes (Ends (Resize key)) (resize_call who key entry area ticket)
  resizes key entry area (Some ticket) = after_any (Ends (Resize key)) _ _ (λ (r : ResizeEnd). owns key key area None r.left r.outcome)
  resizes key entry area None = walks key key area entry who.tries

-- each part
parts : (call : Call) (stage : Stage) → Starts call stage → Outcomes (Ends call) (part_of stage)
parts (Insert key value) (inserting who pair st) h = insert_parts who key value pair st
parts (Insert key value) (walking who other start left area) h = absurd h
parts (Search key) (inserting who pair st) h = absurd h
parts (Search key) (walking who other start left area) h = absurd h
parts (Update key value) (inserting who pair st) h = absurd h
parts (Update key value) (walking who other start left area) h = absurd h
parts (Delete key) (inserting who pair st) h = absurd h
parts (Delete key) (walking who other start left area) h = absurd h
parts (Resize key) (inserting who pair st) h = absurd h
parts (Resize key) (walking who other start left area) h = walks who key other area start left

begins : (k : State) (h : ℕ) (call : Call) → Outcomes (Ends call) (begin_call k h call)
begins k h (Search key) = after_any (Ends (Search key)) _ _ (λ (e : SearchEnd). searches (caller_of k h) key k.area k.ticket e.table e.outcome)
begins k h (Delete key) = after_any (Ends (Delete key)) _ _ (λ (e : DeleteEnd). deletes (caller_of k h) key k.area k.ticket e.table e.outcome)
begins k h (Update key value) = after_any (Ends (Update key value)) _ _ (λ (e : UpdateEnd). updates (caller_of k h) key value k.ticket e e.outcome)
begins k h (Insert key value) =
    insert_parts (caller_of k h) key value (record { key = key; value = value })
    (record { start = entry_of k.cache h; kept = None; left = k.tries; full = None; forgotten = []; area = k.area; ticket = k.ticket })
begins k h (Resize key) = resizes (caller_of k h) key _ k.area k.ticket

-- and so with each hash told
placings : {A : Type 0} (P : A → Type 0) (hash : List ℕ → ℕ) (p : Prog A) → Outcomes P p → Outcomes P (placing hash p)
placings P hash (ret a) h = h
placings P hash (ask (do_verb block verb) k) h = λ word. placings P hash (k word) (h word)
placings P hash (ask (ask_hash key) k) h = placings P hash (k (hash key)) (h (hash key))

goes : (call : Call) (hash : List ℕ → ℕ) (p : Text) → Outcomes (Ends call) p → Outcomes (Ends call) (goes_on (placed_part part_of hash) p)
goes call hash (ret (again stage)) h = placings (Ends call) hash (part_of stage) (parts call stage h)
goes call hash (ret (done e)) h = h
goes call hash (ask act k) h = h

afters : {A : Type 0} (P : A → Type 0) (p : Prog A) (word : ℕ) → Outcomes P p → Outcomes P (after p word)
afters P (ret a) word h = h
afters P (ask act k) word h = h word

ran_ends : (call : Call) (hash : List ℕ → ℕ) (p q : Text) (t : List (Verb × ℕ)) → RanCall hash p t q → Outcomes (Ends call) p → Outcomes (Ends call) q
unfolding after_verb
ran_ends call hash p q t ran_none h = h
ran_ends call hash p q2 t2 (ran_more {t = t} {q = q} verb word r e) h = goes call hash (after q word) (afters (Ends call) q word (ran_ends call hash p q t r h))

begun_ends : (hash : List ℕ → ℕ) (k : State) (call : Call) → Outcomes (Ends call) (begun hash k call)
unfolding whole
begun_ends hash k call = goes call hash (placing hash (begin_call k _ call)) (placings (Ends call) hash (begin_call k _ call) (begins k _ call))

-- what a call has come to is one of its replies
pub replies : (hash : List ℕ → ℕ) (k : State) (call : Call) (t : List (Verb × ℕ)) (q : Text) (e : CallEnd) → RanCall hash (begun hash k call) t q → answer_of q ≡ Some e → MayReply call e.reply e.source e.target
replies hash k call t q e ran is = by q (ran_ends call hash (begun hash k call) q t ran (begun_ends hash k call)) is
  where
    by : (p : Text) → Outcomes (Ends call) p → answer_of p ≡ Some e → MayReply call e.reply e.source e.target
    by (ret (again stage)) h is = absurd (cc)
    by (ret (done d)) h is = subst (λ (x : CallEnd). MayReply call x.reply x.source x.target) (same is) h
      where
        same : Some d ≡ Some e → d ≡ e
        same is = cc
    by (ask act k) h is = absurd (cc)
