-- Each part of a call begins with a verb, and a call does a verb before it answers.
use Rattle.std.specs.Prelude.{◌≡◌, ℕ, List, Option, Some, None, IsSome, refl}
use Rattle.std.proofs.Common.{sym, subst}
use Rattle.map_model.specs.declared.calls.Call.{Call}
use Rattle.map_model.specs.declared.calls.Call.TheVariants.{Insert, Search, Update, Delete, Resize}
use Rattle.verbs.specs.Programs.{do_verb, ask_hash, Prog, ret, ask, Go, next_verb, bind, mapped, answer_of}
use Rattle.pass_text.specs.declared.job.Job.{Job}
use Rattle.pass_text.specs.Pass.{pass}
use Rattle.block_taking.specs.declared.taking.Area.{Area}
use Rattle.op_insert.specs.Text.{Inserting, insert, insert_from}
use Rattle.split_text.specs.declared.site.Ticket.{Ticket}
use Rattle.split_text.specs.Text.{resume}
use Rattle.dir_cache.specs.Cached.{entry_of}
use Rattle.call_texts.specs.State.{State, CallEnd, Stage, inserting, walking, caller_of}
use Rattle.call_texts.specs.Text.{part_of, begin_call, after_own, resize_call}
use Rattle.world_texts.specs.Texts.{whole}
use Rattle.world_texts.proofs.Splits.{DoesVerb, does_bind, resume_does}

bind_asks : {A B : Type 0} (p : Prog A) (f : A → Prog B) → IsSome (next_verb p) → IsSome (next_verb (bind p f))
bind_asks (ret a) f h = absurd (cc)
bind_asks (ask (do_verb block v) k) f h = refl
bind_asks (ask (ask_hash key) k) f h = absurd (cc)

mapped_asks : {A B : Type 0} (f : A → B) (p : Prog A) → IsSome (next_verb p) → IsSome (next_verb (mapped f p))
unfolding mapped
mapped_asks f (ret a) h = absurd (cc)
mapped_asks f (ask (do_verb block v) k) h = refl
mapped_asks f (ask (ask_hash key) k) h = absurd (cc)

pass_asks : (j : Job) (start : Option ℕ) → IsSome (next_verb (pass j start))
pass_asks j None = refl
pass_asks j (Some table) = refl

insert_asks : (i : Inserting) (start kept : Option ℕ) (area : Area) → IsSome (next_verb (insert i start kept area))
unfolding insert_from
insert_asks i start kept area = bind_asks (bind (pass _ start) _) _ (bind_asks (pass _ start) _ (pass_asks _ start))

-- each part begins with a verb
pub part_asks : (s : Stage) → IsSome (next_verb (part_of s))
part_asks (inserting who pair st) = bind_asks _ _ (insert_asks _ st.start st.kept st.area)
part_asks (walking who key start left area) = bind_asks (pass _ start) _ (pass_asks _ start)

-- what begins with a verb has not answered
asks_open : (hash : List ℕ → ℕ) (p : Prog (Go Stage CallEnd)) → IsSome (next_verb p) → answer_of (whole part_of hash p) ≡ None
unfolding whole
asks_open hash (ret a) h = absurd (cc)
asks_open hash (ask (do_verb block v) k) h = refl
asks_open hash (ask (ask_hash key) k) h = absurd (cc)

-- nor has what does a verb once its hashes are told
does_open : (hash : List ℕ → ℕ) (p : Prog (Go Stage CallEnd)) → DoesVerb hash (λ x. ⊥) p → answer_of (whole part_of hash p) ≡ None
unfolding whole
does_open hash (ret a) h = absurd h
does_open hash (ask (do_verb block v) k) h = refl
does_open hash (ask (ask_hash key) k) h = does_open hash (k (hash key)) h

-- a call has not answered at its beginning
pub begun_open : (hash : List ℕ → ℕ) (k : State) (h : ℕ) (call : Call) → answer_of (whole part_of hash (begin_call k h call)) ≡ None
begun_open hash k h (Search key) = asks_open hash (begin_call k h (Search key)) (bind_asks _ _ (mapped_asks _ (pass _ (entry_of k.cache h)) (pass_asks _ (entry_of k.cache h))))
begun_open hash k h (Delete key) = asks_open hash (begin_call k h (Delete key)) (bind_asks _ _ (bind_asks (pass _ (entry_of k.cache h)) _ (pass_asks _ (entry_of k.cache h))))
begun_open hash k h (Update key value) = asks_open hash (begin_call k h (Update key value)) (bind_asks _ _ (bind_asks (pass _ (entry_of k.cache h)) _ (pass_asks _ (entry_of k.cache h))))
begun_open hash k h (Insert key value) = asks_open hash (begin_call k h (Insert key value)) (bind_asks _ _ (insert_asks _ (entry_of k.cache h) None k.area))
begun_open hash k h (Resize key) = by k.ticket refl
  where
    by : (o : Option Ticket) → k.ticket ≡ o → answer_of (whole part_of hash (begin_call k h (Resize key))) ≡ None
    by None e = asks_open hash (begin_call k h (Resize key)) (subst (λ t. IsSome (next_verb (resize_call (caller_of k h) key (entry_of k.cache h) k.area t))) (sym e) (bind_asks (pass _ (entry_of k.cache h)) _ (pass_asks _ (entry_of k.cache h))))
    by (Some t) e = does_open hash (begin_call k h (Resize key)) (subst (λ t. DoesVerb hash (λ x. ⊥) (resize_call (caller_of k h) key (entry_of k.cache h) k.area t)) (sym e)
        (does_bind hash (λ x. ⊥) (λ x. ⊥) (resume t k.tries) (λ r. after_own (caller_of k h) key k.area None r.left r.outcome) (λ r f. absurd f) (resume_does hash t k.tries)))
