-- A call in a world that answers Again has lost as many swaps as it tells.
use Rattle.std.specs.Prelude.{◌≡◌, ℕ, zero, suc, List, slice_get, Option, Some, None}
use Rattle.std.specs.Option.{option_to_list}
use Rattle.std.proofs.Common.{subst}
use Rattle.map_model.specs.declared.calls.Call.{Call}
use Rattle.map_model.specs.Machine.{key_of}
use Rattle.verb_log.specs.declared.entry.Verb.{Verb}
use Rattle.verbs.specs.Programs.{Prog, ret, ask, do_verb, ask_hash, Go, again, done, next_verb, after, goes_on, answer_of}
use Rattle.call_texts.specs.State.{State, CallEnd, Stage}
use Rattle.call_texts.specs.Text.{part_of, begin_call}
use Rattle.loss_laws.specs.Loses.{lost_by, Loses}
use Rattle.loss_laws.specs.Again as lost
use Rattle.loss_laws.specs.Again.{ReplyLost, CallLost}
use Rattle.world_texts.specs.Texts.{placing, placed_part, whole, after_verb, one_by_one}
use Rattle.world_texts.specs.Losses.{Left, left_none, left_more, AgainIsLost}

placing-loses : {A : Type 0} (E : ℕ → A → Type 0) (hash : List ℕ → ℕ) (n : ℕ) (p : Prog A) → Loses E n p → Loses E n (placing hash p)
placing-loses E hash n (ret a) h = h
placing-loses E hash n (ask (do_verb block verb) k) h = λ word. placing-loses E hash (lost_by verb word n) (k word) (h word)
placing-loses E hash n (ask (ask_hash key) k) h = placing-loses E hash n (k (hash key)) (h (hash key))

one_verb : (o : Option Verb) (m : ℕ) (verb : Verb) → slice_get (option_to_list o) m ≡ Some verb → o ≡ Some verb
one_verb None m verb e = absurd (cc)
one_verb (Some v) zero verb e = e
one_verb (Some v) (suc m) verb e = absurd (cc)

-- what is left after the answer to a verb
after-loses : (n : ℕ) (p : Prog (Go Stage CallEnd)) (verb : Verb) (word : ℕ) → next_verb p ≡ Some verb → Loses CallLost n p → Loses CallLost (lost_by verb word n) (after p word)
after-loses n (ret a) verb word e h = absurd (cc)
after-loses n (ask (do_verb block v) k) verb word e h = let same : v ≡ verb = cc in subst (λ x. Loses CallLost (lost_by x word n) (k word)) same (h word)
after-loses n (ask (ask_hash key) k) verb word e h = absurd (cc)

answer-lost : (n : ℕ) (p : Prog (Go Stage CallEnd)) (d : CallEnd) → answer_of p ≡ Some d → Loses CallLost n p → ReplyLost n d.reply
answer-lost n (ret (again s)) d e h = absurd (cc)
answer-lost n (ret (done a)) d e h = let same : a ≡ d = cc in subst (λ (x : CallEnd). ReplyLost n x.reply) same h
answer-lost n (ask act k) d e h = absurd (cc)

module _ (law : lost.AgainIsLost) (hash : List ℕ → ℕ) where
  goes-loses : (n : ℕ) (p : Prog (Go Stage CallEnd)) → Loses CallLost n p → Loses CallLost n (goes_on (placed_part part_of hash) p)
  goes-loses n (ret (again s)) h = placing-loses CallLost hash n (part_of s) (law.part n s h)
  goes-loses n (ret (done a)) h = h
  goes-loses n (ask act k) h = h

  begun-loses : (state : State) (call : Call) → Loses CallLost 0 (one_by_one.begun hash state call)
  unfolding whole
  begun-loses state call = goes-loses 0 (placing hash (begin_call state (hash (key_of call)) call)) (placing-loses CallLost hash 0 (begin_call state (hash (key_of call)) call) (law.begun state (hash (key_of call)) call))

  onward-loses : (n : ℕ) (p : Prog (Go Stage CallEnd)) (verb : Verb) (word : ℕ) → next_verb p ≡ Some verb → Loses CallLost n p → Loses CallLost (lost_by verb word n) (after_verb part_of hash p word)
  unfolding after_verb
  onward-loses n p verb word e h = goes-loses (lost_by verb word n) (after p word) (after-loses n p verb word e h)

  left-loses : (state : State) (call : Call) (n : ℕ) (q : Prog (Go Stage CallEnd)) → Left one_by_one hash (one_by_one.begun hash state call) n q → Loses CallLost n q
  left-loses state call n q left_none = begun-loses state call
  left-loses state call n2 q2 (left_more {n = n} {q = q} choice word verb h e) = onward-loses n q verb word (one_verb (next_verb q) _ verb e) (left-loses state call n q h)

pub again_is_lost : lost.AgainIsLost → AgainIsLost one_by_one
again_is_lost law hash state call n q d h e = answer-lost n q d e (left-loses law hash state call n q h)
