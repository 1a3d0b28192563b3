-- The lost swaps of a call.
use Rattle.std.specs.Prelude.{◌≡◌, ℕ, List, [], ◌∷◌, ◌++◌, Some, refl}
use Rattle.std.proofs.Common.{sym, subst}
use Rattle.map_model.specs.declared.calls.Call.{Call}
use Rattle.verb_log.specs.declared.entry.Verb.{Verb}
use Rattle.verbs.specs.Programs.{next_verb, answer_of}
use Rattle.call_texts.specs.State.{State, CallEnd}
use Rattle.loss_laws.specs.Loses.{lost_by}
use Rattle.loss_laws.specs.Again.{ReplyLost}
use Rattle.world_texts.specs.Losses.{Left, left_none, left_more, AgainIsLost}
use Rattle.call_texts.specs.Text.{part_of}
use Rattle.world_texts.specs.Texts.{after_verb, one_by_one}
use Rattle.world_texts.proofs.Wholes.{one_chosen}
use Rattle.running_client.specs.Traces.{Text, begun, RanCall, ran_none, ran_more, lost_from, lost_in}

lost_push : (n : ℕ) (t : List (Verb × ℕ)) (verb : Verb) (word : ℕ) → lost_from n (t ++ (verb, word) ∷ []) ≡ lost_by verb word (lost_from n t)
lost_push n [] verb word = refl
lost_push n (x ∷ t) verb word = lost_push (lost_by x.0 x.1 n) t verb word

left_by : (hash : List ℕ → ℕ) (p : Text) (t : List (Verb × ℕ)) (q : Text) → RanCall hash p t q → Left one_by_one hash p (lost_in t) q
left_by hash p t q ran_none = left_none
left_by hash p t2 q2 (ran_more {t = t} {q = q} verb word r e) =
    subst (λ n. Left one_by_one hash p n (after_verb part_of hash q word)) (sym (lost_push 0 t verb word)) (left_more 0 word verb (left_by hash p t q r) (sym (one_chosen (next_verb q) verb 0 e)))

-- a call that answers Again has lost as many swaps as it tells
pub lost_as_told : AgainIsLost one_by_one → (hash : List ℕ → ℕ) (state : State) (call : Call) (t : List (Verb × ℕ)) (q : Text) (d : CallEnd) → RanCall hash (begun hash state call) t q → answer_of q ≡ Some d → ReplyLost (lost_in t) d.reply
lost_as_told law hash state call t q d ran is = law hash state call (lost_in t) q d (left_by hash (begun hash state call) t q ran) is
