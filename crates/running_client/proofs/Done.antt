-- What a call through a cache has come to, verb by verb.
use Rattle.std.specs.Prelude.{◌≡◌, ℕ, List, [], ◌∷◌, ◌++◌, Option, Some, None, refl}
use Rattle.std.proofs.Common.{sym, ◌∙◌, ap, append-nil, append_assoc}
use Rattle.key_hash.specs.Placing.{placed}
use Rattle.map_model.specs.declared.calls.Call.{Call}
use Rattle.verb_log.specs.declared.entry.Verb.{Verb}
use Rattle.verbs.specs.Programs.{Act, do_verb, block_of}
use Rattle.log_facts.specs.Among.{among}
use Rattle.client_seat.specs.Traces.{verbs_in}
use Rattle.client_seat.specs.Seated.{Seated}
use Rattle.call_texts.specs.State.{State}
use Rattle.block_cache.specs.Cache.{Cache}
use Rattle.running_client.specs.Traces.{Text, begun, RanCall}
use Rattle.running_client.specs.Cached.{acts_of_call, went_one, went_all, done_one, done_all, AllKept, DoesThrough, Through}
use Rattle.running_client.proofs.Passing.{acts_more, went_push, done_push}
use Rattle.running_client.proofs.Runs.{kept_as}

-- nothing was done
went_none : (cache : Option Cache) → cache ≡ went_all cache []
went_none None = refl
went_none (Some c) = refl

done_none : (cache : Option Cache) → done_all cache [] ≡ []
done_none None = refl
done_none (Some c) = refl

pub through_none : (seat : Seated) (cache : Option Cache) → AllKept (among seat.home.setting seat.client) seat.front cache → Through seat cache [] seat cache
through_none seat cache k = record {
  done = sym (append-nil (verbs_in seat.trace)) ∙ ap (λ (t : List (Verb × ℕ)). verbs_in seat.trace ++ t) (sym (done_none cache));
  goes_on = went_none cache;
  keeps = k;
}

-- a verb more
pub through_more : (seat : Seated) (cache : Option Cache) (node : Seated) (now : Option Cache) (next : Seated) (after : Option Cache) (state : State) (call : Call) (trace : List (Verb × ℕ)) (p : Text) (verb : Verb) (word : ℕ)
    → node.home ≡ seat.home → node.client ≡ seat.client → RanCall (placed seat.home.setting.listed) (begun (placed seat.home.setting.listed) state call) trace p
    → Through seat cache (acts_of_call seat.home.setting state call trace) node now → DoesThrough node now (block_of p) verb word next after
    → Through seat cache (acts_of_call seat.home.setting state call (trace ++ (verb, word) ∷ [])) next after
through_more seat cache node now next after state call trace p verb word home client ran t d =
    let hash = placed seat.home.setting.listed in
    let acts = acts_of_call seat.home.setting state call trace in
    let act = do_verb (block_of p) verb in
    let more : acts_of_call seat.home.setting state call (trace ++ (verb, word) ∷ []) ≡ acts ++ (act, word) ∷ [] = acts_more hash (begun hash state call) p trace verb word ran in
    record {
      done = d.trace ∙ ap (λ (v : List (Verb × ℕ)). v ++ done_one now act word) t.done
          ∙ ap (λ (o : Option Cache). (verbs_in seat.trace ++ done_all cache acts) ++ done_one o act word) t.goes_on
          ∙ append_assoc (verbs_in seat.trace) (done_all cache acts) (done_one (went_all cache acts) act word)
          ∙ ap (λ (v : List (Verb × ℕ)). verbs_in seat.trace ++ v) (sym (done_push cache acts act word))
          ∙ ap (λ (a : List (Act × ℕ)). verbs_in seat.trace ++ done_all cache a) (sym more);
      goes_on = d.goes_on ∙ ap (λ (o : Option Cache). went_one o act word) t.goes_on ∙ sym (went_push cache acts act word) ∙ ap (λ (a : List (Act × ℕ)). went_all cache a) (sym more);
      keeps = kept_as seat node next.front after home client d.keeps;
    }
