-- A client that may have a cache of blocks: which acts a call's verbs are, what they make of the cache, and which of them are done.
use Rattle.std.specs.Prelude.{◌≡◌, ℕ, List, [], ◌∷◌, ◌++◌, length, Option, Some, None}
use Rattle.key_hash.specs.Placing.{placed}
use Rattle.map_model.specs.declared.calls.Call.{Call}
use Rattle.verb_log.specs.declared.entry.Verb.{Verb}
use Rattle.verbs.specs.Logs.{Entries, Begins}
use Rattle.verbs.specs.Programs.{Act, do_verb, block_of, with_verb, verbs_of}
use Rattle.verbs.specs.Terms.{Terms, Step}
use Rattle.race_laws.specs.Setting.{Setting}
use Rattle.log_facts.specs.Among.{among}
use Rattle.client_seat.specs.declared.view.Deed.{Deed}
use Rattle.client_seat.specs.Traces.{verbs_in, AreAt}
use Rattle.client_seat.specs.Seated.{Seated}
use Rattle.call_texts.specs.State.{State}
use Rattle.call_texts.specs.Text.{part_of}
use Rattle.block_cache.specs.Cache.{Cache, went_act, went_acts, done_by, done_of}
use Rattle.block_cache.specs.Keeps.{Keeps}
use Rattle.world_texts.specs.Texts.{after_verb}
use Rattle.running_client.specs.Traces.{Text, begun}

-- the acts of these verbs of a text: each names the block of which the text reads a word then
abbrev pub acts_in : (List ℕ → ℕ) → Text → List (Verb × ℕ) → List (Act × ℕ)
acts_in hash p [] = []
acts_in hash p (x ∷ trace) = (do_verb (block_of p) x.0, x.1) ∷ acts_in hash (after_verb part_of hash p x.1) trace

-- of the verbs of a call of a client that kept this
abbrev pub acts_of_call : Setting → State → Call → List (Verb × ℕ) → List (Act × ℕ)
acts_of_call s state call trace = acts_in (placed s.listed) (begun (placed s.listed) state call) trace

-- what an act makes of the cache, where there is one
abbrev pub went_one : Option Cache → Act → ℕ → Option Cache
went_one None act answer = None
went_one (Some c) act answer = Some (went_act c act answer)

-- what acts make of it
abbrev pub went_all : Option Cache → List (Act × ℕ) → Option Cache
went_all None acts = None
went_all (Some c) acts = Some (went_acts c acts)

-- the verb of an act, unless the cache serves it: with no cache each verb is done
abbrev pub done_one : Option Cache → Act → ℕ → List (Verb × ℕ)
done_one None act answer = with_verb act answer []
done_one (Some c) act answer = done_by c act answer

-- the verbs of acts that are not served
abbrev pub done_all : Option Cache → List (Act × ℕ) → List (Verb × ℕ)
done_all None acts = verbs_of acts
done_all (Some c) acts = done_of c acts

-- each block that the cache keeps is published after this log, where there is a cache
abbrev pub AllKept : Terms → Entries → Option Cache → Type 0
AllKept t l None = Unit {0}
AllKept t l (Some c) = Keeps t l c

-- how many reads were served
abbrev pub saved_by : Option Cache → ℕ
saved_by None = 0
saved_by (Some c) = c.saved

-- one verb of a seat's client, done or served
pub record DoesThrough (seat : Seated) (cache : Option Cache) (block : Option ℕ) (verb : Verb) (answer : ℕ) (next : Seated) (after : Option Cache) : Type 0 where
  -- a served read is a read of that moment
  pub step : Step (among seat.home.setting seat.client) seat.front verb next.front answer
  pub begins : Begins seat.front next.front
  pub trace : verbs_in next.trace ≡ verbs_in seat.trace ++ done_one cache (do_verb block verb) answer
  pub home : next.home ≡ seat.home
  pub client : next.client ≡ seat.client
  pub goes_on : after ≡ went_one cache (do_verb block verb) answer
  pub keeps : AllKept (among seat.home.setting seat.client) next.front after

-- between two seats of a client these acts were done, or served by its cache
pub record Through (seat : Seated) (cache : Option Cache) (acts : List (Act × ℕ)) (next : Seated) (after : Option Cache) : Type 0 where
  -- the trace has those that were done
  pub done : verbs_in next.trace ≡ verbs_in seat.trace ++ done_all cache acts
  -- the cache has gone on by all
  pub goes_on : after ≡ went_all cache acts
  pub keeps : AllKept (among seat.home.setting seat.client) next.front after

-- the filled trace between two seats of a client: these verbs, of which those that a cache served are reads of their moments. Each
-- has a position of the front, from the front before on, and its answer stood there
pub record Filled (seat : Seated) (verbs : List (Verb × ℕ)) (next : Seated) (deeds : List Deed) : Type 0 where
  pub told : verbs_in deeds ≡ verbs
  pub at : AreAt seat.home.setting.geometry next.front (length seat.front) deeds
