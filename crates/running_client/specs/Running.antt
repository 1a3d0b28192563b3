-- A call on running words, verb by verb.
use Rattle.std.specs.Prelude.{◌≡◌, ℕ, ◌+◌, ◌<◌, ◌≤◌, List, [], ◌∷◌, ◌++◌, length, Option, ◌⊎◌}
use Rattle.key_hash.specs.Placing.{placed}
use Rattle.map_model.specs.declared.calls.Call.{Call}
use Rattle.verb_log.specs.declared.entry.Entry.{Entry}
use Rattle.verb_log.specs.declared.entry.Verb.{Verb}
use Rattle.verbs.specs.Logs.{Entries, MayStand, place_of}
use Rattle.race_laws.specs.Setting.{Setting}
use Rattle.race_laws.specs.Legal.{MayFollow}
use Rattle.log_facts.specs.Among.{among, changes_of}
use Rattle.client_seat.specs.declared.view.Deed.{Deed}
use Rattle.client_seat.specs.Seated.{Seated, Permits}
use Rattle.block_cache.specs.Cache.{Cache}
use Rattle.block_cache.specs.Keeps.{ReadsIts}
use Rattle.call_texts.specs.State.{State}
use Rattle.world_texts.specs.Bound.{most_acts}
use Rattle.world_texts.specs.Safety.{SafeCall, EndsWell}
use Rattle.world_texts.specs.Texts.{one_by_one}
use Rattle.running_client.specs.Traces.{Text, begun, RanCall}
use Rattle.running_client.specs.Points.{MadeNone}
use Rattle.running_client.specs.Cached.{acts_of_call, Through, Filled}

-- a verb that a seat may do; where it is of a block, it reads a word of that block, which is published
pub record Permitted (seat : Seated) (block : Option ℕ) (verb : Verb) : Type 0 where
  pub place : place_of verb < seat.home.setting.geometry.words
  pub rule : Permits seat verb
  pub reads : ReadsIts (among seat.home.setting seat.client) seat.front block verb

-- a log, or the same with one more entry of the client
abbrev pub IsNext : ℕ → Entries → Entries → Type 0
IsNext c m l = (l ≡ m) ⊎ ((e : Entry) × (l ≡ m ++ e ∷ []) × (e.client ≡ c))

-- a call that began at the front `first` has come to this front with these verbs; p is left of it, and no more than n verbs
pub record IsRunning (s : Setting) (c : ℕ) (call : Call) (state : State) (first : Entries) (n : ℕ) (l : Entries) (p : Text) (trace : List (Verb × ℕ)) : Type 0 where
  -- the log on which its last verb was done
  pub seen : Entries
  pub next : IsNext c seen l
  pub none : MadeNone s c first seen
  pub legal : MayStand (MayFollow s) l
  pub safe : SafeCall one_by_one s c n (changes_of s seen) l p (EndsWell s c call state first)
  pub ran : RanCall (placed s.listed) (begun (placed s.listed) state call) trace p
  pub within : length trace + n ≤ most_acts state call

-- from one seat of a client to another so many verbs of a call were done or served, and p is left of it
pub record Came (seat : Seated) (cache : Option Cache) (call : Call) (state : State) (next : Seated) (after : Option Cache) (verbs : ℕ) (p : Text) : Type 0 where
  pub home : next.home ≡ seat.home
  pub client : next.client ≡ seat.client
  pub trace : List (Verb × ℕ)
  pub deeds : List Deed
  pub filled : Filled seat trace next deeds
  pub through : Through seat cache (acts_of_call seat.home.setting state call trace) next after
  pub count : length trace ≡ verbs
  pub left : ℕ
  pub running : IsRunning seat.home.setting seat.client call state seat.front left next.front p trace
