-- A play: the log, the clients and the records; and what one verb of a client makes of it.
use Rattle.std.specs.Prelude.{◌≡◌, ℕ, ◌+◌, ◌<◌, Bool, true, false, ◌||◌, ◌&&◌, nat_le, nat_lt, if◌then◌else◌, List, [], ◌∷◌, ◌++◌, length, slice_get, slice_set, Option, Some, None, is_some, is_none, option_map, map, filter, take, ◌==◌}
use Rattle.key_hash.specs.Placing.{placed}
use Rattle.map_model.specs.declared.calls.Call.{Call}
use Rattle.map_model.specs.declared.plans.Plan.{Plan}
use Rattle.map_model.specs.declared.records.Record.{Record}
use Rattle.map_model.specs.Machine.{is_change, is_quiet}
use Rattle.map_model.specs.Moments.{IsFirst}
use Rattle.verb_log.specs.declared.entry.Entry.{Entry}
use Rattle.verb_log.specs.declared.entry.Verb.{Verb}
use Rattle.verbs.specs.Logs.{Did}
use Rattle.race_laws.specs.Setting.{Setting}
use Rattle.race_laws.specs.Legal.{IsLegal}
use Rattle.map_model.specs.History.{IsLegal as IsLegalHistory}
use Rattle.verb_core.specs.declared.player.Open.{Open}
use Rattle.verb_core.specs.declared.player.Player.{Player}
use Rattle.node_words.specs.declared.geometry.Geometry.{Geometry}
use Rattle.call_texts.specs.State.{State, CallEnd, state_after}
use Rattle.call_machine.specs.Fresh.{fresh_state}
use Rattle.world_texts.specs.Bound.{most_acts}
use Rattle.world_texts.specs.Sorts.{Kind, chosen, onward}
use Rattle.world_texts.specs.Safety.{EndsWell}
use Rattle.log_facts.specs.Among.{changes_of}

-- a call under way: what is left of it, the changes that the log had when it began, and its verbs so far
pub record Going (T : Type 0) : Type 0 where
  pub left : T
  pub lo : ℕ
  pub verbs : ℕ

-- where a client stands
pub record Stage (T : Type 0) : Type 0 where
  pub state : State
  pub answered : ℕ
  pub verbs : ℕ
  pub going : Option (Going T)

abbrev pub going_of : {M : Type 0} (k : Kind M) → (List ℕ → ℕ) → Open M → Going k.sort.Text
going_of k hash open_call = record { left = k.text hash open_call.machine; lo = open_call.lo; verbs = open_call.verbs }

abbrev pub stage : {M : Type 0} (k : Kind M) → (List ℕ → ℕ) → Player M → Stage k.sort.Text
stage k hash p = record { state = p.state; answered = p.answered; verbs = p.verbs; going = option_map (going_of k hash) p.under_way }

-- the call under way, or the next one, which begins
abbrev pub or_next : {M : Type 0} (k : Kind M) → (List ℕ → ℕ) → ℕ → State → Option (Going k.sort.Text) → Option Call → Option (Going k.sort.Text)
or_next k hash count state (Some going) call = Some going
or_next k hash count state None None = None
or_next k hash count state None (Some call) = Some (record { left = k.sort.begun hash state call; lo = count; verbs = 0 })

abbrev pub ready : {M : Type 0} (k : Kind M) → (List ℕ → ℕ) → ℕ → List Call → Stage k.sort.Text → Option (Going k.sort.Text)
ready k hash count calls st = or_next k hash count st.state st.going (slice_get calls st.answered)

-- where a client stands once a verb has left this of its call
abbrev pub moved_by : {T : Type 0} → Stage T → Going T → T → Option CallEnd → Stage T
moved_by st going q (Some d) = record { state = state_after st.state d; answered = st.answered + 1; verbs = st.verbs + 1; going = None }
moved_by st going q None = record { state = st.state; answered = st.answered; verbs = st.verbs + 1; going = Some (record { left = q; lo = going.lo; verbs = going.verbs + 1 }) }

abbrev pub moved_to : {M : Type 0} (k : Kind M) → Stage k.sort.Text → Going k.sort.Text → k.sort.Text → Stage k.sort.Text
moved_to k st going q = moved_by st going q (k.sort.answer q)

-- a client has done as many verbs as its stop says
abbrev pub is_stopped : Option ℕ → ℕ → Bool
is_stopped None verbs = false
is_stopped (Some stop) verbs = nat_le stop verbs

-- a client has stopped, or has no call left
abbrev pub is_idle : {M : Type 0} → Plan → Player M → Bool
is_idle plan p = is_stopped plan.stop p.verbs || (is_none p.under_way && nat_le (length plan.calls.items) p.answered)

-- clients at the beginning of their plans
abbrev pub fresh : {M : Type 0} → Geometry → ℕ → ℕ → Player M
fresh g tries c = record { state = fresh_state g c tries; answered = 0; verbs = 0; under_way = None }

pub record AreFresh {M : Type 0} (g : Geometry) (tries n : ℕ) (players : List (Player M)) : Type 0 where
  pub many : length players ≡ n
  pub each : (c : ℕ) (p : Player M) → slice_get players c ≡ Some p → p ≡ fresh g tries c

-- the number of the call under way, counted from 1
abbrev pub unfinished_of : {M : Type 0} → Player M → Option ℕ
unfinished_of p = option_map (λ o. p.answered + 1) p.under_way

-- how many verbs of a client are outstanding
abbrev pub outstanding_by : {M : Type 0} (k : Kind M) → (List ℕ → ℕ) → Plan → ℕ → Option (Open M) → ℕ
outstanding_by k hash plan answered None = if nat_lt answered (length plan.calls.items) then 1 else 0
outstanding_by k hash plan answered (Some o) = length (k.sort.outstanding (k.text hash o.machine))

abbrev pub outstanding_of : {M : Type 0} (k : Kind M) → (List ℕ → ℕ) → Plan → Player M → ℕ
outstanding_of k hash plan p = outstanding_by k hash plan p.answered p.under_way

-- calls with their numbers
abbrev pub counted : ℕ → List Call → List (ℕ × Call)
counted n [] = []
counted n (call ∷ calls) = (n, call) ∷ counted (n + 1) calls

-- what the records say that a client asked, with the numbers of its calls
abbrev pub asked_by : ℕ → List Record → List (ℕ × Call)
asked_by c records = map (λ (r : Record). (r.number, r.call)) (filter (λ (r : Record). r.client == c) records)

pub record Play (M : Type 0) : Type 0 where
  pub setting : Setting
  pub plans : List Plan
  pub entries : List Entry
  pub players : List (Player M)
  pub records : List Record

pub record Event : Type 0 where
  pub client : ℕ
  pub choice : ℕ
  pub verb : Verb
  pub answer : ℕ

-- the record of a call that was answered, where the client's last verb made the log l of m
pub record Tells (s : Setting) (c : ℕ) (answered began : ℕ) (calls : List Call) (m l : List Entry) (d : CallEnd) (r : Record) : Type 0 where
  pub client : r.client ≡ c
  pub number : r.number ≡ answered + 1
  pub call : slice_get calls answered ≡ Some r.call
  pub reply : r.reply ≡ d.reply
  pub lo : r.lo ≡ began
  pub hi : r.hi ≡ length (changes_of s l)
  pub changing : is_change r.reply ≡ true → r.point ≡ length (changes_of s m)
  pub quiet : is_quiet r.reply ≡ true → IsFirst (changes_of s l) r.lo r.call r.reply r.point
  pub refused : is_change r.reply ≡ false → is_quiet r.reply ≡ false → r.point ≡ r.lo

-- the records that a verb adds: one exactly where the call is answered
abbrev pub Adds : Setting → ℕ → ℕ → ℕ → List Call → List Entry → List Entry → Option CallEnd → List Record → List Record → Type 0
Adds s c number lo calls m l None before next = next ≡ before
Adds s c number lo calls m l (Some d) before next = (r : Record) × (next ≡ before ++ r ∷ []) × Tells s c number lo calls m l d r

-- one verb of a client: of those outstanding of its call under way, or of its next one, that which the choice names, answered by
-- the log, and within the bound of the call; the others stay as they are
pub record Turn {M : Type 0} (k : Kind M) (w : Play M) (c : ℕ) (e : Event) (answered : Bool) (v : Play M) : Type 0 where
  pub client : e.client ≡ c
  pub plan : Plan
  pub planned : slice_get w.plans c ≡ Some plan
  pub player : Player M
  pub there : slice_get w.players c ≡ Some player
  pub active : is_idle plan player ≡ false
  pub call : Call
  pub which : slice_get plan.calls.items player.answered ≡ Some call
  pub going : Going k.sort.Text
  pub within : going.verbs < most_acts player.state call
  pub begins : ready k (placed w.setting.listed) (length (changes_of w.setting w.entries)) plan.calls.items (stage k (placed w.setting.listed) player) ≡ Some going
  pub asks : chosen (k.sort.outstanding going.left) e.choice ≡ Some e.verb
  pub did : Did w.setting.geometry c w.entries e.verb v.entries e.answer
  pub next : Player M
  pub moves : stage k (placed w.setting.listed) next ≡ moved_to k (stage k (placed w.setting.listed) player) going (onward k.sort (placed w.setting.listed) going.left e.choice e.answer)
  pub players : v.players ≡ slice_set w.players c next
  pub tells : answered ≡ is_some (k.sort.answer (onward k.sort (placed w.setting.listed) going.left e.choice e.answer))
  pub records : Adds w.setting c player.answered going.lo plan.calls.items w.entries v.entries (k.sort.answer (onward k.sort (placed w.setting.listed) going.left e.choice e.answer)) w.records v.records
  -- where the call has its answer, it is right: a change, a point or a cause, and what it leaves of its client fits the log
  pub ended : (d : CallEnd) → k.sort.answer (onward k.sort (placed w.setting.listed) going.left e.choice e.answer) ≡ Some d
      → (first : List Entry) × (going.lo ≡ length (changes_of w.setting first)) × EndsWell w.setting c call player.state first (changes_of w.setting w.entries) v.entries d
  pub setting : v.setting ≡ w.setting
  pub plans : v.plans ≡ w.plans

-- the log is legal, and the records stand in a legal history over its changes
pub record IsLegalPlay {M : Type 0} (w : Play M) : Type 0 where
  pub log : IsLegal w.setting w.entries
  pub history : IsLegalHistory (changes_of w.setting w.entries) w.records
  -- each answered call of the plans has one record, in order, with its number, counted from 1
  pub told : (c : ℕ) (plan : Plan) (p : Player M) → slice_get w.plans c ≡ Some plan → slice_get w.players c ≡ Some p → asked_by c w.records ≡ counted 1 (take p.answered plan.calls.items)
