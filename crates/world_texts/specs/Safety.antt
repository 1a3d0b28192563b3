-- Safe calls: whatever others add between its verbs, and whichever outstanding verb is done next, a call ends after so many
-- verbs, each of its entries may follow, a verb that names a block reads a word of it, which is published then, none but the
-- entry of its last verb changes the map, and its end holds.
use Rattle.std.specs.Prelude.{◌≡◌, ℕ, zero, suc, ◌<◌, ◌≤◌, ◌^◌, List, [], length, slice_get, Option, Some, None}
use Rattle.key_hash.specs.Placing.{placed}
use Rattle.kv_block.specs.declared.changes.Change.{Change}
use Rattle.map_model.specs.declared.calls.Call.{Call}
use Rattle.map_model.specs.Machine.{key_of}
use Rattle.verb_log.specs.declared.entry.Verb.{Verb}
use Rattle.verbs.specs.Logs.{Entries, place_of, Lengthened, MayStand}
use Rattle.verbs.specs.Terms.{MayDo}
use Rattle.race_laws.specs.Setting.{Setting}
use Rattle.race_laws.specs.Legal.{MayFollow}
use Rattle.log_facts.specs.Among.{among, changes_of}
use Rattle.dir_cache.specs.Cached.{entry_of}
use Rattle.call_texts.specs.State.{State, CallEnd, state_after}
use Rattle.whole_calls.specs.Right.{Right}
use Rattle.whole_calls.specs.Law.{IsCall}
use Rattle.world_texts.specs.Bound.{most_acts}
use Rattle.world_texts.specs.Fits.{Fits}
use Rattle.world_texts.specs.Sorts.{Sort}
use Rattle.world_texts.specs.Losses.{AgainIsLost}

-- where a call has ended its end holds, else it goes on
abbrev pub Ends : Option CallEnd → (CallEnd → Type 0) → Type 0 → Type 0
Ends (Some e) End On = End e
Ends None End On = On

-- from the log l, which the client's last verb made of one with the changes `before`
abbrev pub SafeCall : (k : Sort) → Setting → ℕ → ℕ → List Change → Entries → k.Text → (List Change → Entries → CallEnd → Type 0) → Type 0
SafeCall k s c zero before l t End = Ends (k.answer t) (End before l) ⊥
SafeCall k s c (suc n) before l t End = Ends (k.answer t) (End before l) (
    (changes_of s l ≡ before) × (1 ≤ length (k.outstanding t))
    × ((i : ℕ) (v : Verb) → slice_get (k.outstanding t) i ≡ Some v → (place_of v < s.geometry.words)
    × ((m : Entries) → Lengthened (MayFollow s) c l m → MayDo (among s c) m (k.block t i) v (λ q word. SafeCall k s c n (changes_of s m) q (k.completed (placed s.listed) t i word) End))))

-- a call of client c with this state, which saw the log `first` before its first verb, is answered rightly, and what it leaves of
-- the client fits the log
pub record EndsWell (s : Setting) (c : ℕ) (call : Call) (k : State) (first : Entries) (before : List Change) (l : Entries) (e : CallEnd) : Type 0 where
  pub right : Right s c call k first before l e
  pub fits : Fits s l c (state_after k e)

-- each call with a key and a value within their limits is safe from its beginning, and ends within its bound, but not before its
-- first verb
abbrev pub CallsAreSafe : Sort → Type 0
CallsAreSafe k = (s : Setting) (l : Entries) (c : ℕ) (state : State) (call : Call) → MayStand (MayFollow s) l → IsCall call → placed s.listed (key_of call) < 2 ^ 64 → Fits s l c state
    → (k.answer (k.begun (placed s.listed) state call) ≡ None)
    × SafeCall k s c (most_acts state call) (changes_of s l) l (k.begun (placed s.listed) state call) (EndsWell s c call state l)

-- others' entries leave it so that a client may begin a call
abbrev pub StayFit : Type 0
StayFit = (s : Setting) (l m : Entries) (c : ℕ) (state : State) → Lengthened (MayFollow s) c l m → Fits s l c state → Fits s m c state

-- a client that has made no call may begin one on the empty log
abbrev pub FirstFit : Type 0
FirstFit = (s : Setting) (c : ℕ) (state : State) → state.geometry ≡ s.geometry → state.client ≡ c → state.cache.depth ≡ s.geometry.max_depth → ((h : ℕ) → entry_of state.cache h ≡ None) → state.area.left ≡ 0 → state.ticket ≡ None
    → 1 ≤ state.tries → state.tries ≤ 64 → Fits s [] c state

-- what a world asks of its calls
pub record AreSafe (k : Sort) : Type 0 where
  pub calls : CallsAreSafe k
  pub longer : StayFit
  pub first : FirstFit
  pub losses : AgainIsLost k
