-- The events of a script: the clients come as its items say, and then each plays what is left of its calls.
use Rattle.std.specs.Prelude.{◌≡◌, ℕ, ◌+◌, ◌-◌, ◌<◌, Bool, true, false, List, [], ◌∷◌, ◌++◌, length, slice_get, Option, Some, None}
use Rattle.map_model.specs.declared.calls.Call.{Call}
use Rattle.map_model.specs.declared.plans.Plan.{Plan}
use Rattle.map_model.specs.declared.plans.Item.{Item}
use Rattle.map_model.specs.declared.plans.Item.TheVariants.{Verbs, Call as WholeCall}
use Rattle.verb_core.specs.declared.player.Player.{Player}
use Rattle.call_texts.specs.State.{State}
use Rattle.world_texts.specs.Bound.{most_acts}
use Rattle.world_texts.specs.Sorts.{Kind}
use Rattle.verb_core.specs.Kept.{verbs_under_way}
use Rattle.verb_core.specs.Play.{is_idle, Play, Event, Turn}

-- the client has stopped or has no call left
pub record IsIdle {M : Type 0} (w : Play M) (c : ℕ) : Type 0 where
  pub plan : Plan
  pub planned : slice_get w.plans c ≡ Some plan
  pub player : Player M
  pub there : slice_get w.players c ≡ Some player
  pub idle : is_idle plan player ≡ true

-- the client is to do so many verbs, and does nothing where it is idle
pub data Does {M : Type 0} (k : Kind M) (w : Play M) (c : ℕ) : ℕ → List Event → Play M → Type 0 where
  does_none : Does k w c 0 [] w
  does_idle : {n : ℕ} {es : List Event} {v : Play M} → Does k w c n es v → IsIdle v c → Does k w c (n + 1) es v
  does_verb : {n : ℕ} {es : List Event} {u v : Play M} (e : Event) (answered : Bool) → Does k w c n es u → Turn k u c e answered v → Does k w c (n + 1) (es ++ e ∷ []) v

-- verbs of the client that answer no call
pub data Goes {M : Type 0} (k : Kind M) (w : Play M) (c : ℕ) : List Event → Play M → Type 0 where
  goes_none : Goes k w c [] w
  goes_more : {es : List Event} {u v : Play M} (e : Event) → Goes k w c es u → Turn k u c e false v → Goes k w c (es ++ e ∷ []) v

-- verbs up to the answer of the call that is under way or of the next one, or until the client is idle
pub data Finishes {M : Type 0} (k : Kind M) (w : Play M) (c : ℕ) : List Event → Play M → Type 0 where
  finishes_idle : {es : List Event} {v : Play M} → Goes k w c es v → IsIdle v c → Finishes k w c es v
  finishes_answered : {es : List Event} {u v : Play M} (e : Event) → Goes k w c es u → Turn k u c e true v → Finishes k w c (es ++ e ∷ []) v

abbrev pub DoesItem : {M : Type 0} → Kind M → Play M → Item → List Event → Play M → Type 0
DoesItem k w (Verbs client count) es v = Does k w client count es v
DoesItem k w (WholeCall client) es v = Finishes k w client es v

-- the items in order
pub data DoesItems {M : Type 0} (k : Kind M) (w : Play M) : List Item → List Event → Play M → Type 0 where
  items_none : DoesItems k w [] [] w
  items_more : {items : List Item} {es : List Event} {u : Play M} (item : Item) (fs : List Event) (v : Play M) → DoesItems k w items es u → DoesItem k u item fs v → DoesItems k w (items ++ item ∷ []) (es ++ fs) v

-- all that is left of a client's calls, up to its stop: one call after another until it is idle
pub data Calls {M : Type 0} (k : Kind M) (w : Play M) (c : ℕ) : List Event → Play M → Type 0 where
  calls_none : Calls k w c [] w
  calls_more : {es fs : List Event} {u v : Play M} → Calls k w c es u → Finishes k u c fs v → Calls k w c (es ++ fs) v

-- the first clients, each until it is idle
pub data Tail {M : Type 0} (k : Kind M) (w : Play M) : ℕ → List Event → Play M → Type 0 where
  tail_none : Tail k w 0 [] w
  tail_more : {n : ℕ} {es fs : List Event} {u v : Play M} → Tail k w n es u → Calls k u n fs v → IsIdle v n → Tail k w (n + 1) (es ++ fs) v

-- the items, then the tail
pub record Plays {M : Type 0} (k : Kind M) (w : Play M) (items : List Item) (events : List Event) (v : Play M) : Type 0 where
  pub between : Play M
  pub before : List Event
  pub after : List Event
  pub scheduled : DoesItems k w items before between
  pub tail : Tail k between (length between.plans) after v
  pub all : events ≡ before ++ after

-- how many verbs the call under way, or the next one, may still do
abbrev pub left_by : State → ℕ → Option Call → ℕ
left_by state verbs None = 0
left_by state verbs (Some call) = most_acts state call - verbs

abbrev pub left_of : {M : Type 0} → Option Plan → Option (Player M) → ℕ
left_of (Some plan) (Some p) = left_by p.state (verbs_under_way p.under_way) (slice_get plan.calls.items p.answered)
left_of _ _ = 0

abbrev pub left_in : {M : Type 0} → Play M → ℕ → ℕ
left_in w c = left_of (slice_get w.plans c) (slice_get w.players c)

-- how many calls of a client are not answered
abbrev pub calls_of : {M : Type 0} → Option Plan → Option (Player M) → ℕ
calls_of (Some plan) (Some p) = length plan.calls.items - p.answered
calls_of _ _ = 0

abbrev pub calls_in : {M : Type 0} → Play M → ℕ → ℕ
calls_in w c = calls_of (slice_get w.plans c) (slice_get w.players c)

-- the item names a client
abbrev pub IsFor : ℕ → Item → Type 0
IsFor n (Verbs client count) = client < n
IsFor n (WholeCall client) = client < n
