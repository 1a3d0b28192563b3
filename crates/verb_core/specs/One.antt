-- Two plays that differ in nothing that a clause may say: the events of a script are one list.
use Rattle.std.specs.Prelude.{◌≡◌, ℕ, slice_get, Some, List}
use Rattle.key_hash.specs.Placing.{placed}
use Rattle.verb_core.specs.declared.player.Player.{Player}
use Rattle.map_model.specs.declared.plans.Item.{Item}
use Rattle.world_texts.specs.Sorts.{Kind}
use Rattle.verb_core.specs.Schedules.{Plays}
use Rattle.verb_core.specs.Drawn.{Drawn, Alike}
use Rattle.verb_core.specs.Play.{stage, Play, Event}

-- the same log, records and stages of the clients
pub record Same {M : Type 0} (k : Kind M) (w x : Play M) : Type 0 where
  pub setting : x.setting ≡ w.setting
  pub plans : x.plans ≡ w.plans
  pub entries : x.entries ≡ w.entries
  pub records : x.records ≡ w.records
  pub stages : (c : ℕ) (p q : Player M) → slice_get w.players c ≡ Some p → slice_get x.players c ≡ Some q → stage k (placed w.setting.listed) q ≡ stage k (placed w.setting.listed) p

-- under the same choices the events of a script are one list, and so are its log, its records and where its clients stand
abbrev pub OneRun : {M : Type 0} → Kind M → Type 0
OneRun {M} k = (w x : Play M) (items : List Item) (es fs : List Event) (v y : Play M) → Same k w x → Plays k w items es v → Plays k x items fs y → Alike es fs → (es ≡ fs) × Same k v y

-- so where both took the choices of one stream
abbrev pub OneDrawn : {M : Type 0} → Kind M → Type 0
OneDrawn {M} k = (w x : Play M) (items : List Item) (es fs : List Event) (v y : Play M) (draws next then : ℕ → ℕ) → Same k w x → Plays k w items es v → Plays k x items fs y → Drawn draws es next → Drawn draws fs then → (es ≡ fs) × Same k v y
