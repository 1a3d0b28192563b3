-- What a world keeps of a call that has answered.
use Rattle.std.specs.Prelude.{◌≡◌, ℕ, ◌+◌, true, false, if◌then◌else◌, List, [], ◌∷◌, ◌++◌, length, slice_get, Option, Some, None}
use Rattle.kv_block.specs.declared.changes.Change.{Change}
use Rattle.map_model.specs.declared.calls.Call.{Call}
use Rattle.map_model.specs.declared.records.Record.{Record}
use Rattle.map_model.specs.Machine.{is_change, is_quiet, change_of}
use Rattle.map_model.specs.Moments.{IsFirst}
use Rattle.call_texts.specs.State.{CallEnd, state_after}
use Rattle.verb_core.specs.declared.player.Player.{Player}

-- client c has taken what the call under way, begun at `lo` changes, has ended with, so that player p has become x; its record is told,
-- where the timeline has the changes before its last verb, and its change is pending
pub record Concluded {M : Type 0} (c : ℕ) (calls : List Call) (timeline : List Change) (lo : ℕ) (e : CallEnd) (p x : Player M) (before after : List Record) (pending : Option Change) : Type 0 where
  pub state : x.state ≡ state_after p.state e
  pub answered : x.answered ≡ p.answered + 1
  pub verbs : x.verbs ≡ p.verbs
  pub none : x.under_way ≡ None
  pub call : Call
  pub which : slice_get calls p.answered ≡ Some call
  pub told : Record
  pub pushed : after ≡ before ++ told ∷ []
  pub asked : (told.client ≡ c) × (told.number ≡ p.answered + 1) × (told.call ≡ call)
  pub reply : (told.reply ≡ e.reply) × (told.lo ≡ lo)
  pub hi : told.hi ≡ (if is_change e.reply then length timeline + 1 else length timeline)
  pub changing : is_change e.reply ≡ true → told.point ≡ length timeline
  pub quiet : is_change e.reply ≡ false → is_quiet e.reply ≡ true → IsFirst timeline lo call e.reply told.point
  pub refused : is_change e.reply ≡ false → is_quiet e.reply ≡ false → told.point ≡ lo
  pub change : is_change e.reply ≡ true → pending ≡ change_of call
  pub no_change : is_change e.reply ≡ false → pending ≡ None
