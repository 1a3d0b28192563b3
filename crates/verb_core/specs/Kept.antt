-- What is true of each world.
use Rattle.std.specs.Prelude.{◌≡◌, ℕ, ◌+◌, ◌≤◌, ◌^◌, ◌*◌, List, ◌++◌, length, take, slice_get, Option, Some, None}
use Rattle.std.specs.List.{AllByRecursion}
use Rattle.std.specs.Option.{option_to_list}
use Rattle.kv_block.specs.declared.changes.Change.{Change}
use Rattle.key_hash.specs.Placing.{placed}
use Rattle.map_model.specs.declared.calls.Call.{Call}
use Rattle.map_model.specs.declared.plans.Plan.{Plan}
use Rattle.map_model.specs.declared.records.Record.{Record}
use Rattle.map_model.specs.History.{IsFounded}
use Rattle.verbs.specs.Logs.{Entries, MayStand}
use Rattle.race_laws.specs.Setting.{Setting}
use Rattle.race_laws.specs.Legal.{MayFollow}
use Rattle.verb_core.specs.declared.player.Open.{Open}
use Rattle.verb_core.specs.declared.player.Player.{Player}
use Rattle.world_texts.specs.Bound.{most_acts}
use Rattle.world_texts.specs.Fits.{Fits}
use Rattle.world_texts.specs.Sorts.{Kind}
use Rattle.verb_core.specs.Play.{counted, asked_by}
use Rattle.log_facts.specs.Among.{changes_of}
use Rattle.world_texts.specs.Safety.{SafeCall, EndsWell}

-- how many changes a client's answered calls had seen at most
abbrev pub since : {M : Type 0} → Setting → Entries → Option (Open M) → ℕ
since s l None = length (changes_of s l)
since s l (Some going) = going.lo

-- how many verbs the call under way has done
abbrev pub verbs_under_way : {M : Type 0} → Option (Open M) → ℕ
verbs_under_way None = 0
verbs_under_way (Some going) = going.verbs

-- the call under way is safe from here on
pub record IsGoing {M : Type 0} (k : Kind M) (s : Setting) (l : Entries) (c : ℕ) (calls : List Call) (p : Player M) (going : Open M) : Type 0 where
  pub call : Call
  pub which : slice_get calls p.answered ≡ Some call
  pub first : Entries
  pub began : going.lo ≡ length (changes_of s first)
  pub seen : going.lo ≤ length (changes_of s l)
  pub left : ℕ
  pub bounded : going.verbs + left ≤ most_acts p.state call
  pub few : p.state.tries ≤ 64
  pub settled : k.wants going.machine ≡ None
  pub goes : k.sort.answer (k.text (placed s.listed) going.machine) ≡ None
  pub safe : SafeCall k.sort s c left (changes_of s l) l (k.text (placed s.listed) going.machine) (EndsWell s c call p.state first)

abbrev pub IsUnderWay : {M : Type 0} → Kind M → Setting → Entries → ℕ → List Call → Player M → Option (Open M) → Type 0
IsUnderWay k s l c calls p None = Fits s l c p.state
IsUnderWay k s l c calls p (Some going) = IsGoing k s l c calls p going

pub record IsPlaying {M : Type 0} (k : Kind M) (s : Setting) (l : Entries) (records : List Record) (c : ℕ) (plan : Plan) (p : Player M) : Type 0 where
  pub few : p.answered ≤ length plan.calls.items
  pub short : length plan.calls.items ≤ 65536
  pub spent : p.verbs ≤ p.answered * 2 ^ 40 + verbs_under_way p.under_way
  pub asked : asked_by c records ≡ counted 1 (take p.answered plan.calls.items)
  pub before : AllByRecursion (λ r. r.client ≡ c → (r.number ≤ p.answered) × (r.hi ≤ since s l p.under_way)) records
  pub under_way : IsUnderWay k s l c plan.calls.items p p.under_way

pub record IsKept {M : Type 0} (k : Kind M) (s : Setting) (plans : List Plan) (l : Entries) (players : List (Player M)) (records : List Record) : Type 0 where
  pub legal : MayStand (MayFollow s) l
  pub founded : IsFounded (changes_of s l) records
  pub sized : length players ≡ length plans
  pub crowd : length plans ≤ 64
  pub playing : (c : ℕ) (plan : Plan) (p : Player M) → slice_get plans c ≡ Some plan → slice_get players c ≡ Some p → IsPlaying k s l records c plan p

-- a world is kept, and its timeline with the pending change has the changes of the log
pub record IsWorld {M : Type 0} (k : Kind M) (s : Setting) (plans : List Plan) (l : Entries) (players : List (Player M)) (records : List Record) (timeline : List Change) (pending : Option Change) : Type 0 where
  pub kept : IsKept k s plans l players records
  pub timed : timeline ++ option_to_list pending ≡ changes_of s l
