-- A client that is about to do a verb.
use Rattle.std.specs.Prelude.{◌≡◌, ℕ, ◌≤◌, ◌<◌, ◌^◌, false, List, ◌++◌, length, slice_get, Option, Some, None, option_map}
use Rattle.std.specs.Option.{option_to_list}
use Rattle.std.proofs.Common.{sym, ◌∙◌, ap, subst, arith, get_or}
use Rattle.std.proofs.lemmas.Option.{slice_get-get_or}
use Rattle.key_hash.specs.Placing.{placed}
use Rattle.kv_block.specs.declared.changes.Change.{Change}
use Rattle.map_model.specs.declared.calls.Call.{Call}
use Rattle.map_model.specs.Machine.{key_of}
use Rattle.map_model.specs.declared.plans.Plan.{Plan}
use Rattle.map_model.specs.declared.records.Record.{Record}
use Rattle.verb_log.proofs.Positions.{item_there}
use Rattle.verbs.specs.Logs.{Entries}
use Rattle.race_laws.specs.Setting.{Setting}
use Rattle.whole_calls.specs.Law.{IsCall}
use Rattle.log_facts.specs.Among.{changes_of}
use Rattle.world_texts.specs.Sorts.{Kind}
use Rattle.world_texts.specs.Safety.{EndsWell, AreSafe}
use Rattle.world_texts.proofs.Bounds.{acts_few}
use Rattle.world_texts.proofs.Steps.{safe_some, safe_place}
use Rattle.verb_core.specs.declared.player.Open.{Open}
use Rattle.verb_core.specs.declared.player.Player.{Player}
use Rattle.verb_core.specs.Going.{MayGo}
use Rattle.verb_core.specs.Kept.{IsPlaying, IsKept, IsWorld}
use Rattle.verb_core.specs.Play.{going_of, or_next, is_idle}
use Rattle.verb_core.proofs.Stages.{Begun}
use Rattle.verb_core.proofs.Worlds.{IsWithinLimits, Current, current, has_call, steady, spent_few}

-- a client in its list
pub there_at : {M : Type 0} (players : List (Player M)) (c : ℕ) (p : Player M) → c < length players → p ≡ get_or players c p → slice_get players c ≡ Some p
there_at players c p low is = slice_get-get_or players c p low ∙ ap (λ x. Some x) (sym is)

pub one_player : {M : Type 0} (p q : Player M) → Some p ≡ Some q → p ≡ q
one_player p q e = cc

pub one_open : {M : Type 0} (o q : Open M) → Some o ≡ Some q → o ≡ q
one_open o q e = cc

-- its world is kept, and the timeline has all changes
pub record Ready {M : Type 0} (kind : Kind M) (s : Setting) (plans : List Plan) (l : Entries) (players : List (Player M)) (records : List Record) (timeline : List Change) (c : ℕ) (plan : Plan) (p : Player M) : Type 0 where
  pub kept : IsKept kind s plans l players records
  pub timed : timeline ≡ changes_of s l
  pub planned : slice_get plans c ≡ Some plan
  pub there : slice_get players c ≡ Some p
  pub active : is_idle plan p ≡ false

module _ {M : Type 0} (kind : Kind M) (s : Setting) (plans : List Plan) (l : Entries) (players : List (Player M)) (records : List Record) (timeline : List Change) (c : ℕ) (plan : Plan) (p : Player M) (r : Ready kind s plans l players records timeline c plan p) where
  mine : IsPlaying kind s l records c plan p
  mine = r.kept.playing c plan p r.planned r.there

  pub call_below : p.answered < length plan.calls.items
  call_below = has_call kind s l records c plan p mine r.active

  pub few : (p.verbs < 2 ^ 63) × (p.answered < 2 ^ 31)
  few = spent_few kind s l records c plan p mine

  pub settled : (o : Open M) → p.under_way ≡ Some o → kind.wants o.machine ≡ None
  settled o e = (steady kind s l records c plan p mine o e).0

  module _ (calls : AreSafe kind.sort) (call : Call) (which : slice_get plan.calls.items p.answered ≡ Some call) (limits : IsWithinLimits s call p.under_way) (lo : ℕ) (counted : lo ≡ length timeline) (b : Player M) (o : Open M) (begun : Begun kind (placed s.listed) lo call p b o) where
    now : Current kind s l c plan.calls.items p call (going_of kind (placed s.listed) o)
    now =
        let hash = placed s.listed in
        current kind calls s l records c plan p call (going_of kind hash o) r.kept.legal mine which
        (subst (λ n. or_next kind hash n p.state (option_map (going_of kind hash) p.under_way) (Some call) ≡ Some (going_of kind hash o)) (counted ∙ ap (length {A = Change}) r.timed) begun.is) limits

    -- it began at no more changes than there are
    pub lo_low : o.lo ≤ length timeline
    lo_low = let a = now.seen in let b = ap (length {A = Change}) r.timed in omega arith

    -- it may do the verb that a choice names
    pub may_go : (choice words : ℕ) → words ≡ s.geometry.words → kind.wants o.machine ≡ None → MayGo kind (placed s.listed) words choice o
    may_go choice words e none =
        let h = now in
        let End = EndsWell s c call p.state h.first in
        let t = kind.text (placed s.listed) o.machine in
        record {
          settled = none;
          some = safe_some kind.sort s c End h.left (changes_of s l) l t h.safe h.goes;
          place = λ verb chosen. let low = safe_place kind.sort s c End h.left (changes_of s l) l t choice verb h.safe h.goes chosen in omega arith;
          few = let x = h.bounded in let y = acts_few p.state call h.few in omega arith;
        }

  -- its call under way, or the next one, which has begun
  pub record Opened (lo : ℕ) (b : Player M) : Type 0 where
    pub call : Call
    pub which : slice_get plan.calls.items p.answered ≡ Some call
    pub limits : IsWithinLimits s call p.under_way
    pub o : Open M
    pub begun : Begun kind (placed s.listed) lo call p b o
    pub none : kind.wants o.machine ≡ None

  pub opened : (lo : ℕ) (b : Player M) → b.state ≡ p.state → b.answered ≡ p.answered → b.verbs ≡ p.verbs
      → ((o : Open M) × (b.under_way ≡ Some o) × (kind.wants o.machine ≡ None) × (or_next kind (placed s.listed) lo p.state (option_map (going_of kind (placed s.listed)) p.under_way) (slice_get plan.calls.items p.answered) ≡ Some (going_of kind (placed s.listed) o)))
      → ((call : Call) → p.under_way ≡ None → slice_get plan.calls.items p.answered ≡ Some call → IsCall call × (placed s.listed (key_of call) < 2 ^ 64)) → Opened lo b
  opened lo b state answered verbs o limits =
      let hash = placed s.listed in
      let call = item_there plan.calls.items p.answered call_below in
      record {
        call = call.0;
        which = call.1;
        limits = λ n. limits call.0 n call.1;
        o = o.0;
        begun = record {
          state = state;
          answered = answered;
          verbs = verbs;
          under = o.1;
          is = subst (λ (x : Option Call). or_next kind hash lo p.state (option_map (going_of kind hash) p.under_way) x ≡ Some (going_of kind hash o.0)) call.1 o.3;
        };
        none = o.2;
      }

-- of a world whose pending change has been taken into its timeline
pub ready_at : {M : Type 0} (kind : Kind M) (s : Setting) (plans : List Plan) (l : Entries) (players : List (Player M)) (records : List Record) (before : List Change) (pending : Option Change) (timeline : List Change) (c : ℕ) (plan : Plan) (seen p : Player M)
    → IsWorld kind s plans l players records before pending → timeline ≡ before ++ option_to_list pending → c < length players → slice_get plans c ≡ Some plan → seen ≡ get_or players c seen → p ≡ get_or players c p → is_idle plan seen ≡ false → Ready kind s plans l players records timeline c plan p
ready_at {M} kind s plans l players records before pending timeline c plan seen p h caught low planned at at2 active =
    let there = there_at players c p low at2 in
    let same : seen ≡ p = one_player seen p (sym (there_at players c seen low at) ∙ there) in
    record { kept = h.kept; timed = caught ∙ h.timed; planned = planned; there = there; active = subst (λ (x : Player M). is_idle plan x ≡ false) same active }
