-- A world whose pending change has been taken into its timeline.
use Rattle.std.specs.Prelude.{◌≡◌, ℕ, ◌+◌, Bool, ◌++◌, [], ◌∷◌, List, Option, None}
use Rattle.std.specs.Option.{option_to_list}
use Rattle.std.proofs.Common.{sym, ◌∙◌, ap, subst}
use Rattle.std.proofs.lemmas.List.{append-nil}
use Rattle.kv_block.specs.declared.changes.Change.{Change}
use Rattle.map_model.specs.declared.plans.Plan.{Plan}
use Rattle.map_model.specs.declared.records.Record.{Record}
use Rattle.node_words.specs.declared.geometry.Geometry.{Geometry}
use Rattle.verbs.specs.Logs.{Entries}
use Rattle.race_laws.specs.Setting.{Setting}
use Rattle.verb_core.specs.declared.player.Player.{Player}
use Rattle.world_texts.specs.Sorts.{Kind}
use Rattle.verb_core.specs.Kept.{IsKept, IsWorld}
use Rattle.verb_core.specs.Play.{Play, Event, Turn}
use Rattle.verb_core.specs.Drawn.{Drawn}
use Rattle.log_facts.specs.Among.{changes_of}

pub caught_up : {M : Type 0} (kind : Kind M) (s : Setting) (plans : List Plan) (l m : Entries) (players : List (Player M)) (records next : List Record) (timeline after : List Change) (pending then : Option Change) (g : Geometry) → IsWorld kind s plans l players records timeline pending
    → after ≡ timeline ++ option_to_list pending → then ≡ None → g ≡ s.geometry → m ≡ l → next ≡ records → IsWorld kind (record { geometry = g; listed = s.listed }) plans m players next after then
caught_up {M} kind s plans l m players records next timeline after pending then g h a n eg em er =
    subst (λ (x : Geometry). IsWorld kind (record { geometry = x; listed = s.listed }) plans m players next after then) (sym eg)
    (subst (λ (x : Entries). IsWorld kind s plans x players next after then) (sym em)
    (subst (λ (x : List Record). IsWorld kind s plans l players x after then) (sym er)
    (record { kept = h.kept; timed = ap (λ (o : Option Change). after ++ option_to_list o) n ∙ append-nil after ∙ a ∙ h.timed })))

-- a world after a verb
pub kept_world : {M : Type 0} (kind : Kind M) (s : Setting) (plans : List Plan) (m : Entries) (players : List (Player M)) (records next : List Record) (timeline : List Change) (pending : Option Change) (g : Geometry) → IsKept kind s plans m players records → timeline ++ option_to_list pending ≡ changes_of s m → g ≡ s.geometry → next ≡ records
    → IsWorld kind (record { geometry = g; listed = s.listed }) plans m players next timeline pending
kept_world kind s plans m players records next timeline pending g k timed eg er =
    subst (λ (x : Geometry). IsWorld kind (record { geometry = x; listed = s.listed }) plans m players next timeline pending) (sym eg)
    (subst (λ (x : List Record). IsWorld kind s plans m players x timeline pending) (sym er) (record { kept = k; timed = timed }))

-- with nothing pending
pub timed_none : (timeline changes : List Change) (pending : Option Change) → pending ≡ None → timeline ≡ changes → timeline ++ option_to_list pending ≡ changes
timed_none timeline changes pending n e = ap (λ (o : Option Change). timeline ++ option_to_list o) n ∙ append-nil timeline ∙ e

-- a turn, as the code tells it
pub turn_told : {M : Type 0} (kind : Kind M) (s : Setting) (plans : List Plan) (l m : Entries) (players next : List (Player M)) (records added told : List Record) (c choice : ℕ) (answered : Bool) (g : Geometry) (w : Play M) (a draws : ℕ → ℕ)
    → ((e : Event) × Turn kind (record { setting = s; plans = plans; entries = l; players = players; records = records }) c e answered (record { setting = s; plans = plans; entries = m; players = next; records = added }) × (e.choice ≡ choice))
    → record { setting = s; plans = plans; entries = l; players = players; records = records } ≡ w → g ≡ s.geometry → told ≡ added → choice ≡ a 0 → ((n : ℕ) → draws n ≡ a (n + 1))
    → (e : Event) × Turn kind w c e answered (record { setting = record { geometry = g; listed = s.listed }; plans = plans; entries = m; players = next; records = told }) × Drawn a (e ∷ []) draws
turn_told {M} kind s plans l m players next records added told c choice answered g w a draws t view eg er now then = (
  t.0,
  subst (λ (x : Play M). Turn kind x c t.0 answered (record { setting = record { geometry = g; listed = s.listed }; plans = plans; entries = m; players = next; records = told })) view
      (subst (λ (x : Geometry). Turn kind (record { setting = s; plans = plans; entries = l; players = players; records = records }) c t.0 answered (record { setting = record { geometry = x; listed = s.listed }; plans = plans; entries = m; players = next; records = told })) (sym eg)
      (subst (λ (x : List Record). Turn kind (record { setting = s; plans = plans; entries = l; players = players; records = records }) c t.0 answered (record { setting = s; plans = plans; entries = m; players = next; records = x })) (sym er) t.1)),
  (t.2 ∙ now, then),
)
