-- A pending word that was placed and is gone never stands in its slot again: each Place names a block that no slot has named.
use Rattle.std.specs.Prelude.{◌≡◌, ◌≢◌, ℕ, ◌∷◌, Some, ◌⊎◌, refl}
use Rattle.std.proofs.Common.{sym, ◌∙◌, ap, subst, inl, inr, ⊎_elim}
use Rattle.slot_word.specs.declared.slots.Mark.TheVariants.{Pending}
use Rattle.node_words.specs.Addresses.{slot_at}
use Rattle.verb_log.specs.declared.entry.Entry.{Entry}
use Rattle.verb_log.specs.declared.kind.Kind.TheVariants.{Place}
use Rattle.verb_log.specs.Decoded.{Body, Full, content}
use Rattle.verb_log.specs.Tables.{Past, Before, here, later, word_at, judged_role}
use Rattle.verb_log.specs.Kinds.{kind}
use Rattle.verb_log.proofs.Positions.{Before-trans}
use Rattle.race_laws.specs.Setting.{Setting}
use Rattle.race_laws.specs.Standing.{place_in}
use Rattle.race_laws.specs.Legal.{Legal}
use Rattle.race_laws.proofs.Positions.{legal_before, before_total}
use Rattle.race_laws.proofs.SoundStep.{sound}
use Rattle.race_laws.proofs.SlotKinds.{on_slot}
use Rattle.race_laws.proofs.Step.{StepAt, step_of, SlotStep, place, drop, commit, replace, remove, copy, uncopy, flip, settle, clear}
use Rattle.race_laws.proofs.Covers.{table_before}
use Rattle.race_laws.proofs.Touch.{word_put}
use Rattle.race_laws.proofs.Pending.{was_placed, pending_between}
use Rattle.log_facts.proofs.Marks.{word_is}
use Rattle.op_insert.specs.Law.{NonePending}

-- the word that a Place puts is a pending one
placed_word : (s : Setting) (q : Past) (e : Entry) → Legal s (e ∷ q) → kind s.geometry q e ≡ Some Place → (b : Body) × (content e.new ≡ Full Pending b)
placed_word s q e l kd = let z = on_slot s.geometry q e (judged_role s.geometry q e.at) Place refl kd in by z.0 z.1 (subst (StepAt s q e) z.2 (step_of s q e l.1))
  where
    by : (t p : ℕ) → SlotStep s q e t p → (b : Body) × (content e.new ≡ Full Pending b)
    by t p (place b i o n row) = (row.body, row.word)
    by t p (drop b i o n) = let z = sym kd ∙ i in absurd (cc)
    by t p (commit b i o n row) = let z = sym kd ∙ i in absurd (cc)
    by t p (replace b d i o n y row) = let z = sym kd ∙ i in absurd (cc)
    by t p (remove b i o n row) = let z = sym kd ∙ i in absurd (cc)
    by t p (copy b i o n row) = let z = sym kd ∙ i in absurd (cc)
    by t p (uncopy b i o n row) = let z = sym kd ∙ i in absurd (cc)
    by t p (flip b i o n row) = let z = sym kd ∙ i in absurd (cc)
    by t p (settle b i o n row) = let z = sym kd ∙ i in absurd (cc)
    by t p (clear b i o n row) = let z = sym kd ∙ i in absurd (cc)

never_again : (s : Setting) (e : Entry) (x : Past) {m q : Past} → Before (e ∷ x) m → Before m q → Legal s q → kind s.geometry x e ≡ Some Place → word_at s.geometry m e.at ≢ e.new → word_at s.geometry q e.at ≢ e.new
never_again s e x {m} {q} b1 b2 l kd gone now =
    let lx = legal_before s (Before-trans b1 b2) l in
    let w = was_placed s x e (sound s x lx.0) kd in
    let y = placed_word s x e lx kd in
    let at = w.2.at in
    let stood : Before x (e ∷ x) = later here in
    let then : place_in s.geometry (e ∷ x) w.0 w.1 ≡ Full Pending y.0 = ap content (word_put s.geometry x e (slot_at w.0 w.1) at) ∙ y.1 in
    let last : place_in s.geometry q w.0 w.1 ≡ Full Pending y.0 = ap content (ap (word_at s.geometry q) at ∙ now) ∙ y.1 in
    let mid = pending_between s b1 b2 l w.0 w.1 y.0 (table_before s.geometry stood w.0 w.0 w.2.table) w.2.place then last in
    gone (ap (word_at s.geometry m) (sym at) ∙ word_is (word_at s.geometry m (slot_at w.0 w.1)) Pending y.0 mid ∙ sym (word_is e.new Pending y.0 y.1))

before_or : {m x : Past} (e : Entry) → Before m (e ∷ x) → (m ≡ e ∷ x) ⊎ Before m x
before_or e here = inl refl
before_or e (later b) = inr b

-- no pending word stands that was placed before a position, and none that was placed since
pub none_both : (s : Setting) (c : ℕ) {p m q : Past} → Before m q → Legal s q → NonePending s c p m → NonePending s c m q → NonePending s c p q
none_both s c {p} {m} {q} b l first second e x be bp oc kd =
    ⊎_elim (λ (y : Before (e ∷ x) m). never_again s e x y b l kd (first e x y bp oc kd))
    (λ (y : Before m (e ∷ x)). ⊎_elim (λ (z : m ≡ e ∷ x). let self : Before (e ∷ x) (e ∷ x) = here in let y2 = subst (Before (e ∷ x)) (sym z) self in never_again s e x y2 b l kd (first e x y2 bp oc kd)) (λ (z : Before m x). second e x be z oc kd) (before_or e y)) (before_total be b)
