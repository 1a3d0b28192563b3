-- The Place entries that a client has made since a position: kept by entries of other clients, and by own entries that publish
-- nothing.
use Rattle.std.specs.Prelude.{◌≡◌, ℕ, true, ◌∷◌, Some, refl}
use Rattle.std.proofs.Common.{sym, ◌∙◌, subst, arith}
use Rattle.slot_word.specs.declared.slots.Mark.TheVariants.{Pending}
use Rattle.node_words.specs.Roles.{SlotWord}
use Rattle.verb_log.specs.declared.entry.Entry.{Entry}
use Rattle.verb_log.specs.declared.kind.Kind.TheVariants.{Place}
use Rattle.verb_log.specs.Decoded.{content}
use Rattle.verb_log.specs.Tables.{Past, Before, here, later, role, judged_role, publishes}
use Rattle.verb_log.specs.Kinds.{kind}
use Rattle.verb_log.proofs.Positions.{Before-trans}
use Rattle.race_laws.specs.Setting.{Setting}
use Rattle.race_laws.specs.Legal.{Legal}
use Rattle.race_laws.proofs.Positions.{before_never}
use Rattle.race_laws.proofs.Sound.{judged_is}
use Rattle.race_laws.proofs.SoundStep.{sound}
use Rattle.race_laws.proofs.Step.{StepAt, step_of, SlotStep, place, drop, commit, replace, remove, copy, uncopy, flip, settle, clear}
use Rattle.race_laws.proofs.SlotKinds.{on_slot}
use Rattle.race_laws.proofs.Covers.{covers_it}
use Rattle.race_laws.proofs.Pending.{some_words}
use Rattle.log_facts.proofs.Silent.{Silent, Kept}

-- each of them is so
abbrev pub EachPlace : Setting → ℕ → Past → (Entry → Type 0) → Past → Type 0
EachPlace s c from F q = (e : Entry) (x : Past) → Before (e ∷ x) q → Before from x → e.client ≡ c → kind s.geometry x e ≡ Some Place → F e

abbrev pub None_placed : Entry → Type 0
None_placed e = ⊥

abbrev pub Placed_one : ℕ → ℕ → Entry → Type 0
Placed_one a w e = (e.at ≡ a) × (e.new ≡ w)

pub none_placed : (s : Setting) (c : ℕ) (q : Past) → EachPlace s c q None_placed q
none_placed s c q e x b d o k = before_never (Before-trans b d)

-- a Place publishes its block
place_speaks : (s : Setting) (q : Past) (e : Entry) → Legal s (e ∷ q) → kind s.geometry q e ≡ Some Place → Silent s q e → ⊥
place_speaks s q e l kd si = let z = on_slot s.geometry q e (judged_role s.geometry q e.at) Place refl kd in by z.0 z.1 (sym (judged_is s.geometry q (sound s q l.0) e.at) ∙ z.2) (subst (StepAt s q e) z.2 (step_of s q e l.1))
  where
    by : (t p : ℕ) → role s.geometry q e.at ≡ SlotWord t p → SlotStep s q e t p → ⊥
    by t p r (place b i o n row) =
        let some = some_words s.geometry q row.body row.pair row.fresh.packs in
        si row.body.at (subst (λ v. publishes s.geometry e v row.body.at ≡ true) (sym r) (covers_it (content e.new) Pending row.body row.body.at row.word (omega arith) (omega arith)))
    by t p r (drop b i o n) = let z = sym kd ∙ i in cc
    by t p r (commit b i o n row) = let z = sym kd ∙ i in cc
    by t p r (replace b d i o n y row) = let z = sym kd ∙ i in cc
    by t p r (remove b i o n row) = let z = sym kd ∙ i in cc
    by t p r (copy b i o n row) = let z = sym kd ∙ i in cc
    by t p r (uncopy b i o n row) = let z = sym kd ∙ i in cc
    by t p r (flip b i o n row) = let z = sym kd ∙ i in cc
    by t p r (settle b i o n row) = let z = sym kd ∙ i in cc
    by t p r (clear b i o n row) = let z = sym kd ∙ i in cc

-- one entry more
each_more : (s : Setting) (c : ℕ) (from : Past) (F : Entry → Type 0) (q : Past) (e : Entry) → (e.client ≡ c → kind s.geometry q e ≡ Some Place → F e) → EachPlace s c from F q → EachPlace s c from F (e ∷ q)
each_more s c from F q e f h e2 x here d o k = f o k
each_more s c from F q e f h e2 x (later b) d o k = h e2 x b d o k

pub kept_places : (s : Setting) (c : ℕ) (from : Past) (F : Entry → Type 0) → Kept s c (EachPlace s c from F)
kept_places s c from F = record {
  others = λ q e l o h. each_more s c from F q e (λ x k. absurd (o x)) h;
  silent = λ q e l si h. each_more s c from F q e (λ x k. absurd (place_speaks s q e l k si)) h;
}

-- the one that is made now
pub placed_now : (s : Setting) (c : ℕ) (from q : Past) (e : Entry) (a w : ℕ) → e.at ≡ a → e.new ≡ w → EachPlace s c from None_placed q → EachPlace s c from (Placed_one a w) (e ∷ q)
placed_now s c from q e a w p n h = each_more s c from (Placed_one a w) q e (λ x k. (p, n)) (λ e2 x b d o k. absurd (h e2 x b d o k))
