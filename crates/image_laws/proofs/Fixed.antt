-- Words of tables that no legal entry changes, and that a slot always reads as a slot.
use Rattle.std.specs.Prelude.{◌≡◌, ℕ, ◌+◌, ◌^◌, ◌<◌, [], ◌∷◌}
use Rattle.std.proofs.Common.{sym, ◌∙◌, ap, subst, arith, ⊎_elim}
use Rattle.node_words.specs.declared.geometry.Geometry.{Geometry}
use Rattle.node_words.specs.Addresses.{table_words, first_table}
use Rattle.node_words.specs.Roles.{BirthWord, ReservedWord, role_in, offset_role}
use Rattle.node_words.specs.Opening.{role_word, opening_word, first_birth}
use Rattle.node_words.proofs.FirstTables.{first_in}
use Rattle.node_words.proofs.OpeningWords.{in_table, opening_inside, opening_birth}
use Rattle.verb_log.specs.declared.entry.Entry.{Entry}
use Rattle.verb_log.specs.Decoded.{NoSlot, content}
use Rattle.verb_log.specs.Tables.{Past, word_at, role}
use Rattle.race_laws.specs.Setting.{Setting}
use Rattle.race_laws.specs.Standing.{IsTable, place_in}
use Rattle.race_laws.specs.Rows.{IsPlace, IsBlank}
use Rattle.race_laws.specs.Legal.{Legal}
use Rattle.race_laws.proofs.Step.{SlotStep, place, drop, commit, replace, remove, copy, uncopy, flip, settle, clear}
use Rattle.race_laws.proofs.Touch.{touched}
use Rattle.race_laws.proofs.Sound.{judged_is, Sound}
use Rattle.race_laws.proofs.SoundStep.{sound}
use Rattle.race_laws.proofs.Frames.{slot_cases, birth_is}
use Rattle.race_laws.proofs.Splits.{Linked, new_table, new_blank, new_slot}
use Rattle.race_laws.proofs.Opening.{opening_empty_slot}
use Rattle.race_laws.proofs.Chain.{first_is_table}

-- the role of a word of a table of the log
pub table_role : (g : Geometry) (q : Past) → Sound g q → (t o : ℕ) → IsTable g q t → o < table_words g → role g q (t + o) ≡ offset_role t o
table_role g q so t o h k = ap (role_in g (t + o)) (so.whole t t h (t + o) (omega arith) (omega arith)) ∙ in_table g t o

-- word 3 of a table, and word 0 of an overflow bucket
pub reserved_zero : (s : Setting) (q : Past) → Legal s q → (t o : ℕ) → IsTable s.geometry q t → o < table_words s.geometry → offset_role t o ≡ ReservedWord → word_at s.geometry q (t + o) ≡ 0
reserved_zero s [] l t o h k r =
    let f = first_in s.geometry t t h in
    ap (λ v. opening_word s.geometry (v + o)) f.is ∙ opening_inside s.geometry f.index o f.below k ∙ ap (role_word s.geometry) (sym (ap (λ v. offset_role v o) f.is) ∙ r)
reserved_zero s (e ∷ q) l t o h k r = ⊎_elim
    (λ (x : IsTable s.geometry q t). ⊎_elim (λ (y : word_at s.geometry (e ∷ q) (t + o) ≡ word_at s.geometry q (t + o)). y ∙ reserved_zero s q l.0 t o x k r)
    (λ y. absurd y.1) (touched s q e (t + o) ReservedWord l.1 (judged_is s.geometry q (sound s q l.0) (t + o) ∙ table_role s.geometry q (sound s q l.0) t o x k ∙ r)))
    (λ x. linked x.0 x.1) (new_table s q e l.0 l.1 t h)
  where
    linked : t ≡ e.new → Linked s q e → word_at s.geometry (e ∷ q) (t + o) ≡ 0
    linked z n = ap (λ v. word_at s.geometry (e ∷ q) (v + o)) z ∙ new_blank s q e l.0 l.1 n o k (subst IsBlank (sym (ap (λ v. offset_role v o) (sym z) ∙ r)) tt)

-- the birth word of a first table
pub first_word : (s : Setting) (q : Past) → Legal s q → (j : ℕ) → j < 2 ^ s.geometry.first_depth → word_at s.geometry q (first_table s.geometry j) ≡ first_birth s.geometry.first_depth j
first_word s [] l j h = opening_birth s.geometry j h
first_word s (e ∷ q) l j h = ⊎_elim (λ (y : word_at s.geometry (e ∷ q) (first_table s.geometry j) ≡ word_at s.geometry q (first_table s.geometry j)). y ∙ first_word s q l.0 j h)
    (λ y. absurd y.1) (touched s q e (first_table s.geometry j) (BirthWord (first_table s.geometry j)) l.1 (judged_is s.geometry q (sound s q l.0) (first_table s.geometry j) ∙ birth_is s.geometry q (sound s q l.0) (first_table s.geometry j) (first_is_table s.geometry q j h)))

-- a slot shows nothing or a block
step_no_slot : (s : Setting) (q : Past) (e : Entry) (t p : ℕ) → SlotStep s q e t p → content e.new ≡ NoSlot → ⊥
step_no_slot s q e t p (place c i o n row) v = cc
step_no_slot s q e t p (drop c i o n) v = cc
step_no_slot s q e t p (commit c i o n row) v = cc
step_no_slot s q e t p (replace c d i o n x row) v = cc
step_no_slot s q e t p (remove c i o n row) v = cc
step_no_slot s q e t p (copy c i o n row) v = cc
step_no_slot s q e t p (uncopy c i o n row) v = cc
step_no_slot s q e t p (flip c i o n row) v = cc
step_no_slot s q e t p (settle c i o n row) v = cc
step_no_slot s q e t p (clear c i o n row) v = cc

pub never_no_slot : (s : Setting) (q : Past) → Legal s q → (t p : ℕ) → IsTable s.geometry q t → IsPlace s.geometry p → place_in s.geometry q t p ≡ NoSlot → ⊥
never_no_slot s [] l t p h k v = let x = opening_empty_slot s.geometry t p h k in cc
never_no_slot s (e ∷ q) l t p h k v = ⊎_elim
    (λ (x : IsTable s.geometry q t). ⊎_elim (λ (y : place_in s.geometry (e ∷ q) t p ≡ place_in s.geometry q t p). never_no_slot s q l.0 t p x k (sym y ∙ v))
    (λ y. step_no_slot s q e t p y.2 (sym y.0 ∙ v)) (slot_cases s q e l.1 (sound s q l.0) t x p k))
    (λ x. let y = ap (λ v. place_in s.geometry (e ∷ q) v p) x.0 ∙ new_slot s q e l.0 l.1 x.1 p k in absurd (cc)) (new_table s q e l.0 l.1 t h)
