-- In a table that fills each place is empty or a copy, or the same place of the parent is moved, or was clear. Of every legal log.
use Rattle.std.specs.Prelude.{◌≡◌, ◌≢◌, ℕ, ◌-◌, ◌≤◌, [], ◌∷◌}
use Rattle.std.proofs.Common.{sym, ◌∙◌, ap, subst, arith, ⊎_elim}
use Rattle.slot_word.specs.declared.slots.Mark.{Mark}
use Rattle.slot_word.specs.declared.slots.Mark.TheVariants.{Live, Pending, Copied, Moved}
use Rattle.slot_word.specs.declared.births.Birth.{Birth}
use Rattle.node_words.specs.Addresses.{slot_at}
use Rattle.verb_log.specs.declared.entry.Entry.{Entry}
use Rattle.verb_log.specs.Decoded.{Body, Empty, Full, content}
use Rattle.verb_log.specs.Tables.{Past, here, later, word_at}
use Rattle.race_laws.specs.Setting.{Setting}
use Rattle.race_laws.specs.Standing.{IsTable, header_in, birth_in, place_in, depth, IsFilling}
use Rattle.race_laws.specs.Splits.{IsOpen, WasClear}
use Rattle.race_laws.specs.Rows.{IsPlace}
use Rattle.race_laws.specs.Legal.{Legal}
use Rattle.race_laws.proofs.Step.{SlotStep, place, drop, commit, replace, remove, copy, uncopy, flip, settle, clear}
use Rattle.race_laws.proofs.Touch.{table_stays}
use Rattle.race_laws.proofs.Sound.{Sound, table_some}
use Rattle.race_laws.proofs.SoundStep.{sound}
use Rattle.race_laws.proofs.Slots.{standing_named}
use Rattle.race_laws.proofs.Frames.{birth_kept, slot_cases}
use Rattle.race_laws.proofs.Finality.{filling_on, header_next, ripe_before, open_before}
use Rattle.race_laws.proofs.Chain.{before_opening, first_is_table}
use Rattle.race_laws.proofs.Splits.{IsFirst, Kin, new_table, new_slot}
use Rattle.race_laws.proofs.Opening.{splits, opening_head}
use Rattle.race_laws.proofs.Candidates.{was_clear_later, moved_splits}

-- what may stand at a place of a table that fills
pub data Fill (s : Setting) (q : Past) (u p : ℕ) : Type 0 where
  empty : place_in s.geometry q u p ≡ Empty → Fill s q u p
  a_copy : (b : Body) → place_in s.geometry q u p ≡ Full Copied b → Fill s q u p
  is_moved : (b : Body) → place_in s.geometry q (birth_in s.geometry q u).parent p ≡ Full Moved b → Fill s q u p
  was_clear : WasClear s q (birth_in s.geometry q u).parent ((birth_in s.geometry q u).depth - 1) p → Fill s q u p

-- a table that fills is the child of a table
pub filling_kin : (s : Setting) (q : Past) → Legal s q → (u : ℕ) → IsTable s.geometry q u → IsFilling (header_in s.geometry q u) → Kin s.geometry q u
filling_kin s q l u h f = ⊎_elim (λ (x : IsFirst s.geometry q u). absurd (by x)) (λ x. x) ((splits s q l).kin u h)
  where
    by : IsFirst s.geometry q u → ⊥
    by x =
        let tb : IsTable s.geometry [] u = subst (IsTable s.geometry []) (sym x.inside.is) (first_is_table s.geometry [] x.inside.index x.inside.below) in
        ripe_before s (before_opening q) l u tb (λ y. subst IsFilling (opening_head s.geometry u tb) y) f

module _ (s : Setting) (q : Past) (e : Entry) (l : Legal s (e ∷ q)) (u p : ℕ) (h : IsTable s.geometry q u) (k : IsPlace s.geometry p) (kin : Kin s.geometry q u) where
  so : Sound s.geometry q
  so = sound s q l.0

  abbrev T : ℕ
  T = (birth_in s.geometry q u).parent

  same_birth : birth_in s.geometry (e ∷ q) u ≡ birth_in s.geometry q u
  same_birth = birth_kept s q e l.1 so u h

  abbrev Cleared : Past → Type 0
  Cleared z = WasClear s z T ((birth_in s.geometry q u).depth - 1) p

  still_moved : (b : Body) → place_in s.geometry (e ∷ q) T p ≡ Full Moved b → Fill s (e ∷ q) u p
  still_moved b m = is_moved b (ap (λ (v : Birth). place_in s.geometry (e ∷ q) v.parent p) same_birth ∙ m)

  still_clear : Cleared (e ∷ q) → Fill s (e ∷ q) u p
  still_clear w = was_clear (subst (λ (v : Birth). WasClear s (e ∷ q) v.parent (v.depth - 1) p) (sym same_birth) w)

  -- a Clear of the parent's place
  cleared : (b : Body) → place_in s.geometry q T p ≡ Full Moved b → place_in s.geometry (e ∷ q) T p ≡ Empty → Cleared (e ∷ q)
  cleared b m now =
      let nm = standing_named s.geometry q so T p Moved b kin.table k m in
      let ms = moved_splits s q l.0 T p b nm.pair kin.table k (record { stands = m; packs = nm.packs }) in
      let g16 = s.geometry.deep in
      let lb = kin.below in
      let some = table_some s.geometry q so u h in
      let up = (splits s q l.0).upto T kin.level kin.table (omega arith) (λ z. some (sym kin.is_child ∙ z)) in
      let dd = ap depth ms.2 in
      let born = kin.born in
      let lev : (birth_in s.geometry q u).depth - 1 ≤ ms.0 = omega arith in
      record {
        at = e ∷ q;
        before = here;
        clear = record {
          table = table_stays s.geometry q e T T kin.table;
          opened = open_before s (later {e = e} here) l T ((birth_in s.geometry q u).depth - 1) kin.table (subst (λ v. IsOpen v ((birth_in s.geometry q u).depth - 1)) (sym ms.2) lev);
          clear = λ m2 b2 q2 w x. let y = w.stands in absurd (cc);
        };
      }

  parent_changed : (b : Body) → place_in s.geometry q T p ≡ Full Moved b → slot_at T p ≡ e.at → place_in s.geometry (e ∷ q) T p ≡ content e.new → SlotStep s q e T p → Fill s (e ∷ q) u p
  parent_changed b m a nw (place d i o n row) = let z = ap (λ v. content (word_at s.geometry q v)) a in absurd (cc)
  parent_changed b m a nw (drop d i o n) = let z = ap (λ v. content (word_at s.geometry q v)) a in absurd (cc)
  parent_changed b m a nw (commit d i o n row) = let z = ap (λ v. content (word_at s.geometry q v)) a in absurd (cc)
  parent_changed b m a nw (replace d g i o n y row) = let z = ap (λ v. content (word_at s.geometry q v)) a in absurd (cc)
  parent_changed b m a nw (remove d i o n row) = let z = ap (λ v. content (word_at s.geometry q v)) a in absurd (cc)
  parent_changed b m a nw (copy d i o n row) = absurd (⊎_elim (λ (v : content (word_at s.geometry q e.at) ≡ Empty). let z = ap (λ v. content (word_at s.geometry q v)) a in cc) (λ v. let z = ap (λ v. content (word_at s.geometry q v)) a in let w = v.1 in cc) o)
  parent_changed b m a nw (uncopy d i o n row) = let z = ap (λ v. content (word_at s.geometry q v)) a in absurd (cc)
  parent_changed b m a nw (flip d i o n row) = let z = ap (λ v. content (word_at s.geometry q v)) a in absurd (cc)
  parent_changed b m a nw (settle d i o n row) = let z = ap (λ v. content (word_at s.geometry q v)) a in absurd (cc)
  parent_changed b m a nw (clear d i o n row) = still_clear (cleared b m (nw ∙ n))

  moved_on : (b : Body) → place_in s.geometry q T p ≡ Full Moved b → Fill s (e ∷ q) u p
  moved_on b m = ⊎_elim (λ (x : place_in s.geometry (e ∷ q) T p ≡ place_in s.geometry q T p). still_moved b (x ∙ m)) (λ x. parent_changed b m x.1 x.0 x.2) (slot_cases s q e l.1 so T kin.table p k)

  mark_is : (m n : Mark) (b c : Body) → Full m b ≡ Full n c → m ≡ n
  mark_is m n b c h = cc

  -- beside a word that is no copy
  full : (a : slot_at u p ≡ e.at) → (m : Mark) (b : Body) → content (word_at s.geometry q e.at) ≡ Full m b → m ≢ Copied → Fill s q u p → Fill s (e ∷ q) u p
  full a m b o n (empty x) = let z = ap (λ v. content (word_at s.geometry q v)) a in absurd (cc)
  full a m b o n (a_copy d x) = absurd (n (mark_is m Copied b d (sym o ∙ ap (λ v. content (word_at s.geometry q v)) (sym a) ∙ x)))
  full a m b o n (is_moved d x) = moved_on d x
  full a m b o n (was_clear x) = still_clear (was_clear_later s e T ((birth_in s.geometry q u).depth - 1) p x)

  -- what stands there changes
  changed : slot_at u p ≡ e.at → IsFilling (header_in s.geometry q u) → place_in s.geometry (e ∷ q) u p ≡ content e.new → SlotStep s q e u p → Fill s q u p → Fill s (e ∷ q) u p
  changed a f nw (place d i o n row) ih = still_clear (was_clear_later s e T ((birth_in s.geometry q u).depth - 1) p (row.filling f))
  changed a f nw (drop d i o n) ih = empty (nw ∙ n)
  changed a f nw (commit d i o n row) ih = full a Pending d o (λ z. cc) ih
  changed a f nw (replace d g i o n y row) ih = full a Live d o (λ z. cc) ih
  changed a f nw (remove d i o n row) ih = empty (nw ∙ n)
  changed a f nw (copy d i o n row) ih = a_copy d (nw ∙ n)
  changed a f nw (uncopy d i o n row) ih = empty (nw ∙ n)
  changed a f nw (flip d i o n row) ih = full a Live d o (λ z. cc) ih
  changed a f nw (settle d i o n row) ih = moved_on row.body row.moved
  changed a f nw (clear d i o n row) ih = empty (nw ∙ n)

  kept : place_in s.geometry (e ∷ q) u p ≡ place_in s.geometry q u p → Fill s q u p → Fill s (e ∷ q) u p
  kept x (empty y) = empty (x ∙ y)
  kept x (a_copy b y) = a_copy b (x ∙ y)
  kept x (is_moved b y) = moved_on b y
  kept x (was_clear y) = still_clear (was_clear_later s e T ((birth_in s.geometry q u).depth - 1) p y)

  fill_step : IsFilling (header_in s.geometry q u) → Fill s q u p → Fill s (e ∷ q) u p
  fill_step f ih = ⊎_elim (λ (x : place_in s.geometry (e ∷ q) u p ≡ place_in s.geometry q u p). kept x ih) (λ x. changed x.1 f x.0 x.2 ih) (slot_cases s q e l.1 so u h p k)

pub filled : (s : Setting) (q : Past) → Legal s q → (u p : ℕ) → IsTable s.geometry q u → IsPlace s.geometry p → IsFilling (header_in s.geometry q u) → Fill s q u p
filled s [] l u p h k f = absurd (subst IsFilling (opening_head s.geometry u h) f)
filled s (e ∷ q) l u p h k f = ⊎_elim
    (λ (x : IsTable s.geometry q u).
    let fq : IsFilling (header_in s.geometry q u) = ⊎_elim (λ (y : header_in s.geometry (e ∷ q) u ≡ header_in s.geometry q u). subst IsFilling y f) (λ y. filling_on y f) (header_next s q e l.1 (sound s q l.0) u x) in
    fill_step s q e l u p x k (filling_kin s q l.0 u x fq) fq (filled s q l.0 u p x k fq))
    (λ x. empty (ap (λ v. place_in s.geometry (e ∷ q) v p) x.0 ∙ new_slot s q e l.0 l.1 x.1 p k)) (new_table s q e l.0 l.1 u h)
