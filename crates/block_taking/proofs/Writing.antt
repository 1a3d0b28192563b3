-- The words of a block are written, into words that the client has taken.
use Rattle.std.specs.Prelude.{◌≡◌, ◌≢◌, ℕ, zero, suc, ◌+◌, ◌<◌, ◌≤◌, List, ◌∷◌, length, slice_index}
use Rattle.std.proofs.Common.{sym, ◌∙◌, ap, arith, ⊎_elim}
use Rattle.verb_log.specs.Tables.{Past, word_at}
use Rattle.race_laws.specs.Setting.{Setting}
use Rattle.race_laws.specs.Legal.{Legal}
use Rattle.race_laws.proofs.Touch.{word_put, word_kept, same_or_not}
use Rattle.log_facts.specs.Since.{change_in, Since, same, more}
use Rattle.log_facts.specs.Mine.{Mine}
use Rattle.log_facts.proofs.Mine.{mine_word, mine_heap}
use Rattle.log_facts.proofs.Silent.{kept_since, kept_mine}
use Rattle.log_facts.proofs.Mild.{store_mild}
use Rattle.log_facts.proofs.Taking.{mine_within, store_meets, store_quiet, store_silent}
use Rattle.log_facts.proofs.Written.{IsWritten, written_words}
use Rattle.pass_laws.specs.SafeIn.{SafeBy}
use Rattle.block_taking.specs.declared.taking.Area.{Area}
use Rattle.block_taking.specs.declared.taking.Taking.{Taking}
use Rattle.block_taking.specs.declared.taking.TakeEnd.{TakeEnd}
use Rattle.block_taking.specs.Holdings.{Apart, Owns}
use Rattle.block_taking.specs.Law.{HasTaken}
use Rattle.block_taking.specs.Text.{need, write_words}
use Rattle.block_taking.proofs.Own.{Quietly}

-- others leave what was written
written_since : (s : Setting) (c at : ℕ) (ws : List ℕ) (i : ℕ) → i ≤ length ws → {p q : Past} → Since c p q → Legal s q → Mine s.geometry p c at (length ws) → IsWritten s.geometry p at ws i → IsWritten s.geometry q at ws i
written_since s c at ws i le same l m w = w
written_since s c at ws i le (more {q = q} e b o) l m w = λ j k.
    mine_word s q e l c at (length ws) (at + j) o (kept_since s c (λ z. Mine s.geometry z c at (length ws)) (kept_mine s c at (length ws)) b l.0 m) (omega arith) (omega arith)
    ∙ written_since s c at ws i le b l.0 m w j k

module _ (s : Setting) (c : ℕ) (t : Taking) (most : ℕ) (from : Past) (area : Area) (at left : ℕ) (apart : Apart at (need t) area) (some : 1 ≤ left) (few : left ≤ most) where
  pub write_safe : (n i : ℕ) → i + n ≡ need t → (z : Past) → Legal s z → Owns s c area z → Mine s.geometry z c at (need t) → IsWritten s.geometry z at t.block i
      → SafeBy Quietly s c z (write_words t n i at area left) (λ y e. HasTaken s c t most from y e)
  write_safe zero i e z l ow m w = record {
    owns = ow;
    fewer = few;
    so = (record { mine = m; written = written_words s.geometry z at t.block (λ j k. w j (omega arith)) }, apart, some);
  }
  write_safe (suc n) i e z l ow m w = (
    mine_within s c z l at (need t) (at + i) (slice_index t.block i) m (omega arith) (omega arith),
    λ y ly sy.
        let my = kept_since s c (λ x. Mine s.geometry x c at (need t)) (kept_mine s c at (need t)) sy ly m in
        let oy = kept_since s c (λ x. Owns s c area x) (kept_mine s c area.at area.left) sy ly ow in
        let wy = written_since s c at t.block i (omega arith) sy ly m w in
        let me = store_meets s c y ly at (need t) (at + i) (slice_index t.block i) my (omega arith) (omega arith) in
        let si = store_silent s c y ly at (need t) (at + i) (slice_index t.block i) my (omega arith) (omega arith) in
        let new = change_in s.geometry c y (at + i) (slice_index t.block i) in
        let mo = kept_mine s c at (need t) in
        let ko = kept_mine s c area.at area.left in (
          (me, (si, (store_quiet s c y ly at (need t) (at + i) (slice_index t.block i) my (omega arith) (omega arith), store_mild s c y ly (at + i) (slice_index t.block i) (mine_heap s y ly c at (need t) (at + i) my (omega arith) (omega arith))))),
          write_safe n (i + 1) (omega arith) (new ∷ y) (ly, me) (ko.silent y new (ly, me) si oy) (mo.silent y new (ly, me) si my) (next y wy),
        ),
  )
    where
      next : (y : Past) → IsWritten s.geometry y at t.block i → IsWritten s.geometry (change_in s.geometry c y (at + i) (slice_index t.block i) ∷ y) at t.block (i + 1)
      next y wy j k = ⊎_elim (λ (v : j ≡ i). word_put s.geometry y (change_in s.geometry c y (at + i) (slice_index t.block i)) (at + j) (ap (λ x. at + x) v) ∙ ap (λ x. slice_index t.block x) (sym v))
          (λ (v : j ≢ i). word_kept s.geometry y (change_in s.geometry c y (at + i) (slice_index t.block i)) (at + j) (λ x. v (cancel at j i x)) ∙ wy j (omega arith)) (same_or_not j i)
        where
          cancel : (a j i : ℕ) → a + j ≡ a + i → j ≡ i
          cancel a j i v = omega arith
