-- A block that was moved at a place is never live there again: kept by every legal entry.
use Rattle.std.specs.Prelude.{◌≡◌, ◌≢◌, ℕ, ◌+◌, ◌<◌, Bool, false, ◌∷◌, ◌⊎◌}
use Rattle.std.proofs.Common.{sym, ◌∙◌, ap, subst, inl, inr, arith, ⊎_elim}
use Rattle.slot_word.specs.declared.slots.Mark.{Mark}
use Rattle.slot_word.specs.declared.slots.Mark.TheVariants.{Live, Pending, Copied, Moved}
use Rattle.kv_block.specs.Packing.{Pair}
use Rattle.node_words.specs.Addresses.{slot_at}
use Rattle.verb_log.specs.declared.entry.Entry.{Entry}
use Rattle.verb_log.specs.Decoded.{Body, Full, content}
use Rattle.verb_log.specs.Tables.{Past, Before, here, later, word_at, is_published}
use Rattle.race_laws.specs.Setting.{Setting}
use Rattle.race_laws.specs.Standing.{IsTable, header_in, place_in, IsFilling}
use Rattle.race_laws.specs.Rows.{IsPlace, IsFresh}
use Rattle.race_laws.specs.Legal.{Legal}
use Rattle.race_laws.proofs.Positions.{legal_before}
use Rattle.race_laws.proofs.Step.{SlotStep, place, drop, commit, replace, remove, copy, uncopy, flip, settle, clear}
use Rattle.race_laws.specs.Named.{Named}
use Rattle.race_laws.proofs.Sound.{Sound}
use Rattle.race_laws.proofs.SoundStep.{sound, named_at}
use Rattle.race_laws.proofs.Touch.{word_put}
use Rattle.race_laws.proofs.Covers.{table_before}
use Rattle.race_laws.proofs.Slots.{standing_named, full_same}
use Rattle.race_laws.proofs.Frames.{slot_cases}
use Rattle.race_laws.proofs.Finality.{ripe_before}
use Rattle.race_laws.proofs.Pending.{some_words}
use Rattle.race_laws.proofs.Candidates.{moved_splits}
use Rattle.race_laws.proofs.Clear.{copy_fills}

-- no word of the block stands at the place
abbrev pub Without : Setting → Past → ℕ → ℕ → Body → Type 0
Without s q t p b = (m : Mark) → place_in s.geometry q t p ≢ Full m b

-- a table with a moved word does not fill
pub moved_ripe : (s : Setting) (q : Past) → Legal s q → (t p : ℕ) (b : Body) → IsTable s.geometry q t → IsPlace s.geometry p → place_in s.geometry q t p ≡ Full Moved b → IsFilling (header_in s.geometry q t) → ⊥
moved_ripe s q l t p b h k w f =
    let n = standing_named s.geometry q (sound s q l) t p Moved b h k w in
    let x = moved_splits s q l t p b n.pair h k (record { stands = w; packs = n.packs }) in
    subst IsFilling x.2 f

module _ (s : Setting) (x : Past) (lx : Legal s x) (t p : ℕ) (b : Body) (tx : IsTable s.geometry x t) (k : IsPlace s.geometry p) (mx : place_in s.geometry x t p ≡ Full Moved b) (q : Past) (e : Entry) (l : Legal s (e ∷ q)) (bf : Before x q) where
  so : Sound s.geometry q
  so = sound s q l.0

  tq : IsTable s.geometry q t
  tq = table_before s.geometry bf t t tx

  nm : Named s.geometry q b
  nm = named_at s bf l.0 b (standing_named s.geometry x (sound s x lx) t p Moved b tx k mx)

  ripe : IsFilling (header_in s.geometry q t) → ⊥
  ripe = ripe_before s bf l.0 t tx (moved_ripe s x lx t p b tx k mx)

  mark_is : (m n : Mark) (c d : Body) → Full m c ≡ Full n d → m ≡ n
  mark_is m n c d h = cc

  -- a fresh block is another one
  abbrev Pub : Body → Bool
  Pub v = is_published s.geometry q v.at

  not_fresh : (c : Body) (pr : Pair) → IsFresh s q e.client c pr → c ≡ b → ⊥
  not_fresh c pr f same =
      let some = some_words s.geometry q b nm.pair nm.packs in
      let y = nm.published b.at (omega arith) (omega arith) in
      let z : Pub b ≡ false = subst (λ (v : Body). Pub v ≡ false) same (f.unpublished c.at (omega arith) (subst (λ (v : Body). c.at < c.at + v.length) (sym same) (omega arith))) in
      cc

  same_block : (m : Mark) (c : Body) → slot_at t p ≡ e.at → content (word_at s.geometry q e.at) ≡ Full m c → (place_in s.geometry q t p ≡ Full Moved b) ⊎ Without s q t p b → m ≢ Moved → c ≡ b → ⊥
  same_block m c a o ih n same =
      let st : place_in s.geometry q t p ≡ Full m c = ap (λ v. content (word_at s.geometry q v)) a ∙ o in
      ⊎_elim (λ (y : place_in s.geometry q t p ≡ Full Moved b). n (mark_is m Moved c b (sym st ∙ y))) (λ f. f m (st ∙ ap (Full m) same)) ih

  changed : slot_at t p ≡ e.at → SlotStep s q e t p → (place_in s.geometry q t p ≡ Full Moved b) ⊎ Without s q t p b → (m : Mark) → content e.new ≡ Full m b → ⊥
  changed a (place c i o n row) ih m w = not_fresh row.body row.pair row.fresh (full_same Pending m row.body b (sym row.word ∙ w))
  changed a (drop c i o n) ih m w = cc
  changed a (commit c i o n row) ih m w = same_block Pending c a o ih (λ z. cc) (full_same Live m c b (sym n ∙ w))
  changed a (replace c d i o n y row) ih m w = not_fresh row.new_body row.new_pair row.fresh (full_same Live m row.new_body b (sym row.word ∙ w))
  changed a (remove c i o n row) ih m w = cc
  changed a (copy c i o n row) ih m w = ripe_before s (later {e = e} bf) l t tx (moved_ripe s x lx t p b tx k mx)
      (copy_fills s (e ∷ q) l t p c (table_before s.geometry (later {e = e} bf) t t tx) k (ap content (word_put s.geometry q e (slot_at t p) a) ∙ n))
  changed a (uncopy c i o n row) ih m w = cc
  changed a (flip c i o n row) ih m w = same_block Live c a o ih (λ z. cc) (full_same Moved m c b (sym n ∙ w))
  changed a (settle c i o n row) ih m w = same_block Copied c a o ih (λ z. cc) (full_same Live m c b (sym n ∙ w))
  changed a (clear c i o n row) ih m w = cc

  step : (place_in s.geometry q t p ≡ Full Moved b) ⊎ Without s q t p b → (place_in s.geometry (e ∷ q) t p ≡ Full Moved b) ⊎ Without s (e ∷ q) t p b
  step ih = ⊎_elim (λ (y : place_in s.geometry (e ∷ q) t p ≡ place_in s.geometry q t p). ⊎_elim (λ (z : place_in s.geometry q t p ≡ Full Moved b). inl (y ∙ z)) (λ f. inr (λ m w. f m (sym y ∙ w))) ih)
      (λ y. inr (λ m w. changed y.1 y.2 ih m (sym y.0 ∙ w))) (slot_cases s q e l.1 so t tq p k)

-- once moved, the block is moved there or does not stand there
pub moved_or_without : (s : Setting) {x q : Past} → Before x q → Legal s q → (t p : ℕ) (b : Body) → IsTable s.geometry x t → IsPlace s.geometry p → place_in s.geometry x t p ≡ Full Moved b → (place_in s.geometry q t p ≡ Full Moved b) ⊎ Without s q t p b
moved_or_without s here l t p b h k m = inl m
moved_or_without s {x = x} (later {q = q} {e = e} bf) l t p b h k m = step s x (legal_before s bf l.0) t p b h k m q e l bf (moved_or_without s bf l.0 t p b h k m)

pub never_live : (s : Setting) {x q : Past} → Before x q → Legal s q → (t p : ℕ) (b : Body) → IsTable s.geometry x t → IsPlace s.geometry p → place_in s.geometry x t p ≡ Full Moved b → place_in s.geometry q t p ≢ Full Live b
never_live s bf l t p b h k m w = ⊎_elim (λ y. cc) (λ f. f Live w) (moved_or_without s bf l t p b h k m)
