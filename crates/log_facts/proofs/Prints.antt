-- Each slot word has the fingerprint of the key of its block. Of every legal log.
use Rattle.std.specs.Prelude.{◌≡◌, ℕ, [], ◌∷◌, Option, Some}
use Rattle.std.proofs.Common.{sym, ◌∙◌, ap, subst, ⊎_elim}
use Rattle.slot_word.specs.declared.slots.Mark.{Mark}
use Rattle.slot_word.specs.declared.slots.Mark.TheVariants.{Live, Pending, Copied, Moved}
use Rattle.kv_block.specs.Packing.{Pair}
use Rattle.node_words.specs.Addresses.{slot_at}
use Rattle.verb_log.specs.declared.entry.Entry.{Entry}
use Rattle.verb_log.specs.Decoded.{Body, Full, content}
use Rattle.verb_log.specs.Tables.{Past, Before, here, later, word_at, pair_at, role}
use Rattle.race_laws.specs.Setting.{Setting, print_of}
use Rattle.race_laws.specs.Standing.{IsTable, birth_in, place_in, Word}
use Rattle.race_laws.specs.Rows.{IsPlace, IsFresh, CopyRow}
use Rattle.race_laws.specs.Legal.{Legal}
use Rattle.race_laws.proofs.Step.{SlotStep, place, drop, commit, replace, remove, copy, uncopy, flip, settle, clear}
use Rattle.race_laws.proofs.Sound.{Sound}
use Rattle.race_laws.proofs.SoundStep.{sound, sounds, fresh_packs, packs_later, named_at}
use Rattle.race_laws.proofs.RegionsStep.{packs_kept}
use Rattle.race_laws.proofs.Slots.{slot_is, standing_named, full_same}
use Rattle.race_laws.proofs.Frames.{slot_cases}
use Rattle.race_laws.proofs.Splits.{new_table, new_slot}
use Rattle.race_laws.proofs.Opening.{opening_empty_slot}

abbrev Printed : Setting → Body → Pair → Type 0
Printed s b pr = b.print ≡ print_of s pr.key

mark_of : (m n : Mark) (b c : Body) → Full m b ≡ Full n c → m ≡ n
mark_of m n b c h = cc

pairs : {o : Option Pair} {x y : Pair} → o ≡ Some x → o ≡ Some y → x ≡ y
pairs h k = cc

module _ (s : Setting) (q : Past) (e : Entry) (l : Legal s (e ∷ q)) (ih : (x : Past) → Before x q → (t p : ℕ) (mk : Mark) (b : Body) (pr : Pair) → IsTable s.geometry x t → IsPlace s.geometry p → Word s.geometry x mk t p b pr → Printed s b pr) (t p : ℕ) (h : IsTable s.geometry q t) (k : IsPlace s.geometry p) where
  so : Sound s.geometry q
  so = sound s q l.0

  ss : (x : Past) → Before x q → Sound s.geometry x
  ss x b = sounds s x q b l.0

  same_block : (mk m2 : Mark) (b c : Body) (pr : Pair) → place_in s.geometry q t p ≡ Full m2 c → content e.new ≡ Full mk c → content e.new ≡ Full mk b → pair_at s.geometry (e ∷ q) b ≡ Some pr → Printed s b pr
  same_block mk m2 b c pr st n v pk =
      let nm = standing_named s.geometry q so t p m2 c h k st in
      let same = full_same mk mk c b (sym n ∙ v) in
      let pc : pair_at s.geometry q c ≡ Some pr = sym (packs_kept s q e l.1 so ss c nm) ∙ ap (pair_at s.geometry (e ∷ q)) same ∙ pk in
      subst (λ x. Printed s x pr) same (ih q here t p m2 c pr h k (record { stands = st; packs = pc }))

  fresh_print : (mk : Mark) (b c : Body) (pc pr : Pair) → slot_at t p ≡ e.at → IsFresh s q e.client c pc → content e.new ≡ Full mk c → content e.new ≡ Full mk b → pair_at s.geometry (e ∷ q) b ≡ Some pr → Printed s b pr
  fresh_print mk b c pc pr z f n v pk =
      let same = full_same mk mk c b (sym n ∙ v) in
      let on = ap (role s.geometry q) (sym z) ∙ slot_is s.geometry q so t p h k in
      let pair : pc ≡ pr = pairs (fresh_packs s q e l.0 l.1 so ss t p e.client c pc on f) (ap (pair_at s.geometry (e ∷ q)) same ∙ pk) in
      subst (λ x. Printed s x pr) same (subst (Printed s c) pair f.print)

  copy_print : (b : Body) (pr : Pair) → CopyRow s q e t p → content e.new ≡ Full Copied b → pair_at s.geometry (e ∷ q) b ≡ Some pr → Printed s b pr
  copy_print b pr row v pk =
      let wl = row.live in
      let from = ih wl.at wl.before (birth_in s.geometry q t).parent p Live row.body wl.pair wl.table k wl.live in
      let nm = standing_named s.geometry wl.at (ss wl.at wl.before) (birth_in s.geometry q t).parent p Live row.body wl.table k wl.live.stands in
      let pq : pair_at s.geometry q row.body ≡ Some wl.pair = packs_later s wl.before l.0 row.body nm ∙ wl.live.packs in
      let nq = named_at s wl.before l.0 row.body nm in
      let same = full_same Copied Copied row.body b (sym row.word ∙ v) in
      let pair : wl.pair ≡ pr = pairs (packs_kept s q e l.1 so ss row.body nq ∙ pq) (ap (pair_at s.geometry (e ∷ q)) same ∙ pk) in
      subst (λ x. Printed s x pr) same (subst (Printed s row.body) pair from)

  print_changed : (mk : Mark) (b : Body) (pr : Pair) → slot_at t p ≡ e.at → SlotStep s q e t p → content e.new ≡ Full mk b → pair_at s.geometry (e ∷ q) b ≡ Some pr → Printed s b pr
  print_changed mk b pr z (place c i o n row) v pk = let m = mark_of Pending mk row.body b (sym row.word ∙ v) in fresh_print Pending b row.body row.pair pr z row.fresh row.word (v ∙ ap (λ x. Full x b) (sym m)) pk
  print_changed mk b pr z (drop c i o n) v pk = absurd (cc)
  print_changed mk b pr z (commit c i o n row) v pk = let m = mark_of Live mk c b (sym n ∙ v) in same_block Live Pending b c pr (ap (λ x. content (word_at s.geometry q x)) z ∙ o) n (v ∙ ap (λ x. Full x b) (sym m)) pk
  print_changed mk b pr z (replace c d i o n x row) v pk = let m = mark_of Live mk row.new_body b (sym row.word ∙ v) in fresh_print Live b row.new_body row.new_pair pr z row.fresh row.word (v ∙ ap (λ x. Full x b) (sym m)) pk
  print_changed mk b pr z (remove c i o n row) v pk = absurd (cc)
  print_changed mk b pr z (copy c i o n row) v pk = let m = mark_of Copied mk row.body b (sym row.word ∙ v) in copy_print b pr row (v ∙ ap (λ x. Full x b) (sym m)) pk
  print_changed mk b pr z (uncopy c i o n row) v pk = absurd (cc)
  print_changed mk b pr z (flip c i o n row) v pk = let m = mark_of Moved mk c b (sym n ∙ v) in same_block Moved Live b c pr (ap (λ x. content (word_at s.geometry q x)) z ∙ o) n (v ∙ ap (λ x. Full x b) (sym m)) pk
  print_changed mk b pr z (settle c i o n row) v pk = let m = mark_of Live mk c b (sym n ∙ v) in same_block Live Copied b c pr (ap (λ x. content (word_at s.geometry q x)) z ∙ o) n (v ∙ ap (λ x. Full x b) (sym m)) pk
  print_changed mk b pr z (clear c i o n row) v pk = absurd (cc)

  print_step : (mk : Mark) (b : Body) (pr : Pair) → Word s.geometry (e ∷ q) mk t p b pr → Printed s b pr
  print_step mk b pr w = ⊎_elim
      (λ (x : place_in s.geometry (e ∷ q) t p ≡ place_in s.geometry q t p).
      let st = sym x ∙ w.stands in
      let nm = standing_named s.geometry q so t p mk b h k st in
      ih q here t p mk b pr h k (record { stands = st; packs = sym (packs_kept s q e l.1 so ss b nm) ∙ w.packs }))
      (λ x. print_changed mk b pr x.1 x.2 (sym x.0 ∙ w.stands) w.packs)
      (slot_cases s q e l.1 so t h p k)

pub prints : (s : Setting) (q : Past) → Legal s q → (x : Past) → Before x q → (t p : ℕ) (mk : Mark) (b : Body) (pr : Pair) → IsTable s.geometry x t → IsPlace s.geometry p → Word s.geometry x mk t p b pr → Printed s b pr
prints s [] l x here t p mk b pr h k w = let y = opening_empty_slot s.geometry t p h k in let v = w.stands in absurd (cc)
prints s (e ∷ q) l x here t p mk b pr h k w = ⊎_elim
    (λ (y : IsTable s.geometry q t). print_step s q e l (prints s q l.0) t p y k mk b pr w)
    (λ y. let z = ap (λ v. place_in s.geometry (e ∷ q) v p) y.0 ∙ new_slot s q e l.0 l.1 y.1 p k in let v = w.stands in absurd (cc))
    (new_table s q e l.0 l.1 t h)
prints s (e ∷ q) l x (later b2) t p mk b pr h k w = prints s q l.0 x b2 t p mk b pr h k w
