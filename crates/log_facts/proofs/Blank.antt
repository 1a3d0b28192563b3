-- Words that were never taken are 0, and so are those of a take. Of every legal log.
use Rattle.std.specs.Prelude.{◌≡◌, ℕ, ◌+◌, ◌*◌, ◌<◌, ◌≤◌, Bool, true, false, [], ◌∷◌, refl}
use Rattle.std.proofs.Common.{sym, ◌∙◌, ap, subst, arith, ⊎_elim}
use Rattle.node_words.specs.declared.geometry.Geometry.{Geometry}
use Rattle.node_words.specs.Addresses.{node_size, node_of, node_at}
use Rattle.node_words.specs.Roles.{HeapWord, role_in}
use Rattle.node_words.specs.Opening.{role_word, opening_word}
use Rattle.verb_log.specs.Tables.{Past, word_at, role, is_taken}
use Rattle.race_laws.specs.Setting.{Setting, base}
use Rattle.race_laws.specs.Legal.{Legal}
use Rattle.race_laws.proofs.Touch.{touched, taken_stays, word_kept}
use Rattle.race_laws.proofs.Regions.{base_from, heap_none, heap_word, node_between, node_end}
use Rattle.race_laws.proofs.Sound.{judged_is, Sound, table_none}
use Rattle.race_laws.proofs.SoundStep.{sound}
use Rattle.log_facts.specs.Since.{change_in}

untaken : (x : Bool) → (x ≡ true → ⊥) → x ≡ false
untaken true h = absurd (h refl)
untaken false h = refl

opening_blank : (g : Geometry) (x : ℕ) → base g (node_of g x) ≤ x → word_at g [] x ≡ 0
unfolding opening_word
opening_blank g x h = ap (λ o. role_word g (role_in g x o)) (heap_none g x h) ∙ ap (role_word g) (heap_word g x h)

-- a word that was never taken is 0
pub blank : (s : Setting) (q : Past) → Legal s q → (x : ℕ) → base s.geometry (node_of s.geometry x) ≤ x → is_taken s.geometry q x ≡ false → word_at s.geometry q x ≡ 0
blank s [] l x h n = opening_blank s.geometry x h
blank s (e ∷ q) l x h n = ⊎_elim (λ (y : word_at s.geometry (e ∷ q) x ≡ word_at s.geometry q x). y ∙ blank s q l.0 x h old)
    (λ y. let z = ap (is_taken s.geometry q) y.0 ∙ y.1.0 in let o = old in absurd (cc)) (touched s q e x HeapWord l.1 (judged_is s.geometry q so x ∙ heap))
  where
    old : is_taken s.geometry q x ≡ false
    old = untaken (is_taken s.geometry q x) (λ z. let y = taken_stays s.geometry q e x z in cc)

    so : Sound s.geometry q
    so = sound s q l.0

    heap : role s.geometry q x ≡ HeapWord
    heap = ap (role_in s.geometry x) (table_none s.geometry q so x (heap_none s.geometry x h) (λ z. let y = so.published x z in let o = old in cc)) ∙ heap_word s.geometry x h

-- so the words of a take are 0
pub taken_blank : (s : Setting) (c : ℕ) (q : Past) → Legal s q → (k n step : ℕ) → k < s.geometry.nodes → word_at s.geometry q (node_at s.geometry k) ≡ n → n + step ≤ (k + 1) * node_size s.geometry → (x : ℕ) → n ≤ x → x < n + step → word_at s.geometry (change_in s.geometry c q (node_at s.geometry k) (n + step) ∷ q) x ≡ 0
taken_blank s c q l k n step low now room x h m =
    let so = sound s q l in
    let from = so.next_from k low in
    let end = node_end s.geometry k in
    let node = node_between s.geometry k x (omega arith) (omega arith) in
    let b = base_from s.geometry k in
    let high : base s.geometry (node_of s.geometry x) ≤ x = subst (λ j. base s.geometry j ≤ x) (sym node) (omega arith) in
    word_kept s.geometry q (change_in s.geometry c q (node_at s.geometry k) (n + step)) x (λ (z : x ≡ node_at s.geometry k). omega arith)
    ∙ blank s q l x high (untaken (is_taken s.geometry q x) (λ z. let t = so.taken x z in let to = subst (λ j. x < word_at s.geometry q (node_at s.geometry j)) node t.to in omega arith))
