-- The words from a node's next word on are the opening's, so an image keeps all words of a legal log.
use Rattle.std.specs.Prelude.{◌≡◌, ◌≢◌, ℕ, ◌<◌, ◌≤◌, Bool, true, false, cond, nat_lt, [], ◌∷◌, Option, Some, None, refl}
use Rattle.std.proofs.Common.{sym, ◌∙◌, ap, subst, arith, ⊎_elim}
use Rattle.std.proofs.lemmas.Bool.{cases_lt}
use Rattle.std.proofs.lemmas.Bool.Decides.{nat_tests}
use Rattle.node_words.specs.declared.geometry.Geometry.{Geometry}
use Rattle.node_words.specs.Addresses.{node_of, node_at}
use Rattle.node_words.specs.Opening.{opening_word}
use Rattle.node_words.specs.Roles.{NextWord, HeapWord, role_in}
use Rattle.node_words.proofs.Sizes.{node_below}
use Rattle.node_words.proofs.FirstTables.{IsInFirst, first_is}
use Rattle.verb_log.specs.declared.entry.Entry.{Entry}
use Rattle.verb_log.specs.Tables.{Past, word_at, table_of, role, is_published}
use Rattle.race_laws.specs.Setting.{Setting, base}
use Rattle.race_laws.specs.Legal.{Legal}
use Rattle.race_laws.proofs.Step.{StepAt, step_of}
use Rattle.race_laws.proofs.Touch.{word_kept, word_put, touched}
use Rattle.race_laws.proofs.Regions.{heap_none, heap_word}
use Rattle.race_laws.proofs.Sound.{judged_is, Sound, next_is}
use Rattle.race_laws.proofs.SoundStep.{sound}
use Rattle.image_laws.specs.Imaged.{imaged}

module _ (s : Setting) (q : Past) (e : Entry) (l : Legal s (e ∷ q)) where
  so : Sound s.geometry q
  so = sound s q l.0

  -- a next word never falls
  grows : (k : ℕ) → k < s.geometry.nodes → word_at s.geometry q (node_at s.geometry k) ≤ word_at s.geometry (e ∷ q) (node_at s.geometry k)
  grows k h = ⊎_elim (λ (x : word_at s.geometry (e ∷ q) (node_at s.geometry k) ≡ word_at s.geometry q (node_at s.geometry k)). omega arith)
      (λ x. let a = word_put s.geometry q e (node_at s.geometry k) x.0 in let b = ap (word_at s.geometry q) x.0 in let c = x.1.0 in omega arith)
      (touched s q e (node_at s.geometry k) (NextWord k) l.1 (judged_is s.geometry q so (node_at s.geometry k) ∙ next_is s.geometry q so k h))

  -- an entry is on no word from the next word on
  apart : (a : ℕ) → node_of s.geometry a < s.geometry.nodes → word_at s.geometry q (node_at s.geometry (node_of s.geometry a)) ≤ a → a ≢ e.at
  apart a h n z = by (table_of s.geometry q a) refl
    where
      from : base s.geometry (node_of s.geometry a) ≤ a
      from = let x = so.next_from (node_of s.geometry a) h in omega arith

      not_taken : (a2 : ℕ) → a2 ≡ a → a < word_at s.geometry q (node_at s.geometry (node_of s.geometry a)) → ⊥
      not_taken a2 e t = omega arith

      by : (o : Option ℕ) → table_of s.geometry q a ≡ o → ⊥
      by (Some t) f = ⊎_elim (λ (x : IsInFirst s.geometry a t). let y = first_is s.geometry a t x in let v = heap_none s.geometry a from in absurd (cc))
          (λ (x : is_published s.geometry q a ≡ true). let t = so.taken a (so.published a x) in let u = t.to in omega arith) (so.tables a t f).2
      by None f =
          let r : role s.geometry q e.at ≡ HeapWord = ap (role s.geometry q) (sym z) ∙ ap (role_in s.geometry a) f ∙ heap_word s.geometry a from in
          let st = subst (StepAt s q e) (judged_is s.geometry q so e.at ∙ r) (step_of s q e l.1) in
          let t = so.taken e.at st.0 in
          let u : a < word_at s.geometry q (node_at s.geometry (node_of s.geometry a)) = subst (λ v. v < word_at s.geometry q (node_at s.geometry (node_of s.geometry v))) (sym z) t.to in
          omega arith

-- from the next word on
pub beyond : (s : Setting) (q : Past) → Legal s q → (a : ℕ) → node_of s.geometry a < s.geometry.nodes → word_at s.geometry q (node_at s.geometry (node_of s.geometry a)) ≤ a → word_at s.geometry q a ≡ opening_word s.geometry a
beyond s [] l a h n = refl
beyond s (e ∷ q) l a h n =
    let g = grows s q e l (node_of s.geometry a) h in
    let m : word_at s.geometry q (node_at s.geometry (node_of s.geometry a)) ≤ a = omega arith in
    word_kept s.geometry q e a (apart s q e l a h m) ∙ beyond s q l.0 a h m

-- and past the last node
pub outside : (s : Setting) (q : Past) → Legal s q → (a : ℕ) → s.geometry.words ≤ a → word_at s.geometry q a ≡ opening_word s.geometry a
outside s [] l a h = refl
outside s (e ∷ q) l a h = word_kept s.geometry q e a (λ z. let w = l.1.within in omega arith) ∙ outside s q l.0 a h

-- an image keeps all words of a legal log
pub image_keeps : (s : Setting) (q : Past) → Legal s q → (a : ℕ) → imaged s.geometry (word_at s.geometry q) a ≡ word_at s.geometry q a
image_keeps s q l a = by (nat_lt a (word_at s.geometry q (node_at s.geometry (node_of s.geometry a)))) refl
  where
    not_less : (x y : ℕ) → nat_lt x y ≡ false → y ≤ x
    not_less x y h = grind (arith, nat_tests)

    by : (v : Bool) → nat_lt a (word_at s.geometry q (node_at s.geometry (node_of s.geometry a))) ≡ v → cond v (word_at s.geometry q a) (opening_word s.geometry a) ≡ word_at s.geometry q a
    by true e = refl
    by false e = ⊎_elim (λ (x : node_of s.geometry a < s.geometry.nodes). sym (beyond s q l a x (not_less a _ e)))
        (λ (x : s.geometry.nodes ≤ node_of s.geometry a). sym (outside s q l a (past s.geometry a x))) (cases_lt (node_of s.geometry a) s.geometry.nodes)
      where
        past : (g : Geometry) (a : ℕ) → g.nodes ≤ node_of g a → g.words ≤ a
        past g a h = ⊎_elim (λ (x : a < g.words). let y = node_below g a x in absurd (omega arith)) (λ (x : g.words ≤ a). x) (cases_lt a g.words)
