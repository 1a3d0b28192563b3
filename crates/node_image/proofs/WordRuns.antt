-- The words from an address on, and what an entry of a log puts among them.
use Rattle.std.specs.Prelude.{◌≡◌, ◌≢◌, ℕ, zero, suc, ◌+◌, ◌-◌, ◌<◌, ◌≤◌, ◌==◌, cond, List, [], ◌∷◌, ◌++◌, length, reverse, take, slice_get, slice_set, slice_index, Some, ◌⊎◌, refl}
use Rattle.std.proofs.Common.{sym, ◌∙◌, ap, inl, inr, arith}
use Rattle.std.proofs.lemmas.Bool.Decides.{nat_tests}
use Rattle.std.proofs.lemmas.List.{take_all}
use Rattle.node_words.specs.declared.geometry.Geometry.{Geometry}
use Rattle.verb_log.specs.declared.entry.Entry.{Entry}
use Rattle.verb_log.specs.Tables.{word_at}
use Rattle.verb_log.proofs.Positions.{position_next}
use Rattle.image_laws.specs.Walk.{Words}
use Rattle.image_laws.specs.Sound.{words_from}
use Rattle.image_laws.specs.Laws.{words_after}

pub length_from : (w : Words) (a n : ℕ) → length (words_from w a n) ≡ n
length_from w a zero = refl
length_from w a (suc n) = let e = length_from w (suc a) n in omega arith

pub get_from : (w : Words) (a n i : ℕ) → i < n → slice_get (words_from w a n) i ≡ Some (w (a + i))
get_from w a zero i h = absurd (omega arith)
get_from w a (suc n) zero h = ap (λ v. Some (w v)) (plus a)
  where
    plus : (a : ℕ) → a ≡ a + 0
    plus a = omega arith
get_from w a (suc n) (suc i) h = get_from w (suc a) n i (omega arith) ∙ ap (λ v. Some (w v)) (plus a i)
  where
    plus : (a i : ℕ) → suc a + i ≡ a + suc i
    plus a i = omega arith

pub first_from : (w : Words) (a n : ℕ) → 1 ≤ n → slice_index (words_from w a n) 0 ≡ w a
first_from w a zero h = absurd (omega arith)
first_from w a (suc n) h = refl

pub from_more : (w : Words) (a n x : ℕ) → x ≡ w (a + n) → words_from w a (n + 1) ≡ words_from w a n ++ x ∷ []
from_more w a n x e = ap (words_from w a) (one n) ∙ by a n x e
  where
    one : (n : ℕ) → n + 1 ≡ suc n
    one n = omega arith

    zero_plus : (a : ℕ) → a + 0 ≡ a
    zero_plus a = omega arith

    suc_plus : (a n : ℕ) → a + suc n ≡ suc a + n
    suc_plus a n = omega arith

    by : (a n x : ℕ) → x ≡ w (a + n) → words_from w a (suc n) ≡ words_from w a n ++ x ∷ []
    by a zero x e = ap (λ v. v ∷ []) (sym (e ∙ ap w (zero_plus a)))
    by a (suc n) x e = ap (λ v. w a ∷ v) (by (suc a) n x (e ∙ ap w (suc_plus a n)))

-- the words with another one at an address
abbrev pub with_word : Words → ℕ → ℕ → Words
with_word w at x a = cond (a == at) x (w a)

here : (w : Words) (at x a : ℕ) → a ≡ at → with_word w at x a ≡ x
here w at x a e = grind (arith, nat_tests)

elsewhere : (w : Words) (at x a : ℕ) → a ≢ at → with_word w at x a ≡ w a
elsewhere w at x a n = grind (arith, nat_tests)

put_outside : (w : Words) (a n at x : ℕ) → (at < a) ⊎ (a + n ≤ at) → words_from w a n ≡ words_from (with_word w at x) a n
put_outside w a zero at x h = refl
put_outside w a (suc n) at x (inl h) = ap (λ v. v ∷ words_from w (suc a) n) (sym (elsewhere w at x a (λ e. omega arith))) ∙ ap (λ v. with_word w at x a ∷ v) (put_outside w (suc a) n at x (inl (omega arith)))
put_outside w a (suc n) at x (inr h) = ap (λ v. v ∷ words_from w (suc a) n) (sym (elsewhere w at x a (λ e. omega arith))) ∙ ap (λ v. with_word w at x a ∷ v) (put_outside w (suc a) n at x (inr (omega arith)))

put_inside : (w : Words) (a n k at x : ℕ) → at ≡ a + k → k < n → slice_set (words_from w a n) k x ≡ words_from (with_word w at x) a n
put_inside w a zero k at x e h = absurd (omega arith)
put_inside w a (suc n) zero at x e h = ap (λ v. v ∷ words_from w (suc a) n) (sym (here w at x a (omega arith))) ∙ ap (λ v. with_word w at x a ∷ v) (put_outside w (suc a) n at x (inl (omega arith)))
put_inside w a (suc n) (suc k) at x e h = ap (λ v. v ∷ slice_set (words_from w (suc a) n) k x) (sym (elsewhere w at x a (λ z. omega arith))) ∙ ap (λ v. with_word w at x a ∷ v) (put_inside w (suc a) n k at x (omega arith) (omega arith))

-- what an entry puts among words of a memory
pub put_low : (w : Words) (a at x : ℕ) (old : List ℕ) → at < a → old ≡ words_from w a (length old) → old ≡ words_from (with_word w at x) a (length old)
put_low w a at x old h e = e ∙ put_outside w a (length old) at x (inl h)

pub put_high : (w : Words) (a at x : ℕ) (old : List ℕ) → a ≤ at → length old ≤ at - a → old ≡ words_from w a (length old) → old ≡ words_from (with_word w at x) a (length old)
put_high w a at x old l h e = e ∙ put_outside w a (length old) at x (inr (omega arith))

pub put_among : (w : Words) (a at x : ℕ) (old : List ℕ) → a ≤ at → at - a < length old → old ≡ words_from w a (length old) → slice_set old (at - a) x ≡ words_from (with_word w at x) a (length old)
put_among w a at x old l h e = ap (λ v. slice_set v (at - a) x) e ∙ put_inside w a (length old) (at - a) at x (omega arith) h

-- the words after a part of a log
abbrev pub Replayed : Geometry → List Entry → ℕ → ℕ → List ℕ → Type 0
Replayed g log n a words = words ≡ words_from (word_at g (reverse (take n log))) a (length words)

pub replayed_more : (g : Geometry) (log : List Entry) (n a : ℕ) (e : Entry) (old new : List ℕ) → slice_get log n ≡ Some e → length new ≡ length old → Replayed g log n a old → ((w : Words) → old ≡ words_from w a (length old) → new ≡ words_from (with_word w e.at e.new) a (length old)) → Replayed g log (n + 1) a new
replayed_more g log n a e old new there same h f =
    f (word_at g (reverse (take n log))) h ∙ ap (λ q. words_from (word_at g q) a (length old)) (sym (position_next log n e there)) ∙ ap (words_from (word_at g (reverse (take (n + 1) log))) a) (sym same)

pub replayed_all : (g : Geometry) (log : List Entry) (n a : ℕ) (words : List ℕ) → length log ≤ n → Replayed g log n a words → words ≡ words_from (words_after g log) a (length words)
replayed_all g log n a words l h = h ∙ ap (λ q. words_from (word_at g (reverse q)) a (length words)) (take_all n log l)
