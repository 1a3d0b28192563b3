-- What is read of the words of a pair's block.
use Rattle.std.proofs.Common.{◌≡◌, ℕ, ◌*◌, ◌≤◌, Bool, true, false, ◌&&◌, List, length, take, drop, slice_index, refl, sym, ap, ◌∙◌, nat_eq, nat_lt, arith}
use Rattle.std.specs.Prelude.{nat_le}
use Rattle.std.proofs.lemmas.List.{take_at}
use Rattle.std.proofs.lemmas.Bool.Decides.{nat_tests}
use Rattle.std.proofs.lemmas.Slice.Eq.{bytes_eq-Decides}
use Rattle.kv_block.specs.Bytes.{IsKeyLength, IsValueLength, AreBytes}
use Rattle.kv_block.specs.Packing.{Pair, IsPair, words_for, words_of, bytes_of, key_length, value_length, block_length, packed}
use Rattle.kv_block.specs.Reading.{has_key, has_shape, block_value, block_key}
use Rattle.kv_block.proofs.Packed.{IsByteList-from_AreBytes, length-words_of, take-bytes_of, length-packed, first-packed, key_length-first_word, HasShape-packed, value_in-packed, key_in-packed}

-- words that have the shape pass its test
shaped : (first : ℕ) (ws : List ℕ) → IsKeyLength (key_length first) → IsValueLength (value_length first) → length ws ≡ block_length first → has_shape first ws ≡ true
shaped first ws k v n =
    let a : nat_le 1 (key_length first) ≡ true = let l = k.least in grind (arith, nat_tests) in
    let b : nat_le (key_length first) 64 ≡ true = let l = k.most in grind (arith, nat_tests) in
    let c : nat_le (value_length first) 1024 ≡ true = grind (arith, nat_tests) in
    let d : nat_eq (length ws) (block_length first) ≡ true = grind (arith, nat_tests) in
    rw (a, b, c, d) refl

-- the value that a pair's block tells is the pair's
pub block_value-packed : (p : Pair) → IsPair p → block_value (packed p.key p.value) ≡ p.value
unfolding block_value
block_value-packed p h =
    let ws = packed p.key p.value in
    let s = HasShape-packed p h in
    rw (shaped (slice_index ws 0) ws s.key s.value s.count) (value_in-packed p h ws refl)

and_three : (a b c : Bool) → (a && b && c) ≡ true → (b ≡ true) × (c ≡ true)
and_three true true true e = (refl, refl)
and_three true true false e = absurd (cc)
and_three true false c e = absurd (cc)
and_three false b c e = absurd (cc)

same_number : (x y : ℕ) → nat_eq x y ≡ true → x ≡ y
same_number x y e = grind (arith, nat_tests)

-- the words of a key behind the first word
key_words-packed : (k v : List ℕ) → take (words_for (length k)) (drop 1 (packed k v)) ≡ words_of (words_for (length k)) k
unfolding packed
key_words-packed k v = take_at (words_of (words_for (length k)) k) _ _ (length-words_of (words_for (length k)) k)

same_key : (a b : List ℕ) → AreBytes a → AreBytes b → length a ≡ length b → words_of (words_for (length a)) a ≡ words_of (words_for (length a)) b → a ≡ b
same_key a b ha hb n e =
    let l : length a ≤ 8 * words_for (length a) = omega arith in
    let m : length b ≤ 8 * words_for (length a) = omega (arith, n) in
    sym (take-bytes_of (words_for (length a)) a (IsByteList-from_AreBytes a ha) l)
    ∙ (λ i. take (n i) (bytes_of (e i)))
    ∙ take-bytes_of (words_for (length a)) b (IsByteList-from_AreBytes b hb) m

-- a pair's block that is one of a key has this key
pub key_of-packed : (p : Pair) → IsPair p → (k : List ℕ) → AreBytes k → has_key (packed p.key p.value) k ≡ true → p.key ≡ k
unfolding has_key
key_of-packed p h k bytes e =
    let ws = packed p.key p.value in
    let both = and_three _ _ _ e in
    let len : length p.key ≡ length k = sym (key_length-first_word (length p.key) (length p.value) h.key_length) ∙ ap key_length (sym (first-packed p.key p.value)) ∙ same_number _ _ both.0 in
    let words : take (words_for (length k)) (drop 1 ws) ≡ words_of (words_for (length k)) k = (bytes_eq-Decides _ _).0 both.1 in
    let of_p : take (words_for (length k)) (drop 1 ws) ≡ words_of (words_for (length p.key)) p.key = ap (λ (n : ℕ). take (words_for n) (drop 1 ws)) (sym len) ∙ key_words-packed p.key p.value in
    same_key p.key k h.key_bytes bytes len (sym of_p ∙ words ∙ ap (λ (n : ℕ). words_of (words_for n) k) (sym len))

-- and it is one of the pair's key
pub has_key-packed : (p : Pair) → IsPair p → has_key (packed p.key p.value) p.key ≡ true
unfolding has_key
has_key-packed p h =
    let ws = packed p.key p.value in
    let n = length-packed p.key p.value in
    let k = h.key_length.least in
    let a : nat_lt (words_for (length p.key)) (length ws) ≡ true = grind (arith, nat_tests, n) in
    let first : key_length (slice_index ws 0) ≡ length p.key = ap key_length (first-packed p.key p.value) ∙ key_length-first_word (length p.key) (length p.value) h.key_length in
    let b : nat_eq (key_length (slice_index ws 0)) (length p.key) ≡ true = grind (arith, nat_tests, first) in
    let c = (bytes_eq-Decides (take (words_for (length p.key)) (drop 1 ws)) (words_of (words_for (length p.key)) p.key)).1 (key_words-packed p.key p.value) in
    rw (a, b, c) refl

-- the key that a pair's block tells is the pair's
pub block_key-packed : (p : Pair) → IsPair p → block_key (packed p.key p.value) ≡ p.key
unfolding block_key
block_key-packed p h =
    let ws = packed p.key p.value in
    let s = HasShape-packed p h in
    rw (shaped (slice_index ws 0) ws s.key s.value s.count) (key_in-packed p h ws refl)
