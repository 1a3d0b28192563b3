-- Numbers as bytes, and back.
use Rattle.std.specs.Prelude.{◌≡◌, ℕ, zero, suc, ◌+◌, ◌*◌, ◌^◌, ◌<◌, List, [], ◌∷◌, length, drop, slice_index, refl}
use Rattle.std.proofs.Common.{sym, ◌∙◌, ap, subst, inl, inr, arith}
use Rattle.std.proofs.lemmas.List.{take_all, drop_at, get_or-drop}
use Rattle.byteorder.specs.Endian.{little_number, little_bytes}
use Rattle.byteorder.specs.Numbers.{little_number-reads_back, little_from-lt}
use Rattle.kv_block.specs.Bytes.{AreBytes}
use Rattle.kv_block.specs.Packing.{words_of, bytes_of}
use Rattle.kv_block.proofs.Packed.{length-words_of, length-bytes_of, take-bytes_of, IsByteList-from_AreBytes}
use Rattle.race_laws.specs.Standing.{IsIn}

length-eight : (x : ℕ) → length (little_bytes 8 x) ≡ 8
length-eight x = refl

-- the bytes of the numbers of bytes
pub bytes_back : (n : ℕ) (bs : List ℕ) → AreBytes bs → length bs ≡ 8 * n → bs ≡ bytes_of (words_of n bs)
bytes_back n bs h e =
    let a = length-bytes_of (words_of n bs) in
    let b = length-words_of n bs in
    sym (take-bytes_of n bs (IsByteList-from_AreBytes bs h) (omega arith)) ∙ take_all (length bs) (bytes_of (words_of n bs)) (omega arith)

-- a number of eight bytes is below 2^64
pub words_small : (n : ℕ) (bs : List ℕ) → ((k : ℕ) → slice_index bs k < 256) → (x : ℕ) → IsIn x (words_of n bs) → x < 2 ^ 64
words_small zero bs h x i = absurd i
words_small (suc n) bs h x (inl e) = subst (λ v. v < 2 ^ 64) (sym e) (little_from-lt 0 8 bs h)
words_small (suc n) bs h x (inr i) = words_small n (drop 8 bs) (λ k. subst (λ v. v < 256) (sym (get_or-drop 8 bs k 0)) (h (8 + k))) x i

-- two lists of numbers with the same bytes are one
pub numbers_one : (xs ys : List ℕ) → ((x : ℕ) → IsIn x xs → x < 2 ^ 64) → ((y : ℕ) → IsIn y ys → y < 2 ^ 64) → bytes_of xs ≡ bytes_of ys → xs ≡ ys
numbers_one [] [] h k e = refl
numbers_one [] (y ∷ ys) h k e = let a = ap length e in let b = length-bytes_of (y ∷ ys) in absurd (omega arith)
numbers_one (x ∷ xs) [] h k e = let a = ap length e in let b = length-bytes_of (x ∷ xs) in absurd (omega arith)
numbers_one (x ∷ xs) (y ∷ ys) h k e =
    let first : x ≡ y = sym (little_number-reads_back 8 x (bytes_of xs) (h x (inl refl))) ∙ ap (little_number 8) e ∙ little_number-reads_back 8 y (bytes_of ys) (k y (inl refl)) in
    let rest : bytes_of xs ≡ bytes_of ys = sym (drop_at (little_bytes 8 x) (bytes_of xs) 8 (length-eight x)) ∙ ap (drop 8) e ∙ drop_at (little_bytes 8 y) (bytes_of ys) 8 (length-eight y) in
    ap (λ v. v ∷ xs) first ∙ ap (λ v. y ∷ v) (numbers_one xs ys (λ z i. h z (inr i)) (λ z i. k z (inr i)) rest)
