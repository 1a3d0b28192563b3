-- Packing and unpacking undo each other.
use Rattle.std.proofs.Common.{◌≡◌, ◌≢◌, ℕ, zero, suc, ◌+◌, ◌-◌, ◌*◌, ◌/◌, ◌%◌, ◌^◌, ◌<◌, ◌≤◌, Bool, true, false, cond, ◌&&◌, List, [], ◌∷◌, ◌++◌, length, take, drop, get_or, slice_index, Option, Some, None, refl, sym, ap, ◌∙◌, subst, inl, inr, nat_eq, arith}
use Rattle.std.proofs.Math.Nat.{pow-succ', div-div-eq-div-mul}
use Rattle.std.proofs.lemmas.Bool.{cases_lt}
use Rattle.std.proofs.lemmas.Slice.{between_to_end}
use Rattle.std.proofs.lemmas.List.{get_or_append_left, get_or-append_right, get_or-drop, get_or-take, length-append, length-take-le, get_or_past, take_at, drop_at, ext_get_or}
use Rattle.std.proofs.lemmas.Bool.Decides.{nat_tests}
use Rattle.std.specs.Cmp.Lexicographic.{pointwise, nat_list_eq_equiv}
use Rattle.std.proofs.lemmas.Slice.Eq.{bytes_eq-Decides}
use Rattle.std.proofs.lemmas.List.Elements.{All-append, All-take}
use Rattle.std.specs.List.{between}
use Rattle.std.specs.Int.{byte_at, bytes_low_first}
use Rattle.byteorder.specs.Endian.{little_from, little_number, little_bytes}
use Rattle.kv_block.specs.Bytes.{IsKeyLength, IsValueLength, AreBytes}
use Rattle.kv_block.specs.Packing.{Pair, IsPair, words_for, words_of, bytes_of, first_word, key_length, value_length, block_length, packed, pair_in, is_pair, if_packed, unpacked, HasShape}

-- each number of a list is a byte
abbrev pub IsByteList : List ℕ → Type 0
IsByteList xs = (k : ℕ) → get_or xs k 0 < 256

byte_at-pow : (k x : ℕ) → byte_at k x ≡ x / 256 ^ k % 256
byte_at-pow zero x = omega arith
byte_at-pow (suc k) x = refl

-- a byte above the lowest, of a number by its lowest byte
byte_at-above : (k b y : ℕ) → b < 256 → byte_at (suc k) (b + 256 * y) ≡ byte_at k y
byte_at-above k b y h =
    let rest : (b + 256 * y) / 256 ≡ y = omega arith in
    let two : (b + 256 * y) / 256 ^ suc k ≡ (b + 256 * y) / 256 / 256 ^ k = ap (λ (p : ℕ). (b + 256 * y) / p) (pow-succ' 256 k) ∙ sym (div-div-eq-div-mul (b + 256 * y) 256 (256 ^ k)) in
    ap (λ (q : ℕ). q % 256) (two ∙ ap (λ (q : ℕ). q / 256 ^ k) rest) ∙ sym (byte_at-pow k y)

-- the bytes above the lowest, of a number by its lowest byte
bytes_above : (n i b y : ℕ) → b < 256 → bytes_low_first (suc i) n (b + 256 * y) ≡ bytes_low_first i n y
bytes_above zero i b y h = refl
bytes_above (suc n) i b y h = λ j. byte_at-above i b y h j ∷ bytes_above n (suc i) b y h j

-- the n numbers of a list from place i on
abbrev numbers_at : ℕ → ℕ → List ℕ → List ℕ
numbers_at i zero xs = []
numbers_at i (suc n) xs = get_or xs i 0 ∷ numbers_at (suc i) n xs

get_or-numbers_at : (n i k : ℕ) (xs : List ℕ) → k < n → get_or (numbers_at i n xs) k 0 ≡ get_or xs (i + k) 0
get_or-numbers_at zero i k xs h = absurd (omega arith)
get_or-numbers_at (suc n) i zero xs h = ap (λ (j : ℕ). get_or xs j 0) (omega arith)
get_or-numbers_at (suc n) i (suc k) xs h = get_or-numbers_at n (suc i) k xs (omega arith) ∙ ap (λ (j : ℕ). get_or xs j 0) (omega arith)

-- the bytes of a number that was made of bytes
bytes_of_number : (n i : ℕ) (xs : List ℕ) → IsByteList xs → bytes_low_first 0 n (little_from i n xs) ≡ numbers_at i n xs
bytes_of_number zero i xs h = refl
bytes_of_number (suc n) i xs h =
    let b = h i in
    let low : (get_or xs i 0 + 256 * little_from (suc i) n xs) % 256 ≡ get_or xs i 0 = omega arith in
    let above = bytes_above n 0 (get_or xs i 0) (little_from (suc i) n xs) b ∙ bytes_of_number n (suc i) xs h in
    λ j. low j ∷ above j

get_or-little_bytes : (k : ℕ) (xs : List ℕ) → IsByteList xs → k < 8 → get_or (little_bytes 8 (little_number 8 xs)) k 0 ≡ get_or xs k 0
get_or-little_bytes k xs h l = ap (λ (ys : List ℕ). get_or ys k 0) (bytes_of_number 8 0 xs h) ∙ get_or-numbers_at 8 0 k xs l ∙ ap (λ (j : ℕ). get_or xs j 0) (omega arith)

pub length-words_of : (n : ℕ) (xs : List ℕ) → length (words_of n xs) ≡ n
length-words_of zero xs = refl
length-words_of (suc n) xs = let e = length-words_of n (drop 8 xs) in omega (arith, e)

length-little_bytes : (n i x : ℕ) → length (bytes_low_first i n x) ≡ n
length-little_bytes zero i x = refl
length-little_bytes (suc n) i x = let e = length-little_bytes n (suc i) x in omega (arith, e)

pub length-bytes_of : (ws : List ℕ) → length (bytes_of ws) ≡ 8 * length ws
length-bytes_of [] = refl
length-bytes_of (w ∷ ws) =
    let e = length-bytes_of ws in
    let f = length-little_bytes 8 0 w in
    let g = length-append (little_bytes 8 w) (bytes_of ws) in
    omega (arith, e, f, g)

-- a byte of the words that were made of bytes
get_or-bytes_of : (n k : ℕ) (xs : List ℕ) → IsByteList xs → k < 8 * n → get_or (bytes_of (words_of n xs)) k 0 ≡ get_or xs k 0
get_or-bytes_of zero k xs h l = absurd (omega arith)
get_or-bytes_of (suc n) k xs h l =
    let long = length-little_bytes 8 0 (little_number 8 xs) in
    elim (cases_lt k 8) [
      | inl low ↦ get_or_append_left (little_bytes 8 (little_number 8 xs)) (bytes_of (words_of n (drop 8 xs))) 0 k (omega arith) ∙ get_or-little_bytes k xs h low
      | inr high ↦
          let later : IsByteList (drop 8 xs) = λ i. subst (λ (b : ℕ). b < 256) (sym (get_or-drop 8 xs i 0)) (h (8 + i)) in
          get_or-append_right (little_bytes 8 (little_number 8 xs)) (bytes_of (words_of n (drop 8 xs))) 8 k 0 long high
          ∙ get_or-bytes_of n (k - 8) (drop 8 xs) later (omega arith)
          ∙ get_or-drop 8 xs (k - 8) 0
          ∙ ap (λ (j : ℕ). get_or xs j 0) (omega arith)
    ]

-- the bytes that were packed
pub take-bytes_of : (n : ℕ) (xs : List ℕ) → IsByteList xs → length xs ≤ 8 * n → take (length xs) (bytes_of (words_of n xs)) ≡ xs
take-bytes_of n xs h l =
    let bytes = length-bytes_of (words_of n xs) in
    let words = length-words_of n xs in
    let long : length (take (length xs) (bytes_of (words_of n xs))) ≡ length xs = length-take-le (length xs) (bytes_of (words_of n xs)) (omega arith) in
    ext_get_or 0 _ _ long (λ i b. get_or-take (length xs) (bytes_of (words_of n xs)) i 0 (omega arith) ∙ get_or-bytes_of n i xs h (omega arith))

pub IsByteList-from_AreBytes : (xs : List ℕ) → AreBytes xs → IsByteList xs
IsByteList-from_AreBytes xs h k = elim (cases_lt k (length xs)) [
  | inl low ↦ h k 0 low
  | inr high ↦ subst (λ (b : ℕ). b < 256) (sym (get_or_past xs k 0 high)) (omega arith)
]

pub length-packed : (k v : List ℕ) → length (packed k v) ≡ 1 + words_for (length k) + words_for (length v)
unfolding packed
length-packed k v =
    let a = length-words_of (words_for (length k)) k in
    let b = length-words_of (words_for (length v)) v in
    let c = length-append (words_of (words_for (length k)) k) (words_of (words_for (length v)) v) in
    omega (arith, a, b, c)

-- the first word of a block tells its lengths
pub first-packed : (k v : List ℕ) → slice_index (packed k v) 0 ≡ first_word (length k) (length v)
unfolding packed
first-packed k v = refl

pub key_length-first_word : (k v : ℕ) → IsKeyLength k → key_length (first_word k v) ≡ k
key_length-first_word k v h = let m = h.most in omega arith

pub value_length-first_word : (k v : ℕ) → IsKeyLength k → value_length (first_word k v) ≡ v
value_length-first_word k v h = let m = h.most in omega arith

-- how many words a block has follows from its first word
pub block_length-packed : (k v : List ℕ) → IsKeyLength (length k) → block_length (slice_index (packed k v) 0) ≡ length (packed k v)
block_length-packed k v h =
    ap block_length (first-packed k v)
    ∙ (λ i. 1 + words_for (key_length-first_word (length k) (length v) h i) + words_for (value_length-first_word (length k) (length v) h i))
    ∙ sym (length-packed k v)

-- words that have the shape of a block are 2 to 137
pub shape_least : (words : List ℕ) → HasShape words → 2 ≤ length words
shape_least words h = let c = h.count in let k = h.key.least in omega arith

pub shape_most : (words : List ℕ) → HasShape words → length words ≤ 137
shape_most words h = let c = h.count in let k = h.key.most in let v = h.value in omega arith

-- a block has 2 to 137 words
pub packed_least : (p : Pair) → IsPair p → 2 ≤ length (packed p.key p.value)
packed_least p h = let e = length-packed p.key p.value in let a = h.key_length.least in omega arith

pub packed_most : (p : Pair) → IsPair p → length (packed p.key p.value) ≤ 137
packed_most p h =
    let e = length-packed p.key p.value in
    let a = h.key_length.most in
    let b = h.value_length in
    omega arith

-- what was packed is unpacked
pair_in-packed : (p : Pair) → IsPair p
    → pair_in (first_word (length p.key) (length p.value)) (words_of (words_for (length p.key)) p.key ++ words_of (words_for (length p.value)) p.value) ≡ p
pair_in-packed p h =
    let kl = key_length-first_word (length p.key) (length p.value) h.key_length in
    let vl = value_length-first_word (length p.key) (length p.value) h.key_length in
    let kw = length-words_of (words_for (length p.key)) p.key in
    let front = take_at (words_of (words_for (length p.key)) p.key) (words_of (words_for (length p.value)) p.value) (words_for (length p.key)) kw in
    let back = drop_at (words_of (words_for (length p.key)) p.key) (words_of (words_for (length p.value)) p.value) (words_for (length p.key)) kw in
    let key = take-bytes_of (words_for (length p.key)) p.key (IsByteList-from_AreBytes p.key h.key_bytes) (omega arith) in
    let value = take-bytes_of (words_for (length p.value)) p.value (IsByteList-from_AreBytes p.value h.value_bytes) (omega arith) in
    rw (kl, vl, front, back, key, value) refl

is_pair-true : (p : Pair) → IsPair p → is_pair p ≡ true
is_pair-true p h =
    let a = h.key_length.least in
    let b = h.key_length.most in
    let c = h.value_length in
    grind (arith, nat_tests)

-- a pair is accepted of its own words
if_packed-own : (p : Pair) → IsPair p → if_packed (packed p.key p.value) p ≡ Some p
if_packed-own p h = rw (is_pair-true p h, nat_list_eq_equiv.refl (packed p.key p.value)) refl

-- what was packed is unpacked
pub unpacked-packed : (p : Pair) → IsPair p → unpacked (packed p.key p.value) ≡ Some p
unfolding packed unpacked
unpacked-packed p h = ap (if_packed (packed p.key p.value)) (pair_in-packed p h) ∙ if_packed-own p h

byte_at-lt : (j x : ℕ) → byte_at j x < 256
byte_at-lt zero x = omega arith
byte_at-lt (suc j) x = omega arith

AreBytes-cons : (b : ℕ) (bs : List ℕ) → b < 256 → AreBytes bs → AreBytes (b ∷ bs)
AreBytes-cons b bs h g zero d l = h
AreBytes-cons b bs h g (suc k) d l = g k d (omega arith)

AreBytes-little_bytes : (n i x : ℕ) → AreBytes (bytes_low_first i n x)
AreBytes-little_bytes zero i x = λ k d l. absurd (omega arith)
AreBytes-little_bytes (suc n) i x = AreBytes-cons (byte_at i x) (bytes_low_first (suc i) n x) (byte_at-lt i x) (AreBytes-little_bytes n (suc i) x)

-- the bytes of words are bytes
pub AreBytes-bytes_of : (ws : List ℕ) → AreBytes (bytes_of ws)
AreBytes-bytes_of [] = λ k d l. absurd (omega arith)
AreBytes-bytes_of (w ∷ ws) = All-append (λ b. b < 2 ^ 8) (little_bytes 8 w) (bytes_of ws) (AreBytes-little_bytes 8 0 w) (AreBytes-bytes_of ws)

-- a pair that is accepted: its block, and its lengths
if_packed-is : (ws : List ℕ) (p q : Pair) → if_packed ws p ≡ Some q → (p ≡ q) × (is_pair p ≡ true) × (packed p.key p.value ≡ ws)
if_packed-is ws p q e = by (is_pair p) (pointwise nat_eq (packed p.key p.value) ws) refl refl e
  where
    by : (b c : Bool) → is_pair p ≡ b → pointwise nat_eq (packed p.key p.value) ws ≡ c → cond (b && c) (Some p) None ≡ Some q → (p ≡ q) × (is_pair p ≡ true) × (packed p.key p.value ≡ ws)
    by true true f g h = ((cc), f, (bytes_eq-Decides (packed p.key p.value) ws).0 g)
    by true false f g h = absurd (cc)
    by false c f g h = absurd (cc)

-- the lengths that the test tells
is_pair-lengths : (p : Pair) → is_pair p ≡ true → IsKeyLength (length p.key) × IsValueLength (length p.value)
is_pair-lengths p h = (record { least = grind (arith, nat_tests); most = grind (arith, nat_tests) }, grind (arith, nat_tests))

-- what words are unpacked to has them as its block
pub packed_of_unpacked : (ws : List ℕ) (p : Pair) → unpacked ws ≡ Some p → packed p.key p.value ≡ ws
unfolding unpacked
packed_of_unpacked [] p e = absurd (cc)
packed_of_unpacked (w ∷ ws) p e = let f = if_packed-is (w ∷ ws) (pair_in w ws) p e in subst (λ (q : Pair). packed q.key q.value ≡ w ∷ ws) f.0 f.2

-- and is a pair
pub IsPair-from_unpacked : (ws : List ℕ) (p : Pair) → unpacked ws ≡ Some p → IsPair p
unfolding unpacked
IsPair-from_unpacked [] p e = absurd (cc)
IsPair-from_unpacked (w ∷ ws) p e =
    let f = if_packed-is (w ∷ ws) (pair_in w ws) p e in
    let lengths = is_pair-lengths (pair_in w ws) f.1 in
    let one : IsPair (pair_in w ws) = record {
      key_length = lengths.0;
      value_length = lengths.1;
      key_bytes = All-take (λ b. b < 2 ^ 8) (key_length w) _ (AreBytes-bytes_of (take (words_for (key_length w)) ws));
      value_bytes = All-take (λ b. b < 2 ^ 8) (value_length w) _ (AreBytes-bytes_of (drop (words_for (key_length w)) ws));
    } in
    subst IsPair f.0 one

-- two pairs with one block are one
pub same_packed : (p q : Pair) → IsPair p → IsPair q → packed p.key p.value ≡ packed q.key q.value → p ≡ q
same_packed p q h g e =
    let a = unpacked-packed p h in
    let b = unpacked-packed q g in
    let c = ap unpacked e in
    cc

-- words that unpack to no pair are no pair's block
pub not_packed : (ws : List ℕ) → unpacked ws ≡ None → (p : Pair) → IsPair p → ws ≢ packed p.key p.value
not_packed ws e p h f = let a = unpacked-packed p h in let b = ap unpacked f in absurd (cc)

-- a block has the shape that its first word tells
pub HasShape-packed : (p : Pair) → IsPair p → HasShape (packed p.key p.value)
HasShape-packed p h =
    let first = first-packed p.key p.value in
    let kl = ap key_length first ∙ key_length-first_word (length p.key) (length p.value) h.key_length in
    let vl = ap value_length first ∙ value_length-first_word (length p.key) (length p.value) h.key_length in
    record {
      key = subst IsKeyLength (sym kl) h.key_length;
      value = subst IsValueLength (sym vl) h.value_length;
      count = sym (block_length-packed p.key p.value h.key_length);
    }

-- words that are no pair's block unpack to none
pub unpacked-none : (ws : List ℕ) → ((p : Pair) → IsPair p → packed p.key p.value ≢ ws) → unpacked ws ≡ None
unpacked-none ws h = by (unpacked ws) refl
  where
    by : (o : Option Pair) → unpacked ws ≡ o → unpacked ws ≡ None
    by None e = e
    by (Some p) e = absurd (h p (IsPair-from_unpacked ws p e) (packed_of_unpacked ws p e))

pub unpacked-no_shape : (ws : List ℕ) → ¬ HasShape ws → unpacked ws ≡ None
unpacked-no_shape ws h = unpacked-none ws (λ p pair e. h (subst HasShape e (HasShape-packed p pair)))

-- the key and the value of a block, as they stand in its words
pub key_in-packed : (p : Pair) → IsPair p → (ws : List ℕ) → packed p.key p.value ≡ ws
    → take (key_length (slice_index ws 0)) (bytes_of (between 1 (1 + words_for (key_length (slice_index ws 0))) ws)) ≡ p.key
unfolding packed
key_in-packed p h ws e =
    subst (λ (vs : List ℕ). take (key_length (slice_index vs 0)) (bytes_of (between 1 (1 + words_for (key_length (slice_index vs 0))) vs)) ≡ p.key) e
    (let front : 1 + words_for (key_length (first_word (length p.key) (length p.value))) - 1 ≡ words_for (key_length (first_word (length p.key) (length p.value))) = omega arith in
    rw front (ap (λ (q : Pair). q.key) (pair_in-packed p h)))

pub value_in-packed : (p : Pair) → IsPair p → (ws : List ℕ) → packed p.key p.value ≡ ws
    → take (value_length (slice_index ws 0)) (bytes_of (drop (1 + words_for (key_length (slice_index ws 0))) ws)) ≡ p.value
unfolding packed
value_in-packed p h ws e =
    subst (λ (vs : List ℕ). take (value_length (slice_index vs 0)) (bytes_of (drop (1 + words_for (key_length (slice_index vs 0))) vs)) ≡ p.value) e
    (rw one_more (ap (λ (q : Pair). q.value) (pair_in-packed p h)))
  where
    one_more : (n : ℕ) → 1 + n ≡ suc n
    one_more n = omega arith

-- words that are not the block of the key and the value that stand in them are no pair's block
pub no_block : (ws key value : List ℕ) (kl vl kw : ℕ) → kl ≡ key_length (slice_index ws 0) → vl ≡ value_length (slice_index ws 0) → kw ≡ words_for kl
    → key ≡ take kl (bytes_of (between 1 (1 + kw) ws)) → value ≡ take vl (bytes_of (between (1 + kw) (length ws) ws))
    → pointwise nat_eq (packed key value) ws ≡ false → (p : Pair) → IsPair p → ws ≢ packed p.key p.value
no_block ws key value kl vl kw kl_is vl_is count is_key is_value other p pair e =
    let k = key_in-packed p pair ws (sym e) in
    let v = value_in-packed p pair ws (sym e) in
    let kw_is : kw ≡ words_for (key_length (slice_index ws 0)) = count ∙ ap words_for kl_is in
    let rest = between_to_end ws (1 + kw) (length ws) (omega arith) in
    let same_key : key ≡ p.key = is_key ∙ (λ i. take (kl_is i) (bytes_of (between 1 (1 + kw_is i) ws))) ∙ k in
    let same_value : value ≡ p.value = is_value ∙ ap (λ (us : List ℕ). take vl (bytes_of us)) rest ∙ (λ i. take (vl_is i) (bytes_of (drop (1 + kw_is i) ws))) ∙ v in
    let same : packed key value ≡ ws = (λ i. packed (same_key i) (same_value i)) ∙ sym e in
    let yes = nat_list_eq_equiv.refl ws in
    let deny : pointwise nat_eq ws ws ≡ false = subst (λ (us : List ℕ). pointwise nat_eq us ws ≡ false) same other in
    absurd (cc)
