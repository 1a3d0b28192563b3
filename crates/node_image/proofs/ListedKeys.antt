-- Listed keys as numbers.
use Rattle.std.specs.Prelude.{◌≡◌, ◌≢◌, ℕ, ◌+◌, ◌-◌, ◌*◌, ◌/◌, ◌<◌, ◌≤◌, not, Bool, true, false, cond, if◌then◌else◌, List, [], ◌∷◌, ◌++◌, length, take, drop, slice_index, is_some, Some, ◌⊎◌, refl}
use Rattle.std.specs.List.{IsDistinct, AllByRecursion}
use Rattle.std.specs.Map.{keys_of}
use Rattle.std.proofs.Common.{sym, ◌∙◌, ap, subst, inl, inr, arith, append-nil, append_assoc, length-append}
use Rattle.std.proofs.lemmas.List.{take_all, take_at, drop_at, drop_more, drop-drop, take-append-drop, get_or-take, length-drop}
use Rattle.std.proofs.lemmas.Grind.{flat_map-append}
use Rattle.kv_block.specs.Bytes.{AreBytes, key_eq}
use Rattle.kv_block.specs.Packing.{Pair, IsPair, packed, words_for, first_word}
use Rattle.kv_block.proofs.Keys.{key_eq_equiv}
use Rattle.kv_block.proofs.Packed.{length-packed, first-packed, same_packed}
use Rattle.key_hash.specs.Placing.{Pairs, AreDistinct, is_listed, listed_for}
use Rattle.key_hash.proofs.PlacingLaws.{AreDistinct-push}
use Rattle.race_laws.specs.Standing.{IsIn}
use Rattle.image_laws.proofs.Members.{in_right, in_cases}
use Rattle.node_image.specs.Numbers.{entry_of, entry_length, entries_of, IsKey, AreKeys}
use Rattle.node_image.proofs.Prefixes.{all_in, prefix}

no_bytes : AreBytes []
no_bytes = λ i d l. absurd (omega arith)

key_pair : (p : List ℕ × ℕ) → IsKey p → IsPair (record { key = p.0; value = [] })
key_pair p h = record { key_length = h.length; value_length = omega arith; key_bytes = h.bytes; value_bytes = no_bytes }

front_length : (p : List ℕ × ℕ) → length (packed p.0 []) ≡ 1 + words_for (length p.0)
front_length p = let e = length-packed p.0 [] in omega arith

-- what stands at the front of numbers that begin with a listed key
pub record Front (ns : List ℕ) (p : List ℕ × ℕ) (rest : List ℕ) : Type 0 where
  pub first : slice_index ns 0 ≡ length p.0
  pub long : entry_length p ≤ length ns
  pub block : take (1 + words_for (length p.0)) ns ≡ packed p.0 []
  pub behind : drop (1 + words_for (length p.0)) ns ≡ p.1 ∷ rest

first_of_append : (xs ys : List ℕ) → 1 ≤ length xs → slice_index (xs ++ ys) 0 ≡ slice_index xs 0
first_of_append [] ys h = absurd (omega arith)
first_of_append (x ∷ xs) ys h = refl

pub front : (ns : List ℕ) (p : List ℕ × ℕ) (rest : List ℕ) → ns ≡ entry_of p ++ rest → Front ns p rest
front ns p rest e =
    let f = front_length p in
    let whole : ns ≡ packed p.0 [] ++ p.1 ∷ rest = e ∙ append_assoc (packed p.0 []) (p.1 ∷ []) rest in
    let l = ap length whole in
    let m = length-append (packed p.0 []) (p.1 ∷ rest) in
    record {
      first = ap (λ v. slice_index v 0) whole ∙ first_of_append (packed p.0 []) (p.1 ∷ rest) (omega arith) ∙ first-packed p.0 [] ∙ plain (length p.0);
      long = omega arith;
      block = ap (take (1 + words_for (length p.0))) whole ∙ take_at (packed p.0 []) (p.1 ∷ rest) (1 + words_for (length p.0)) f;
      behind = ap (drop (1 + words_for (length p.0))) whole ∙ drop_at (packed p.0 []) (p.1 ∷ rest) (1 + words_for (length p.0)) f;
    }
  where
    plain : (n : ℕ) → n + 65536 * 0 ≡ n
    plain n = omega arith

pair_same : {A B : Type 0} (a c : A) (b d : B) → a ≡ c → b ≡ d → (let u : A × B = (a, b) in u) ≡ (c, d)
pair_same a c b d e f = cc

-- numbers begin with one listed key
pub entry_one : (j : ℕ) (a b : List ℕ × ℕ) (x y : List ℕ) → IsKey a → IsKey b → entry_of a ++ x ≡ entry_of b ++ y → (a ≡ b) × (x ≡ y)
entry_one j a b x y ha hb e =
    let f = front (entry_of a ++ x) a x refl in
    let g = front (entry_of a ++ x) b y e in
    let len : length a.0 ≡ length b.0 = sym f.first ∙ g.first in
    let blocks : packed a.0 [] ≡ packed b.0 [] = sym f.block ∙ ap (λ n. take (1 + words_for n) (entry_of a ++ x)) len ∙ g.block in
    let keys = ap (λ (v : Pair). v.key) (same_packed (record { key = a.0; value = [] }) (record { key = b.0; value = [] }) (key_pair a ha) (key_pair b hb) blocks) in
    let tails : a.1 ∷ x ≡ b.1 ∷ y = sym f.behind ∙ ap (λ n. drop (1 + words_for n) (entry_of a ++ x)) len ∙ g.behind in
    (pair_same a.0 b.0 a.1 b.1 keys (heads tails), rests tails)
  where
    heads : a.1 ∷ x ≡ b.1 ∷ y → a.1 ≡ b.1
    heads t = cc

    rests : a.1 ∷ x ≡ b.1 ∷ y → x ≡ y
    rests t = cc

-- a listed key was read
pub entry_read : (ns : List ℕ) (len count : ℕ) (k v : List ℕ) → len ≡ slice_index ns 0 → len ≤ 64 → count ≡ (len + 7) / 8 + 1 → count < length ns → take count ns ≡ packed k v → IsPair (record { key = k; value = v })
    → (ns ≡ entry_of (k, slice_index ns count) ++ drop (count + 1) ns) × IsKey (k, slice_index ns count)
entry_read ns len count k v le most ce low pk ip = (
  sym (take-append-drop count ns) ∙ ap (λ z. take count ns ++ z) (drop_more ns count 0 low) ∙ ap (λ z. z ++ slice_index ns count ∷ drop (count + 1) ns) (pk ∙ ap (packed k) none) ∙ sym (append_assoc (packed k []) (slice_index ns count ∷ []) (drop (count + 1) ns)),
  record { length = ip.key_length; bytes = ip.key_bytes },
)
  where
    first : len ≡ first_word (length k) (length v)
    first = le ∙ sym (get_or-take count ns 0 0 (omega arith)) ∙ ap (λ z. slice_index z 0) pk ∙ first-packed k v

    none : v ≡ []
    none = nil v (short (length k) (length v) first)
      where
        short : (a b : ℕ) → len ≡ a + 65536 * b → b ≡ 0
        short a b e = omega arith

        nil : (v : List ℕ) → length v ≡ 0 → v ≡ []
        nil [] e = refl
        nil (x ∷ xs) e = absurd (omega arith)

-- no listed key was read
module _ (ns : List ℕ) (p : List ℕ × ℕ) (rest : List ℕ) (h : IsKey p) (e : ns ≡ entry_of p ++ rest) where
  pub not_short : length ns < 2 → ⊥
  not_short l = let f = (front ns p rest e).long in omega arith

  pub not_long : 64 < slice_index ns 0 → ⊥
  not_long l = let f = (front ns p rest e).first in let m = h.length.most in omega arith

  pub not_cut : length ns ≤ (slice_index ns 0 + 7) / 8 + 1 → ⊥
  not_cut l = let f = (front ns p rest e).first in let g = (front ns p rest e).long in cut (slice_index ns 0) (length p.0) (length ns) f g l
    where
      cut : (x y n : ℕ) → x ≡ y → 2 + (y + 7) / 8 ≤ n → n ≤ (x + 7) / 8 + 1 → ⊥
      cut x y n f g l = omega arith

  pub not_odd : ((q : Pair) → IsPair q → take ((slice_index ns 0 + 7) / 8 + 1) ns ≢ packed q.key q.value) → ⊥
  not_odd f = f (record { key = p.0; value = [] }) (key_pair p h) (ap (λ n. take n ns) (count (slice_index ns 0) (length p.0) (front ns p rest e).first) ∙ (front ns p rest e).block)
    where
      count : (x y : ℕ) → x ≡ y → (x + 7) / 8 + 1 ≡ 1 + (y + 7) / 8
      count x y e = omega arith

-- so many listed keys were read
pub record EntriesSoFar (ns : List ℕ) (listed : Pairs) (count at : ℕ) : Type 0 where
  pub whole : ns ≡ entries_of listed ++ drop at ns
  pub low : at ≤ length ns
  pub size : length listed ≡ count
  pub keys : AreKeys listed
  pub distinct : AreDistinct listed

pub entries_start : (ns : List ℕ) (listed : Pairs) → listed ≡ [] → EntriesSoFar ns listed 0 0
unfolding IsDistinct
entries_start ns listed e = subst (λ v. EntriesSoFar ns v 0 0) (sym e) (record { whole = refl; low = omega arith; size = refl; keys = λ p i. absurd i; distinct = tt })

pub entries_more : (ns : List ℕ) (old new : Pairs) (count at : ℕ) (k : List ℕ) (hash n : ℕ) → EntriesSoFar ns old count at → drop at ns ≡ entry_of (k, hash) ++ drop n (drop at ns) → n ≤ length (drop at ns) → IsKey (k, hash) → is_listed old k ≡ false → new ≡ old ++ (k, hash) ∷ [] → EntriesSoFar ns new (count + 1) (at + n)
entries_more ns old new count at k hash n s e l key fresh ne = subst (λ v. EntriesSoFar ns v (count + 1) (at + n)) (sym ne) (record {
  whole = s.whole ∙ ap (λ v. entries_of old ++ v) (e ∙ ap (λ v. entry_of (k, hash) ++ v) (drop-drop n at ns)) ∙ sym (append_assoc (entries_of old) (entry_of (k, hash)) (drop (at + n) ns)) ∙ ap (λ v. v ++ drop (at + n) ns) (sym (flat_map-append entry_of old ((k, hash) ∷ []) ∙ ap (λ v. entries_of old ++ v) (append-nil (entry_of (k, hash)))));
  low = (let d = length-drop at ns in let w = s.low in omega arith);
  size = (let d = length-append old ((k, hash) ∷ []) in let w = s.size in omega arith);
  keys = λ p i. by p (in_cases p old ((k, hash) ∷ []) i);
  distinct = AreDistinct-push old k hash s.distinct fresh;
})
  where
    by : (p : List ℕ × ℕ) → IsIn p old ⊎ IsIn p ((k, hash) ∷ []) → IsKey p
    by p (inl i) = s.keys p i
    by p (inr (inl z)) = subst IsKey (sym z) key
    by p (inr (inr z)) = absurd z

each_at : (P : List ℕ → Type 0) (ls more : Pairs) (q : List ℕ × ℕ) → AllByRecursion P (keys_of (ls ++ q ∷ more)) → P q.0
each_at P [] more q h = h.0
each_at P (p ∷ ls) more q h = each_at P ls more q h.1

-- of distinct keys one is not listed before it
fresh_front : (ls more : Pairs) (q : List ℕ × ℕ) → AreDistinct (ls ++ q ∷ more) → is_listed ls q.0 ≡ false
unfolding IsDistinct
fresh_front [] more q h = refl
fresh_front (p ∷ ls) more q h = ap (λ b. is_some (cond b (Some p.1) (listed_for ls q.0))) (key_eq_equiv.symm q.0 p.0 ∙ each_at (λ z. key_eq p.0 z ≡ false) ls more q h.0) ∙ fresh_front ls more q h.1

-- the numbers begin with more listed keys, of which so many were read
module _ (ns : List ℕ) (old : Pairs) (i at : ℕ) (s : EntriesSoFar ns old i at) (listed : Pairs) (rest : List ℕ) (keys : AreKeys listed) (e : ns ≡ entries_of listed ++ rest) where
  pub entries_front : length old ≤ length listed → (more : Pairs) × (listed ≡ old ++ more) × (drop at ns ≡ entries_of more ++ rest)
  entries_front l = prefix entry_of (λ n. IsKey) entry_one 0 old listed (drop at ns) rest (all_in IsKey 0 old s.keys) (all_in IsKey 0 listed keys) l (sym s.whole ∙ e)

  next_entry : i < length listed → (q : List ℕ × ℕ) × (more : Pairs) × (listed ≡ old ++ q ∷ more) × (drop at ns ≡ entry_of q ++ (entries_of more ++ rest))
  next_entry low = let r = entries_front (let z = s.size in omega arith) in by r.0 r.1 r.2
    where
      by : (more : Pairs) → listed ≡ old ++ more → drop at ns ≡ entries_of more ++ rest → (q : List ℕ × ℕ) × (more : Pairs) × (listed ≡ old ++ q ∷ more) × (drop at ns ≡ entry_of q ++ (entries_of more ++ rest))
      by [] f g = let a = ap length f in let b = length-append old [] in let z = s.size in absurd (omega arith)
      by (q ∷ more) f g = (q, more, f, g ∙ append_assoc (entry_of q) (entries_of more) rest)

  pub entry_there : i < length listed → ((p : List ℕ × ℕ) (behind : List ℕ) → IsKey p → drop at ns ≡ entry_of p ++ behind → ⊥) → ⊥
  entry_there low f = let r = next_entry low in f r.0 (entries_of r.1 ++ rest) (keys r.0 (subst (IsIn r.0) (sym r.2) (in_right r.0 old (r.0 ∷ r.1) (inl refl)))) r.3

  pub entry_twice : i < length listed → AreDistinct listed → (k : List ℕ) (hash : ℕ) (behind : List ℕ) → IsKey (k, hash) → drop at ns ≡ entry_of (k, hash) ++ behind → is_listed old k ≡ true → ⊥
  entry_twice low dis k hash behind key g known =
      let r = next_entry low in
      let kq = keys r.0 (subst (IsIn r.0) (sym r.2) (in_right r.0 old (r.0 ∷ r.1) (inl refl))) in
      let same = (entry_one 0 (k, hash) r.0 behind (entries_of r.1 ++ rest) key kq (sym g ∙ r.3)).0 in
      let fresh = fresh_front old r.1 r.0 (subst AreDistinct r.2 dis) in
      let f2 : is_listed old k ≡ false = ap (λ (v : List ℕ × ℕ). is_listed old v.0) same ∙ fresh in
      cc

pub not_false : (a b : Bool) → a ≡ not b → a ≡ false → b ≡ true
not_false a true e f = refl
not_false a false e f = absurd (cc)

pub not_true : (a b : Bool) → a ≡ not b → a ≡ true → b ≡ false
not_true a true e f = absurd (cc)
not_true a false e f = refl

pub kept_if : {A : Type 0} (b : Bool) (n x y : A) → n ≡ (if b then x else y) → b ≡ true → n ≡ x
kept_if true n x y e f = e
kept_if false n x y e f = absurd (cc)

-- what a slice from a place on is
pub rest_is : (ns : List ℕ) (at : ℕ) → take (length ns - at) (drop at ns) ≡ drop at ns
rest_is ns at = let l = length-drop at ns in take_all (length ns - at) (drop at ns) (omega arith)
