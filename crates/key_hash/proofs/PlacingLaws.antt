-- The number of a key by the list of pairs.

use Rattle.std.proofs.Common.{◌≡◌, ◌∙◌, ℕ, Bool, true, false, cond, List, [], ◌∷◌, ◌++◌, Option, Some, None, refl, sym, ap}
use Rattle.std.specs.Prelude.{is_some, unwrap_or}
use Rattle.std.specs.List.{IsDistinct, AllByRecursion}
use Rattle.std.specs.Map.{keys_of}
use Rattle.std.specs.BTreeMap as tree
use Rattle.std.specs.BTreeMap.{BTreeMap, is_at}
use Rattle.kv_block.specs.Bytes.{key_cmp, key_eq}
use Rattle.kv_block.proofs.Keys.{key_eq_equiv, key_eq-is, at_is}
use Rattle.key_hash.specs.Mixing.{mixed}
use Rattle.key_hash.specs.Placing.{Pairs, AreDistinct, listed_for, is_listed, placed, Finds}

-- a listed key has its number, and every other key the number `mixed`
pub placed-listed : (pairs : Pairs) (key : List ℕ) (n : ℕ) → listed_for pairs key ≡ Some n → placed pairs key ≡ n
placed-listed pairs key n h = ap (λ o. unwrap_or o (mixed key)) h

pub placed-mixed : (pairs : Pairs) (key : List ℕ) → is_listed pairs key ≡ false → placed pairs key ≡ mixed key
placed-mixed pairs key h = by (listed_for pairs key) h
  where
    by : (o : Option ℕ) → is_some o ≡ false → unwrap_or o (mixed key) ≡ mixed key
    by None h = refl
    by (Some n) h = absurd (cc)

-- no number is listed for a key of no pair
pub listed_for-nil : (key : List ℕ) → listed_for [] key ≡ None
listed_for-nil key = refl

-- one pair before the others
pub by_first : (b : Bool) (m : ℕ) (longer o last : Option ℕ) → longer ≡ cond (is_some o) o last → cond b (Some m) longer ≡ cond (is_some (cond b (Some m) o)) (cond b (Some m) o) last
by_first true m longer o last h = refl
by_first false m longer o last h = h

-- behind pairs that do not list it a key has the number of the last pair, where that is its own
pub listed_for-push : (pairs : Pairs) (other : List ℕ) (n : ℕ) (key : List ℕ) → listed_for (pairs ++ (other, n) ∷ []) key ≡ cond (is_listed pairs key) (listed_for pairs key) (cond (key_eq key other) (Some n) None)
listed_for-push [] other n key = refl
listed_for-push (p ∷ pairs) other n key = by_first (key_eq key p.0) p.1 (listed_for (pairs ++ (other, n) ∷ []) key) (listed_for pairs key) (cond (key_eq key other) (Some n) None) (listed_for-push pairs other n key)

-- a key that is not listed is none of the first pair, nor is it listed by the others
pub unlisted_both : (b : Bool) (n : ℕ) (o : Option ℕ) → is_some (cond b (Some n) o) ≡ false → (b ≡ false) × (is_some o ≡ false)
unlisted_both true n o h = absurd (cc)
unlisted_both false n o h = (refl, h)

pub each-push : (P : List ℕ → Type 0) (pairs : Pairs) (key : List ℕ) (n : ℕ) → AllByRecursion P (keys_of pairs) → P key → AllByRecursion P (keys_of (pairs ++ (key, n) ∷ []))
each-push P [] key n h p = (p, tt)
each-push P (q ∷ pairs) key n h p = (h.0, each-push P pairs key n h.1 p)

-- no key stands twice where one that is not listed follows the others
pub AreDistinct-push : (pairs : Pairs) (key : List ℕ) (n : ℕ) → AreDistinct pairs → is_listed pairs key ≡ false → AreDistinct (pairs ++ (key, n) ∷ [])
unfolding IsDistinct
AreDistinct-push [] key n h new = (tt, tt)
AreDistinct-push (p ∷ pairs) key n h new =
    let apart = unlisted_both (key_eq key p.0) p.1 (listed_for pairs key) new in
    (each-push (λ q. key_eq p.0 q ≡ false) pairs key n h.0 (key_eq_equiv.symm p.0 key ∙ apart.0), AreDistinct-push pairs key n h.1 apart.1)

-- an ordered map of the pairs, with one pair more
last_number : (b : Bool) (n : ℕ) (o : Option ℕ) → (b ≡ true → is_some o ≡ false) → cond b (Some n) o ≡ cond (is_some o) o (cond b (Some n) None)
last_number true n None h = refl
last_number true n (Some m) h = absurd (cc (h refl))
last_number false n None h = refl
last_number false n (Some m) h = refl

pub Finds-push : (numbers longer : BTreeMap (List ℕ) ℕ) (pairs : Pairs) (key : List ℕ) (n : ℕ)
    → Finds numbers pairs → is_listed pairs key ≡ false
    → ((q : List ℕ) → tree.get key_cmp longer q ≡ cond (is_at (key_cmp key) q) (Some n) (tree.get key_cmp numbers q)) → Finds longer (pairs ++ (key, n) ∷ [])
Finds-push numbers longer pairs key n finds new updates q =
    updates q
    ∙ ap (λ b. cond b (Some n) (tree.get key_cmp numbers q)) (at_is key q)
    ∙ ap (cond (key_eq q key) (Some n)) (finds q)
    ∙ last_number (key_eq q key) n (listed_for pairs q) (λ e. ap (is_listed pairs) (key_eq-is q key e) ∙ new)
    ∙ sym (listed_for-push pairs key n q)
