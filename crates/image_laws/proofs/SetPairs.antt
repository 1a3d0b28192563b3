-- The map of pairs that are set one after the other, where those of one key are equal.
use Rattle.std.specs.Prelude.{◌≡◌, ℕ, Bool, true, false, List, [], ◌∷◌, map, Some, ◌⊎◌, refl}
use Rattle.std.proofs.Common.{sym, ◌∙◌, ap, inl, inr, ⊎_elim}
use Rattle.std.specs.FinMap as fin
use Rattle.kv_block.specs.Bytes.{key_eq}
use Rattle.kv_block.specs.Packing.{Pair}
use Rattle.kv_block.proofs.Keys.{key_eq-is}
use Rattle.map_model.specs.Contents.{Contents}
use Rattle.map_model.specs.Machine.{map_after, changed}
use Rattle.race_laws.specs.Standing.{IsIn}
use Rattle.race_laws.proofs.Maps.{get-changed, get-changed_other}
use Rattle.image_laws.specs.Answers.{sets}

-- the map of pairs that are set one after the other
pub record HasPair (key : List ℕ) (value : List ℕ) (qs : List Pair) : Type 0 where
  pub pair : Pair
  pub among : IsIn pair qs
  pub same_key : pair.key ≡ key
  pub same_value : pair.value ≡ value

pub key_cases : (q k : List ℕ) → (q ≡ k) ⊎ (key_eq q k ≡ false)
key_cases q k = by (key_eq q k) refl
  where
    by : (b : Bool) → key_eq q k ≡ b → (q ≡ k) ⊎ (key_eq q k ≡ false)
    by true e = inl (key_eq-is q k e)
    by false e = inr e

pub get_of : (key value : List ℕ) (qs : List Pair) (m : Contents) → fin.get (map_after m (map sets qs)) key ≡ Some value → HasPair key value qs ⊎ (fin.get m key ≡ Some value)
get_of key value [] m e = inr e
get_of key value (q ∷ qs) m e = ⊎_elim
    (λ (x : HasPair key value qs). inl (record { pair = x.pair; among = inr x.among; same_key = x.same_key; same_value = x.same_value }))
    (λ (x : fin.get (changed m (sets q)) key ≡ Some value). ⊎_elim
    (λ (k : key ≡ q.key). inl (record { pair = q; among = inl refl; same_key = sym k; same_value = values (sym (get-changed m q.key q.value) ∙ ap (fin.get (changed m (sets q))) (sym k) ∙ x) }))
    (λ (k : key_eq key q.key ≡ false). inr (sym (get-changed_other m q.key key (Some q.value) k) ∙ x)) (key_cases key q.key))
    (get_of key value qs (changed m (sets q)) e)
  where
    values : {x y : List ℕ} → Some x ≡ Some y → x ≡ y
    values h = cc

pub get_in : (key value : List ℕ) (qs : List Pair) (m : Contents) → ((q : Pair) → IsIn q qs → q.key ≡ key → q.value ≡ value) → HasPair key value qs ⊎ (fin.get m key ≡ Some value) → fin.get (map_after m (map sets qs)) key ≡ Some value
get_in key value [] m all (inl x) = absurd x.among
get_in key value [] m all (inr e) = e
get_in key value (q ∷ qs) m all h = get_in key value qs (changed m (sets q)) (λ z k e. all z (inr k) e) (⊎_elim (λ (k : key ≡ q.key). inr (here k)) (λ (k : key_eq key q.key ≡ false). other k h) (key_cases key q.key))
  where
    here : key ≡ q.key → fin.get (changed m (sets q)) key ≡ Some value
    here k = ap (fin.get (changed m (sets q))) k ∙ get-changed m q.key q.value ∙ ap Some (all q (inl refl) (sym k))

    other : key_eq key q.key ≡ false → HasPair key value (q ∷ qs) ⊎ (fin.get m key ≡ Some value) → HasPair key value qs ⊎ (fin.get (changed m (sets q)) key ≡ Some value)
    other k (inl x) = among x.among
      where
        among : IsIn x.pair (q ∷ qs) → HasPair key value qs ⊎ (fin.get (changed m (sets q)) key ≡ Some value)
        among (inl e) = inr (here (sym x.same_key ∙ ap (λ (v : Pair). v.key) e))
        among (inr a) = inl (record { pair = x.pair; among = a; same_key = x.same_key; same_value = x.same_value })
    other k (inr e) = inr (get-changed_other m q.key key (Some q.value) k ∙ e)
