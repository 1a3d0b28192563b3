-- What a map has at a key, and which maps are the same.
use Rattle.std.specs.Prelude.{◌≡◌, ◌⊎◌, ℕ, Bool, true, false, is_some, cond, List, [], ◌∷◌, take, length, Option, Some, None, refl}
use Rattle.std.proofs.Common.{sym, ◌∙◌, ap, inl, inr, ⊎_elim}
use Rattle.std.proofs.lemmas.Bool.{cases_Bool}
use Rattle.std.proofs.lemmas.Option.{none-some, same_Some}
use Rattle.std.specs.List.{AllByRecursion}
use Rattle.std.specs.FinMap as fin
use Rattle.kv_block.specs.Bytes.{key_cmp, key_eq}
use Rattle.kv_block.specs.declared.changes.Change.{Change}
use Rattle.kv_block.proofs.Keys.{key_cmp_total, key_cmp-IsAntisymmetric, key_eq-is, key_eq-same, key_ties}
use Rattle.map_model.specs.Contents.{Contents}
use Rattle.map_model.specs.Machine.{with_value, changed, map_after}

-- a key of a map with one pair more
pub get_put : (m : Contents) (key value q : List ℕ) → fin.get (fin.insert m key value) q ≡ cond (key_eq q key) (Some value) (fin.get m q)
get_put m key value q = fin.get-insert key_cmp_total m key value q ∙ ap (λ (b : Bool). cond b (Some value) (fin.get m q)) (sym (key_ties q key))

pub get_own : (m : Contents) (key value : List ℕ) → fin.get (fin.insert m key value) key ≡ Some value
get_own m key value = get_put m key value key ∙ ap (λ (b : Bool). cond b (Some value) (fin.get m key)) (key_eq-same key)

-- what a pair more leaves: a pair of before, or itself
pub put_has : (m : Contents) (key value q v : List ℕ) → fin.get (fin.insert m key value) q ≡ Some v → ((q ≡ key) × (v ≡ value)) ⊎ (fin.get m q ≡ Some v)
put_has m key value q v has = ⊎_elim
    (λ same. inl (key_eq-is q key same, sym (same_Some value v (sym (ap (λ (b : Bool). cond b (Some value) (fin.get m q)) same) ∙ sym (get_put m key value q) ∙ has))))
    (λ other. inr (sym (ap (λ (b : Bool). cond b (Some value) (fin.get m q)) other) ∙ sym (get_put m key value q) ∙ has))
    (cases_Bool (key_eq q key))

-- a key that was there stays
pub put_keeps : (m : Contents) (key value q : List ℕ) → is_some (fin.get m q) ≡ true → is_some (fin.get (fin.insert m key value) q) ≡ true
put_keeps m key value q there = ap is_some (get_put m key value q) ∙ by (key_eq q key)
  where
    by : (b : Bool) → is_some (cond b (Some value) (fin.get m q)) ≡ true
    by true = refl
    by false = there

get_gone : (m : Contents) (key q : List ℕ) → fin.get (fin.remove m key) q ≡ cond (key_eq q key) None (fin.get m q)
get_gone m key q = fin.get-remove key_cmp_total m key q ∙ ap (λ (b : Bool). cond b None (fin.get m q)) (sym (key_ties q key))

-- one of the changes is of the key
abbrev pub HasChange : List ℕ → List Change → Type 0
HasChange key [] = ⊥
HasChange key (c ∷ changes) = (c.key ≡ key) ⊎ HasChange key changes

with_has : (m : Contents) (key : List ℕ) (value : Option (List ℕ)) (q v : List ℕ) → fin.get (with_value m key value) q ≡ Some v → (key ≡ q) ⊎ (fin.get m q ≡ Some v)
with_has m key (Some value) q v has = ⊎_elim (λ own. inl (sym own.0)) (λ old. inr old) (put_has m key value q v has)
with_has m key None q v has = ⊎_elim
    (λ same. inl (sym (key_eq-is q key same)))
    (λ other. inr (sym (ap (λ (b : Bool). cond b None (fin.get m q)) other) ∙ sym (get_gone m key q) ∙ has))
    (cases_Bool (key_eq q key))

-- a key that the map has after changes it had before, or one of them is of it
after_has : (m : Contents) (changes : List Change) (key value : List ℕ) → fin.get (map_after m changes) key ≡ Some value → (fin.get m key ≡ Some value) ⊎ HasChange key changes
after_has m [] key value has = inl has
after_has m (c ∷ changes) key value has = ⊎_elim
    (λ now. ⊎_elim (λ own. inr (inl own)) (λ old. inl old) (with_has m c.key c.value key value now))
    (λ later. inr (inr later))
    (after_has (changed m c) changes key value has)

-- each key of the map after all changes is one of a change
pub has_change : (changes : List Change) (key value : List ℕ) → fin.get (map_after fin.empty (take (length changes) changes)) key ≡ Some value → HasChange key changes
has_change changes key value has = ⊎_elim
    (λ none. absurd (none-some value (sym (fin.get-empty key_cmp key) ∙ none)))
    (λ later. later)
    (after_has fin.empty changes key value (sym (ap (λ (l : List Change). fin.get (map_after fin.empty l) key) (take_whole changes)) ∙ has))
  where
    take_whole : (l : List Change) → take (length l) l ≡ l
    take_whole [] = refl
    take_whole (c ∷ l) = ap (λ (x : List Change). c ∷ x) (take_whole l)

pub of_change : (P : Change → Type 0) (key : List ℕ) (changes : List Change) → AllByRecursion P changes → HasChange key changes → (c : Change) × (c.key ≡ key) × P c
of_change P key [] all h = absurd h
of_change P key (c ∷ changes) all (inl is) = (c, is, all.0)
of_change P key (c ∷ changes) all (inr h) = of_change P key changes all.1 h

-- maps that have the same at each key are one
pub same_pairs : (m n : Contents) → ((key value : List ℕ) → fin.get m key ≡ Some value → fin.get n key ≡ Some value) → ((key value : List ℕ) → fin.get n key ≡ Some value → fin.get m key ≡ Some value) → m ≡ n
same_pairs m n there back = fin.same_map key_cmp_total key_cmp-IsAntisymmetric m n (λ key. both (fin.get m key) (fin.get n key) (there key) (back key))
  where
    both : (a b : Option (List ℕ)) → ((v : List ℕ) → a ≡ Some v → b ≡ Some v) → ((v : List ℕ) → b ≡ Some v → a ≡ Some v) → a ≡ b
    both (Some v) b there back = sym (there v refl)
    both None (Some v) there back = back v refl
    both None None there back = refl
