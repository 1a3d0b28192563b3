-- The map of places after a change more.
use Rattle.std.proofs.Common.{◌≡◌, ℕ, zero, suc, ◌-◌, Bool, true, false, cond, List, [], ◌∷◌, ◌++◌, length, get_or, Some, None, Result, Ok, Err, Vec, refl, sym, ap, ◌∙◌, arith, rules}
use Rattle.std.proofs.lemmas.Option.{slice_get_within}
use Rattle.std.specs.Global.{Global}
use Rattle.std.specs.Result.{IsOk, OnOk, OnErr}
use Rattle.std.specs.Option.{option_map_or}
use Rattle.std.specs.List.{slice_get}
use Rattle.std.specs.BTreeMap as tree
use Rattle.std.specs.BTreeMap.{BTreeMap, is_at}
use Rattle.kv_block.specs.declared.changes.Change.{Change}
use Rattle.kv_block.specs.Bytes.{key_cmp, key_eq}
use Rattle.kv_block.proofs.Keys.{key_eq-is, at_is}
use Rattle.map_model.specs.Places.{places_at, value_of, latest}
use Rattle.map_model.proofs.FirstMoment.{latest_last}

-- the last of the places
slice_get_or : (ps : List ℕ) (i p : ℕ) → Some p ≡ slice_get ps i → p ≡ get_or ps i 0
slice_get_or [] i p e = absurd (cc)
slice_get_or (q ∷ ps) zero p e = (cc)
slice_get_or (q ∷ ps) (suc i) p e = slice_get_or ps i p e

pub latest_read : (C : List Change) (ps : List ℕ) (p : ℕ) → Some p ≡ slice_get ps (length ps - 1) → value_of C p ≡ latest C None ps
latest_read C ps p e =
    let less = slice_get_within ps (length ps - 1) p (sym e) in
    ap (value_of C) (slice_get_or ps (length ps - 1) p e) ∙ sym (latest_last C None ps (omega arith))

-- a place more at a key that had some
pub place_added : (m n : BTreeMap (List ℕ) (Vec ℕ Global)) (key q : List ℕ) (v w : Vec ℕ Global) (place : ℕ)
    → tree.get key_cmp m key ≡ Some v → tree.get key_cmp n q ≡ cond (is_at (key_cmp key) q) (Some w) (tree.get key_cmp m q) → w.items ≡ v.items ++ place ∷ []
    → places_at n q ≡ cond (key_eq q key) (places_at m q ++ place ∷ []) (places_at m q)
place_added m n key q v w place had is more =
    ap (λ o. option_map_or (λ (u : Vec ℕ Global). u.items) o []) (is ∙ ap (λ (b : Bool). cond b (Some w) (tree.get key_cmp m q)) (at_is key q))
    ∙ elim (key_eq q key) as (λ b. key_eq q key ≡ b → option_map_or (λ (u : Vec ℕ Global). u.items) (cond b (Some w) (tree.get key_cmp m q)) [] ≡ cond b (places_at m q ++ place ∷ []) (places_at m q)) [
      | true ↦ λ e.
          let same : tree.get key_cmp m q ≡ Some v = ap (tree.get key_cmp m) (key_eq-is q key e) ∙ had in
          more ∙ ap (λ o. option_map_or (λ (u : Vec ℕ Global). u.items) o [] ++ place ∷ []) (sym same)
      | false ↦ λ e. refl
    ] refl

-- nothing more
pub place_same : (m n : BTreeMap (List ℕ) (Vec ℕ Global)) (key q : List ℕ) (v w : Vec ℕ Global)
    → tree.get key_cmp m key ≡ Some v → tree.get key_cmp n q ≡ cond (is_at (key_cmp key) q) (Some w) (tree.get key_cmp m q) → w.items ≡ v.items → places_at n q ≡ places_at m q
place_same m n key q v w had is more =
    ap (λ o. option_map_or (λ (u : Vec ℕ Global). u.items) o []) (is ∙ ap (λ (b : Bool). cond b (Some w) (tree.get key_cmp m q)) (at_is key q))
    ∙ elim (key_eq q key) as (λ b. key_eq q key ≡ b → option_map_or (λ (u : Vec ℕ Global). u.items) (cond b (Some w) (tree.get key_cmp m q)) [] ≡ places_at m q) [
      | true ↦ λ e.
          let same : tree.get key_cmp m q ≡ Some v = ap (tree.get key_cmp m) (key_eq-is q key e) ∙ had in
          more ∙ ap (λ o. option_map_or (λ (u : Vec ℕ Global). u.items) o []) (sym same)
      | false ↦ λ e. refl
    ] refl

-- the first place of a key
pub place_first : (m n : BTreeMap (List ℕ) (Vec ℕ Global)) (key q : List ℕ) (w : Vec ℕ Global) (place : ℕ)
    → tree.get key_cmp m key ≡ None → tree.get key_cmp n q ≡ cond (is_at (key_cmp key) q) (Some w) (tree.get key_cmp m q) → w.items ≡ place ∷ []
    → places_at n q ≡ cond (key_eq q key) (places_at m q ++ place ∷ []) (places_at m q)
place_first m n key q w place had is more =
    ap (λ o. option_map_or (λ (u : Vec ℕ Global). u.items) o []) (is ∙ ap (λ (b : Bool). cond b (Some w) (tree.get key_cmp m q)) (at_is key q))
    ∙ elim (key_eq q key) as (λ b. key_eq q key ≡ b → option_map_or (λ (u : Vec ℕ Global). u.items) (cond b (Some w) (tree.get key_cmp m q)) [] ≡ cond b (places_at m q ++ place ∷ []) (places_at m q)) [
      | true ↦ λ e.
          let same : tree.get key_cmp m q ≡ None = ap (tree.get key_cmp m) (key_eq-is q key e) ∙ had in
          more ∙ ap (λ o. option_map_or (λ (u : Vec ℕ Global). u.items) o [] ++ place ∷ []) (sym same)
      | false ↦ λ e. refl
    ] refl

-- clauses on a result
pub OnErr_from : {A E : Type 0} (r : Result A E) (P : Type 0) → P → OnErr r P
OnErr_from (Ok a) P p = tt
OnErr_from (Err e) P p = p

pub OnOk_gives : {A E : Type 0} (r : Result A E) (P : Type 0) → IsOk r → OnOk r P → P
OnOk_gives (Ok a) P ok h = h
OnOk_gives (Err e) P ok h = absurd (search rules)
