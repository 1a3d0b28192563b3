-- The list of tables is the first tables with the children of all its tables behind them, and there is no other such list.
use Rattle.std.specs.Prelude.{◌≡◌, ℕ, zero, suc, ◌+◌, ◌<◌, ◌≤◌, List, [], ◌∷◌, ◌++◌, length, take, drop, refl}
use Rattle.std.specs.List.{range_with_len, flat_map}
use Rattle.std.proofs.Common.{sym, ◌∙◌, ap, subst, inl, arith, append_assoc, append-nil, get_or, length-append}
use Rattle.std.proofs.lemmas.List.{take-append-drop, get_or_append_left, take_more}
use Rattle.std.proofs.Math.Seq.{drop-append_seam, take-length}
use Rattle.std.proofs.lemmas.Grind.{flat_map-append}
use Rattle.std.proofs.lemmas.List.Folds.{flat_map-map}
use Rattle.node_words.specs.declared.geometry.Geometry.{Geometry}
use Rattle.node_words.specs.Addresses.{table_words}
use Rattle.node_words.proofs.Sizes.{few_first}
use Rattle.race_laws.specs.Standing.{IsIn}
use Rattle.image_laws.specs.declared.table.ImageTable.{ImageTable}
use Rattle.image_laws.specs.Walk.{Words, firsts, children, reach, tables, WalkWord, TableWord, words_of}
use Rattle.image_laws.specs.Sound.{named_by, listed_by}
use Rattle.image_laws.proofs.Members.{in_flat_back}
use Rattle.image_laws.proofs.Tables.{child_back, reach-zero, reach-suc, Deep, deeper, firsts_back}

module _ (g : Geometry) (w : Words) where
  abbrev below : List ImageTable → List ImageTable
  below ts = flat_map (children g w) ts

  abbrev Low : List ImageTable → Type 0
  Low ts = (t : ImageTable) → IsIn t ts → t.depth ≤ 16

  low_below : (ts : List ImageTable) → Low (below ts)
  low_below ts c h =
      let r = in_flat_back (children g w) c ts h in
      let x = child_back g w r.0 c r.2 in
      let e = ap (λ (t : ImageTable). t.depth) x.1.is in
      let b = x.1.below in
      omega arith

  none_deep : (ts : List ImageTable) → Deep g 17 ts → Low ts → ts ≡ []
  none_deep [] d l = refl
  none_deep (t ∷ ts) d l = let a = d t (inl refl) in let b = l t (inl refl) in absurd (omega arith)

  more : (n : ℕ) (ts : List ImageTable) → ts ++ below (reach g n w ts) ≡ reach g (suc n) w ts
  more zero ts = ap (λ v. ts ++ below v) (reach-zero g w ts) ∙ ap (λ v. ts ++ v) (sym (reach-zero g w (below ts))) ∙ sym (reach-suc g zero w ts)
  more (suc n) ts =
      ap (λ v. ts ++ below v) (reach-suc g n w ts) ∙ ap (λ v. ts ++ v) (flat_map-append (children g w) ts (reach g n w (below ts)) ∙ more n (below ts)) ∙ sym (reach-suc g (suc n) w ts)

  stops : (n k : ℕ) → n + k ≡ 17 → (ts : List ImageTable) → Deep g k ts → Low ts → reach g (suc n) w ts ≡ reach g n w ts
  stops zero k e ts d l =
      let z = none_deep ts (λ t h. let x = d t h in omega arith) l in
      reach-suc g zero w ts ∙ ap (λ v. ts ++ v) (reach-zero g w (below ts)) ∙ append-nil ts ∙ z ∙ sym (reach-zero g w ts)
  stops (suc n) k e ts d l =
      reach-suc g (suc n) w ts ∙ ap (λ v. ts ++ v) (stops n (k + 1) (omega arith) (below ts) (deeper g k w ts d) (low_below ts)) ∙ sym (reach-suc g n w ts)

  low_firsts : Low (firsts g)
  low_firsts t h = let r = firsts_back g t h in let e = ap (λ (t : ImageTable). t.depth) r.2 in let f = few_first g in omega arith

  -- the list is the first tables, with the children of all its tables behind them
  pub whole : tables g w ≡ firsts g ++ below (tables g w)
  unfolding tables
  whole = sym (more 17 (firsts g) ∙ stops 17 0 refl (firsts g) (λ t h. omega arith) low_firsts)

  -- tables that are all children of one another there are none
  falls : (n : ℕ) (ts : List ImageTable) → ts ≡ below ts → Deep g n ts
  falls zero ts e t h = omega arith
  falls (suc n) ts e t h = let x = deeper g n w ts (falls n ts e) t (subst (IsIn t) e h) in omega arith

  none : (ts : List ImageTable) → ts ≡ below ts → ts ≡ []
  none ts e = none_deep ts (falls 17 ts e) (subst Low (sym e) (low_below ts))

  -- what the words of whole tables name
  named_table : (t : ImageTable) → flat_map (named_by w) (words_of g t) ≡ children g w t
  named_table t = flat_map-map (named_by w) (TableWord t) (range_with_len 0 (table_words g))

  pub named_tables : (ts : List ImageTable) → flat_map (named_by w) (flat_map (words_of g) ts) ≡ below ts
  named_tables [] = refl
  named_tables (t ∷ ts) = flat_map-append (named_by w) (words_of g t) (flat_map (words_of g) ts) ∙ ap (λ v. v ++ flat_map (named_by w) (flat_map (words_of g) ts)) (named_table t) ∙ ap (λ v. children g w t ++ v) (named_tables ts)

  -- the words of the first k tables
  abbrev pub front : ℕ → List WalkWord
  front k = flat_map (words_of g) (take k (tables g w))

  pub listed_front : (k : ℕ) → listed_by g w (front k) ++ below (drop k (tables g w)) ≡ tables g w
  listed_front k =
      ap (λ v. (firsts g ++ v) ++ below (drop k (tables g w))) (named_tables (take k (tables g w)))
      ∙ append_assoc (firsts g) (below (take k (tables g w))) (below (drop k (tables g w)))
      ∙ ap (λ v. firsts g ++ v) (sym (flat_map-append (children g w) (take k (tables g w)) (drop k (tables g w))) ∙ ap below (take-append-drop k (tables g w)))
      ∙ sym whole

  -- once the words of as many tables were walked as are listed, all are
  pub all_walked : (k : ℕ) → k ≡ length (listed_by g w (front k)) → (listed_by g w (front k) ≡ tables g w) × (front k ≡ flat_map (words_of g) (tables g w))
  all_walked k e = (whole_list, ap (flat_map (words_of g)) (ap (λ v. take v (tables g w)) size ∙ take-length (tables g w)))
    where
      rest_is : drop k (tables g w) ≡ below (drop k (tables g w))
      rest_is = ap (λ v. drop v (tables g w)) e ∙ ap (drop (length (listed_by g w (front k)))) (sym (listed_front k)) ∙ drop-append_seam (listed_by g w (front k)) (below (drop k (tables g w)))

      whole_list : listed_by g w (front k) ≡ tables g w
      whole_list = sym (append-nil (listed_by g w (front k))) ∙ ap (λ v. listed_by g w (front k) ++ v) (sym (sym rest_is ∙ none (drop k (tables g w)) rest_is)) ∙ listed_front k

      size : k ≡ length (tables g w)
      size = e ∙ ap length whole_list

  -- the next table of the walk is the one that stands next in the list so far
  pub next_table : (k : ℕ) (d : ImageTable) → k < length (listed_by g w (front k)) → get_or (listed_by g w (front k)) k d ≡ get_or (tables g w) k d
  next_table k d h = sym (get_or_append_left (listed_by g w (front k)) (below (drop k (tables g w))) d k h) ∙ ap (λ v. get_or v k d) (listed_front k)

  pub next_low : (k : ℕ) → k < length (listed_by g w (front k)) → k < length (tables g w)
  next_low k h = let a = ap length (listed_front k) in let b = length-append (listed_by g w (front k)) (below (drop k (tables g w))) in omega arith

  pub next_front : (k : ℕ) (d : ImageTable) → k < length (listed_by g w (front k)) → front (k + 1) ≡ front k ++ words_of g (get_or (tables g w) k d)
  next_front k d h = ap (flat_map (words_of g)) (take_more (tables g w) k d (next_low k h)) ∙ flat_map-append (words_of g) (take k (tables g w)) (get_or (tables g w) k d ∷ []) ∙ ap (λ v. front k ++ v) (append-nil (words_of g (get_or (tables g w) k d)))
