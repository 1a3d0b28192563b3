-- The words of an image, as they are read.
use Rattle.std.specs.Prelude.{◌≡◌, ◌≢◌, ℕ, zero, suc, ◌+◌, ◌*◌, ◌/◌, ◌%◌, ◌<◌, ◌≤◌, cond, nat_lt, List, [], ◌∷◌, length, slice_get, slice_index, Some, None, Vec, ◌⊎◌, refl}
use Rattle.std.proofs.Common.{sym, ◌∙◌, ap, subst, inl, inr, arith, ⊎_elim, get_or}
use Rattle.std.proofs.lemmas.Bool.Decides.{nat_tests}
use Rattle.node_words.specs.declared.geometry.Geometry.{Geometry}
use Rattle.node_words.specs.Addresses.{node_size, node_of, node_at, first_free}
use Rattle.node_words.specs.Opening.{opening_word}
use Rattle.node_words.proofs.Sizes.{node_of-div, node_at_is, node_size_range, first_free_words, first_free_low, node_at-0}
use Rattle.node_words.proofs.OpeningWords.{opening_heap, opening_next}
use Rattle.race_laws.specs.Setting.{base}
use Rattle.race_laws.proofs.Touch.{same_or_not}
use Rattle.race_laws.proofs.Regions.{base-0, base-above}
use Rattle.image_laws.specs.Sound.{IsTaken}
use Rattle.image_audit.specs.Shape.{ImageFits, lists_of, word_of_node, word_in, cell_of}
use Rattle.image_audit.proofs.Cells.{taken_in, in_taken, cell_low, split}

pub size_some : (g : Geometry) → 47 ≤ node_size g
size_some g = (node_size_range g).0

pub opening_past : (g : Geometry) (a : ℕ) → g.words ≤ a → a % node_size g ≡ 0 → opening_word g a ≡ a + 1
opening_past g a h z = by (a / node_size g) (node_at_is g a z) refl
  where
    by : (k : ℕ) → a ≡ node_at g k → a / node_size g ≡ k → opening_word g a ≡ a + 1
    by zero e d = let w = node_at-0 g in let x = node_size_range g in let y = first_free_words g in let v = first_free_low g in let u = h in absurd (omega arith)
    by (suc k) e d = ap (opening_word g) e ∙ opening_next g k ∙ ap (λ v. v + 1) (sym e)

pub opening_past_heap : (g : Geometry) (a : ℕ) → g.words ≤ a → a % node_size g ≢ 0 → opening_word g a ≡ 0
opening_past_heap g a h n = let x = first_free_words g in opening_heap g a (omega arith) n

get_index : (xs : List ℕ) (i x : ℕ) → slice_get xs i ≡ Some x → (i < length xs) × (slice_index xs i ≡ x)
get_index [] i x e = absurd (cc)
get_index (y ∷ xs) zero x e = (omega arith, inside e)
  where
    inside : Some y ≡ Some x → y ≡ x
    inside e = cc
get_index (y ∷ xs) (suc i) x e = let r = get_index xs i x e in (let z = r.0 in omega arith, r.1)

get_past : (xs : List ℕ) (i : ℕ) → slice_get xs i ≡ None → length xs ≤ i
get_past [] i e = omega arith
get_past (y ∷ xs) zero e = absurd (cc)
get_past (y ∷ xs) (suc i) e = let r = get_past xs i e in omega arith

module _ (g : Geometry) (nodes : List (List ℕ)) (a : ℕ) where
  pub word_none : slice_get nodes (a / node_size g) ≡ None → word_in g nodes a ≡ opening_word g a
  unfolding word_in node_of
  word_none e = ap (word_of_node g a) e

  pub word_some : (v : List ℕ) (x : ℕ) → slice_get nodes (a / node_size g) ≡ Some v → slice_get v (a % node_size g) ≡ Some x → word_in g nodes a ≡ x
  unfolding word_in node_of
  word_some v x e f =
      let r = get_index v (a % node_size g) x f in
      ap (word_of_node g a) e ∙ less (a % node_size g) (length v) (slice_index v (a % node_size g)) (opening_word g a) r.0 ∙ r.1
    where
      less : (x y p q : ℕ) → x < y → cond (nat_lt x y) p q ≡ p
      less x y p q h = grind (arith, nat_tests)

  pub word_short : (v : List ℕ) → slice_get nodes (a / node_size g) ≡ Some v → slice_get v (a % node_size g) ≡ None → word_in g nodes a ≡ opening_word g a
  unfolding word_in node_of
  word_short v e f =
      let r = get_past v (a % node_size g) f in
      ap (word_of_node g a) e ∙ not_less (a % node_size g) (length v) (slice_index v (a % node_size g)) (opening_word g a) r
    where
      not_less : (x y p q : ℕ) → y ≤ x → cond (nat_lt x y) p q ≡ q
      not_less x y p q h = grind (arith, nat_tests)

  module _ (longest : ℕ) (f : ImageFits g nodes longest) where
    pub no_node : slice_get nodes (a / node_size g) ≡ None → IsTaken g (word_in g nodes) a → ⊥
    no_node e t = let r = taken_in g nodes longest f a t in let x = ap (slice_get nodes) (node_of-div g a) in let y = r.1 in cc

    -- where a node's words may be taken from, by the offset
    from_is : (from : ℕ) → ((a / node_size g ≡ 0) → from ≡ first_free g) → ((a / node_size g ≢ 0) → from ≡ 1) → base g (node_of g a) ≡ node_at g (node_of g a) + from
    from_is from z n = ⊎_elim
        (λ (e : a / node_size g ≡ 0). let k = node_of-div g a ∙ e in base-0 g (node_of g a) k ∙ sym (z e) ∙ zero_at (node_at g (node_of g a)) from (ap (node_at g) k ∙ node_at-0 g))
        (λ (e : a / node_size g ≢ 0). base-above g (node_of g a) (λ y. e (sym (node_of-div g a) ∙ y)) ∙ ap (λ v. node_at g (node_of g a) + v) (sym (n e)))
        (same_or_not (a / node_size g) 0)
      where
        zero_at : (x y : ℕ) → x ≡ 0 → y ≡ x + y
        zero_at x y h = omega arith

    pub too_low : (v : List ℕ) → slice_get nodes (a / node_size g) ≡ Some v → (from : ℕ) → ((a / node_size g ≡ 0) → from ≡ first_free g) → ((a / node_size g ≢ 0) → from ≡ 1) → (a % node_size g < from) ⊎ (length v ≤ a % node_size g) → IsTaken g (word_in g nodes) a → ⊥
    too_low v e from z n c t = by c (taken_in g nodes longest f a t)
      where
        same : (u : List ℕ) → slice_get nodes (node_of g a) ≡ Some u → length u ≡ length v
        same u k = let x = ap (slice_get nodes) (node_of-div g a) in ap (λ (y : List ℕ). length y) (inside (sym k ∙ x ∙ e))
          where
            inside : {p q : List ℕ} → Some p ≡ Some q → p ≡ q
            inside h = cc

        by : (a % node_size g < from) ⊎ (length v ≤ a % node_size g) → (u : List ℕ) × (slice_get nodes (node_of g a) ≡ Some u) × (base g (node_of g a) ≤ a) × (a % node_size g < length u) → ⊥
        by (inl l) r = let b = from_is from z n in let s = split g a in let y = r.2 in omega arith
        by (inr l) r = let b = same r.0 r.1 in let y = r.3 in omega arith

    pub in_cell : (v : List ℕ) → slice_get nodes (a / node_size g) ≡ Some v → (from : ℕ) → ((a / node_size g ≡ 0) → from ≡ first_free g) → ((a / node_size g ≢ 0) → from ≡ 1) → from ≤ a % node_size g → a % node_size g < length v → (a % node_size g * g.nodes + a / node_size g ≡ cell_of g a) × (a % node_size g * g.nodes + a / node_size g < longest * g.nodes) × IsTaken g (word_in g nodes) a
    unfolding cell_of node_of
    in_cell v e from z n l h =
        let b = from_is from z n in
        let s = split g a in
        (refl, cell_low g nodes longest f a v e h, in_taken g nodes longest f a v e (omega arith) h)

get_here : {A : Type 0} (xs : List A) (i : ℕ) (v : A) → i < length xs → v ≡ get_or xs i v → slice_get xs i ≡ Some v
get_here xs i v h e = found xs i v h ∙ ap Some (sym e)
  where
    found : {A : Type 0} (xs : List A) (i : ℕ) (d : A) → i < length xs → slice_get xs i ≡ Some (get_or xs i d)
    found [] i d h = absurd (omega arith)
    found (x ∷ xs) zero d h = refl
    found (x ∷ xs) (suc i) d h = found xs i d (omega arith)

get_gone : {A : Type 0} (xs : List A) (i : ℕ) → length xs ≤ i → slice_get xs i ≡ None
get_gone [] i h = refl
get_gone (x ∷ xs) zero h = absurd (omega arith)
get_gone (x ∷ xs) (suc i) h = get_gone xs i (omega arith)

get_items : {A : Type 0} (xs : List (Vec ℕ A)) (i : ℕ) (v : Vec ℕ A) → slice_get xs i ≡ Some v → slice_get (lists_of xs) i ≡ Some v.items
get_items [] i v e = absurd (cc)
get_items (x ∷ xs) zero v e = ap Some (ap (λ u. u.items) (inside e))
  where
    inside : Some x ≡ Some v → x ≡ v
    inside e = cc
get_items (x ∷ xs) (suc i) v e = get_items xs i v e

pub length-lists_of : {A : Type 0} (xs : List (Vec ℕ A)) → length (lists_of xs) ≡ length xs
length-lists_of [] = refl
length-lists_of (x ∷ xs) = let e = length-lists_of xs in omega arith

-- the same, of what the code has read
module _ {A : Type 0} (g : Geometry) (nodes : List (Vec ℕ A)) (a size : ℕ) (se : size ≡ node_size g) where
  node_here : (v : Vec ℕ A) → a / size < length nodes → v ≡ get_or nodes (a / size) v → slice_get (lists_of nodes) (a / node_size g) ≡ Some v.items
  node_here v h e = ap (λ u. slice_get (lists_of nodes) (a / u)) (sym se) ∙ get_items nodes (a / size) v (get_here nodes (a / size) v h e)

  node_gone : length nodes ≤ a / size → slice_get (lists_of nodes) (a / node_size g) ≡ None
  node_gone h = ap (λ u. slice_get (lists_of nodes) (a / u)) (sym se) ∙ get_gone (lists_of nodes) (a / size) (subst (λ n. n ≤ a / size) (sym (length-lists_of nodes)) h)

  pub read_none : (x : ℕ) → length nodes ≤ a / size → x ≡ opening_word g a → x ≡ word_in g (lists_of nodes) a
  read_none x h e = e ∙ sym (word_none g (lists_of nodes) a (node_gone h))

  pub read_short : (v : Vec ℕ A) (x : ℕ) → a / size < length nodes → v ≡ get_or nodes (a / size) v → length v.items ≤ a % size → x ≡ opening_word g a → x ≡ word_in g (lists_of nodes) a
  read_short v x h e l k = k ∙ sym (word_short g (lists_of nodes) a v.items (node_here v h e) (ap (λ u. slice_get v.items (a % u)) (sym se) ∙ get_gone v.items (a % size) l))

  pub read_some : (v : Vec ℕ A) (x : ℕ) → a / size < length nodes → v ≡ get_or nodes (a / size) v → a % size < length v.items → x ≡ get_or v.items (a % size) x → x ≡ word_in g (lists_of nodes) a
  read_some v x h e l k = sym (word_some g (lists_of nodes) a v.items x (node_here v h e) (ap (λ u. slice_get v.items (a % u)) (sym se) ∙ get_here v.items (a % size) x l k))

  module _ (longest : ℕ) (f : ImageFits g (lists_of nodes) longest) where
    pub cell_none : length nodes ≤ a / size → IsTaken g (word_in g (lists_of nodes)) a → ⊥
    cell_none h t = no_node g (lists_of nodes) a longest f (node_gone h) t

    pub cell_out : (v : Vec ℕ A) → a / size < length nodes → v ≡ get_or nodes (a / size) v → (from : ℕ) → (a / size ≡ 0 → from ≡ first_free g) → (a / size ≢ 0 → from ≡ 1) → (a % size < from) ⊎ (length v.items ≤ a % size) → IsTaken g (word_in g (lists_of nodes)) a → ⊥
    cell_out v h e from z n c t = too_low g (lists_of nodes) a longest f v.items (node_here v h e) from (λ y. z (ap (λ u. a / u) se ∙ y)) (λ y. n (λ q. y (ap (λ u. a / u) (sym se) ∙ q))) (subst (λ u. (a % u < from) ⊎ (length v.items ≤ a % u)) se c) t

    pub cell_in : (v : Vec ℕ A) → a / size < length nodes → v ≡ get_or nodes (a / size) v → (from : ℕ) → (a / size ≡ 0 → from ≡ first_free g) → (a / size ≢ 0 → from ≡ 1) → from ≤ a % size → a % size < length v.items → (x : ℕ) → x ≡ a % size * g.nodes + a / size → (x ≡ cell_of g a) × (x < longest * g.nodes) × IsTaken g (word_in g (lists_of nodes)) a
    cell_in v h e from z n l k x xe =
        let r = in_cell g (lists_of nodes) a longest f v.items (node_here v h e) from (λ y. z (ap (λ u. a / u) se ∙ y)) (λ y. n (λ q. y (ap (λ u. a / u) (sym se) ∙ q))) (subst (λ u. from ≤ a % u) se l) (subst (λ u. a % u < length v.items) se k) in
        let same : x ≡ a % node_size g * g.nodes + a / node_size g = xe ∙ ap (λ u. a % u * g.nodes + a / u) se in
        (same ∙ r.0, subst (λ u. u < longest * g.nodes) (sym same) r.1, r.2)

    pub cell_few : (v : Vec ℕ A) → a / size < length nodes → v ≡ get_or nodes (a / size) v → a % size < length v.items → (a % size ≤ longest) × (a / size < g.nodes)
    cell_few v h e k =
        let n = f.node (a / size) v.items (get_items nodes (a / size) v (get_here nodes (a / size) v h e)) in
        let s = n.short in
        let c = f.count in
        let m = length-lists_of nodes in
        (omega arith, omega arith)
