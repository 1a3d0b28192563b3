-- Images: taken addresses and their cells.
use Rattle.std.specs.Prelude.{◌≡◌, ℕ, zero, suc, ◌+◌, ◌-◌, ◌*◌, ◌/◌, ◌%◌, ◌^◌, ◌<◌, ◌≤◌, cond, nat_lt, List, [], ◌∷◌, length, slice_get, slice_index, Option, Some, refl}
use Rattle.std.proofs.Common.{sym, ◌∙◌, ap, subst, arith, le_refl}
use Rattle.std.proofs.lemmas.Bool.Decides.{nat_tests}
use Rattle.std.proofs.Math.Nat.{div-add-mod'}
use Rattle.std.proofs.lemmas.Nat.{div-mul-add, mul-le}
use Rattle.node_words.specs.declared.geometry.Geometry.{Geometry}
use Rattle.node_words.specs.Addresses.{node_size, node_of, node_at}
use Rattle.node_words.specs.Opening.{opening_word}
use Rattle.node_words.proofs.Sizes.{node_is, node_at-mod, node_ends, node_size_range}
use Rattle.race_laws.specs.Setting.{base}
use Rattle.race_laws.proofs.Regions.{base_from}
use Rattle.image_laws.specs.Sound.{IsTaken, NextsFit}
use Rattle.image_audit.specs.Shape.{ImageFits, word_of_node, word_in, cell_of}

get_low : {A : Type 0} (xs : List A) (k : ℕ) → k < length xs → (v : A) × (slice_get xs k ≡ Some v)
get_low [] k h = absurd (omega arith)
get_low (x ∷ xs) zero h = (x, refl)
get_low (x ∷ xs) (suc k) h = get_low xs k (omega arith)

get_high : {A : Type 0} (xs : List A) (k : ℕ) (v : A) → slice_get xs k ≡ Some v → k < length xs
get_high [] k v e = absurd (cc)
get_high (x ∷ xs) zero v e = omega arith
get_high (x ∷ xs) (suc k) v e = let h = get_high xs k v e in omega arith

same_get : {A : Type 0} (o : Option A) (u v : A) → o ≡ Some u → o ≡ Some v → u ≡ v
same_get o u v e f = cc

-- where an address stands in its node
pub split : (g : Geometry) (a : ℕ) → a ≡ node_at g (node_of g a) + a % node_size g
unfolding node_at node_of
split g a = let e = div-add-mod' a (node_size g) in omega arith

stands_in : (g : Geometry) (k a : ℕ) → node_at g k ≤ a → a < node_at g k + node_size g → node_of g a ≡ k
stands_in g k a h l = ap (node_of g) (cut (node_at g k) a h) ∙ node_is g k (a - node_at g k) (omega arith)
  where
    cut : (x y : ℕ) → x ≤ y → y ≡ x + (y - x)
    cut x y h = omega arith

cond_less : (x y : ℕ) (p q : ℕ) → x < y → cond (nat_lt x y) p q ≡ p
cond_less x y p q h = grind (arith, nat_tests)

module _ (g : Geometry) (nodes : List (List ℕ)) (longest : ℕ) (f : ImageFits g nodes longest) where
  -- the next word of a node
  next_word : (k : ℕ) → k < g.nodes → (v : List ℕ) × (slice_get nodes k ≡ Some v) × (word_in g nodes (node_at g k) ≡ node_at g k + length v)
  unfolding word_in
  next_word k h =
      let c = f.count in
      let r = get_low nodes k (omega arith) in
      let n = f.node k r.0 r.1 in
      let s = node_size_range g in
      let b = base_from g k in
      let m = n.from in
      let at : node_of g (node_at g k) ≡ k = stands_in g k (node_at g k) (omega arith) (omega arith) in
      let z : node_at g k % node_size g ≡ 0 = node_at-mod g k in
      let some : 0 < length r.0 = omega arith in (
        r.0,
        r.1,
        ap (λ v. word_of_node g (node_at g k) (slice_get nodes v)) at ∙ ap (word_of_node g (node_at g k)) r.1
            ∙ ap (λ v. cond (nat_lt v (length r.0)) (slice_index r.0 v) (opening_word g (node_at g k))) z
            ∙ cond_less 0 (length r.0) (slice_index r.0 0) (opening_word g (node_at g k)) some ∙ n.next,
      )

  -- a taken address stands among its node's words
  pub taken_in : (a : ℕ) → IsTaken g (word_in g nodes) a → (v : List ℕ) × (slice_get nodes (node_of g a) ≡ Some v) × (base g (node_of g a) ≤ a) × (a % node_size g < length v)
  taken_in a t =
      let r = next_word t.node t.is_node in
      let n = f.node t.node r.0 r.1 in
      let b = base_from g t.node in
      let from = t.from in
      let to : a < node_at g t.node + length r.0 = subst (λ v. a < v) r.2 t.to in
      let short = n.to in
      let k : node_of g a ≡ t.node = stands_in g t.node a (omega arith) (omega arith) in
      let e = split g a in
      let w = ap (node_at g) k in
      (r.0, ap (slice_get nodes) k ∙ r.1, subst (λ v. base g v ≤ a) (sym k) from, omega arith)

  pub in_taken : (a : ℕ) (v : List ℕ) → slice_get nodes (node_of g a) ≡ Some v → base g (node_of g a) ≤ a → a % node_size g < length v → IsTaken g (word_in g nodes) a
  in_taken a v e b l =
      let h = get_high nodes (node_of g a) v e in
      let c = f.count in
      let low : node_of g a < g.nodes = omega arith in
      let r = next_word (node_of g a) low in
      let same = same_get (slice_get nodes (node_of g a)) v r.0 e r.1 in
      let size = ap (λ (u : List ℕ). length u) same in
      let sp = split g a in
      let w = r.2 in
      record { node = node_of g a; is_node = low; from = b; to = omega arith }

  pub cell_low : (a : ℕ) (v : List ℕ) → slice_get nodes (node_of g a) ≡ Some v → a % node_size g < length v → cell_of g a < longest * g.nodes
  unfolding cell_of
  cell_low a v e l =
      let h = get_high nodes (node_of g a) v e in
      let c = f.count in
      let s = (f.node (node_of g a) v e).short in
      below (a % node_size g) longest (node_of g a) g.nodes (omega arith) (omega arith)
    where
      below : (x m y n : ℕ) → x < m → y < n → x * n + y < m * n
      below x m y n h k = let z = mul-le (suc x) n m n h (le_refl _) in omega arith

  pub cell_one : (a b : ℕ) → IsTaken g (word_in g nodes) a → IsTaken g (word_in g nodes) b → cell_of g a ≡ cell_of g b → a ≡ b
  unfolding cell_of
  cell_one a b t u e =
      let x = taken_in a t in
      let y = taken_in b u in
      let hx = get_high nodes (node_of g a) x.0 x.1 in
      let hy = get_high nodes (node_of g b) y.0 y.1 in
      let c = f.count in
      let d = digits (a % node_size g) (node_of g a) (b % node_size g) (node_of g b) g.nodes (omega arith) (omega arith) e in
      split g a ∙ ap (λ v. node_at g v + a % node_size g) d.1 ∙ ap (λ v. node_at g (node_of g b) + v) d.0 ∙ sym (split g b)
    where
      digits : (x k y l n : ℕ) → k < n → l < n → x * n + k ≡ y * n + l → (x ≡ y) × (k ≡ l)
      digits x k y l n h j e =
          let p = sym (div-mul-add x n k h) ∙ ap (λ v. v / n) e ∙ div-mul-add y n l j in
          let q = ap (λ v. v * n) p in
          (p, omega arith)

  pub taken_low : (a : ℕ) → IsTaken g (word_in g nodes) a → a < 2 ^ 24
  taken_low a t =
      let r = next_word t.node t.is_node in
      let n = (f.node t.node r.0 r.1).to in
      let e = node_ends g t.node t.is_node in
      let z = g.within in
      let to = t.to in
      let w = r.2 in
      omega arith

  -- each next word lies from its opening value to its node's end
  pub nexts_fit : NextsFit g (word_in g nodes)
  nexts_fit k h =
      let r = next_word k h in
      let n = f.node k r.0 r.1 in
      let from = n.from in
      let to = n.to in
      (subst (λ v. base g k ≤ v) (sym r.2) from, (let e = r.2 in omega arith))
