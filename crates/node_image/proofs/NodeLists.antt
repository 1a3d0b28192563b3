-- The nodes' words as numbers.
use Rattle.std.specs.Prelude.{◌≡◌, ℕ, zero, suc, ◌+◌, ◌-◌, ◌^◌, ◌<◌, ◌≤◌, List, [], ◌∷◌, ◌++◌, length, take, drop, slice_get, slice_index, Some, Vec, ◌⊎◌, refl}
use Rattle.std.proofs.Common.{sym, ◌∙◌, ap, subst, inl, inr, arith, append-nil, append_assoc, length-append}
use Rattle.std.proofs.lemmas.List.{take_at, drop_at, drop-drop, drop_all, take-append-drop, get_or-take, length-drop, length-take-le}
use Rattle.std.proofs.lemmas.Grind.{flat_map-append}
use Rattle.node_words.specs.declared.geometry.Geometry.{Geometry}
use Rattle.node_words.specs.Addresses.{node_at, node_size}
use Rattle.race_laws.specs.Setting.{base}
use Rattle.race_laws.proofs.Regions.{base_from}
use Rattle.image_audit.specs.Shape.{IsNode, NodeFits, ImageFits, lists_of}
use Rattle.node_image.specs.Numbers.{AreNodes, words_of_nodes}
use Rattle.node_image.proofs.Prefixes.{all_from, prefix}

-- what stands at the front of numbers that begin with a node's words
pub record NodeFront (g : Geometry) (k : ℕ) (ns v : List ℕ) : Type 0 where
  pub some : 1 ≤ length ns
  pub next : slice_index ns 0 ≡ node_at g k + length v
  pub from : base g k ≤ slice_index ns 0
  pub to : slice_index ns 0 ≤ node_at g k + node_size g
  pub long : length v ≤ length ns

pub node_front : (g : Geometry) (k : ℕ) (ns v rest : List ℕ) → IsNode g k v → ns ≡ v ++ rest → NodeFront g k ns v
node_front g k ns [] rest h e = let b = base_from g k in let f = h.from in absurd (omega arith)
node_front g k ns (x ∷ v) rest h e =
    let l = ap length e in
    let m = length-append (x ∷ v) rest in
    let first : slice_index ns 0 ≡ x = ap (λ z. slice_index z 0) e in
    let n = h.next in
    let f = h.from in
    let t = h.to in
    record { some = omega arith; next = first ∙ n; from = omega arith; to = omega arith; long = omega arith }

pub node_one : (g : Geometry) (k : ℕ) (a b : List ℕ) (x y : List ℕ) → IsNode g k a → IsNode g k b → a ++ x ≡ b ++ y → (a ≡ b) × (x ≡ y)
node_one g k a b x y ha hb e =
    let f = (node_front g k (a ++ x) a x ha refl).next in
    let h = (node_front g k (a ++ x) b y hb e).next in
    let len : length a ≡ length b = omega arith in (
      sym (take_at a x (length a) refl) ∙ ap (λ n. take n (a ++ x)) len ∙ ap (take (length b)) e ∙ take_at b y (length b) refl,
      sym (drop_at a x (length a) refl) ∙ ap (λ n. drop n (a ++ x)) len ∙ ap (drop (length b)) e ∙ drop_at b y (length b) refl,
    )

-- a node's words were counted
pub counted : (g : Geometry) (k : ℕ) (ns : List ℕ) (next start from size : ℕ) → 1 ≤ length ns → next ≡ slice_index ns 0 → start ≡ node_at g k → from ≡ base g k → size ≡ node_size g → from ≤ next → next ≤ start + size → next - start ≤ length ns → IsNode g k (take (next - start) ns)
counted g k ns next start from size some ne se fe ze low high cut =
    let b = base_from g k in
    let l = length-take-le (next - start) ns cut in
    record {
      next = get_or-take (next - start) ns 0 0 (omega arith) ∙ sym ne ∙ parts;
      from = (let p = parts in omega arith);
      to = omega arith;
    }
  where
    parts : next ≡ node_at g k + length (take (next - start) ns)
    parts = let b = base_from g k in let l = length-take-le (next - start) ns cut in omega arith

get_last : {A : Type 0} (xs : List A) (x v : A) (k : ℕ) → slice_get (xs ++ x ∷ []) k ≡ Some v → (slice_get xs k ≡ Some v) ⊎ ((k ≡ length xs) × (v ≡ x))
get_last [] x v zero e = inr (refl, inside e)
  where
    inside : Some x ≡ Some v → v ≡ x
    inside e = cc
get_last [] x v (suc k) e = absurd (cc)
get_last (y ∷ xs) x v zero e = inl e
get_last (y ∷ xs) x v (suc k) e = by (get_last xs x v k e)
  where
    by : (slice_get xs k ≡ Some v) ⊎ ((k ≡ length xs) × (v ≡ x)) → (slice_get (y ∷ xs) (suc k) ≡ Some v) ⊎ ((suc k ≡ length (y ∷ xs)) × (v ≡ x))
    by (inl f) = inl f
    by (inr f) = inr ((let z = f.0 in omega arith), f.1)

lists_more : {A : Type 0} (xs : List (Vec ℕ A)) (x : Vec ℕ A) → lists_of (xs ++ x ∷ []) ≡ lists_of xs ++ x.items ∷ []
lists_more [] x = refl
lists_more (y ∷ xs) x = ap (λ v. y.items ∷ v) (lists_more xs x)

-- the words of so many nodes were read
pub record NodesSoFar (g : Geometry) (ns : List ℕ) (nodes : List (List ℕ)) (k at longest : ℕ) : Type 0 where
  pub whole : ns ≡ words_of_nodes nodes ++ drop at ns
  pub low : at ≤ length ns
  pub count : length nodes ≡ k
  pub fits : (j : ℕ) (v : List ℕ) → slice_get nodes j ≡ Some v → NodeFits g j v longest
  pub small : longest ≤ 2 ^ 24

pub nodes_start : (g : Geometry) (ns : List ℕ) (nodes : List (List ℕ)) → nodes ≡ [] → NodesSoFar g ns nodes 0 0 0
nodes_start g ns nodes e = subst (λ v. NodesSoFar g ns v 0 0 0) (sym e) (record { whole = refl; low = omega arith; count = refl; fits = λ j v f. absurd (cc); small = omega arith })

node_more : (g : Geometry) (ns : List ℕ) (old : List (List ℕ)) (k at longest n longer : ℕ) → NodesSoFar g ns old k at longest → IsNode g k (take n (drop at ns)) → n ≤ length (drop at ns) → n ≤ 2 ^ 24 → longest ≤ longer → n ≤ longer → longer ≤ 2 ^ 24 → NodesSoFar g ns (old ++ take n (drop at ns) ∷ []) (k + 1) (at + n) longer
node_more g ns old k at longest n longer s h l few lo hi sm = record {
  whole = s.whole ∙ ap (λ v. words_of_nodes old ++ v) (sym (take-append-drop n (drop at ns)) ∙ ap (λ v. take n (drop at ns) ++ v) (drop-drop n at ns)) ∙ sym (append_assoc (words_of_nodes old) (take n (drop at ns)) (drop (at + n) ns)) ∙ ap (λ v. v ++ drop (at + n) ns) (sym (flat_map-append (λ v. v) old (take n (drop at ns) ∷ []) ∙ ap (λ v. words_of_nodes old ++ v) (append-nil (take n (drop at ns)))));
  low = (let d = length-drop at ns in let w = s.low in omega arith);
  count = (let d = length-append old (take n (drop at ns) ∷ []) in let w = s.count in omega arith);
  fits = λ j v f. by j v (get_last old (take n (drop at ns)) v j f);
  small = sm;
}
  where
    by : (j : ℕ) (v : List ℕ) → (slice_get old j ≡ Some v) ⊎ ((j ≡ length old) × (v ≡ take n (drop at ns))) → NodeFits g j v longer
    by j v (inl f) = let x = s.fits j v f in record { next = x.next; from = x.from; to = x.to; short = (let y = x.short in omega arith) }
    by j v (inr f) =
        let w = s.count in
        let len = length-take-le n (drop at ns) l in
        let here : j ≡ k = f.0 ∙ w in
        let y : IsNode g j v = subst (λ z. IsNode g z v) (sym here) (subst (IsNode g k) (sym f.1) h) in
        record { next = y.next; from = y.from; to = y.to; short = (let z = ap length f.1 in omega arith) }

pub nodes_more : {A : Type 0} (g : Geometry) (ns : List ℕ) (old new : List (Vec ℕ A)) (x : Vec ℕ A) (k at longest n longer : ℕ) → NodesSoFar g ns (lists_of old) k at longest → IsNode g k (take n (drop at ns)) → n ≤ length (drop at ns) → n ≤ 2 ^ 24 → x.items ≡ take n (drop at ns) → new ≡ old ++ x ∷ [] → longest ≤ longer → n ≤ longer → longer ≤ 2 ^ 24 → NodesSoFar g ns (lists_of new) (k + 1) (at + n) longer
nodes_more g ns old new x k at longest n longer s h l few e ne lo hi sm =
    subst (λ v. NodesSoFar g ns v (k + 1) (at + n) longer) (sym (ap lists_of ne ∙ lists_more old x ∙ ap (λ v. lists_of old ++ v ∷ []) e)) (node_more g ns (lists_of old) k at longest n longer s h l few lo hi sm)

-- the numbers are those of all nodes, of which so many were read
module _ (g : Geometry) (ns : List ℕ) (old : List (List ℕ)) (k at longest : ℕ) (s : NodesSoFar g ns old k at longest) (nodes : List (List ℕ)) (h : AreNodes g nodes) (e : ns ≡ words_of_nodes nodes) where
  nodes_front : k ≤ g.nodes → (more : List (List ℕ)) × (nodes ≡ old ++ more) × (drop at ns ≡ words_of_nodes more ++ [])
  nodes_front l = prefix (λ v. v) (IsNode g) (node_one g) 0 old nodes (drop at ns) [] (all_from (IsNode g) 0 old (λ j v f. let x = s.fits j v f in subst (λ z. IsNode g z v) (zero_plus j) (record { next = x.next; from = x.from; to = x.to }))) (all_from (IsNode g) 0 nodes (λ j v f. subst (λ z. IsNode g z v) (zero_plus j) (h.node j v f))) (let c = s.count in let d = h.count in omega arith) (sym s.whole ∙ e ∙ sym (append-nil (words_of_nodes nodes)))
    where
      zero_plus : (j : ℕ) → j ≡ 0 + j
      zero_plus j = omega arith

  at_seam : (xs ys : List (List ℕ)) (v : List ℕ) → slice_get (xs ++ v ∷ ys) (length xs) ≡ Some v
  at_seam [] ys v = refl
  at_seam (x ∷ xs) ys v = at_seam xs ys v

  pub node_there : k < g.nodes → ((v rest : List ℕ) → IsNode g k v → drop at ns ≡ v ++ rest → ⊥) → ⊥
  node_there low f = let r = nodes_front (omega arith) in by r.0 r.1 r.2
    where
      by : (more : List (List ℕ)) → nodes ≡ old ++ more → drop at ns ≡ words_of_nodes more ++ [] → ⊥
      by [] a b = let x = ap length a in let y = length-append old [] in let c = s.count in let d = h.count in absurd (omega arith)
      by (v ∷ more) a b = f v (words_of_nodes more ++ []) (subst (λ z. IsNode g z v) s.count (h.node (length old) v (ap (λ z. slice_get z (length old)) a ∙ at_seam old more v))) (b ∙ append_assoc v (words_of_nodes more) [])

  pub nothing_behind : k ≡ g.nodes → at < length ns → ⊥
  nothing_behind full low = let r = nodes_front (omega arith) in by r.0 r.1 r.2
    where
      by : (more : List (List ℕ)) → nodes ≡ old ++ more → drop at ns ≡ words_of_nodes more ++ [] → ⊥
      by [] a b = let x = ap length b in let y = length-drop at ns in absurd (omega arith)
      by (v ∷ more) a b = let x = ap length a in let y = length-append old (v ∷ more) in let c = s.count in let d = h.count in absurd (omega arith)

pub nodes_whole : (g : Geometry) (ns : List ℕ) (nodes : List (List ℕ)) (k at longest : ℕ) → NodesSoFar g ns nodes k at longest → k ≡ g.nodes → length ns ≤ at → (ns ≡ words_of_nodes nodes) × ImageFits g nodes longest × (longest ≤ 2 ^ 24)
nodes_whole g ns nodes k at longest s full end = (s.whole ∙ ap (λ v. words_of_nodes nodes ++ v) (drop_all at ns end) ∙ append-nil (words_of_nodes nodes), record { count = s.count ∙ full; node = s.fits }, s.small)
