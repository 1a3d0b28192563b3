-- The words of a memory's nodes, of each node those up to the one before its next word.
use Rattle.std.specs.Prelude.{◌≡◌, ℕ, zero, suc, ◌+◌, ◌-◌, ◌%◌, ◌^◌, ◌<◌, ◌≤◌, List, [], ◌∷◌, ◌++◌, map, length, slice_get, Some, None, Vec, refl}
use Rattle.std.specs.List.{range_with_len}
use Rattle.std.proofs.Common.{sym, ◌∙◌, ap, subst, arith, ⊎_elim}
use Rattle.std.proofs.lemmas.Bool.{cases_lt}
use Rattle.std.proofs.lemmas.List.FromFn.{length-map-range_with_len, map-range_with_len_more}
use Rattle.node_words.specs.declared.geometry.Geometry.{Geometry}
use Rattle.node_words.specs.Addresses.{node_at, node_of, node_size}
use Rattle.node_words.specs.Opening.{opening_word}
use Rattle.node_words.proofs.Sizes.{node_of-div, node_below, node_size_range, node_ends}
use Rattle.race_laws.proofs.Regions.{base_from}
use Rattle.race_laws.proofs.Touch.{same_or_not}
use Rattle.image_laws.specs.Walk.{Words}
use Rattle.image_laws.specs.Sound.{NextsFit, words_from}
use Rattle.image_audit.specs.Shape.{IsNode, NodeFits, ImageFits, lists_of, word_in}
use Rattle.image_audit.proofs.Cells.{split}
use Rattle.image_audit.proofs.Images.{word_none, word_some, word_short}
use Rattle.node_image.specs.Numbers.{AreNodes}
use Rattle.node_image.specs.Parts.{part_of, parts_of}
use Rattle.node_image.proofs.WordRuns.{length_from, get_from, first_from}

get_range : {A : Type 0} (f : ℕ → A) (a n i : ℕ) → i < n → slice_get (map f (range_with_len a n)) i ≡ Some (f (a + i))
get_range f a zero i h = absurd (omega arith)
get_range f a (suc n) zero h = ap (λ v. Some (f v)) (plus a)
  where
    plus : (a : ℕ) → a ≡ a + 0
    plus a = omega arith
get_range f a (suc n) (suc i) h = get_range f (a + 1) n i (omega arith) ∙ ap (λ v. Some (f v)) (plus a i)
  where
    plus : (a i : ℕ) → a + 1 + i ≡ a + suc i
    plus a i = omega arith

get_past : {A : Type 0} (xs : List A) (i : ℕ) → length xs ≤ i → slice_get xs i ≡ None
get_past [] i h = refl
get_past (x ∷ xs) zero h = absurd (omega arith)
get_past (x ∷ xs) (suc i) h = get_past xs i (omega arith)

get_within : {A : Type 0} (xs : List A) (i : ℕ) (v : A) → slice_get xs i ≡ Some v → i < length xs
get_within [] i v e = absurd (cc)
get_within (x ∷ xs) zero v e = omega arith
get_within (x ∷ xs) (suc i) v e = let r = get_within xs i v e in omega arith

module _ (g : Geometry) (w : Words) where
  abbrev next : ℕ → ℕ
  next k = w (node_at g k)

  pub length_part : (k : ℕ) → length (part_of g w k) ≡ next k - node_at g k
  length_part k = length_from w (node_at g k) (next k - node_at g k)

  pub get_part : (k : ℕ) → k < g.nodes → slice_get (parts_of g w) k ≡ Some (part_of g w k)
  get_part k h = get_range (part_of g w) 0 g.nodes k h ∙ ap (λ v. Some (part_of g w v)) (zero_plus k)
    where
      zero_plus : (k : ℕ) → 0 + k ≡ k
      zero_plus k = omega arith

  length_parts : length (parts_of g w) ≡ g.nodes
  length_parts = length-map-range_with_len (part_of g w) 0 g.nodes

  part_low : (k : ℕ) (v : List ℕ) → slice_get (parts_of g w) k ≡ Some v → k < g.nodes
  part_low k v e = let a = get_within (parts_of g w) k v e in let b = length_parts in omega arith

  part_is : (k : ℕ) (v : List ℕ) → slice_get (parts_of g w) k ≡ Some v → part_of g w k ≡ v
  part_is k v e = inside (sym (get_part k (part_low k v e)) ∙ e)
    where
      inside : Some (part_of g w k) ≡ Some v → part_of g w k ≡ v
      inside e = cc

  -- the parts of so many nodes, none of them longer
  pub record PartsSoFar (nodes : List (List ℕ)) (k longest : ℕ) : Type 0 where
    pub are : nodes ≡ map (part_of g w) (range_with_len 0 k)
    pub short : (j : ℕ) → j < k → length (part_of g w j) ≤ longest
    pub low : longest ≤ 2 ^ 24

  module _ (fit : NextsFit g w) where
    pub next_high : (k : ℕ) → k < g.nodes → node_at g k < next k
    next_high k h = let a = (fit k h).0 in let b = base_from g k in omega arith

    pub next_most : (k : ℕ) → k < g.nodes → next k ≤ node_at g k + node_size g
    next_most k h = (fit k h).1

    part_node : (k : ℕ) → k < g.nodes → IsNode g k (part_of g w k)
    part_node k h =
        let l = length_part k in
        let a = next_high k h in
        let b = fit k h in
        let from = b.0 in
        let to = b.1 in
        let sum : next k ≡ node_at g k + length (part_of g w k) = omega arith in
        record {
          next = first_from w (node_at g k) (next k - node_at g k) (omega arith) ∙ sum;
          from = omega arith;
          to = omega arith;
        }

    pub parts_stand : AreNodes g (parts_of g w)
    parts_stand = record { count = length_parts; node = λ k v e. subst (IsNode g k) (part_is k v e) (part_node k (part_low k v e)) }

    pub parts_start : (nodes : List (List ℕ)) → nodes ≡ [] → PartsSoFar nodes 0 0
    parts_start nodes e = record { are = e; short = λ j h. omega arith; low = omega arith }

    pub part_few : (k : ℕ) → k < g.nodes → length (part_of g w k) ≤ 2 ^ 24
    part_few k h = let l = length_part k in let a = next_most k h in let b = node_size_range g in let c = b.1 in omega arith

    pub parts_more : (old new : List (List ℕ)) (k longest longer : ℕ) → k < g.nodes → PartsSoFar old k longest → new ≡ old ++ part_of g w k ∷ [] → longest ≤ longer → length (part_of g w k) ≤ longer → longer ≤ 2 ^ 24 → PartsSoFar new (k + 1) longer
    parts_more old new k longest longer low s e a b m = record {
      are = e ∙ ap (λ v. v ++ part_of g w k ∷ []) s.are ∙ sym (map-range_with_len_more (part_of g w) 0 k k (omega arith));
      short = λ j h. ⊎_elim (λ (x : j ≡ k). subst (λ v. length (part_of g w v) ≤ longer) (sym x) b) (λ n. let y = s.short j (omega arith) in omega arith) (same_or_not j k);
      low = m;
    }

    fits_at : (longest : ℕ) → ((j : ℕ) → j < g.nodes → length (part_of g w j) ≤ longest) → (k : ℕ) → k < g.nodes → NodeFits g k (part_of g w k) longest
    fits_at longest s k h = let n = part_node k h in record { next = n.next; from = n.from; to = n.to; short = s k h }

    pub parts_whole : (nodes : List (List ℕ)) (k longest : ℕ) → k ≡ g.nodes → PartsSoFar nodes k longest → (nodes ≡ parts_of g w) × ImageFits g nodes longest × (longest ≤ 2 ^ 24)
    parts_whole nodes k longest e s = (
      all,
      subst (λ v. ImageFits g v longest) (sym all) (record { count = length_parts; node = λ j v f. subst (λ z. NodeFits g j z longest) (part_is j v f) (fits_at longest (λ i h. s.short i (subst (λ n. i < n) (sym e) h)) j (part_low j v f)) }),
      s.low,
    )
      where
        all : nodes ≡ parts_of g w
        all = s.are ∙ ap (λ n. map (part_of g w) (range_with_len 0 n)) e

    -- the word that the parts have at an address, where those behind them are other words
    module _ (a : ℕ) where
      word_part : node_of g a < g.nodes → a % node_size g < length (part_of g w (node_of g a)) → word_in g (parts_of g w) a ≡ w a
      word_part h l =
          let m = length_part (node_of g a) in
          word_some g (parts_of g w) a (part_of g w (node_of g a)) (w a)
          (ap (slice_get (parts_of g w)) (sym (node_of-div g a)) ∙ get_part (node_of g a) h)
          (get_from w (node_at g (node_of g a)) (next (node_of g a) - node_at g (node_of g a)) (a % node_size g) (omega arith) ∙ ap (λ v. Some (w v)) (sym (split g a)))

      word_behind : node_of g a < g.nodes → length (part_of g w (node_of g a)) ≤ a % node_size g → word_in g (parts_of g w) a ≡ opening_word g a
      word_behind h l = word_short g (parts_of g w) a (part_of g w (node_of g a)) (ap (slice_get (parts_of g w)) (sym (node_of-div g a)) ∙ get_part (node_of g a) h) (get_past (part_of g w (node_of g a)) (a % node_size g) l)

      word_past : g.nodes ≤ node_of g a → word_in g (parts_of g w) a ≡ opening_word g a
      word_past h = word_none g (parts_of g w) a (ap (slice_get (parts_of g w)) (sym (node_of-div g a)) ∙ get_past (parts_of g w) (node_of g a) (let b = length_parts in omega arith))

    pub parts_keep : ((a : ℕ) → node_of g a < g.nodes → next (node_of g a) ≤ a → w a ≡ opening_word g a) → ((a : ℕ) → g.words ≤ a → w a ≡ opening_word g a) → (a : ℕ) → word_in g (parts_of g w) a ≡ w a
    parts_keep behind out a = ⊎_elim
        (λ (h : node_of g a < g.nodes). ⊎_elim
        (λ (l : a % node_size g < length (part_of g w (node_of g a))). word_part a h l)
        (λ (l : length (part_of g w (node_of g a)) ≤ a % node_size g). word_behind a h l ∙ sym (behind a h (let m = length_part (node_of g a) in let s = split g a in let n = next_high (node_of g a) h in omega arith)))
        (cases_lt (a % node_size g) (length (part_of g w (node_of g a)))))
        (λ (h : g.nodes ≤ node_of g a). word_past a h ∙ sym (out a (past a h)))
        (cases_lt (node_of g a) g.nodes)
      where
        past : (a : ℕ) → g.nodes ≤ node_of g a → g.words ≤ a
        past a h = ⊎_elim (λ (x : a < g.words). let y = node_below g a x in absurd (omega arith)) (λ (x : g.words ≤ a). x) (cases_lt a g.words)

-- a node's words, of what the code has read
module _ (g : Geometry) (w : Words) (k start : ℕ) (h : k < g.nodes) (se : start ≡ node_at g k) where
  pub start_within : start < g.words
  start_within = let e = node_ends g k h in let s = node_size_range g in let f = s.0 in omega arith

  module _ (fit : NextsFit g w) (x : ℕ) (xe : x ≡ w start) where
    next_is : x ≡ w (node_at g k)
    next_is = xe ∙ ap w se

    pub next_from : start ≤ x
    next_from = let a = next_high g w fit k h in let e = next_is in omega arith

    pub count_within : start + (x - start) ≤ g.words
    count_within = let a = next_high g w fit k h in let b = next_most g w fit k h in let e = next_is in let f = node_ends g k h in omega arith

    pub part_whole : (count : ℕ) (words : List ℕ) → count ≡ x - start → words ≡ words_from w start count → words ≡ part_of g w k
    part_whole count words ce we = we ∙ ap (words_from w start) (ce ∙ ap (λ v. v - start) next_is) ∙ ap (λ v. words_from w v (w (node_at g k) - v)) se

lists_more : {A : Type 0} (xs : List (Vec ℕ A)) (x : Vec ℕ A) → lists_of (xs ++ x ∷ []) ≡ lists_of xs ++ x.items ∷ []
lists_more [] x = refl
lists_more (y ∷ xs) x = ap (λ v. y.items ∷ v) (lists_more xs x)

-- the same, of what the code has read
pub lists_pushed : {A : Type 0} (old new : List (Vec ℕ A)) (x : Vec ℕ A) (v : List ℕ) → new ≡ old ++ x ∷ [] → x.items ≡ v → lists_of new ≡ lists_of old ++ v ∷ []
lists_pushed old new x v e f = ap lists_of e ∙ lists_more old x ∙ ap (λ z. lists_of old ++ z ∷ []) f
