-- A stable sort of the answered records by their places is the history.
use Rattle.std.proofs.Common.{◌≡◌, ℕ, suc, ◌+◌, ◌*◌, ◌<◌, ◌≤◌, Bool, true, false, cond, not, ◌&&◌, ◌||◌, leb, ltb, eqb, List, [], ◌∷◌, ◌++◌, length, filter, refl, sym, ap, ◌∙◌, subst, inl, inr, arith}
use Rattle.std.proofs.lemmas.Bool.{cases_lt}
use Rattle.std.proofs.lemmas.Bool.Decides.{nat_tests}
use Rattle.std.proofs.lemmas.List.{append-nil}
use Rattle.std.proofs.lemmas.List.Elements.{recursion_from_All}
use Rattle.std.specs.List.{AllByRecursion}
use Rattle.std.specs.List.Sorted.{IsNonDecreasingBy, IsStableByKey}
use Rattle.std.specs.Ordering.{nat_cmp, is_lt}
use Rattle.kv_block.specs.declared.changes.Change.{Change}
use Rattle.map_model.specs.declared.calls.Call.TheVariants.{Search}
use Rattle.map_model.specs.declared.calls.Reply.{Reply}
use Rattle.map_model.specs.declared.calls.Reply.TheVariants.{Missing, Inserted}
use Rattle.map_model.specs.declared.records.Record.{Record}
use Rattle.map_model.specs.Machine.{is_change, is_quiet}
use Rattle.map_model.specs.History.{is_answer, is_quiet_at, is_change_at, is_late, history_from, history}
use Rattle.map_model.specs.Sorting.{place_of}
use Rattle.map_model.proofs.Filtered.{weaker, filter_none}
use Rattle.map_model.proofs.Bridge.{quiet_no_change}

module _ {X : Type 0} where
  pub filter_same : (p q : X → Bool) → ((x : X) → p x ≡ q x) → (xs : List X) → filter p xs ≡ filter q xs
  filter_same p q e [] = refl
  filter_same p q e (x ∷ xs) = λ i. cond (e x i) (x ∷ filter_same p q e xs i) (filter_same p q e xs i)

  pub filter_twice : (p q : X → Bool) (xs : List X) → filter p (filter q xs) ≡ filter (λ x. q x && p x) xs
  filter_twice p q [] = refl
  filter_twice p q (x ∷ xs) =
      elim (q x) as (λ b. filter p (cond b (x ∷ filter q xs) (filter q xs)) ≡ cond (b && p x) (x ∷ filter (λ y. q y && p y) xs) (filter (λ y. q y && p y) xs)) [
        | true ↦ ap (λ (ys : List X). cond (p x) (x ∷ ys) ys) (filter_twice p q xs)
        | false ↦ filter_twice p q xs
      ]

  tail_sorted : (key : X → ℕ) (x : X) (xs : List X) → IsNonDecreasingBy key (x ∷ xs) → IsNonDecreasingBy key xs
  tail_sorted key x xs h i j d le less = h (suc i) (suc j) d (omega arith) (omega arith)

  above_first : (key : X → ℕ) (x : X) (xs : List X) → IsNonDecreasingBy key (x ∷ xs) → AllByRecursion (λ y. key x ≤ key y) xs
  above_first key x xs h = recursion_from_All (λ y. key x ≤ key y) xs (λ j d less. h 0 (suc j) d (omega arith) (omega arith))

  -- of a list whose keys do not fall: those with the key k, and then the greater ones
  split_sorted : (key : X → ℕ) (k : ℕ) (xs : List X) → IsNonDecreasingBy key xs
      → filter (λ x. leb k (key x)) xs ≡ filter (λ x. eqb (key x) k) xs ++ filter (λ x. leb (k + 1) (key x)) xs
  split_sorted key k [] h = refl
  split_sorted key k (x ∷ xs) h =
      let ih = split_sorted key k xs (tail_sorted key x xs h) in
      elim (cases_lt (key x) k) [
        | inl less ↦
            let a : leb k (key x) ≡ false = grind (arith, nat_tests) in
            let b : eqb (key x) k ≡ false = grind (arith, nat_tests) in
            let c : leb (k + 1) (key x) ≡ false = grind (arith, nat_tests) in
            rw (a, b, c) ih
        | inr upto ↦ elim (cases_lt k (key x)) [
          | inl more ↦
              let a : leb k (key x) ≡ true = grind (arith, nat_tests) in
              let b : eqb (key x) k ≡ false = grind (arith, nat_tests) in
              let c : leb (k + 1) (key x) ≡ true = grind (arith, nat_tests) in
              let first : filter (λ y. eqb (key y) k) xs ≡ [] =
              filter_none (λ y. eqb (key y) k) xs (weaker (λ y. key x ≤ key y) (λ y. eqb (key y) k ≡ false) (λ y l. grind (arith, nat_tests)) xs (above_first key x xs h)) in
              let rest = ih ∙ ap (λ (ys : List X). ys ++ filter (λ y. leb (k + 1) (key y)) xs) first in
              rw (a, b, c, first) (ap (λ (ys : List X). x ∷ ys) rest)
          | inr least ↦
              let a : leb k (key x) ≡ true = grind (arith, nat_tests) in
              let b : eqb (key x) k ≡ true = grind (arith, nat_tests) in
              let c : leb (k + 1) (key x) ≡ false = grind (arith, nat_tests) in
              rw (a, b, c) (ap (λ (ys : List X). x ∷ ys) ih)
        ]
      ]

-- a record with a given reply and point
abbrev record_at : Reply → ℕ → Record
record_at reply point = record { client = 0; number = 0; call = Search []; reply = reply; lo = 0; hi = 0; point = point }

-- to tie by a number is to have the same
ties_nat : (a b : ℕ) → (not (is_lt (nat_cmp a b)) && not (is_lt (nat_cmp b a))) ≡ eqb b a
ties_nat a b = grind (arith, nat_tests)

-- of one key a stable sort keeps the records in their order
tied_stay : (key : Record → ℕ) (xs ys : List Record) (x : Record) (k : ℕ) → IsStableByKey key nat_cmp xs ys → key x ≡ k → filter (λ r. eqb (key r) k) ys ≡ filter (λ r. eqb (key r) k) xs
tied_stay key xs ys x k stable e =
    subst (λ (j : ℕ). filter (λ r. eqb (key r) j) ys ≡ filter (λ r. eqb (key r) j) xs) e
    (sym (filter_same _ (λ r. eqb (key r) (key x)) (λ r. ties_nat (key x) (key r)) ys) ∙ stable x
    ∙ filter_same _ (λ r. eqb (key r) (key x)) (λ r. ties_nat (key x) (key r)) xs)

-- the tests of history, by places: q says quiet, and c change
quiet_place : (q c : Bool) (point n count : ℕ) → (q ≡ true → c ≡ false) → n < count
    → ((q || c) && eqb (cond (ltb point count) (2 * point + cond c 1 0) (2 * count)) (2 * n)) ≡ (q && eqb point n)
quiet_place true true point n count e l = absurd (let f = e refl in (cc))
quiet_place true false point n count e l = grind (arith, nat_tests)
quiet_place false true point n count e l = grind (arith, nat_tests)
quiet_place false false point n count e l = refl

change_place : (q c : Bool) (point n count : ℕ) → (q ≡ true → c ≡ false) → n < count
    → ((q || c) && eqb (cond (ltb point count) (2 * point + cond c 1 0) (2 * count)) (2 * n + 1)) ≡ (c && eqb point n)
change_place true true point n count e l = absurd (let f = e refl in (cc))
change_place true false point n count e l = grind (arith, nat_tests)
change_place false true point n count e l = grind (arith, nat_tests)
change_place false false point n count e l = refl

last_place : (a c : Bool) (point count : ℕ) → (a && eqb (cond (ltb point count) (2 * point + cond c 1 0) (2 * count)) (2 * count)) ≡ (a && leb count point)
last_place true true point count = grind (arith, nat_tests)
last_place true false point count = grind (arith, nat_tests)
last_place false c point count = refl

place_most : (c : Bool) (point count : ℕ) → leb (2 * count + 1) (cond (ltb point count) (2 * point + cond c 1 0) (2 * count)) ≡ false
place_most true point count = grind (arith, nat_tests)
place_most false point count = grind (arith, nat_tests)

-- the records of one place, in order
at_place : (count : ℕ) (rs ys : List Record) (test : Record → Bool) (x : Record) (k : ℕ) → IsStableByKey (place_of count) nat_cmp (filter is_answer rs) ys → place_of count x ≡ k
    → ((r : Record) → (is_answer r && eqb (place_of count r) k) ≡ test r) → filter (λ r. eqb (place_of count r) k) ys ≡ filter test rs
at_place count rs ys test x k stable e same =
    tied_stay (place_of count) (filter is_answer rs) ys x k stable e ∙ filter_twice (λ r. eqb (place_of count r) k) is_answer rs ∙ filter_same _ test same rs

-- any place, of all
none_past : (count : ℕ) (ys : List Record) → filter (λ r. leb (2 * count + 1) (place_of count r)) ys ≡ []
none_past count [] = refl
none_past count (y ∷ ys) = ap (λ (b : Bool). cond b (y ∷ filter (λ r. leb (2 * count + 1) (place_of count r)) ys) (filter (λ r. leb (2 * count + 1) (place_of count r)) ys)) (place_most (is_change y.reply) y.point count) ∙ none_past count ys

sorted_from : (count : ℕ) (rs ys : List Record) → IsNonDecreasingBy (place_of count) ys → IsStableByKey (place_of count) nat_cmp (filter is_answer rs) ys
    → (cs : List Change) (n : ℕ) → n + length cs ≡ count → filter (λ r. leb (2 * n) (place_of count r)) ys ≡ history_from n cs rs
sorted_from count rs ys sorted stable [] n e =
    let same : n ≡ count = omega arith in
    subst (λ (m : ℕ). filter (λ r. leb (2 * m) (place_of count r)) ys ≡ filter (is_late m) rs) (sym same)
    (split_sorted (place_of count) (2 * count) ys sorted
    ∙ (λ i. at_place count rs ys (is_late count) (record_at Missing count) (2 * count) stable (grind (arith, nat_tests)) (λ r. last_place (is_answer r) (is_change r.reply) r.point count) i
    ++ none_past count ys i)
    ∙ append-nil (filter (is_late count) rs))
sorted_from count rs ys sorted stable (c ∷ cs) n e =
    let less : n < count = omega arith in
    let quiet = at_place count rs ys (is_quiet_at n) (record_at Missing n) (2 * n) stable (grind (arith, nat_tests))
    (λ r. quiet_place (is_quiet r.reply) (is_change r.reply) r.point n count (quiet_no_change r.reply) less) in
    let change = at_place count rs ys (is_change_at n) (record_at Inserted n) (2 * n + 1) stable (grind (arith, nat_tests))
    (λ r. change_place (is_quiet r.reply) (is_change r.reply) r.point n count (quiet_no_change r.reply) less) in
    let later = sorted_from count rs ys sorted stable cs (n + 1) (omega arith) in
    let next : 2 * n + 1 + 1 ≡ 2 * (n + 1) = omega arith in
    split_sorted (place_of count) (2 * n) ys sorted
    ∙ (λ i. quiet i ++ (split_sorted (place_of count) (2 * n + 1) ys sorted
    ∙ (λ j. change j ++ (ap (λ (k : ℕ). filter (λ r. leb k (place_of count r)) ys) next ∙ later) j)) i)

every : (count : ℕ) (ys : List Record) → filter (λ r. leb (2 * 0) (place_of count r)) ys ≡ ys
every count [] = refl
every count (y ∷ ys) =
    let first : leb (2 * 0) (place_of count y) ≡ true = grind (arith, nat_tests) in
    ap (λ (b : Bool). cond b (y ∷ filter (λ r. leb (2 * 0) (place_of count r)) ys) (filter (λ r. leb (2 * 0) (place_of count r)) ys)) first ∙ ap (λ (zs : List Record). y ∷ zs) (every count ys)

pub history_from_sort : (C : List Change) (rs ys : List Record) → IsNonDecreasingBy (place_of (length C)) ys → IsStableByKey (place_of (length C)) nat_cmp (filter is_answer rs) ys → history C rs ≡ ys
history_from_sort C rs ys sorted stable = sym (sorted_from (length C) rs ys sorted stable C 0 (omega arith)) ∙ every (length C) ys
