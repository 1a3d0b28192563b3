-- The least point at which the map gives a reply, by the places of the key's changes alone.
use Rattle.std.proofs.Common.{◌≡◌, ◌≢◌, ℕ, suc, ◌+◌, ◌-◌, ◌<◌, ◌≤◌, Bool, true, false, cond, ltb, List, [], ◌∷◌, ◌++◌, length, take, drop, get_or, Option, Some, None, refl, sym, ap, ◌∙◌, subst, inl, inr, append_assoc, length-append, arith}
use Rattle.std.proofs.lemmas.Bool.{cases_lt}
use Rattle.std.proofs.lemmas.Bool.Decides.{nat_tests}
use Rattle.std.proofs.lemmas.List.{append-nil, length_push, length-take-le, take-append-drop, take_all, take_at, drop_at, get_or_append_left, get_or-append_right}
use Rattle.std.proofs.lemmas.List.Elements.{All-from_recursion}
use Rattle.std.specs.List.{AllByRecursion}
use Rattle.std.specs.List.Sorted.{IsPartitionedBy, IsPartitionPoint}
use Rattle.std.specs.Option.{option_and_then}
use Rattle.std.specs.FinMap as fin
use Rattle.kv_block.specs.declared.changes.Change.{Change}
use Rattle.kv_block.specs.Bytes.{key_cmp, key_eq}
use Rattle.kv_block.proofs.Keys.{key_cmp_total, key_ties}
use Rattle.map_model.specs.declared.calls.Call.{Call}
use Rattle.map_model.specs.declared.calls.Reply.{Reply}
use Rattle.map_model.specs.Contents.{Contents}
use Rattle.map_model.specs.Machine.{key_of, reply_at, reply_of, with_value, changed, map_after, map_at}
use Rattle.map_model.specs.Moments.{IsFirst, Steady}
use Rattle.map_model.specs.Places.{places_from, value_of, latest}
use Rattle.map_model.proofs.Filtered.{weaker}
use Rattle.map_model.proofs.Bridge.{map_after-push, map_at_front}
use Rattle.map_model.proofs.AnyOrder.{slice_get_at}

-- what a change leaves at a key
get-with_value : (m : Contents) (key : List ℕ) (value : Option (List ℕ)) (q : List ℕ) → fin.get (with_value m key value) q ≡ cond (key_eq q key) value (fin.get m q)
get-with_value m key (Some v) q = fin.get-insert key_cmp_total m key v q ∙ ap (λ (b : Bool). cond b (Some v) (fin.get m q)) (sym (key_ties q key))
get-with_value m key None q = fin.get-remove key_cmp_total m key q ∙ ap (λ (b : Bool). cond b None (fin.get m q)) (sym (key_ties q key))

get-changed : (m : Contents) (c : Change) (q : List ℕ) → fin.get (changed m c) q ≡ cond (key_eq q c.key) c.value (fin.get m q)
get-changed m c q = get-with_value m c.key c.value q

-- and after one change more
get-push : (done : List Change) (c : Change) (q : List ℕ) → fin.get (map_after fin.empty (done ++ c ∷ [])) q ≡ cond (key_eq q c.key) c.value (fin.get (map_after fin.empty done) q)
get-push done c q = ap (λ m. fin.get m q) (map_after-push fin.empty done c) ∙ get-changed (map_after fin.empty done) c q

value_of_at : (done : List Change) (c : Change) (cs : List Change) → value_of (done ++ c ∷ cs) (length done) ≡ c.value
value_of_at done c cs = ap (option_and_then (λ d. d.value)) (slice_get_at done c cs)

-- one moment more at the front
steady_earlier : (C : List Change) (key : List ℕ) (value : Option (List ℕ)) (s t : ℕ) (ps : List ℕ) → s + 1 ≡ t → fin.get (map_at C s) key ≡ value → Steady C key value t ps → Steady C key value s ps
steady_earlier C key value s t [] e h g = λ n low high. elim (cases_lt s n) [
  | inl later ↦ g n (omega arith) high
  | inr now ↦ let same : n ≡ s = omega arith in ap (λ (k : ℕ). fin.get (map_at C k) key) same ∙ h
]
steady_earlier C key value s t (p ∷ ps) e h g = (
  λ n low high. elim (cases_lt s n) [
    | inl later ↦ g.0 n (omega arith) high
    | inr now ↦ let same : n ≡ s = omega arith in ap (λ (k : ℕ). fin.get (map_at C k) key) same ∙ h
  ],
  (let l = g.1 in omega arith),
  g.2,
  g.3,
)

-- the places from the changes that are done on
pub steady_from : (C : List Change) (key : List ℕ) (cs done : List Change) → done ++ cs ≡ C
    → Steady C key (fin.get (map_after fin.empty done) key) (length done) (places_from key (length done) cs)
steady_from C key [] done e = λ n low high.
    let all : done ≡ C = sym (append-nil done) ∙ e in
    let long = ap length all in
    ap (λ (ds : List Change). fin.get (map_after fin.empty ds) key) (take_all n C (omega arith) ∙ sym all)
steady_from C key (c ∷ cs) done e =
    let long = length_push done c in
    let here : fin.get (map_at C (length done)) key ≡ fin.get (map_after fin.empty done) key =
    ap (λ m. fin.get m key) (ap (λ (ds : List Change). map_at ds (length done)) (sym e) ∙ map_at_front done (c ∷ cs)) in
    let ih = steady_from C key cs (done ++ c ∷ []) (append_assoc done (c ∷ []) cs ∙ e) in
    let next : Steady C key (cond (key_eq key c.key) c.value (fin.get (map_after fin.empty done) key)) (length done + 1) (places_from key (length done + 1) cs) =
    subst (λ o. Steady C key o (length done + 1) (places_from key (length done + 1) cs)) (get-push done c key)
    (subst (λ (k : ℕ). Steady C key (fin.get (map_after fin.empty (done ++ c ∷ [])) key) k (places_from key k cs)) long ih) in
    let value : value_of C (length done) ≡ c.value = ap (λ (ds : List Change). value_of ds (length done)) (sym e) ∙ value_of_at done c cs in
    let total = ap length e in
    let parts = length-append done (c ∷ cs) in
    elim (key_eq key c.key) as (λ b. Steady C key (cond b c.value (fin.get (map_after fin.empty done) key)) (length done + 1) (places_from key (length done + 1) cs)
    → Steady C key (fin.get (map_after fin.empty done) key) (length done) (cond b (length done ∷ places_from key (length done + 1) cs) (places_from key (length done + 1) cs))) [
      | true ↦ λ g. (
        λ n low high. let same : n ≡ length done = omega arith in ap (λ (k : ℕ). fin.get (map_at C k) key) same ∙ here,
        (omega arith),
        omega (arith, parts, total),
        subst (λ o. Steady C key o (length done + 1) (places_from key (length done + 1) cs)) (sym value) g,
      )
      | false ↦ λ g. steady_earlier C key (fin.get (map_after fin.empty done) key) (length done) (length done + 1) (places_from key (length done + 1) cs) refl here g
    ] next

-- ---- where the places from `lo` on begin

places_from-append : (key : List ℕ) (n : ℕ) (cs ds : List Change) → places_from key n (cs ++ ds) ≡ places_from key n cs ++ places_from key (n + length cs) ds
places_from-append key n [] ds = ap (λ (k : ℕ). places_from key k ds) (omega arith)
places_from-append key n (c ∷ cs) ds =
    let ih = places_from-append key (n + 1) cs ds ∙ ap (λ (k : ℕ). places_from key (n + 1) cs ++ places_from key k ds) (omega arith) in
    elim (key_eq key c.key) as (λ b. cond b (n ∷ places_from key (n + 1) (cs ++ ds)) (places_from key (n + 1) (cs ++ ds))
    ≡ cond b (n ∷ places_from key (n + 1) cs) (places_from key (n + 1) cs) ++ places_from key (n + length (c ∷ cs)) ds) [
      | true ↦ ap (λ (ps : List ℕ). n ∷ ps) ih
      | false ↦ ih
    ]

pub places_least : (key : List ℕ) (n : ℕ) (cs : List Change) → AllByRecursion (λ p. n ≤ p) (places_from key n cs)
places_least key n [] = tt
places_least key n (c ∷ cs) =
    let ih = weaker (λ p. n + 1 ≤ p) (λ p. n ≤ p) (λ p l. omega arith) (places_from key (n + 1) cs) (places_least key (n + 1) cs) in
    elim (key_eq key c.key) as (λ b. AllByRecursion (λ p. n ≤ p) (cond b (n ∷ places_from key (n + 1) cs) (places_from key (n + 1) cs))) [
      | true ↦ ((omega arith), ih)
      | false ↦ ih
    ]

pub places_most : (key : List ℕ) (n : ℕ) (cs : List Change) → AllByRecursion (λ p. p < n + length cs) (places_from key n cs)
places_most key n [] = tt
places_most key n (c ∷ cs) =
    let ih = weaker (λ p. p < n + 1 + length cs) (λ p. p < n + length (c ∷ cs)) (λ p l. omega arith) (places_from key (n + 1) cs) (places_most key (n + 1) cs) in
    elim (key_eq key c.key) as (λ b. AllByRecursion (λ p. p < n + length (c ∷ cs)) (cond b (n ∷ places_from key (n + 1) cs) (places_from key (n + 1) cs))) [
      | true ↦ ((omega arith), ih)
      | false ↦ ih
    ]

-- a list that is below `lo` up to a place and not from there on is cut there
pub partitioned : (xs ys : List ℕ) (lo : ℕ) → AllByRecursion (λ p. p < lo) xs → AllByRecursion (λ p. lo ≤ p) ys → IsPartitionedBy (λ p. ltb p lo) (xs ++ ys)
partitioned xs ys lo h g i j d le less e =
    let below = All-from_recursion (λ p. p < lo) xs h in
    let above = All-from_recursion (λ p. lo ≤ p) ys g in
    let long = length-append xs ys in
    elim (cases_lt i (length xs)) [
      | inl first ↦ let b = below i d first in let f = get_or_append_left xs ys d i first in rw f (grind (arith, nat_tests))
      | inr later ↦
          let a = above (j - length xs) d (omega arith) in
          let f = get_or-append_right xs ys (length xs) j d refl (omega arith) in
          absurd (let g : ltb (get_or ys (j - length xs) d) lo ≡ true = ap (λ (p : ℕ). ltb p lo) (sym f) ∙ e in grind (arith, nat_tests))
    ]

pub partition_is : (xs ys : List ℕ) (lo i : ℕ) → AllByRecursion (λ p. p < lo) xs → AllByRecursion (λ p. lo ≤ p) ys → i ≤ length (xs ++ ys)
    → IsPartitionPoint (λ p. ltb p lo ≡ true) (λ p. ltb p lo ≡ false) (xs ++ ys) i → i ≡ length xs
partition_is xs ys lo i h g upto cut =
    let below = All-from_recursion (λ p. p < lo) xs h in
    let above = All-from_recursion (λ p. lo ≤ p) ys g in
    let long = length-append xs ys in
    elim (cases_lt i (length xs)) [
      | inl less ↦
          let b = below i 0 less in
          let f = get_or_append_left xs ys 0 i less in
          let c = cut.1 i 0 (omega arith) (omega arith) in
          absurd (let k : ltb (get_or xs i 0) lo ≡ false = ap (λ (p : ℕ). ltb p lo) (sym f) ∙ c in grind (arith, nat_tests))
      | inr least ↦ elim (cases_lt (length xs) i) [
        | inl more ↦
            let a = above 0 0 (omega arith) in
            let f = get_or-append_right xs ys (length xs) (length xs) 0 refl (omega arith) ∙ ap (λ (k : ℕ). get_or ys k 0) (omega arith) in
            let c = cut.0 (length xs) 0 (omega arith) more in
            absurd (let k : ltb (get_or ys 0 0) lo ≡ true = ap (λ (p : ℕ). ltb p lo) (sym f) ∙ c in grind (arith, nat_tests))
        | inr most ↦ omega arith
      ]
    ]

-- ---- what the key has at `lo`

-- what the key has after some changes, by its places among them
latest_after : (C : List Change) (key : List ℕ) (cs done rest : List Change) → done ++ (cs ++ rest) ≡ C
    → latest C (fin.get (map_after fin.empty done) key) (places_from key (length done) cs) ≡ fin.get (map_after fin.empty (done ++ cs)) key
latest_after C key [] done rest e = ap (λ (ds : List Change). fin.get (map_after fin.empty ds) key) (sym (append-nil done))
latest_after C key (c ∷ cs) done rest e =
    let long = length_push done c in
    let ih = latest_after C key cs (done ++ c ∷ []) rest (append_assoc done (c ∷ []) (cs ++ rest) ∙ e) ∙ ap (λ (ds : List Change). fin.get (map_after fin.empty ds) key) (append_assoc done (c ∷ []) cs) in
    let next : latest C (cond (key_eq key c.key) c.value (fin.get (map_after fin.empty done) key)) (places_from key (length done + 1) cs) ≡ fin.get (map_after fin.empty (done ++ c ∷ cs)) key =
    subst (λ (k : ℕ). latest C (cond (key_eq key c.key) c.value (fin.get (map_after fin.empty done) key)) (places_from key k cs) ≡ fin.get (map_after fin.empty (done ++ c ∷ cs)) key) long
    (ap (λ o. latest C o (places_from key (length (done ++ c ∷ [])) cs)) (sym (get-push done c key)) ∙ ih) in
    let value : value_of C (length done) ≡ c.value = ap (λ (ds : List Change). value_of ds (length done)) (sym e) ∙ value_of_at done c (cs ++ rest) in
    elim (key_eq key c.key) as (λ b. latest C (cond b c.value (fin.get (map_after fin.empty done) key)) (places_from key (length done + 1) cs) ≡ fin.get (map_after fin.empty (done ++ c ∷ cs)) key
    → latest C (fin.get (map_after fin.empty done) key) (cond b (length done ∷ places_from key (length done + 1) cs) (places_from key (length done + 1) cs)) ≡ fin.get (map_after fin.empty (done ++ c ∷ cs)) key) [
      | true ↦ λ g. ap (λ o. latest C o (places_from key (length done + 1) cs)) value ∙ g
      | false ↦ λ g. g
    ] next

-- only the last of the places counts
pub latest_last : (C : List Change) (value : Option (List ℕ)) (ps : List ℕ) → 0 < length ps → latest C value ps ≡ value_of C (get_or ps (length ps - 1) 0)
latest_last C value [] h = absurd (omega arith)
latest_last C value (p ∷ []) h = refl
latest_last C value (p ∷ q ∷ ps) h =
    let next : suc (length (q ∷ ps) - 1) ≡ length (p ∷ q ∷ ps) - 1 = omega arith in
    latest_last C (value_of C p) (q ∷ ps) (omega arith) ∙ ap (λ (k : ℕ). value_of C (get_or (p ∷ q ∷ ps) k 0)) next

-- ---- at `lo`

pub places_cut : (key : List ℕ) (C : List Change) (lo : ℕ) → lo ≤ length C → places_from key 0 C ≡ places_from key 0 (take lo C) ++ places_from key lo (drop lo C)
places_cut key C lo h =
    let long = length-take-le lo C h in
    ap (places_from key 0) (sym (take-append-drop lo C)) ∙ places_from-append key 0 (take lo C) (drop lo C)
    ∙ ap (λ (k : ℕ). places_from key 0 (take lo C) ++ places_from key k (drop lo C)) (omega arith)

pub places_below : (key : List ℕ) (C : List Change) (lo : ℕ) → lo ≤ length C → AllByRecursion (λ p. p < lo) (places_from key 0 (take lo C))
places_below key C lo h =
    let long = length-take-le lo C h in
    weaker (λ p. p < 0 + length (take lo C)) (λ p. p < lo) (λ p l. omega arith) (places_from key 0 (take lo C)) (places_most key 0 (take lo C))

pub steady_at : (C : List Change) (key : List ℕ) (lo : ℕ) → lo ≤ length C → Steady C key (latest C None (places_from key 0 (take lo C))) lo (places_from key lo (drop lo C))
steady_at C key lo h =
    let long = length-take-le lo C h in
    let value : latest C None (places_from key 0 (take lo C)) ≡ fin.get (map_at C lo) key =
    ap (λ o. latest C o (places_from key 0 (take lo C))) (sym (fin.get-empty key_cmp key)) ∙ latest_after C key (take lo C) [] (drop lo C) (take-append-drop lo C) in
    let all = steady_from C key (drop lo C) (take lo C) (take-append-drop lo C) in
    subst (λ o. Steady C key o lo (places_from key lo (drop lo C))) (sym value)
    (subst (λ (k : ℕ). Steady C key (fin.get (map_at C lo) key) k (places_from key k (drop lo C))) long all)

-- ---- the steps of the walk

-- no moment before `start` gives the reply
pub later_than : (C : List Change) (lo start p : ℕ) (call : Call) (reply : Reply) (value : Option (List ℕ))
    → ((n : ℕ) → lo ≤ n → n < start → reply_of (map_at C n) call ≢ Some reply) → ((n : ℕ) → start ≤ n → n ≤ p → fin.get (map_at C n) (key_of call) ≡ value)
    → reply_at call value ≢ Some reply → (n : ℕ) → lo ≤ n → n < p + 1 → reply_of (map_at C n) call ≢ Some reply
later_than C lo start p call reply value before same other n low less = elim (cases_lt n start) [
  | inl older ↦ before n low older
  | inr newer ↦ λ e. other (ap (reply_at call) (sym (same n newer (omega arith))) ∙ e)
]

pub first_here : (C : List Change) (lo start : ℕ) (call : Call) (reply : Reply) (value : Option (List ℕ)) → lo ≤ start → start ≤ length C
    → ((n : ℕ) → lo ≤ n → n < start → reply_of (map_at C n) call ≢ Some reply) → fin.get (map_at C start) (key_of call) ≡ value
    → reply_at call value ≡ Some reply → IsFirst C lo call reply start
first_here C lo start call reply value low high before same e = record {
  from = low;
  upto = omega arith;
  gives = λ _. ap (reply_at call) same ∙ e;
  earlier = before;
}

pub first_never : (C : List Change) (lo : ℕ) (call : Call) (reply : Reply) → lo ≤ length C
    → ((n : ℕ) → lo ≤ n → n < length C + 1 → reply_of (map_at C n) call ≢ Some reply) → IsFirst C lo call reply (length C + 1)
first_never C lo call reply low before = record {
  from = omega arith;
  upto = omega arith;
  gives = λ h. absurd (omega arith);
  earlier = before;
}

-- ---- one change more

pub places_from-push : (key : List ℕ) (cs : List Change) (c : Change) → places_from key 0 (cs ++ c ∷ []) ≡ (cond (key_eq key c.key) (places_from key 0 cs ++ length cs ∷ []) (places_from key 0 cs))
places_from-push key cs c =
    places_from-append key 0 cs (c ∷ []) ∙ ap (λ (k : ℕ). places_from key 0 cs ++ places_from key k (c ∷ [])) (omega arith)
    ∙ elim (key_eq key c.key) as (λ b. places_from key 0 cs ++ cond b (length cs ∷ []) [] ≡ cond b (places_from key 0 cs ++ length cs ∷ []) (places_from key 0 cs)) [
      | true ↦ refl
      | false ↦ append-nil (places_from key 0 cs)
    ]

-- what the key has at `start`
pub steady_value : (C : List Change) (key : List ℕ) (value : Option (List ℕ)) (start : ℕ) (ps : List ℕ) → start ≤ length C → Steady C key value start ps → fin.get (map_at C start) key ≡ value
steady_value C key value start [] h g = g start (omega arith) h
steady_value C key value start (p ∷ ps) h g = g.0 start (omega arith) g.1

-- the places below `lo` are cut off
pub cut_front : (xs ys ps : List ℕ) (from : ℕ) → ps ≡ xs ++ ys → from ≡ length xs → take from ps ≡ xs
cut_front xs ys ps from e f = (λ i. take (f i) (e i)) ∙ take_at xs ys (length xs) refl

pub cut_back : (xs ys ps : List ℕ) (from : ℕ) → ps ≡ xs ++ ys → from ≡ length xs → drop from ps ≡ ys
cut_back xs ys ps from e f = (λ i. drop (f i) (e i)) ∙ drop_at xs ys (length xs) refl
