-- What holds of each legal history: each key is a cell of one thread, and what was seen stands before.
use Rattle.std.proofs.Common.{◌≡◌, ℕ, ◌+◌, ◌<◌, ◌≤◌, Bool, true, false, cond, ◌&&◌, ◌||◌, leb, eqb, List, [], ◌∷◌, ◌++◌, length, map, filter, Option, Some, None, is_some, ◌⊎◌, refl, sym, ap, ◌∙◌, subst, inl, inr, arith}
use Rattle.std.proofs.lemmas.Bool.{cases_lt}
use Rattle.std.proofs.lemmas.Bool.Decides.{nat_tests}
use Rattle.std.proofs.lemmas.List.Elements.{recursion_from_All}
use Rattle.std.specs.Bool.{MatchBool}
use Rattle.std.specs.List.{AllByRecursion}
use Rattle.std.specs.Ordering.{eq_by_cmp}
use Rattle.std.specs.FinMap as fin
use Rattle.kv_block.specs.declared.changes.Change.{Change}
use Rattle.kv_block.specs.Bytes.{key_cmp, key_eq}
use Rattle.kv_block.proofs.Keys.{key_cmp_total, key_eq-is, key_eq-same, key_ties}
use Rattle.map_model.specs.declared.calls.Call.{Call}
use Rattle.map_model.specs.declared.calls.Call.TheVariants.{Insert, Search, Update, Delete, Resize}
use Rattle.map_model.specs.declared.records.Record.{Record}
use Rattle.map_model.specs.Contents.{Contents}
use Rattle.map_model.specs.Machine.{key_of, reply_at, after, value_after, is_change, is_quiet}
use Rattle.map_model.specs.History.{is_answer, is_quiet_at, is_change_at, is_late, history_from, history, Replays, told, made, numbered, IsAnswerWithin, IsLegal, Has}
use Rattle.map_model.specs.Laws.{IsCell, StandsBefore, SawItsChange}
use Rattle.map_model.proofs.Bridge.{quiet_no_change, change_answer}
use Rattle.map_model.proofs.AnyOrder.{all_has}

-- ---- each key is a cell

ties_itself : (k : List ℕ) → eq_by_cmp key_cmp k k ≡ true
ties_itself k = sym (key_ties k k) ∙ key_eq-same k

get_inserted : (m : Contents) (k v : List ℕ) → fin.get (fin.insert m k v) k ≡ Some v
get_inserted m k v = fin.get-insert key_cmp_total m k v k ∙ ap (λ (b : Bool). cond b (Some v) (fin.get m k)) (ties_itself k)

get_removed : (m : Contents) (k : List ℕ) → fin.get (fin.remove m k) k ≡ None
get_removed m k = fin.get-remove key_cmp_total m k k ∙ ap (λ (b : Bool). cond b None (fin.get m k)) (ties_itself k)

get_inserted_other : (m : Contents) (k v q : List ℕ) → key_eq q k ≡ false → fin.get (fin.insert m k v) q ≡ fin.get m q
get_inserted_other m k v q e = fin.get-insert key_cmp_total m k v q ∙ ap (λ (b : Bool). cond b (Some v) (fin.get m q)) (sym (key_ties q k) ∙ e)

get_removed_other : (m : Contents) (k q : List ℕ) → key_eq q k ≡ false → fin.get (fin.remove m k) q ≡ fin.get m q
get_removed_other m k q e = fin.get-remove key_cmp_total m k q ∙ ap (λ (b : Bool). cond b None (fin.get m q)) (sym (key_ties q k) ∙ e)

-- what a call leaves at its key
pub get-after : (m : Contents) (call : Call) → fin.get (after m call) (key_of call) ≡ value_after call (fin.get m (key_of call))
get-after m (Insert key value) =
    elim (fin.get m key) as (λ o. fin.get m key ≡ o → fin.get (cond (is_some o) m (fin.insert m key value)) key ≡ value_after (Insert key value) o) [
      | Some old ↦ λ e. e
      | None ↦ λ e. get_inserted m key value
    ] refl
get-after m (Search key) = refl
get-after m (Update key value) =
    elim (fin.get m key) as (λ o. fin.get m key ≡ o → fin.get (cond (is_some o) (fin.insert m key value) m) key ≡ value_after (Update key value) o) [
      | Some old ↦ λ e. get_inserted m key value
      | None ↦ λ e. e
    ] refl
get-after m (Delete key) =
    elim (fin.get m key) as (λ o. fin.get m key ≡ o → fin.get (cond (is_some o) (fin.remove m key) m) key ≡ None) [
      | Some old ↦ λ e. get_removed m key
      | None ↦ λ e. e
    ] refl
get-after m (Resize key) = refl

-- and at another key
pub get-after_other : (m : Contents) (call : Call) (q : List ℕ) → key_eq q (key_of call) ≡ false → fin.get (after m call) q ≡ fin.get m q
get-after_other m (Insert key value) q e =
    elim (fin.get m key) as (λ o. fin.get (cond (is_some o) m (fin.insert m key value)) q ≡ fin.get m q) [ Some old ↦ refl | None ↦ get_inserted_other m key value q e ]
get-after_other m (Search key) q e = refl
get-after_other m (Update key value) q e =
    elim (fin.get m key) as (λ o. fin.get (cond (is_some o) (fin.insert m key value) m) q ≡ fin.get m q) [ Some old ↦ get_inserted_other m key value q e | None ↦ refl ]
get-after_other m (Delete key) q e =
    elim (fin.get m key) as (λ o. fin.get (cond (is_some o) (fin.remove m key) m) q ≡ fin.get m q) [ Some old ↦ get_removed_other m key q e | None ↦ refl ]
get-after_other m (Resize key) q e = refl

pub cell_from : (key : List ℕ) (m : Contents) (rs : List Record) → Replays m rs → IsCell key (fin.get m key) rs
cell_from key m [] h = tt
cell_from key m (r ∷ rs) h =
    let later = cell_from key (after m r.call) rs h.1 in
    elim (key_eq key (key_of r.call)) as (λ b. key_eq key (key_of r.call) ≡ b
    → MatchBool b ((reply_at r.call (fin.get m key) ≡ Some r.reply) × IsCell key (value_after r.call (fin.get m key)) rs) (IsCell key (fin.get m key) rs)) [
      | true ↦ λ e.
          let same : key ≡ key_of r.call = key_eq-is key (key_of r.call) e in (
            subst (λ (k : List ℕ). reply_at r.call (fin.get m k) ≡ Some r.reply) (sym same) h.0,
            subst (λ o. IsCell key o rs)
                (ap (fin.get (after m r.call)) same ∙ get-after m r.call ∙ ap (λ (k : List ℕ). value_after r.call (fin.get m k)) (sym same)) later,
          )
      | false ↦ λ e. subst (λ o. IsCell key o rs) (get-after_other m r.call key e) later
    ] refl

-- in a legal history each key is a cell that is empty at first
pub each_key_is_cell : (C : List Change) (rs : List Record) (key : List ℕ) → IsLegal C rs → IsCell key None (history C rs)
each_key_is_cell C rs key h = subst (λ o. IsCell key o (history C rs)) (fin.get-empty key_cmp key) (cell_from key fin.empty (history C rs) h.replies)

-- ---- what was seen stands before

has_left : (xs ys : List Record) (r : Record) → Has xs r → Has (xs ++ ys) r
has_left [] ys r h = absurd h
has_left (x ∷ xs) ys r (inl e) = inl e
has_left (x ∷ xs) ys r (inr h) = inr (has_left xs ys r h)

has_right : (xs ys : List Record) (r : Record) → Has ys r → Has (xs ++ ys) r
has_right [] ys r h = h
has_right (x ∷ xs) ys r h = inr (has_right xs ys r h)

has_kept : (t : Record → Bool) (xs : List Record) (r : Record) → Has xs r → t r ≡ true → Has (filter t xs) r
has_kept t [] r h e = absurd h
has_kept t (x ∷ xs) r (inl same) e = subst (λ (b : Bool). Has (cond b (x ∷ filter t xs) (filter t xs)) r) (sym (ap t same ∙ e)) (inl same)
has_kept t (x ∷ xs) r (inr h) e =
    elim (t x) as (λ b. Has (cond b (x ∷ filter t xs) (filter t xs)) r) [ true ↦ inr (has_kept t xs r h e) | false ↦ has_kept t xs r h e ]

both_true : (a b : Bool) → a ≡ true → b ≡ true → (a && b) ≡ true
both_true a b e f = ap (λ (c : Bool). c && b) e ∙ f

-- an answer is quiet or a change
quiet_or_change : (r : Record) → is_answer r ≡ true → (is_quiet r.reply ≡ true) ⊎ (is_change r.reply ≡ true)
quiet_or_change r = by (is_quiet r.reply) (is_change r.reply)
  where
    by : (q c : Bool) → (q || c) ≡ true → (q ≡ true) ⊎ (c ≡ true)
    by true c e = inl refl
    by false c e = inr e

-- an answer stands in the part of the history that begins at its point or before
has_history : (cs : List Change) (n : ℕ) (rs : List Record) (r : Record) → n ≤ r.point → is_answer r ≡ true → Has rs r → Has (history_from n cs rs) r
has_history [] n rs r least answer h = has_kept (is_late n) rs r h (both_true (is_answer r) (leb n r.point) answer (grind (arith, nat_tests)))
has_history (c ∷ cs) n rs r least answer h = elim (cases_lt n r.point) [
  | inl later ↦
      has_right (filter (is_quiet_at n) rs) _ r (has_right (filter (is_change_at n) rs) _ r (has_history cs (n + 1) rs r (omega arith) answer h))
  | inr upto ↦
      let here : eqb r.point n ≡ true = grind (arith, nat_tests) in
      elim (quiet_or_change r answer) [
        | inl quiet ↦ has_left (filter (is_quiet_at n) rs) _ r (has_kept (is_quiet_at n) rs r h (both_true (is_quiet r.reply) (eqb r.point n) quiet here))
        | inr change ↦
            has_right (filter (is_quiet_at n) rs) _ r (has_left (filter (is_change_at n) rs) _ r (has_kept (is_change_at n) rs r h (both_true (is_change r.reply) (eqb r.point n) change here)))
      ]
]

numbered_below : (cs : List Change) (n : ℕ) → AllByRecursion (λ (p : ℕ × Option Change). p.0 < n + length cs) (numbered n cs)
numbered_below [] n = tt
numbered_below (c ∷ cs) n = (omega arith, subst (λ (k : ℕ). AllByRecursion (λ (p : ℕ × Option Change). p.0 < k) (numbered (n + 1) cs)) (omega arith) (numbered_below cs (n + 1)))

told_has : (P : ℕ × Option Change → Type 0) (xs : List Record) (r : Record) → AllByRecursion P (made xs) → Has xs r → is_change r.reply ≡ true → P (told r)
told_has P [] r h g e = absurd g
told_has P (x ∷ xs) r h (inl same) e =
    let own : is_change x.reply ≡ true = ap (λ (s : Record). is_change s.reply) same ∙ e in
    subst (λ (s : Record). P (told s)) same
    ((subst (λ (b : Bool). AllByRecursion P (map told (cond b (x ∷ filter (λ s. is_change s.reply) xs) (filter (λ s. is_change s.reply) xs)))) own h).0)
told_has P (x ∷ xs) r h (inr g) e = told_has P xs r (less (is_change x.reply) h) g e
  where
    less : (b : Bool) → AllByRecursion P (map told (cond b (x ∷ filter (λ s. is_change s.reply) xs) (filter (λ s. is_change s.reply) xs))) → AllByRecursion P (made xs)
    less true k = k.1
    less false k = k

-- a changing record's point is the number of a change
change_below : (C : List Change) (rs : List Record) (r : Record) → IsLegal C rs → Has rs r → is_change r.reply ≡ true → r.point < length C
change_below C rs r legal h e =
    let below = subst (AllByRecursion (λ (p : ℕ × Option Change). p.0 < 0 + length C)) (sym legal.one_to_one) (numbered_below C 0) in
    let less = told_has (λ p. p.0 < 0 + length C) (history C rs) r below (has_history C 0 rs r (omega arith) (change_answer r e) h) e in
    omega arith

stands_across : (xs ys : List Record) (a b : Record) → Has xs a → Has ys b → StandsBefore (xs ++ ys) a b
stands_across [] ys a b h g = absurd h
stands_across (x ∷ xs) ys a b (inl e) g = inl (e, has_right xs ys b g)
stands_across (x ∷ xs) ys a b (inr h) g = inr (stands_across xs ys a b h g)

stands_later : (xs ys : List Record) (a b : Record) → StandsBefore ys a b → StandsBefore (xs ++ ys) a b
stands_later [] ys a b h = h
stands_later (x ∷ xs) ys a b h = inr (stands_later xs ys a b h)

-- a's point is smaller, or it is the same, and a is quiet and b changed the map
PointsBefore : Record → Record → Type 0
PointsBefore a b = (a.point < b.point) ⊎ ((is_quiet a.reply ≡ true) × (is_change b.reply ≡ true) × (a.point ≡ b.point))

-- the later one, past the quiet records of a point
has_after_quiet : (cs : List Change) (n : ℕ) (rs : List Record) (a b : Record) → a.point ≡ n → is_answer b ≡ true → Has rs b → PointsBefore a b
    → Has (filter (is_change_at n) rs ++ history_from (n + 1) cs rs) b
unfolding PointsBefore
has_after_quiet cs n rs a b at answer h (inl less) = has_right (filter (is_change_at n) rs) _ b (has_history cs (n + 1) rs b (omega arith) answer h)
has_after_quiet cs n rs a b at answer h (inr p) =
    let same = p.2 in
    has_left (filter (is_change_at n) rs) _ b (has_kept (is_change_at n) rs b h (both_true (is_change b.reply) (eqb b.point n) p.1 (grind (arith, nat_tests))))

-- past a change the later one has a greater point
less_from_change : (a b : Record) → is_change a.reply ≡ true → PointsBefore a b → a.point < b.point
unfolding PointsBefore
less_from_change a b e (inl less) = less
less_from_change a b e (inr p) = absurd (let f = quiet_no_change a.reply p.0 in (cc))

stands_from : (cs : List Change) (n : ℕ) (rs : List Record) (a b : Record) → n ≤ a.point → a.point < n + length cs → is_answer a ≡ true → is_answer b ≡ true
    → Has rs a → Has rs b → PointsBefore a b → StandsBefore (history_from n cs rs) a b
stands_from [] n rs a b least most answer answer' h g before = absurd (omega arith)
stands_from (c ∷ cs) n rs a b least most answer answer' h g before = elim (cases_lt n a.point) [
  | inl later ↦
      stands_later (filter (is_quiet_at n) rs) _ a b
      (stands_later (filter (is_change_at n) rs) _ a b (stands_from cs (n + 1) rs a b (omega arith) (omega arith) answer answer' h g before))
  | inr upto ↦
      let at : a.point ≡ n = omega arith in
      let here : eqb a.point n ≡ true = grind (arith, nat_tests) in
      elim (quiet_or_change a answer) [
        | inl quiet ↦
            stands_across (filter (is_quiet_at n) rs) _ a b (has_kept (is_quiet_at n) rs a h (both_true (is_quiet a.reply) (eqb a.point n) quiet here))
            (has_after_quiet cs n rs a b at answer' g before)
        | inr change ↦
            let less = less_from_change a b change before in
            stands_later (filter (is_quiet_at n) rs) _ a b
            (stands_across (filter (is_change_at n) rs) _ a b (has_kept (is_change_at n) rs a h (both_true (is_change a.reply) (eqb a.point n) change here))
            (has_history cs (n + 1) rs b (omega arith) answer' g))
      ]
]

pub seen_stands_before : (C : List Change) (rs : List Record) (a b : Record) → IsLegal C rs → Has rs a → Has rs b → is_answer a ≡ true → is_answer b ≡ true
    → a.hi ≤ b.lo → SawItsChange a → (is_change a.reply ≡ true) ⊎ (is_change b.reply ≡ true) → StandsBefore (history C rs) a b
unfolding PointsBefore
seen_stands_before C rs a b legal h g answer answer' seen saw change =
    let bounds = recursion_from_All (IsAnswerWithin (length C)) rs legal.bounds in
    let wa = all_has (IsAnswerWithin (length C)) rs a bounds h answer in
    let wb = all_has (IsAnswerWithin (length C)) rs b bounds g answer' in
    elim (quiet_or_change a answer) [
      | inr own ↦
          let less = saw own in
          stands_from C 0 rs a b (omega arith) (omega (arith, wa.seen)) answer answer' h g (inl (omega (arith, wb.least)))
      | inl quiet ↦
          let other : is_change b.reply ≡ true = elim change [ inl e ↦ absurd (let f = quiet_no_change a.reply quiet in (cc)) | inr e ↦ e ] in
          let below = change_below C rs b legal g other in
          elim (cases_lt a.point b.point) [
            | inl less ↦ stands_from C 0 rs a b (omega arith) (omega arith) answer answer' h g (inl less)
            | inr upto ↦ stands_from C 0 rs a b (omega arith) (omega (arith, wa.most, wb.least)) answer answer' h g (inr (quiet, other, omega (arith, wa.most, wb.least)))
          ]
    ]
