-- One record more, with its change where it made one, keeps the facts that give a legal history.
use Rattle.std.proofs.Common.{◌≡◌, ℕ, ◌+◌, ◌≤◌, Bool, true, false, cond, ◌&&◌, leb, ltb, eqb, List, [], ◌∷◌, ◌++◌, length, map, filter, find, Some, None, refl, ap, ◌∙◌, arith}
use Rattle.std.proofs.lemmas.Bool.Decides.{nat_tests}
use Rattle.std.proofs.lemmas.List.{append-nil, length-append, take-append-le}
use Rattle.std.proofs.lemmas.List.Elements.{filter-append}
use Rattle.std.specs.List.{AllByRecursion}
use Rattle.std.specs.FinMap as fin
use Rattle.kv_block.specs.declared.changes.Change.{Change}
use Rattle.map_model.specs.declared.records.Record.{Record}
use Rattle.map_model.specs.Machine.{reply_of, map_after, map_at, change_of, is_change}
use Rattle.map_model.specs.History.{is_change_at, is_change_late, told, IsRight, IsAnsweredRight, Matches, IsFounded, IsAfter, precedes, in_order}
use Rattle.map_model.proofs.Filtered.{weaker, append_all, filter_none}

-- the first n changes are those of a longer list
pub map_at-append : (C D : List Change) (n : ℕ) → n ≤ length C → map_at (C ++ D) n ≡ map_at C n
map_at-append C D n h = ap (map_after fin.empty) (take-append-le n C D h)

-- more changes leave a record right
pub right_stays : (C D : List Change) (r : Record) → IsRight C r → IsRight (C ++ D) r
right_stays C D r h =
    let w = h.within in
    let more = length-append C D in
    record {
      reply = ap (λ m. reply_of m r.call) (map_at-append C D r.point (omega (arith, w.most, w.seen))) ∙ h.reply;
      within = record { least = w.least; most = w.most; seen = omega (arith, w.seen, more) };
    }

pub answered_right_stays : (C D : List Change) (rs : List Record) → AllByRecursion (IsAnsweredRight C) rs → AllByRecursion (IsAnsweredRight (C ++ D)) rs
answered_right_stays C D rs h = weaker (IsAnsweredRight C) (IsAnsweredRight (C ++ D)) (λ r f a. right_stays C D r (f a)) rs h

both_true : (a b : Bool) → a ≡ true → b ≡ true → (a && b) ≡ true
both_true a b e f = ap (λ (c : Bool). c && b) e ∙ f

first_true : (a b : Bool) → (a && b) ≡ true → (a ≡ true) × (b ≡ true)
first_true true b e = (refl, e)
first_true false b e = absurd (cc)

-- the record comes before the next of its client in a list that ends with a record after it
precedes-push : (x r : Record) (xs : List Record) → IsAfter r x → precedes x (find (λ s. eqb s.client x.client) xs) ≡ true
    → precedes x (find (λ s. eqb s.client x.client) (xs ++ r ∷ [])) ≡ true
precedes-push x r [] after e =
    elim (eqb r.client x.client) as (λ b. eqb r.client x.client ≡ b → precedes x (cond b (Some r) None) ≡ true) [
      | true ↦ λ t.
          let same : x.client ≡ r.client = grind (arith, nat_tests) in
          let facts = after same in
          let less = facts.0 in
          let seen = facts.1 in
          both_true (ltb x.number r.number) (leb x.hi r.lo) (grind (arith, nat_tests)) (grind (arith, nat_tests))
      | false ↦ λ t. refl
    ] refl
precedes-push x r (s ∷ xs) after e =
    elim (eqb s.client x.client) as (λ b. precedes x (cond b (Some s) (find (λ q. eqb q.client x.client) xs)) ≡ true → precedes x (cond b (Some s) (find (λ q. eqb q.client x.client) (xs ++ r ∷ []))) ≡ true) [
      | true ↦ λ f. f
      | false ↦ λ f. precedes-push x r xs after f
    ] e

-- a record after all others keeps the clients' order
pub in_order-push : (rs : List Record) (r : Record) → in_order rs ≡ true → AllByRecursion (IsAfter r) rs → in_order (rs ++ r ∷ []) ≡ true
in_order-push [] r e h = refl
in_order-push (x ∷ xs) r e h =
    let p = first_true (precedes x (find (λ s. eqb s.client x.client) xs)) (in_order xs) e in
    both_true (precedes x (find (λ s. eqb s.client x.client) (xs ++ r ∷ []))) (in_order (xs ++ r ∷ [])) (precedes-push x r xs h.0 p.0) (in_order-push xs r p.1 h.1)

-- a record more that fails a test changes nothing of those that pass it
filter_skip : (t : Record → Bool) (rs : List Record) (r : Record) → t r ≡ false → filter t (rs ++ r ∷ []) ≡ filter t rs
filter_skip t rs r e = filter-append t rs (r ∷ []) ∙ ap (λ (b : Bool). filter t rs ++ cond b (r ∷ []) []) e ∙ append-nil (filter t rs)

-- a record that changed nothing keeps what each change has
Matches-quiet : (cs : List Change) (n : ℕ) (rs : List Record) (r : Record) → is_change r.reply ≡ false → Matches n cs rs → Matches n cs (rs ++ r ∷ [])
Matches-quiet [] n rs r e h = append_all (λ s. is_change_late n s ≡ false) rs (r ∷ []) h (ap (λ (b : Bool). b && leb n r.point) e, tt)
Matches-quiet (c ∷ cs) n rs r e h =
    (ap (map told) (filter_skip (is_change_at n) rs r (ap (λ (b : Bool). b && eqb r.point n) e)) ∙ h.0, Matches-quiet cs (n + 1) rs r e h.1)

-- a record that is no late change is not change number n, nor a later one
not_at : (n : ℕ) (s : Record) → is_change_late n s ≡ false → is_change_at n s ≡ false
not_at n s = by (is_change s.reply)
  where
    by : (b : Bool) → (b && leb n s.point) ≡ false → (b && eqb s.point n) ≡ false
    by true e = grind (arith, nat_tests)
    by false e = refl

not_later : (n : ℕ) (s : Record) → is_change_late n s ≡ false → is_change_late (n + 1) s ≡ false
not_later n s = by (is_change s.reply)
  where
    by : (b : Bool) → (b && leb n s.point) ≡ false → (b && leb (n + 1) s.point) ≡ false
    by true e = grind (arith, nat_tests)
    by false e = refl

-- a changing record with its change behind all others
Matches-change : (cs : List Change) (n : ℕ) (rs : List Record) (r : Record) (c : Change) → is_change r.reply ≡ true → change_of r.call ≡ Some c
    → r.point ≡ n + length cs → Matches n cs rs → Matches n (cs ++ c ∷ []) (rs ++ r ∷ [])
Matches-change [] n rs r c e is point h =
    let at : r.point ≡ n = omega arith in
    let older = filter_none (is_change_at n) rs (weaker (λ s. is_change_late n s ≡ false) (λ s. is_change_at n s ≡ false) (not_at n) rs h) in
    let own : is_change_at n r ≡ true = both_true (is_change r.reply) (eqb r.point n) e (grind (arith, nat_tests)) in
    let late : is_change_late (n + 1) r ≡ false = ap (λ (b : Bool). b && leb (n + 1) r.point) e ∙ grind (arith, nat_tests) in
    let one : filter (is_change_at n) (rs ++ r ∷ []) ≡ r ∷ [] =
    filter-append (is_change_at n) rs (r ∷ []) ∙ (λ i. older i ++ cond (own i) (r ∷ []) []) in (
      ap (map told) one ∙ (λ i. (at i, is i) ∷ []),
      append_all (λ s. is_change_late (n + 1) s ≡ false) rs (r ∷ []) (weaker (λ s. is_change_late n s ≡ false) (λ s. is_change_late (n + 1) s ≡ false) (not_later n) rs h) (late, tt),
    )
Matches-change (d ∷ cs) n rs r c e is point h =
    let other : is_change_at n r ≡ false = ap (λ (b : Bool). b && eqb r.point n) e ∙ grind (arith, nat_tests) in
    (ap (map told) (filter_skip (is_change_at n) rs r other) ∙ h.0, Matches-change cs (n + 1) rs r c e is (omega arith) h.1)

pub founded_none : IsFounded [] []
founded_none = record { right = tt; matched = tt; clients = refl }

pub founded_quiet : (C : List Change) (rs : List Record) (r : Record) → IsFounded C rs → is_change r.reply ≡ false → IsAnsweredRight C r → AllByRecursion (IsAfter r) rs
    → IsFounded C (rs ++ r ∷ [])
founded_quiet C rs r h e right after = record {
  right = append_all (IsAnsweredRight C) rs (r ∷ []) h.right (right, tt);
  matched = Matches-quiet C 0 rs r e h.matched;
  clients = in_order-push rs r h.clients after;
}

pub founded_change : (C : List Change) (c : Change) (rs : List Record) (r : Record) → IsFounded C rs → is_change r.reply ≡ true → change_of r.call ≡ Some c → r.point ≡ length C
    → IsAnsweredRight (C ++ c ∷ []) r → AllByRecursion (IsAfter r) rs → IsFounded (C ++ c ∷ []) (rs ++ r ∷ [])
founded_change C c rs r h e is point right after = record {
  right = append_all (IsAnsweredRight (C ++ c ∷ [])) rs (r ∷ []) (answered_right_stays C (c ∷ []) rs h.right) (right, tt);
  matched = Matches-change C 0 rs r c e is (omega arith) h.matched;
  clients = in_order-push rs r h.clients after;
}
