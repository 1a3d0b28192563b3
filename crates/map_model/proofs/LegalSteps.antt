-- The steps of the tests that make up `is_legal`.
use Rattle.std.proofs.Common.{◌≡◌, ℕ, zero, suc, ◌+◌, ◌<◌, ◌≤◌, Bool, true, false, cond, ◌&&◌, eqb, List, [], ◌∷◌, length, drop, get_or, find, Option, Some, refl, sym, ap, ◌∙◌, arith}
use Rattle.std.proofs.lemmas.Bool.Decides.{nat_tests}
use Rattle.std.proofs.lemmas.List.{drop_all, drop_more, length-drop}
use Rattle.std.specs.Ordering.{nat_cmp, eq_by_cmp}
use Rattle.std.specs.Cmp.{unsigned_ties}
use Rattle.std.specs.Prelude.{IsTrue}
use Rattle.kv_block.specs.declared.changes.Change.{Change}
use Rattle.map_model.specs.declared.records.Record.{Record}
use Rattle.map_model.specs.History.{numbered, in_order, precedes}

-- where no record is left, all changes are made just where none is left
pub none_left : (n : ℕ) (C : List Change) → n ≤ length C → IsTrue (eqb n (length C)) → [] ≡ numbered n (drop n C)
none_left n C le e =
    let all : length C ≤ n = grind (arith, nat_tests) in
    ap (numbered n) (sym (drop_all n C all))

pub none_left_only : (n : ℕ) (C : List Change) → n ≤ length C → [] ≡ numbered n (drop n C) → IsTrue (eqb n (length C))
none_left_only n C le e = by C le (drop n C) refl e
  where
    by : (C : List Change) → n ≤ length C → (ds : List Change) → drop n C ≡ ds → [] ≡ numbered n ds → IsTrue (eqb n (length C))
    by C le [] f g = let h = ap length f in let k = length-drop n C in grind (arith, nat_tests)
    by C le (d ∷ ds) f g = absurd (cc)

-- records that are out of order at their end are out of order
pub out_of_order : (i : ℕ) (rs : List Record) → in_order (drop i rs) ≡ false → in_order rs ≡ false
out_of_order zero rs e = e
out_of_order (suc i) [] e = e
out_of_order (suc i) (r ∷ rs) e = by (precedes r (find (λ s. eqb s.client r.client) rs)) (out_of_order i rs e)
  where
    by : (b : Bool) {c : Bool} → c ≡ false → (b && c) ≡ false
    by true f = f
    by false f = refl

-- the records from place i on, by the record there
pub from_place : (rs : List Record) (i j : ℕ) (r : Record) → i + 1 ≡ j → i < length rs → r ≡ get_or rs i r → drop i rs ≡ r ∷ drop j rs
from_place rs i j r e less is = drop_more rs i r less ∙ (λ k. is' k ∷ drop (e k) rs)
  where
    is' : get_or rs i r ≡ r
    is' = sym is

-- one record back: out of order
pub back_false : (rs : List Record) (i j : ℕ) (r : Record) (next : Option Record) → drop i rs ≡ r ∷ drop j rs → next ≡ find (λ s. eqb s.client r.client) (drop j rs)
    → false ≡ precedes r next → in_order rs ≡ false
back_false rs i j r next at is e =
    out_of_order i rs (ap in_order at ∙ (λ k. precedes r (is' k) && in_order (drop j rs)) ∙ ap (λ (b : Bool). b && in_order (drop j rs)) (sym e))
  where
    is' : find (λ s. eqb s.client r.client) (drop j rs) ≡ next
    is' = sym is

-- one record back: in order
pub back_true : (rs : List Record) (i j : ℕ) (r : Record) (next : Option Record) → drop i rs ≡ r ∷ drop j rs → next ≡ find (λ s. eqb s.client r.client) (drop j rs)
    → true ≡ precedes r next → in_order (drop j rs) ≡ true → in_order (drop i rs) ≡ true
back_true rs i j r next at is e h =
    ap in_order at ∙ (λ k. precedes r (is' k) && in_order (drop j rs)) ∙ ap (λ (b : Bool). b && in_order (drop j rs)) (sym e) ∙ h
  where
    is' : find (λ s. eqb s.client r.client) (drop j rs) ≡ next
    is' = sym is

-- one record back: each client's first
pub back_next : (rs : List Record) (i j q : ℕ) (r : Record) (old new : Option Record) → drop i rs ≡ r ∷ drop j rs → old ≡ find (λ s. eqb s.client q) (drop j rs)
    → new ≡ cond (eq_by_cmp nat_cmp r.client q) (Some r) old → new ≡ find (λ s. eqb s.client q) (drop i rs)
back_next rs i j q r old new at is e =
    e ∙ (λ k. cond (tie k) (Some r) (is k)) ∙ ap (find (λ s. eqb s.client q)) (sym at)
  where
    tie : eq_by_cmp nat_cmp r.client q ≡ eqb r.client q
    tie = sym (unsigned_ties r.client q)
