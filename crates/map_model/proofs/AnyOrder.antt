-- Each change has its one record, whatever the order of the records.
use Rattle.std.proofs.Common.{◌≡◌, ℕ, ◌<◌, Bool, true, false, cond, ◌&&◌, leb, List, [], ◌∷◌, ◌++◌, length, map, filter, Option, Some, refl, sym, ap, ◌∙◌, subst, inl, inr, append_assoc, arith}
use Rattle.std.proofs.lemmas.Bool.Decides.{nat_tests}
use Rattle.std.proofs.lemmas.List.{append-nil, length_push, length-append}
use Rattle.std.specs.List.{AllByRecursion, slice_get}
use Rattle.kv_block.specs.declared.changes.Change.{Change}
use Rattle.map_model.specs.declared.records.Record.{Record}
use Rattle.map_model.specs.Machine.{change_of, is_change}
use Rattle.map_model.specs.History.{is_change_at, is_change_late, told, Matches, AreApart, IsMade, EachPair, Has, IsAnsweredRight, IsFounded, in_order}
use Rattle.map_model.proofs.Filtered.{weaker, filter_none}
use Rattle.map_model.proofs.Bridge.{change_at}

-- what holds of each holds of one among them
pub all_has : (P : Record → Type 0) (rs : List Record) (r : Record) → AllByRecursion P rs → Has rs r → P r
all_has P [] r h g = absurd g
all_has P (x ∷ xs) r h (inl e) = subst P e h.0
all_has P (x ∷ xs) r h (inr g) = all_has P xs r h.1 g

-- the change behind those that are done
pub slice_get_at : (done : List Change) (c : Change) (cs : List Change) → slice_get (done ++ c ∷ cs) (length done) ≡ Some c
slice_get_at [] c cs = refl
slice_get_at (d ∷ done) c cs = slice_get_at done c cs

-- a record apart from one that made change number n did not make it
apart_not_at : (n : ℕ) (x y : Record) → AreApart x y → is_change_at n x ≡ true → is_change_at n y ≡ false
apart_not_at n x y apart e = by (is_change_at n y) refl
  where
    by : (b : Bool) → is_change_at n y ≡ b → b ≡ false
    by false f = refl
    by true f = let p = change_at n x e in let q = change_at n y f in absurd (apart p.0 q.0 (p.1 ∙ sym q.1))

apart_not_at_first : (n : ℕ) (x y : Record) → AreApart x y → is_change_at n y ≡ true → is_change_at n x ≡ false
apart_not_at_first n x y apart e = by (is_change_at n x) refl
  where
    by : (b : Bool) → is_change_at n x ≡ b → b ≡ false
    by false f = refl
    by true f = let p = change_at n x f in let q = change_at n y e in absurd (apart p.0 q.0 (p.1 ∙ sym q.1))

-- the one record of change number n
one_at : (n : ℕ) (rs : List Record) (r : Record) → EachPair AreApart rs → Has rs r → is_change_at n r ≡ true → filter (is_change_at n) rs ≡ r ∷ []
one_at n [] r apart h e = absurd h
one_at n (x ∷ xs) r apart (inl same) e =
    let own : is_change_at n x ≡ true = ap (is_change_at n) same ∙ e in
    let rest = filter_none (is_change_at n) xs (weaker (AreApart x) (λ y. is_change_at n y ≡ false) (λ y a. apart_not_at n x y a own) xs apart.0) in
    ap (λ (b : Bool). cond b (x ∷ filter (is_change_at n) xs) (filter (is_change_at n) xs)) own ∙ (λ i. same i ∷ rest i)
one_at n (x ∷ xs) r apart (inr h) e =
    let other = apart_not_at_first n x r (all_has (AreApart x) xs r apart.0 h) e in
    ap (λ (b : Bool). cond b (x ∷ filter (is_change_at n) xs) (filter (is_change_at n) xs)) other ∙ one_at n xs r apart.1 h e

-- a changing record's change is one of all
not_beyond : (C : List Change) (r : Record) → IsMade C r → is_change_late (length C) r ≡ false
not_beyond C r h = by (is_change r.reply) refl
  where
    by : (b : Bool) → is_change r.reply ≡ b → (b && leb (length C) r.point) ≡ false
    by false e = refl
    by true e = let less = (h e).0 in grind (arith, nat_tests)

pub matches_any_order : (C : List Change) (rs : List Record) → AllByRecursion (IsMade C) rs → EachPair AreApart rs
    → ((n : ℕ) → n < length C → (r : Record) × Has rs r × (is_change_at n r ≡ true))
    → (cs done : List Change) → done ++ cs ≡ C → Matches (length done) cs rs
matches_any_order C rs own apart each [] done e =
    let all : done ≡ C = sym (append-nil done) ∙ e in
    subst (λ (d : List Change). AllByRecursion (λ r. is_change_late (length d) r ≡ false) rs) (sym all)
    (weaker (IsMade C) (λ r. is_change_late (length C) r ≡ false) (not_beyond C) rs own)
matches_any_order C rs own apart each (c ∷ cs) done e =
    let long = length-append done (c ∷ cs) in
    let total = ap length e in
    let less : length done < length C = omega (arith, long, total) in
    let found = each (length done) less in
    let r = found.0 in
    let at = change_at (length done) r found.2 in
    let is : slice_get C r.point ≡ change_of r.call = (all_has (IsMade C) rs r own found.1 at.0).1 in
    let told_is : told r ≡ (length done, Some c) =
    let change : change_of r.call ≡ Some c = sym is ∙ (λ i. slice_get (e' i) (at.1 i)) ∙ slice_get_at done c cs in
    λ i. (at.1 i, change i) in (
      ap (map told) (one_at (length done) rs r apart found.1 found.2) ∙ ap (λ (p : ℕ × Option Change). p ∷ []) told_is,
      subst (λ (n : ℕ). Matches n cs rs) (length_push done c) (matches_any_order C rs own apart each cs (done ++ c ∷ []) (append_assoc done (c ∷ []) cs ∙ e)),
    )
  where
    e' : C ≡ done ++ c ∷ cs
    e' = sym e

-- the facts of each record and of each change, whatever the order of the records, found a legal history
pub founded_any_order : (C : List Change) (rs : List Record) → AllByRecursion (IsAnsweredRight C) rs → AllByRecursion (IsMade C) rs → EachPair AreApart rs
    → ((n : ℕ) → n < length C → (r : Record) × Has rs r × (is_change_at n r ≡ true)) → in_order rs ≡ true → IsFounded C rs
founded_any_order C rs right own apart each clients = record {
  right = right;
  matched = matches_any_order C rs own apart each C [] refl;
  clients = clients;
}
