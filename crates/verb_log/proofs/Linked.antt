-- The oldest link of a table in which an address stands tells the table at each position.
use Rattle.std.proofs.Common.{◌≡◌, ℕ, suc, ◌<◌, ◌≤◌, List, [], ◌∷◌, ◌++◌, length, reverse, take, Bool, true, false, cond, ◌&&◌, Option, Some, None, refl, sym, ap, ◌∙◌, arith, inl, inr, ◌⊎◌}
use Rattle.std.specs.Prelude.{slice_get}
use Rattle.std.proofs.lemmas.List.{length-reverse}
use Rattle.std.proofs.lemmas.Option.{slice_get_within}
use Rattle.std.proofs.lemmas.Bool.Decides.{nat_tests}
use Rattle.node_words.specs.declared.geometry.Geometry.{Geometry}
use Rattle.node_words.specs.Addresses.{table_words}
use Rattle.node_words.specs.Roles.{first_table_of, role_in}
use Rattle.node_words.proofs.FirstTables.{first_in}
use Rattle.verb_log.specs.declared.entry.Entry.{Entry}
use Rattle.verb_log.specs.Tables.{Past, is_among, or_else, links, linked_by, table_of, judged_role, Before, here, later}
use Rattle.verb_log.specs.Links.{Link, older, link_of, table_then}
use Rattle.verb_log.specs.Laws.{RolesStay}
use Rattle.verb_log.proofs.InOrder.{reverse_cons}
use Rattle.verb_log.proofs.Positions.{Before-prefix, Before-take, length-position, position_take, get_left, get_last}

-- the oldest link is an older one, or the last entry's own
link_cases : (b : Bool) (m t : ℕ) (o : Option Link) (k : Link) → older o (cond b (Some (record { number = m; table = t })) None) ≡ Some k → (o ≡ Some k) ⊎ ((m ≡ k.number) × (t ≡ k.table))
link_cases b m t (Some j) k h = inl h
link_cases true m t None k h = inr (cc, cc)
link_cases false m t None k h = absurd (cc)

-- the entry of a link's number put the table's address into a child word
pub record IsLinked (past : Past) (k : Link) : Type 0 where
  pub entry : Entry
  pub there : slice_get (reverse past) k.number ≡ Some entry
  pub table : entry.new ≡ k.table

pub link_entry : (g : Geometry) (past : Past) (a : ℕ) (k : Link) → link_of g past a ≡ Some k → IsLinked past k
link_entry g [] a k h = absurd (cc)
link_entry g (e ∷ past) a k h =
    elim (link_cases (links g e (judged_role g past e.at) && is_among e.new (table_words g) a) (length past) e.new (link_of g past a) k h) [
      | inl was ↦ let x = link_entry g past a k was in record { entry = x.entry; there = ap (λ (l : List Entry). slice_get l k.number) (reverse_cons e past) ∙ get_left (reverse past) (e ∷ []) k.number x.entry x.there; table = x.table }
      | inr own ↦ record { entry = e; there = ap (λ (l : List Entry). slice_get l k.number) (reverse_cons e past) ∙ ap (slice_get (reverse past ++ e ∷ [])) (sym own.0 ∙ sym (length-reverse past)) ∙ get_last (reverse past) e; table = own.1 }
    ]

-- a link's number is that of an entry of the log
pub link_below : (g : Geometry) (past : Past) (a : ℕ) (k : Link) → link_of g past a ≡ Some k → k.number < length past
link_below g past a k h =
    let x = link_entry g past a k h in
    let n = length-reverse past in
    let y = slice_get_within (reverse past) k.number x.entry x.there in
    omega arith

-- one more entry tells nothing of positions before it
pub then_older : (n m t : ℕ) (b : Bool) (o : Option Link) → n ≤ m → table_then n (older o (cond b (Some (record { number = m; table = t })) None)) ≡ table_then n o
then_older n m t b (Some k) h = refl
then_older n m t true None h = grind (arith, nat_tests)
then_older n m t false None h = refl

-- behind it, the table is that of the older link, or the entry's own
pub then_next : (m t : ℕ) (b : Bool) (o : Option Link) (first : Option ℕ) → ((k : Link) → o ≡ Some k → k.number < m) → or_else (or_else first (table_then m o)) (cond b (Some t) None) ≡ or_else first (table_then (suc m) (older o (cond b (Some (record { number = m; table = t })) None)))
then_next m t b o (Some f) h = refl
then_next m t b (Some k) None h = let x : k.number < m = h k refl in grind (arith, nat_tests)
then_next m t true None None h = grind (arith, nat_tests)
then_next m t false None None h = refl

-- the table at the end of a log
pub table_now : (g : Geometry) (past : Past) (a : ℕ) → table_of g past a ≡ or_else (first_table_of g a) (table_then (length past) (link_of g past a))
table_now g [] a = none (first_table_of g a)
  where
    none : (o : Option ℕ) → o ≡ or_else o None
    none None = refl
    none (Some t) = refl
table_now g (e ∷ past) a =
    ap (λ (o : Option ℕ). or_else o (cond (links g e (judged_role g past e.at) && is_among e.new (table_words g) a) (Some e.new) None)) (table_now g past a)
    ∙ then_next (length past) e.new (links g e (judged_role g past e.at) && is_among e.new (table_words g) a) (link_of g past a) (first_table_of g a) (link_below g past a)

-- and at each position of it
pub table_before : (g : Geometry) (p q : Past) (a : ℕ) → Before p q → table_of g p a ≡ or_else (first_table_of g a) (table_then (length p) (link_of g q a))
table_before g p q' a here = table_now g p a
table_before g p (e ∷ q) a (later b) =
    let x = (position_take p q b).0 in
    table_before g p q a b
    ∙ ap (or_else (first_table_of g a)) (sym (then_older (length p) (length q) e.new (links g e (judged_role g q e.at) && is_among e.new (table_words g) a) (link_of g q a) x))

pub table_take : (g : Geometry) (l : List Entry) (n a : ℕ) → n ≤ length l → table_of g (reverse (take n l)) a ≡ or_else (first_table_of g a) (table_then n (link_of g (reverse l) a))
table_take g l n a h = table_before g (reverse (take n l)) (reverse l) a (Before-prefix l n) ∙ ap (λ (k : ℕ). or_else (first_table_of g a) (table_then k (link_of g (reverse l) a))) (length-position l n h)

-- a first table is the table at each position
pub table_first : (g : Geometry) (past : Past) (a t : ℕ) → first_table_of g a ≡ Some t → table_of g past a ≡ Some t
table_first g [] a t h = h
table_first g (e ∷ past) a t h = ap (λ (o : Option ℕ). or_else o (linked_by g e (judged_role g past e.at) a)) (table_first g past a t h)

-- an address stands at or behind its table's first word
pub linked_low : (g : Geometry) (past : Past) (e : Entry) (a t : ℕ) → linked_by g e (judged_role g past e.at) a ≡ Some t → t ≤ a
linked_low g past e a t h = low (links g e (judged_role g past e.at)) h
  where
    low : (b : Bool) → cond (b && is_among e.new (table_words g) a) (Some e.new) None ≡ Some t → t ≤ a
    low b h = grind (arith, nat_tests)

pub or_else_cases : (o p : Option ℕ) (t : ℕ) → or_else o p ≡ Some t → (o ≡ Some t) ⊎ (p ≡ Some t)
or_else_cases None p t h = inr h
or_else_cases (Some u) p t h = inl h

pub table_low : (g : Geometry) (past : Past) (a t : ℕ) → table_of g past a ≡ Some t → t ≤ a
table_low g [] a t h = (first_in g a t h).from
table_low g (e ∷ past) a t h =
    elim (or_else_cases (table_of g past a) (linked_by g e (judged_role g past e.at) a) t h) [
      | inl old ↦ table_low g past a t old
      | inr own ↦ linked_low g past e a t own
    ]

-- a table of an address stays its table
pub table_stays : (g : Geometry) (p q : Past) (a t : ℕ) → Before p q → table_of g p a ≡ Some t → table_of g q a ≡ Some t
table_stays g p q' a t here h = h
table_stays g p (e ∷ q) a t (later b) h = ap (λ (o : Option ℕ). or_else o (linked_by g e (judged_role g q e.at) a)) (table_stays g p q a t b h)

pub roles_stay : RolesStay
roles_stay g log n m a t h is =
    let later_on = table_stays g (reverse (take n log)) (reverse (take m log)) a t (Before-take log n m h) is in
    (later_on, ap (role_in g a) (later_on ∙ sym is))
