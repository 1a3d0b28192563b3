-- The words that were shown are those of the readings.
use Rattle.std.specs.Prelude.{◌≡◌, ℕ, Bool, true, false, ◌&&◌, ◌||◌, ◌==◌, List, [], ◌∷◌, ◌++◌, map, Option, Some, None, refl}
use Rattle.std.proofs.Common.{sym, ◌∙◌, ap, inl, inr, arith, ⊎_elim}
use Rattle.std.proofs.lemmas.Bool.Decides.{nat_tests}
use Rattle.slot_word.specs.declared.slots.Mark.TheVariants.{Live, Pending, Copied, Moved}
use Rattle.node_words.specs.declared.geometry.Geometry.{Geometry}
use Rattle.node_words.specs.Addresses.{slot_at}
use Rattle.verb_log.specs.Decoded.{Body, Content, Empty, Full, NoSlot, content}
use Rattle.verb_log.specs.Tables.{Past, Before, word_at}
use Rattle.verb_log.proofs.Positions.{Before-trans}
use Rattle.race_laws.specs.Setting.{Setting}
use Rattle.race_laws.specs.Standing.{place_in, IsIn}
use Rattle.race_laws.specs.Looks.{Reading, Searched, InOrder, Answers, IsMiss, AllMiss}
use Rattle.race_laws.proofs.Step.{same_body_is}
use Rattle.race_laws.proofs.Touch.{and_both, or_either}
use Rattle.pass_laws.proofs.ListPass.{Shown, Seen, is_moved, shows_moved, answers, table_before}
use Rattle.log_facts.specs.Passings.{searched_before}
use Rattle.pass_laws.proofs.ListEnd.{Saw}

pub saw_push : (g : Geometry) (t : ℕ) (seen : List Reading) (shown : List Shown) → Saw g t seen shown → (r : Reading) (x : Shown) → r.place ≡ x.place → word_at g r.at (slot_at t r.place) ≡ x.word → Saw g t (seen ++ r ∷ []) (shown ++ x ∷ [])
saw_push g t [] [] h r x p w = (p, w, tt)
saw_push g t [] (y ∷ ys) h r x p w = absurd h
saw_push g t (z ∷ zs) [] h r x p w = absurd h
saw_push g t (z ∷ zs) (y ∷ ys) h r x p w = (h.0, h.1, saw_push g t zs ys h.2 r x p w)

pub in_order_push : (from : Past) (seen : List Reading) (mid : Past) → InOrder from seen mid → (r : Reading) (to : Past) → Before mid r.at → Before r.at to → InOrder from (seen ++ r ∷ []) to
in_order_push from [] mid h r to a b = (Before-trans h a, b)
in_order_push from (x ∷ xs) mid h r to a b = (h.0, in_order_push x.at xs mid h.1 r to a b)

pub in_order_to : (from : Past) (seen : List Reading) (mid to : Past) → InOrder from seen mid → Before mid to → InOrder from seen to
in_order_to from [] mid to h b = Before-trans h b
in_order_to from (x ∷ xs) mid to h b = (h.0, in_order_to x.at xs mid to h.1 b)

pub all_miss_push : (s : Setting) (key : List ℕ) (own : Option ℕ) (prev : Option Searched) (t : ℕ) (seen : List Reading) → AllMiss s key own prev t seen → (r : Reading) → IsMiss s key own prev t r → AllMiss s key own prev t (seen ++ r ∷ [])
all_miss_push s key own prev t [] h r m = (m, tt)
all_miss_push s key own prev t (x ∷ xs) h r m = (h.0, all_miss_push s key own prev t xs h.1 r m)

pub places_push : (seen : List Reading) (r : Reading) (ps : List ℕ) → map (λ (x : Reading). x.place) (seen ++ r ∷ []) ++ ps ≡ map (λ (x : Reading). x.place) seen ++ (r.place ∷ ps)
places_push [] r ps = refl
places_push (x ∷ xs) r ps = ap (λ (v : List ℕ). x.place ∷ v) (places_push xs r ps)

-- a moved word of the block
moved_is : (b : Body) (c : Content) → is_moved b c ≡ true → c ≡ Full Moved b
moved_is b Empty h = cc
moved_is b NoSlot h = cc
moved_is b (Full Live c) h = cc
moved_is b (Full Pending c) h = cc
moved_is b (Full Copied c) h = cc
moved_is b (Full Moved c) h = ap (Full Moved) (sym (same_body_is c b h))

is_moved-full : (b : Body) → is_moved b (Full Moved b) ≡ true
is_moved-full b = grind (arith, nat_tests)

pub saw_answers : (g : Geometry) (t : ℕ) (seen : List Reading) (shown : List Shown) → Saw g t seen shown → (p : ℕ) (b : Body) → shows_moved shown p b ≡ true → (r : Reading) × IsIn r seen × (r.place ≡ p) × (place_in g r.at t p ≡ Full Moved b)
saw_answers g t [] [] h p b a = absurd (cc)
saw_answers g t [] (x ∷ xs) h p b a = absurd h
saw_answers g t (r ∷ rs) [] h p b a = absurd h
saw_answers g t (r ∷ rs) (x ∷ xs) h p b a = ⊎_elim
    (λ (y : ((x.place == p) && is_moved b (content x.word)) ≡ true).
    let z = and_both (x.place == p) (is_moved b (content x.word)) y in
    let place : r.place ≡ p = h.0 ∙ (let w : x.place ≡ p = grind (arith, nat_tests, z.0) in w) in
    (r, inl refl, place, ap (λ v. content (word_at g r.at (slot_at t v))) (sym place) ∙ ap content h.1 ∙ moved_is b (content x.word) z.1))
    (λ (y : shows_moved xs p b ≡ true). let z = saw_answers g t rs xs h.2 p b y in (z.0, inr z.1, z.2, z.3))
    (or_either ((x.place == p) && is_moved b (content x.word)) (shows_moved xs p b) a)

or_right : (x y : Bool) → y ≡ true → (x || y) ≡ true
or_right true y h = refl
or_right false y h = h

and_of : (x y : Bool) → x ≡ true → y ≡ true → (x && y) ≡ true
and_of true y h k = k
and_of false y h k = cc

or_of : (x y : Bool) → x ≡ true → (x || y) ≡ true
or_of true y h = refl
or_of false y h = cc

same_test : (x p : ℕ) → x ≡ p → (x == p) ≡ true
same_test x p h = grind (arith, nat_tests)

pub answers_saw : (g : Geometry) (t : ℕ) (seen : List Reading) (shown : List Shown) → Saw g t seen shown → (p : ℕ) (b : Body) → (r : Reading) → IsIn r seen → r.place ≡ p → place_in g r.at t p ≡ Full Moved b → shows_moved shown p b ≡ true
answers_saw g t [] shown h p b r a q m = absurd a
answers_saw g t (y ∷ ys) [] h p b r a q m = absurd h
answers_saw g t (y ∷ ys) (x ∷ xs) h p b r a q m = ⊎_elim
    (λ (z : r ≡ y).
    let place : y.place ≡ p = ap (λ (v : Reading). v.place) (sym z) ∙ q in
    let shows : content x.word ≡ Full Moved b = ap content (sym h.1) ∙ ap (λ v. content (word_at g y.at (slot_at t v))) place ∙ ap (λ (v : Reading). place_in g v.at t p) (sym z) ∙ m in
    or_of ((x.place == p) && is_moved b (content x.word)) (shows_moved xs p b) (and_of (x.place == p) (is_moved b (content x.word)) (same_test x.place p (sym h.0 ∙ place)) (ap (is_moved b) shows ∙ is_moved-full b)))
    (λ (z : IsIn r ys). or_right ((x.place == p) && is_moved b (content x.word)) (shows_moved xs p b) (answers_saw g t ys xs h.2 p b r z q m)) a

-- what was shown of the table before
abbrev pub PrevSaw : Geometry → Option Searched → Option Seen → Type 0
PrevSaw g None None = Unit {0}
PrevSaw g None (Some y) = ⊥
PrevSaw g (Some x) None = ⊥
PrevSaw g (Some x) (Some y) = (x.table ≡ y.table) × Saw g x.table x.seen y.shown

pub before_same_table : (g : Geometry) (prev : Option Searched) (seen : Option Seen) → PrevSaw g prev seen → searched_before prev ≡ table_before seen
before_same_table g None None h = refl
before_same_table g None (Some y) h = absurd h
before_same_table g (Some x) None h = absurd h
before_same_table g (Some x) (Some y) h = ap (λ v. Some v) h.0

pub answering : (s : Setting) (prev : Option Searched) (seen : Option Seen) → PrevSaw s.geometry prev seen → (p : ℕ) (b : Body) → answers seen p b ≡ true → Answers s prev p b
answering s None None h p b a = absurd (cc)
answering s None (Some y) h p b a = absurd h
answering s (Some x) None h p b a = absurd h
answering s (Some x) (Some y) h p b a = saw_answers s.geometry x.table x.seen y.shown h.1 p b a

pub not_answering : (s : Setting) (prev : Option Searched) (seen : Option Seen) → PrevSaw s.geometry prev seen → (p : ℕ) (b : Body) → answers seen p b ≡ false → Answers s prev p b → ⊥
not_answering s None None h p b a w = w
not_answering s None (Some y) h p b a w = absurd h
not_answering s (Some x) None h p b a w = absurd h
not_answering s (Some x) (Some y) h p b a w = let z = answers_saw s.geometry x.table x.seen y.shown h.1 p b w.0 w.1 w.2 w.3 in cc
