-- Which addresses an entry takes, links and covers; and what is taken, published or in a table is so later.
use Rattle.std.specs.Prelude.{◌≡◌, ℕ, ◌+◌, ◌<◌, ◌≤◌, Bool, true, false, cond, ◌&&◌, ◌||◌, nat_le, nat_lt, ◌==◌, Some, None, refl}
use Rattle.std.proofs.Common.{sym, ◌∙◌, ap, arith}
use Rattle.std.proofs.lemmas.Bool.Decides.{nat_tests}
use Rattle.slot_word.specs.declared.slots.Mark.{Mark}
use Rattle.node_words.specs.declared.geometry.Geometry.{Geometry}
use Rattle.node_words.specs.Addresses.{node_of, table_words}
use Rattle.node_words.specs.Roles.{Role, NextWord, DepthWord, DirectoryWord, BirthWord, HeaderWord, LockWord, ReservedWord, ChildWord, BucketWord, SlotWord, HeapWord}
use Rattle.verb_log.specs.declared.entry.Entry.{Entry}
use Rattle.verb_log.specs.Decoded.{Body, Content, Empty, Full}
use Rattle.verb_log.specs.Tables.{Past, Before, here, later, is_among, is_address, table_of, links, linked_by, is_taken, moves_across, is_published, publishes, covers}
use Rattle.race_laws.proofs.Touch.{table_stays, taken_stays, published_stays, and_both}

-- what was taken or published at a position is so later
pub published_before : (g : Geometry) {p q : Past} → Before p q → (a : ℕ) → is_published g p a ≡ true → is_published g q a ≡ true
published_before g here a h = h
published_before g (later {q = q} {e = e} b) a h = published_stays g q e a (published_before g b a h)

pub taken_before : (g : Geometry) {p q : Past} → Before p q → (a : ℕ) → is_taken g p a ≡ true → is_taken g q a ≡ true
taken_before g here a h = h
taken_before g (later {q = q} {e = e} b) a h = taken_stays g q e a (taken_before g b a h)

pub table_before : (g : Geometry) {p q : Past} → Before p q → (a t : ℕ) → table_of g p a ≡ Some t → table_of g q a ≡ Some t
table_before g here a t h = h
table_before g (later {q = q} {e = e} b) a t h = table_stays g q e a t (table_before g b a t h)

-- an entry that takes an address is on a next word
pub moved_by : (g : Geometry) (e : Entry) (r : Role) (a : ℕ) → moves_across g e r a ≡ true → (k : ℕ) × (r ≡ NextWord k) × (e.old ≤ a) × (a < e.new)
moved_by g e (NextWord k) a h = let x = and_both (nat_le e.old a && nat_lt a e.new) (node_of g a == node_of g e.at) h in let y = and_both (nat_le e.old a) (nat_lt a e.new) x.0 in (k, refl, grind (arith, nat_tests, y.0), grind (arith, nat_tests, y.1))
moved_by g e DepthWord a h = cc
moved_by g e (DirectoryWord j) a h = cc
moved_by g e (BirthWord t) a h = cc
moved_by g e (HeaderWord t) a h = cc
moved_by g e (LockWord t) a h = cc
moved_by g e ReservedWord a h = cc
moved_by g e (ChildWord t i) a h = cc
moved_by g e (BucketWord t n) a h = cc
moved_by g e (SlotWord t p) a h = cc
moved_by g e HeapWord a h = cc

-- an entry that links is on an empty child word
pub links_child : (g : Geometry) (e : Entry) (r : Role) → links g e r ≡ true → (t : ℕ) × (i : ℕ) × (r ≡ ChildWord t i)
links_child g e (NextWord k) h = cc
links_child g e DepthWord h = cc
links_child g e (DirectoryWord j) h = cc
links_child g e (BirthWord t) h = cc
links_child g e (HeaderWord t) h = cc
links_child g e (LockWord t) h = cc
links_child g e ReservedWord h = cc
links_child g e (ChildWord t i) h = (t, i, refl)
links_child g e (BucketWord t n) h = cc
links_child g e (SlotWord t p) h = cc
links_child g e HeapWord h = cc

linked_test : (y : Bool) (v t : ℕ) → cond y (Some v) None ≡ Some t → (y ≡ true) × (t ≡ v)
linked_test true v t h = (refl, (cc))
linked_test false v t h = cc

pub among : (t n a : ℕ) → is_among t n a ≡ true → (t ≤ a) × (a < t + n)
among t n a h = let x = and_both (nat_le t a) (nat_lt a (t + n)) h in (grind (arith, nat_tests, x.0), grind (arith, nat_tests, x.1))

pub among_test : (t n a : ℕ) → t ≤ a → a < t + n → is_among t n a ≡ true
among_test t n a h k = grind (arith, nat_tests)

pub linked_is : (g : Geometry) (e : Entry) (r : Role) (a t : ℕ) → linked_by g e r a ≡ Some t → (links g e r ≡ true) × (e.new ≤ a) × (a < e.new + table_words g) × (t ≡ e.new)
linked_is g e r a t h =
    let x = linked_test (links g e r && is_among e.new (table_words g) a) e.new t h in
    let y = and_both (links g e r) (is_among e.new (table_words g) a) x.0 in
    let z = among e.new (table_words g) a y.1 in
    (y.0, z.0, z.1, x.1)

pub linked_to : (g : Geometry) (e : Entry) (r : Role) (a : ℕ) → links g e r ≡ true → e.new ≤ a → a < e.new + table_words g → linked_by g e r a ≡ Some e.new
linked_to g e r a h k l = ap (λ (x : Bool). cond (x && is_among e.new (table_words g) a) (Some e.new) None) h ∙ ap (λ (x : Bool). cond x (Some e.new) None) (among_test e.new (table_words g) a k l)

pub links_publish : (g : Geometry) (e : Entry) (r : Role) (a : ℕ) → links g e r ≡ true → e.new ≤ a → a < e.new + table_words g → publishes g e r a ≡ true
links_publish g e (NextWord k) a h k' l = cc
links_publish g e DepthWord a h k l = cc
links_publish g e (DirectoryWord j) a h k l = cc
links_publish g e (BirthWord t) a h k l = cc
links_publish g e (HeaderWord t) a h k l = cc
links_publish g e (LockWord t) a h k l = cc
links_publish g e ReservedWord a h k l = cc
links_publish g e (ChildWord t i) a h k l = let x = and_both (e.old == 0) (is_address g e.new) h in ap (λ (y : Bool). y && is_among e.new (table_words g) a) x.1 ∙ among_test e.new (table_words g) a k l
links_publish g e (BucketWord t n) a h k l = cc
links_publish g e (SlotWord t p) a h k l = cc
links_publish g e HeapWord a h k l = cc

pub or_left : (x y : Bool) → x ≡ true → (x || y) ≡ true
or_left true y h = refl
or_left false y h = cc

-- a slot word covers its block alone
pub covered : (c : Content) (m : Mark) (b : Body) (a : ℕ) → c ≡ Full m b → covers c a ≡ true → (b.at ≤ a) × (a < b.at + b.length)
covered c m b a q h = among b.at b.length a (sym (ap (λ (x : Content). covers x a) q) ∙ h)

pub covers_it : (c : Content) (m : Mark) (b : Body) (a : ℕ) → c ≡ Full m b → b.at ≤ a → a < b.at + b.length → covers c a ≡ true
covers_it c m b a q h k = ap (λ (x : Content). covers x a) q ∙ among_test b.at b.length a h k

pub covers_none : (c : Content) (a : ℕ) → c ≡ Empty → covers c a ≡ true → ⊥
covers_none c a q h = let x = sym (ap (λ (y : Content). covers y a) q) ∙ h in cc
