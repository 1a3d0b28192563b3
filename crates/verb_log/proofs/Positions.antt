-- The positions of a log are its prefixes.
use Rattle.std.proofs.Common.{◌≡◌, ℕ, zero, suc, ◌+◌, ◌<◌, ◌≤◌, get_or, List, [], ◌∷◌, ◌++◌, length, reverse, take, drop, Some, refl, sym, ap, subst, ◌∙◌, arith, append_assoc, le_refl, add-one}
use Rattle.std.specs.Prelude.{slice_get}
use Rattle.std.proofs.lemmas.List.{append-nil, reverse-reverse, length-reverse, take-append-drop, take-take, take-append-le, take_all, length-take-le}
use Rattle.std.proofs.lemmas.Option.{slice_get_read}
use Rattle.node_words.specs.declared.geometry.Geometry.{Geometry}
use Rattle.verb_log.specs.declared.entry.Entry.{Entry}
use Rattle.verb_log.specs.Tables.{Past, Before, here, later}
use Rattle.verb_log.specs.Replay.{Follows, IsMade, WellMade}
use Rattle.verb_log.proofs.InOrder.{reverse_push, reverse_cons}

pub Before-trans : {p q r : Past} → Before p q → Before q r → Before p r
Before-trans a here = a
Before-trans a (later b) = later (Before-trans a b)

-- a log is a position of each longer one
pub Before-append : (l m : List Entry) → Before (reverse l) (reverse (l ++ m))
Before-append l [] = subst (λ (x : List Entry). Before (reverse l) (reverse x)) (sym (append-nil l)) here
Before-append l (e ∷ m) =
    let step : Before (reverse l) (reverse (l ++ e ∷ [])) = subst (Before (reverse l)) (sym (reverse_push l e)) (later here) in
    subst (λ (x : List Entry). Before (reverse l) (reverse x)) (append_assoc l (e ∷ []) m) (Before-trans step (Before-append (l ++ e ∷ []) m))

-- each prefix is a position of each longer prefix
pub Before-take : (l : List Entry) (n m : ℕ) → n ≤ m → Before (reverse (take n l)) (reverse (take m l))
Before-take l n m h =
    let cut : take n (take m l) ≡ take n l = take-take n m l h in
    subst (λ (x : List Entry). Before (reverse x) (reverse (take m l))) cut
    (subst (λ (x : List Entry). Before (reverse (take n (take m l))) (reverse x)) (take-append-drop n (take m l)) (Before-append (take n (take m l)) (drop n (take m l))))

-- a prefix of the log
pub Before-prefix : (l : List Entry) (n : ℕ) → Before (reverse (take n l)) (reverse l)
Before-prefix l n = subst (λ (x : List Entry). Before (reverse (take n l)) (reverse x)) (take-append-drop n l) (Before-append (take n l) (drop n l))

-- each position is a prefix: so many entries of the log in order
pub position_take : (p q : Past) → Before p q → (length p ≤ length q) × (p ≡ reverse (take (length p) (reverse q)))
position_take p p' here = (le_refl _, sym (ap reverse (take_all _ (reverse p) (let e = length-reverse p in omega arith)) ∙ reverse-reverse p))
position_take p (e ∷ q) (later b) =
    let x = position_take p q b in
    let n = length-reverse q in
    let cut : take (length p) (reverse (e ∷ q)) ≡ take (length p) (reverse q) = ap (take (length p)) (reverse_cons e q) ∙ take-append-le (length p) (reverse q) (e ∷ []) (let y = x.0 in omega arith) in
    (let y = x.0 in omega arith, x.1 ∙ ap reverse (sym cut))

-- of a log in order
pub Before-is : (p : Past) (l : List Entry) → Before p (reverse l) → (n : ℕ) × (n ≤ length l) × (p ≡ reverse (take n l))
Before-is p l b =
    let x = position_take p (reverse l) b in
    let n = length-reverse l in
    (length p, (let y = x.0 in omega arith), x.1 ∙ ap (λ (m : List Entry). reverse (take (length p) m)) (reverse-reverse l))

-- the length of a position is its number of entries
pub length-position : (l : List Entry) (n : ℕ) → n ≤ length l → length (reverse (take n l)) ≡ n
length-position l n h = length-reverse (take n l) ∙ length-take-le n l h

-- the whole log is its last position
pub position_all : (l : List Entry) → reverse (take (length l) l) ≡ reverse l
position_all l = ap reverse (take_all (length l) l (le_refl _))

-- an item of a list that goes on, and its last one
pub get_left : {A : Type 0} (l m : List A) (n : ℕ) (x : A) → slice_get l n ≡ Some x → slice_get (l ++ m) n ≡ Some x
get_left [] m n x h = absurd (cc)
get_left (y ∷ l) m zero x h = h
get_left (y ∷ l) m (suc n) x h = get_left l m n x h

pub get_last : {A : Type 0} (l : List A) (x : A) → slice_get (l ++ x ∷ []) (length l) ≡ Some x
get_last [] x = refl
get_last (y ∷ l) x = get_last l x

-- the position behind an entry
pub take_get : {A : Type 0} (l : List A) (n : ℕ) (x : A) → slice_get l n ≡ Some x → take (n + 1) l ≡ take n l ++ x ∷ []
take_get [] n x h = absurd (cc)
take_get (y ∷ l) zero x h = let e : y ≡ x = cc in cc
take_get {A = A} (y ∷ l) (suc n) x h = let e = take_get l n x h in let f = rw add-one at e in rw add-one (ap (λ (m : List A). y ∷ m) f)

pub position_next : (l : List Entry) (n : ℕ) (e : Entry) → slice_get l n ≡ Some e → reverse (take (n + 1) l) ≡ e ∷ reverse (take n l)
position_next l n e h = ap reverse (take_get l n e h) ∙ reverse_push (take n l) e

-- each position of a well made log is well made, and each entry follows the log before it
pub IsMade-before : (g : Geometry) (p q : Past) → Before p q → IsMade g q → IsMade g p
IsMade-before g p q' here m = m
IsMade-before g p (e ∷ q) (later b) m = IsMade-before g p q b m.1

pub WellMade-take : (g : Geometry) (l : List Entry) (n : ℕ) → WellMade g l → WellMade g (take n l)
WellMade-take g l n m = IsMade-before g (reverse (take n l)) (reverse l) (Before-prefix l n) m

pub WellMade-at : (g : Geometry) (l : List Entry) (n : ℕ) (e : Entry) → slice_get l n ≡ Some e → WellMade g l → Follows g (reverse (take n l)) e
WellMade-at g l n e h m = (subst (IsMade g) (position_next l n e h) (WellMade-take g l (n + 1) m)).0

-- a place of a list has an item
pub item_there : {A : Type 0} (l : List A) (n : ℕ) → n < length l → (x : A) × (slice_get l n ≡ Some x)
item_there [] n h = absurd (omega arith)
item_there (y ∷ l) zero h = (y, refl)
item_there (y ∷ l) (suc n) h = item_there l n (omega arith)

-- an entry of a well made log stands below the memory's words
pub entry_within : (g : Geometry) (l : List Entry) (n : ℕ) (e : Entry) → WellMade g l → n < length l → e ≡ get_or l n e → e.at < g.words
entry_within g l n e made within read = (WellMade-at g l n e (slice_get_read l (length l) n e refl within read) made).within
