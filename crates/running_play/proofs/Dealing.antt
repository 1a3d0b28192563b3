-- Seats that are dealt in order.
use Rattle.std.specs.Prelude.{◌≡◌, ℕ, zero, suc, ◌+◌, ◌<◌, List, [], ◌∷◌, ◌++◌, length, Option, Some, None, is_some, slice_get, slice_set, cond, nat_lt, refl}
use Rattle.std.specs.List.{position, position_or_len}
use Rattle.std.proofs.lemmas.Bool.{lt-ltb}
use Rattle.std.proofs.Common.{sym, ◌∙◌, ap, arith, append-nil}
use Rattle.client_seat.specs.Seated.{Home, Seated, fresh_seat}
use Rattle.running_play.specs.Dealt.{fresh_seats, taken_places, fresh_places}

pub fresh_push : (home : Home) (n m : ℕ) → fresh_seats home n (suc m) ≡ fresh_seats home n m ++ fresh_seat home (n + m) ∷ []
fresh_push home n zero = ap (λ (k : ℕ). fresh_seat home k ∷ []) (omega arith)
fresh_push home n (suc m) = ap (λ l. fresh_seat home n ∷ l) (fresh_push home (n + 1) m ∙ ap (λ (k : ℕ). fresh_seats home (n + 1) m ++ fresh_seat home k ∷ []) (omega arith))

first_or : (n : ℕ) (s : Seated) (ps : List (Option Seated)) → position_or_len is_some (taken_places n ++ Some s ∷ ps) ≡ n
first_or zero s ps = refl
first_or (suc n) s ps = ap (λ k. 1 + k) (first_or n s ps) ∙ one_more n
  where
    one_more : (k : ℕ) → 1 + k ≡ suc k
    one_more k = omega arith

taken_low : (n : ℕ) (s : Seated) (ps : List (Option Seated)) → n < length (taken_places n ++ Some s ∷ ps)
taken_low zero s ps = omega arith
taken_low (suc n) s ps = let low = taken_low n s ps in omega arith

first_left : (n : ℕ) (s : Seated) (ps : List (Option Seated)) → position is_some (taken_places n ++ Some s ∷ ps) ≡ Some n
first_left n s ps =
    let l = taken_places n ++ Some s ∷ ps in
    ap (λ k. cond (nat_lt k (length l)) (Some k) None) (first_or n s ps) ∙ ap (λ b. cond b (Some n) None) (lt-ltb n (length l) (taken_low n s ps))

at_left : (n : ℕ) (x : Option Seated) (ps : List (Option Seated)) → slice_get (taken_places n ++ x ∷ ps) n ≡ Some x
at_left zero x ps = refl
at_left (suc n) x ps = at_left n x ps

set_left : (n : ℕ) (x : Option Seated) (ps : List (Option Seated)) → slice_set (taken_places n ++ x ∷ ps) n None ≡ taken_places (suc n) ++ ps
set_left zero x ps = refl
set_left (suc n) x ps = ap (λ l. None ∷ l) (set_left n x ps)

same_some : {A : Type 0} (a b : A) → Some a ≡ Some b → a ≡ b
same_some a b e = cc

fresh_first : (home : Home) (n m : ℕ) → fresh_places home n (suc m) ≡ Some (fresh_seat home n) ∷ fresh_places home (n + 1) m
fresh_first home n m = refl

-- what a take of the least seat that is left gives
pub record Taken (home : Home) (n m : ℕ) (seat : Seated) (next : List (Option Seated)) : Type 0 where
  pub is : seat ≡ fresh_seat home n
  pub next_is : next ≡ taken_places (suc n) ++ fresh_places home (n + 1) m

pub taken : (home : Home) (n m : ℕ) (seat : Seated) (ps next : List (Option Seated)) → ps ≡ taken_places n ++ fresh_places home n (suc m) → Some seat.client ≡ position is_some ps
    → slice_get ps seat.client ≡ Some (Some seat) → next ≡ slice_set ps seat.client None → Taken home n m seat next
taken home n m seat ps next places least got set =
    let rest = fresh_places home (n + 1) m in
    let all : ps ≡ taken_places n ++ Some (fresh_seat home n) ∷ rest = places ∙ ap (λ l. taken_places n ++ l) (fresh_first home n m) in
    let number : seat.client ≡ n = same_some seat.client n (least ∙ ap (position is_some) all ∙ first_left n (fresh_seat home n) rest) in
    let found : Some (Some seat) ≡ Some (Some (fresh_seat home n)) = sym got ∙ ap (slice_get ps) number ∙ ap (λ l. slice_get l n) all ∙ at_left n (Some (fresh_seat home n)) rest in
    record {
      is = same_some seat (fresh_seat home n) (same_some (Some seat) (Some (fresh_seat home n)) found);
      next_is = set ∙ ap (λ k. slice_set ps k None) number ∙ ap (λ l. slice_set l n None) all ∙ set_left n (Some (fresh_seat home n)) rest;
    }

pub some_left : (home : Home) (n m : ℕ) (ps : List (Option Seated)) → ps ≡ taken_places n ++ fresh_places home n (suc m) → position is_some ps ≡ Some n
some_left home n m ps places = ap (position is_some) (places ∙ ap (λ l. taken_places n ++ l) (fresh_first home n m)) ∙ first_left n (fresh_seat home n) (fresh_places home (n + 1) m)

-- the dealing, seat by seat
pub record Dealing (home : Home) (clients n : ℕ) (places : List (Option Seated)) (dealt : List Seated) : Type 0 where
  pub more : ℕ
  pub all : n + more ≡ clients
  pub left_is : places ≡ taken_places n ++ fresh_places home n (suc more)
  pub dealt_is : dealt ≡ fresh_seats home 0 n

next_is : (n : ℕ) → n + 1 ≡ suc n
next_is n = omega arith

zero_plus : (n : ℕ) → n ≡ 0 + n
zero_plus n = omega arith

pub none_dealt : (home : Home) (clients : ℕ) (places : List (Option Seated)) (dealt : List Seated) → places ≡ fresh_places home 0 (clients + 1) → dealt ≡ [] → Dealing home clients 0 places dealt
none_dealt home clients places dealt is none = record { more = clients; all = omega arith; left_is = is ∙ ap (fresh_places home 0) (next_is clients); dealt_is = none }

pub one_dealt : (home : Home) (clients n : ℕ) (places next : List (Option Seated)) (dealt more : List Seated) (seat : Seated) → n < clients → Dealing home clients n places dealt → Some seat.client ≡ position is_some places → slice_get places seat.client ≡ Some (Some seat)
    → next ≡ slice_set places seat.client None → more ≡ dealt ++ seat ∷ [] → Dealing home clients (n + 1) next more
one_dealt home clients n places next dealt more seat less h least got set pushed = by h.more h.all h.left_is
  where
    by : (left : ℕ) → n + left ≡ clients → places ≡ taken_places n ++ fresh_places home n (suc left) → Dealing home clients (n + 1) next more
    by zero all is = absurd (omega arith)
    by (suc left) all is =
        let t = taken home n (suc left) seat places next is least got set in
        record {
          more = left;
          all = omega arith;
          left_is = t.next_is ∙ ap (λ (k : ℕ). taken_places k ++ fresh_places home (n + 1) (suc left)) (sym (next_is n));
          dealt_is =
              pushed ∙ ap (λ l. l ++ seat ∷ []) h.dealt_is ∙ ap (λ (s : Seated). fresh_seats home 0 n ++ s ∷ []) (t.is ∙ ap (fresh_seat home) (zero_plus n))
              ∙ sym (fresh_push home 0 n) ∙ ap (fresh_seats home 0) (sym (next_is n));
        }

pub not_none : (home : Home) (clients n : ℕ) (places : List (Option Seated)) (dealt : List Seated) → Dealing home clients n places dealt → None ≡ position is_some places → ⊥
not_none home clients n places dealt h e = let first = some_left home n h.more places h.left_is in bad (e ∙ first)
  where
    bad : None ≡ Some n → ⊥
    bad e = cc

pub all_dealt : (home : Home) (clients n : ℕ) (places : List (Option Seated)) (dealt : List Seated) → n ≡ clients → Dealing home clients n places dealt → (dealt ≡ fresh_seats home 0 clients) × (places ≡ taken_places clients ++ fresh_places home clients 1)
all_dealt home clients n places dealt same h =
    let rest = h.all in
    let none : suc h.more ≡ 1 = omega arith in
    (h.dealt_is ∙ ap (fresh_seats home 0) same, h.left_is ∙ ap (λ (k : ℕ). taken_places n ++ fresh_places home n k) none ∙ ap (λ (k : ℕ). taken_places k ++ fresh_places home k 1) same)

-- the one more
pub last_taken : (home : Home) (n : ℕ) (seat : Seated) (ps next : List (Option Seated)) → ps ≡ taken_places n ++ fresh_places home n 1 → Some seat.client ≡ position is_some ps → slice_get ps seat.client ≡ Some (Some seat)
    → next ≡ slice_set ps seat.client None → (seat ≡ fresh_seat home n) × (next ≡ taken_places (n + 1))
last_taken home n seat ps next places least got set =
    let t = taken home n 0 seat ps next places least got set in
    (t.is, t.next_is ∙ append-nil (taken_places (suc n)) ∙ ap taken_places (sym (next_is n)))

pub none_left : (home : Home) (n : ℕ) (ps : List (Option Seated)) → ps ≡ taken_places n ++ fresh_places home n 1 → None ≡ position is_some ps → ⊥
none_left home n ps places e = bad (e ∙ some_left home n 0 ps places)
  where
    bad : None ≡ Some n → ⊥
    bad e = cc
