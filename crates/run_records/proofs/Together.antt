-- The records of all clients.
use Rattle.std.proofs.Common.{◌≡◌, ℕ, ◌+◌, ◌<◌, ◌≤◌, Bool, true, false, cond, ◌&&◌, eqb, List, [], ◌∷◌, ◌++◌, length, zero, suc, find, Option, Some, None, refl, sym, ap, ◌∙◌, inl, inr, arith}
use Rattle.std.proofs.lemmas.Bool.{cases_lt}
use Rattle.std.proofs.lemmas.Bool.Decides.{nat_tests}
use Rattle.std.specs.List.{AllByRecursion, slice_get}
use Rattle.kv_block.specs.declared.changes.Change.{Change}
use Rattle.map_model.specs.declared.records.Record.{Record}
use Rattle.map_model.specs.Machine.{is_change}
use Rattle.map_model.specs.History.{is_change_at, in_order, precedes, IsAnsweredRight, IsMade, AreApart, EachPair, Has}
use Rattle.map_model.proofs.Filtered.{weaker, both, append_all}
use Rattle.map_model.proofs.Bridge.{legal_from_founded}
use Rattle.map_model.proofs.AnyOrder.{founded_any_order}
use Rattle.run_records.specs.Lines.{Line, EachWent, EachRecorded, joined, RecordsStand}
use Rattle.run_records.proofs.Greedy.{ClientStands, client_stands}

has_left : (xs ys : List Record) (r : Record) → Has xs r → Has (xs ++ ys) r
has_left [] ys r h = absurd h
has_left (x ∷ xs) ys r (inl e) = inl e
has_left (x ∷ xs) ys r (inr h) = inr (has_left xs ys r h)

has_right : (xs ys : List Record) (r : Record) → Has ys r → Has (xs ++ ys) r
has_right [] ys r h = h
has_right (x ∷ xs) ys r h = inr (has_right xs ys r h)

find_none : (t : Record → Bool) (ys : List Record) → AllByRecursion (λ y. t y ≡ false) ys → find t ys ≡ None
find_none t [] h = refl
find_none t (y ∷ ys) h = ap (λ (b : Bool). cond b (Some y) (find t ys)) h.0 ∙ find_none t ys h.1

find_stays : (t : Record → Bool) (xs ys : List Record) → AllByRecursion (λ y. t y ≡ false) ys → find t (xs ++ ys) ≡ find t xs
find_stays t [] ys h = find_none t ys h
find_stays t (x ∷ xs) ys h = ap (λ (o : Option Record). cond (t x) (Some x) o) (find_stays t xs ys h)

first_true : (a b : Bool) → (a && b) ≡ true → (a ≡ true) × (b ≡ true)
first_true true b e = (refl, e)
first_true false b e = absurd (cc)

both_true : (a b : Bool) → a ≡ true → b ≡ true → (a && b) ≡ true
both_true a b e f = ap (λ (c : Bool). c && b) e ∙ f

-- records of other clients behind keep the clients' order
ordered : (xs ys : List Record) → in_order xs ≡ true → in_order ys ≡ true → AllByRecursion (λ x. AllByRecursion (λ y. eqb y.client x.client ≡ false) ys) xs → in_order (xs ++ ys) ≡ true
ordered [] ys e f h = f
ordered (x ∷ xs) ys e f h =
    let p = first_true (precedes x (find (λ s. eqb s.client x.client) xs)) (in_order xs) e in
    both_true (precedes x (find (λ s. eqb s.client x.client) (xs ++ ys))) (in_order (xs ++ ys))
    (ap (precedes x) (find_stays (λ s. eqb s.client x.client) xs ys h.0) ∙ p.0) (ordered xs ys p.1 f h.1)

apart_joined : (xs ys : List Record) → EachPair AreApart xs → EachPair AreApart ys → AllByRecursion (λ x. AllByRecursion (AreApart x) ys) xs → EachPair AreApart (xs ++ ys)
apart_joined [] ys a b h = b
apart_joined (x ∷ xs) ys a b h = (append_all (AreApart x) xs ys a.0 h.0, apart_joined xs ys a.1 b h.1)

-- a record of a client from this number on, and its change
abbrev IsOf : List ℕ → ℕ → Record → Type 0
IsOf owners c r = (c ≤ r.client) × (is_change r.reply ≡ true → slice_get owners r.point ≡ Some r.client)

record AllStand (C : List Change) (owners : List ℕ) (c count : ℕ) (rs : List Record) : Type 0 where
  pub right : AllByRecursion (IsAnsweredRight C) rs
  pub made : AllByRecursion (IsMade C) rs
  pub owned : AllByRecursion (IsOf owners c) rs
  pub apart : EachPair AreApart rs
  pub clients : in_order rs ≡ true
  pub each : (n d : ℕ) → c ≤ d → d < c + count → slice_get owners n ≡ Some d → (r : Record) × Has rs r × (is_change_at n r ≡ true)

same_some : (a b : ℕ) → Some a ≡ Some b → a ≡ b
same_some a b e = cc

one_of : (owners : List ℕ) (c : ℕ) (x : Record) → x.client ≡ c → (is_change x.reply ≡ true → slice_get owners x.point ≡ Some c) → IsOf owners c x
one_of owners c x e h = (omega arith, λ f. h f ∙ ap (λ (n : ℕ). Some n) (sym e))

apart_others : (owners : List ℕ) (c : ℕ) (x y : Record) → x.client ≡ c → IsOf owners c x → IsOf owners (c + 1) y → AreApart x y
apart_others owners c x y own a b e f same =
    let is : x.client ≡ y.client = same_some x.client y.client (sym (a.1 e) ∙ ap (slice_get owners) same ∙ b.1 f) in
    let more = b.0 in
    omega arith

other_client : (owners : List ℕ) (c : ℕ) (x y : Record) → x.client ≡ c → IsOf owners (c + 1) y → eqb y.client x.client ≡ false
other_client owners c x y own b = let more = b.0 in grind (arith, nat_tests)

with_client : (C : List Change) (owners : List ℕ) (c count : ℕ) (rs ss : List Record) → ClientStands C owners c 1 0 0 rs → AllStand C owners (c + 1) count ss → AllStand C owners c (suc count) (rs ++ ss)
with_client C owners c count rs ss one more =
    let owned : AllByRecursion (λ r. (r.client ≡ c) × IsOf owners c r) rs =
    weaker _ (λ (r : Record). (r.client ≡ c) × IsOf owners c r) (λ r h. (h.0, one_of owners c r h.0 h.1)) rs
    (both (λ (r : Record). r.client ≡ c) (λ (r : Record). is_change r.reply ≡ true → slice_get owners r.point ≡ Some c) rs one.client one.owned) in
    record {
      right = append_all (IsAnsweredRight C) rs ss one.right more.right;
      made = append_all (IsMade C) rs ss one.made more.made;
      owned = append_all (IsOf owners c) rs ss (weaker _ (IsOf owners c) (λ r h. h.1) rs owned)
          (weaker (IsOf owners (c + 1)) (IsOf owners c) (λ r h. let a = h.0 in (omega arith, h.1)) ss more.owned);
      apart = apart_joined rs ss one.apart more.apart
          (weaker _ (λ (x : Record). AllByRecursion (AreApart x) ss) (λ x h. weaker (IsOf owners (c + 1)) (AreApart x) (λ y g. apart_others owners c x y h.0 h.1 g) ss more.owned) rs owned);
      clients = ordered rs ss one.clients more.clients
          (weaker _ (λ (x : Record). AllByRecursion (λ (y : Record). eqb y.client x.client ≡ false) ss)
          (λ x h. weaker (IsOf owners (c + 1)) (λ (y : Record). eqb y.client x.client ≡ false) (λ y g. other_client owners c x y h.0 g) ss more.owned) rs owned);
      each = λ n d low less mine. elim (cases_lt c d) [
        | inl above ↦ let x = more.each n d (omega arith) (omega arith) mine in (x.0, has_right rs ss x.0 x.1, x.2)
        | inr upto ↦
            let same : d ≡ c = omega arith in
            let x = one.each n (omega arith) (mine ∙ ap (λ (m : ℕ). Some m) same) in (x.0, has_left rs ss x.0 x.1, x.2)
      ];
    }

all_stand : (C : List Change) (owners : List ℕ) (c : ℕ) (lines : List (List Line)) (records : List (List Record)) → EachWent C owners c lines → EachRecorded C owners c lines records
    → AllStand C owners c (length lines) (joined records)
all_stand C owners c [] [] went recorded = record { right = tt; made = tt; owned = tt; apart = tt; clients = refl; each = λ n d low less mine. absurd (omega arith) }
all_stand C owners c [] (rs ∷ all) went recorded = absurd recorded
all_stand C owners c (l ∷ lines) [] went recorded = absurd recorded
all_stand C owners c (l ∷ lines) (rs ∷ all) went recorded =
    let x = recorded.0 in
    with_client C owners c (length lines) rs (joined all)
    (client_stands C owners c l rs 1 0 0 x.0 (omega arith) x.1 went.0 x.2)
    (all_stand C owners (c + 1) lines all went.1 recorded.1)

-- an owner of each change
owner_of : (count n : ℕ) (owners : List ℕ) → AllByRecursion (λ c. c < count) owners → n < length owners → (d : ℕ) × (d < count) × (slice_get owners n ≡ Some d)
owner_of count n [] h less = absurd (omega arith)
owner_of count zero (d ∷ owners) h less = (d, h.0, refl)
owner_of count (suc n) (d ∷ owners) h less = owner_of count n owners h.1 (omega arith)

pub records_stand : RecordsStand
records_stand C owners lines records same known went recorded =
    let all = all_stand C owners 0 lines records went recorded in
    legal_from_founded C (joined records)
    (founded_any_order C (joined records) all.right all.made all.apart
    (λ n less. let x = owner_of (length lines) n owners known (omega arith) in let low = x.1 in all.each n x.0 (omega arith) (omega arith) x.2)
    all.clients)
