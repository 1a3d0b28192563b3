-- What is spelled is read again, line by line.
use Rattle.std.proofs.Common.{◌≡◌, ℕ, ◌+◌, ◌<◌, ◌≤◌, ◌^◌, zero, suc, Bool, true, false, ◌&&◌, nat_eq, nat_le, List, [], ◌∷◌, ◌++◌, length, map, slice_index_or, Some, None, is_some, is_none, Result, Ok, Err, refl, sym, ap, ◌∙◌, arith, append_assoc, append-nil, if◌then◌else◌}
use Rattle.std.proofs.lemmas.Bool.{cond-true, cond-false, and_parts, and_from, or_left, lt-ltb, le-leb, eqb-true, eqb-false}
use Rattle.std.proofs.lemmas.List.{map-append, length_push}
use Rattle.std.proofs.lemmas.Iterator.Adapters.{position_from-zero}
use Rattle.std.specs.List.{AllByRecursion, list_all, position_from}
use Rattle.std.specs.Option.{option_and_then}
use Rattle.std.specs.Fmt.{decimal}
use Rattle.std.specs.Cmp.Lexicographic.{nat_list_eq_equiv}
use Rattle.kv_block.specs.Bytes.{key_eq}
use Rattle.key_hash.specs.Placing.{is_listed}
use Rattle.map_model.specs.declared.calls.Call.{Call}
use Rattle.map_model.specs.declared.plans.Item.{Item}
use Rattle.map_model.specs.declared.plans.Item.TheVariants as item
use Rattle.script_reader.specs.declared.fault.ScriptKind.{ScriptKind}
use Rattle.script_reader.specs.declared.fault.ScriptKind.TheVariants as kind
use Rattle.spelling.specs.Spelling.{spelled, hex_number, is_within, is_small, is_digit, is_name_byte}
use Rattle.spelling.specs.Words.{value_of, hex_number_of, is_name, IsKey, IsValue}
use Rattle.script_value.specs.Content.{Content, names_of, stop_at, with_hash, with_client, with_stop, with_schedule}
use Rattle.script_value.specs.ScriptText.{name_at, item_word}
use Rattle.script_reader.specs.Rules.{◌>>=◌, or_else, hash_step, client_step, client_of, number_within, stop_step, item_name, item_rest, item_with, item_of, item_first, items_of, schedule_step, call_key, call_pair}
use Rattle.script_value.specs.Valid.{Each, IsHash, IsClient, IsStop, IsItem, IsSchedule}
use Rattle.spelling.proofs.Spelled.{key_of-spelled, value_of-spelled, hex_number_of-hex_number, number_of-decimal}

-- `hash KEY HEX`
pub hash-again : (c : Content) (key : List ℕ) (hash : ℕ) → IsHash c.hashes (key, hash) → hash_step c (spelled key ∷ hex_number hash ∷ []) ≡ Ok (with_hash c key hash)
hash-again c key hash h =
    let told : List ℕ → ℕ → Result Content ScriptKind = λ key hash. Ok (with_hash c key hash) in
    let others : List ℕ → Result Content ScriptKind = λ key. if is_listed c.hashes key then Err kind.Key else (or_else kind.Number (hex_number_of (hex_number hash)) >>= told key) in
    ap (λ o. or_else kind.Key o >>= others) (key_of-spelled key h.0) ∙ cond-false _ _ _ h.2 ∙ ap (λ o. or_else kind.Number o >>= told key) (hex_number_of-hex_number hash h.1)

-- `client NAME`
pub client-again : (most : ℕ) (c : Content) (e : List ℕ × List Call) → IsClient most c.clients e → client_step most c (e.0 ∷ []) ≡ Ok (with_client c e.0 [])
client-again most c e h = cond-true _ _ _ (and_from _ _ (and_from _ _ h.0 (ap is_none h.1)) (lt-ltb (length c.clients) most h.2))

-- a call's line
pub key-again : (calls : ℕ) (key : List ℕ) → IsKey key → calls < 65536 → call_key calls (spelled key ∷ []) ≡ Ok key
key-again calls key h room = cond-true _ _ _ (lt-ltb calls 65536 room) ∙ ap (or_else kind.Key) (key_of-spelled key h)

pub pair-again : (calls : ℕ) (key value : List ℕ) → IsKey key → IsValue value → calls < 65536 → let pair : List ℕ × List ℕ = (key, value) in call_pair calls (spelled key ∷ spelled value ∷ []) ≡ Ok pair
pair-again calls key value h v room =
    let pair : List ℕ → List ℕ → Result (List ℕ × List ℕ) ScriptKind = λ key value. Ok (key, value) in
    let others : List ℕ → Result (List ℕ × List ℕ) ScriptKind = λ key. or_else kind.Value (value_of (spelled value)) >>= pair key in
    cond-true _ _ _ (lt-ltb calls 65536 room) ∙ ap (λ o. or_else kind.Key o >>= others) (key_of-spelled key h) ∙ ap (λ o. or_else kind.Value o >>= pair key) (value_of-spelled value v)

-- the first place of an item that others before it are not
first_place : (p : List ℕ → Bool) (i : ℕ) (xs : List (List ℕ)) (y : List ℕ) (ys : List (List ℕ)) → position_from p i xs ≡ None → p y ≡ true → position_from p i (xs ++ y ∷ ys) ≡ Some (i + length xs)
first_place p i [] y ys none found = let same : i ≡ i + 0 = omega arith in cond-true _ _ _ found ∙ ap Some same
first_place p i (x ∷ xs) y ys none found = by (p x) refl none (first_place p (i + 1) xs y ys)
  where
    by : (t : Bool) → p x ≡ t → (if t then Some i else position_from p (i + 1) xs) ≡ None
        → (position_from p (i + 1) xs ≡ None → p y ≡ true → position_from p (i + 1) (xs ++ y ∷ ys) ≡ Some (i + 1 + length xs)) → position_from p i (x ∷ xs ++ y ∷ ys) ≡ Some (i + suc (length xs))
    by true e q others = absurd (no q)
      where
        no : Some i ≡ None → ⊥
        no r = cc
    by false e q others = let same : i + 1 + length xs ≡ i + suc (length xs) = omega arith in cond-false _ _ _ e ∙ others q found ∙ ap Some same

-- the names of clients
abbrev names : List (List ℕ × List Call) → List (List ℕ)
names cs = map (λ (e : List ℕ × List Call). e.0) cs

-- each client is known by its name
name_known : (most : ℕ) (front cs : List (List ℕ × List Call)) (i : ℕ) → Each (IsClient most) front cs → i < length cs
    → position_from (key_eq (slice_index_or (names cs) i [])) 0 (names front ++ names cs) ≡ Some (length (names front) + i)
name_known most front [] i h l = absurd (omega arith)
name_known most front (c ∷ cs) zero h l =
    let none = sym (position_from-zero (key_eq c.0) (names front)) ∙ h.0.1 in
    let same : 0 + length (names front) ≡ length (names front) + 0 = omega arith in
    first_place (key_eq c.0) 0 (names front) c.0 (names cs) none (nat_list_eq_equiv.refl c.0) ∙ ap Some same
name_known most front (c ∷ cs) (suc i) h l =
    let more = name_known most (front ++ c ∷ []) cs i h.1 (omega arith) in
    let list = map-append (λ (e : List ℕ × List Call). e.0) front (c ∷ []) in
    let longer = ap length list ∙ length_push (names front) c.0 in
    let same : length (names (front ++ c ∷ [])) + i ≡ length (names front) + suc i = omega (arith, longer) in
    ap (position_from (key_eq (slice_index_or (names cs) i [])) 0) (sym (ap (λ l. l ++ names cs) list ∙ append_assoc (names front) (c.0 ∷ []) (names cs))) ∙ more ∙ ap Some same

-- and its name is one
name_valid : (most : ℕ) (front cs : List (List ℕ × List Call)) (i : ℕ) → Each (IsClient most) front cs → i < length cs → is_name (slice_index_or (names cs) i []) ≡ true
name_valid most front [] i h l = absurd (omega arith)
name_valid most front (c ∷ cs) zero h l = h.0.0
name_valid most front (c ∷ cs) (suc i) h l = name_valid most (front ++ c ∷ []) cs i h.1 (omega arith)

pub known-again : (most : ℕ) (c : Content) (i : ℕ) → Each (IsClient most) [] c.clients → i < length c.clients → client_of c (name_at (names_of c) i) ≡ Some i
known-again most c i h l =
    let same : 0 + i ≡ i = omega arith in
    cond-true _ _ _ (name_valid most [] c.clients i h l) ∙ position_from-zero (key_eq (name_at (names_of c) i)) (names_of c) ∙ name_known most [] c.clients i h l ∙ ap Some same

pub name-again : (most : ℕ) (c : Content) (i : ℕ) → Each (IsClient most) [] c.clients → i < length c.clients → is_name (name_at (names_of c) i) ≡ true
name-again most c i h l = name_valid most [] c.clients i h l

-- a number within two others
within-again : (low high n : ℕ) → low ≤ n → n ≤ high → n < 2 ^ 64 → number_within low high (decimal n) ≡ Some n
within-again low high n l h small =
    ap (option_and_then (λ n. if is_within low high n then Some n else None)) (number_of-decimal n small) ∙ cond-true _ _ _ (and_from _ _ (le-leb low n l) (le-leb n high h))

-- `stop NAME N`
pub stop-again : (most : ℕ) (c : Content) (e : ℕ × ℕ) → Each (IsClient most) [] c.clients → IsStop (length c.clients) c.stops e → stop_step c (name_at (names_of c) e.0 ∷ decimal e.1 ∷ []) ≡ Ok (with_stop c e.0 e.1)
stop-again most c e v h =
    let told : ℕ → ℕ → Result Content ScriptKind = λ client stop. Ok (with_stop c client stop) in
    let others : ℕ → Result Content ScriptKind = λ client. if is_some (stop_at c client) then Err kind.Client else (or_else kind.Number (number_within 0 1000000000 (decimal e.1)) >>= told client) in
    ap (λ o. or_else kind.Client o >>= others) (known-again most c e.0 v h.0) ∙ cond-false _ _ _ (ap is_some h.2)
    ∙ ap (λ o. or_else kind.Number o >>= told e.0) (within-again 0 1000000000 e.1 (omega arith) h.1 (let most = h.1 in omega (arith, most)))

-- a name, and what is behind it
name_bytes : (w : List ℕ) → is_name w ≡ true → list_all is_name_byte w ≡ true
name_bytes [] h = refl
name_bytes (c ∷ cs) h =
    let p = and_parts (is_small c && list_all is_name_byte cs) (nat_le (length cs) 15) h in
    let q = and_parts (is_small c) (list_all is_name_byte cs) p.0 in
    and_from (is_name_byte c) (list_all is_name_byte cs) (or_left (is_small c) (is_digit c) q.0) q.1

name_front : (w rest : List ℕ) → list_all is_name_byte w ≡ true → item_name rest ≡ [] → item_name (w ++ rest) ≡ w
name_front [] rest h e = e
name_front (c ∷ cs) rest h e = let p = and_parts (is_name_byte c) _ h in cond-true _ _ _ p.0 ∙ ap (λ x. c ∷ x) (name_front cs rest p.1 e)

name_rest : (w rest : List ℕ) → list_all is_name_byte w ≡ true → item_rest rest ≡ rest → item_rest (w ++ rest) ≡ rest
name_rest [] rest h e = e
name_rest (c ∷ cs) rest h e = let p = and_parts (is_name_byte c) _ h in cond-true _ _ _ p.0 ∙ name_rest cs rest p.1 e

-- an item, by what is behind the name of its client
behind-again : (most : ℕ) (c : Content) (i : ℕ) (rest : List ℕ) → Each (IsClient most) [] c.clients → i < length c.clients → item_name rest ≡ [] → item_rest rest ≡ rest
    → item_of c (name_at (names_of c) i ++ rest) ≡ item_with i rest
behind-again most c i rest v l none same =
    let bytes = name_bytes (name_at (names_of c) i) (name-again most c i v l) in
    ap (λ w. option_and_then (λ client. item_with client (item_rest (name_at (names_of c) i ++ rest))) (client_of c w)) (name_front (name_at (names_of c) i) rest bytes none)
    ∙ ap (λ o. option_and_then (λ client. item_with client (item_rest (name_at (names_of c) i ++ rest))) o) (known-again most c i v l)
    ∙ ap (item_with i) (name_rest (name_at (names_of c) i) rest bytes same)

pub item-again : (most : ℕ) (c : Content) (i : Item) → Each (IsClient most) [] c.clients → IsItem (length c.clients) i → item_of c (item_word (names_of c) i) ≡ Some i
item-again most c (item.Call client) v h = behind-again most c client (33 ∷ []) v h refl refl
item-again most c (item.Verbs client count) v h = by (nat_eq count 1) refl
  where
    by : (t : Bool) → nat_eq count 1 ≡ t → item_of c (item_word (names_of c) (item.Verbs client count)) ≡ Some (item.Verbs client count)
    by true e =
        ap (item_of c) (cond-true _ _ _ e ∙ sym (append-nil (name_at (names_of c) client))) ∙ behind-again most c client [] v h.0 refl refl
        ∙ ap (λ n. Some (item.Verbs client n)) (sym (eqb-true count 1 e))
    by false e =
        let other = eqb-false count 1 e in
        let least = h.1 in
        let most_count = h.2 in
        ap (item_of c) (cond-false _ _ _ e) ∙ behind-again most c client (42 ∷ decimal count) v h.0 refl refl
        ∙ ap (option_and_then (λ count. Some (item.Verbs client count))) (within-again 2 1000000 count (omega (arith, other, least)) h.2 (omega (arith, most_count)))

items-again : (most : ℕ) (c : Content) (is : List Item) → Each (IsClient most) [] c.clients → AllByRecursion (IsItem (length c.clients)) is → items_of c (map (item_word (names_of c)) is) ≡ Some is
items-again most c [] v h = refl
items-again most c (i ∷ is) v h =
    ap (λ o. item_first o (items_of c (map (item_word (names_of c)) is))) (item-again most c i v h.0) ∙ ap (item_first (Some i)) (items-again most c is v h.1)

-- `schedule ITEM ITEM ..`
pub schedule-again : (most : ℕ) (c : Content) (is : List Item) → Each (IsClient most) [] c.clients → IsSchedule (length c.clients) is → schedule_step c (map (item_word (names_of c)) is) ≡ Ok (with_schedule c is)
schedule-again most c [] v h = absurd (omega (arith, h.0))
schedule-again most c (i ∷ is) v h = ap (λ o. or_else kind.Schedule o >>= λ is. Ok (with_schedule c is)) (items-again most c (i ∷ is) v h.1)
