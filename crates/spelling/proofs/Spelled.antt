-- Numbers, keys and values: what is read is spelled so, and what is spelled so is read.
use Rattle.std.proofs.Common.{◌≡◌, ℕ, ◌^◌, ◌<◌, zero, suc, Bool, true, false, not, ◌&&◌, nat_eq, nat_lt, nat_le, List, [], ◌∷◌, length, get_or, Option, Some, None, refl, sym, ap, subst, ◌∙◌, arith, rules, inl, inr, cond, if◌then◌else◌}
use Rattle.std.proofs.lemmas.Bool.{cond-true, cond-false, and_parts, and_from, and_right, not_from_false, cases_lt, ltb-true, leb-true, lt-ltb, le-leb, eq-eqb, eqb-true, eqb-false, ne_eqb, not-true, true≢false}
use Rattle.std.proofs.lemmas.Option.{cond_some, option_and_then_some, same_Some}
use Rattle.std.proofs.lemmas.Nat.{mod_below, be_bytes_8, from_be_bytes-to_be_bytes_8}
use Rattle.std.proofs.lemmas.Str.Parse.{IsDigitsTest, IsNumeralModel, numerals_by_value}
use Rattle.std.proofs.lemmas.Fmt.{decimal-digits_value, digits_decimal, digits_value-decimal, decimal_nonempty, decimal_digit, first_decimal}
use Rattle.std.proofs.lemmas.List.Elements.{All-from_recursion, recursion_from_All}
use Rattle.std.specs.Fmt.{decimal}
use Rattle.std.specs.Option.{option_and_then}
use Rattle.std.specs.Int.{w64, to_be_bytes}
use Rattle.std.specs.List.{AllByRecursion, list_all}
use Rattle.std.specs.Str.Parse.{digits_value}
use Rattle.kv_block.specs.Bytes.{AreBytes}
use Rattle.spelling.specs.Spelling.{is_within, is_digit, hex_text, hex_number, is_plain, is_plain_text, spelled}
use Rattle.spelling.specs.Words.{is_numeral, number_of, hex_bytes, eight_bytes_number, hex_number_of, not_plain, escaped_bytes, bytes_of, key_of, value_of, IsKey, IsValue}
use Rattle.spelling.proofs.Numbers.{number_of-small}
use Rattle.spelling.proofs.Leaves.{hex_bytes-hex_text, hex_text-hex_bytes}

-- nothing is no number
none-some : {A : Type 0} (x : A) → None ≡ Some x → ⊥
none-some x e = cc

-- texts of digits, as std's lemmas want them
digits_test : IsDigitsTest (λ ds. list_all is_digit ds ≡ true)
digits_test = search rules

pub own : IsNumeralModel (λ ds. list_all is_digit ds ≡ true) (digits_value 10)
own = numerals_by_value _ digits_test

-- the parts of a numeral
numeral-parts : (w : List ℕ) → is_numeral w ≡ true → (0 < length w) × (get_or w 0 0 ≡ 48 → length w ≡ 1) × (list_all is_digit w ≡ true)
numeral-parts w h =
    let all = and_parts _ _ h in
    let front = and_parts _ _ all.0 in
    let some : 0 < length w = positive (length w) (not-true _ front.0) in
    (some, alone some (not-true _ front.1), all.1)
  where
    positive : (n : ℕ) → nat_eq n 0 ≡ false → 0 < n
    positive n e = let other = eqb-false n 0 e in omega (arith, other)

    alone : 0 < length w → (nat_lt 1 (length w) && nat_eq (get_or w 0 0) 48) ≡ false → get_or w 0 0 ≡ 48 → length w ≡ 1
    alone some e zero_first = elim (cases_lt 1 (length w)) [
      | inl more ↦ absurd (true≢false (sym (and_from _ _ (lt-ltb 1 (length w) more) (eq-eqb (get_or w 0 0) 48 zero_first)) ∙ e))
      | inr less ↦ omega arith
    ]

-- a number that is read is spelled so
pub decimal-number_of : (w : List ℕ) (n : ℕ) → number_of w ≡ Some n → (decimal n ≡ w) × (n < 2 ^ 64)
decimal-number_of w n h =
    let p = cond_some _ _ _ h in
    let q = and_parts _ _ p.0 in
    let numeral = numeral-parts w q.0 in
    let small = ltb-true (digits_value 10 w) (2 ^ 64) q.1 in
    let text = decimal-digits_value own w numeral.2 numeral.0 numeral.1 small in
    subst (λ m. (decimal m ≡ w) × (m < 2 ^ 64)) p.1 (text, small)

-- a number's digits are a numeral
is_numeral-decimal : (n : ℕ) → n < 2 ^ 64 → is_numeral (decimal n) ≡ true
is_numeral-decimal n h =
    let some = decimal_nonempty n h in
    and_from _ _ (and_from _ _ (not_from_false _ (ne_eqb (length (decimal n)) 0 (λ e. omega (arith, e, some)))) (not_from_false _ (by n h))) (digits_decimal own n h)
  where
    by : (m : ℕ) → m < 2 ^ 64 → (nat_lt 1 (length (decimal m)) && nat_eq (get_or (decimal m) 0 0) 48) ≡ false
    by zero low = ap (λ ds. nat_lt 1 (length ds) && nat_eq (get_or ds 0 0) 48) (decimal_digit 0 (omega arith))
    by (suc m) low = and_right _ _ (ne_eqb (get_or (decimal (suc m)) 0 0) 48 (λ e. let first = first_decimal (suc m) (omega arith) low in omega (arith, e, first)))

-- and a number that is spelled is read
pub number_of-decimal : (n : ℕ) → n < 2 ^ 64 → number_of (decimal n) ≡ Some n
number_of-decimal n h =
    let value = digits_value-decimal own n h in
    number_of-small (decimal n) (is_numeral-decimal n h) (subst (λ m. m < 2 ^ 64) (sym value) h) ∙ ap Some value

-- sixteen hexadecimal digits that are read are those of the number
pub hex_number-hex_number_of : (w : List ℕ) (n : ℕ) → hex_number_of w ≡ Some n → (hex_number n ≡ w) × (n < 2 ^ 64)
unfolding hex_number
hex_number-hex_number_of w n h =
    let p = cond_some' _ _ n h in
    option_and_then_some eight_bytes_number (hex_bytes w) n p (λ bs read number.
    let q = cond_some _ _ _ number in
    let text = hex_text-hex_bytes w bs read in
    let eight = eqb-true (length bs) 8 q.0 in
    let fits : (i : ℕ) → get_or bs i 0 < 256 = byte_at bs text.1 in
    let same = be_bytes_8 bs n eight fits (sym q.1) in
    (ap hex_text same ∙ text.0, subst (λ m. m < 2 ^ 64) q.1 (omega (arith, fits 0, fits 1, fits 2, fits 3, fits 4, fits 5, fits 6, fits 7))))
  where
    cond_some' : (b : Bool) (o : Option ℕ) (n : ℕ) → cond b o None ≡ Some n → o ≡ Some n
    cond_some' true o n h = h
    cond_some' false o n h = absurd (none-some n h)

    byte_at : (bs : List ℕ) → AllByRecursion (λ b. b < 256) bs → (i : ℕ) → get_or bs i 0 < 256
    byte_at [] all i = omega arith
    byte_at (b ∷ bs) all zero = all.0
    byte_at (b ∷ bs) all (suc i) = byte_at bs all.1 i

-- and those of a number are read
pub hex_number_of-hex_number : (n : ℕ) → n < 2 ^ 64 → hex_number_of (hex_number n) ≡ Some n
unfolding hex_number
hex_number_of-hex_number n h =
    let bytes = to_be_bytes w64 n in
    let read = hex_bytes-hex_text bytes (search (rules, mod_below)) in
    ap (λ o. option_and_then eight_bytes_number o) read ∙ ap Some (from_be_bytes-to_be_bytes_8 n h)

-- a plain byte is a byte
plain_byte : (c : ℕ) → is_plain c ≡ true → c < 256
plain_byte c h = grind arith

plain_bytes : (w : List ℕ) → list_all is_plain w ≡ true → AllByRecursion (λ b. b < 256) w
plain_bytes [] h = tt
plain_bytes (c ∷ cs) h = let p = and_parts (is_plain c) _ h in (plain_byte c p.0, plain_bytes cs p.1)

-- a key or a value that is read is spelled so
pub spelled-bytes_of : (w bs : List ℕ) → bytes_of w ≡ Some bs → (spelled bs ≡ w) × AllByRecursion (λ b. b < 256) bs
unfolding spelled
spelled-bytes_of w bs h = by (is_plain_text w) refl
  where
    escaped : (w : List ℕ) → escaped_bytes w ≡ Some bs → (spelled bs ≡ w) × AllByRecursion (λ b. b < 256) bs
    escaped [] e = absurd (none-some bs e)
    escaped (c ∷ digits) e =
        let percent = cond_some' (nat_eq c 37) (option_and_then not_plain (hex_bytes digits)) e in
        let first = eqb-true c 37 percent.0 in
        option_and_then_some not_plain (hex_bytes digits) bs percent.1 (λ cs read other.
        let plain = cond_none (is_plain_text cs) cs other in
        let text = hex_text-hex_bytes digits cs read in
        let whole = cond-false _ _ _ plain.0 ∙ ap (λ ds. 37 ∷ ds) text.0 ∙ ap (λ b. b ∷ digits) (sym first) in
        subst (λ bs. (spelled bs ≡ c ∷ digits) × AllByRecursion (λ b. b < 256) bs) plain.1 (whole, text.1))
      where
        cond_some' : (b : Bool) (o : Option (List ℕ)) → cond b o None ≡ Some bs → (b ≡ true) × (o ≡ Some bs)
        cond_some' true o h = (refl, h)
        cond_some' false o h = absurd (none-some bs h)

        cond_none : (b : Bool) (cs : List ℕ) → cond b None (Some cs) ≡ Some bs → (b ≡ false) × (cs ≡ bs)
        cond_none true cs h = absurd (none-some bs h)
        cond_none false cs h = (refl, same_Some cs bs h)

    by : (t : Bool) → is_plain_text w ≡ t → (spelled bs ≡ w) × AllByRecursion (λ b. b < 256) bs
    by true e =
        let same = same_Some w bs (sym (cond-true _ _ _ e) ∙ h) in
        subst (λ bs. (spelled bs ≡ w) × AllByRecursion (λ b. b < 256) bs) same (cond-true _ _ _ e, plain_bytes w (and_parts _ _ e).1)
    by false e = escaped w (sym (cond-false _ _ _ e) ∙ h)

-- and one that is spelled is read
pub bytes_of-spelled : (bs : List ℕ) → AllByRecursion (λ b. b < 256) bs → bytes_of (spelled bs) ≡ Some bs
unfolding spelled
bytes_of-spelled bs h = by (is_plain_text bs) refl
  where
    by : (t : Bool) → is_plain_text bs ≡ t → bytes_of (spelled bs) ≡ Some bs
    by true e = ap bytes_of (cond-true _ _ _ e) ∙ cond-true _ _ _ e
    by false e =
        ap bytes_of (cond-false _ _ _ e) ∙ cond-false _ _ _ (and_right (not (nat_eq (length (37 ∷ hex_text bs)) 0)) _ refl)
        ∙ ap (option_and_then not_plain) (hex_bytes-hex_text bs h) ∙ cond-false _ _ _ e

-- bytes, by index and one after the other
bytes_listed : (bs : List ℕ) → AllByRecursion (λ b. b < 256) bs → AreBytes bs
bytes_listed bs h = All-from_recursion (λ b. b < 256) bs h

listed_bytes : (bs : List ℕ) → AreBytes bs → AllByRecursion (λ b. b < 256) bs
listed_bytes bs h = recursion_from_All (λ b. b < 256) bs h

-- a key that is read is one, and spelled so
pub spelled-key_of : (w k : List ℕ) → key_of w ≡ Some k → (spelled k ≡ w) × IsKey k
spelled-key_of w k h =
    option_and_then_some (λ k. if is_within 1 64 (length k) then Some k else None) (bytes_of w) k h (λ bs read fits.
    let p = cond_some (is_within 1 64 (length bs)) bs k fits in
    let text = spelled-bytes_of w bs read in
    let q = and_parts _ _ p.0 in
    let key : (spelled bs ≡ w) × IsKey bs = (text.0, (record { least = leb-true 1 (length bs) q.0; most = leb-true (length bs) 64 q.1 }, bytes_listed bs text.1)) in
    subst (λ k. (spelled k ≡ w) × IsKey k) p.1 key)

-- and a key that is spelled is read
pub key_of-spelled : (k : List ℕ) → IsKey k → key_of (spelled k) ≡ Some k
key_of-spelled k h =
    ap (option_and_then (λ k. if is_within 1 64 (length k) then Some k else None)) (bytes_of-spelled k (listed_bytes k h.1))
    ∙ cond-true _ _ _ (and_from _ _ (le-leb 1 (length k) h.0.least) (le-leb (length k) 64 h.0.most))

-- the same of values
pub spelled-value_of : (w v : List ℕ) → value_of w ≡ Some v → (spelled v ≡ w) × IsValue v
spelled-value_of w v h =
    option_and_then_some (λ v. if nat_le (length v) 1024 then Some v else None) (bytes_of w) v h (λ bs read fits.
    let p = cond_some (nat_le (length bs) 1024) bs v fits in
    let text = spelled-bytes_of w bs read in
    let value : (spelled bs ≡ w) × IsValue bs = (text.0, (leb-true (length bs) 1024 p.0, bytes_listed bs text.1)) in
    subst (λ v. (spelled v ≡ w) × IsValue v) p.1 value)

pub value_of-spelled : (v : List ℕ) → IsValue v → value_of (spelled v) ≡ Some v
value_of-spelled v h =
    ap (option_and_then (λ v. if nat_le (length v) 1024 then Some v else None)) (bytes_of-spelled v (listed_bytes v h.1))
    ∙ cond-true _ _ _ (le-leb (length v) 1024 h.0)
