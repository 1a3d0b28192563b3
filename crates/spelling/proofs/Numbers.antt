-- Decimal numbers.
use Rattle.std.proofs.Common.{◌≡◌, ℕ, ◌+◌, ◌*◌, ◌^◌, ◌<◌, ◌≤◌, true, List, [], ◌∷◌, length, Some, None, sym, ap, ◌∙◌, arith, drop, drop-cons, get_or, suc, subst}
use Rattle.std.proofs.lemmas.List.{drop_all}
use Rattle.std.proofs.lemmas.Bool.{cond-true, cond-false, and_right, and_from, le-ltb, lt-ltb}
use Rattle.std.specs.Char.{digit_value}
use Rattle.std.specs.Str.Parse.{digits_value, digits_value_after}
use Rattle.spelling.specs.Words.{is_numeral, number_of}

-- more digits make no number smaller
pub value_grows : (n : ℕ) (cs : List ℕ) → n ≤ digits_value_after 10 n cs
value_grows n [] = omega arith
value_grows n (c ∷ cs) = let h = value_grows (n * 10 + digit_value c) cs in omega arith

-- digits that pass the limit spell no number
pub number_of-large : (word : List ℕ) → 2 ^ 64 ≤ digits_value 10 word → number_of word ≡ None
number_of-large word h = cond-false _ _ _ (and_right (is_numeral word) _ (le-ltb (digits_value 10 word) (2 ^ 64) h))

-- digits below it spell their number
pub number_of-small : (word : List ℕ) → is_numeral word ≡ true → digits_value 10 word < 2 ^ 64 → number_of word ≡ Some (digits_value 10 word)
number_of-small word n h = cond-true _ _ _ (and_from (is_numeral word) _ n (lt-ltb (digits_value 10 word) (2 ^ 64) h))

-- a digit that passes the limit ends the reading
pub number_of-ended : (word : List ℕ) (n i : ℕ) → i < length word → digits_value_after 10 n (drop i word) ≡ digits_value 10 word → (n * 10 + digit_value (get_or word i 0) < 2 ^ 64 → ⊥) → number_of word ≡ None
number_of-ended word n i h same over =
    let next = n * 10 + digit_value (get_or word i 0) in
    let value = ap (digits_value_after 10 n) (sym (drop-cons word i 0 h)) ∙ same in
    let grown = value_grows next (drop (suc i) word) in
    number_of-large word (omega (arith, value, grown, over))

-- with no digit left the number is read
pub number_of-read : (word : List ℕ) (n i : ℕ) → length word ≤ i → n < 2 ^ 64 → is_numeral word ≡ true → digits_value_after 10 n (drop i word) ≡ digits_value 10 word → Some n ≡ number_of word
number_of-read word n i h fits numeral same =
    let value = ap (digits_value_after 10 n) (sym (drop_all i word h)) ∙ same in
    ap Some value ∙ sym (number_of-small word numeral (subst (λ v. v < 2 ^ 64) value fits))
