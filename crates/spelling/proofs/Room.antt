-- Bytes that are written where there is room.
use Rattle.std.proofs.Common.{◌≡◌, ℕ, ◌<◌, ◌≤◌, Bool, true, false, nat_le, ◌&&◌, List, [], ◌∷◌, ◌++◌, Option, Some, None, length, take, drop, get_or, ◌-◌, refl, sym, ap, ◌∙◌, append-nil, arith}
use Rattle.std.proofs.lemmas.List.{length-append, take_all}
use Rattle.std.proofs.lemmas.Bool.{cond-true, cond-false, le-leb, leb-false, lt-leb, ne_eqb, eq-eqb}
use Rattle.std.specs.Option.{option_and_then}
use Rattle.spelling.specs.Spelling.{is_plain_text}
use Rattle.spelling.specs.Words.{in_front, hex_bytes, at_most, key_bytes, not_plain, eight_bytes_number, escaped_bytes, key_of, hex_number_of}
use Rattle.spelling.proofs.Hex.{behind}

-- there is room, or not
pub at_most-few : (n : ℕ) (bytes : List ℕ) → length bytes ≤ n → at_most n bytes ≡ Some bytes
at_most-few n bytes few = cond-true _ _ _ (le-leb (length bytes) n few)

pub at_most-more : (n : ℕ) (bytes : List ℕ) → n < length bytes → at_most n bytes ≡ None
at_most-more n bytes more = cond-false _ _ _ (lt-leb (length bytes) n more)

-- all digits are read
pub hex-ended : (n : ℕ) (bytes rest digits : List ℕ) → length rest ≡ 0 → behind bytes (hex_bytes rest) ≡ hex_bytes digits → length bytes ≤ n
    → Some bytes ≡ option_and_then (at_most n) (hex_bytes digits)
hex-ended n bytes [] digits ended same few = sym (at_most-few n bytes few) ∙ ap (at_most n) (sym (append-nil bytes)) ∙ ap (option_and_then (at_most n)) same
hex-ended n bytes (d ∷ ds) digits ended same few = absurd (omega (arith, ended))

-- there is no room for one byte more
pub hex-full : (n : ℕ) (bytes : List ℕ) (b : ℕ) (o : Option (List ℕ)) (hex : Option (List ℕ)) → n ≤ length bytes → behind bytes (in_front (Some b) o) ≡ hex
    → None ≡ option_and_then (at_most n) hex
hex-full n bytes b None hex full same = ap (option_and_then (at_most n)) same
hex-full n bytes b (Some others) hex full same =
    let long = length-append bytes (b ∷ others) in
    sym (at_most-more n (bytes ++ b ∷ others) (omega (arith, long, full))) ∙ ap (option_and_then (at_most n)) same

-- what is made of bytes, where none is made of more bytes than there is room for
pub room : {A : Type 0} (n : ℕ) (f : List ℕ → Option A) (o : Option (List ℕ)) → ((bytes : List ℕ) → n < length bytes → f bytes ≡ None)
    → option_and_then f (option_and_then (at_most n) o) ≡ option_and_then f o
room n f None long = refl
room n f (Some bytes) long = by (nat_le (length bytes) n) refl
  where
    by : (few : Bool) → nat_le (length bytes) n ≡ few → option_and_then f (at_most n bytes) ≡ f bytes
    by true e = ap (option_and_then f) (cond-true _ _ _ e)
    by false e = ap (option_and_then f) (cond-false _ _ _ e) ∙ sym (long bytes (leb-false _ _ e))

and-no : (b : Bool) → (b && false) ≡ false
and-no true = refl
and-no false = refl

pub key-room : (o : Option (List ℕ)) → option_and_then key_bytes (option_and_then (at_most 64) o) ≡ option_and_then key_bytes o
key-room o = room 64 key_bytes o (λ bytes more. cond-false _ _ _ (ap (λ b. nat_le 1 (length bytes) && b) (lt-leb (length bytes) 64 more) ∙ and-no _))

pub value-room : (o : Option (List ℕ)) → option_and_then (at_most 1024) (option_and_then (at_most 1024) o) ≡ option_and_then (at_most 1024) o
value-room o = room 1024 (at_most 1024) o (λ bytes more. at_most-more 1024 bytes more)

pub eight-room : (o : Option (List ℕ)) → option_and_then eight_bytes_number (option_and_then (at_most 8) o) ≡ option_and_then eight_bytes_number o
eight-room o = room 8 eight_bytes_number o (λ bytes more. cond-false _ _ _ (ne_eqb (length bytes) 8 (λ e. omega (arith, e, more))))

-- bytes with no plain spelling, and room for them, in either order
pub plain-room : (n : ℕ) (o : Option (List ℕ)) → option_and_then (at_most n) (option_and_then not_plain o) ≡ option_and_then not_plain (option_and_then (at_most n) o)
plain-room n None = refl
plain-room n (Some bytes) = by (is_plain_text bytes) (nat_le (length bytes) n) refl refl
  where
    by : (plain few : Bool) → is_plain_text bytes ≡ plain → nat_le (length bytes) n ≡ few
        → option_and_then (at_most n) (not_plain bytes) ≡ option_and_then not_plain (at_most n bytes)
    by true true e f = ap (option_and_then (at_most n)) (cond-true _ _ _ e) ∙ sym (ap (option_and_then not_plain) (cond-true _ _ _ f) ∙ cond-true _ _ _ e)
    by true false e f = ap (option_and_then (at_most n)) (cond-true _ _ _ e) ∙ sym (ap (option_and_then not_plain) (cond-false _ _ _ f))
    by false true e f = ap (option_and_then (at_most n)) (cond-false _ _ _ e) ∙ cond-true _ _ _ f ∙ sym (ap (option_and_then not_plain) (cond-true _ _ _ f) ∙ cond-false _ _ _ e)
    by false false e f = ap (option_and_then (at_most n)) (cond-false _ _ _ e) ∙ cond-false _ _ _ f ∙ sym (ap (option_and_then not_plain) (cond-false _ _ _ f))

-- a word with `%`
pub escaped-word : (word : List ℕ) → 1 ≤ length word → get_or word 0 0 ≡ 37 → escaped_bytes word ≡ option_and_then not_plain (hex_bytes (take (length word - 1) (drop 1 word)))
escaped-word [] some first = absurd (omega (arith, some))
escaped-word (c ∷ digits) some first =
    cond-true _ _ _ (eq-eqb c 37 first) ∙ ap (λ d. option_and_then not_plain (hex_bytes d)) (sym (take_all (length (c ∷ digits) - 1) digits (omega arith)))

-- a key is made of the bytes that there is room for
pub key-read : (word : List ℕ) (o : Option (List ℕ)) → is_plain_text word ≡ false → o ≡ option_and_then (at_most 64) (escaped_bytes word) → option_and_then key_bytes o ≡ key_of word
key-read word o escaped read = ap (option_and_then key_bytes) read ∙ key-room (escaped_bytes word) ∙ ap (option_and_then key_bytes) (sym (cond-false _ _ _ escaped))

-- and so is a number
pub number-read : (word : List ℕ) (o : Option (List ℕ)) → length word ≡ 16 → o ≡ option_and_then (at_most 8) (hex_bytes word) → option_and_then eight_bytes_number o ≡ hex_number_of word
number-read word o long read = ap (option_and_then eight_bytes_number) read ∙ eight-room (hex_bytes word) ∙ sym (cond-true _ _ _ (eq-eqb (length word) 16 long))
