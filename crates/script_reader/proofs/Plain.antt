-- Words, and the lines that they make: no word has a space or a line feed.
use Rattle.std.proofs.Common.{◌≡◌, ℕ, ◌+◌, ◌/◌, ◌%◌, ◌^◌, ◌<◌, ◌≤◌, Bool, true, false, nat_eq, List, [], ◌∷◌, ◌++◌, length, map, refl, sym, ap, subst, ◌∙◌, arith, rules, inl, inr, if◌then◌else◌, append_assoc}
use Rattle.std.proofs.lemmas.Bool.{cond-true, cond-false, and_parts, and_from, or_cases, cases_lt, leb-true, le-leb, eqb-true, ne_eqb, lt-ltb, le-ltb, not-true}
use Rattle.std.proofs.lemmas.List.Elements.{All-from_recursion}
use Rattle.std.proofs.lemmas.List.Folds.{list_all-append}
use Rattle.std.proofs.lemmas.List.Splits.{slice_split_at, slice_split_none}
use Rattle.std.proofs.lemmas.Nat.{mod_below, div_below}
use Rattle.std.proofs.lemmas.Fmt.{digits_decimal, decimal_nonempty}
use Rattle.std.specs.Fmt.{decimal}
use Rattle.std.specs.Int.{w64, to_be_bytes}
use Rattle.std.specs.List.{AllByRecursion, list_all}
use Rattle.spelling.specs.Spelling.{is_within, is_digit, is_small, is_name_byte, is_plain, is_plain_text, hex_digit, hex_text, hex_number, spelled}
use Rattle.spelling.specs.Words.{parts_at, is_name, is_empty}
use Rattle.script_value.specs.ScriptText.{line_of, text_of}
use Rattle.script_reader.specs.Rules.{is_printable}
use Rattle.spelling.proofs.Spelled.{own}

-- a byte of a word
abbrev pub is_word_byte : ℕ → Bool
is_word_byte b = is_within 33 126 b

-- a word: one byte at least
pub record IsWord (w : List ℕ) : Type 0 where
  pub bytes : list_all is_word_byte w ≡ true
  pub some : is_empty w ≡ false

-- a byte between others
inside : (a b c : ℕ) → a ≤ c → c ≤ b → is_within a b c ≡ true
inside a b c l h = and_from _ _ (le-leb a c l) (le-leb c b h)

bounds : (a b c : ℕ) → is_within a b c ≡ true → (a ≤ c) × (c ≤ b)
bounds a b c h = let p = and_parts _ _ h in (leb-true a c p.0, leb-true c b p.1)

wider : (a b c : ℕ) → is_within a b c ≡ true → 33 ≤ a → b ≤ 126 → is_word_byte c ≡ true
wider a b c h l m = let p = bounds a b c h in inside 33 126 c (omega (arith, p.0, l)) (omega (arith, p.1, m))

-- bytes of other kinds are bytes of words
word_from : (p : ℕ → Bool) → ((c : ℕ) → p c ≡ true → is_word_byte c ≡ true) → (w : List ℕ) → list_all p w ≡ true → list_all is_word_byte w ≡ true
word_from p each [] h = refl
word_from p each (c ∷ cs) h = let q = and_parts (p c) _ h in and_from _ _ (each c q.0) (word_from p each cs q.1)

digit_byte : (c : ℕ) → is_digit c ≡ true → is_word_byte c ≡ true
digit_byte c h = wider 48 57 c h (omega arith) (omega arith)

small_byte : (c : ℕ) → is_small c ≡ true → is_word_byte c ≡ true
small_byte c h = wider 97 122 c h (omega arith) (omega arith)

name_byte : (c : ℕ) → is_name_byte c ≡ true → is_word_byte c ≡ true
name_byte c h = elim (or_cases _ _ h) [ inl s ↦ small_byte c s | inr d ↦ digit_byte c d ]

plain_byte : (c : ℕ) → is_plain c ≡ true → is_word_byte c ≡ true
plain_byte c h =
    elim (or_cases _ _ h) [
      | inl a ↦ elim (or_cases _ _ a) [
        | inl b ↦ elim (or_cases _ _ b) [
          | inl d ↦ elim (or_cases _ _ d) [
            | inl e ↦ name_byte c e
            | inr f ↦ wider 65 90 c f (omega arith) (omega arith)
          ]
          | inr g ↦ let same = eqb-true c 95 g in inside 33 126 c (omega (arith, same)) (omega (arith, same))
        ]
        | inr g ↦ let same = eqb-true c 45 g in inside 33 126 c (omega (arith, same)) (omega (arith, same))
      ]
      | inr g ↦ let same = eqb-true c 46 g in inside 33 126 c (omega (arith, same)) (omega (arith, same))
    ]

hex_byte : (v : ℕ) → v < 16 → is_word_byte (hex_digit v) ≡ true
hex_byte v h = elim (cases_lt v 10) [
  | inl low ↦ ap is_word_byte (cond-true _ _ _ (lt-ltb v 10 low)) ∙ inside 33 126 (48 + v) (omega arith) (omega arith)
  | inr high ↦ ap is_word_byte (cond-false _ _ _ (le-ltb v 10 high)) ∙ inside 33 126 (87 + v) (omega arith) (omega arith)
]

hex_bytes_word : (bs : List ℕ) → AllByRecursion (λ b. b < 256) bs → list_all is_word_byte (hex_text bs) ≡ true
hex_bytes_word [] h = refl
hex_bytes_word (b ∷ bs) h =
    and_from _ _ (hex_byte (b / 16) (div_below b 16 16 (omega arith) h.0))
    (and_from _ _ (hex_byte (b % 16) (mod_below b 16 (omega arith))) (hex_bytes_word bs h.1))

-- each spelling is a word
pub IsWord-decimal : (n : ℕ) → n < 2 ^ 64 → IsWord (decimal n)
IsWord-decimal n h = record { bytes = word_from is_digit digit_byte (decimal n) (digits_decimal own n h); some = some (decimal n) (decimal_nonempty n h) }
  where
    some : (w : List ℕ) → 0 < length w → is_empty w ≡ false
    some [] l = absurd (omega arith)
    some (c ∷ cs) l = refl

pub IsWord-name : (w : List ℕ) → is_name w ≡ true → IsWord w
IsWord-name [] h = absurd (no h)
  where
    no : false ≡ true → ⊥
    no e = cc
IsWord-name (c ∷ cs) h =
    let p = and_parts _ _ h in
    let q = and_parts _ _ p.0 in
    record { bytes = and_from _ _ (small_byte c q.0) (word_from is_name_byte name_byte cs q.1); some = refl }

pub IsWord-spelled : (bs : List ℕ) → AllByRecursion (λ b. b < 256) bs → IsWord (spelled bs)
unfolding spelled
IsWord-spelled bs h = by (is_plain_text bs) refl
  where
    by : (t : Bool) → is_plain_text bs ≡ t → IsWord (if is_plain_text bs then bs else 37 ∷ hex_text bs)
    by true e =
        let p = and_parts _ _ e in
        let word : IsWord bs = record { bytes = word_from is_plain plain_byte bs p.1; some = some bs (not-true _ p.0) } in
        subst IsWord (sym (cond-true _ _ _ e)) word
      where
        some : (w : List ℕ) → nat_eq (length w) 0 ≡ false → is_empty w ≡ false
        some [] q = q
        some (c ∷ cs) q = refl
    by false e =
        let word : IsWord (37 ∷ hex_text bs) = record { bytes = hex_bytes_word bs h; some = refl } in
        subst IsWord (sym (cond-false _ _ _ e)) word

pub IsWord-hex_number : (n : ℕ) → IsWord (hex_number n)
unfolding hex_number
IsWord-hex_number n = record { bytes = hex_bytes_word (to_be_bytes w64 n) (search (rules, mod_below)); some = refl }

-- a word behind a word
pub IsWord-append : (v w : List ℕ) → IsWord v → list_all is_word_byte w ≡ true → IsWord (v ++ w)
IsWord-append v w p q = record { bytes = list_all-append is_word_byte v w ∙ and_from _ _ p.bytes q; some = some v p.some }
  where
    some : (v : List ℕ) → is_empty v ≡ false → is_empty (v ++ w) ≡ false
    some [] e = absurd (no (sym e))
      where
        no : false ≡ true → ⊥
        no q = cc
    some (c ∷ cs) e = refl

-- no byte of a word is one below 33
none_below : (c : ℕ) → c < 33 → (w : List ℕ) → list_all is_word_byte w ≡ true → AllByRecursion (λ b. nat_eq b c ≡ false) w
none_below c low [] h = tt
none_below c low (b ∷ bs) h =
    let p = and_parts (is_word_byte b) _ h in
    let l = (bounds 33 126 b p.0).0 in
    (ne_eqb b c (λ e. omega (arith, e, l, low)), none_below c low bs p.1)

-- words are the parts of their line
pub parts-line : (w : List ℕ) (ws : List (List ℕ)) → AllByRecursion IsWord (w ∷ ws) → parts_at 32 (line_of (w ∷ ws)) ≡ w ∷ ws
parts-line w [] h = slice_split_none (λ b. nat_eq b 32) w (All-from_recursion (λ b. nat_eq b 32 ≡ false) w (none_below 32 (omega arith) w h.0.bytes))
parts-line w (v ∷ vs) h =
    slice_split_at (λ b. nat_eq b 32) w 32 (line_of (v ∷ vs)) (All-from_recursion (λ b. nat_eq b 32 ≡ false) w (none_below 32 (omega arith) w h.0.bytes)) refl
    ∙ ap (λ ps. w ∷ ps) (parts-line v vs h.1)

-- a word is printable
word_printable : (w : List ℕ) → list_all is_word_byte w ≡ true → list_all is_printable w ≡ true
word_printable [] e = refl
word_printable (b ∷ bs) e = let p = and_parts (is_word_byte b) _ e in let q = bounds 33 126 b p.0 in and_from _ _ (inside 32 126 b (omega (arith, q.0)) q.1) (word_printable bs p.1)

-- a line of words is printable
pub line_printable : (ws : List (List ℕ)) → AllByRecursion IsWord ws → list_all is_printable (line_of ws) ≡ true
line_printable [] h = refl
line_printable (w ∷ []) h = word_printable w h.0.bytes
line_printable (w ∷ v ∷ vs) h =
    list_all-append is_printable w (32 ∷ line_of (v ∷ vs)) ∙ and_from _ _ (word_printable w h.0.bytes) (line_printable (v ∷ vs) h.1)

-- no line has a line feed
line_plain : (ws : List (List ℕ)) → AllByRecursion IsWord ws → AllByRecursion (λ b. nat_eq b 10 ≡ false) (line_of ws)
line_plain [] h = tt
line_plain (w ∷ []) h = none_below 10 (omega arith) w h.0.bytes
line_plain (w ∷ v ∷ vs) h = both w (none_below 10 (omega arith) w h.0.bytes) (line_plain (v ∷ vs) h.1)
  where
    both : (w : List ℕ) → AllByRecursion (λ b. nat_eq b 10 ≡ false) w → AllByRecursion (λ b. nat_eq b 10 ≡ false) (line_of (v ∷ vs)) → AllByRecursion (λ b. nat_eq b 10 ≡ false) (w ++ 32 ∷ line_of (v ∷ vs))
    both [] p q = (refl, q)
    both (b ∷ bs) p q = (p.0, both bs p.1 q)

-- lines are the parts of their text, and an empty part is behind the last
pub parts-text : (lines : List (List (List ℕ))) → AllByRecursion (AllByRecursion IsWord) lines → parts_at 10 (text_of lines) ≡ map line_of lines ++ [] ∷ []
parts-text [] h = refl
parts-text (l ∷ ls) h =
    ap (parts_at 10) (append_assoc (line_of l) (10 ∷ []) (text_of ls))
    ∙ slice_split_at (λ b. nat_eq b 10) (line_of l) 10 (text_of ls) (All-from_recursion (λ b. nat_eq b 10 ≡ false) (line_of l) (line_plain l h.0)) refl
    ∙ ap (λ ps. line_of l ∷ ps) (parts-text ls h.1)
