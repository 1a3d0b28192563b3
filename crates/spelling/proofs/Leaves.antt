-- What is read is spelled so, and what is spelled so is read: numbers, keys and values.
use Rattle.std.proofs.Common.{◌≡◌, ℕ, ◌+◌, ◌-◌, ◌*◌, ◌/◌, ◌%◌, ◌<◌, ◌≤◌, Bool, true, false, List, [], ◌∷◌, Option, Some, None, refl, sym, ap, subst, ◌∙◌, arith, inl, inr}
use Rattle.std.proofs.lemmas.Bool.{cond-true, cond-false, and_parts, and_from, and_right, cases_lt, leb-true, lt-ltb, le-ltb, le-leb, lt-leb}
use Rattle.std.proofs.lemmas.Option.{cond_some}
use Rattle.std.proofs.lemmas.Nat.{div-add-mod', div-mul-add, mod-mul-add, div_below, mod_below}
use Rattle.std.specs.List.{AllByRecursion}
use Rattle.spelling.specs.Spelling.{is_within, is_digit, hex_digit, hex_text}
use Rattle.spelling.specs.Words.{hex_value, hex_pair, in_front, hex_bytes}

-- a byte between two others
within-true : (a b c : ℕ) → a ≤ c → c ≤ b → is_within a b c ≡ true
within-true a b c l h = and_from _ _ (le-leb a c l) (le-leb c b h)

within-parts : (a b c : ℕ) → is_within a b c ≡ true → (a ≤ c) × (c ≤ b)
within-parts a b c h = let p = and_parts _ _ h in (leb-true a c p.0, leb-true c b p.1)

-- a half's digit is read
hex_value-hex_digit : (v : ℕ) → v < 16 → hex_value (hex_digit v) ≡ Some v
hex_value-hex_digit v h =
    elim (cases_lt v 10) [
      | inl low ↦
          let same : 48 + v - 48 ≡ v = omega arith in
          ap hex_value (cond-true _ _ _ (lt-ltb v 10 low)) ∙ cond-true _ _ _ (within-true 48 57 (48 + v) (omega arith) (omega arith)) ∙ ap Some same
      | inr high ↦
          let same : 87 + v - 87 ≡ v = omega arith in
          ap hex_value (cond-false _ _ _ (le-ltb v 10 high)) ∙ cond-false _ _ _ (and_right _ _ (lt-leb (87 + v) 57 (omega arith)))
          ∙ cond-true _ _ _ (within-true 97 102 (87 + v) (omega arith) (omega arith)) ∙ ap Some same
    ]

-- and a digit that is read is a half's
hex_digit-hex_value : (c v : ℕ) → hex_value c ≡ Some v → (v < 16) × (hex_digit v ≡ c)
hex_digit-hex_value c v h = by (is_digit c) refl
  where
    other : (e : is_digit c ≡ false) → (v < 16) × (hex_digit v ≡ c)
    other e =
        let p = cond_some _ _ _ (sym (cond-false _ _ _ e) ∙ h) in
        let w = within-parts 97 102 c p.0 in
        let same : 87 + v ≡ c = omega (arith, p.1, w.0) in
        (omega (arith, p.1, w.0, w.1), cond-false _ _ _ (le-ltb v 10 (omega (arith, p.1, w.0))) ∙ same)

    by : (t : Bool) → is_digit c ≡ t → (v < 16) × (hex_digit v ≡ c)
    by true e =
        let some : Some (c - 48) ≡ Some v = sym (cond-true _ _ _ e) ∙ h in
        let value : c - 48 ≡ v = cc in
        let w = within-parts 48 57 c e in
        let same : 48 + v ≡ c = omega (arith, value, w.0) in
        (omega (arith, value, w.0, w.1), cond-true _ _ _ (lt-ltb v 10 (omega (arith, value, w.0, w.1))) ∙ same)
    by false e = other e

-- bytes are read from their digits
pub hex_bytes-hex_text : (bs : List ℕ) → AllByRecursion (λ b. b < 256) bs → hex_bytes (hex_text bs) ≡ Some bs
hex_bytes-hex_text [] h = refl
hex_bytes-hex_text (b ∷ bs) h =
    let high = hex_value-hex_digit (b / 16) (div_below b 16 16 (omega arith) h.0) in
    let low = hex_value-hex_digit (b % 16) (mod_below b 16 (omega arith)) in
    let whole : 16 * (b / 16) + b % 16 ≡ b = omega (arith, div-add-mod' b 16) in
    ap (λ o. in_front (hex_pair o (hex_value (hex_digit (b % 16)))) (hex_bytes (hex_text bs))) high
    ∙ ap (λ o. in_front (hex_pair (Some (b / 16)) o) (hex_bytes (hex_text bs))) low
    ∙ ap (λ o. in_front (Some (16 * (b / 16) + b % 16)) o) (hex_bytes-hex_text bs h.1)
    ∙ ap (λ n. Some (n ∷ bs)) whole

-- the parts of what stands in front
in_front-parts : (p : Option ℕ) (o : Option (List ℕ)) (bs : List ℕ) → in_front p o ≡ Some bs → (b : ℕ) × (cs : List ℕ) × (p ≡ Some b) × (o ≡ Some cs) × (b ∷ cs ≡ bs)
in_front-parts (Some b) (Some cs) bs h = let same : b ∷ cs ≡ bs = cc in (b, cs, refl, refl, same)
in_front-parts (Some b) None bs h = absurd (by h)
  where
    by : None ≡ Some bs → ⊥
    by e = cc
in_front-parts None o bs h = absurd (by h)
  where
    by : None ≡ Some bs → ⊥
    by e = cc

hex_pair-parts : (p q : Option ℕ) (b : ℕ) → hex_pair p q ≡ Some b → (high : ℕ) × (low : ℕ) × (p ≡ Some high) × (q ≡ Some low) × (16 * high + low ≡ b)
hex_pair-parts (Some high) (Some low) b h = let same : 16 * high + low ≡ b = cc in (high, low, refl, refl, same)
hex_pair-parts (Some high) None b h = absurd (by h)
  where
    by : None ≡ Some b → ⊥
    by e = cc
hex_pair-parts None q b h = absurd (by h)
  where
    by : None ≡ Some b → ⊥
    by e = cc

-- and digits that are read are those of the bytes
pub hex_text-hex_bytes : (w bs : List ℕ) → hex_bytes w ≡ Some bs → (hex_text bs ≡ w) × AllByRecursion (λ b. b < 256) bs
hex_text-hex_bytes [] bs h =
    let same : [] ≡ bs = cc in
    subst (λ xs. (hex_text xs ≡ []) × AllByRecursion (λ b. b < 256) xs) same (refl, tt)
hex_text-hex_bytes (h ∷ []) bs e = absurd (by e)
  where
    by : None ≡ Some bs → ⊥
    by e = cc
hex_text-hex_bytes (h ∷ l ∷ digits) bs e =
    let parts = in_front-parts _ (hex_bytes digits) bs e in
    let pair = hex_pair-parts (hex_value h) (hex_value l) parts.0 parts.2 in
    let high = hex_digit-hex_value h pair.0 pair.2 in
    let low = hex_digit-hex_value l pair.1 pair.3 in
    let others = hex_text-hex_bytes digits parts.1 parts.3 in
    let byte : pair.0 * 16 + pair.1 ≡ parts.0 = omega (arith, pair.4) in
    let up : parts.0 / 16 ≡ pair.0 = ap (λ n. n / 16) (sym byte) ∙ div-mul-add pair.0 16 pair.1 low.0 in
    let down : parts.0 % 16 ≡ pair.1 = ap (λ n. n % 16) (sym byte) ∙ mod-mul-add pair.0 16 pair.1 low.0 in
    let small : parts.0 < 256 = omega (arith, byte, high.0, low.0) in
    let text : hex_text (parts.0 ∷ parts.1) ≡ h ∷ l ∷ digits =
    ap (λ n. hex_digit n ∷ hex_digit (parts.0 % 16) ∷ hex_text parts.1) up
    ∙ ap (λ n. hex_digit pair.0 ∷ hex_digit n ∷ hex_text parts.1) down
    ∙ ap (λ d. d ∷ hex_digit pair.1 ∷ hex_text parts.1) high.1
    ∙ ap (λ d. h ∷ d ∷ hex_text parts.1) low.1
    ∙ ap (λ ds. h ∷ l ∷ ds) others.0 in
    subst (λ xs. (hex_text xs ≡ h ∷ l ∷ digits) × AllByRecursion (λ b. b < 256) xs) parts.4 (text, (small, others.1))
