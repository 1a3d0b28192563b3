-- A birth word and its birth, both ways.
use Rattle.std.proofs.Common.{◌≡◌, ℕ, ◌+◌, ◌*◌, ◌/◌, ◌%◌, ◌^◌, ◌<◌, ◌≤◌, ◌&&◌, Bool, true, false, nat_le, nat_lt, Option, Some, None, unwrap_or, refl, sym, ◌∙◌, ap, subst, arith, inl, inr, cond}
use Rattle.std.proofs.Math.Pow.{pow_mono}
use Rattle.std.proofs.lemmas.Bool.{cases_lt}
use Rattle.std.proofs.lemmas.Grind.{common_steps}
use Rattle.slot_word.specs.declared.births.Birth.{Birth}
use Rattle.slot_word.specs.Births.{IsBirth, birth_word, birth_of}

-- the birth of these fields
abbrev birth_from : ℕ → ℕ → ℕ → Birth
birth_from depth suffix parent = record { depth = depth; suffix = suffix; parent = parent }

-- a word whose depth is one of a table and whose suffix is below 2^depth reads as its fields
read_at : (word depth suffix parent : ℕ) → word % 2 ^ 8 ≡ depth → word / 2 ^ 8 % 2 ^ 16 ≡ suffix → word / 2 ^ 24 ≡ parent → depth ≤ 16 → suffix < 2 ^ depth → birth_of word ≡ Some (birth_from depth suffix parent)
unfolding birth_of
read_at word depth suffix parent p q r h k = rw (p, q, r) (grind (arith, common_steps))

-- a suffix of a table's depth fits its field
pub suffix-fits : (depth suffix : ℕ) → depth ≤ 16 → suffix < 2 ^ depth → suffix < 2 ^ 16
suffix-fits depth suffix h k =
    let power : 2 ^ depth ≤ 2 ^ 16 = pow_mono h in omega (arith, power)

-- what was packed is read back
pub birth_of-birth_word : (birth : Birth) → IsBirth birth → birth_of (birth_word birth) ≡ Some birth
unfolding birth_word
birth_of-birth_word birth h =
    let fits : birth.suffix < 2 ^ 16 = suffix-fits birth.depth birth.suffix h.depth h.suffix in
    let depth = h.depth in
    read_at (birth.parent * 2 ^ 24 + birth.suffix * 2 ^ 8 + birth.depth) birth.depth birth.suffix birth.parent (omega arith) (omega arith) (omega arith) h.depth h.suffix

some_not_none : {birth : Birth} → Some birth ≡ None → ⊥
some_not_none e = cc

-- a word whose depth is that of no table is no birth
read_deep : (word : ℕ) → 16 < word % 2 ^ 8 → birth_of word ≡ None
unfolding birth_of
read_deep word h = grind (arith, common_steps)

-- a word whose suffix has more bits than its depth says is no birth
read_wide : (word : ℕ) → 2 ^ (word % 2 ^ 8) ≤ word / 2 ^ 8 % 2 ^ 16 → birth_of word ≡ None
unfolding birth_of
read_wide word h = wide (nat_le (word % 2 ^ 8) 16) where
  wide : (b : Bool) → cond (b && nat_lt (word / 2 ^ 8 % 2 ^ 16) (2 ^ (word % 2 ^ 8))) (Some (birth_from (word % 2 ^ 8) (word / 2 ^ 8 % 2 ^ 16) (word / 2 ^ 24))) None ≡ None
  wide true = grind (arith, common_steps)
  wide false = refl

-- what reads as a birth is its packed form, and its fields are those of one
pub birth_word-birth_of : (word : ℕ) (birth : Birth) → word < 2 ^ 64 → birth_of word ≡ Some birth → IsBirth birth × (birth_word birth ≡ word)
unfolding birth_word
birth_word-birth_of word birth fits h =
    elim (cases_lt 16 (word % 2 ^ 8)) [
      | inl deep ↦ absurd (some_not_none (sym h ∙ read_deep word deep))
      | inr d ↦ elim (cases_lt (word / 2 ^ 8 % 2 ^ 16) (2 ^ (word % 2 ^ 8))) [
        | inr wide ↦ absurd (some_not_none (sym h ∙ read_wide word wide))
        | inl s ↦
            let read = read_at word _ _ _ refl refl refl d s in
            let it : birth_from (word % 2 ^ 8) (word / 2 ^ 8 % 2 ^ 16) (word / 2 ^ 24) ≡ birth = ap (λ (o : Option Birth). unwrap_or o birth) (sym read ∙ h) in
            let packs : word / 2 ^ 24 * 2 ^ 24 + word / 2 ^ 8 % 2 ^ 16 * 2 ^ 8 + word % 2 ^ 8 ≡ word = omega arith in
            let fields : IsBirth (birth_from (word % 2 ^ 8) (word / 2 ^ 8 % 2 ^ 16) (word / 2 ^ 24)) = record { depth = d; suffix = s; parent = omega arith } in
            (subst IsBirth it fields, ap birth_word (sym it) ∙ packs)
      ]
    ]

-- two different births never pack to one word
pub birth_word-one : (a b : Birth) → IsBirth a → IsBirth b → birth_word a ≡ birth_word b → a ≡ b
birth_word-one a b h k e = ap (λ (o : Option Birth). unwrap_or o b) (sym (birth_of-birth_word a h) ∙ ap birth_of e ∙ birth_of-birth_word b k)

-- a packed birth is a word of 64 bits
pub birth_word-fits : (birth : Birth) → IsBirth birth → birth_word birth < 2 ^ 64
unfolding birth_word
birth_word-fits birth h =
    let fits : birth.suffix < 2 ^ 16 = suffix-fits birth.depth birth.suffix h.depth h.suffix in
    let depth = h.depth in let parent = h.parent in omega arith

-- the birth of a first table of depth 0 is the word 0
pub birth_word-first : birth_word (birth_from 0 0 0) ≡ 0
unfolding birth_word
birth_word-first = refl

-- an answer that is what the word reads as is the birth of which the word is the packed form
pub reads-each : (word : ℕ) (answer : Option Birth) → answer ≡ birth_of word → (birth : Birth) → IsBirth birth → birth_word birth ≡ word → answer ≡ Some birth
reads-each word answer read birth h e = read ∙ ap birth_of (sym e) ∙ birth_of-birth_word birth h
