-- A header word and its header, both ways.
use Rattle.std.proofs.Common.{◌≡◌, ℕ, zero, suc, ◌+◌, ◌*◌, ◌/◌, ◌%◌, ◌^◌, ◌<◌, ◌≤◌, Option, Some, None, unwrap_or, option_map, refl, sym, ◌∙◌, ap, subst, arith, inl, inr}
use Rattle.std.proofs.lemmas.Bool.{cases_lt}
use Rattle.std.proofs.lemmas.Grind.{common_steps}
use Rattle.slot_word.specs.declared.heads.State.{State}
use Rattle.slot_word.specs.declared.heads.State.TheVariants.{Plain, Splitting, Filling}
use Rattle.slot_word.specs.declared.heads.Head.{Head}
use Rattle.slot_word.specs.Heads.{state_bits, state_of, IsHead, head_word, head_of}

-- the header of these fields
abbrev head_from : State → ℕ → Head
head_from state depth = record { depth = depth; state = state }

-- a word reads as its two fields say
read_at : (word depth bits : ℕ) → word % 2 ^ 8 ≡ depth → word / 2 ^ 8 ≡ bits → depth ≤ 16 → head_of word ≡ option_map (λ state. head_from state depth) (state_of bits)
unfolding head_of
read_at word depth bits p q h = rw (p, q) (grind (arith, common_steps))

-- a word whose depth is that of no table is no header
read_deep : (word : ℕ) → 16 < word % 2 ^ 8 → head_of word ≡ None
unfolding head_of
read_deep word h = grind (arith, common_steps)

packed_back : (state : State) (depth : ℕ) → depth ≤ 16 → head_of (state_bits state * 2 ^ 8 + depth) ≡ Some (head_from state depth)
packed_back Plain depth h = read_at (1 * 2 ^ 8 + depth) depth 1 (omega arith) (omega arith) h
packed_back Splitting depth h = read_at (2 * 2 ^ 8 + depth) depth 2 (omega arith) (omega arith) h
packed_back Filling depth h = read_at (3 * 2 ^ 8 + depth) depth 3 (omega arith) (omega arith) h

-- what was packed is read back
pub head_of-head_word : (head : Head) → IsHead head → head_of (head_word head) ≡ Some head
unfolding head_word
head_of-head_word head h = packed_back head.state head.depth h

some_not_none : {head : Head} → Some head ≡ None → ⊥
some_not_none e = cc

answer : (word : ℕ) (head : Head) (state : State) → head_of word ≡ Some head → head_of word ≡ Some (head_from state (word % 2 ^ 8)) → state_bits state ≡ word / 2 ^ 8 → word % 2 ^ 8 ≤ 16 → IsHead head × (head_word head ≡ word)
unfolding head_word
answer word head state h k bits d =
    let it : head_from state (word % 2 ^ 8) ≡ head = ap (λ (o : Option Head). unwrap_or o head) (sym k ∙ h) in
    let packs : state_bits state * 2 ^ 8 + word % 2 ^ 8 ≡ word = omega (arith, bits) in
    (subst IsHead it d, ap head_word (sym it) ∙ packs)

shallow : (word : ℕ) (head : Head) (bits : ℕ) → word / 2 ^ 8 ≡ bits → word % 2 ^ 8 ≤ 16 → head_of word ≡ Some head → IsHead head × (head_word head ≡ word)
shallow word head zero e d h = absurd (some_not_none (sym h ∙ read_at word _ 0 refl e d))
shallow word head (suc zero) e d h = answer word head Plain h (read_at word _ 1 refl e d) (sym e) d
shallow word head (suc (suc zero)) e d h = answer word head Splitting h (read_at word _ 2 refl e d) (sym e) d
shallow word head (suc (suc (suc zero))) e d h = answer word head Filling h (read_at word _ 3 refl e d) (sym e) d
shallow word head (suc (suc (suc (suc n)))) e d h =
    let none : state_of (suc (suc (suc (suc n)))) ≡ None = grind (arith, common_steps) in
    absurd (some_not_none (sym h ∙ read_at word _ (suc (suc (suc (suc n)))) refl e d ∙ ap (option_map (λ state. head_from state (word % 2 ^ 8))) none))

-- what reads as a header is its packed form, and its depth is one of a table
pub head_word-head_of : (word : ℕ) (head : Head) → head_of word ≡ Some head → IsHead head × (head_word head ≡ word)
head_word-head_of word head h =
    elim (cases_lt 16 (word % 2 ^ 8)) [ inl d ↦ absurd (some_not_none (sym h ∙ read_deep word d)) | inr d ↦ shallow word head (word / 2 ^ 8) refl d h ]

-- two different headers never pack to one word
pub head_word-one : (a b : Head) → IsHead a → IsHead b → head_word a ≡ head_word b → a ≡ b
head_word-one a b h k e = ap (λ (o : Option Head). unwrap_or o b) (sym (head_of-head_word a h) ∙ ap head_of e ∙ head_of-head_word b k)

-- a packed header has ten bits, and is not 0
pub head_word-fits : (head : Head) → IsHead head → head_word head < 2 ^ 10
unfolding head_word
head_word-fits head h = small head.state head.depth h where
  small : (state : State) (depth : ℕ) → depth ≤ 16 → state_bits state * 2 ^ 8 + depth < 2 ^ 10
  small Plain depth d = omega arith
  small Splitting depth d = omega arith
  small Filling depth d = omega arith

-- the plain header of depth 0 is the word 256
pub head_word-plain : (depth : ℕ) → head_word (head_from Plain depth) ≡ 256 + depth
unfolding head_word
head_word-plain depth = refl

-- an answer that is what the word reads as is the head of which the word is the packed form
pub reads-each : (word : ℕ) (answer : Option Head) → answer ≡ head_of word → (head : Head) → IsHead head → head_word head ≡ word → answer ≡ Some head
reads-each word answer read head h e = read ∙ ap head_of (sym e) ∙ head_of-head_word head h
