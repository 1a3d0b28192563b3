-- Words by address as a list: how long it is, the word of an address, and the list after a word was put.
use Rattle.std.proofs.Common.{◌≡◌, ◌≢◌, ℕ, ◌*◌, ◌/◌, ◌<◌, ◌≤◌, List, [], length, slice_set, sym, ap, ◌∙◌, inl, inr, arith, zero-add}
use Rattle.std.specs.Prelude.{slice_index, replicate, ◌==◌, if◌then◌else◌}
use Rattle.std.proofs.lemmas.List.{length-set, length-replicate, ext_get_or, get_or-set_same, get_or-set_other}
use Rattle.std.proofs.lemmas.List.FromFn.{length-map-range_with_len, get_or-map-range_with_len}
use Rattle.std.proofs.lemmas.List.Elements.{All-replicate}
use Rattle.std.proofs.lemmas.Bool.{cases_eq}
use Rattle.std.proofs.lemmas.Bool.Decides.{nat_tests}
use Rattle.sparse_words.specs.Chunks.{IsZero}
use Rattle.sparse_words.specs.Words.{Words, listed, room_of}

pub length-listed : (len : ℕ) (word : ℕ → ℕ) → length (listed len word) ≡ len
length-listed len word = length-map-range_with_len word 0 len

pub listed-index : (len : ℕ) (word : ℕ → ℕ) (at : ℕ) → at < len → slice_index (listed len word) at ≡ word at
listed-index len word at h = get_or-map-range_with_len word 0 len at at 0 h (zero-add at)

-- a list of that length whose words are these
pub listed-is : (len : ℕ) (word : ℕ → ℕ) (items : List ℕ) → length items ≡ len → ((a : ℕ) → a < len → word a ≡ slice_index items a) → listed len word ≡ items
listed-is len word items n h =
    let m = length-listed len word in
    ext_get_or 0 (listed len word) items (m ∙ sym n) (λ a low. let within : a < len = omega arith in listed-index len word a within ∙ h a within)

pub listed-zeros : (len : ℕ) (word : ℕ → ℕ) → ((a : ℕ) → word a ≡ 0) → listed len word ≡ replicate len 0
listed-zeros len word h =
    let n : length (replicate len 0) ≡ len = length-replicate len 0 in
    listed-is len word (replicate len 0) n (λ a low. h a ∙ sym (All-replicate IsZero len 0 refl_zero a 0 (omega (arith, n))))
  where
    refl_zero : IsZero 0
    refl_zero = omega arith

here : (a at x y v : ℕ) → v ≡ (if a == at then x else y) → a ≡ at → v ≡ x
here a at x y v e f = grind (arith, nat_tests)

elsewhere : (a at x y v : ℕ) → v ≡ (if a == at then x else y) → a ≢ at → v ≡ y
elsewhere a at x y v e f = grind (arith, nat_tests)

pub listed-put : (len at w : ℕ) (old new : ℕ → ℕ) → at < len → ((a : ℕ) → new a ≡ (if a == at then w else old a)) → listed len new ≡ slice_set (listed len old) at w
listed-put len at w old new place put =
    let n = length-listed len old in
    listed-is len new (slice_set (listed len old) at w) (length-set (listed len old) at w ∙ n) (λ a low. elim (cases_eq a at) [
      | inl e ↦ here a at w (old a) (new a) (put a) e ∙ sym (ap (slice_index (slice_set (listed len old) at w)) e ∙ get_or-set_same (listed len old) at w 0 (omega arith))
      | inr other ↦ elsewhere a at w (old a) (new a) (put a) other ∙ sym (get_or-set_other (listed len old) at a w 0 other ∙ listed-index len old a low)
    ])

-- the same of a value that a clause sees
module _ (len : ℕ) (word : ℕ → ℕ) (spare : List ℕ) (seen : Words) (view : record { items = listed len word; room = room_of spare } ≡ seen) where
  items : listed len word ≡ seen.items
  items = ap (λ (v : Words). v.items) view

  pub seen-len : len ≡ length seen.items
  seen-len = sym (length-listed len word) ∙ ap length items

  pub seen-word : (at : ℕ) → at < length seen.items → word at ≡ slice_index seen.items at
  seen-word at place = let n = seen-len in sym (listed-index len word at (omega arith)) ∙ ap (λ (ws : List ℕ). slice_index ws at) items

  pub seen-put : (at w : ℕ) (new : ℕ → ℕ) → at < length seen.items → ((a : ℕ) → new a ≡ (if a == at then w else word a)) → listed len new ≡ slice_set seen.items at w
  seen-put at w new place put = let n = seen-len in listed-put len at w word new (omega arith) put ∙ ap (λ (ws : List ℕ). slice_set ws at w) items

-- an address stands in a chunk
pub chunk-there : (len at chunks : ℕ) → at < len → len ≤ 8192 * chunks → at / 8192 < chunks
chunk-there len at chunks low wide = omega arith

pub no-room : (spare : List ℕ) → spare ≡ [] → room_of spare ≡ 0
no-room spare none = ap room_of none

pub ruleset lists = (listed-zeros, no-room)
