-- The words of a table and of a take are words of the memory, and a block has few words. Of every legal log.
use Rattle.std.specs.Prelude.{◌≡◌, ℕ, ◌+◌, ◌*◌, ◌/◌, ◌<◌, ◌≤◌, ◌%◌, ◌^◌, List, length, Some, refl}
use Rattle.std.proofs.Common.{subst, ◌∙◌, ap, arith, ⊎_elim}
use Rattle.kv_block.specs.Packing.{Pair, packed}
use Rattle.kv_block.proofs.Packed.{packed_most, IsPair-from_unpacked, packed_of_unpacked}
use Rattle.node_words.specs.declared.geometry.Geometry.{Geometry}
use Rattle.node_words.specs.Addresses.{header_at, birth_at, child_at, slot_at, bucket_header_at, node_of, node_at, table_words, first_free}
use Rattle.node_words.proofs.Sizes.{node_ends}
use Rattle.node_words.proofs.FirstTables.{IsInFirst, first_in_words}
use Rattle.verb_log.specs.Decoded.{Body}
use Rattle.verb_log.proofs.BlockWords.{length-words_at, pair_unpacked}
use Rattle.verb_log.specs.Tables.{Past, word_at, words_at, pair_at}
use Rattle.race_laws.specs.Setting.{Setting}
use Rattle.race_laws.specs.Standing.{IsTable}
use Rattle.race_laws.specs.Rows.{IsPlace}
use Rattle.race_laws.specs.Legal.{Legal}
use Rattle.race_laws.proofs.SoundStep.{sound}
use Rattle.race_laws.proofs.Regions.{base_low}
use Rattle.race_laws.proofs.Sound.{Sound}

-- a taken word is one of the memory's
pub taken_within : (g : Geometry) (q : Past) → Sound g q → (a k : ℕ) → k ≡ node_of g a → k < g.nodes → a < word_at g q (node_at g k) → a < g.words
taken_within g q so a k e h to = let x = so.next_to k h in let y = node_ends g k h in omega arith

pub table_within : (g : Geometry) (q : Past) → Sound g q → (t o : ℕ) → IsTable g q t → o < table_words g → t + o < g.words
table_within g q so t o h k =
    let inside = so.whole t t h (t + o) (omega arith) (omega arith) in
    let x = so.tables (t + o) t inside in
    ⊎_elim (λ (y : IsInFirst g (t + o) t). let z = (first_in_words g (t + o) t y).1 in omega arith)
    (λ y. let tk = so.taken (t + o) (so.published (t + o) y) in taken_within g q so (t + o) (node_of g (t + o)) refl tk.node tk.to) x.2

-- a table by its address: a first table
pub low_is_first : (g : Geometry) (q : Past) → Sound g q → (t : ℕ) → IsTable g q t → t < first_free g → IsInFirst g t t
low_is_first g q so t h low = ⊎_elim (λ (y : IsInFirst g t t). y)
    (λ y. let tk = so.taken t (so.published t y) in let f = tk.from in let b = base_low g (node_of g t) in absurd (omega arith)) (so.tables t t h).2

-- a block has at most so many words
pub block_length : (g : Geometry) (q : Past) (b : Body) (pr : Pair) → pair_at g q b ≡ Some pr → b.length ≤ 137
block_length g q b pr h =
    let u = pair_unpacked g q b pr h in
    let m = packed_most pr (IsPair-from_unpacked (words_at g q b.at b.length) pr u) in
    let e : length (packed pr.key pr.value) ≡ b.length = ap (λ (v : List ℕ). length v) (packed_of_unpacked (words_at g q b.at b.length) pr u) ∙ length-words_at g q b.at b.length in
    omega arith

-- a table's address has at most 24 bits
pub table_small : (g : Geometry) (q : Past) → Sound g q → (t : ℕ) → IsTable g q t → t < 2 ^ 46
table_small g q so t h =
    let low = table_within g q so t 0 h (some_words g) in
    let few = g.within in
    omega arith
  where
    some_words : (g : Geometry) → 0 < table_words g
    some_words g = omega arith

-- the words of a table by what they are
module _ (s : Setting) (q : Past) (l : Legal s q) (t : ℕ) (h : IsTable s.geometry q t) where
  at_offset : (o a : ℕ) → t + o ≡ a → o < table_words s.geometry → a < s.geometry.words
  at_offset o a e k = subst (λ v. v < s.geometry.words) e (table_within s.geometry q (sound s q l) t o h k)

  pub bucket_low : (m : ℕ) → m < 2 * s.geometry.groups → bucket_header_at t m < s.geometry.words
  bucket_low m k = at_offset (20 + 24 * (m / 2) + 16 * (m % 2)) (bucket_header_at t m) (there t m) (within m k)
    where
      there : (t m : ℕ) → t + (20 + 24 * (m / 2) + 16 * (m % 2)) ≡ bucket_header_at t m
      there t m = omega arith

      within : (m : ℕ) → m < 2 * s.geometry.groups → 20 + 24 * (m / 2) + 16 * (m % 2) < table_words s.geometry
      within m k = omega arith

  pub child_low : (i : ℕ) → i < 16 → child_at t i < s.geometry.words
  child_low i k = at_offset (4 + i) (child_at t i) (there t i) (within i k)
    where
      there : (t i : ℕ) → t + (4 + i) ≡ child_at t i
      there t i = omega arith

      within : (i : ℕ) → i < 16 → 4 + i < table_words s.geometry
      within i k = omega arith

  pub header_low : header_at t < s.geometry.words
  header_low = at_offset 1 (header_at t) refl (small 1 (omega arith))
    where
      small : (o : ℕ) → o < 20 → o < table_words s.geometry
      small o k = omega arith

  pub birth_low : birth_at t < s.geometry.words
  birth_low = at_offset 0 (birth_at t) (there t) (small 0 (omega arith))
    where
      there : (t : ℕ) → t + 0 ≡ t
      there t = omega arith

      small : (o : ℕ) → o < 20 → o < table_words s.geometry
      small o k = omega arith

pub slot_within : (s : Setting) (q : Past) → Legal s q → (t p : ℕ) → IsTable s.geometry q t → IsPlace s.geometry p → slot_at t p < s.geometry.words
slot_within s q l t p h k = subst (λ v. v < s.geometry.words) (there t p) (table_within s.geometry q (sound s q l) t (20 + p) h (room p k.0))
  where
    there : (t p : ℕ) → t + (20 + p) ≡ slot_at t p
    there t p = omega arith

    room : (p : ℕ) → p < 24 * s.geometry.groups → 20 + p < table_words s.geometry
    room p h = omega arith
