-- The log of a first insert, newest entry first: a client takes the words of a block on a node, stores the block, places it in
-- a slot that is empty since the opening, and commits it.
use Rattle.std.specs.Prelude.{ℕ, ◌+◌, ◌^◌, ◌%◌, ◌<◌, ◌≤◌, List, [], ◌∷◌, length}
use Rattle.slot_word.specs.declared.slots.Mark.{Mark}
use Rattle.slot_word.specs.declared.slots.Mark.TheVariants.{Live, Pending}
use Rattle.slot_word.specs.Slots.{slot_word}
use Rattle.kv_block.specs.Packing.{Pair, IsPair, packed}
use Rattle.node_words.specs.declared.geometry.Geometry.{Geometry}
use Rattle.node_words.specs.Addresses.{node_size, node_at, first_table, slot_at}
use Rattle.verb_log.specs.declared.entry.Entry.{Entry}
use Rattle.verb_log.specs.Decoded.{Body}
use Rattle.verb_log.specs.Tables.{Past, word_at}
use Rattle.race_laws.specs.Setting.{Setting, hash, places, print_of, base}
use Rattle.race_laws.specs.Standing.{IsIn}
use Rattle.race_laws.specs.Chains.{Holder}
use Rattle.race_laws.specs.Legal.{Legal}

-- the client takes n words of a node's opening
abbrev pub take_first : Geometry → ℕ → ℕ → ℕ → Entry
take_first g c k n = record { client = c; at = node_at g k; old = base g k; new = base g k + n }

-- and stores these words from an address on
abbrev pub stores : Geometry → ℕ → ℕ → List ℕ → Past → Past
stores g c a [] past = past
stores g c a (w ∷ ws) past = stores g c (a + 1) ws (record { client = c; at = a; old = word_at g past a; new = w } ∷ past)

-- the block of a pair, as its slot names it
abbrev pub first_block : Setting → ℕ → Pair → Body
first_block s k q = record { print = print_of s q.key; length = length (packed q.key q.value); at = base s.geometry k }

-- the slot word of a block
abbrev pub word_of : Mark → Body → ℕ
word_of m b = slot_word (record { mark = m; fp = b.print; len = b.length; at = b.at })

abbrev pub on_slot : ℕ → ℕ → ℕ → ℕ → Entry
on_slot c a old new = record { client = c; at = a; old = old; new = new }

-- the first table in which a key may stand
abbrev pub table_for : Setting → List ℕ → ℕ
table_for s key = first_table s.geometry (hash s key % 2 ^ s.geometry.first_depth)

-- the block is stored
abbrev pub stored : Setting → ℕ → ℕ → Pair → Past
stored s c k q = stores s.geometry c (base s.geometry k) (packed q.key q.value) (take_first s.geometry c k (length (packed q.key q.value)) ∷ [])

-- it is placed in the slot at a place
abbrev pub placed_in : Setting → ℕ → ℕ → Pair → ℕ → Past
placed_in s c k q p = on_slot c (slot_at (table_for s q.key) p) 0 (word_of Pending (first_block s k q)) ∷ stored s c k q

-- and committed
abbrev pub first_insert : Setting → ℕ → ℕ → Pair → ℕ → Past
first_insert s c k q p =
    on_slot c (slot_at (table_for s q.key) p) (word_of Pending (first_block s k q)) (word_of Live (first_block s k q)) ∷ placed_in s c k q p

-- In every geometry, by every client, of every pair whose key has a hash below 2 ^ 64, on a node with room for its block, at
-- each candidate of the key: a first insert is a legal log, and the slot is then the key's holder
abbrev pub InsertIsLegal : Type 0
InsertIsLegal =
    (s : Setting) (c k : ℕ) (q : Pair) (p : ℕ) → k < s.geometry.nodes → IsPair q → hash s q.key < 2 ^ 64 → IsIn p (places s q.key)
    → base s.geometry k + length (packed q.key q.value) ≤ node_at s.geometry k + node_size s.geometry
    → Legal s (first_insert s c k q p) × Holder s (first_insert s c k q p) q.key (table_for s q.key) p (first_block s k q) q
