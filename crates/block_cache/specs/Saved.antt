-- How many words a cache of so many blocks saves over block readings, and which reads are left to do.
use Rattle.std.specs.Prelude.{◌≡◌, ℕ, ◌+◌, ◌-◌, ◌^◌, ◌≤◌, Bool, true, false, cond, nat_eq, min, List, [], ◌∷◌, ◌++◌, length, take, Some, None}
use Rattle.std.specs.List.{AllByRecursion}
use Rattle.kv_block.specs.Packing.{HasShape}
use Rattle.verb_log.specs.declared.entry.Verb.{Verb}
use Rattle.verb_log.specs.declared.entry.Verb.TheVariants.{Read}
use Rattle.verbs.specs.Programs.{Act, do_verb, ask_hash}
use Rattle.block_cache.specs.declared.recent.KeptBlock.{KeptBlock}
use Rattle.block_cache.specs.Cache.{Cache, went_acts, done_of}

-- block readings in order: of each the block's address, and the words that were read
abbrev pub Readings : Type 0
Readings = List (ℕ × List ℕ)

-- an address is in a list
abbrev pub among : ℕ → List ℕ → Bool
among at [] = false
among at (x ∷ xs) = cond (nat_eq at x) true (among at xs)

-- a list without an address
abbrev pub apart : ℕ → List ℕ → List ℕ
apart at [] = []
apart at (x ∷ xs) = cond (nat_eq at x) xs (x ∷ apart at xs)

-- the list of addresses after a reading: an address of the list goes to its front; another goes to the front, and the list is cut
-- to `blocks` entries
abbrev pub met : ℕ → List ℕ → ℕ → List ℕ
met blocks addresses at = cond (among at addresses) (at ∷ apart at addresses) (take blocks (at ∷ addresses))

-- the list of addresses after these readings
abbrev pub met_over : ℕ → List ℕ → Readings → List ℕ
met_over blocks addresses [] = addresses
met_over blocks addresses (reading ∷ readings) = met_over blocks (met blocks addresses reading.0) readings

-- how many words of a reading are saved: all that it came to where its address is in the list, and else none
abbrev pub saved_at : List ℕ → ℕ × List ℕ → ℕ
saved_at addresses reading = cond (among reading.0 addresses) (length reading.1) 0

-- how many words are saved over these readings, of which the last may be cut short
abbrev pub saved_over : ℕ → List ℕ → Readings → ℕ
saved_over blocks addresses [] = 0
saved_over blocks addresses (reading ∷ readings) = saved_at addresses reading + saved_over blocks (met blocks addresses reading.0) readings

-- the reads of a block's words from place i on, with their answers
abbrev pub reads_of : ℕ → ℕ → List ℕ → List (Verb × ℕ)
reads_of block i [] = []
reads_of block i (word ∷ words) = (Read (block + i), word) ∷ reads_of block (i + 1) words

-- the reads of a reading that are left to do: all where its address is not in the list, and else none
abbrev pub left_at : List ℕ → ℕ × List ℕ → List (Verb × ℕ)
left_at addresses reading = cond (among reading.0 addresses) [] (reads_of reading.0 0 reading.1)

-- the reads that are left to do over these readings
abbrev pub left_over : ℕ → List ℕ → Readings → List (Verb × ℕ)
left_over blocks addresses [] = []
left_over blocks addresses (reading ∷ readings) = left_at addresses reading ++ left_over blocks (met blocks addresses reading.0) readings

-- a reading as acts: its words in order, from place i on
abbrev pub words_read : ℕ → ℕ → List ℕ → List (Act × ℕ)
words_read block i [] = []
words_read block i (word ∷ words) = (do_verb (Some block) (Read (block + i)), word) ∷ words_read block (i + 1) words

-- readings as acts
abbrev pub acts_of : Readings → List (Act × ℕ)
acts_of [] = []
acts_of (reading ∷ readings) = words_read reading.0 0 reading.1 ++ acts_of readings

-- an act with its answer before acts, where it names a block
abbrev pub with_block_act : Act → ℕ → List (Act × ℕ) → List (Act × ℕ)
with_block_act (do_verb None verb) answer acts = acts
with_block_act (do_verb (Some block) verb) answer acts = (do_verb (Some block) verb, answer) ∷ acts
with_block_act (ask_hash key) answer acts = acts

-- the acts among these that name a block
abbrev pub block_acts : List (Act × ℕ) → List (Act × ℕ)
block_acts [] = []
block_acts (x ∷ acts) = with_block_act x.0 x.1 (block_acts acts)

-- the addresses of blocks
abbrev pub addresses : List KeptBlock → List ℕ
addresses [] = []
addresses (held ∷ helds) = held.at ∷ addresses helds

-- a cache may keep a block, counts up to the greatest number of 64 bits, and each block that it keeps has the words that
-- `words_of` names: those that are published at its address
pub record HasWordsOf (words_of : ℕ → List ℕ) (c : Cache) : Type 0 where
  pub some : 1 ≤ c.blocks
  pub few : c.saved ≤ 2 ^ 64 - 1
  pub same : AllByRecursion (λ held. held.words ≡ words_of held.at) c.kept

-- a reading of all words of its block, which have the shape of a block's
abbrev pub IsWhole : (ℕ → List ℕ) → ℕ × List ℕ → Type 0
IsWhole words_of reading = (reading.1 ≡ words_of reading.0) × HasShape reading.1

-- a reading that may be cut short: its words are the first ones of its block
abbrev pub IsBegun : (ℕ → List ℕ) → ℕ × List ℕ → Type 0
IsBegun words_of reading = ((rest : List ℕ) × (reading.1 ++ rest ≡ words_of reading.0)) × HasShape (words_of reading.0)

-- readings of which each but the last is whole
abbrev pub AreReadings : (ℕ → List ℕ) → Readings → Type 0
AreReadings words_of [] = Unit {0}
AreReadings words_of (last ∷ []) = IsBegun words_of last
AreReadings words_of (reading ∷ next ∷ readings) = IsWhole words_of reading × AreReadings words_of (next ∷ readings)

-- after acts whose block acts are these readings, the number of served words has risen by those saved, or is the greatest
abbrev pub CountsSaved : Type 0
CountsSaved =
    (words_of : ℕ → List ℕ) (readings : Readings) (c : Cache) (acts : List (Act × ℕ)) → HasWordsOf words_of c → AreReadings words_of readings → block_acts acts ≡ acts_of readings
    → (went_acts c acts).saved ≡ min (c.saved + saved_over c.blocks (addresses c.kept) readings) (2 ^ 64 - 1)

-- after acts whose block acts are these readings, all whole, the blocks kept are those of the list, in its order
abbrev pub KeepsMet : Type 0
KeepsMet =
    (words_of : ℕ → List ℕ) (readings : Readings) (c : Cache) (acts : List (Act × ℕ)) → HasWordsOf words_of c → AllByRecursion (IsWhole words_of) readings → block_acts acts ≡ acts_of readings
    → addresses (went_acts c acts).kept ≡ met_over c.blocks (addresses c.kept) readings

-- of these readings exactly the reads that are left to do are done as verbs
abbrev pub DoesLeft : Type 0
DoesLeft =
    (words_of : ℕ → List ℕ) (readings : Readings) (c : Cache) → HasWordsOf words_of c → AreReadings words_of readings
    → done_of c (acts_of readings) ≡ left_over c.blocks (addresses c.kept) readings
