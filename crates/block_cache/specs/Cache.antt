-- What a clause sees of a block cache, and what each act of a client makes of it.
use Rattle.std.specs.Prelude.{ℕ, ◌+◌, ◌-◌, ◌^◌, ◌<◌, ◌≤◌, Bool, false, true, cond, ◌&&◌, nat_eq, nat_lt, min, List, [], ◌∷◌, ◌++◌, length, take, Option, Some, None, is_some}
use Rattle.kv_block.specs.Packing.{block_length}
use Rattle.verb_log.specs.declared.entry.Verb.{Verb}
use Rattle.verb_log.specs.declared.entry.Verb.TheVariants.{Read, Write, Swap}
use Rattle.verbs.specs.Programs.{Act, do_verb, ask_hash}
use Rattle.block_cache.specs.declared.recent.KeptBlock.{KeptBlock}
use Rattle.block_cache.specs.declared.reading.Reading.{Reading}
use Rattle.block_cache.specs.declared.reading.Reading.TheVariants.{Idle, Serving, Taking}
use Rattle.block_cache.specs.Recent.{first, found, to_front}

-- a block cache: the blocks that it keeps, the most recent first, how many it may keep, the block reading that is under way, and
-- how many words it has served, up to the greatest number that this can be
pub record Cache : Type 0 where
  pub kept : List KeptBlock
  pub blocks : ℕ
  pub reading : Reading
  pub saved : ℕ

-- the most recent block has a word at this place
abbrev pub HasWord : ℕ → List KeptBlock → Type 0
HasWord i [] = ⊥
HasWord i (held ∷ helds) = i < length held.words

-- the reading under way can go on: the word to serve next is one of the most recent block, and a block that is taken has had
-- a word and lacks one
abbrev pub CanGoOn : Reading → List KeptBlock → Type 0
CanGoOn Idle helds = Unit {0}
CanGoOn (Serving next) helds = HasWord next helds
CanGoOn (Taking held total) helds = (1 ≤ length held.words) × (length held.words < total) × (total ≤ 137)

-- the reading under way once the word at place i of a block was served: the next word is to be served, if there is one
abbrev pub after_word : ℕ → Option KeptBlock → Reading
after_word i None = Idle
after_word i (Some held) = cond (nat_lt (i + 1) (length held.words)) (Serving (i + 1)) Idle

-- the cache once it has served the word at place i of its most recent block
abbrev pub served : Cache → ℕ → Cache
served c i = record { kept = c.kept; blocks = c.blocks; reading = after_word i (first c.kept); saved = min (c.saved + 1) (2 ^ 64 - 1) }

-- the cache once the first word of a block that it does not keep was read; the word tells how many there are
abbrev pub begun : Cache → ℕ → ℕ → Cache
begun c block word = record { kept = c.kept; blocks = c.blocks; reading = Taking (record { at = block; words = word ∷ [] }) (block_length word); saved = c.saved }

-- the cache once these words of a block of so many words were read: after the last the block is kept, in the place of the least
-- recent one where there is no other
abbrev pub taken : Cache → KeptBlock → ℕ → Cache
taken c held total =
    cond (nat_eq (length held.words) total)
    (record { kept = held ∷ take (c.blocks - 1) c.kept; blocks = c.blocks; reading = Idle; saved = c.saved })
    (record { kept = c.kept; blocks = c.blocks; reading = Taking held total; saved = c.saved })

-- the place of the word to serve, where this is the next word of the most recent block
abbrev pub next_if : Bool → ℕ → Option ℕ
next_if true next = Some next
next_if false next = None

abbrev pub next_of : Option KeptBlock → ℕ → ℕ → ℕ → Option ℕ
next_of None next block at = None
next_of (Some held) next block at = next_if (nat_eq held.at block && nat_eq at (block + next)) next

abbrev pub next_in : Reading → List KeptBlock → ℕ → ℕ → Option ℕ
next_in Idle helds block at = None
next_in (Serving next) helds block at = next_of (first helds) next block at
next_in (Taking held total) helds block at = None

-- a block with one word more
abbrev pub with_word : KeptBlock → ℕ → KeptBlock
with_word held word = record { at = held.at; words = held.words ++ word ∷ [] }

-- the cache once a word was read at an address of a block: it is taken exactly where it is the next word of the block under way
abbrev pub taken_by : Cache → Reading → ℕ → ℕ → ℕ → Cache
taken_by c Idle block at word = c
taken_by c (Serving next) block at word = c
taken_by c (Taking held total) block at word = cond (nat_eq held.at block && nat_eq at (block + length held.words)) (taken c (with_word held word) total) c

-- the cache after a further word of a block, which was served from this place, or read
abbrev pub further : Cache → ℕ → ℕ → ℕ → Option ℕ → Cache
further c block at word (Some next) = served c next
further c block at word None = taken_by c c.reading block at word

-- the cache with nothing under way, and the block at this address as the most recent, where it is kept
abbrev pub fronted : Cache → ℕ → Cache
fronted c block = record { kept = to_front block c.kept; blocks = c.blocks; reading = Idle; saved = c.saved }

-- the cache after a read of a word of a block: at the first word the block is looked for
abbrev pub went_read : Cache → ℕ → ℕ → ℕ → Cache
went_read c block at word =
    cond (nat_eq at block)
    (cond (is_some (found block c.kept)) (served (fronted c block) 0) (begun (fronted c block) block word))
    (further c block at word (next_in c.reading c.kept block at))

-- the cache after a verb and its answer; only a read of a block's word changes it
abbrev pub went : Cache → Option ℕ → Verb → ℕ → Cache
went c None verb word = c
went c (Some block) (Read at) word = went_read c block at word
went c (Some block) (Write at new) word = c
went c (Some block) (Swap at old new) word = c

-- a word of a block is served: the first where the block is kept, a further one where the block is being served
abbrev pub serves_read : Cache → ℕ → ℕ → Bool
serves_read c block at = cond (nat_eq at block) (is_some (found block c.kept)) (is_some (next_in c.reading c.kept block at))

-- a verb is served, and not done
abbrev pub serves : Cache → Option ℕ → Verb → Bool
serves c None verb = false
serves c (Some block) (Read at) = serves_read c block at
serves c (Some block) (Write at new) = false
serves c (Some block) (Swap at old new) = false

-- the cache after an act of a program and its answer
abbrev pub went_act : Cache → Act → ℕ → Cache
went_act c (do_verb block verb) answer = went c block verb answer
went_act c (ask_hash key) answer = c

-- the cache after acts with their answers
abbrev pub went_acts : Cache → List (Act × ℕ) → Cache
went_acts c [] = c
went_acts c (x ∷ acts) = went_acts (went_act c x.0 x.1) acts

-- the verb of an act with its answer, unless it is served
abbrev pub done_by : Cache → Act → ℕ → List (Verb × ℕ)
done_by c (do_verb block verb) answer = cond (serves c block verb) [] ((verb, answer) ∷ [])
done_by c (ask_hash key) answer = []

-- the verbs of acts with their answers that are not served: what the node is asked to do
abbrev pub done_of : Cache → List (Act × ℕ) → List (Verb × ℕ)
done_of c [] = []
done_of c (x ∷ acts) = done_by c x.0 x.1 ++ done_of (went_act c x.0 x.1) acts
