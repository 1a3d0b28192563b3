-- One place of the table, as a program: step 6 of docs/PROTOCOL.md, "The split", up to Settle. `move` reads the word and judges it,
-- `judge` judges a word that was read or found, `turn` is one judging up to a lost swap that is counted.
use Rattle.std.specs.Prelude.{ℕ, zero, suc, ◌+◌, ◌-◌, ◌%◌, ◌^◌, ◌==◌, nat_le, if◌then◌else◌, [], Option, Some, None}
use Rattle.node_words.specs.Addresses.{slot_at}
use Rattle.slot_word.specs.declared.slots.Mark.{Mark}
use Rattle.slot_word.specs.declared.slots.Mark.TheVariants.{Live, Pending, Copied, Moved}
use Rattle.slot_word.specs.declared.slots.Slot.{Slot}
use Rattle.slot_word.specs.Slots.{slot_of}
use Rattle.kv_block.specs.Reading.{block_key}
use Rattle.verb_log.specs.declared.entry.Verb.TheVariants.{Read, Swap}
use Rattle.verbs.specs.Programs.{Prog, ret, ask, do_verb, ask_hash}
use Rattle.pass_text.specs.Pass.{read_words}
use Rattle.split_text.specs.declared.site.Site.{Site}
use Rattle.split_text.specs.declared.moved.MoveOutcome.{MoveOutcome}
use Rattle.split_text.specs.declared.moved.MoveOutcome.TheVariants.{Done, Moved as MovedOn, Spent}
use Rattle.split_text.specs.declared.moved.MoveEnd.{MoveEnd}
use Rattle.split_text.specs.Words.{marked}
use Rattle.split_text.specs.Begin.{sure}

abbrev pub left_so : MoveOutcome → ℕ → ℕ → ℕ → Prog MoveEnd
left_so outcome word standing left = ret (record { outcome = outcome; word = word; standing = standing; left = left })

-- a key with this hash leaves for the child
abbrev pub is_leaving : Site → ℕ → Prog MoveEnd → Prog MoveEnd → Prog MoveEnd
is_leaving site hash leaving staying = if hash % 2 ^ (site.depth + 1) == site.suffix then leaving else staying

-- the key of the slot's block leaves, by its hash; a block has no more than 137 words
abbrev pub if_leaving : Site → Slot → Prog MoveEnd → Prog MoveEnd → Prog MoveEnd
if_leaving site slot leaving staying =
    if nat_le slot.len 137
    then read_words slot.at slot.len slot.at [] (λ ws. ask (ask_hash (block_key ws)) (λ hash. is_leaving site hash leaving staying))
    else staying

-- Judging a word of place p, beside the copy word that stands in the child, 0 where none does, while `left` swaps may be lost. `lost`
-- goes on with the word that a lost swap found, beside the copy that stands then.
module _ (site : Site) (p left : ℕ) where
  -- the copy that stands is taken away
  abbrev pub uncopy : ℕ → Prog MoveEnd → Prog MoveEnd
  uncopy standing go_on = if standing == 0 then go_on else sure (slot_at site.child p) standing 0 go_on

  -- Drop
  abbrev pub drop_word : ℕ → (ℕ → ℕ → Prog MoveEnd) → Prog MoveEnd
  drop_word word lost = ask (do_verb None (Swap (slot_at site.table p) word 0)) (λ found. if found == word then left_so Done word 0 left else lost found 0)

  -- Settle, whoever settles it
  abbrev pub settle : Slot → Prog MoveEnd
  settle slot = ask (do_verb None (Swap (slot_at site.child p) (marked Copied slot) (marked Live slot))) (λ found. left_so MovedOn (marked Moved slot) 0 left)

  -- Flip
  abbrev pub flip : ℕ → Slot → (ℕ → ℕ → Prog MoveEnd) → Prog MoveEnd
  flip word slot lost =
      ask (do_verb None (Swap (slot_at site.table p) word (marked Moved slot))) (λ found. if found == word then settle slot else lost found (marked Copied slot))

  -- Copy; `again` reads the slot once more
  abbrev pub copy : ℕ → ℕ → Slot → Prog MoveEnd → (ℕ → ℕ → Prog MoveEnd) → Prog MoveEnd
  copy word standing slot again lost =
      ask (do_verb None (Swap (slot_at site.child p) standing (marked Copied slot))) (λ found. if found == standing then flip word slot lost else again)

  -- the place is done where the word is of a key that stays
  abbrev pub stay : ℕ → ℕ → Prog MoveEnd
  stay word standing = uncopy standing (left_so Done word 0 left)

  -- a copied or moved word, which no legal log has here, is passed over
  abbrev pub judge_mark : ℕ → ℕ → Slot → Mark → Prog MoveEnd → (ℕ → ℕ → Prog MoveEnd) → Prog MoveEnd
  judge_mark word standing slot Live again lost = if_leaving site slot (copy word standing slot again lost) (stay word standing)
  judge_mark word standing slot Pending again lost = if_leaving site slot (uncopy standing (drop_word word lost)) (stay word standing)
  judge_mark word standing slot Copied again lost = stay word standing
  judge_mark word standing slot Moved again lost = stay word standing

  abbrev pub judge_slot : ℕ → ℕ → Option Slot → Prog MoveEnd → (ℕ → ℕ → Prog MoveEnd) → Prog MoveEnd
  judge_slot word standing None again lost = stay word standing
  judge_slot word standing (Some slot) again lost = judge_mark word standing slot slot.mark again lost

  abbrev pub judge_word : ℕ → ℕ → Prog MoveEnd → (ℕ → ℕ → Prog MoveEnd) → Prog MoveEnd
  judge_word word standing again lost = judge_slot word standing (slot_of word) again lost

  -- the slot is read again where a Copy was lost; where it is lost again, which no legal log has, the place is passed over
  abbrev pub read_again : (ℕ → ℕ → Prog MoveEnd) → Prog MoveEnd
  read_again lost = ask (do_verb None (Read (slot_at site.table p))) (λ word. judge_word word 0 (left_so Done word 0 left) lost)

  abbrev pub turn : ℕ → ℕ → (ℕ → ℕ → Prog MoveEnd) → Prog MoveEnd
  turn word standing lost = judge_word word standing (read_again lost) lost

-- .. and so is each word that a lost Drop or Flip found, while n swaps may be lost before the one with which it ends
abbrev pub judge : Site → ℕ → ℕ → ℕ → ℕ → Prog MoveEnd
judge site p zero word standing = turn site p 1 word standing (λ found standing2. left_so Spent found standing2 0)
judge site p (suc n) word standing = turn site p (suc (suc n)) word standing (λ found standing2. judge site p n found standing2)

-- the place is judged by the word read, while `left` swaps may be lost
abbrev pub move : Site → ℕ → ℕ → ℕ → Prog MoveEnd
move site p standing left = ask (do_verb None (Read (slot_at site.table p))) (λ word. judge site p (left - 1) word standing)
