-- The pass, as a program, in the order of the sentences of docs/PROTOCOL.md, "The pass". Each read of a block's word names
-- the block.
use Rattle.std.specs.Prelude.{ℕ, ◌+◌, ◌-◌, zero, suc, Bool, true, false, if◌then◌else◌, ◌==◌, Option, Some, None, List, [], ◌∷◌, ◌++◌, slice_set, slice_index, replicate}
use Rattle.verb_log.specs.declared.entry.Verb.TheVariants.{Read, Swap}
use Rattle.verb_log.specs.Decoded.{birth}
use Rattle.verbs.specs.Programs.{Prog, ret, ask, do_verb}
use Rattle.slot_word.specs.declared.slots.Mark.{Mark}
use Rattle.slot_word.specs.declared.slots.Mark.TheVariants.{Live, Pending, Copied, Moved}
use Rattle.slot_word.specs.declared.slots.Slot.{Slot}
use Rattle.slot_word.specs.declared.heads.Head.{Head}
use Rattle.slot_word.specs.Slots.{slot_of}
use Rattle.kv_block.specs.Reading.{has_key, block_value}
use Rattle.node_words.specs.Addresses.{header_at, birth_at, child_at}
use Rattle.bucket_group.specs.Buckets.{candidates}
use Rattle.pass_text.specs.declared.job.Job.{Job}
use Rattle.pass_text.specs.declared.job.Opened.{Opened}
use Rattle.pass_text.specs.declared.passed.PassEnd.{PassEnd}
use Rattle.pass_text.specs.declared.passed.PassEnd.TheVariants.{Held, Clear, Gone, Spent}
use Rattle.pass_text.specs.declared.passed.Passed.{Passed}
use Rattle.pass_text.specs.Words.{address_of, head_in, is_filling, directory_word, is_first, candidate_at, key_header_at, count, is_own, has_own, is_sweep, left_in, concerns, moved_form, level_left}

-- What was seen so far: the header with which the pass opened; the table that is searched, its birth depth and the table
-- searched before it; the header read last; of the candidates of this table those read as 0, and by their numbers the
-- moved words read; the moved words read in the table before; and how many drops were lost.
pub record Seen : Type 0 where
  pub opened : Opened
  pub table : ℕ
  pub birth_depth : ℕ
  pub parent : Option ℕ
  pub head : Head
  pub free : List Bool
  pub moved : List ℕ
  pub prior : List ℕ
  pub lost : ℕ

-- in the table where the search begins nothing was read
abbrev pub first_seen : Opened → ℕ → ℕ → Seen
first_seen opened table birth_depth = record {
  opened = opened;
  table = table;
  birth_depth = birth_depth;
  parent = None;
  head = opened.head;
  free = replicate 28 false;
  moved = replicate 28 0;
  prior = replicate 28 0;
  lost = 0;
}

-- .. nor in a table that is reached through a child word of this level; its birth depth is the level plus 1
abbrev pub below : Seen → ℕ → ℕ → Seen
below s child level = record {
  opened = s.opened;
  table = address_of child;
  birth_depth = level + 1;
  parent = Some s.table;
  head = s.head;
  free = replicate 28 false;
  moved = replicate 28 0;
  prior = s.moved;
  lost = s.lost;
}

-- candidate i was read as 0
abbrev pub freed : Seen → ℕ → Seen
freed s i = record s { free = slice_set s.free i true }

-- the word of candidate i is moved
abbrev pub noted : Seen → ℕ → ℕ → Seen
noted s i word = record s { moved = slice_set s.moved i word }

-- a drop was lost
abbrev pub after_lost : Seen → Seen
after_lost s = record s { lost = s.lost + 1 }

-- the key's header was read
abbrev pub with_head : Seen → Head → Seen
with_head s head = record s { head = head }

-- the header with which the pass opened, where it is this table's
abbrev pub opened_at : Opened → ℕ → Option Head
opened_at opened table = if opened.table == table then Some opened.head else None

-- what a pass tells that has ended
abbrev pub passed : Job → Seen → PassEnd → Passed
passed j s end = record {
  end = end;
  table = s.table;
  head = s.head;
  opened = opened_at s.opened s.table;
  parent = s.parent;
  free = s.free;
  places = candidates j.geometry.groups j.hash;
  lost = s.lost;
}

-- the word in the slot at this address holds the key, with this value
abbrev pub held : ℕ → ℕ → List ℕ → PassEnd
held at word value = Held (record { at = at; word = word; value = value })

-- Judging a word of candidate i. `next` goes on with the next candidate; `again` judges the word that a lost drop found.

-- a copy answers where at the same place of the table before the moved word of the same block was read
abbrev pub answers : Seen → ℕ → Slot → Bool
answers s i slot = slice_index s.prior i == moved_form slot

-- whether the word's block is read: of a live word, of a copy that answers, and in a sweep of a pending word
abbrev pub wants : Job → Seen → ℕ → Slot → Mark → Bool
wants j s i slot Live = true
wants j s i slot Pending = is_sweep j.mode
wants j s i slot Copied = answers s i slot
wants j s i slot Moved = false

abbrev pub is_moved : Mark → Bool
is_moved Live = false
is_moved Pending = false
is_moved Copied = false
is_moved Moved = true

-- reads n words of a block in order, those from `at` on, after those read before
abbrev pub read_words : {A : Type 0} → ℕ → ℕ → ℕ → List ℕ → (List ℕ → Prog A) → Prog A
read_words block zero at ws go_on = go_on ws
read_words block (suc n) at ws go_on = ask (do_verb (Some block) (Read at)) (λ w. read_words block n (at + 1) (ws ++ w ∷ []) go_on)

-- a pending word of the key is swapped to 0
abbrev pub drop_word : Job → ℕ → Seen → ℕ → (Seen → Prog Passed) → (Seen → ℕ → Prog Passed) → Prog Passed
drop_word j i s word next again =
    ask (do_verb None (Swap (candidate_at j s.table i) word 0)) (λ found. if found == word then next s else again (after_lost s) found)

-- the word is of the key, with this value: a pending one is dropped, else the pass ends
abbrev pub key_found : Job → ℕ → Seen → ℕ → Mark → List ℕ → (Seen → Prog Passed) → (Seen → ℕ → Prog Passed) → Prog Passed
key_found j i s word Live value next again = ret (passed j s (held (candidate_at j s.table i) word value))
key_found j i s word Pending value next again = drop_word j i s word next again
key_found j i s word Copied value next again = ret (passed j s (held (candidate_at j s.table i) word value))
key_found j i s word Moved value next again = ret (passed j s (held (candidate_at j s.table i) word value))

-- the words of its block were read
abbrev pub after_block : Job → ℕ → Seen → ℕ → Mark → List ℕ → (Seen → Prog Passed) → (Seen → ℕ → Prog Passed) → Prog Passed
after_block j i s word mark ws next again = if has_key ws j.key then key_found j i s word mark (block_value ws) next again else next s

-- a word that is not 0: of another fingerprint nothing is done, of a moved word it is remembered
abbrev pub judge_slot : Job → ℕ → Seen → ℕ → Option Slot → (Seen → Prog Passed) → (Seen → ℕ → Prog Passed) → Prog Passed
judge_slot j i s word None next again = next s
judge_slot j i s word (Some slot) next again =
    if concerns j slot
    then (if wants j s i slot slot.mark then read_words slot.at slot.len slot.at [] (λ ws. after_block j i s word slot.mark ws next again)
    else if is_moved slot.mark then next (noted s i word)
    else next s)
    else next s

abbrev pub judge_once : Job → ℕ → Seen → ℕ → (Seen → Prog Passed) → (Seen → ℕ → Prog Passed) → Prog Passed
judge_once j i s word next again = if word == 0 then next (freed s i) else judge_slot j i s word (slot_of word) next again

-- .. and so is each word that a lost drop found, while n more may be lost before the one with which the pass ends
abbrev pub judge : Job → ℕ → ℕ → Seen → ℕ → (Seen → Prog Passed) → Prog Passed
judge j zero i s word next = judge_once j i s word next (λ r found. ret (passed j r Spent))
judge j (suc n) i s word next = judge_once j i s word next (λ r found. judge j n i r found next)

-- how many drops may be lost before the one with which the pass ends
abbrev pub spare : Job → Seen → ℕ
spare j s = left_in j.mode - (s.lost + 1)

-- 5. For each of n candidates, from number i on: read the slot and judge the word. A sweep leaves out its own slot.
abbrev pub scan : Job → ℕ → ℕ → Seen → (Seen → Prog Passed) → Prog Passed
scan j zero i s next = next s
scan j (suc n) i s next =
    if is_own j (candidate_at j s.table i)
    then scan j n (i + 1) s next
    else ask (do_verb None (Read (candidate_at j s.table i))) (λ word. judge j (spare j s) i s word (λ r. scan j n (i + 1) r next))

-- 6., 7. By the key's header the key stays, and the pass ends; or it is leaving or has left at a level. At the table of its
-- own slot a sweep then ends as Gone; else the child word of that level is read, and the search goes on in that table.
abbrev pub after_head : Job → Seen → (Seen → Prog Passed) → Option ℕ → Prog Passed
after_head j s next None = ret (passed j s Clear)
after_head j s next (Some level) =
    if has_own j s.table then ret (passed j s Gone)
    else ask (do_verb None (Read (child_at s.table level))) (λ child. next (below s child level))

unfoldable pub head_read : Job → (Seen → Prog Passed) → Seen → Head → Prog Passed
head_read j next s head = after_head j (with_head s head) next (level_left j.hash s.birth_depth head)

-- 6. Read the key's header.
abbrev pub last : Job → (Seen → Prog Passed) → Seen → Prog Passed
last j next s = ask (do_verb None (Read (key_header_at j s.table))) (λ w. head_read j next s (head_in w))

-- the search in a table, and in n tables at most that follow: one for each level, so that no more follow on a legal log
unfoldable pub search : Job → ℕ → Seen → Prog Passed
search j zero s = scan j (count j) 0 s (last j (λ r. ret (passed j r Clear)))
search j (suc n) s = scan j (count j) 0 s (last j (search j n))

-- the search in the n tables at most that follow
abbrev pub follow : Job → ℕ → Seen → Prog Passed
follow j zero s = ret (passed j s Clear)
follow j (suc n) s = search j n s

-- 4. Where the table to be searched is no first table by its address: read its birth.
abbrev pub begin : Job → Opened → ℕ → Prog Passed
begin j o table =
    if is_first j table then search j j.geometry.max_depth (first_seen o table j.geometry.first_depth)
    else ask (do_verb None (Read (birth_at table))) (λ w. search j j.geometry.max_depth (first_seen o table (birth w).depth))

-- 3. Where the table is filling by its header: read its birth, and go to its parent.
abbrev pub on_header : Job → ℕ → Head → Prog Passed
on_header j table head =
    if is_filling head.state then ask (do_verb None (Read (birth_at table))) (λ w. begin j (record { table = table; head = head }) (birth w).parent)
    else begin j (record { table = table; head = head }) table

-- 2. Read the header of the table.
abbrev pub at_table : Job → ℕ → Prog Passed
at_table j table = ask (do_verb None (Read (header_at table))) (λ w. on_header j table (head_in w))

-- 1. Take the cached table, or read the global depth and then the directory word of the hash.
abbrev pub pass : Job → Option ℕ → Prog Passed
pass j (Some table) = at_table j (address_of table)
pass j None = ask (do_verb None (Read 1)) (λ depth. ask (do_verb None (Read (directory_word j depth))) (λ table. at_table j (address_of table)))
