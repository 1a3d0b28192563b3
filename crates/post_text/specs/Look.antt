-- The posted look, in the order of the sentences of docs/PROTOCOL.md, "Posted reads": the look of the pass, but for its step 5.
use Rattle.std.specs.Prelude.{ℕ, zero, suc, ◌+◌, Bool, true, false, if◌then◌else◌, ◌==◌, Option, Some, None, List, [], ◌∷◌, map}
use Rattle.verb_log.specs.Decoded.{birth}
use Rattle.slot_word.specs.declared.slots.Mark.{Mark}
use Rattle.slot_word.specs.declared.slots.Mark.TheVariants.{Live, Pending, Copied, Moved}
use Rattle.slot_word.specs.declared.slots.Slot.{Slot}
use Rattle.slot_word.specs.declared.heads.Head.{Head}
use Rattle.slot_word.specs.Slots.{slot_of}
use Rattle.kv_block.specs.Reading.{has_key, block_value}
use Rattle.node_words.specs.Addresses.{header_at, birth_at, child_at, slot_at}
use Rattle.bucket_group.specs.Buckets.{candidates}
use Rattle.pass_text.specs.declared.job.Job.{Job}
use Rattle.pass_text.specs.declared.job.Opened.{Opened}
use Rattle.pass_text.specs.declared.passed.PassEnd.TheVariants.{Clear}
use Rattle.pass_text.specs.declared.passed.Passed.{Passed}
use Rattle.pass_text.specs.Words.{address_of, head_in, is_filling, directory_word, is_first, candidate_at, key_header_at, concerns, level_left}
use Rattle.pass_text.specs.Pass.{Seen, first_seen, below, freed, noted, with_head, passed, held, answers, is_moved}
use Rattle.post_text.specs.Posts.{Posts, ends, post, post_one, range}

-- the addresses of the candidates in a table, in order
unfoldable pub candidates_in : Job → ℕ → List ℕ
candidates_in j table = map (slot_at table) (candidates j.geometry.groups j.hash)

-- whether a word is taken: a live one, and a copy that answers
abbrev pub takes : Seen → ℕ → Slot → Mark → Bool
takes s i slot Live = true
takes s i slot Pending = false
takes s i slot Copied = answers s i slot
takes s i slot Moved = false

-- the words of its block are there: with an equal key the look ends as Held
abbrev pub after_block : Job → ℕ → Seen → ℕ → List ℕ → (Seen → Posts Passed) → Posts Passed
after_block j i s word ws next = if has_key ws j.key then ends (passed j s (held (candidate_at j s.table i) word (block_value ws))) else next s

-- a word that is not 0: where it is taken, the words of its block are posted together; of a moved word it is remembered
abbrev pub judge_slot : Job → ℕ → Seen → ℕ → Option Slot → (Seen → Posts Passed) → Posts Passed
judge_slot j i s word None next = next s
judge_slot j i s word (Some slot) next =
    if concerns j slot
    then (if takes s i slot slot.mark then post (Some slot.at) (range slot.at slot.len) (λ ws. after_block j i s word ws next)
    else if is_moved slot.mark then next (noted s i word)
    else next s)
    else next s

-- judging the word of candidate i
abbrev pub judge : Job → ℕ → Seen → ℕ → (Seen → Posts Passed) → Posts Passed
judge j i s word next = if word == 0 then next (freed s i) else judge_slot j i s word (slot_of word) next

-- .. and of each candidate in order, from number i on
abbrev pub judge_all : Job → List ℕ → ℕ → Seen → (Seen → Posts Passed) → Posts Passed
judge_all j [] i s next = next s
judge_all j (word ∷ ws) i s next = judge j i s word (λ r. judge_all j ws (i + 1) r next)

-- 5. The candidate words are posted together, and judged when all are there.
abbrev pub scan : Job → Seen → (Seen → Posts Passed) → Posts Passed
scan j s next = post None (candidates_in j s.table) (λ ws. judge_all j ws 0 s next)

-- 6., 7. By the key's header the key stays, and the look ends; or the child word of the level is read, and the search goes on
-- in that table.
abbrev pub after_head : Job → Seen → (Seen → Posts Passed) → Option ℕ → Posts Passed
after_head j s next None = ends (passed j s Clear)
after_head j s next (Some level) = post_one (child_at s.table level) (λ child. next (below s child level))

unfoldable pub head_read : Job → (Seen → Posts Passed) → Seen → Head → Posts Passed
head_read j next s head = after_head j (with_head s head) next (level_left j.hash s.birth_depth head)

-- 6. Read the key's header.
abbrev pub last : Job → (Seen → Posts Passed) → Seen → Posts Passed
last j next s = post_one (key_header_at j s.table) (λ w. head_read j next s (head_in w))

-- the search in a table, and in n tables at most that follow
unfoldable pub search : Job → ℕ → Seen → Posts Passed
search j zero s = scan j s (last j (λ r. ends (passed j r Clear)))
search j (suc n) s = scan j s (last j (search j n))

-- the search in the n tables at most that follow
abbrev pub follow : Job → ℕ → Seen → Posts Passed
follow j zero s = ends (passed j s Clear)
follow j (suc n) s = search j n s

-- 4. Where the table to be searched is no first table by its address: read its birth.
abbrev pub begin : Job → Opened → ℕ → Posts Passed
begin j o table =
    if is_first j table then search j j.geometry.max_depth (first_seen o table j.geometry.first_depth)
    else post_one (birth_at table) (λ w. search j j.geometry.max_depth (first_seen o table (birth w).depth))

-- 3. Where the table is filling by its header: read its birth, and go to its parent.
abbrev pub on_header : Job → ℕ → Head → Posts Passed
on_header j table head =
    if is_filling head.state then post_one (birth_at table) (λ w. begin j (record { table = table; head = head }) (birth w).parent)
    else begin j (record { table = table; head = head }) table

-- 2. Read the header of the table.
abbrev pub at_table : Job → ℕ → Posts Passed
at_table j table = post_one (header_at table) (λ w. on_header j table (head_in w))

-- 1. Take the cached table, or read the global depth and then the directory word of the hash.
abbrev pub posted_look : Job → Option ℕ → Posts Passed
posted_look j (Some table) = at_table j (address_of table)
posted_look j None = post_one 1 (λ depth. post_one (directory_word j depth) (λ table. at_table j (address_of table)))
