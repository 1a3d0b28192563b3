-- The insert, as a program, in the order of the sentences of docs/PROTOCOL.md, "The calls". It is made of parts, each from a look
-- on: a part ends where the word is to be committed, where the insert has its answer, or where it starts again.
use Rattle.std.specs.Prelude.{ℕ, zero, suc, ◌+◌, ◌-◌, ◌*◌, ◌%◌, ◌^◌, Bool, true, false, ◌==◌, ◌&&◌, nat_le, if◌then◌else◌, List, [], length, slice_index, slice_set, Option, Some, None}
use Rattle.slot_word.specs.declared.slots.Mark.TheVariants.{Live, Pending}
use Rattle.slot_word.specs.declared.slots.Slot.{Slot}
use Rattle.slot_word.specs.declared.heads.Head.{Head}
use Rattle.slot_word.specs.declared.heads.State.{State}
use Rattle.slot_word.specs.declared.heads.State.TheVariants.{Plain, Splitting, Filling}
use Rattle.slot_word.specs.Slots.{slot_of}
use Rattle.kv_block.specs.Reading.{block_key}
use Rattle.bucket_group.specs.Buckets.{candidates, fingerprint_of}
use Rattle.bucket_group.specs.Choice.{choice}
use Rattle.node_words.specs.declared.geometry.Geometry.{Geometry}
use Rattle.node_words.specs.Addresses.{header_at, slot_at, bucket_header_at}
use Rattle.verb_log.specs.declared.entry.Verb.TheVariants.{Read, Swap}
use Rattle.verb_log.specs.Decoded.{Body}
use Rattle.verbs.specs.Programs.{Prog, ret, ask, do_verb, ask_hash, bind}
use Rattle.log_facts.specs.SlotWords.{marked, plain_of, splitting_of}
use Rattle.pass_text.specs.declared.job.Job.{Job}
use Rattle.pass_text.specs.declared.job.PassMode.TheVariants.{Look, Sweep}
use Rattle.pass_text.specs.declared.passed.Held.{Held as HeldWord}
use Rattle.pass_text.specs.declared.passed.Passed.{Passed}
use Rattle.pass_text.specs.declared.passed.PassEnd.{PassEnd}
use Rattle.pass_text.specs.declared.passed.PassEnd.TheVariants.{Held, Clear, Gone, Spent}
use Rattle.pass_text.specs.Words.{address_of, head_in, is_filling}
use Rattle.pass_text.specs.Pass.{read_words, pass}
use Rattle.block_taking.specs.declared.taking.Area.{Area}
use Rattle.block_taking.specs.declared.taking.Taking.{Taking}
use Rattle.block_taking.specs.declared.taking.TakeOutcome.{TakeOutcome}
use Rattle.block_taking.specs.declared.taking.TakeOutcome.TheVariants.{Taken, NoBlock as NoBlockTaken, Spent as SpentTaking}
use Rattle.block_taking.specs.declared.taking.TakeEnd.{TakeEnd}
use Rattle.block_taking.specs.Text.{take_block, need}
use Rattle.op_insert.specs.declared.end.InsertOutcome.{InsertOutcome}
use Rattle.op_insert.specs.declared.end.InsertOutcome.TheVariants.{Inserted, Exists, NeedRoom, Again, NoBlock}
use Rattle.op_insert.specs.declared.end.InsertEnd.{InsertEnd}

-- what an insert is started with: the key with its hash, the client with the block of the pair, and how many swaps may be lost
pub record Inserting : Type 0 where
  pub job : Job
  pub taking : Taking
  pub tries : ℕ

-- how a part ends
pub data Result : Type 0 where
  -- in the slot at the first address stands the pending word of the block at the second one, and was swept for: it is to be committed
  to_commit : ℕ → ℕ → Result
  exists_with : HeldWord → Result
  -- a counted swap was lost, and one more may be
  start_again : Result
  -- the key has left the table where the block was placed
  left_again : Result
  -- as many swaps were lost as might be
  spent : Result
  no_block : List ℕ → ℕ → Result
  need_room : Passed → Result

-- with the table where its last pass ended, the block that was never placed, the area, and how many more swaps may be lost
pub record Part : Type 0 where
  pub result : Result
  pub table : ℕ
  pub kept : Option ℕ
  pub area : Area
  pub left : ℕ

abbrev pub part_end : Result → ℕ → Option ℕ → Area → ℕ → Prog Part
part_end result table kept area left = ret (record { result = result; table = table; kept = kept; area = area; left = left })

abbrev pub look_of : Inserting → Job
look_of i = record { geometry = i.job.geometry; key = i.job.key; hash = i.job.hash; mode = Look }

abbrev pub sweep_of : Inserting → ℕ → ℕ → Job
sweep_of i own left = record { geometry = i.job.geometry; key = i.job.key; hash = i.job.hash; mode = Sweep own left }

-- the slot words of the block at an address
abbrev pub body_of : Inserting → ℕ → Body
body_of i at = record { print = fingerprint_of i.job.hash; length = need i.taking; at = address_of at }

unfoldable pub pending_word : Inserting → ℕ → ℕ
pending_word i at = marked Pending (body_of i at)

unfoldable pub live_word : Inserting → ℕ → ℕ
live_word i at = marked Live (body_of i at)

-- the candidates of the key
abbrev pub places_of : Inserting → List ℕ
places_of i = candidates i.job.geometry.groups i.job.hash

-- the slot of candidate c in a table
unfoldable pub slot_in : Inserting → ℕ → ℕ → ℕ
slot_in i t c = slot_at t (slice_index (places_of i) c)

abbrev pub choice_of : Inserting → List Bool → Option ℕ
choice_of i free = choice (length (places_of i)) free

-- a counted swap was lost: the insert starts again, or its losses are spent
abbrev pub after_loss : ℕ → Option ℕ → Area → ℕ → Prog Part
after_loss t kept area left = if nat_le left 1 then part_end spent t kept area 0 else part_end start_again t kept area (left - 1)

-- the own pending word is withdrawn, whoever drops it
abbrev pub withdraw : Inserting → ℕ → ℕ → Prog Part → Prog Part
withdraw i own at next = ask (do_verb None (Swap own (pending_word i at) 0)) (λ found. next)

-- 4. The sweep has ended. Held: withdraw, and the key exists. Gone: withdraw, and start again. Spent: withdraw, and answer Again.
abbrev pub on_swept : Inserting → ℕ → ℕ → Area → ℕ → Passed → PassEnd → Prog Part
on_swept i own at area left p (Held h) = withdraw i own at (part_end (exists_with h) p.table None area (left - p.lost))
on_swept i own at area left p Clear = part_end (to_commit own at) p.table None area (left - p.lost)
on_swept i own at area left p Gone = withdraw i own at (part_end left_again p.table None area (left - p.lost))
on_swept i own at area left p Spent = withdraw i own at (part_end spent p.table None area 0)

abbrev pub after_sweep : Inserting → ℕ → ℕ → Area → ℕ → Passed → Prog Part
after_sweep i own at area left p = on_swept i own at area left p p.end

-- 3. Place the block at this address in this slot of the table, and sweep. Where the swap is lost the block is kept.
abbrev pub place_block : Inserting → ℕ → ℕ → ℕ → Area → ℕ → Prog Part
place_block i t own at area left =
    ask (do_verb None (Swap own 0 (pending_word i at)))
    (λ found. if found == 0 then bind (pass (sweep_of i own left) (Some t)) (after_sweep i own at area left) else after_loss t (Some at) area left)

abbrev pub on_taken : Inserting → ℕ → ℕ → TakeEnd → TakeOutcome → Prog Part
on_taken i t own e (Taken at) = place_block i t own at e.area e.left
on_taken i t own e (NoBlockTaken next words) = part_end (no_block next words) t None e.area e.left
on_taken i t own e SpentTaking = part_end spent t None e.area 0

abbrev pub after_taking : Inserting → ℕ → ℕ → TakeEnd → Prog Part
after_taking i t own e = on_taken i t own e e.outcome

-- 3. Take a block, unless this call has one that it never placed.
abbrev pub take_and_place : Inserting → ℕ → ℕ → Option ℕ → Area → ℕ → Prog Part
take_and_place i t own (Some at) area left = place_block i t own at area left
take_and_place i t own None area left = bind (take_block i.taking area left) (after_taking i t own)

-- the word in the same place of the parent: where its block's key has the child's suffix, the candidate is not free
abbrev pub on_parent_slot : Inserting → ℕ → Prog Part → Prog Part → Option Slot → Prog Part
on_parent_slot i e not_free good None = good
on_parent_slot i e not_free good (Some slot) =
    if nat_le slot.len 137
    then read_words slot.at slot.len slot.at [] (λ ws. ask (ask_hash (block_key ws)) (λ other. if other % 2 ^ e == i.job.hash % 2 ^ e then not_free else good))
    else good

abbrev pub on_parent_word : Inserting → ℕ → Prog Part → Prog Part → ℕ → Prog Part
on_parent_word i e not_free good word = if word == 0 then good else on_parent_slot i e not_free good (slot_of word)

-- 2. In a table that fills: read the same place of the parent u; where the candidate is not free, the choice is made again without
-- it. Each time one candidate less is free, so n = 28 choices are enough.
abbrev pub choose_filling : Inserting → Passed → ℕ → ℕ → List Bool → Option ℕ → Option ℕ → Area → ℕ → Prog Part
choose_filling i p u zero free chosen kept area left = part_end (need_room p) p.table kept area left
choose_filling i p u (suc n) free None kept area left = part_end (need_room p) p.table kept area left
choose_filling i p u (suc n) free (Some c) kept area left =
    ask (do_verb None (Read (slot_in i u c)))
    (on_parent_word i p.head.depth (choose_filling i p u n (slice_set free c false) (choice_of i (slice_set free c false)) kept area left) (take_and_place i p.table (slot_in i p.table c) kept area left))

-- 2. The parent's split of depth d is helped: Begin of each of the n bucket headers from number m on, and then Open.
abbrev pub help_from : ℕ → ℕ → Prog Part → ℕ → ℕ → Prog Part
help_from u d next zero m = ask (do_verb None (Swap (header_at u) (plain_of d) (splitting_of d))) (λ found. next)
help_from u d next (suc n) m = ask (do_verb None (Swap (bucket_header_at u m) (plain_of d) (splitting_of d))) (λ found. help_from u d next n (m + 1))

abbrev pub is_plain : State → Bool
is_plain Plain = true
is_plain Splitting = false
is_plain Filling = false

abbrev pub is_plain_at : ℕ → Head → Bool
is_plain_at d head = is_plain head.state && (head.depth == d)

-- .. where the parent's header is (d, plain)
abbrev pub help : Geometry → ℕ → ℕ → Prog Part → Prog Part
help g u d next = ask (do_verb None (Read (header_at u))) (λ word. if is_plain_at d (head_in word) then help_from u d next (2 * g.groups) 0 else next)

-- 2. The parent of a table that fills is asked; where the look searched one table alone, none is.
abbrev pub choose_by_parent : Inserting → Passed → ℕ → Option ℕ → Option ℕ → Area → ℕ → Prog Part
choose_by_parent i p c None kept area left = take_and_place i p.table (slot_in i p.table c) kept area left
choose_by_parent i p c (Some u) kept area left = help i.job.geometry (address_of u) (p.head.depth - 1) (choose_filling i p (address_of u) 28 p.free (choice_of i p.free) kept area left)

-- 1. Where no candidate was read as free, room is needed. 2. Else one is chosen; where the last header was not filling it is taken.
abbrev pub choose_among : Inserting → Passed → Option ℕ → Option ℕ → Area → ℕ → Prog Part
choose_among i p None kept area left = part_end (need_room p) p.table kept area left
choose_among i p (Some c) kept area left = if is_filling p.head.state then choose_by_parent i p c p.parent kept area left else take_and_place i p.table (slot_in i p.table c) kept area left

abbrev pub choose : Inserting → Passed → Option ℕ → Area → ℕ → Prog Part
choose i p kept area left = choose_among i p (choice_of i p.free) kept area left

-- 1. The look has ended. Held: the key exists. A look has no other ends than Held and Clear.
abbrev pub on_looked : Inserting → Option ℕ → Area → ℕ → Passed → PassEnd → Prog Part
on_looked i kept area left p (Held h) = part_end (exists_with h) p.table kept area left
on_looked i kept area left p Clear = choose i p kept area left
on_looked i kept area left p Gone = part_end spent p.table kept area 0
on_looked i kept area left p Spent = part_end spent p.table kept area 0

abbrev pub after_look : Inserting → Option ℕ → Area → ℕ → Passed → Prog Part
after_look i kept area left p = on_looked i kept area left p p.end

-- one part
abbrev pub insert_part : Inserting → Option ℕ → Option ℕ → Area → ℕ → Prog Part
insert_part i start kept area left = bind (pass (look_of i) start) (after_look i kept area left)

-- the insert ends
abbrev pub ended : Inserting → InsertOutcome → Part → Prog InsertEnd
ended i outcome part = ret (record { outcome = outcome; table = part.table; area = part.area; lost = i.tries - part.left })

-- .. as Again, where no swap more may be lost
abbrev pub ends_again : Inserting → Part → Prog InsertEnd
ends_again i part = ret (record { outcome = Again; table = part.table; area = part.area; lost = i.tries })

-- 5. The word found by the Commit: the own one is inserted; else the swap was lost, and the insert starts again with a new block.
abbrev pub after_commit : Inserting → ℕ → ℕ → Part → (Option ℕ → Area → ℕ → Prog InsertEnd) → Prog InsertEnd
after_commit i at found part again =
    if found == pending_word i at then ended i (Inserted at) part
    else if nat_le part.left 1 then ends_again i part else again None part.area (part.left - 1)

-- a part has ended; `again` starts the next one
abbrev pub on_part : Inserting → Part → (Option ℕ → Area → ℕ → Prog InsertEnd) → Result → Prog InsertEnd
on_part i part again (to_commit own at) = ask (do_verb None (Swap own (pending_word i at) (live_word i at))) (λ found. after_commit i at found part again)
on_part i part again (exists_with h) = ended i (Exists h) part
on_part i part again start_again = again part.kept part.area part.left
on_part i part again left_again = again part.kept part.area part.left
on_part i part again spent = ends_again i part
on_part i part again (no_block next words) = ended i (NoBlock next words) part
on_part i part again (need_room p) = ended i (NeedRoom p part.kept) part

abbrev pub table_of : Option ℕ → ℕ
table_of None = 0
table_of (Some t) = t

-- n parts at most, of which a legal log has fewer: none ends as the text does after the last one, with swaps that might still be lost
unfoldable pub insert_from : Inserting → ℕ → Option ℕ → Option ℕ → Area → ℕ → Prog InsertEnd
insert_from i zero start kept area left = ret (record { outcome = Again; table = table_of start; area = area; lost = i.tries - left })
insert_from i (suc n) start kept area left =
    bind (insert_part i start kept area left) (λ part. on_part i part (insert_from i n (Some part.table)) part.result)

-- how many parts there may be: one starts again where a swap is lost, or where the key has left a table
abbrev pub parts_of : Inserting → ℕ
parts_of i = suc (i.tries + (i.job.geometry.max_depth - i.job.geometry.first_depth))

abbrev pub insert : Inserting → Option ℕ → Option ℕ → Area → Prog InsertEnd
insert i start kept area = insert_from i (parts_of i) start kept area i.tries
