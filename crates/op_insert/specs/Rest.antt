-- What is left of an insert.
use Rattle.std.specs.Prelude.{◌≡◌, ℕ, suc, ◌-◌, ◌%◌, ◌^◌, ◌==◌, if◌then◌else◌, Bool, true, false, List, take, slice_set, Some, None}
use Rattle.verb_log.specs.declared.entry.Verb.TheVariants.{Read}
use Rattle.verbs.specs.Programs.{Prog, ret, ask, do_verb, ask_hash, bind}
use Rattle.kv_block.specs.Reading.{block_key}
use Rattle.pass_text.specs.declared.passed.Passed.{Passed}
use Rattle.pass_text.specs.declared.passed.PassEnd.TheVariants.{Clear}
use Rattle.pass_text.specs.Pass.{passed, read_words}
use Rattle.scan_pass.specs.declared.pass.Pass.{Pass}
use Rattle.scan_pass.specs.Seen.{seen}
use Rattle.scan_pass.specs.Rest.{pass_rest}
use Rattle.scan_pass.specs.Ends.{held_of}
use Rattle.block_taking.specs.declared.taking.Area.{Area}
use Rattle.block_taking.specs.Text.{need}
use Rattle.block_taking.specs.Rest.{take_rest}
use Rattle.op_insert.specs.declared.end.InsertEnd.{InsertEnd}
use Rattle.op_insert.specs.declared.end.InsertOutcome.TheVariants.{Inserted as InsertedEnd, Again as AgainEnd}
use Rattle.work_area.specs.declared.work.Work.{Work}
use Rattle.op_insert.specs.declared.at.At.{At}
use Rattle.op_insert.specs.declared.at.At.TheVariants.{Look, ParentHeader, Begin, Open, ParentSlot, ParentBlock, ParentHash, Take, Place, Sweep, WithdrawHeld, WithdrawGone, WithdrawSpent, Commit, Lost, Left, Inserted, Exists, NeedRoom, Again, NoBlock, Out}
use Rattle.work_area.specs.ParentWords.{words_of}
use Rattle.op_insert.specs.Text.{Inserting, Part, to_commit, exists_with, start_again, left_again, spent, no_block, need_room, part_end, choice_of, slot_in, after_look, after_sweep, after_taking, withdraw, place_block, take_and_place, on_parent_word, choose_filling, help_from, help, on_part, insert_from}

-- what the insert was started with
abbrev pub inserting : Work → Inserting
inserting w = record { job = w.job; taking = w.take.taking; tries = w.numbers.tries }

-- the area as it is left
abbrev pub area : Work → Area
area w = w.take.progress.area

-- what the look told that has ended as Clear
abbrev pub clear_of : Pass → Passed
clear_of p = passed p.task.job (seen p.scan) Clear

-- the chosen candidate is taken, or the choice is made again without it
abbrev pub good : Work → Prog Part
good w = take_and_place (inserting w) w.pass.scan.table (slot_in (inserting w) w.pass.scan.table w.numbers.index) w.numbers.kept (area w) w.numbers.left

abbrev pub choices : Work → ℕ → List Bool → Prog Part
choices w n free = choose_filling (inserting w) (clear_of w.pass) w.numbers.parent n free (choice_of (inserting w) free) w.numbers.kept (area w) w.numbers.left

abbrev pub not_free : Work → Prog Part
not_free w = choices w w.numbers.more (slice_set w.numbers.free w.numbers.index false)

-- the first choice, after the help
abbrev pub chooses : Work → Prog Part
chooses w = choices w 28 w.pass.scan.free

-- the hash of the key in the parent's place is known
abbrev pub on_hash : Work → ℕ → Prog Part
on_hash w other = if other % 2 ^ w.pass.scan.head.depth == w.job.hash % 2 ^ w.pass.scan.head.depth then not_free w else good w

abbrev pub after_words : Work → List ℕ → Prog Part
after_words w ws = ask (ask_hash (block_key ws)) (on_hash w)

-- the depth of the parent's split
abbrev pub split_depth : Work → ℕ
split_depth w = w.pass.scan.head.depth - 1

-- what is left of the part, by where the insert stands
abbrev pub part_rest : Work → At → Prog Part
part_rest w Look = bind (pass_rest w.pass) (after_look (inserting w) w.numbers.kept (area w) w.numbers.left)
part_rest w ParentHeader = help w.job.geometry w.numbers.parent (split_depth w) (chooses w)
part_rest w Begin = help_from w.numbers.parent (split_depth w) (chooses w) (suc w.numbers.after) w.numbers.bucket
part_rest w Open = help_from w.numbers.parent (split_depth w) (chooses w) 0 0
part_rest w ParentSlot = ask (do_verb None (Read (slot_in (inserting w) w.numbers.parent w.numbers.index))) (on_parent_word (inserting w) w.pass.scan.head.depth (not_free w) (good w))
part_rest w ParentBlock = read_words w.numbers.from (suc w.numbers.after) w.numbers.next (words_of w.words) (after_words w)
part_rest w ParentHash = after_words w (words_of w.words)
part_rest w Take = bind (take_rest w.take) (after_taking (inserting w) w.pass.scan.table w.numbers.own)
part_rest w Place = place_block (inserting w) w.pass.scan.table w.numbers.own w.numbers.block (area w) w.numbers.left
part_rest w Sweep = bind (pass_rest w.pass) (after_sweep (inserting w) w.numbers.own w.numbers.block (area w) w.numbers.left)
part_rest w WithdrawHeld = withdraw (inserting w) w.numbers.own w.numbers.block (part_end (exists_with (held_of w.pass)) w.pass.scan.table None (area w) w.numbers.left)
part_rest w WithdrawGone = withdraw (inserting w) w.numbers.own w.numbers.block (part_end left_again w.pass.scan.table None (area w) w.numbers.left)
part_rest w WithdrawSpent = withdraw (inserting w) w.numbers.own w.numbers.block (part_end spent w.pass.scan.table None (area w) 0)
part_rest w Commit = part_end (to_commit w.numbers.own w.numbers.block) w.pass.scan.table None (area w) w.numbers.left
part_rest w Lost = part_end start_again w.pass.scan.table w.numbers.kept (area w) w.numbers.left
part_rest w Left = part_end left_again w.pass.scan.table w.numbers.kept (area w) w.numbers.left
part_rest w Inserted = part_end spent w.pass.scan.table None (area w) 0
part_rest w Exists = part_end (exists_with (held_of w.pass)) w.pass.scan.table w.numbers.kept (area w) w.numbers.left
part_rest w NeedRoom = part_end (need_room (clear_of w.pass)) w.pass.scan.table w.numbers.kept (area w) w.numbers.left
part_rest w Again = part_end spent w.pass.scan.table w.numbers.kept (area w) 0
part_rest w Out = part_end spent w.pass.scan.table None (area w) 0
part_rest w NoBlock = part_end (no_block (take w.take.taking.geometry.nodes w.take.progress.nexts) (need w.take.taking)) w.pass.scan.table None (area w) w.numbers.left

-- what follows a part
abbrev pub next_part : Inserting → ℕ → Part → Prog InsertEnd
next_part i n part = on_part i part (insert_from i n (Some part.table)) part.result

abbrev pub at_rest : Work → At → Prog InsertEnd
at_rest w Inserted = ret (record { outcome = InsertedEnd w.numbers.block; table = w.pass.scan.table; area = area w; lost = w.numbers.tries - w.numbers.left })
at_rest w Out = ret (record { outcome = AgainEnd; table = w.pass.scan.table; area = area w; lost = w.numbers.tries - w.numbers.left })
at_rest w at = bind (part_rest w at) (next_part (inserting w) w.numbers.parts)

-- the insert's start and the parts that may follow stay
abbrev pub Same : Work → Work → Type 0
Same w v = (inserting v ≡ inserting w) × (v.numbers.parts ≡ w.numbers.parts)

-- whether an act of a part is left
abbrev pub acts : At → Bool
acts Commit = false
acts Lost = false
acts Left = false
acts Inserted = false
acts Exists = false
acts NeedRoom = false
acts Again = false
acts NoBlock = false
acts Out = false
acts _ = true

abbrev pub has_ended : At → Bool
has_ended Inserted = true
has_ended Exists = true
has_ended NeedRoom = true
has_ended Again = true
has_ended NoBlock = true
has_ended Out = true
has_ended _ = false

-- how many counted swaps were lost
abbrev pub lost_of : Work → At → ℕ
lost_of w Again = w.numbers.tries
lost_of w at = w.numbers.tries - w.numbers.left
