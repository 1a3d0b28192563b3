-- What is left of the judging of a place.
use Rattle.std.specs.Prelude.{ℕ, zero, suc, ◌-◌, if◌then◌else◌, None}
use Rattle.node_words.specs.Addresses.{slot_at}
use Rattle.slot_word.specs.declared.slots.Mark.{Mark}
use Rattle.slot_word.specs.declared.slots.Mark.TheVariants.{Live, Pending, Copied, Moved as MovedMark}
use Rattle.kv_block.specs.Reading.{block_key}
use Rattle.verb_log.specs.declared.entry.Verb.TheVariants.{Read}
use Rattle.verbs.specs.Programs.{Prog, ask, do_verb, ask_hash}
use Rattle.pass_text.specs.Pass.{read_words}
use Rattle.split_text.specs.declared.site.Site.{Site}
use Rattle.split_text.specs.declared.moved.MoveOutcome.TheVariants.{Done as DoneEnd, Moved as MovedEnd, Spent as SpentEnd}
use Rattle.split_text.specs.declared.moved.MoveEnd.{MoveEnd}
use Rattle.split_text.specs.Words.{marked}
use Rattle.split_text.specs.Begin.{sure}
use Rattle.split_text.specs.Move.{left_so, is_leaving, uncopy, drop_word, settle, flip, copy, stay, read_again, judge}
use Rattle.remote_resize.specs.declared.mover.Place.{Place}
use Rattle.remote_resize.specs.declared.mover.Mover.{Mover}
use Rattle.remote_resize.specs.declared.move_op.MoveOp.{MoveOp}
use Rattle.slot_word.specs.declared.births.Birth.{Birth}
use Rattle.remote_resize.specs.declared.move_at.MoveAt.{MoveAt}
use Rattle.remote_resize.specs.declared.move_at.MoveAt.TheVariants as at

-- a swap was lost, where n more might be before the one with which it ends
abbrev pub lost_by : Site → ℕ → ℕ → ℕ → ℕ → Prog MoveEnd
lost_by site p zero found standing = left_so SpentEnd found standing 0
lost_by site p (suc n) found standing = judge site p n found standing

abbrev pub lost : Place → Mover → ℕ → ℕ → Prog MoveEnd
lost t m = lost_by t.site t.place (m.left - 1)

-- a Copy was lost
abbrev pub copy_lost : Place → Mover → ℕ → Prog MoveEnd
copy_lost t m word = if m.again then left_so DoneEnd word 0 m.left else read_again t.site t.place m.left (lost t m)

-- the key of the word leaves, by the word's mark
abbrev pub leaves_by : Place → Mover → Mark → Prog MoveEnd
leaves_by t m Live = copy t.site t.place m.left m.word m.standing m.slot (copy_lost t m m.word) (lost t m)
leaves_by t m Pending = uncopy t.site t.place m.left m.standing (drop_word t.site t.place m.left m.word (lost t m))
leaves_by t m Copied = stay t.site t.place m.left m.word m.standing
leaves_by t m MovedMark = stay t.site t.place m.left m.word m.standing

-- the hash of its key is told
abbrev pub hash_told : Place → Mover → ℕ → Prog MoveEnd
hash_told t m hash = is_leaving t.site hash (leaves_by t m m.slot.mark) (stay t.site t.place m.left m.word m.standing)

abbrev pub move_rest_at : Place → Mover → MoveAt → Prog MoveEnd
move_rest_at t m at.Read = ask (do_verb None (Read (slot_at t.site.table t.place))) (λ word. judge t.site t.place (m.left - 1) word m.standing)
move_rest_at t m at.Block = read_words m.slot.at (suc m.more) m.next m.words (λ ws. ask (ask_hash (block_key ws)) (hash_told t m))
move_rest_at t m at.Ask = ask (ask_hash (block_key m.words)) (hash_told t m)
move_rest_at t m at.Uncopy = sure (slot_at t.site.child t.place) m.standing 0 (left_so DoneEnd m.word 0 m.left)
move_rest_at t m at.UncopyFirst = sure (slot_at t.site.child t.place) m.standing 0 (drop_word t.site t.place m.left m.word (lost t m))
move_rest_at t m at.Drop = drop_word t.site t.place m.left m.word (lost t m)
move_rest_at t m at.Copy = copy t.site t.place m.left m.word m.standing m.slot (copy_lost t m m.word) (lost t m)
move_rest_at t m at.Reread = read_again t.site t.place m.left (lost t m)
move_rest_at t m at.Flip = flip t.site t.place m.left m.word m.slot (lost t m)
move_rest_at t m at.Settle = settle t.site t.place m.left m.slot
move_rest_at t m at.Done = left_so DoneEnd m.word 0 m.left
move_rest_at t m at.Moved = left_so MovedEnd (marked MovedMark m.slot) 0 m.left
move_rest_at t m at.Spent = left_so SpentEnd m.word m.standing 0

abbrev pub move_rest : MoveOp → Prog MoveEnd
move_rest op = move_rest_at op.place op.mover op.at

-- the split of a child with this birth
abbrev pub birth_site : ℕ → Birth → Site
birth_site child birth = record { table = birth.parent; depth = birth.depth - 1; child = child; suffix = birth.suffix }

-- how many swaps may still be lost, and how many were
abbrev pub left_at : Mover → MoveAt → ℕ
left_at m at.Spent = 0
left_at m _ = m.left

abbrev pub lost_of : MoveOp → ℕ
lost_of op = op.tries - left_at op.mover op.at
