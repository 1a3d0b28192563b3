-- What a call's task and its end stand for.
use Rattle.std.specs.Prelude.{ℕ, List, []}
use Rattle.kv_block.specs.Packing.{Pair}
use Rattle.op_insert.specs.declared.end.InsertEnd.{InsertEnd}
use Rattle.op_insert.specs.declared.end.InsertOutcome.TheVariants.{Again}
use Rattle.map_model.specs.declared.calls.Call.{Call}
use Rattle.map_model.specs.declared.calls.Call.TheVariants.{Insert, Search, Update, Delete, Resize}
use Rattle.call_texts.specs.State.{Caller, CallEnd, Inserting}
use Rattle.call_machine.specs.declared.answer.Answer.{Answer}
use Rattle.call_machine.specs.declared.task.Task.{Task}
use Rattle.call_machine.specs.declared.end.End.{End}

abbrev pub caller_in : Task → Caller
caller_in t = record { geometry = t.geometry; client = t.client; tries = t.tries; hash = t.hash }

abbrev pub pair_in : Task → Pair
pair_in t = record { key = t.key; value = t.value }

abbrev pub inserting_in : Task → Inserting
inserting_in t = record { start = t.start; kept = t.kept; left = t.left; full = t.full; forgotten = t.forgotten; area = t.area; ticket = t.ticket }

-- the end of the insert after which a split came, by its table and its area, which are all that counts then
abbrev pub insert_end_in : Task → InsertEnd
insert_end_in t = record { outcome = Again; table = t.table; area = t.area; lost = 0 }

-- the end of a call of a key with this hash
abbrev pub call_end : ℕ → End → CallEnd
call_end hash e = record { reply = e.reply; source = e.source; target = e.target; hash = hash; table = e.table; forgotten = e.forgotten; split = e.split; area = e.area; ticket = e.ticket }

-- what is answered of it
abbrev pub answer_in : CallEnd → Answer
answer_in e = record { reply = e.reply; from = e.source; to = e.target }

-- the value of a call, of no byte where it has none
abbrev pub value_in : Call → List ℕ
value_in (Insert key value) = value
value_in (Search key) = []
value_in (Update key value) = value
value_in (Delete key) = []
value_in (Resize key) = []
