-- What is left of a call, by the operation that is under way.
use Rattle.std.specs.Prelude.{ℕ, Option, Some, None}
use Rattle.verbs.specs.Programs.{Act, Prog, bind, mapped, next_act, Go}
use Rattle.scan_pass.specs.Rest.{pass_rest}
use Rattle.split_text.specs.declared.resized.ResizeEnd.{ResizeEnd}
use Rattle.pass_text.specs.declared.passed.Passed.{Passed}
use Rattle.op_search.specs.declared.end.SearchEnd.{SearchEnd}
use Rattle.op_search.specs.Text.{found}
use Rattle.op_delete.specs.declared.end.DeleteEnd.{DeleteEnd}
use Rattle.op_delete.specs.Rest.{at_rest as delete_at}
use Rattle.op_update.specs.declared.end.UpdateEnd.{UpdateEnd}
use Rattle.op_update.specs.Rest.{at_rest as update_at}
use Rattle.op_insert.specs.declared.end.InsertEnd.{InsertEnd}
use Rattle.op_insert.specs.Rest.{at_rest as insert_at}
use Rattle.remote_resize.specs.ResizeOpRest.{resize_rest}
use Rattle.map_model.specs.declared.calls.Reply.TheVariants.{FullDepth}
use Rattle.call_texts.specs.State.{Stage, CallEnd}
use Rattle.call_texts.specs.Text.{ended, after_search, after_delete, after_update, after_insert, after_split, after_walk, after_own}
use Rattle.call_machine.specs.declared.task.Task.{Task}
use Rattle.call_machine.specs.declared.machines.Machines.{Machines}
use Rattle.call_machine.specs.declared.at.At.{At}
use Rattle.call_machine.specs.declared.at.At.TheVariants as op
use Rattle.call_machine.specs.Tasks.{caller_in, pair_in, inserting_in, insert_end_in}

-- the parts of calls with the types of this client's stages and ends
abbrev pub Left : Type 0
Left = Prog (Go Stage CallEnd)

-- what follows each operation
abbrev pub on_search : Task → SearchEnd → Left
on_search t e = after_search (caller_in t) t.area t.ticket e.table e.outcome

abbrev pub on_delete : Task → DeleteEnd → Left
on_delete t e = after_delete (caller_in t) t.area t.ticket e.table e.outcome

abbrev pub on_update : Task → UpdateEnd → Left
on_update t e = after_update (caller_in t) t.ticket e e.outcome

abbrev pub on_insert : Task → InsertEnd → Left
on_insert t e = after_insert (caller_in t) (pair_in t) (inserting_in t) e e.outcome

abbrev pub on_room : Task → ResizeEnd → Left
on_room t r = after_split (caller_in t) (pair_in t) (inserting_in t) (insert_end_in t) t.kept t.depth r.left r.outcome

abbrev pub on_walk : Task → Passed → Left
on_walk t p = after_walk (caller_in t) t.key t.area t.left p

-- the walk ended at this table, or there was none
abbrev pub on_split : Task → Option ℕ → ResizeEnd → Left
on_split t table r = after_own (caller_in t) t.key t.area table r.left r.outcome

-- the table is as deep as may be
abbrev pub full : Task → Left
full t = ended (caller_in t) (FullDepth t.geometry.max_depth) 0 0 (Some t.table) t.forgotten t.area None

abbrev pub rest_of : Task → Machines → At → Left
rest_of t m op.Search = bind (mapped found (pass_rest m.work.pass)) (on_search t)
rest_of t m (op.Delete a) = bind (delete_at m.work a) (on_delete t)
rest_of t m (op.Update a) = bind (update_at m.work a) (on_update t)
rest_of t m (op.Insert a) = bind (insert_at m.work a) (on_insert t)
rest_of t m op.Room = bind (resize_rest m.split) (on_room t)
rest_of t m op.Walk = bind (pass_rest m.work.pass) (on_walk t)
rest_of t m op.Split = bind (resize_rest m.split) (on_split t (Some t.table))
rest_of t m op.Resume = bind (resize_rest m.split) (on_split t None)
rest_of t m op.Full = full t

-- the act of the operation
abbrev pub act_of : Machines → At → Option Act
act_of m op.Search = next_act (mapped found (pass_rest m.work.pass))
act_of m (op.Delete a) = next_act (delete_at m.work a)
act_of m (op.Update a) = next_act (update_at m.work a)
act_of m (op.Insert a) = next_act (insert_at m.work a)
act_of m op.Room = next_act (resize_rest m.split)
act_of m op.Walk = next_act (pass_rest m.work.pass)
act_of m op.Split = next_act (resize_rest m.split)
act_of m op.Resume = next_act (resize_rest m.split)
act_of m op.Full = None
