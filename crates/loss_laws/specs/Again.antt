-- A call that answers Again has lost the swaps that it tells.
use Rattle.std.specs.Prelude.{◌≡◌, ℕ, ◌+◌, ◌≤◌, ◌<◌, List, [], ◌∷◌, ◌++◌, Option, Some}
use Rattle.map_model.specs.declared.calls.Call.{Call}
use Rattle.map_model.specs.declared.calls.Reply.{Reply}
use Rattle.map_model.specs.declared.calls.Reply.TheVariants.{Again}
use Rattle.verbs.specs.Programs.{Prog, Go, again, done}
use Rattle.call_texts.specs.State.{State, CallEnd, Stage, inserting, walking}
use Rattle.call_texts.specs.Text.{part_of, begin_call}
use Rattle.loss_laws.specs.Loses.{Loses}

-- Again tells no more lost swaps than there were
abbrev pub ReplyLost : ℕ → Reply → Type 0
ReplyLost n (Again lost) = lost ≤ n
ReplyLost n _ = Unit {0}

-- how a part of a call ends after n lost swaps: with its answer, or so that what may still be lost is what was not
abbrev pub CallLost : ℕ → Go Stage CallEnd → Type 0
CallLost n (done e) = ReplyLost n e.reply
CallLost n (again (inserting who pair st)) = who.tries ≤ n + st.left
CallLost n (again (walking who key start left area)) = who.tries ≤ n + left

-- Each call loses so many swaps before it answers Again, however its verbs are answered; and so does each part that it starts.
pub record AgainIsLost : Type 0 where
  pub begun : (k : State) (hash : ℕ) (call : Call) → Loses CallLost 0 (begin_call k hash call)
  pub part : (n : ℕ) (stage : Stage) → CallLost n (again stage) → Loses CallLost n (part_of stage)
