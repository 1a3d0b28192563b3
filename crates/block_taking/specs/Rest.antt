-- What is left of a taking.
use Rattle.std.specs.Prelude.{ℕ, suc, ◌+◌, ◌-◌, ◌==◌, if◌then◌else◌, None, take, slice_set}
use Rattle.verb_log.specs.declared.entry.Verb.TheVariants.{Swap}
use Rattle.verbs.specs.Programs.{Prog, ask, do_verb}
use Rattle.node_words.specs.Addresses.{node_at}
use Rattle.block_taking.specs.declared.taking.Taking.{Taking}
use Rattle.block_taking.specs.declared.taking.TakeOutcome.TheVariants.{Taken as TakenEnd, NoBlock as NoBlockEnd, Spent as SpentEnd}
use Rattle.block_taking.specs.declared.taking.TakeEnd.{TakeEnd}
use Rattle.block_taking.specs.declared.progress.Progress.{Progress}
use Rattle.block_taking.specs.declared.at.At.{At}
use Rattle.block_taking.specs.declared.at.At.TheVariants.{Read, Area, Alone, Write, Taken, NoBlock, Spent}
use Rattle.block_taking.specs.declared.take_op.TakeOp.{TakeOp}
use Rattle.block_taking.specs.Text.{need, next_node, ended, write_words, write_block, take_at, take_from}

-- what follows a node that is full: its last number is kept, and the next nodes are tried
abbrev pub goes_on : Taking → Progress → ℕ → ℕ → Prog TakeEnd
goes_on t s next left = take_from t s.more (next_node t s.node) (slice_set s.nexts s.node next) s.area left

-- what follows a Take that found this number: it was lost where that is not the one expected
abbrev pub lost : Taking → Progress → ℕ → Prog TakeEnd
lost t s found = take_at t (s.left - 1) s.node found s.area (goes_on t s)

abbrev pub at_rest : Taking → Progress → At → Prog TakeEnd
at_rest t s Read = take_from t (suc s.more) s.node s.nexts s.area s.left
at_rest t s Area =
    ask (do_verb None (Swap (node_at t.geometry s.node) s.next (s.next + 1024)))
    (λ found. if found == s.next then write_block t s.next (record { at = s.next + need t; left = 1024 - need t }) s.left else lost t s found)
at_rest t s Alone =
    ask (do_verb None (Swap (node_at t.geometry s.node) s.next (s.next + need t)))
    (λ found. if found == s.next then write_block t s.next s.area s.left else lost t s found)
at_rest t s Write = write_words t (suc s.after) s.index s.block s.area s.left
at_rest t s Taken = ended (TakenEnd s.block) s.area s.left
at_rest t s NoBlock = ended (NoBlockEnd (take t.geometry.nodes s.nexts) (need t)) s.area s.left
at_rest t s Spent = ended SpentEnd s.area 0

abbrev pub take_rest : TakeOp → Prog TakeEnd
take_rest op = at_rest op.taking op.progress op.at
