-- What is left of a taker.
use Rattle.std.specs.Prelude.{ℕ, ◌+◌, Option, None}
use Rattle.verb_log.specs.declared.entry.Verb.TheVariants.{Write, Swap}
use Rattle.verbs.specs.Programs.{do_verb, Prog, ret, ask}
use Rattle.takers.specs.Text.{stores, after_take, taking}
use Rattle.takers.specs.declared.taker.At.{At}
use Rattle.takers.specs.declared.taker.At.TheVariants.{Next, Take, Store, Ended}
use Rattle.takers.specs.declared.taker.Taker.{Taker}

abbrev pub at_rest : ℕ → ℕ → At → Prog (Option ℕ)
at_rest end word Next = taking end word
at_rest end word (Take next) = ask (do_verb None (Swap 0 next (next + 3))) (λ found. after_take word next found)
at_rest end word (Store first at more) = ask (do_verb None (Write at word)) (λ answer. stores word first (at + 1) more)
at_rest end word (Ended taken) = ret taken

-- the program that is left
abbrev pub rest : Taker → Prog (Option ℕ)
rest m = at_rest m.end m.word m.at
