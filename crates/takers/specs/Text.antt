-- What a taker does: it takes three words at the first node, and stores a word in each. It answers the first of them, and none
-- where it took none.
use Rattle.std.specs.Prelude.{ℕ, zero, suc, ◌+◌, ◌==◌, nat_le, cond, Option, Some, None}
use Rattle.verb_log.specs.declared.entry.Verb.TheVariants.{Read, Write, Swap}
use Rattle.verbs.specs.Programs.{do_verb, Prog, ret, ask}

-- so many stores are left, from an address on
abbrev pub stores : ℕ → ℕ → ℕ → ℕ → Prog (Option ℕ)
stores word first at zero = ret (Some first)
stores word first at (suc more) = ask (do_verb None (Write at word)) (λ answer. stores word first (at + 1) more)

abbrev pub after_take : ℕ → ℕ → ℕ → Prog (Option ℕ)
after_take word next found = cond (found == next) (stores word next next 3) (ret None)

-- the take, where the node that ends at `end` has three words left
abbrev pub from : ℕ → ℕ → ℕ → Prog (Option ℕ)
from end word next = cond (nat_le (next + 3) end) (ask (do_verb None (Swap 0 next (next + 3))) (λ found. after_take word next found)) (ret None)

abbrev pub taking : ℕ → ℕ → Prog (Option ℕ)
taking end word = ask (do_verb None (Read 0)) (λ next. from end word next)
