-- How many swaps a program has lost.
use Rattle.std.specs.Prelude.{ℕ, suc, ◌==◌, if◌then◌else◌}
use Rattle.verb_log.specs.declared.entry.Verb.{Verb}
use Rattle.verb_log.specs.declared.entry.Verb.TheVariants.{Read, Write, Swap}
use Rattle.verbs.specs.Programs.{Prog, ret, ask, do_verb, ask_hash}

-- the swaps that were lost before and with this verb: one more where a swap found another word than it expected
abbrev pub lost_by : Verb → ℕ → ℕ → ℕ
lost_by (Read at) word n = n
lost_by (Write at value) word n = n
lost_by (Swap at old new) word n = if word == old then n else suc n

-- however the program is answered after n lost swaps, E holds of the swaps that were lost in all and of its outcome
abbrev pub Loses : {A : Type 0} → (ℕ → A → Type 0) → ℕ → Prog A → Type 0
Loses E n (ret a) = E n a
Loses E n (ask (do_verb block verb) k) = (word : ℕ) → Loses E (lost_by verb word n) (k word)
Loses E n (ask (ask_hash key) k) = (hash : ℕ) → Loses E n (k hash)
