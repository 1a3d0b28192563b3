-- Safe programs over logs newest first: the same calculus as `Safe`, in the form in which the laws of legal logs speak, with a
-- rule of what the client's own entries are besides legal.
use Rattle.std.specs.Prelude.{◌≡◌, ◌≢◌, ℕ, ◌<◌, ◌∷◌, Option, Some, None}
use Rattle.verb_log.specs.declared.entry.Entry.{Entry}
use Rattle.verb_log.specs.declared.entry.Verb.{Verb}
use Rattle.verb_log.specs.declared.entry.Verb.TheVariants.{Read, Write, Swap}
use Rattle.verb_log.specs.Tables.{Past, word_at}
use Rattle.log_facts.specs.Since.{change_in, Since}
use Rattle.verbs.specs.Programs.{do_verb, ask_hash, Prog, ret, ask}
use Rattle.verbs.specs.Logs.{place_of}
use Rattle.race_laws.specs.Setting.{Setting, hash}
use Rattle.race_laws.specs.Legal.{Meets, Legal}
use Rattle.log_facts.specs.Among.{ReadsIn}
use Rattle.log_facts.specs.Beside.{Beside}
use Rattle.log_facts.specs.Entries.{Unchanging}

-- what a client's own entries are, besides legal
abbrev pub Rule : Type 1
Rule = Setting → ℕ → Past → Entry → Type 0

-- a verb may be done on a log, and then holds of the log that it leaves and of its answer
abbrev pub MayBy : Rule → Setting → ℕ → Past → Verb → (Past → ℕ → Type 0) → Type 0
MayBy R s c q (Read at) Then = Then q (word_at s.geometry q at)
MayBy R s c q (Write at new) Then = (Meets s q (change_in s.geometry c q at new) × R s c q (change_in s.geometry c q at new)) × Then (change_in s.geometry c q at new ∷ q) 0
MayBy R s c q (Swap at old new) Then =
    (word_at s.geometry q at ≡ old → (Meets s q (change_in s.geometry c q at new) × R s c q (change_in s.geometry c q at new)) × Then (change_in s.geometry c q at new ∷ q) (word_at s.geometry q at))
    × (word_at s.geometry q at ≢ old → Then q (word_at s.geometry q at))

-- the verb of an act may be done: where it is of a block, it reads a word of that block
abbrev pub MayDoBy : Rule → Setting → ℕ → Past → Option ℕ → Verb → (Past → ℕ → Type 0) → Type 0
MayDoBy R s c q None verb Then = MayBy R s c q verb Then
MayDoBy R s c q (Some block) verb Then = ReadsIn s.geometry q block verb × MayBy R s c q verb Then

-- the program is safe on a log: at each verb, on every legal log that others may have made of the one that the client saw last, its
-- entry is legal and by the rule
abbrev pub SafeBy : {A : Type 0} → Rule → Setting → ℕ → Past → Prog A → (Past → A → Type 0) → Type 0
SafeBy R s c p (ret a) End = End p a
SafeBy R s c p (ask (do_verb block verb) k) End =
    (place_of verb < s.geometry.words) × ((q : Past) → Legal s q → Since c p q → MayDoBy R s c q block verb (λ n answer. SafeBy R s c n (k answer) End))
SafeBy R s c p (ask (ask_hash key) k) End = SafeBy R s c p (k (hash s key)) End

-- own entries of a call but for its last and its splits: they change nothing in the map and use no lock
abbrev pub Calmly : Setting → ℕ → Past → Entry → Type 0
Calmly s c q e = Unchanging s c q e × Beside s c q e

-- on a log a program is safe whose entries change nothing in the map and use no lock
abbrev pub SafeIn : {A : Type 0} → Setting → ℕ → Past → Prog A → (Past → A → Type 0) → Type 0
SafeIn s c p prog End = SafeBy Calmly s c p prog End
