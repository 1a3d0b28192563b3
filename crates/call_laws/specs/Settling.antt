-- How a held word is made live before it is replaced or removed.
use Rattle.std.specs.Prelude.{ℕ, Bool, true, false, ◌==◌, ◌||◌, if◌then◌else◌, List, Option, Some, None}
use Rattle.slot_word.specs.declared.slots.Mark.{Mark}
use Rattle.slot_word.specs.declared.slots.Mark.TheVariants.{Live, Pending, Copied, Moved}
use Rattle.slot_word.specs.declared.slots.Slot.{Slot}
use Rattle.slot_word.specs.Slots.{slot_word}
use Rattle.node_words.specs.declared.geometry.Geometry.{Geometry}
use Rattle.verb_log.specs.declared.entry.Verb.TheVariants.{Swap}
use Rattle.verbs.specs.Programs.{Prog, ask, do_verb}
use Rattle.pass_text.specs.declared.job.Job.{Job}
use Rattle.pass_text.specs.declared.job.PassMode.TheVariants.{Look}
use Rattle.pass_text.specs.declared.passed.Held.{Held as HeldWord}

-- what a look is started with
abbrev pub look_job : Geometry → List ℕ → ℕ → Job
look_job g key hash = record { geometry = g; key = key; hash = hash; mode = Look }

-- the live word of a slot's block
unfoldable pub live_form : Slot → ℕ
live_form slot = slot_word (record { mark = Live; fp = slot.fp; len = slot.len; at = slot.at })

abbrev pub is_copied : Mark → Bool
is_copied Live = false
is_copied Pending = false
is_copied Copied = true
is_copied Moved = false

-- the Settle of a copy was tried, and this word was found: live of the same block will do as well; else the swap is lost
abbrev pub after_settle : {A : Type 0} → HeldWord → ℕ → (ℕ → Prog A) → Prog A → ℕ → Prog A
after_settle h live next lost found = if (found == h.word) || (found == live) then next live else lost

-- a word that holds the key: where it is a copy it is first swapped to live of the same block (Settle). `next` goes on with the
-- live word, and `lost` where the swap is lost
abbrev pub settle_first : {A : Type 0} → HeldWord → Option Slot → (ℕ → Prog A) → Prog A → Prog A
settle_first h None next lost = next h.word
settle_first h (Some slot) next lost =
    if is_copied slot.mark then ask (do_verb None (Swap h.at h.word (live_form slot))) (after_settle h (live_form slot) next lost)
    else next h.word
