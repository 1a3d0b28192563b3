-- The delete, as a program.
use Rattle.std.specs.Prelude.{ℕ, zero, suc, ◌+◌, ◌-◌, ◌==◌, if◌then◌else◌, Option, Some, None}
use Rattle.slot_word.specs.Slots.{slot_of}
use Rattle.verb_log.specs.declared.entry.Verb.TheVariants.{Swap}
use Rattle.verbs.specs.Programs.{Prog, ret, ask, do_verb, bind}
use Rattle.pass_text.specs.declared.job.Job.{Job}
use Rattle.pass_text.specs.declared.passed.Passed.{Passed}
use Rattle.pass_text.specs.declared.passed.Held.{Held as HeldWord}
use Rattle.pass_text.specs.declared.passed.PassEnd.{PassEnd}
use Rattle.pass_text.specs.declared.passed.PassEnd.TheVariants.{Held, Clear, Gone, Spent}
use Rattle.pass_text.specs.Pass.{pass}
use Rattle.call_laws.specs.Settling.{settle_first}
use Rattle.op_delete.specs.declared.end.DeleteEnd.{DeleteEnd}
use Rattle.op_delete.specs.declared.end.DeleteOutcome.{DeleteOutcome}
use Rattle.op_delete.specs.declared.end.DeleteOutcome.TheVariants.{Deleted, Missing, Again}

-- the delete has ended so, at the table where its last look ended, and lost so many counted swaps
abbrev pub ended : DeleteOutcome → ℕ → ℕ → Prog DeleteEnd
ended outcome table lost = ret (record { outcome = outcome; table = table; lost = lost })

-- a Remove was tried, and this word was found
abbrev pub after_remove : ℕ → (ℕ → Prog DeleteEnd) → HeldWord → ℕ → ℕ → ℕ → Prog DeleteEnd
after_remove lost more h t live found = if found == live then ended (Deleted h) t lost else more t

-- swap the live word to 0 (Remove): Deleted, with the value read
abbrev pub remove_word : ℕ → (ℕ → Prog DeleteEnd) → HeldWord → ℕ → ℕ → Prog DeleteEnd
remove_word lost more h t live = ask (do_verb None (Swap h.at live 0)) (after_remove lost more h t live)

-- the look has ended so, at this table. Not held: Missing. Held as a copy: first Settle. A look has no other ends than Held and Clear
abbrev pub on_end : ℕ → (ℕ → Prog DeleteEnd) → ℕ → PassEnd → Prog DeleteEnd
on_end lost more t (Held h) = settle_first h (slot_of h.word) (remove_word lost more h t) (more t)
on_end lost more t Clear = ended Missing t lost
on_end lost more t Gone = ended Missing t lost
on_end lost more t Spent = ended Missing t lost

-- so many counted swaps were lost before the look; `more` is what follows another one
abbrev pub after_look : ℕ → (ℕ → Prog DeleteEnd) → Passed → Prog DeleteEnd
after_look lost more p = on_end lost more p.table p.end

-- A counted swap was lost after a look that ended at table t: `lost` are lost now. The delete answers Again where no more may be
-- lost, and else starts again: a new look begins there.
unfoldable pub again : Job → ℕ → ℕ → ℕ → Prog DeleteEnd
again j zero lost t = ended Again t lost
again j (suc left) lost t = bind (pass j (Some t)) (after_look lost (again j left (lost + 1)))

-- a delete that may lose so many swaps, from the cached table or through the directory
abbrev pub delete : Job → ℕ → Option ℕ → Prog DeleteEnd
delete j tries entry = bind (pass j entry) (after_look 0 (again j (tries - 1) 1))
