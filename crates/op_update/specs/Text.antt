-- The update, as a program.
use Rattle.std.specs.Prelude.{ℕ, zero, suc, ◌-◌, ◌==◌, if◌then◌else◌, Option, Some, None}
use Rattle.slot_word.specs.declared.slots.Mark.TheVariants.{Live}
use Rattle.slot_word.specs.Slots.{slot_of, slot_word}
use Rattle.verb_log.specs.declared.entry.Verb.TheVariants.{Swap}
use Rattle.verbs.specs.Programs.{Prog, ret, ask, do_verb, bind}
use Rattle.pass_text.specs.declared.job.Job.{Job}
use Rattle.pass_text.specs.declared.passed.Passed.{Passed}
use Rattle.pass_text.specs.declared.passed.Held.{Held as HeldWord}
use Rattle.pass_text.specs.declared.passed.PassEnd.{PassEnd}
use Rattle.pass_text.specs.declared.passed.PassEnd.TheVariants.{Held, Clear, Gone, Spent}
use Rattle.pass_text.specs.Words.{address_of}
use Rattle.pass_text.specs.Pass.{pass}
use Rattle.call_laws.specs.Settling.{settle_first}
use Rattle.block_taking.specs.declared.taking.Area.{Area}
use Rattle.block_taking.specs.declared.taking.Taking.{Taking}
use Rattle.block_taking.specs.declared.taking.TakeEnd.{TakeEnd}
use Rattle.block_taking.specs.declared.taking.TakeOutcome.{TakeOutcome}
use Rattle.block_taking.specs.declared.taking.TakeOutcome.TheVariants.{Taken as TakenBlock, NoBlock as NoRoom, Spent as SpentTakes}
use Rattle.block_taking.specs.Text.{need, take_block}
use Rattle.op_update.specs.declared.end.UpdateEnd.{UpdateEnd}
use Rattle.op_update.specs.declared.end.UpdateOutcome.{UpdateOutcome}
use Rattle.op_update.specs.declared.end.UpdateOutcome.TheVariants.{Updated, Missing, Again, NoBlock}

-- what an update is started with: what its looks are, the fingerprint of the key, the block with the new value, and how many swaps it
-- may lose
pub record Plan : Type 0 where
  pub job : Job
  pub print : ℕ
  pub taking : Taking
  pub tries : ℕ

-- the live word of the new block at an address
unfoldable pub new_word : Plan → ℕ → ℕ
new_word u at = slot_word (record { mark = Live; fp = u.print; len = need u.taking; at = address_of at })

-- the update has ended so, at the table where its last look ended, with this area, and `left` more swaps might be lost
abbrev pub ended : Plan → UpdateOutcome → ℕ → Area → ℕ → Prog UpdateEnd
ended u outcome table area left = ret (record { outcome = outcome; table = table; area = area; lost = u.tries - left })

-- what follows a counted swap that was lost: the block that was never placed, the area, how many more may be lost, and the table
abbrev pub More : Type 0
More = Option ℕ → Area → ℕ → ℕ → Prog UpdateEnd

-- a Replace was tried, and this word was found; where it is lost the update keeps its block
abbrev pub after_replace : Plan → More → HeldWord → ℕ → ℕ → Area → ℕ → ℕ → ℕ → Prog UpdateEnd
after_replace u more h t at area left live found = if found == live then ended u (Updated h at) t area left else more (Some at) area (left - 1) t

-- swap the live word to live of the new block (Replace): Updated, with the old value
abbrev pub replace_word : Plan → More → HeldWord → ℕ → ℕ → Area → ℕ → ℕ → Prog UpdateEnd
replace_word u more h t at area left live = ask (do_verb None (Swap h.at live (new_word u at))) (after_replace u more h t at area left live)

-- the new block stands at an address: Held as a copy: Settle
abbrev pub with_block : Plan → More → HeldWord → ℕ → ℕ → Area → ℕ → Prog UpdateEnd
with_block u more h t at area left = settle_first h (slot_of h.word) (replace_word u more h t at area left) (more (Some at) area (left - 1) t)

-- what is answered where a taking has ended with no room
abbrev pub refused : TakeOutcome → UpdateOutcome
refused (TakenBlock at) = Again
refused (NoRoom next words) = NoBlock next words
refused SpentTakes = Again

-- a block was taken, or none could be
abbrev pub after_take : Plan → More → HeldWord → ℕ → TakeEnd → TakeOutcome → Prog UpdateEnd
after_take u more h t e (TakenBlock at) = with_block u more h t at e.area e.left
after_take u more h t e (NoRoom next words) = ended u (NoBlock next words) t e.area e.left
after_take u more h t e SpentTakes = ended u Again t e.area e.left

-- the key is held: take a block, unless this update has one that it never placed
abbrev pub on_held : Plan → More → HeldWord → ℕ → Option ℕ → Area → ℕ → Prog UpdateEnd
on_held u more h t None area left = bind (take_block u.taking area left) (λ e. after_take u more h t e e.outcome)
on_held u more h t (Some at) area left = with_block u more h t at area left

-- the look has ended so, at this table. Not held: Missing. A look has no other ends than Held and Clear
abbrev pub on_end : Plan → More → Option ℕ → Area → ℕ → ℕ → PassEnd → Prog UpdateEnd
on_end u more kept area left t (Held h) = on_held u more h t kept area left
on_end u more kept area left t Clear = ended u Missing t area left
on_end u more kept area left t Gone = ended u Missing t area left
on_end u more kept area left t Spent = ended u Missing t area left

abbrev pub after_look : Plan → More → Option ℕ → Area → ℕ → Passed → Prog UpdateEnd
after_look u more kept area left p = on_end u more kept area left p.table p.end

-- A counted swap was lost after a look that ended at table t, and `left` more may be. The update answers Again where none may, and
-- else starts again: a new look begins there. No more than n looks follow, since each is begun by a swap that was lost.
unfoldable pub again : Plan → ℕ → More
again u zero kept area left t = ended u Again t area left
again u (suc n) kept area left t =
    if left == 0 then ended u Again t area left else bind (pass u.job (Some t)) (after_look u (again u n) kept area left)

-- an update with this area, from the cached table or through the directory
abbrev pub update : Plan → Area → Option ℕ → Prog UpdateEnd
update u area entry = bind (pass u.job entry) (after_look u (again u (u.tries - 1)) None area u.tries)
