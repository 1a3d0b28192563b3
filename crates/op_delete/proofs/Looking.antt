-- The look inside a delete, and how it starts again.
use Rattle.std.specs.Prelude.{◌≡◌, ◌≢◌, ℕ, suc, ◌+◌, ◌-◌, true, false, Option, Some, None, IsSome, refl}
use Rattle.std.proofs.Common.{sym, ap, subst, ◌∙◌, arith}
use Rattle.slot_word.specs.Slots.{slot_of}
use Rattle.verbs.specs.Programs.{Prog, next_act, next_verb, block_of, asked, after, outcome_of, bind}
use Rattle.verbs.proofs.Progs.{next_verb-bind, block_of-bind, asked-bind, after-bind, outcome-bind}
use Rattle.pass_text.specs.declared.job.Job.{Job}
use Rattle.pass_text.specs.Pass.{pass}
use Rattle.scan_pass.specs.declared.pass.Pass.{Pass}
use Rattle.scan_pass.specs.declared.scan.Scan.{Scan}
use Rattle.scan_pass.specs.declared.at.At as pass_at
use Rattle.scan_pass.specs.declared.at.At.TheVariants.{Depth, Directory, Header, Parent, Birth, Slot, Block, Drop, KeyHeader, Child, Held as HeldAt, Clear as ClearAt, Gone as GoneAt, Spent as SpentAt}
use Rattle.scan_pass.specs.BlockWords.{words_of}
use Rattle.scan_pass.specs.Ends.{held_of, is_held, has_ended}
use Rattle.scan_pass.specs.Rest.{at_rest as pass_at_rest, pass_rest}
use Rattle.kv_block.specs.Reading.{block_value}
use Rattle.pass_text.specs.Words.{candidate_at}
use Rattle.call_laws.specs.Settling.{settle_first}
use Rattle.op_delete.specs.declared.end.DeleteEnd.{DeleteEnd}
use Rattle.op_delete.specs.declared.end.DeleteOutcome.TheVariants.{Again, Missing}
use Rattle.work_area.specs.declared.work.Work.{Work}
use Rattle.op_delete.specs.declared.at.At.{At}
use Rattle.op_delete.specs.declared.at.At.TheVariants.{Looking}
use Rattle.op_delete.specs.Text.{again, after_look, remove_word, ended, delete}
use Rattle.op_delete.specs.Rest.{more, at_rest}
use Rattle.op_delete.specs.AtFits.{AtFits}

-- how the look has ended
at_held : (j : Job) (s : Scan) (at : pass_at.At) (lost : ℕ) (goes : ℕ → Prog DeleteEnd) → is_held at ≡ true
    → bind (pass_at_rest j s at) (after_look lost goes) ≡ settle_first (record { at = candidate_at j s.table s.index; word = s.word; value = block_value (words_of s.block) }) (slot_of s.word) (remove_word lost goes (record { at = candidate_at j s.table s.index; word = s.word; value = block_value (words_of s.block) }) s.table) (goes s.table)
at_held j s Depth lost goes e = absurd (cc)
at_held j s Directory lost goes e = absurd (cc)
at_held j s Header lost goes e = absurd (cc)
at_held j s Parent lost goes e = absurd (cc)
at_held j s Birth lost goes e = absurd (cc)
at_held j s Slot lost goes e = absurd (cc)
at_held j s Block lost goes e = absurd (cc)
at_held j s Drop lost goes e = absurd (cc)
at_held j s KeyHeader lost goes e = absurd (cc)
at_held j s Child lost goes e = absurd (cc)
at_held j s HeldAt lost goes e = refl
at_held j s ClearAt lost goes e = absurd (cc)
at_held j s GoneAt lost goes e = absurd (cc)
at_held j s SpentAt lost goes e = absurd (cc)

at_missing : (j : Job) (s : Scan) (at : pass_at.At) (lost : ℕ) (goes : ℕ → Prog DeleteEnd) → has_ended at ≡ true → is_held at ≡ false → bind (pass_at_rest j s at) (after_look lost goes) ≡ ended Missing s.table lost
at_missing j s Depth lost goes h e = absurd (cc)
at_missing j s Directory lost goes h e = absurd (cc)
at_missing j s Header lost goes h e = absurd (cc)
at_missing j s Parent lost goes h e = absurd (cc)
at_missing j s Birth lost goes h e = absurd (cc)
at_missing j s Slot lost goes h e = absurd (cc)
at_missing j s Block lost goes h e = absurd (cc)
at_missing j s Drop lost goes h e = absurd (cc)
at_missing j s KeyHeader lost goes h e = absurd (cc)
at_missing j s Child lost goes h e = absurd (cc)
at_missing j s HeldAt lost goes h e = absurd (cc)
at_missing j s ClearAt lost goes h e = refl
at_missing j s GoneAt lost goes h e = refl
at_missing j s SpentAt lost goes h e = refl

pub look-held : (p : Pass) (lost : ℕ) (goes : ℕ → Prog DeleteEnd) → is_held p.at ≡ true → bind (pass_rest p) (after_look lost goes) ≡ settle_first (held_of p) (slot_of p.scan.word) (remove_word lost goes (held_of p) p.scan.table) (goes p.scan.table)
look-held p lost goes e = at_held p.task.job p.scan p.at lost goes e

pub look-missing : (p : Pass) (lost : ℕ) (goes : ℕ → Prog DeleteEnd) → has_ended p.at ≡ true → is_held p.at ≡ false → bind (pass_rest p) (after_look lost goes) ≡ ended Missing p.scan.table lost
look-missing p lost goes h e = at_missing p.task.job p.scan p.at lost goes h e

pub ruleset looks = (look-held, look-missing)

-- how often it may start again
pub again-none : (j : Job) (left lost t : ℕ) → left ≡ 0 → again j left lost t ≡ ended Again t lost
unfolding again
again-none j left lost t e = rw e refl

again-suc : (j : Job) (left lost t : ℕ) → again j (suc left) lost t ≡ bind (pass j (Some t)) (after_look lost (again j left (lost + 1)))
unfolding again
again-suc j left lost t = refl

pub again-more : (j : Job) (left lost t : ℕ) → 0 ≢ left → again j left lost t ≡ bind (pass j (Some t)) (after_look lost (again j (left - 1) (lost + 1)))
again-more j left lost t some = let e : left ≡ suc (left - 1) = omega arith in ap (λ m. again j m lost t) e ∙ again-suc j (left - 1) lost t

pub ruleset agains = (again-none, again-more)

-- the acts of the look are those of the delete
module _ (w : Work) (at : At) (e : at ≡ Looking) (h : AtFits w at) where
  waits : IsSome (next_act (pass_rest w.pass))
  waits = (subst (AtFits w) e h).0

  pub delete-next : next_verb (pass_rest w.pass) ≡ next_verb (at_rest w at)
  delete-next = sym (next_verb-bind (pass_rest w.pass) (after_look w.removal.lost (more w)) waits) ∙ ap (λ a. next_verb (at_rest w a)) (sym e)

  pub delete-block : block_of (pass_rest w.pass) ≡ block_of (at_rest w at)
  delete-block = sym (block_of-bind (pass_rest w.pass) (after_look w.removal.lost (more w)) waits) ∙ ap (λ a. block_of (at_rest w a)) (sym e)

  pub delete-asks : asked (pass_rest w.pass) ≡ asked (at_rest w at)
  delete-asks = sym (asked-bind (pass_rest w.pass) (after_look w.removal.lost (more w)) waits) ∙ ap (λ a. asked (at_rest w a)) (sym e)

  pub delete-outcome : None ≡ outcome_of (at_rest w at)
  delete-outcome = sym (outcome-bind (pass_rest w.pass) (after_look w.removal.lost (more w)) waits) ∙ ap (λ a. outcome_of (at_rest w a)) (sym e)

  pub delete-act : (answer : ℕ) (q : Pass) → pass_rest q ≡ after (pass_rest w.pass) answer → bind (pass_rest q) (after_look w.removal.lost (more w)) ≡ after (at_rest w at) answer
  delete-act answer q g =
      ap (λ x. bind x (after_look w.removal.lost (more w))) g ∙ sym (after-bind (pass_rest w.pass) (after_look w.removal.lost (more w)) answer waits) ∙ ap (λ a. after (at_rest w a) answer) (sym e)

pub ruleset deletes = (delete-next, delete-block, delete-asks, delete-outcome, delete-act)

-- what a look that was started for it begins
pub begins_delete : (j : Job) (tries : ℕ) (start : Option ℕ) (w : Work) → pass_rest w.pass ≡ pass j start → w.pass.task.job ≡ j → w.removal.lost ≡ 0 → w.removal.left ≡ tries
    → at_rest w Looking ≡ delete j tries start
begins_delete j tries start w e h z l =
    (λ i. bind (e i) (after_look (z i) (again (h i) (l i - 1) (z i + 1))))

pub ruleset begins = (begins_delete)
