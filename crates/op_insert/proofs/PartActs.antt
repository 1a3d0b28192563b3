-- The acts of a look, a sweep and a taking are those of the part.
use Rattle.std.specs.Prelude.{◌≡◌, ℕ, IsSome}
use Rattle.std.proofs.Common.{sym, ap, subst, ◌∙◌}
use Rattle.verbs.specs.Programs.{next_verb, block_of, asked, after, bind}
use Rattle.verbs.proofs.Progs.{next_verb-bind, block_of-bind, asked-bind, after-bind}
use Rattle.scan_pass.specs.declared.pass.Pass.{Pass}
use Rattle.scan_pass.specs.Rest.{pass_rest}
use Rattle.block_taking.specs.declared.take_op.TakeOp.{TakeOp}
use Rattle.block_taking.specs.Rest.{take_rest}
use Rattle.work_area.specs.declared.work.Work.{Work}
use Rattle.op_insert.specs.declared.at.At.{At}
use Rattle.op_insert.specs.declared.at.At.TheVariants.{Look, Take, Sweep}
use Rattle.op_insert.specs.Text.{after_look, after_sweep, after_taking}
use Rattle.op_insert.specs.Rest.{inserting, area, part_rest}
use Rattle.op_insert.specs.AtFits.{PartFits}

module _ (w : Work) (at : At) (h : PartFits w at) where
  pub look-act : at ≡ Look → (answer : ℕ) (q : Pass) → pass_rest q ≡ after (pass_rest w.pass) answer
      → bind (pass_rest q) (after_look (inserting w) w.numbers.kept (area w) w.numbers.left) ≡ after (part_rest w at) answer
  look-act e answer q g = ap (λ x. bind x (after_look (inserting w) w.numbers.kept (area w) w.numbers.left)) g
      ∙ sym (after-bind (pass_rest w.pass) (after_look (inserting w) w.numbers.kept (area w) w.numbers.left) answer (subst (PartFits w) e h)) ∙ ap (λ a. after (part_rest w a) answer) (sym e)

  pub sweep-act : at ≡ Sweep → (answer : ℕ) (q : Pass) → pass_rest q ≡ after (pass_rest w.pass) answer
      → bind (pass_rest q) (after_sweep (inserting w) w.numbers.own w.numbers.block (area w) w.numbers.left) ≡ after (part_rest w at) answer
  sweep-act e answer q g = ap (λ x. bind x (after_sweep (inserting w) w.numbers.own w.numbers.block (area w) w.numbers.left)) g
      ∙ sym (after-bind (pass_rest w.pass) (after_sweep (inserting w) w.numbers.own w.numbers.block (area w) w.numbers.left) answer (subst (PartFits w) e h)) ∙ ap (λ a. after (part_rest w a) answer) (sym e)

  pub take-act : at ≡ Take → (answer : ℕ) (q : TakeOp) → take_rest q ≡ after (take_rest w.take) answer
      → bind (take_rest q) (after_taking (inserting w) w.pass.scan.table w.numbers.own) ≡ after (part_rest w at) answer
  take-act e answer q g = ap (λ x. bind x (after_taking (inserting w) w.pass.scan.table w.numbers.own)) g
      ∙ sym (after-bind (take_rest w.take) (after_taking (inserting w) w.pass.scan.table w.numbers.own) answer (subst (PartFits w) e h)) ∙ ap (λ a. after (part_rest w a) answer) (sym e)

  pub look-verb : at ≡ Look → IsSome (next_verb (part_rest w at)) → IsSome (next_verb (pass_rest w.pass))
  look-verb e v = subst IsSome (next_verb-bind (pass_rest w.pass) (after_look (inserting w) w.numbers.kept (area w) w.numbers.left) (subst (PartFits w) e h)) (subst (λ a. IsSome (next_verb (part_rest w a))) e v)

  pub sweep-verb : at ≡ Sweep → IsSome (next_verb (part_rest w at)) → IsSome (next_verb (pass_rest w.pass))
  sweep-verb e v = subst IsSome (next_verb-bind (pass_rest w.pass) (after_sweep (inserting w) w.numbers.own w.numbers.block (area w) w.numbers.left) (subst (PartFits w) e h)) (subst (λ a. IsSome (next_verb (part_rest w a))) e v)

  pub take-verb : at ≡ Take → IsSome (next_verb (part_rest w at)) → IsSome (next_verb (take_rest w.take))
  take-verb e v = subst IsSome (next_verb-bind (take_rest w.take) (after_taking (inserting w) w.pass.scan.table w.numbers.own) (subst (PartFits w) e h)) (subst (λ a. IsSome (next_verb (part_rest w a))) e v)

  pub look-next : at ≡ Look → next_verb (pass_rest w.pass) ≡ next_verb (part_rest w at)
  look-next e = sym (next_verb-bind (pass_rest w.pass) (after_look (inserting w) w.numbers.kept (area w) w.numbers.left) (subst (PartFits w) e h)) ∙ ap (λ a. next_verb (part_rest w a)) (sym e)

  pub look-block : at ≡ Look → block_of (pass_rest w.pass) ≡ block_of (part_rest w at)
  look-block e = sym (block_of-bind (pass_rest w.pass) (after_look (inserting w) w.numbers.kept (area w) w.numbers.left) (subst (PartFits w) e h)) ∙ ap (λ a. block_of (part_rest w a)) (sym e)

  pub look-asks : at ≡ Look → asked (pass_rest w.pass) ≡ asked (part_rest w at)
  look-asks e = sym (asked-bind (pass_rest w.pass) (after_look (inserting w) w.numbers.kept (area w) w.numbers.left) (subst (PartFits w) e h)) ∙ ap (λ a. asked (part_rest w a)) (sym e)

  pub sweep-next : at ≡ Sweep → next_verb (pass_rest w.pass) ≡ next_verb (part_rest w at)
  sweep-next e = sym (next_verb-bind (pass_rest w.pass) (after_sweep (inserting w) w.numbers.own w.numbers.block (area w) w.numbers.left) (subst (PartFits w) e h)) ∙ ap (λ a. next_verb (part_rest w a)) (sym e)

  pub sweep-block : at ≡ Sweep → block_of (pass_rest w.pass) ≡ block_of (part_rest w at)
  sweep-block e = sym (block_of-bind (pass_rest w.pass) (after_sweep (inserting w) w.numbers.own w.numbers.block (area w) w.numbers.left) (subst (PartFits w) e h)) ∙ ap (λ a. block_of (part_rest w a)) (sym e)

  pub sweep-asks : at ≡ Sweep → asked (pass_rest w.pass) ≡ asked (part_rest w at)
  sweep-asks e = sym (asked-bind (pass_rest w.pass) (after_sweep (inserting w) w.numbers.own w.numbers.block (area w) w.numbers.left) (subst (PartFits w) e h)) ∙ ap (λ a. asked (part_rest w a)) (sym e)

  pub take-next : at ≡ Take → next_verb (take_rest w.take) ≡ next_verb (part_rest w at)
  take-next e = sym (next_verb-bind (take_rest w.take) (after_taking (inserting w) w.pass.scan.table w.numbers.own) (subst (PartFits w) e h)) ∙ ap (λ a. next_verb (part_rest w a)) (sym e)

  pub take-block : at ≡ Take → block_of (take_rest w.take) ≡ block_of (part_rest w at)
  take-block e = sym (block_of-bind (take_rest w.take) (after_taking (inserting w) w.pass.scan.table w.numbers.own) (subst (PartFits w) e h)) ∙ ap (λ a. block_of (part_rest w a)) (sym e)

  pub take-asks : at ≡ Take → asked (take_rest w.take) ≡ asked (part_rest w at)
  take-asks e = sym (asked-bind (take_rest w.take) (after_taking (inserting w) w.pass.scan.table w.numbers.own) (subst (PartFits w) e h)) ∙ ap (λ a. asked (part_rest w a)) (sym e)

pub ruleset verbs = (look-next, look-block, look-asks, sweep-next, sweep-block, sweep-asks, take-next, take-block, take-asks)

pub ruleset binds = (look-act, sweep-act, take-act, look-verb, sweep-verb, take-verb)
