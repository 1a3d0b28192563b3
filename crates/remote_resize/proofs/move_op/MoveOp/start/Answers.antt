-- The clauses of a move's start.
use Rattle.std.proofs.Common.{◌∙◌, ap, ℕ}
use Rattle.split_text.specs.Move.{move}
use Rattle.split_text.specs.Words.{cut}
use Rattle.split_text.specs.declared.site.Site.{Site}
use Rattle.move_laws.proofs.Whole.{safe_as_move}
use Rattle.remote_resize.specs.MoveRest.{birth_site}
use Rattle.remote_resize.proofs.Moves.{within_as_move, waits_as_move}
use Rattle.remote_resize.proofs.move_op.MoveOp.start.Goals as goal

pub returns-clause-rest : goal.returns-clause-rest
returns-clause-rest c = c.judging.ensures.rest ∙ ap (λ (n : ℕ). move c.cut-site.result n c.args.standing c.args.tries_left) c.from.ensures ∙ ap (λ (v : Site). move v c.args.place c.args.standing c.args.tries_left) (c.cut-site.ensures.value ∙ ap cut c.birth_site.ensures)

pub returns-clause-within : goal.returns-clause-within
returns-clause-within c = within_as_move c.cut-site.result c.from.result c.args.standing c.args.tries_left _ c.judging.ensures.rest

pub returns-clause-waits : goal.returns-clause-waits
returns-clause-waits c = waits_as_move c.cut-site.result c.from.result c.args.standing c.args.tries_left _ c.judging.ensures.rest

pub returns-clause-safe : goal.returns-clause-safe
returns-clause-safe c = safe_as_move (cut (birth_site c.args.child c.args.birth)) c.args.place c.args.standing c.args.tries_left _ (c.judging.ensures.rest ∙ ap (λ (n : ℕ). move c.cut-site.result n c.args.standing c.args.tries_left) c.from.ensures ∙ ap (λ (v : Site). move v c.args.place c.args.standing c.args.tries_left) (c.cut-site.ensures.value ∙ ap cut c.birth_site.ensures))
