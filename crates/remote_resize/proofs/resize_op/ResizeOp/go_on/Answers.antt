-- The clause of going on with a ticket.
use Rattle.std.proofs.Common.{◌∙◌, ap, arith, sym, subst}
use Rattle.split_text.specs.Words.{place_of}
use Rattle.verbs.specs.Programs.{Within}
use Rattle.split_text.specs.Bound.{resize_acts}
use Rattle.split_text.proofs.Bounds.{resume-within}
use Rattle.split_laws.proofs.Whole.{safe_as_resume}
use Rattle.remote_resize.proofs.Parts.{resumed_on}
use Rattle.remote_resize.proofs.resize_op.ResizeOp.go_on.Goals as goal

pub returns-clause-rest : goal.returns-clause-rest
returns-clause-rest c = c.moved-at.ensures.rest ∙ resumed_on c.args.ticket.geometry c.args.ticket.client c.cut-site.result c.args.ticket.site c.from-slot.result c.args.ticket.slot c.place_of.result c.saturating_sub.result c.args.ticket.word c.args.ticket.copy c.args.tries_left _ c.resumed.ensures.rest c.cut-site.ensures.value c.from-slot.ensures (c.place_of.ensures.place ∙ ap place_of c.from-slot.ensures) (let a = c.saturating_sub.ensures in let b = c.from-slots.ensures in let d = c.from-slot.ensures in omega (arith, a, b, d))

pub returns-clause-within : goal.returns-clause-within
returns-clause-within c = subst (Within (resize_acts c.args.ticket.geometry c.args.tries_left)) (sym (c.moved-at.ensures.rest ∙ resumed_on c.args.ticket.geometry c.args.ticket.client c.cut-site.result c.args.ticket.site c.from-slot.result c.args.ticket.slot c.place_of.result c.saturating_sub.result c.args.ticket.word c.args.ticket.copy c.args.tries_left _ c.resumed.ensures.rest c.cut-site.ensures.value c.from-slot.ensures (c.place_of.ensures.place ∙ ap place_of c.from-slot.ensures) (let a = c.saturating_sub.ensures in let b = c.from-slots.ensures in let d = c.from-slot.ensures in omega (arith, a, b, d)))) (resume-within c.args.ticket c.args.tries_left)

pub returns-clause-safe : goal.returns-clause-safe
returns-clause-safe c = safe_as_resume c.args.ticket c.args.tries_left _ (c.moved-at.ensures.rest ∙ resumed_on c.args.ticket.geometry c.args.ticket.client c.cut-site.result c.args.ticket.site c.from-slot.result c.args.ticket.slot c.place_of.result c.saturating_sub.result c.args.ticket.word c.args.ticket.copy c.args.tries_left _ c.resumed.ensures.rest c.cut-site.ensures.value c.from-slot.ensures (c.place_of.ensures.place ∙ ap place_of c.from-slot.ensures) (let a = c.saturating_sub.ensures in let b = c.from-slots.ensures in let d = c.from-slot.ensures in omega (arith, a, b, d)))
