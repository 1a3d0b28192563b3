use Rattle.std.proofs.Common.{◌∙◌, ap, ℕ, ◌+◌, ◌*◌, ◌/◌}
use Rattle.std.specs.Prelude.{max, min}
use Rattle.verb_log.proofs.Reaching.{taken_span}
use Rattle.verb_log.proofs.reach.moved_across.Goals as goal

pub returns : goal.returns
returns c = λ a.
    let g = c.args.geometry.now in
    let e = c.args.entry.now in
    taken_span g e c.max-from.result c.min.result c.saturating_sub.result a
    (c.max-from.ensures ∙ ap (λ (n : ℕ). max e.old (e.at / (g.words / n) * (g.words / n))) c.from.ensures)
    (c.min.ensures ∙ ap (λ (n : ℕ). min e.new (e.at / (g.words / n) * (g.words / n) + g.words / n)) c.from.ensures)
    c.saturating_sub.ensures
