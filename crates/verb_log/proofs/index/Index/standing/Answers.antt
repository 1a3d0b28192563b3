use Rattle.std.proofs.Common.{subst, sym, ◌<◌, ◌∙◌, ℕ, reverse, take}
use Rattle.verb_log.proofs.Judged.{standing_is}
use Rattle.verb_log.proofs.Told.{told_taken, told_published}
use Rattle.verb_log.proofs.index.Index.standing.Goals as goal

pub returns-clause-standing : goal.returns-clause-standing
returns-clause-standing c =
    standing_is c.args.geometry.now (reverse (take c.args.n c.args.entries.now)) c.args.at c.table_at.ensures.table
    (c.was_before.ensures ∙ told_taken c.args.geometry.now c.args.entries.now c.args.self.now.taken.items c.args.n c.args.at _ c.requires.tells.taken (subst (λ (n : ℕ). c.args.at < n) (sym c.requires.tells.taken_long) c.requires.at) c.requires.position c.index.ensures)
    (c.was_before-2.ensures ∙ told_published c.args.geometry.now c.args.entries.now c.args.self.now.published.items c.args.n c.args.at _ c.requires.tells.published (subst (λ (n : ℕ). c.args.at < n) (sym c.requires.tells.published_long) c.requires.at) c.requires.position c.index-2.ensures)
