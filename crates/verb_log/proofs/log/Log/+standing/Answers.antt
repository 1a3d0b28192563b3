use Rattle.std.proofs.Common.{◌∙◌, ap, sym, reverse, take}
use Rattle.node_words.specs.declared.geometry.Geometry.{Geometry}
use Rattle.verb_log.specs.Standings.{next_standing, may_reach}
use Rattle.verb_log.specs.declared.standing.Standing.{Standing}
use Rattle.verb_log.proofs.Judged.{standing_on, standing_same}
use Rattle.verb_log.proofs.Told.{low_table}
use Rattle.verb_log.proofs.log.Log.+standing.Goals as goal
use Rattle.verb_log.proofs.log.Log.+standing.Goals.{then-may_reach, else-may_reach}

pub loop-k-preserved : goal.loop-k-preserved
loop-k-preserved t c =
    let g = c.args.self.now.geometry in
    let l = c.args.self.now.entries in
    let e = c.entry-entry.result in
    elim c.if-may_reach.branch [
      | then-may_reach w ↦
          w.standing-is
          ∙ w.after-standing.ensures
          ∙ ap (λ (h : Geometry). next_standing h e w.standing-there.result c.loop-k.standing c.args.at) c.geometry-geometry.ensures.value
          ∙ standing_on g l c.loop-k.k e w.standing-there.result c.loop-k.standing c.args.at c.entry-entry.ensures.there w.standing-there.ensures.standing c.loop-k.invariant
      | else-may_reach w ↦
          w.standing-is
          ∙ standing_same g l c.loop-k.k e c.loop-k.standing c.args.at c.entry-entry.ensures.there
          (ap (λ (h : Geometry). may_reach h e c.args.at) (sym c.geometry-geometry.ensures.value) ∙ sym c.may_reach.ensures ∙ w.if-may_reach.false) c.loop-k.invariant
    ]

pub returns-clause-below : goal.returns-clause-below
returns-clause-below t c = low_table c.args.self.now.geometry (reverse (take c.loop-k.k c.args.self.now.entries)) c.args.at c.loop-k.standing.table (ap (λ (s : Standing). s.table) c.loop-k.invariant)
