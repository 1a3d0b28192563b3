use Rattle.std.proofs.Common.{sym}
use Rattle.key_hash.specs.Placing.{placed}
use Rattle.verbs.proofs.Safes.{allowed_alone}
use Rattle.verb_core.proofs.player.Open.go.Goals as goal

pub verb-verb-requires-clause-some : goal.verb-verb-requires-clause-some
verb-verb-requires-clause-some g c = (placed (g.P.Placer.listed c.args.placer.now), c.requires.may.some)

pub perform-word-requires-clause-rule : goal.perform-word-requires-clause-rule
perform-word-requires-clause-rule g c =
    let hash = placed (g.P.Placer.listed c.args.placer.now) in
    allowed_alone (record { geometry = c.args.node.now.log.geometry; client = c.args.node.now.client }) c.args.node.now.log.entries c.verb-verb.result
    (c.requires.may.place c.verb-verb.result (sym (c.verb-verb.ensures hash)))
