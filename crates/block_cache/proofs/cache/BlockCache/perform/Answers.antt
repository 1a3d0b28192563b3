use Rattle.std.proofs.Common.{sym, subst}
use Rattle.verb_log.specs.declared.entry.Verb.TheVariants.{Read}
use Rattle.verbs.proofs.Safes.{seen-step}
use Rattle.block_cache.specs.Keeps.{Keeps}
use Rattle.block_cache.proofs.KeptLemmas.{keeps_step}
use Rattle.block_cache.proofs.cache.BlockCache.perform.Goals as goal

pub returns-in_default-clause-still : goal.returns-in_default-clause-still
returns-in_default-clause-still g c =
    let v = g.V.Verbs in
    let m = v.front c.perform.new.node in
    subst (λ h. (v.terms h).grows m m) (sym c.perform.ensures.home)
    (seen-step (v.terms (v.home c.args.node.now)) c.requires.again (v.front c.args.node.now) c.args.verb.now m c.perform.result c.requires.rule c.perform.ensures.step)

pub returns-in_default-clause-keeps : goal.returns-in_default-clause-keeps
returns-in_default-clause-keeps g c =
    let v = g.V.Verbs in
    let m = v.front c.perform.new.node in
    subst (λ h. Keeps (v.terms h) m c.args.self.now) (sym c.perform.ensures.home)
    (keeps_step (v.terms (v.home c.args.node.now)) c.requires.last (v.front c.args.node.now) m c.args.verb.now c.perform.result c.args.self.now c.requires.rule c.perform.ensures.step c.requires.keeps)

pub returns-clause-still : goal.returns-clause-still
returns-clause-still g c =
    let v = g.V.Verbs in
    let m = v.front c.read.new.node in
    subst (λ h. (v.terms h).grows m m) (sym c.read.ensures.home)
    (seen-step (v.terms (v.home c.args.node.now)) c.requires.again (v.front c.args.node.now) (Read c.in-Read.at) m c.read.result tt c.read.ensures.step)
