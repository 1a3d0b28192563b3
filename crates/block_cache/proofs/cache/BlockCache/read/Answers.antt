use Rattle.std.proofs.Common.{◌≡◌, sym, ap, subst, ◌∙◌}
use Rattle.std.specs.Prelude.{IfSome, slice_index}
use Rattle.block_cache.specs.declared.recent.KeptBlock.{KeptBlock}
use Rattle.block_cache.specs.Cache.{Cache, HasWord, begun}
use Rattle.block_cache.specs.Recent.{first}
use Rattle.block_cache.specs.Keeps.{Keeps}
use Rattle.block_cache.proofs.KeptLemmas.{fronted_word, fronted_step, next_step, keeps_front, keeps_served, begin_least, begin_most, keeps_begun, keeps_taken}
use Rattle.block_cache.proofs.cache.BlockCache.read.Goals as goal

pub serve-requires : goal.serve-requires
serve-requires g c =
    let v = g.V.Verbs in
    let t = v.terms (v.home c.args.node.now) in
    subst (λ (x : Cache). HasWord 0 x.kept) (sym c.if-front.ensures.cache) (fronted_word t c.requires.last (v.front c.args.node.now) c.args.self.now c.args.block c.requires.keeps c.if-front.ensures.found)

pub returns-then-front-clause-step : goal.returns-then-front-clause-step
returns-then-front-clause-step g c =
    let v = g.V.Verbs in
    let t = v.terms (v.home c.args.node.now) in
    fronted_step t c.requires.last (v.front c.args.node.now) c.args.self.now c.args.block c.args.at c.serve.result c.requires.still c.requires.keeps c.if-front.ensures.found c.if-at-block.true
    (subst (λ (x : Cache). IfSome (first x.kept) (λ (held : KeptBlock). c.serve.result ≡ slice_index held.words 0)) c.if-front.ensures.cache c.serve.ensures.word)

pub returns-then-front-clause-keeps : goal.returns-then-front-clause-keeps
returns-then-front-clause-keeps g c =
    let v = g.V.Verbs in
    let t = v.terms (v.home c.args.node.now) in
    let l = v.front c.args.node.now in
    subst (Keeps t l) (sym c.serve.ensures.cache) (keeps_served t c.requires.last l c.front.new.self 0
    (subst (Keeps t l) (sym c.if-front.ensures.cache) (keeps_front t c.requires.last l c.args.self.now c.args.block c.requires.keeps)))

pub begin-requires-clause-least : goal.begin-requires-clause-least
begin-requires-clause-least g c =
    let v = g.V.Verbs in
    begin_least (v.terms (v.home c.args.node.now)) c.requires.last (v.front c.args.node.now) (v.front c.read-word.new.self) c.args.block c.args.at c.read-word.result c.read-word.ensures.step c.if-at-block.true c.requires.reads

pub begin-requires-clause-most : goal.begin-requires-clause-most
begin-requires-clause-most g c =
    let v = g.V.Verbs in
    begin_most (v.terms (v.home c.args.node.now)) c.requires.last (v.front c.args.node.now) (v.front c.read-word.new.self) c.args.block c.args.at c.read-word.result c.read-word.ensures.step c.if-at-block.true c.requires.reads

pub returns-then-at-block-clause-keeps : goal.returns-then-at-block-clause-keeps
returns-then-at-block-clause-keeps g c =
    let v = g.V.Verbs in
    let t = v.terms (v.home c.args.node.now) in
    let m = v.front c.read-word.new.self in
    subst (λ h. Keeps (v.terms h) m c.begin.new.self) (sym c.read-word.ensures.home)
    (subst (Keeps t m) (sym (c.begin.ensures ∙ ap (λ (x : Cache). begun x c.args.block c.read-word.result) c.front.ensures.cache))
    (keeps_begun t c.requires.last (v.front c.args.node.now) m c.args.self.now c.args.block c.args.at c.read-word.result c.read-word.ensures.step c.if-at-block.true c.requires.reads c.requires.keeps))

pub returns-clause-keeps : goal.returns-clause-keeps
returns-clause-keeps g c =
    let v = g.V.Verbs in
    let t = v.terms (v.home c.args.node.now) in
    let m = v.front c.read-word-2.new.self in
    subst (λ h. Keeps (v.terms h) m c.take.new.self) (sym c.read-word-2.ensures.home)
    (subst (Keeps t m) (sym c.take.ensures)
    (keeps_taken t c.requires.last (v.front c.args.node.now) m c.args.self.now c.args.block c.args.at c.read-word-2.result c.read-word-2.ensures.step c.requires.keeps))

pub returns-in-Some-clause-step : goal.returns-in-Some-clause-step
returns-in-Some-clause-step g c =
    let v = g.V.Verbs in
    let t = v.terms (v.home c.args.node.now) in
    next_step t c.requires.last (v.front c.args.node.now) c.args.self.now c.args.block c.args.at c.in-Some.next c.serve-in-Some.result c.requires.still c.requires.keeps c.in-Some.ensures.word c.in-Some.ensures.next c.serve-in-Some.ensures.word
