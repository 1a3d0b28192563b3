use Rattle.std.proofs.Common.{◌^◌, ◌<◌, ap, ◌∙◌, subst, arith}
use Rattle.node_words.specs.declared.geometry.Geometry.{Geometry}
use Rattle.image_audit.proofs.DirectoryWords.{last_fine, depth_bad, word_bad, rule_on}
use Rattle.image_audit.specs.Kept.{setting_of}
use Rattle.image_audit.proofs.entries.walk_directory.Goals as goal

pub returns-then-depth-from : goal.returns-then-depth-from
returns-then-depth-from g c = λ listed before. depth_bad (setting_of (g.M.Memory.shape c.args.memory.now) listed) (g.M.Memory.words c.args.memory.now) _ (λ r. let x = r.0 in let a = c.if-depth-from.true in let b = c.from.ensures in let e = c.word-depth.ensures in let f = ap (λ (v : Geometry). v.first_depth) c.geometry-geometry.ensures in omega arith) before

pub returns-then-depth-from-2 : goal.returns-then-depth-from-2
returns-then-depth-from-2 g c = λ listed before. depth_bad (setting_of (g.M.Memory.shape c.args.memory.now) listed) (g.M.Memory.words c.args.memory.now) _ (λ r. let x = r.1 in let a = c.if-depth-from-2.true in let b = c.from-2.ensures in let e = c.word-depth.ensures in let f = ap (λ (v : Geometry). v.max_depth) c.geometry-geometry.ensures in omega arith) before

pub returns-then-not-fine : goal.returns-then-not-fine
returns-then-not-fine g c = λ listed before. word_bad (setting_of (g.M.Memory.shape c.args.memory.now) listed) (g.M.Memory.words c.args.memory.now) _ c.loop-j.j (let a = c.if-depth-from.false in let b = c.from.ensures in let e = c.word-depth.ensures in let f = ap (λ (v : Geometry). v.first_depth) c.geometry-geometry.ensures in omega arith) (let a = c.if-depth-from-2.false in let b = c.from-2.ensures in let e = c.word-depth.ensures in let f = ap (λ (v : Geometry). v.max_depth) c.geometry-geometry.ensures in omega arith) c.loop-j.invariant (subst (λ v. c.loop-j.j < v) (c.two_to-count.ensures ∙ ap (λ (v : Geometry). 2 ^ v.max_depth) c.geometry-geometry.ensures) c.loop-j-test.true) (λ r. let x = c.is_named-fine.ensures.1 r in let y = c.if-not-fine.true in cc) before

pub loop-j-preserved : goal.loop-j-preserved
loop-j-preserved g c = rule_on _ _ c.loop-j.j c.loop-j.invariant (c.is_named-fine.ensures.0 c.if-not-fine.false)

pub returns : goal.returns
returns g c = λ listed before. last_fine (setting_of (g.M.Memory.shape c.args.memory.now) listed) (g.M.Memory.words c.args.memory.now) _ (let a = c.if-depth-from.false in let b = c.from.ensures in let e = c.word-depth.ensures in let f = ap (λ (v : Geometry). v.first_depth) c.geometry-geometry.ensures in omega arith) (let a = c.if-depth-from-2.false in let b = c.from-2.ensures in let e = c.word-depth.ensures in let f = ap (λ (v : Geometry). v.max_depth) c.geometry-geometry.ensures in omega arith) (λ k low. let n = (c.two_to-count.ensures ∙ ap (λ (v : Geometry). 2 ^ v.max_depth) c.geometry-geometry.ensures) in let a = c.loop-j-test.false in c.loop-j.invariant k (omega arith)) before
