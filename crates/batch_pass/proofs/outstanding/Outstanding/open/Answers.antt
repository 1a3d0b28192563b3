use Rattle.std.proofs.Common.{◌≡◌, ℕ, false, refl, subst, arith}
use Rattle.std.specs.Prelude.{List, Bool, take, replicate}
use Rattle.batch_pass.proofs.Opens.{open_all, posted_new}
use Rattle.batch_pass.proofs.outstanding.Outstanding.open.Goals as goal

-- those before the last place are all
fresh : (done : List Bool) (n k : ℕ) → n ≡ k → take n done ≡ replicate n false → take k done ≡ replicate k false
fresh done n k e h = subst (λ i. take i done ≡ replicate i false) e h

pub returns-clause-wait : goal.returns-clause-wait
returns-clause-wait c =
    let e : c.loop-place.place ≡ c.args.count = omega (arith, c.loop-place.auto.place-end, c.loop-place-test.false) in
    open_all c.args.count c.loop-place.self.done (fresh c.loop-place.self.done c.loop-place.place c.args.count e c.loop-place.invariant.fresh)

pub returns-clause-post : goal.returns-clause-post
returns-clause-post c = λ block ats go_on long.
    let e : c.loop-place.place ≡ c.args.count = omega (arith, c.loop-place.auto.place-end, c.loop-place-test.false) in
    posted_new block ats c.loop-place.self.words c.loop-place.self.done c.args.count c.args.count go_on long refl (omega (arith, c.loop-place.self.words_long, c.requires)) (fresh c.loop-place.self.done c.loop-place.place c.args.count e c.loop-place.invariant.fresh)
