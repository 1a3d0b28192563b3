use Rattle.std.proofs.Common.{rules, ◌∙◌, ℕ, ◌+◌, List, [], ◌∷◌, sym, ap, subst, arith, append-nil, length-append}
use Rattle.std.specs.Prelude.{◌++◌, refl}
use Rattle.key_hash.specs.Placing.{placed}
use Rattle.verbs.specs.Programs.{Act}
use Rattle.verbs.specs.Terms.{Acted, HasRoom}
use Rattle.verbs.specs.Safe.{Safe, Anything}
use Rattle.verbs.specs.Calls.{SafeCall, AnyEnd, on_handle, RanCall}
use Rattle.verbs.proofs.Growth.{begins-then}
use Rattle.verbs.proofs.Safes.{HasRoom-less, told-none}
use Rattle.verbs.proofs.Calls.{SafeCall-safe, SafeCall-step, RanCall-more}
use Rattle.block_cache.specs.Cache.{went_act}
use Rattle.block_cache.specs.Keeps.{Keeps}
use Rattle.block_cache.proofs.KeptLemmas.{went_more, told_acts}
use Rattle.block_cache.proofs.driver.run_cached.Goals as goal

pub advance_cached-requires-clause-safe : goal.advance_cached-requires-clause-safe
advance_cached-requires-clause-safe g c κs within =
    let v = g.V.Verbs in
    let m = g.C.Call in
    let inv = c.loop-done.invariant in
    let t = v.terms (v.home c.args.node.now) in
    let hash = placed (g.P.Placer.listed c.args.placer.now) in
    subst (λ h. Safe (v.terms h) hash (v.front c.loop-done.node) (m.rest c.loop-done.call) Anything) (sym inv.home)
    (SafeCall-safe (on_handle t hash m.part) AnyEnd inv.safe.0 tt (v.front c.loop-done.node) (m.rest c.loop-done.call) inv.safe.1)

pub advance_cached-requires-clause-room : goal.advance_cached-requires-clause-room
advance_cached-requires-clause-room g c κs within =
    let lt = c.loop-done-test.true in
    c.loop-done.invariant.room 1 (HasRoom-less (c.loop-done._done + 1) c.args.limit (g.V.Verbs.room c.args.node.now) (omega arith) c.requires.room)

pub loop-done-preserved : goal.loop-done-preserved
loop-done-preserved g c =
    let v = g.V.Verbs in
    let m = g.C.Call in
    let inv = c.loop-done.invariant in
    let w = c.advance_cached.ensures.went (search rules) in
    let t = v.terms (v.home c.args.node.now) in
    let hash = placed (g.P.Placer.listed c.args.placer.now) in
    let acted = subst (λ h. Acted (v.terms h) hash (v.front c.loop-done.node) w.0 (v.front c.advance_cached.new.node) w.1) inv.home w.3 in
    let more : List (Act × ℕ) = (w.0, w.1) ∷ [] in
    let next = SafeCall-step (on_handle t hash m.part) AnyEnd inv.safe.0 tt (v.front c.loop-done.node) (m.rest c.loop-done.call) w.0 (v.front c.advance_cached.new.node) w.1 w.2 acted inv.safe.1 in
    record {
      safe = (
        next.left,
        subst (λ q. SafeCall (on_handle t hash m.part) next.left tt (v.front c.advance_cached.new.node) q AnyEnd) (sym w.4) next.safe,
        (let one = next.fewer in let all = inv.safe.2 in omega arith),
      );
      ran = (
        inv.ran.0 ++ more,
        subst (λ q. RanCall t hash m.part (v.front c.args.node.now) (m.rest c.args.call.now) (inv.ran.0 ++ more) (v.front c.advance_cached.new.node) q) (sym w.4)
            (RanCall-more t hash m.part (v.front c.args.node.now) (m.rest c.args.call.now) inv.ran.0 (v.front c.loop-done.node) (m.rest c.loop-done.call) w.0 (v.front c.advance_cached.new.node) w.1 inv.ran.1 w.2 acted),
        w.5 ∙ ap (λ x. went_act x w.0 w.1) inv.ran.2 ∙ sym (went_more c.args.cache.now inv.ran.0 w.0 w.1),
        told_acts (v.trace c.args.node.now) (v.trace c.loop-done.node) (v.trace c.advance_cached.new.node) c.args.cache.now c.loop-done.cache inv.ran.0 w.0 w.1 inv.ran.2 inv.ran.3 w.6,
        (let few = inv.ran.4 in let long = length-append inv.ran.0 more in omega arith),
      );
      still = subst (λ h. (v.terms h).grows (v.front c.advance_cached.new.node) (v.front c.advance_cached.new.node)) (c.advance_cached.ensures.home ∙ inv.home) c.advance_cached.ensures.still;
      keeps = subst (λ h. Keeps (v.terms h) (v.front c.advance_cached.new.node) c.advance_cached.new.cache) (c.advance_cached.ensures.home ∙ inv.home) c.advance_cached.ensures.keeps;
      kept = c.advance_cached.ensures.kept ∙ inv.kept;
      longer = begins-then (v.front c.args.node.now) (v.front c.loop-done.node) (v.front c.advance_cached.new.node) inv.longer c.advance_cached.ensures.longer;
      home = c.advance_cached.ensures.home ∙ inv.home;
      room = λ n h. c.advance_cached.ensures.room n (inv.room (n + 1) (HasRoom-less (c.loop-done._done + (n + 1)) (c.loop-done._done + 1 + n) (v.room c.args.node.now) (omega arith) h));
    }

pub loop-done-init : goal.loop-done-init
loop-done-init g c =
    let v = g.V.Verbs in
    record {
      safe = (c.args.limit, c.requires.safe, omega arith);
      ran = ([], (refl, refl), refl, told-none (v.trace c.args.node.now), refl);
      still = c.requires.still;
      keeps = c.requires.keeps;
      kept = refl;
      longer = ([], sym (append-nil (v.front c.args.node.now)));
      home = refl;
      room = λ n h. HasRoom-less n (0 + n) (v.room c.args.node.now) (omega arith) h;
    }

pub returns-then-not-advance_cached-clause-ran : goal.returns-then-not-advance_cached-clause-ran
returns-then-not-advance_cached-clause-ran g c =
    let v = g.V.Verbs in
    let m = g.C.Call in
    let inv = c.loop-done.invariant in
    let t = v.terms (v.home c.args.node.now) in
    let hash = placed (g.P.Placer.listed c.args.placer.now) in
    let same = c.advance_cached.ensures.ended (search rules) in (
      inv.ran.0,
      subst (λ x. RanCall t hash m.part (v.front c.args.node.now) (m.rest c.args.call.now) inv.ran.0 (v.front x) (m.rest c.advance_cached.new.call)) (sym same.2)
          (subst (λ x. RanCall t hash m.part (v.front c.args.node.now) (m.rest c.args.call.now) inv.ran.0 (v.front c.loop-done.node) (m.rest x)) (sym same.1) inv.ran.1),
      same.3 ∙ inv.ran.2,
      ap v.trace same.2 ∙ inv.ran.3,
      (let all = inv.safe.2 in let count = inv.ran.4 in omega arith),
    )

pub returns-then-not-advance_cached-clause-room : goal.returns-then-not-advance_cached-clause-room
returns-then-not-advance_cached-clause-room g c n h =
    let room = g.V.Verbs.room in
    let inv = c.loop-done.invariant in
    let all = inv.safe.2 in
    subst (λ x. HasRoom n (room x)) (sym (c.advance_cached.ensures.ended (search rules)).2)
    (inv.room n (HasRoom-less (c.loop-done._done + n) (c.args.limit + n) (room c.args.node.now) (omega arith) h))

pub returns-clause-room : goal.returns-clause-room
returns-clause-room g c n h =
    let inv = c.loop-done.invariant in
    let all = inv.safe.2 in
    inv.room n (HasRoom-less (c.loop-done._done + n) (c.args.limit + n) (g.V.Verbs.room c.args.node.now) (omega arith) h)
