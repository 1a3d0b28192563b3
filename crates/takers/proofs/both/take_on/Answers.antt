use Rattle.std.proofs.Common.{rules, ◌≡◌, ℕ, List, Option, Some, IfSome, reverse, sym, ap, subst, ◌∙◌}
use Rattle.key_hash.specs.Placing.{placed}
use Rattle.node_words.specs.Addresses.{node_size}
use Rattle.verbs.specs.Programs.{Within}
use Rattle.verbs.specs.Safe.{Safe, Anything}
use Rattle.verbs.proofs.Progs.{ret-by-outcome}
use Rattle.verbs.proofs.Safes.{Safe-end, Safe-ran}
use Rattle.log_facts.specs.Among.{among}
use Rattle.client_seat.specs.Seated.{Home, Seated}
use Rattle.takers.specs.Rest.{rest}
use Rattle.takers.specs.Stored.{StoredSome, HasStored}
use Rattle.takers.proofs.Safety.{size_is, take_runs, taker_within, stored_if}
use Rattle.takers.proofs.both.take_on.Goals as goal

pub run_on-requires-clause-safe : goal.run_on-requires-clause-safe
run_on-requires-clause-safe g c κs within =
    let node = c.of-node.result in
    let s = node.home.setting in
    let home : node.home ≡ c.args.memory.now = ap (λ (x : Seated). x.home) c.of-node.ensures.seat ∙ c.requires in
    let is = size_is c.geometry-geometry.result s.geometry c.from.result (c.geometry-geometry.ensures ∙ ap (λ (h : Home). h.setting.geometry) (sym home)) (search rules) in
    Safe-end (among s node.client) (placed (g.P.Placer.listed c.placer.result.now)) node.front (rest c.new-taker.result) _ Anything (λ m a h. tt)
    (take_runs s node.client _ c.args.word node.front (g.P.Placer.listed c.placer.result.now) (rest c.new-taker.result) is (c.placer.ensures ∙ ap (λ (h : Home). h.setting.listed) (sym home)) c.new-taker.ensures c.keep.ensures.legal)

pub returns-clause-stored : goal.returns-clause-stored
returns-clause-stored g c =
    let node = c.of-node.result in
    let s = node.home.setting in
    let home : node.home ≡ c.args.memory.now = ap (λ (x : Seated). x.home) c.of-node.ensures.seat ∙ c.requires in
    let is = size_is c.geometry-geometry.result s.geometry c.from.result (c.geometry-geometry.ensures ∙ ap (λ (h : Home). h.setting.geometry) (sym home)) (search rules) in
    let safe = take_runs s node.client _ c.args.word node.front (g.P.Placer.listed c.placer.result.now) (rest c.new-taker.result) is (c.placer.ensures ∙ ap (λ (h : Home). h.setting.listed) (sym home)) c.new-taker.ensures c.keep.ensures.legal in
    let ran = c.run_on.ensures.ran in
    let left = rest c.run_on.new.machine in
    let ended = ret-by-outcome left c.in-Some.taken (sym c.outcome-taken.ensures ∙ c.in-Some.is) in
    let front = c.run_on.new.node.front in
    let end = Safe-ran (among s node.client) (placed (g.P.Placer.listed c.placer.result.now)) node.front (rest c.new-taker.result) (λ m r. StoredSome s node.client c.args.word (reverse m) r) ran.0 front left ran.1 safe in
    let stored = subst (λ q. Safe (among s node.client) (placed (g.P.Placer.listed c.placer.result.now)) front q (λ m r. StoredSome s node.client c.args.word (reverse m) r)) ended end in
    subst (λ (x : Home). IfSome c.in-Some.taken (λ first. HasStored x.setting c.args.seat.client c.args.word c.leave-seat.result.front first)) home
    (subst (λ (n : ℕ). IfSome c.in-Some.taken (λ first. HasStored s n c.args.word c.leave-seat.result.front first)) (ap (λ (x : Seated). x.client) c.of-node.ensures.seat)
    (subst (λ (x : Seated). IfSome c.in-Some.taken (λ first. HasStored s node.client c.args.word x.front first)) (sym c.leave-seat.ensures)
    (stored_if s node.client c.args.word front c.in-Some.taken stored)))

pub run_on-requires-clause-within : goal.run_on-requires-clause-within
run_on-requires-clause-within g c κs within = subst (Within 5) (sym c.new-taker.ensures) (taker_within _ c.args.word)
