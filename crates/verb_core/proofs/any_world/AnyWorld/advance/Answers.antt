use Rattle.std.proofs.Common.{◌≡◌, ◌<◌, ◌≤◌, ◌+◌, List, ◌∷◌, [], ◌++◌, length, sym, ap, subst, refl, ◌∙◌, arith}
use Rattle.std.specs.Prelude.{IsSome, slice_set, true, false}
use Rattle.key_hash.specs.Placing.{placed}
use Rattle.node_words.specs.declared.geometry.Geometry.{Geometry}
use Rattle.map_model.specs.Machine.{change_of}
use Rattle.map_model.specs.declared.records.Record.{Record}
use Rattle.verb_log.specs.Recorded.{Recorded}
use Rattle.race_laws.specs.Setting.{Setting}
use Rattle.log_facts.specs.Among.{changes_of}
use Rattle.world_texts.specs.Sorts.{onward}
use Rattle.verb_core.specs.Play.{Play, going_of}
use Rattle.verb_core.specs.Schedules.{IsIdle, left_in}
use Rattle.verb_core.proofs.Caught.{caught_up, kept_world, timed_none, turn_told}
use Rattle.verb_core.proofs.Stages.{Gone, Closed, turned_on, turned_done, ended_with}
use Rattle.verb_core.specs.declared.player.Told.{Told}
use Rattle.verb_core.specs.declared.player.Open.{Open}
use Rattle.verb_core.proofs.Ready.{there_at, ready_at, one_open, call_below, few, settled, opened, may_go, lo_low}
use Rattle.verb_core.proofs.Played.{IsTold, IsRecord, verbed_from, went, ended, only_open, none_open, same_call, told_quiet}
use Rattle.verb_core.proofs.any_world.AnyWorld.advance.Goals as goal

pub returns-then-is_idle-clause-idle : goal.returns-then-is_idle-clause-idle
returns-then-is_idle-clause-idle g c =
    let s : Setting = record { geometry = c.self.inside.node.log.geometry; listed = g.P.Placer.listed c.self.inside.placer } in
    let low : c.args.client < length c.self.inside.players.items = subst (λ (w : Play g.row.M.Denot). c.args.client < length w.players) (sym c.self.view_is) c.requires in
    λ _. (
      subst (λ (w : Play g.row.M.Denot). IsIdle w c.args.client) c.self.view_is
          (record { plan = c.get-plan.result.now; planned = c.get-plan.ensures; player = c.index-player.result.now; there = there_at c.self.inside.players.items c.args.client c.index-player.result.now low c.index-player.ensures; idle = sym c.is_idle.ensures ∙ c.if-is_idle.true }),
      refl,
      λ n. refl,
    )

pub invariant_of-self-in_err-reserve : goal.invariant_of-self-in_err-reserve
invariant_of-self-in_err-reserve g c =
    let s : Setting = record { geometry = c.self.inside.node.log.geometry; listed = g.P.Placer.listed c.self.inside.placer } in
    caught_up g.M.Playable.kind s c.self.inside.plans.items c.self.inside.node.log.entries c.reserve.new.self.log.entries c.self.inside.players.items c.self.inside.records.items c.self.inside.records.items c.self.inside.timeline c.catch_up.new.timeline c.self.inside.pending c.catch_up.new.pending c.reserve.new.self.log.geometry
    c.self.invariant c.in_ok-catch_up.ensures.ok.0 c.in_ok-catch_up.ensures.ok.1 (c.reserve.ensures.geometry ∙ ap (λ (x : Recorded). x.geometry) c.turn.ensures.log) (c.reserve.ensures.entries ∙ ap (λ (x : Recorded). x.entries) c.turn.ensures.log) refl

pub invariant_of-self-in_err-reserve-2 : goal.invariant_of-self-in_err-reserve-2
invariant_of-self-in_err-reserve-2 g c =
    let s : Setting = record { geometry = c.self.inside.node.log.geometry; listed = g.P.Placer.listed c.self.inside.placer } in
    caught_up g.M.Playable.kind s c.self.inside.plans.items c.self.inside.node.log.entries c.reserve.new.self.log.entries c.self.inside.players.items c.self.inside.records.items c.reserve-2.new.self.items c.self.inside.timeline c.catch_up.new.timeline c.self.inside.pending c.catch_up.new.pending c.reserve.new.self.log.geometry
    c.self.invariant c.in_ok-catch_up.ensures.ok.0 c.in_ok-catch_up.ensures.ok.1 (c.reserve.ensures.geometry ∙ ap (λ (x : Recorded). x.geometry) c.turn.ensures.log) (c.reserve.ensures.entries ∙ ap (λ (x : Recorded). x.entries) c.turn.ensures.log) c.reserve-2.ensures.items

pub begin-requires-clause-some : goal.begin-requires-clause-some
begin-requires-clause-some g c κs within =
    let kind = g.M.Playable.kind in
    let hash = placed (g.P.Placer.listed c.self.inside.placer) in
    let s : Setting = record { geometry = c.self.inside.node.log.geometry; listed = g.P.Placer.listed c.self.inside.placer } in
    let l = c.self.inside.node.log.entries in
    let plans = c.self.inside.plans.items in
    let players = c.self.inside.players.items in
    let records = c.self.inside.records.items in
    let timeline = c.catch_up.new.timeline in
    let client = c.args.client in
    let plan = c.get-plan.result.now in
    let p = c.index_mut-player.result.now in
    let low : client < length players = subst (λ (w : Play g.row.M.Denot). client < length w.players) (sym c.self.view_is) c.requires in
    let r = ready_at kind s plans l players records c.self.inside.timeline c.self.inside.pending timeline client plan c.index-player.result.now p c.self.invariant c.in_ok-catch_up.ensures.ok.0 low c.get-plan.ensures c.index-player.ensures c.index_mut-player.ensures.value (sym c.is_idle.ensures ∙ c.if-is_idle.false) in
    λ _. call_below kind s plans l players records timeline client plan p r

pub begin-requires-clause-settled : goal.begin-requires-clause-settled
begin-requires-clause-settled g c κs within =
    let kind = g.M.Playable.kind in
    let hash = placed (g.P.Placer.listed c.self.inside.placer) in
    let s : Setting = record { geometry = c.self.inside.node.log.geometry; listed = g.P.Placer.listed c.self.inside.placer } in
    let l = c.self.inside.node.log.entries in
    let plans = c.self.inside.plans.items in
    let players = c.self.inside.players.items in
    let records = c.self.inside.records.items in
    let timeline = c.catch_up.new.timeline in
    let client = c.args.client in
    let plan = c.get-plan.result.now in
    let p = c.index_mut-player.result.now in
    let low : client < length players = subst (λ (w : Play g.row.M.Denot). client < length w.players) (sym c.self.view_is) c.requires in
    let r = ready_at kind s plans l players records c.self.inside.timeline c.self.inside.pending timeline client plan c.index-player.result.now p c.self.invariant c.in_ok-catch_up.ensures.ok.0 low c.get-plan.ensures c.index-player.ensures c.index_mut-player.ensures.value (sym c.is_idle.ensures ∙ c.if-is_idle.false) in
    settled kind s plans l players records timeline client plan p r

pub go-requires-clause-may : goal.go-requires-clause-may
go-requires-clause-may g c κs within =
    let kind = g.M.Playable.kind in
    let hash = placed (g.P.Placer.listed c.self.inside.placer) in
    let s : Setting = record { geometry = c.self.inside.node.log.geometry; listed = g.P.Placer.listed c.self.inside.placer } in
    let l = c.self.inside.node.log.entries in
    let plans = c.self.inside.plans.items in
    let players = c.self.inside.players.items in
    let records = c.self.inside.records.items in
    let timeline = c.catch_up.new.timeline in
    let client = c.args.client in
    let plan = c.get-plan.result.now in
    let p = c.index_mut-player.result.now in
    let low : client < length players = subst (λ (w : Play g.row.M.Denot). client < length w.players) (sym c.self.view_is) c.requires in
    let r = ready_at kind s plans l players records c.self.inside.timeline c.self.inside.pending timeline client plan c.index-player.result.now p c.self.invariant c.in_ok-catch_up.ensures.ok.0 low c.get-plan.ensures c.index-player.ensures c.index_mut-player.ensures.value (sym c.is_idle.ensures ∙ c.if-is_idle.false) in
    let o = opened kind s plans l players records timeline client plan p r c.len-lo.result c.begin.new.self c.begin.ensures.state c.begin.ensures.answered c.begin.ensures.verbs c.begin.ensures.open c.begin.ensures.limits in
    let geometry : c.reserve.new.self.log.geometry ≡ s.geometry = c.reserve.ensures.geometry ∙ ap (λ (x : Recorded). x.geometry) c.turn.ensures.log in
    let entries : c.reserve.new.self.log.entries ≡ l = c.reserve.ensures.entries ∙ ap (λ (x : Recorded). x.entries) c.turn.ensures.log in
    let turned_to : c.reserve.new.self.client ≡ client = c.reserve.ensures.client ∙ c.turn.ensures.client in
    (o.o, o.begun.under, may_go kind s plans l players records timeline client plan p r c.law_safe.ensures o.call o.which o.limits c.len-lo.result c.len-lo.ensures c.begin.new.self o.o o.begun c.choose-choice.result c.reserve.new.self.log.geometry.words (ap (λ (x : Geometry). x.words) geometry) o.none)

pub go-requires-clause-room : goal.go-requires-clause-room
go-requires-clause-room g c κs within = c.in_ok-reserve.ensures.room

pub go-requires-clause-few : goal.go-requires-clause-few
go-requires-clause-few g c κs within =
    let kind = g.M.Playable.kind in
    let hash = placed (g.P.Placer.listed c.self.inside.placer) in
    let s : Setting = record { geometry = c.self.inside.node.log.geometry; listed = g.P.Placer.listed c.self.inside.placer } in
    let l = c.self.inside.node.log.entries in
    let plans = c.self.inside.plans.items in
    let players = c.self.inside.players.items in
    let records = c.self.inside.records.items in
    let timeline = c.catch_up.new.timeline in
    let client = c.args.client in
    let plan = c.get-plan.result.now in
    let p = c.index_mut-player.result.now in
    let low : client < length players = subst (λ (w : Play g.row.M.Denot). client < length w.players) (sym c.self.view_is) c.requires in
    let r = ready_at kind s plans l players records c.self.inside.timeline c.self.inside.pending timeline client plan c.index-player.result.now p c.self.invariant c.in_ok-catch_up.ensures.ok.0 low c.get-plan.ensures c.index-player.ensures c.index_mut-player.ensures.value (sym c.is_idle.ensures ∙ c.if-is_idle.false) in
    let h = (few kind s plans l players records timeline client plan p r).0 in
    let same = c.begin.ensures.verbs in
    omega arith

pub invariant_of-self-then-not-go : goal.invariant_of-self-then-not-go
invariant_of-self-then-not-go g c =
    let kind = g.M.Playable.kind in
    let hash = placed (g.P.Placer.listed c.self.inside.placer) in
    let s : Setting = record { geometry = c.self.inside.node.log.geometry; listed = g.P.Placer.listed c.self.inside.placer } in
    let l = c.self.inside.node.log.entries in
    let plans = c.self.inside.plans.items in
    let players = c.self.inside.players.items in
    let records = c.self.inside.records.items in
    let timeline = c.catch_up.new.timeline in
    let client = c.args.client in
    let plan = c.get-plan.result.now in
    let p = c.index_mut-player.result.now in
    let low : client < length players = subst (λ (w : Play g.row.M.Denot). client < length w.players) (sym c.self.view_is) c.requires in
    let r = ready_at kind s plans l players records c.self.inside.timeline c.self.inside.pending timeline client plan c.index-player.result.now p c.self.invariant c.in_ok-catch_up.ensures.ok.0 low c.get-plan.ensures c.index-player.ensures c.index_mut-player.ensures.value (sym c.is_idle.ensures ∙ c.if-is_idle.false) in
    let o = opened kind s plans l players records timeline client plan p r c.len-lo.result c.begin.new.self c.begin.ensures.state c.begin.ensures.answered c.begin.ensures.verbs c.begin.ensures.open c.begin.ensures.limits in
    let geometry : c.reserve.new.self.log.geometry ≡ s.geometry = c.reserve.ensures.geometry ∙ ap (λ (x : Recorded). x.geometry) c.turn.ensures.log in
    let entries : c.reserve.new.self.log.entries ≡ l = c.reserve.ensures.entries ∙ ap (λ (x : Recorded). x.entries) c.turn.ensures.log in
    let turned_to : c.reserve.new.self.client ≡ client = c.reserve.ensures.client ∙ c.turn.ensures.client in
    let q = c.if-not-go.ensures.went o.o o.begun.under in
    let m = c.go.new.node.log.entries in
    let n = c.go.new.self in
    let gone : Gone c.begin.new.self n q.0 = record { state = c.go.ensures.state; answered = c.go.ensures.answered; verbs = c.go.ensures.verbs; under = q.1 } in
    let node = c.reserve.new.self in
    let choice = c.choose-choice.result in
    let geometry2 : c.go.new.node.log.geometry ≡ s.geometry = c.go.ensures.geometry ∙ geometry in
    let kept : c.reserve-2.new.self.items ≡ records = c.reserve-2.ensures.items in
    let turned = turned_on kind hash node.log.geometry node.client node.log.entries m c.len-lo.result o.call p c.begin.new.self n o.o q.0 choice o.begun q.2 gone in
    let v = verbed_from kind s plans l m players records timeline client plan p n o.call choice false r.kept r.timed r.planned r.there r.active o.which o.limits node.log.geometry node.client node.log.entries c.len-lo.result geometry turned_to entries c.len-lo.ensures (going_of kind hash o.o) q.2.word turned (only_open kind n q.0 q.1 q.2.settled) in
    let h = went g.row.M.Denot kind c.law_safe.ensures s plans l m players records timeline client plan p n o.call choice (going_of kind hash o.o) q.2.word v in
    kept_world kind s plans m (slice_set players client n) records c.reserve-2.new.self.items timeline c.catch_up.new.pending c.go.new.node.log.geometry h.kept (timed_none timeline (changes_of s m) c.catch_up.new.pending c.in_ok-catch_up.ensures.ok.1 h.timed) geometry2 kept

pub returns-then-not-go-clause-went : goal.returns-then-not-go-clause-went
returns-then-not-go-clause-went g c =
    let kind = g.M.Playable.kind in
    let hash = placed (g.P.Placer.listed c.self.inside.placer) in
    let s : Setting = record { geometry = c.self.inside.node.log.geometry; listed = g.P.Placer.listed c.self.inside.placer } in
    let l = c.self.inside.node.log.entries in
    let plans = c.self.inside.plans.items in
    let players = c.self.inside.players.items in
    let records = c.self.inside.records.items in
    let timeline = c.catch_up.new.timeline in
    let client = c.args.client in
    let plan = c.get-plan.result.now in
    let p = c.index_mut-player.result.now in
    let low : client < length players = subst (λ (w : Play g.row.M.Denot). client < length w.players) (sym c.self.view_is) c.requires in
    let r = ready_at kind s plans l players records c.self.inside.timeline c.self.inside.pending timeline client plan c.index-player.result.now p c.self.invariant c.in_ok-catch_up.ensures.ok.0 low c.get-plan.ensures c.index-player.ensures c.index_mut-player.ensures.value (sym c.is_idle.ensures ∙ c.if-is_idle.false) in
    let o = opened kind s plans l players records timeline client plan p r c.len-lo.result c.begin.new.self c.begin.ensures.state c.begin.ensures.answered c.begin.ensures.verbs c.begin.ensures.open c.begin.ensures.limits in
    let geometry : c.reserve.new.self.log.geometry ≡ s.geometry = c.reserve.ensures.geometry ∙ ap (λ (x : Recorded). x.geometry) c.turn.ensures.log in
    let entries : c.reserve.new.self.log.entries ≡ l = c.reserve.ensures.entries ∙ ap (λ (x : Recorded). x.entries) c.turn.ensures.log in
    let turned_to : c.reserve.new.self.client ≡ client = c.reserve.ensures.client ∙ c.turn.ensures.client in
    let q = c.if-not-go.ensures.went o.o o.begun.under in
    let m = c.go.new.node.log.entries in
    let n = c.go.new.self in
    let gone : Gone c.begin.new.self n q.0 = record { state = c.go.ensures.state; answered = c.go.ensures.answered; verbs = c.go.ensures.verbs; under = q.1 } in
    let node = c.reserve.new.self in
    let choice = c.choose-choice.result in
    let geometry2 : c.go.new.node.log.geometry ≡ s.geometry = c.go.ensures.geometry ∙ geometry in
    let kept : c.reserve-2.new.self.items ≡ records = c.reserve-2.ensures.items in
    let turned = turned_on kind hash node.log.geometry node.client node.log.entries m c.len-lo.result o.call p c.begin.new.self n o.o q.0 choice o.begun q.2 gone in
    let v = verbed_from kind s plans l m players records timeline client plan p n o.call choice false r.kept r.timed r.planned r.there r.active o.which o.limits node.log.geometry node.client node.log.entries c.len-lo.result geometry turned_to entries c.len-lo.ensures (going_of kind hash o.o) q.2.word turned (only_open kind n q.0 q.1 q.2.settled) in
    let h = went g.row.M.Denot kind c.law_safe.ensures s plans l m players records timeline client plan p n o.call choice (going_of kind hash o.o) q.2.word v in
    λ _. turn_told kind s plans l m players (slice_set players client n) records records c.reserve-2.new.self.items client choice false c.go.new.node.log.geometry c.args.self.now (g.C.Chooser.draws c.args.chooser.now) (g.C.Chooser.draws c.choose-choice.new.self) h.turn c.self.view_is geometry2 kept c.choose-choice.ensures.now c.choose-choice.ensures.next

pub returns-then-not-go-clause-fewer : goal.returns-then-not-go-clause-fewer
returns-then-not-go-clause-fewer g c =
    let kind = g.M.Playable.kind in
    let hash = placed (g.P.Placer.listed c.self.inside.placer) in
    let s : Setting = record { geometry = c.self.inside.node.log.geometry; listed = g.P.Placer.listed c.self.inside.placer } in
    let l = c.self.inside.node.log.entries in
    let plans = c.self.inside.plans.items in
    let players = c.self.inside.players.items in
    let records = c.self.inside.records.items in
    let timeline = c.catch_up.new.timeline in
    let client = c.args.client in
    let plan = c.get-plan.result.now in
    let p = c.index_mut-player.result.now in
    let low : client < length players = subst (λ (w : Play g.row.M.Denot). client < length w.players) (sym c.self.view_is) c.requires in
    let r = ready_at kind s plans l players records c.self.inside.timeline c.self.inside.pending timeline client plan c.index-player.result.now p c.self.invariant c.in_ok-catch_up.ensures.ok.0 low c.get-plan.ensures c.index-player.ensures c.index_mut-player.ensures.value (sym c.is_idle.ensures ∙ c.if-is_idle.false) in
    let o = opened kind s plans l players records timeline client plan p r c.len-lo.result c.begin.new.self c.begin.ensures.state c.begin.ensures.answered c.begin.ensures.verbs c.begin.ensures.open c.begin.ensures.limits in
    let geometry : c.reserve.new.self.log.geometry ≡ s.geometry = c.reserve.ensures.geometry ∙ ap (λ (x : Recorded). x.geometry) c.turn.ensures.log in
    let entries : c.reserve.new.self.log.entries ≡ l = c.reserve.ensures.entries ∙ ap (λ (x : Recorded). x.entries) c.turn.ensures.log in
    let turned_to : c.reserve.new.self.client ≡ client = c.reserve.ensures.client ∙ c.turn.ensures.client in
    let q = c.if-not-go.ensures.went o.o o.begun.under in
    let m = c.go.new.node.log.entries in
    let n = c.go.new.self in
    let gone : Gone c.begin.new.self n q.0 = record { state = c.go.ensures.state; answered = c.go.ensures.answered; verbs = c.go.ensures.verbs; under = q.1 } in
    let node = c.reserve.new.self in
    let choice = c.choose-choice.result in
    let geometry2 : c.go.new.node.log.geometry ≡ s.geometry = c.go.ensures.geometry ∙ geometry in
    let kept : c.reserve-2.new.self.items ≡ records = c.reserve-2.ensures.items in
    let turned = turned_on kind hash node.log.geometry node.client node.log.entries m c.len-lo.result o.call p c.begin.new.self n o.o q.0 choice o.begun q.2 gone in
    let v = verbed_from kind s plans l m players records timeline client plan p n o.call choice false r.kept r.timed r.planned r.there r.active o.which o.limits node.log.geometry node.client node.log.entries c.len-lo.result geometry turned_to entries c.len-lo.ensures (going_of kind hash o.o) q.2.word turned (only_open kind n q.0 q.1 q.2.settled) in
    let h = went g.row.M.Denot kind c.law_safe.ensures s plans l m players records timeline client plan p n o.call choice (going_of kind hash o.o) q.2.word v in
    λ _. subst (λ (w : Play g.row.M.Denot). left_in (record { setting = record { geometry = c.go.new.node.log.geometry; listed = s.listed }; plans = plans; entries = m; players = slice_set players client n; records = c.reserve-2.new.self.items }) client < left_in w client) c.self.view_is h.fewer

pub conclude-requires-clause-ended : goal.conclude-requires-clause-ended
conclude-requires-clause-ended g c =
    let kind = g.M.Playable.kind in
    let hash = placed (g.P.Placer.listed c.self.inside.placer) in
    let s : Setting = record { geometry = c.self.inside.node.log.geometry; listed = g.P.Placer.listed c.self.inside.placer } in
    let l = c.self.inside.node.log.entries in
    let plans = c.self.inside.plans.items in
    let players = c.self.inside.players.items in
    let records = c.self.inside.records.items in
    let timeline = c.catch_up.new.timeline in
    let client = c.args.client in
    let plan = c.get-plan.result.now in
    let p = c.index_mut-player.result.now in
    let low : client < length players = subst (λ (w : Play g.row.M.Denot). client < length w.players) (sym c.self.view_is) c.requires in
    let r = ready_at kind s plans l players records c.self.inside.timeline c.self.inside.pending timeline client plan c.index-player.result.now p c.self.invariant c.in_ok-catch_up.ensures.ok.0 low c.get-plan.ensures c.index-player.ensures c.index_mut-player.ensures.value (sym c.is_idle.ensures ∙ c.if-is_idle.false) in
    let o = opened kind s plans l players records timeline client plan p r c.len-lo.result c.begin.new.self c.begin.ensures.state c.begin.ensures.answered c.begin.ensures.verbs c.begin.ensures.open c.begin.ensures.limits in
    let geometry : c.reserve.new.self.log.geometry ≡ s.geometry = c.reserve.ensures.geometry ∙ ap (λ (x : Recorded). x.geometry) c.turn.ensures.log in
    let entries : c.reserve.new.self.log.entries ≡ l = c.reserve.ensures.entries ∙ ap (λ (x : Recorded). x.entries) c.turn.ensures.log in
    let turned_to : c.reserve.new.self.client ≡ client = c.reserve.ensures.client ∙ c.turn.ensures.client in
    let q = c.if-not-go.ensures.went o.o o.begun.under in
    let m = c.go.new.node.log.entries in
    let n = c.go.new.self in
    let gone : Gone c.begin.new.self n q.0 = record { state = c.go.ensures.state; answered = c.go.ensures.answered; verbs = c.go.ensures.verbs; under = q.1 } in
    let node = c.reserve.new.self in
    let choice = c.choose-choice.result in
    let geometry2 : c.go.new.node.log.geometry ≡ s.geometry = c.go.ensures.geometry ∙ geometry in
    let kept : c.reserve-2.new.self.items ≡ records = c.reserve-2.ensures.items in
    let e = ended_with kind hash node.log.geometry node.client node.log.entries m c.len-lo.result o.call p c.begin.new.self n o.o q.0 choice q.2 in
    (hash, q.0, q.1, q.2.settled, subst (λ y. IsSome y) (sym e.1) refl)

pub conclude-requires-clause-few : goal.conclude-requires-clause-few
conclude-requires-clause-few g c =
    let kind = g.M.Playable.kind in
    let hash = placed (g.P.Placer.listed c.self.inside.placer) in
    let s : Setting = record { geometry = c.self.inside.node.log.geometry; listed = g.P.Placer.listed c.self.inside.placer } in
    let l = c.self.inside.node.log.entries in
    let plans = c.self.inside.plans.items in
    let players = c.self.inside.players.items in
    let records = c.self.inside.records.items in
    let timeline = c.catch_up.new.timeline in
    let client = c.args.client in
    let plan = c.get-plan.result.now in
    let p = c.index_mut-player.result.now in
    let low : client < length players = subst (λ (w : Play g.row.M.Denot). client < length w.players) (sym c.self.view_is) c.requires in
    let r = ready_at kind s plans l players records c.self.inside.timeline c.self.inside.pending timeline client plan c.index-player.result.now p c.self.invariant c.in_ok-catch_up.ensures.ok.0 low c.get-plan.ensures c.index-player.ensures c.index_mut-player.ensures.value (sym c.is_idle.ensures ∙ c.if-is_idle.false) in
    let h = (few kind s plans l players records timeline client plan p r).1 in
    let same = c.go.ensures.answered ∙ c.begin.ensures.answered in
    omega arith

pub conclude-requires-clause-some : goal.conclude-requires-clause-some
conclude-requires-clause-some g c =
    let kind = g.M.Playable.kind in
    let hash = placed (g.P.Placer.listed c.self.inside.placer) in
    let s : Setting = record { geometry = c.self.inside.node.log.geometry; listed = g.P.Placer.listed c.self.inside.placer } in
    let l = c.self.inside.node.log.entries in
    let plans = c.self.inside.plans.items in
    let players = c.self.inside.players.items in
    let records = c.self.inside.records.items in
    let timeline = c.catch_up.new.timeline in
    let client = c.args.client in
    let plan = c.get-plan.result.now in
    let p = c.index_mut-player.result.now in
    let low : client < length players = subst (λ (w : Play g.row.M.Denot). client < length w.players) (sym c.self.view_is) c.requires in
    let r = ready_at kind s plans l players records c.self.inside.timeline c.self.inside.pending timeline client plan c.index-player.result.now p c.self.invariant c.in_ok-catch_up.ensures.ok.0 low c.get-plan.ensures c.index-player.ensures c.index_mut-player.ensures.value (sym c.is_idle.ensures ∙ c.if-is_idle.false) in
    let number = c.go.ensures.answered ∙ c.begin.ensures.answered in
    let h = call_below kind s plans l players records timeline client plan p r in
    omega arith

pub conclude-requires-clause-lo : goal.conclude-requires-clause-lo
conclude-requires-clause-lo g c = λ y under.
    let kind = g.M.Playable.kind in
    let hash = placed (g.P.Placer.listed c.self.inside.placer) in
    let s : Setting = record { geometry = c.self.inside.node.log.geometry; listed = g.P.Placer.listed c.self.inside.placer } in
    let l = c.self.inside.node.log.entries in
    let plans = c.self.inside.plans.items in
    let players = c.self.inside.players.items in
    let records = c.self.inside.records.items in
    let timeline = c.catch_up.new.timeline in
    let client = c.args.client in
    let plan = c.get-plan.result.now in
    let p = c.index_mut-player.result.now in
    let low : client < length players = subst (λ (w : Play g.row.M.Denot). client < length w.players) (sym c.self.view_is) c.requires in
    let r = ready_at kind s plans l players records c.self.inside.timeline c.self.inside.pending timeline client plan c.index-player.result.now p c.self.invariant c.in_ok-catch_up.ensures.ok.0 low c.get-plan.ensures c.index-player.ensures c.index_mut-player.ensures.value (sym c.is_idle.ensures ∙ c.if-is_idle.false) in
    let o = opened kind s plans l players records timeline client plan p r c.len-lo.result c.begin.new.self c.begin.ensures.state c.begin.ensures.answered c.begin.ensures.verbs c.begin.ensures.open c.begin.ensures.limits in
    let geometry : c.reserve.new.self.log.geometry ≡ s.geometry = c.reserve.ensures.geometry ∙ ap (λ (x : Recorded). x.geometry) c.turn.ensures.log in
    let entries : c.reserve.new.self.log.entries ≡ l = c.reserve.ensures.entries ∙ ap (λ (x : Recorded). x.entries) c.turn.ensures.log in
    let turned_to : c.reserve.new.self.client ≡ client = c.reserve.ensures.client ∙ c.turn.ensures.client in
    let q = c.if-not-go.ensures.went o.o o.begun.under in
    let m = c.go.new.node.log.entries in
    let n = c.go.new.self in
    let gone : Gone c.begin.new.self n q.0 = record { state = c.go.ensures.state; answered = c.go.ensures.answered; verbs = c.go.ensures.verbs; under = q.1 } in
    let node = c.reserve.new.self in
    let choice = c.choose-choice.result in
    let geometry2 : c.go.new.node.log.geometry ≡ s.geometry = c.go.ensures.geometry ∙ geometry in
    let kept : c.reserve-2.new.self.items ≡ records = c.reserve-2.ensures.items in
    let e = ended_with kind hash node.log.geometry node.client node.log.entries m c.len-lo.result o.call p c.begin.new.self n o.o q.0 choice q.2 in
    let one : q.0 ≡ y = one_open q.0 y (sym q.1 ∙ under) in
    subst (λ (z : Open g.row.M.Denot). z.lo ≤ length timeline) one
    (let low_lo = lo_low kind s plans l players records timeline client plan p r c.law_safe.ensures o.call o.which o.limits c.len-lo.result c.len-lo.ensures c.begin.new.self o.o o.begun in let same = q.2.lo in omega arith)

pub invariant_of-self-2 : goal.invariant_of-self-2
invariant_of-self-2 g c =
    let kind = g.M.Playable.kind in
    let hash = placed (g.P.Placer.listed c.self.inside.placer) in
    let s : Setting = record { geometry = c.self.inside.node.log.geometry; listed = g.P.Placer.listed c.self.inside.placer } in
    let l = c.self.inside.node.log.entries in
    let plans = c.self.inside.plans.items in
    let players = c.self.inside.players.items in
    let records = c.self.inside.records.items in
    let timeline = c.catch_up.new.timeline in
    let client = c.args.client in
    let plan = c.get-plan.result.now in
    let p = c.index_mut-player.result.now in
    let low : client < length players = subst (λ (w : Play g.row.M.Denot). client < length w.players) (sym c.self.view_is) c.requires in
    let r = ready_at kind s plans l players records c.self.inside.timeline c.self.inside.pending timeline client plan c.index-player.result.now p c.self.invariant c.in_ok-catch_up.ensures.ok.0 low c.get-plan.ensures c.index-player.ensures c.index_mut-player.ensures.value (sym c.is_idle.ensures ∙ c.if-is_idle.false) in
    let o = opened kind s plans l players records timeline client plan p r c.len-lo.result c.begin.new.self c.begin.ensures.state c.begin.ensures.answered c.begin.ensures.verbs c.begin.ensures.open c.begin.ensures.limits in
    let geometry : c.reserve.new.self.log.geometry ≡ s.geometry = c.reserve.ensures.geometry ∙ ap (λ (x : Recorded). x.geometry) c.turn.ensures.log in
    let entries : c.reserve.new.self.log.entries ≡ l = c.reserve.ensures.entries ∙ ap (λ (x : Recorded). x.entries) c.turn.ensures.log in
    let turned_to : c.reserve.new.self.client ≡ client = c.reserve.ensures.client ∙ c.turn.ensures.client in
    let q = c.if-not-go.ensures.went o.o o.begun.under in
    let m = c.go.new.node.log.entries in
    let n = c.go.new.self in
    let gone : Gone c.begin.new.self n q.0 = record { state = c.go.ensures.state; answered = c.go.ensures.answered; verbs = c.go.ensures.verbs; under = q.1 } in
    let node = c.reserve.new.self in
    let choice = c.choose-choice.result in
    let geometry2 : c.go.new.node.log.geometry ≡ s.geometry = c.go.ensures.geometry ∙ geometry in
    let kept : c.reserve-2.new.self.items ≡ records = c.reserve-2.ensures.items in
    let e = ended_with kind hash node.log.geometry node.client node.log.entries m c.len-lo.result o.call p c.begin.new.self n o.o q.0 choice q.2 in
    let k = c.conclude.ensures hash q.0 e.0 q.1 e.1 in
    let x = c.conclude.new.player in
    let closed : Closed n x e.0 = record { state = k.state; answered = k.answered; verbs = k.verbs; none = k.none } in
    let turned = turned_done kind hash node.log.geometry node.client node.log.entries m c.len-lo.result o.call p c.begin.new.self n o.o q.0 choice x e.0 o.begun q.2 gone e.1 closed in
    let v = verbed_from kind s plans l m players records timeline client plan p x o.call choice true r.kept r.timed r.planned r.there r.active o.which o.limits node.log.geometry node.client node.log.entries c.len-lo.result geometry turned_to entries c.len-lo.ensures (going_of kind hash o.o) q.2.word turned (none_open kind x k.none) in
    let told : Told = record { reply = e.0.reply; lo = q.0.lo } in
    let is_told : IsTold kind s (onward kind.sort hash (kind.text hash o.o.machine) choice q.2.word) o.o.lo told = record { d = e.0; ended = ap kind.sort.answer (sym q.2.left) ∙ e.1; reply = refl; lo_is = q.2.lo } in
    let number : n.answered ≡ p.answered = c.go.ensures.answered ∙ c.begin.ensures.answered in
    let call : k.call ≡ o.call = same_call plan.calls.items n.answered p.answered k.call o.call number k.which o.which in
    let is : IsRecord g.row.M.Denot kind c.law_safe.ensures s plans l m players records timeline client plan p x o.call choice (going_of kind hash o.o) q.2.word told k.told = record { asked = (k.asked.0, k.asked.1 ∙ ap (λ i. i + 1) number, k.asked.2 ∙ call); reply = k.reply; hi = k.hi; changing = k.changing; quiet = λ a b. told_quiet timeline q.0.lo k.call o.call e.0.reply k.told.point call (k.quiet a b); refused = k.refused } in
    let h = ended g.row.M.Denot kind c.law_safe.ensures s plans l m players records timeline client plan p x o.call choice (going_of kind hash o.o) q.2.word told k.told c.conclude.new.pending v is_told is (λ a. k.change a ∙ ap change_of call) k.no_change in
    let pushed : c.conclude.new.records.items ≡ records ++ k.told ∷ [] = k.pushed ∙ ap (λ (y : List Record). y ++ k.told ∷ []) kept in
    kept_world kind s plans m (slice_set players client x) (records ++ k.told ∷ []) c.conclude.new.records.items timeline c.conclude.new.pending c.go.new.node.log.geometry h.kept h.timed geometry2 pushed

pub returns-clause-answered : goal.returns-clause-answered
returns-clause-answered g c =
    let kind = g.M.Playable.kind in
    let hash = placed (g.P.Placer.listed c.self.inside.placer) in
    let s : Setting = record { geometry = c.self.inside.node.log.geometry; listed = g.P.Placer.listed c.self.inside.placer } in
    let l = c.self.inside.node.log.entries in
    let plans = c.self.inside.plans.items in
    let players = c.self.inside.players.items in
    let records = c.self.inside.records.items in
    let timeline = c.catch_up.new.timeline in
    let client = c.args.client in
    let plan = c.get-plan.result.now in
    let p = c.index_mut-player.result.now in
    let low : client < length players = subst (λ (w : Play g.row.M.Denot). client < length w.players) (sym c.self.view_is) c.requires in
    let r = ready_at kind s plans l players records c.self.inside.timeline c.self.inside.pending timeline client plan c.index-player.result.now p c.self.invariant c.in_ok-catch_up.ensures.ok.0 low c.get-plan.ensures c.index-player.ensures c.index_mut-player.ensures.value (sym c.is_idle.ensures ∙ c.if-is_idle.false) in
    let o = opened kind s plans l players records timeline client plan p r c.len-lo.result c.begin.new.self c.begin.ensures.state c.begin.ensures.answered c.begin.ensures.verbs c.begin.ensures.open c.begin.ensures.limits in
    let geometry : c.reserve.new.self.log.geometry ≡ s.geometry = c.reserve.ensures.geometry ∙ ap (λ (x : Recorded). x.geometry) c.turn.ensures.log in
    let entries : c.reserve.new.self.log.entries ≡ l = c.reserve.ensures.entries ∙ ap (λ (x : Recorded). x.entries) c.turn.ensures.log in
    let turned_to : c.reserve.new.self.client ≡ client = c.reserve.ensures.client ∙ c.turn.ensures.client in
    let q = c.if-not-go.ensures.went o.o o.begun.under in
    let m = c.go.new.node.log.entries in
    let n = c.go.new.self in
    let gone : Gone c.begin.new.self n q.0 = record { state = c.go.ensures.state; answered = c.go.ensures.answered; verbs = c.go.ensures.verbs; under = q.1 } in
    let node = c.reserve.new.self in
    let choice = c.choose-choice.result in
    let geometry2 : c.go.new.node.log.geometry ≡ s.geometry = c.go.ensures.geometry ∙ geometry in
    let kept : c.reserve-2.new.self.items ≡ records = c.reserve-2.ensures.items in
    let e = ended_with kind hash node.log.geometry node.client node.log.entries m c.len-lo.result o.call p c.begin.new.self n o.o q.0 choice q.2 in
    let k = c.conclude.ensures hash q.0 e.0 q.1 e.1 in
    let x = c.conclude.new.player in
    let closed : Closed n x e.0 = record { state = k.state; answered = k.answered; verbs = k.verbs; none = k.none } in
    let turned = turned_done kind hash node.log.geometry node.client node.log.entries m c.len-lo.result o.call p c.begin.new.self n o.o q.0 choice x e.0 o.begun q.2 gone e.1 closed in
    let v = verbed_from kind s plans l m players records timeline client plan p x o.call choice true r.kept r.timed r.planned r.there r.active o.which o.limits node.log.geometry node.client node.log.entries c.len-lo.result geometry turned_to entries c.len-lo.ensures (going_of kind hash o.o) q.2.word turned (none_open kind x k.none) in
    let told : Told = record { reply = e.0.reply; lo = q.0.lo } in
    let is_told : IsTold kind s (onward kind.sort hash (kind.text hash o.o.machine) choice q.2.word) o.o.lo told = record { d = e.0; ended = ap kind.sort.answer (sym q.2.left) ∙ e.1; reply = refl; lo_is = q.2.lo } in
    let number : n.answered ≡ p.answered = c.go.ensures.answered ∙ c.begin.ensures.answered in
    let call : k.call ≡ o.call = same_call plan.calls.items n.answered p.answered k.call o.call number k.which o.which in
    let is : IsRecord g.row.M.Denot kind c.law_safe.ensures s plans l m players records timeline client plan p x o.call choice (going_of kind hash o.o) q.2.word told k.told = record { asked = (k.asked.0, k.asked.1 ∙ ap (λ i. i + 1) number, k.asked.2 ∙ call); reply = k.reply; hi = k.hi; changing = k.changing; quiet = λ a b. told_quiet timeline q.0.lo k.call o.call e.0.reply k.told.point call (k.quiet a b); refused = k.refused } in
    let h = ended g.row.M.Denot kind c.law_safe.ensures s plans l m players records timeline client plan p x o.call choice (going_of kind hash o.o) q.2.word told k.told c.conclude.new.pending v is_told is (λ a. k.change a ∙ ap change_of call) k.no_change in
    let pushed : c.conclude.new.records.items ≡ records ++ k.told ∷ [] = k.pushed ∙ ap (λ (y : List Record). y ++ k.told ∷ []) kept in
    λ _. turn_told kind s plans l m players (slice_set players client x) records (records ++ k.told ∷ []) c.conclude.new.records.items client choice true c.go.new.node.log.geometry c.args.self.now (g.C.Chooser.draws c.args.chooser.now) (g.C.Chooser.draws c.choose-choice.new.self) h.turn c.self.view_is geometry2 pushed c.choose-choice.ensures.now c.choose-choice.ensures.next
