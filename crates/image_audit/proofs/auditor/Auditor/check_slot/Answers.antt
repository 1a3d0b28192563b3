use Rattle.std.proofs.Common.{◌+◌, ap, sym, ◌∙◌, subst}
use Rattle.kv_block.specs.Packing.{pair_of}
use Rattle.node_words.specs.declared.geometry.Geometry.{Geometry}
use Rattle.verb_log.specs.Decoded.{content, header}
use Rattle.verb_log.specs.Contents.{body_of}
use Rattle.race_laws.specs.Standing.{depth}
use Rattle.image_audit.specs.Kept.{IsAtHome, IsKeptBlock, AllSmall, setting_of}
use Rattle.image_audit.proofs.Slots.{zero_slot, dead_slot, unread_slot, away_slot, kept_slot, hash_is}
use Rattle.image_audit.proofs.auditor.Auditor.check_slot.Goals as goal

pub returns-then-word-eq0-clause-judged : goal.returns-then-word-eq0-clause-judged
returns-then-word-eq0-clause-judged g c = λ before k. ((λ e. zero_slot _ _ _ _ before _ _ _ k c.args.table.now c.args.place c.requires.slot (sym (c.word-word.ensures ∙ ap (λ v. g.M.Memory.words c.args.memory.now (c.args.table.now.at + 20 + v)) c.from.ensures) ∙ c.if-word-eq0.true)), λ e r. absurd (cc))

pub returns-in_default-clause-judged : goal.returns-in_default-clause-judged
returns-in_default-clause-judged g c = λ before k. ((λ e. absurd (cc)), λ e r. dead_slot _ _ _ _ before _ _ _ k c.args.table.now c.args.place c.requires.slot (λ z. c.if-word-eq0.false ((c.word-word.ensures ∙ ap (λ v. g.M.Memory.words c.args.memory.now (c.args.table.now.at + 20 + v)) c.from.ensures) ∙ z)) (λ b f. c.in_default.ensures.none b (ap content (c.word-word.ensures ∙ ap (λ v. g.M.Memory.words c.args.memory.now (c.args.table.now.at + 20 + v)) c.from.ensures) ∙ f)) r)

pub returns-in_default-read_pair-clause-judged : goal.returns-in_default-read_pair-clause-judged
returns-in_default-read_pair-clause-judged g c = λ before k. ((λ e. absurd (cc)), λ e r. unread_slot _ _ _ _ before _ _ _ k c.args.table.now c.args.place c.requires.slot (λ z. c.if-word-eq0.false ((c.word-word.ensures ∙ ap (λ v. g.M.Memory.words c.args.memory.now (c.args.table.now.at + 20 + v)) c.from.ensures) ∙ z)) (body_of c.in-Some.slot) (ap content (sym (c.word-word.ensures ∙ ap (λ v. g.M.Memory.words c.args.memory.now (c.args.table.now.at + 20 + v)) c.from.ensures)) ∙ c.in-Some.ensures.some.0) c.in_default-read_pair.ensures.none r)

pub returns-then-not-is_at_home-clause-judged : goal.returns-then-not-is_at_home-clause-judged
returns-then-not-is_at_home-clause-judged g c = λ before k. (
  (λ e. absurd (cc)),
  λ e r. away_slot _ _ _ _ before _ _ _ k c.args.table.now c.args.place c.requires.slot (λ z. c.if-word-eq0.false ((c.word-word.ensures ∙ ap (λ v. g.M.Memory.words c.args.memory.now (c.args.table.now.at + 20 + v)) c.from.ensures) ∙ z)) (body_of c.in-Some.slot) (ap content (sym (c.word-word.ensures ∙ ap (λ v. g.M.Memory.words c.args.memory.now (c.args.table.now.at + 20 + v)) c.from.ensures)) ∙ c.in-Some.ensures.some.0) (pair_of c.in-Some-read_pair.pair) c.in-Some-read_pair.ensures.some.0 c.hash-hash.result c.depth_of-depth.result (hash_is (setting_of (g.M.Memory.shape c.args.memory.now) (g.P.Placer.listed c.args.placer.now)) c.in-Some-read_pair.pair.0 c.hash-hash.result c.hash-hash.ensures.value) (c.depth_of-depth.ensures ∙ ap (λ v. depth (header v)) c.word.ensures)
      (λ x. let y = c.is_at_home.ensures.1 (subst (λ (v : Geometry). IsAtHome v.groups c.hash-hash.result c.args.table.now c.depth_of-depth.result c.args.place c.in-Some.slot.fp) (sym c.geometry.ensures) x) in let z = c.if-not-is_at_home.true in cc) r,
)

pub returns-clause-judged : goal.returns-clause-judged
returns-clause-judged g c = λ before k. kept_slot _ _ _ _ before _ _ _ k c.args.table.now c.args.place c.requires.slot (λ z. c.if-word-eq0.false ((c.word-word.ensures ∙ ap (λ v. g.M.Memory.words c.args.memory.now (c.args.table.now.at + 20 + v)) c.from.ensures) ∙ z)) (body_of c.in-Some.slot) (ap content (sym (c.word-word.ensures ∙ ap (λ v. g.M.Memory.words c.args.memory.now (c.args.table.now.at + 20 + v)) c.from.ensures)) ∙ c.in-Some.ensures.some.0) (pair_of c.in-Some-read_pair.pair) c.in-Some-read_pair.ensures.some.0 c.hash-hash.result c.depth_of-depth.result (hash_is (setting_of (g.M.Memory.shape c.args.memory.now) (g.P.Placer.listed c.args.placer.now)) c.in-Some-read_pair.pair.0 c.hash-hash.result c.hash-hash.ensures.value) (c.depth_of-depth.ensures ∙ ap (λ v. depth (header v)) c.word.ensures)
    (subst (λ (v : Geometry). IsAtHome v.groups c.hash-hash.result c.args.table.now c.depth_of-depth.result c.args.place c.in-Some.slot.fp) c.geometry.ensures (c.is_at_home.ensures.0 c.if-not-is_at_home.false)) c.in_ok-fresh.fresh _ _ _ c.in-Some-read_pair.ensures.some.1
    (subst (IsKeptBlock c.in_ok-fresh.fresh _ _ _) (c.word-word.ensures ∙ ap (λ v. g.M.Memory.words c.args.memory.now (c.args.table.now.at + 20 + v)) c.from.ensures) c.in_ok-fresh.ensures.fresh) c.in_ok-fresh.ensures.tables c.in_ok-fresh.ensures.marked

pub returns-clause-small : goal.returns-clause-small
returns-clause-small g c = λ a. subst AllSmall (sym c.in_ok-fresh.ensures.tables) a
