use Rattle.std.proofs.Common.{rules, ◌≡◌, ◌+◌, ◌-◌, ◌≤◌, sym, ◌∙◌, ap, subst, length}
use Rattle.std.proofs.lemmas.List.{take_at}
use Rattle.node_words.specs.Addresses.{node_at}
use Rattle.node_words.specs.declared.geometry.Geometry.{Geometry}
use Rattle.node_words.specs.Opening.{opening_word}
use Rattle.verb_log.proofs.InOrder.{replay_index}
use Rattle.image_laws.specs.Laws.{words_after}
use Rattle.image_laws.specs.Sound.{words_from}
use Rattle.node_image.proofs.WordRuns.{length_from}
use Rattle.node_image.proofs.NodeParts.{start_within, next_from, count_within, part_whole}
use Rattle.node_image.proofs.replaying.node_after.Goals as goal

pub word-requires : goal.word-requires
word-requires c = start_within c.args.log.now.geometry (words_after c.args.log.now.geometry c.args.log.now.entries) c.args.node c.node_start-start.result c.requires.node (c.node_start-start.ensures.start ∙ ap (λ (g : Geometry). node_at g c.args.node) c.geometry.ensures.value)

pub overflow_sub-count : goal.overflow_sub-count
overflow_sub-count c =
    let se : c.node_start-start.result ≡ node_at c.args.log.now.geometry c.args.node = c.node_start-start.ensures.start ∙ ap (λ (g : Geometry). node_at g c.args.node) c.geometry.ensures.value in
    let low = start_within c.args.log.now.geometry (words_after c.args.log.now.geometry c.args.log.now.entries) c.args.node c.node_start-start.result c.requires.node se in
    next_from c.args.log.now.geometry (words_after c.args.log.now.geometry c.args.log.now.entries) c.args.node c.node_start-start.result c.requires.node se c.requires.nexts c.word.result (c.word.ensures ∙ replay_index c.args.log.now.geometry c.args.log.now.entries c.node_start-start.result low)

pub opened-requires : goal.opened-requires
opened-requires c =
    let se : c.node_start-start.result ≡ node_at c.args.log.now.geometry c.args.node = c.node_start-start.ensures.start ∙ ap (λ (g : Geometry). node_at g c.args.node) c.geometry.ensures.value in
    let low = start_within c.args.log.now.geometry (words_after c.args.log.now.geometry c.args.log.now.entries) c.args.node c.node_start-start.result c.requires.node se in
    subst (λ (v : Geometry). c.node_start-start.result + (c.word.result - c.node_start-start.result) ≤ v.words) (sym c.geometry-2.ensures.value)
    (count_within c.args.log.now.geometry (words_after c.args.log.now.geometry c.args.log.now.entries) c.args.node c.node_start-start.result c.requires.node se c.requires.nexts c.word.result (c.word.ensures ∙ replay_index c.args.log.now.geometry c.args.log.now.entries c.node_start-start.result low))

pub replay-requires : goal.replay-requires
replay-requires c =
    let e = c.deref_mut.ensures.value ∙ c.in_ok-words.ensures ∙ ap (λ (g : Geometry). words_from (opening_word g) c.node_start-start.result (c.word.result - c.node_start-start.result)) c.geometry-2.ensures.value in
    e ∙ ap (words_from (opening_word c.args.log.now.geometry) c.node_start-start.result) (sym (ap length e ∙ length_from (opening_word c.args.log.now.geometry) c.node_start-start.result (c.word.result - c.node_start-start.result)))

pub returns : goal.returns
returns c =
    let se : c.node_start-start.result ≡ node_at c.args.log.now.geometry c.args.node = c.node_start-start.ensures.start ∙ ap (λ (g : Geometry). node_at g c.args.node) c.geometry.ensures.value in
    let low = start_within c.args.log.now.geometry (words_after c.args.log.now.geometry c.args.log.now.entries) c.args.node c.node_start-start.result c.requires.node se in
    let there : length c.deref_mut.result.now ≡ c.word.result - c.node_start-start.result = ap length (c.deref_mut.ensures.value ∙ c.in_ok-words.ensures) ∙ length_from (opening_word c.geometry-2.result.now) c.node_start-start.result (c.word.result - c.node_start-start.result) in
    let a = c.replay.auto.words in
    let b = c.deref_mut.ensures.len in
    let whole : length c.replay.new.words ≡ c.in_ok-words.words.len = search rules in
    part_whole c.args.log.now.geometry (words_after c.args.log.now.geometry c.args.log.now.entries) c.args.node c.node_start-start.result c.requires.node se c.requires.nexts c.word.result (c.word.ensures ∙ replay_index c.args.log.now.geometry c.args.log.now.entries c.node_start-start.result low)
    (length c.deref_mut.result.now) _ there (take_at c.replay.new.words _ c.in_ok-words.words.len whole ∙ c.replay.ensures)
