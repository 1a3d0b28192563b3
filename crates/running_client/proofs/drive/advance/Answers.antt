use Rattle.std.proofs.Common.{ℕ, Option, ◌∙◌, sym, ap, subst, refl}
use Rattle.key_hash.specs.Placing.{placed}
use Rattle.call_texts.specs.State.{CallEnd, Stage}
use Rattle.call_texts.specs.Text.{part_of}
use Rattle.call_machine.specs.CallRest.{call_rest}
use Rattle.world_texts.specs.Texts.{whole}
use Rattle.world_texts.proofs.Wholes.{whole_verb, fed_whole}
use Rattle.world_texts.proofs.Opening.{part_asks}
use Rattle.running_client.specs.Running.{Permitted}
use Rattle.running_client.specs.Cached.{DoesThrough}
use Rattle.running_client.proofs.Texts.{is_there, ended_text}
use Rattle.running_client.proofs.Passing.{whole_block}
use Rattle.running_client.proofs.drive.advance.Goals as goal

pub do_or_serve-word-requires-clause-may : goal.do_or_serve-word-requires-clause-may
do_or_serve-word-requires-clause-may g c κs within =
    let hash = placed (g.P.Placer.listed c.args.placer.now) in
    let p = call_rest c.args.machine.now in
    subst (λ (o : Option ℕ). Permitted c.args.node.now o c.in-Some.verb) (whole_block hash p c.requires.settled c.keep_acting.ensures)
    (c.requires.may c.in-Some.verb (whole_verb part_of hash p c.requires.settled c.keep_acting.ensures ∙ sym c.in-Some.ensures))

pub returns-clause-went : goal.returns-clause-went
returns-clause-went g c =
    let hash = placed (g.P.Placer.listed c.args.placer.now) in
    let p = call_rest c.args.machine.now in
    let asks = sym c.in-Some.ensures in
    let word = c.do_or_serve-word.result in
    λ t. (
      c.in-Some.verb,
      word,
      whole_verb part_of hash p c.requires.settled c.keep_acting.ensures ∙ asks,
      subst (λ (o : Option ℕ). DoesThrough c.args.node.now c.args.cache.now o c.in-Some.verb word c.do_or_serve-word.new.node c.do_or_serve-word.new.cache) (sym (whole_block hash p c.requires.settled c.keep_acting.ensures)) c.do_or_serve-word.ensures,
      c.settle.ensures.text ∙ ap (whole part_of hash) c.feed.ensures.rest ∙ fed_whole Stage CallEnd part_of part_asks hash p word (is_there _ _ asks),
    )

pub returns-in_default-clause-ended : goal.returns-in_default-clause-ended
returns-in_default-clause-ended g c =
    let hash = placed (g.P.Placer.listed c.args.placer.now) in
    λ e. (refl, refl, refl, ended_text hash (call_rest c.args.machine.now) c.requires.settled (sym c.next.ensures ∙ c.in_default.is) c.keep_acting.ensures)
