use Rattle.std.proofs.Common.{ap, sym, ◌∙◌}
use Rattle.std.specs.List.{slice_get}
use Rattle.std.proofs.lemmas.Option.{slice_get-get_or}
use Rattle.kv_block.specs.Packing.{pair_of}
use Rattle.image_audit.proofs.HeldWords.{filled_start, filled_more}
use Rattle.image_audit.proofs.filling.put_pairs.Goals as goal

pub loop-turn-init : goal.loop-turn-init
loop-turn-init g c = filled_start _ _ _ _ _ c.requires.empty

pub held_pair-key-requires : goal.held_pair-key-requires
held_pair-key-requires g c = c.requires.held c.place_at.result _ (slice_get-get_or c.args.words.now c.place_at.result 0 c.place_at.ensures.low)

pub loop-turn-preserved : goal.loop-turn-preserved
loop-turn-preserved g c =
    let at = slice_get-get_or c.args.words.now c.place_at.result 0 c.place_at.ensures.low in
    filled_more _ _ _ _ _ _ c.loop-turn.turn _ (pair_of c.held_pair-key.result) c.loop-turn.invariant
    (ap (λ v. slice_get c.args.words.now v) (sym c.place_at.ensures.place) ∙ at) (c.requires.held c.place_at.result _ at) c.held_pair-key.ensures c.in_ok-apply.ensures.ok
