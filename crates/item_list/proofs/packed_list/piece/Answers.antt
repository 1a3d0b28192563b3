use Rattle.std.proofs.Common.{ap, sym, ◌∙◌, Some, ℕ, subst, ◌≤◌, refl}
use Rattle.std.specs.Prelude.{slice_index}
use Rattle.item_list.proofs.Pieces.{piece-there, cut-rises, cut-within}
use Rattle.item_list.proofs.packed_list.piece.Goals as goal

pub part-requires-clause-rise : goal.part-requires-clause-rise
part-requires-clause-rise c = subst (λ (n : ℕ). n ≤ slice_index c.args.ends.now c.args.i) (sym c.start.ensures) (cut-rises 0 _ c.args.ends.now c.args.i c.requires.cut c.requires.place)

pub part-requires-clause-within : goal.part-requires-clause-within
part-requires-clause-within c = cut-within 0 _ c.args.ends.now c.args.i c.requires.cut c.requires.place

pub returns : goal.returns
returns c = piece-there 0 c.args.words.now c.args.ends.now c.args.i c.start.result _ c.requires.place c.start.ensures refl ∙ ap Some (sym c.part.ensures)
