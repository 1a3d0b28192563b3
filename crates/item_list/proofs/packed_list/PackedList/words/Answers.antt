use Rattle.std.proofs.Common.{ap, sym, ◌∙◌, ℕ, length, List, arith}
use Rattle.std.specs.Prelude.{slice_get}
use Rattle.std.specs.Option.{option_map}
use Rattle.std.proofs.lemmas.Option.{slice_get-map}
use Rattle.std.proofs.lemmas.List.{length-map}
use Rattle.item_list.specs.RoomyList.{RoomyList}
use Rattle.item_list.specs.Pieces.{pieces}
use Rattle.item_list.proofs.Pieces.{length-pieces}
use Rattle.item_list.proofs.packed_list.PackedList.words.Goals as goal

pub piece-requires-clause-place : goal.piece-requires-clause-place
piece-requires-clause-place g c =
    let s = c.self.inside in
    let n = ap (λ (l : RoomyList _). length l.items) c.self.view_is in
    let a = length-map (pieces 0 s.words.items s.ends.items) g.T.Pack.told in
    let b = length-pieces 0 s.words.items s.ends.items in
    let d = ap (λ (xs : List ℕ). length xs) c.deref-2.ensures.value in
    let h = c.requires in
    omega (arith, n, a, b, d, h)

pub returns : goal.returns
returns g c =
    let s = c.self.inside in
    ap (λ (l : RoomyList _). slice_get l.items c.args.i) (sym c.self.view_is)
    ∙ slice_get-map g.T.Pack.told (pieces 0 s.words.items s.ends.items) c.args.i
    ∙ (λ j. option_map g.T.Pack.told (slice_get (pieces 0 (sym c.deref.ensures.value j) (sym c.deref-2.ensures.value j)) c.args.i))
    ∙ ap (option_map g.T.Pack.told) c.piece.ensures
