use Rattle.std.proofs.Common.{ap, sym, ◌∙◌, ℕ, length, List}
use Rattle.std.proofs.lemmas.List.{length-map}
use Rattle.item_list.specs.RoomyList.{RoomyList}
use Rattle.item_list.specs.Pieces.{pieces}
use Rattle.item_list.proofs.Pieces.{length-pieces}
use Rattle.item_list.proofs.packed_list.PackedList.len.Goals as goal

pub returns-clause-value : goal.returns-clause-value
returns-clause-value g c =
    let s = c.self.inside in
    c.count.ensures.value ∙ ap (λ (xs : List ℕ). length xs) c.deref.ensures.value ∙ sym (length-pieces 0 s.words.items s.ends.items) ∙ sym (length-map (pieces 0 s.words.items s.ends.items) g.T.Pack.told)
    ∙ ap (λ (l : RoomyList _). length l.items) c.self.view_is
