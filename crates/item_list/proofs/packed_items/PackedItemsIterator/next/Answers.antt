use Rattle.std.proofs.Common.{sym, ◌∙◌}
use Rattle.item_list.proofs.Pieces.{drop-step}
use Rattle.item_list.proofs.packed_items.PackedItemsIterator.next.Goals as goal

pub returns-then-self-clause-steps : goal.returns-then-self-clause-steps
returns-then-self-clause-steps g c =
    let s = c.self.inside in
    sym c.self.view_is ∙ drop-step s.list.now.items s.at c.get-item.result c.get-item.ensures
