use Rattle.std.proofs.Common.{◌≡◌, ◌++◌, ◌<◌, length, drop}
use Rattle.std.specs.List.{AllByRecursion}
use Rattle.script_value.specs.Content.{names_of}
use Rattle.script_value.specs.ScriptText.{item_client, spaced_items}
use Rattle.script_value.proofs.body.Body.put_items.Given as goal

-- the items so far, and those that are left
abbrev pub invariant-loop-item : goal.invariant-loop-item
invariant-loop-item l = record {
  known : AllByRecursion (λ item. item_client item < length l.self.clients) (drop l.item-index l.items);
  same : l.out.items ++ spaced_items (names_of l.self) (drop l.item-index l.items) ≡ l.fn.out.items ++ spaced_items (names_of l.self) l.items;
}
