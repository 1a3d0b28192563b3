-- Items, read one after the other.
use Rattle.std.proofs.Common.{◌≡◌, ℕ, List, [], ◌∷◌, ◌++◌, Option, Some, None, length, refl, ap, append_assoc, suc}
use Rattle.map_model.specs.declared.plans.Item.{Item}
use Rattle.script_reader.specs.Rules.{item_first}

-- items, and those behind them that may be there
abbrev pub items_behind : List Item → Option (List Item) → Option (List Item)
items_behind items (Some others) = Some (items ++ others)
items_behind items None = None

-- one item more
pub items_behind_push : (items : List Item) (i : Item) (o : Option (List Item)) → items_behind (items ++ i ∷ []) o ≡ items_behind items (item_first (Some i) o)
items_behind_push items i (Some others) = ap Some (append_assoc items (i ∷ []) others)
items_behind_push items i None = refl

-- how much is left to read
abbrev pub words_left : Option (List ℕ) → ℕ
words_left None = 0
words_left (Some bytes) = suc (length bytes)
