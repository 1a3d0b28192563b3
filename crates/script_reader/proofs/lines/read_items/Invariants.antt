use Rattle.std.proofs.Common.{◌≡◌}
use Rattle.std.specs.Option.{option_map}
use Rattle.spelling.specs.Words.{parts_after}
use Rattle.script_reader.specs.Rules.{items_of}
use Rattle.script_reader.proofs.ReadItems.{items_behind, words_left}
use Rattle.script_reader.proofs.lines.read_items.Given as goal

-- the items so far, and those of the words that are left
abbrev pub invariant-loop-rest : goal.invariant-loop-rest
invariant-loop-rest l =
    items_behind l.items.items (items_of l.body (parts_after 32 (option_map (λ rest. rest.now) l.rest))) ≡ items_of l.body (parts_after 32 (option_map (λ rest. rest.now) l.words))

abbrev pub decreases-loop-rest : goal.decreases-loop-rest
decreases-loop-rest l = words_left (option_map (λ rest. rest.now) l.rest)
