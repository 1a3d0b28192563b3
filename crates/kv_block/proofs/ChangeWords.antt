-- A change is told by its words.
use Rattle.std.proofs.Common.{◌≡◌, ℕ, List, Option, Some, None, refl, ap, ◌∙◌}
use Rattle.kv_block.specs.Packing.{Pair, IsPair}
use Rattle.kv_block.specs.declared.changes.Change.{Change}
use Rattle.kv_block.specs.ChangeWords.{mark_of, value_or_empty, change_words, value_by, change_told}
use Rattle.kv_block.proofs.ReadingLemmas.{block_key-packed, block_value-packed}

value_by-mark_of : (o : Option (List ℕ)) → value_by (mark_of o) (value_or_empty o) ≡ o
value_by-mark_of None = refl
value_by-mark_of (Some v) = refl

pub told-change : (c : Change) → IsPair (record { key = c.key; value = value_or_empty c.value }) → change_told (change_words c) ≡ c
told-change c h =
    let p : Pair = record { key = c.key; value = value_or_empty c.value } in
    let k = block_key-packed p h in
    let v = ap (value_by (mark_of c.value)) (block_value-packed p h) ∙ value_by-mark_of c.value in
    λ j. record { key = k j; value = v j }

pub ruleset told_changes = (told-change)
