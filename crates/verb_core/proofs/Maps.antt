-- The map after all changes.
use Rattle.std.proofs.Common.{◌≡◌, List, ◌++◌, length, Option, Some, sym, ap, ◌∙◌, arith}
use Rattle.std.proofs.lemmas.List.{take_all}
use Rattle.std.specs.FinMap as fin
use Rattle.std.specs.Option.{option_to_list}
use Rattle.kv_block.specs.declared.changes.Change.{Change}
use Rattle.map_model.specs.Contents.{Contents}
use Rattle.map_model.specs.Machine.{map_after, map_at, changed}
use Rattle.map_model.proofs.Bridge.{map_after-push}

-- all changes of a list
map-whole : (changes : List Change) → map_at changes (length changes) ≡ map_after fin.empty changes
map-whole changes = ap (map_after fin.empty) (take_all (length changes) changes (omega arith))

-- and a pending one
pub map-pending : (changes : List Change) (pending : Option Change) (change : Change) (before after : Contents) → pending ≡ Some change → before ≡ map_at changes (length changes) → after ≡ changed before change
    → after ≡ map_after fin.empty (changes ++ option_to_list pending)
map-pending changes pending change before after is made applied =
    applied ∙ ap (λ m. changed m change) (made ∙ map-whole changes) ∙ sym (map_after-push fin.empty changes change) ∙ ap (λ o. map_after fin.empty (changes ++ option_to_list o)) (sym is)
