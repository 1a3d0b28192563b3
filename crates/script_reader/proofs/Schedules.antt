-- Schedule lines.
use Rattle.std.proofs.Common.{◌≡◌, ℕ, List, false, Some, Ok, ap, ◌∙◌}
use Rattle.std.proofs.lemmas.Bool.{cond-false}
use Rattle.map_model.specs.declared.plans.Item.{Item}
use Rattle.script_reader.specs.declared.fault.ScriptKind.TheVariants as kind
use Rattle.script_value.specs.Content.{Content, with_schedule}
use Rattle.script_reader.specs.Rules.{◌>>=◌, or_else, items_of, schedule_step}
use Rattle.spelling.specs.Words.{is_empty}

-- items that are read are added
pub schedule_step-items : (c : Content) (words : List (List ℕ)) (items : List Item) → is_empty words ≡ false → items_of c words ≡ Some items → schedule_step c words ≡ Ok (with_schedule c items)
schedule_step-items c words items some read = cond-false _ _ _ some ∙ ap (λ o. or_else kind.Schedule o >>= λ is. Ok (with_schedule c is)) read
