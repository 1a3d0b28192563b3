use Rattle.std.proofs.Common.{ap, sym, ◌∙◌}
use Rattle.std.specs.List.{slice_get}
use Rattle.image_audit.proofs.HeldWords.{all_held, filled_whole}
use Rattle.image_audit.proofs.filling.fill_map.Goals as goal

pub put_pairs-requires-clause-held : goal.put_pairs-requires-clause-held
put_pairs-requires-clause-held g c i word e = all_held _ _ c.args.blocks _ c.in_ok-words.ensures.ordered c.requires i word (ap (λ v. slice_get v i) (sym (c.deref.ensures.value ∙ c.in_ok-words.ensures.words)) ∙ e)

pub returns : goal.returns
returns g c = filled_whole _ _ _ _ c.args.blocks c.deref.result.now c.requires (c.deref.ensures.value ∙ c.in_ok-words.ensures.words) c.in_ok-put_pairs.ensures
