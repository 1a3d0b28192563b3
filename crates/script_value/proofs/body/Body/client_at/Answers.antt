use Rattle.std.proofs.Common.{sym, ap, ◌∙◌, position}
use Rattle.kv_block.specs.Bytes.{key_eq}
use Rattle.script_value.proofs.Entries.{names-kept}
use Rattle.script_value.proofs.body.Body.client_at.Goals as goal

pub returns-in_err-place-clause-place : goal.returns-in_err-place-clause-place
returns-in_err-place-clause-place c =
    rw (← c.self.view_is) (c.from_residual.ensures ∙ sym c.in_err-place.was ∙ c.get_index_of.ensures.index ∙ sym (ap (position (key_eq c.args.name.now)) (names-kept c.self.inside.clients.entries)))

pub returns-clause-place : goal.returns-clause-place
returns-clause-place c =
    rw (← c.self.view_is) (sym c.in_ok-place.was ∙ c.get_index_of.ensures.index ∙ sym (ap (position (key_eq c.args.name.now)) (names-kept c.self.inside.clients.entries)))
