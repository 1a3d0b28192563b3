use Rattle.std.proofs.Common.{sym, ◌∙◌}
use Rattle.script_value.proofs.Entries.{name-at}
use Rattle.script_value.proofs.body.Body.name.Goals as goal

pub returns : goal.returns
returns c =
    let u = c.unwrap.result in
    let found = sym (rw c.unwrap.ensures at c.get_index.ensures.entry) in
    rw (← c.self.view_is) (c.bytes.ensures.value ∙ sym (name-at c.self.inside.clients.entries c.args.client (u.0.now, u.1.now) found))
