use Rattle.std.proofs.Common.{refl}
use Rattle.kv_block.specs.Bytes.{key_eq}
use Rattle.script_value.proofs.Entries.{insert-client}
use Rattle.script_value.proofs.body.Body.add_client.Goals as goal

pub returns : goal.returns
returns c =
    let fresh = rw (← c.self.view_is) at c.requires.fresh in
    rw (← c.self.view_is, c.in_ok-insert.ensures.entries, insert-client key_eq c.self.inside.clients c.args.name c.args.calls fresh) refl
