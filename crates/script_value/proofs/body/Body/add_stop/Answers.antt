use Rattle.std.proofs.Common.{refl, nat_eq}
use Rattle.indexmap.proofs.CallerLemmas.{insert_entry-new}
use Rattle.script_value.proofs.body.Body.add_stop.Goals as goal

pub returns : goal.returns
returns c =
    let fresh = rw (← c.self.view_is) at c.requires in
    rw (← c.self.view_is, c.in_ok-insert.ensures.entries, insert_entry-new nat_eq c.self.inside.stops c.args.client c.args.stop fresh) refl
