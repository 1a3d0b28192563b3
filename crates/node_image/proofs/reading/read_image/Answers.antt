use Rattle.std.proofs.Common.{◌+◌, sym, ◌∙◌, subst}
use Rattle.node_image.proofs.ListedKeys.{rest_is}
use Rattle.node_image.proofs.WholeImage.{if_some, if_none, EntriesRead, image_read, no_nodes}
use Rattle.node_image.proofs.reading.read_image.Goals as goal

pub returns-in-None-clause-malformed : goal.returns-in-None-clause-malformed
returns-in-None-clause-malformed c = λ f.
    let r = if_some _ _ _ c.in-Some-entries.is c.in_ok-entries.ensures.some in
    let w = if_none _ _ c.in-None.is c.in_ok-nodes.ensures.none in
    no_nodes c.args.numbers.now c.in-Some.head.0 c.in-Some.head.1 c.in-Some-entries.entries.0 c.in-Some-entries.entries.1 c.in-Some.ensures.some
    (subst (λ v. EntriesRead v c.in-Some.head.1 c.in-Some-entries.entries.0 c.in-Some-entries.entries.1) (rest_is c.args.numbers.now 7) (record { whole = r.0; low = r.1; size = r.2; keys = r.3; distinct = r.4 }))
    (λ nodes h e. w nodes h (rest_is c.args.numbers.now (7 + c.in-Some-entries.entries.1) ∙ e))

pub returns-in-Some-nodes-clause-image : goal.returns-in-Some-nodes-clause-image
returns-in-Some-nodes-clause-image c =
    let r = if_some _ _ _ c.in-Some-entries.is c.in_ok-entries.ensures.some in
    let w = if_some _ _ _ c.in-Some-nodes.is c.in_ok-nodes.ensures.some in
    image_read c.args.numbers.now c.in-Some.head.0 c.in-Some.head.1 c.in-Some-entries.entries.0 c.in-Some-entries.entries.1 _ _ c.in-Some.ensures.some
    (subst (λ v. EntriesRead v c.in-Some.head.1 c.in-Some-entries.entries.0 c.in-Some-entries.entries.1) (rest_is c.args.numbers.now 7) (record { whole = r.0; low = r.1; size = r.2; keys = r.3; distinct = r.4 }))
    (sym (rest_is c.args.numbers.now (7 + c.in-Some-entries.entries.1)) ∙ w.0) w.1
