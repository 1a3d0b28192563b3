use Rattle.std.proofs.Common.{◌%◌, ap, sym, ◌∙◌}
use Rattle.image_audit.proofs.Images.{opening_past, opening_past_heap}
use Rattle.node_image.proofs.image.Image.opening_word.Goals as goal

pub returns-then-at-node_size-eq0 : goal.returns-then-at-node_size-eq0
returns-then-at-node_size-eq0 c = sym (opening_past c.args.self.now.geometry c.args.at c.if-at-self.false (ap (λ v. c.args.at % v) (sym c.node_size.ensures.size) ∙ c.if-at-node_size-eq0.true))

pub returns-else-at-node_size-eq0 : goal.returns-else-at-node_size-eq0
returns-else-at-node_size-eq0 c = sym (opening_past_heap c.args.self.now.geometry c.args.at c.if-at-self.false (λ z. c.if-at-node_size-eq0.false (ap (λ v. c.args.at % v) c.node_size.ensures.size ∙ z)))
