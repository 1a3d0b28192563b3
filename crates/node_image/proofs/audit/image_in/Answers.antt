use Rattle.std.specs.Prelude.{Result, Ok, Err, IfOk}
use Rattle.std.proofs.Common.{sym, subst}
use Rattle.image_audit.specs.Shape.{lists_of}
use Rattle.node_image.specs.Numbers.{AreNumbers}
use Rattle.node_image.proofs.WholeImage.{whole_numbers, of_numbers}
use Rattle.node_image.proofs.audit.image_in.Goals as goal

ok_on : {A E : Type 0} {P Q : A → Type 0} (r : Result A E) → IfOk r P → ((x : A) → P x → Q x) → IfOk r Q
ok_on (Ok x) h f = f x h
ok_on (Err e) h f = tt

pub returns-then-bytes-ne0-clause-malformed : goal.returns-then-bytes-ne0-clause-malformed
returns-then-bytes-ne0-clause-malformed c = λ f g listed nodes im. c.if-bytes-ne0.true (whole_numbers c.args.bytes.now g listed nodes im)

pub returns-clause-image : goal.returns-clause-image
returns-clause-image c = ok_on c.read_image.result c.read_image.ensures.image (λ p h. record {
  few = c.if-bytes-gt-MOST.false;
  numbers = c.in_ok-numbers.numbers.items;
  are = subst (λ v. AreNumbers v p.0.geometry p.1 (lists_of p.0.nodes.items)) c.deref.ensures.value h;
  small = c.in_ok-numbers.ensures.small;
  spell = c.in_ok-numbers.ensures.bytes;
})

pub returns-clause-malformed : goal.returns-clause-malformed
returns-clause-malformed c = λ f g listed nodes im. c.read_image.ensures.malformed f g listed nodes (subst (λ v. AreNumbers v g listed nodes) (sym c.deref.ensures.value) (of_numbers c.args.bytes.now c.in_ok-numbers.numbers.items c.in_ok-numbers.ensures.bytes c.in_ok-numbers.ensures.small g listed nodes im))
