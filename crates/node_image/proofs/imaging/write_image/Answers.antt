use Rattle.std.proofs.Common.{ap, sym, ◌∙◌, subst}
use Rattle.std.specs.Prelude.{length}
use Rattle.kv_block.specs.Packing.{bytes_of}
use Rattle.race_laws.specs.Standing.{IsIn}
use Rattle.image_audit.specs.Shape.{lists_of}
use Rattle.node_image.specs.Numbers.{AreKeys, numbers_of}
use Rattle.node_image.specs.Parts.{image_bytes}
use Rattle.node_image.proofs.ImageNumbers.{image_is}
use Rattle.node_image.proofs.imaging.write_image.Goals as goal

pub returns : goal.returns
returns c = image_is c.args.image.now.geometry c.args.listed.now (lists_of c.args.image.now.nodes.items) c.args.image.now.longest c.in_ok-numbers.numbers.items c.in_ok-bytes.bytes.items c.bytes_count-bytes.result
    (c.in_ok-numbers.ensures.numbers ∙ ap (λ v. numbers_of c.args.image.now.geometry v (lists_of c.args.image.now.nodes.items)) c.pairs-2.ensures)
    (subst AreKeys c.pairs-2.ensures c.in_ok-numbers.ensures.keys)
    c.len.ensures.distinct
    c.args.image.now.fits
    (λ x i. c.in_ok-bytes.ensures.small x (subst (IsIn x) (sym c.deref.ensures.value) i))
    (c.in_ok-bytes.ensures.bytes ∙ ap bytes_of c.deref.ensures.value)
    (c.bytes_count-bytes.ensures ∙ ap (λ v. length (image_bytes c.args.image.now.geometry v (lists_of c.args.image.now.nodes.items))) c.pairs.ensures)
    c.if-bytes.false
