use Rattle.std.proofs.Common.{◌∙◌}
use Rattle.image_audit.specs.Kept.{setting_of}
use Rattle.image_audit.specs.Shape.{lists_of}
use Rattle.node_image.proofs.LoggedWords.{nexts_there, parts_there, small_after, loud_after, quiet_after, written_after}
use Rattle.node_image.proofs.imaging.image_of.Goals as goal

pub image_after-requires : goal.image_after-requires
image_after-requires c = nexts_there (setting_of c.args.geometry.now c.args.listed.now) c.args.log.now.entries c.requires.legal c.args.log.now.geometry c.requires.geometry

pub first_loud-requires : goal.first_loud-requires
first_loud-requires c = small_after (setting_of c.args.geometry.now c.args.listed.now) c.args.log.now.entries c.requires.legal c.in_ok-image.image.geometry (lists_of c.in_ok-image.image.nodes.items) (c.in_ok-image.ensures.geometry ∙ c.requires.geometry)
    (parts_there (setting_of c.args.geometry.now c.args.listed.now) c.args.log.now.entries c.requires.legal c.args.log.now.geometry c.requires.geometry _ c.in_ok-image.ensures.words)

pub returns-in-Some : goal.returns-in-Some
returns-in-Some c = loud_after (setting_of c.args.geometry.now c.args.listed.now) c.args.log.now.entries c.requires.legal c.in_ok-image.image.geometry (lists_of c.in_ok-image.image.nodes.items) (c.in_ok-image.ensures.geometry ∙ c.requires.geometry)
    (parts_there (setting_of c.args.geometry.now c.args.listed.now) c.args.log.now.entries c.requires.legal c.args.log.now.geometry c.requires.geometry _ c.in_ok-image.ensures.words)
    c.in_ok-loud.loud c.in-Some.at c.in-Some.is c.in_ok-loud.ensures

pub returns : goal.returns
returns c = written_after (setting_of c.args.geometry.now c.args.listed.now) c.args.log.now.entries c.requires.legal c.in_ok-image.image.geometry (lists_of c.in_ok-image.image.nodes.items) c.in_ok-imaged-in-None.imaged (c.in_ok-image.ensures.geometry ∙ c.requires.geometry)
    (parts_there (setting_of c.args.geometry.now c.args.listed.now) c.args.log.now.entries c.requires.legal c.args.log.now.geometry c.requires.geometry _ c.in_ok-image.ensures.words)
    (quiet_after (setting_of c.args.geometry.now c.args.listed.now) c.args.log.now.entries c.requires.legal c.in_ok-image.image.geometry (lists_of c.in_ok-image.image.nodes.items) (c.in_ok-image.ensures.geometry ∙ c.requires.geometry)
    (parts_there (setting_of c.args.geometry.now c.args.listed.now) c.args.log.now.entries c.requires.legal c.args.log.now.geometry c.requires.geometry _ c.in_ok-image.ensures.words) c.in_ok-loud.loud c.in-None.is c.in_ok-loud.ensures)
    c.in_ok-imaged-in-None.ensures
