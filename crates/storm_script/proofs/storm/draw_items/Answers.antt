use Rattle.std.proofs.Common.{◌∙◌, ap}
use Rattle.storm_script.specs.Storm.{storm_item}
use Rattle.storm_script.proofs.Drawing.{items-drawn}
use Rattle.storm_script.proofs.storm.draw_items.Goals as goal

pub loop-i-preserved : goal.loop-i-preserved
loop-i-preserved c =
    items-drawn (storm_item c.args.clients) c.loop-i.items.items c.push.new.self.items _ c.item_of.result c.args.count c.loop-i.i c.loop-i.draws.state c.draw.new.self.state c.loop-i-test.true
    c.in_ok-push.ensures.appended (c.item_of.ensures ∙ ap (storm_item c.args.clients) c.draw.ensures.number) c.draw.ensures.state c.loop-i.invariant
