use Rattle.std.proofs.Common.{◌<◌, length, arith}
use Rattle.play_lines.proofs.Listing.{element-there}
use Rattle.race_play.proofs.Lines.{numbers-step}
use Rattle.race_play.proofs.played.unfinished_calls.Goals as goal

pub loop-client-preserved : goal.loop-client-preserved
loop-client-preserved c =
    let players = c.args.world.now.players in
    let client = c.loop-client.client in
    let number = c.requires in
    let low : client < length players = omega (arith, c.loop-client-test.true, number) in
    let found = element-there players client low in
    numbers-step players client found.0 c.loop-client.numbers.items c.push.new.self.items _ c.unfinished.result found.1 (c.unfinished.ensures found.0 found.1) c.in_ok-push.ensures.items c.loop-client.invariant
