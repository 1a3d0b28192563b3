use Rattle.std.proofs.Common.{◌∙◌, ap}
use Rattle.storm_script.specs.Storm.{storm_call}
use Rattle.storm_script.proofs.Drawing.{items-drawn, state-drawn}
use Rattle.storm_script.proofs.storm.draw_calls.Goals as goal

pub loop-i-preserved : goal.loop-i-preserved
loop-i-preserved c =
    let i = c.loop-i.i in
    let count = c.args.count in
    let low = c.loop-i-test.true in
    let moved = c.draw.ensures.state in
    record {
      calls = items-drawn storm_call c.loop-i.calls.items c.push.new.self.items _ c.in_ok-call.call count i c.loop-i.draws.state c.draw.new.self.state low c.in_ok-push.ensures.appended
          (c.in_ok-call.ensures ∙ ap storm_call c.draw.ensures.number) moved c.loop-i.invariant.calls;
      state = state-drawn count i c.loop-i.draws.state c.draw.new.self.state _ low moved c.loop-i.invariant.state;
    }
