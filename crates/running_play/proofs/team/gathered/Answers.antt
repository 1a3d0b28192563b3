use Rattle.running_play.proofs.Gathering.{one_gathered}
use Rattle.running_play.proofs.team.gathered.Goals as goal

pub loop-result-preserved : goal.loop-result-preserved
loop-result-preserved c = one_gathered c.args.results.items c.loop-result.results.items c.pop.new.self.items c.loop-result.all.items c.push.new.self.items c.in-Some.result c.in_ok-result.field-0 c.loop-result.invariant c.in-Some.ensures.items c.in_ok-result.was c.in_ok-push.ensures.items
