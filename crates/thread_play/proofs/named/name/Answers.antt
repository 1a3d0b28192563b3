use Rattle.thread_play.proofs.Naming.{seen_push, kept_push, named_push}
use Rattle.thread_play.proofs.named.name.Goals as goal

pub returns-in_ok-push-in_default-clause-seen : goal.returns-in_ok-push-in_default-clause-seen
returns-in_ok-push-in_default-clause-seen c =
    seen_push c.args.seen.now c.step.new.self c.args.key c.empty-value.result c.args.keys.now.items c.push.new.self.items c.requires c.in_ok-step.ensures.ok c.in_ok-push-in_default.ensures.items

pub returns-in_ok-push-in_default-clause-kept : goal.returns-in_ok-push-in_default-clause-kept
returns-in_ok-push-in_default-clause-kept c = kept_push c.args.key c.args.keys.now.items c.push.new.self.items c.in_ok-push-in_default.ensures.items

pub returns-in_ok-push-in_default-clause-named : goal.returns-in_ok-push-in_default-clause-named
returns-in_ok-push-in_default-clause-named c = named_push c.args.key c.args.keys.now.items c.push.new.self.items c.in_ok-push-in_default.ensures.items
