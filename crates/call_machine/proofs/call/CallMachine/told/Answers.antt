use Rattle.call_machine.proofs.call.CallMachine.told.Goals as goal

pub settle-self-requires-clause-spare : goal.settle-self-requires-clause-spare
settle-self-requires-clause-spare c = c.tell-at.ensures.spare c.args.self.now.task c.args.self.now.fits.1
