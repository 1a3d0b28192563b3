use Rattle.std.proofs.Common.{subst, inl, inr}
use Rattle.script_commands.proofs.Endings.{not-unplayed, written-status}
use Rattle.race_io.specs.Counts.{Rose}
use Rattle.std.specs.Io.KnownBytes.{Appends}
use Rattle.race_io.specs.Transfer.{AppendsPart}
use Rattle.run_commands.proofs.command.run.Goals as goal

pub returns-in-Ok-run_account-clause-played : goal.returns-in-Ok-run_account-clause-played
returns-in-Ok-run_account-clause-played g c status = record {
  text = c.in-Ok-run_account.account.text.items;
  log = c.in-Ok-run_account.account.front;
  told = c.write_play.ensures.log;
  made = record { script = c.in-Ok.script; reads = c.in-Ok.ensures.read; made = c.in-Ok-run_account.ensures };
  written = subst (λ k. Appends (g.K.Sink.taken k) (g.K.Sink.taken c.write_play.new.sink) c.in-Ok-run_account.account.text.items) c.in-Ok.ensures.unwritten (c.write_play.ensures.whole status);
}

pub returns-in-Ok-run_account-clause-in_part : goal.returns-in-Ok-run_account-clause-in_part
returns-in-Ok-run_account-clause-in_part g c status = record {
  text = c.in-Ok-run_account.account.text.items;
  log = c.in-Ok-run_account.account.front;
  told = c.write_play.ensures.log;
  made = record { script = c.in-Ok.script; reads = c.in-Ok.ensures.read; made = c.in-Ok-run_account.ensures };
  written = subst (λ k. AppendsPart (g.K.Sink.taken k) (g.K.Sink.taken c.write_play.new.sink) c.in-Ok-run_account.account.text.items) c.in-Ok.ensures.unwritten (c.write_play.ensures.part status);
}

pub returns-in-Ok-run_account-clause-statuses : goal.returns-in-Ok-run_account-clause-statuses
returns-in-Ok-run_account-clause-statuses g c = written-status c.write_play.result.status c.write_play.ensures.statuses

pub returns-in-Ok-run_account-clause-refused : goal.returns-in-Ok-run_account-clause-refused
returns-in-Ok-run_account-clause-refused g c e = not-unplayed c.write_play.result.status c.write_play.ensures.statuses (inl e)

pub returns-in-Ok-run_account-clause-failed : goal.returns-in-Ok-run_account-clause-failed
returns-in-Ok-run_account-clause-failed g c e = not-unplayed c.write_play.result.status c.write_play.ensures.statuses (inr (inl e))

pub returns-in-Ok-run_account-clause-failed_unwritten : goal.returns-in-Ok-run_account-clause-failed_unwritten
returns-in-Ok-run_account-clause-failed_unwritten g c e = not-unplayed c.write_play.result.status c.write_play.ensures.statuses (inr (inl e))

pub returns-in-Ok-run_account-clause-wanting : goal.returns-in-Ok-run_account-clause-wanting
returns-in-Ok-run_account-clause-wanting g c e = not-unplayed c.write_play.result.status c.write_play.ensures.statuses (inr (inr e))

pub returns-in-Ok-run_account-clause-cut_off : goal.returns-in-Ok-run_account-clause-cut_off
returns-in-Ok-run_account-clause-cut_off g c e = subst (λ k. Rose (g.K.Sink.faults k) (g.K.Sink.faults c.write_play.new.sink)) c.in-Ok.ensures.unwritten (c.write_play.ensures.rose e)
