use Rattle.race_play.proofs.doing.sum_up.Goals as goal

pub returns-clause-played : goal.returns-clause-played
returns-clause-played g c status = record {
  text = c.in-Ok.account.text.items;
  log = c.in-Ok.account.front;
  told = c.write_play.ensures.log;
  made = c.in-Ok.ensures;
  written = c.write_play.ensures.whole status;
}

pub returns-clause-in_part : goal.returns-clause-in_part
returns-clause-in_part g c status = record {
  text = c.in-Ok.account.text.items;
  log = c.in-Ok.account.front;
  told = c.write_play.ensures.log;
  made = c.in-Ok.ensures;
  written = c.write_play.ensures.part status;
}
