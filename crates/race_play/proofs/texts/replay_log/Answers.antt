use Rattle.race_play.proofs.texts.replay_log.Goals as goal

pub returns : goal.returns
returns c = record {
  ended = c.in_ok-log.ensures.0;
  played = c.in_ok-log.ensures.1;
  same_geometry = c.in_ok-log.ensures.2;
  same_entries = c.in_ok-log.ensures.3;
  geometry_is = c.geometry.ensures;
  listed_is = c.in_ok-listed.ensures;
}
