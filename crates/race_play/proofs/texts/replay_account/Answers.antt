use Rattle.race_play.proofs.texts.replay_account.Goals as goal

pub returns : goal.returns
returns c =
    let played = c.in_ok-played.played in
    record {
      lines = played.lines.items;
      pairs = played.map;
      next = played.next;
      replayed = c.in_ok-played.ensures.replayed;
      written = c.in_ok-text.ensures;
    }
