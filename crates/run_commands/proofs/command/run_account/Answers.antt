use Rattle.run_commands.proofs.command.run_account.Goals as goal

pub returns : goal.returns
returns g c =
    let played = c.in_ok-played.played in
    record {
      lines = played.lines.items;
      pairs = played.map;
      next = played.next;
      played = c.in_ok-played.ensures.played;
      written = c.in_ok-text.ensures;
    }
