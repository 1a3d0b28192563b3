use Rattle.std.proofs.Common.{subst}
use Rattle.script_value.specs.Content.{ScriptValue}
use Rattle.race_play.specs.Plays.{Replayed}
use Rattle.race_play.proofs.texts.storm_account.Goals as goal

pub returns : goal.returns
returns c =
    let played = c.in_ok-played.played in
    record {
      lines = played.lines.items;
      pairs = played.map;
      next = played.next;
      replayed = subst (λ (script : ScriptValue). Replayed script played.lines.items played.map played.next played.front) c.in_ok-script.ensures c.in_ok-played.ensures.replayed;
      written = c.in_ok-text.ensures;
    }
