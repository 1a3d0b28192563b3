use Rattle.std.proofs.Common.{map, sym, arith}
use Rattle.std.proofs.lemmas.List.{length-map}
use Rattle.race_play.proofs.Words.{no-command}
use Rattle.race_play.proofs.command.command_of.Goals as goal

pub returns-in_default-2 : goal.returns-in_default-2
returns-in_default-2 c =
    let long = length-map c.args.words.now (λ word. word.now) in
    let least = c.in_default.len_at_least in
    let most = c.in_default.len_below in
    sym (no-command (map (λ word. word.now) c.args.words.now) (λ e. omega (arith, e, long, least, most)) (λ e. omega (arith, e, long, least, most)))

pub returns-in_default-3 : goal.returns-in_default-3
returns-in_default-3 c =
    let long = length-map c.args.words.now (λ word. word.now) in
    let least = c.in_default.len_at_least in
    sym (no-command (map (λ word. word.now) c.args.words.now) (λ e. omega (arith, e, long, least)) (λ e. omega (arith, e, long, least)))
