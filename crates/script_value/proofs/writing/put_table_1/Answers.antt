use Rattle.std.proofs.Common.{◌∙◌, ◌++◌, ◌∷◌, [], codes}
use Rattle.std.proofs.lemmas.Result.{on_ok_weaker}
use Rattle.std.specs.Fmt.{decimal}
use Rattle.script_value.proofs.Joined.{five_parts}
use Rattle.script_value.proofs.writing.put_table_1.Goals as goal

pub returns : goal.returns
returns c =
    let g = c.args.geometry.now in
    on_ok_weaker c.push.result (λ e. e
    ∙ rw (c.in_ok-put_word_number-4.ensures, c.in_ok-put_word_number-3.ensures, c.in_ok-put_word_number-2.ensures, c.in_ok-put_word_number.ensures)
    (five_parts c.args.out.now.items (codes "table groups=" ++ decimal g.groups) (codes " depth=" ++ decimal g.max_depth) (codes " words=" ++ decimal g.words) (codes " tries=" ++ decimal c.args.tries) (10 ∷ [])))
    c.push.ensures
