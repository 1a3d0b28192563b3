use Rattle.std.proofs.Common.{◌≡◌, arith, ◌∙◌, ◌++◌, ap, sym}
use Rattle.std.proofs.lemmas.Result.{on_ok_weaker}
use Rattle.script_value.specs.Content.{sizes_of}
use Rattle.script_value.specs.ScriptText.{table_words, line_text}
use Rattle.script_value.proofs.Joined.{table_1-written, table_2-written}
use Rattle.script_value.proofs.writing.put_table.Goals as goal

pub returns-then-version-eq1 : goal.returns-then-version-eq1
returns-then-version-eq1 c =
    let s = sizes_of c.args.geometry.now c.args.tries in
    on_ok_weaker c.put_table_1.result (λ e. e ∙ ap (λ t. c.args.out.now.items ++ t) (table_1-written s ∙ ap (λ v. line_text (table_words v s)) (sym c.if-version-eq1.true))) c.put_table_1.ensures

pub returns-else-version-eq1 : goal.returns-else-version-eq1
returns-else-version-eq1 c =
    let s = sizes_of c.args.geometry.now c.args.tries in
    let two : 2 ≡ c.args.version = omega arith in
    on_ok_weaker c.put_table_2.result (λ e. e ∙ ap (λ t. c.args.out.now.items ++ t) (table_2-written s ∙ ap (λ v. line_text (table_words v s)) two)) c.put_table_2.ensures
