use Rattle.std.proofs.Common.{◌∙◌, ◌++◌, ap, codes}
use Rattle.node_words.specs.declared.geometry.Geometry.{Geometry}
use Rattle.script_value.specs.Content.{Content, sizes_of}
use Rattle.script_value.specs.ScriptText.{header_words, table_words, content_words, line_text, text_of}
use Rattle.script_value.proofs.Joined.{whole_text}
use Rattle.script_value.proofs.writing.script_text.Goals as goal

pub returns : goal.returns
returns c =
    let s = c.args.script.now in
    let header = c.in_ok-put_header.ensures ∙ ap (λ t. t ++ line_text (header_words c.version.result)) c.new-text.ensures ∙ ap (λ v. line_text (header_words v)) c.version.ensures.value in
    let table = c.in_ok-put_table.ensures ∙ ap (λ t. t ++ line_text (table_words c.version-2.result (sizes_of c.geometry.result c.tries.result))) header
    ∙ ap (λ v. line_text (header_words s.version) ++ line_text (table_words v (sizes_of c.geometry.result c.tries.result))) c.version-2.ensures.value
    ∙ ap (λ (g : Geometry). line_text (header_words s.version) ++ line_text (table_words s.version (sizes_of g c.tries.result))) c.geometry.ensures
    ∙ ap (λ n. line_text (header_words s.version) ++ line_text (table_words s.version (sizes_of s.geometry n))) c.tries.ensures.value in
    let head = line_text (header_words s.version) ++ line_text (table_words s.version (sizes_of s.geometry s.tries)) in
    let content = c.in_ok-put_content.ensures ∙ ap (λ t. t ++ text_of (content_words c.body.result.now)) table ∙ ap (λ (b : Content). head ++ text_of (content_words b)) c.body.ensures.value in
    c.into_text.ensures ∙ c.in_ok-put.ensures ∙ ap (λ t. t ++ codes "end\n") content ∙ whole_text s
