use Rattle.std.proofs.Common.{◌++◌, codes, ap, ◌∙◌}
use Rattle.std.specs.FinMap as fin
use Rattle.std.specs.List.{flat_map}
use Rattle.play_report.specs.Report.{map_line}
use Rattle.image_commands.proofs.PageTexts.{moves_whole, moves_part, report_part, report_moves, on_err, ok_so, err_so}
use Rattle.image_commands.proofs.pages.put_report.Goals as goal

pub returns-in_err-put_pairs-clause-part : goal.returns-in_err-put_pairs-clause-part
returns-in_err-put_pairs-clause-part g c = on_err c.from_residual.result
    (report_part _ _ c.put.new.self.items (codes "race audit\n") (flat_map map_line (fin.entries c.args.map.now)) c.args.last.now (c.put.ensures.items ∙ ap (λ v. v ++ codes "race audit\n") c.requires.empty) c.in_err-put_pairs.ensures.part)

pub returns-in_err-make_room-clause-part : goal.returns-in_err-make_room-clause-part
returns-in_err-make_room-clause-part g c = on_err c.from_residual-in_err-make_room.result
    (report_part _ _ c.put.new.self.items (codes "race audit\n") (flat_map map_line (fin.entries c.args.map.now)) c.args.last.now (c.put.ensures.items ∙ ap (λ v. v ++ codes "race audit\n") c.requires.empty)
    (moves_part _ _ _ c.put_pairs.new.page.items (c.put.new.self.items ++ flat_map map_line (fin.entries c.args.map.now)) c.in_ok-put_pairs.ensures.moved c.in_err-make_room.ensures.part))

pub returns-clause-whole : goal.returns-clause-whole
returns-clause-whole g c = ok_so c.put_all.result c.put_all.ensures.appended (λ h. moves_whole _ _ _ c.as_slice.result.now _
    (report_moves _ _ _ c.put.new.self.items (codes "race audit\n") (flat_map map_line (fin.entries c.args.map.now)) c.args.last.now c.put_pairs.new.page.items c.make_room.new.page.items c.as_slice.result.now
    (c.put.ensures.items ∙ ap (λ v. v ++ codes "race audit\n") c.requires.empty) c.in_ok-put_pairs.ensures.moved c.in_ok-make_room.ensures.moved (c.as_slice.ensures ∙ c.put-2.ensures.items)) h)

pub returns-clause-part : goal.returns-clause-part
returns-clause-part g c = err_so c.put_all.result c.put_all.ensures.part (λ h. moves_part _ _ _ c.as_slice.result.now _
    (report_moves _ _ _ c.put.new.self.items (codes "race audit\n") (flat_map map_line (fin.entries c.args.map.now)) c.args.last.now c.put_pairs.new.page.items c.make_room.new.page.items c.as_slice.result.now
    (c.put.ensures.items ∙ ap (λ v. v ++ codes "race audit\n") c.requires.empty) c.in_ok-put_pairs.ensures.moved c.in_ok-make_room.ensures.moved (c.as_slice.ensures ∙ c.put-2.ensures.items)) h)
