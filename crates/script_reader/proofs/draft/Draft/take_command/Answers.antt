use Rattle.std.proofs.lemmas.Bool.{cond-false}
use Rattle.script_reader.specs.declared.fault.ScriptKind.TheVariants as kind
use Rattle.spelling.specs.Words.{is_empty}
use Rattle.spelling.proofs.Cuts.{is_empty_parts}
use Rattle.script_reader.proofs.Placed.{some_client}
use Rattle.script_reader.proofs.draft.Draft.take_command.Goals as goal

pub take_insert-requires : goal.take_insert-requires
take_insert-requires c =
    let b = c.args.self.now.body in
    some_client (is_empty b.clients) (is_empty b.stops) (is_empty b.schedules) kind.Word (rw c.in-Insert.is at c.requires.placed)

pub take_search-requires : goal.take_search-requires
take_search-requires c =
    let b = c.args.self.now.body in
    some_client (is_empty b.clients) (is_empty b.stops) (is_empty b.schedules) kind.Word (rw c.in-Search.is at c.requires.placed)

pub take_update-requires : goal.take_update-requires
take_update-requires c =
    let b = c.args.self.now.body in
    some_client (is_empty b.clients) (is_empty b.stops) (is_empty b.schedules) kind.Word (rw c.in-Update.is at c.requires.placed)

pub take_delete-requires : goal.take_delete-requires
take_delete-requires c =
    let b = c.args.self.now.body in
    some_client (is_empty b.clients) (is_empty b.stops) (is_empty b.schedules) kind.Word (rw c.in-Delete.is at c.requires.placed)

pub take_resize-requires : goal.take_resize-requires
take_resize-requires c =
    let b = c.args.self.now.body in
    some_client (is_empty b.clients) (is_empty b.stops) (is_empty b.schedules) kind.Word (rw c.in-Resize.is at c.requires.placed)

pub returns-in-Some-clause-read : goal.returns-in-Some-clause-read
returns-in-Some-clause-read c = rw (c.in-End.is, c.in-Some.is) (cond-false _ _ _ (is_empty_parts 32 c.in-Some.field-0.now))
