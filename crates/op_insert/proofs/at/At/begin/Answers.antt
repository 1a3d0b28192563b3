use Rattle.std.proofs.Common.{◌≡◌, ◌∙◌, ap}
use Rattle.work_area.specs.declared.work.Work.{Work}
use Rattle.scan_pass.specs.Rest.{pass_rest}
use Rattle.op_insert.specs.Text.{Inserting}
use Rattle.op_insert.specs.Rest.{inserting}
use Rattle.op_insert.specs.InsertRest.{start_of}
use Rattle.op_insert.proofs.Onward.{begins_insert}
use Rattle.op_insert.proofs.at.At.begin.Goals as goal

pub returns-clause-rest : goal.returns-clause-rest
returns-clause-rest c =
    let i : Inserting = start_of c.args.geometry c.args.client c.args.hash c.args.key.now c.args.value.now c.args.tries_left in
    let w : Work = record c.pack.new.self { numbers = c.numbers_of-work.result } in
    let job : c.pack.new.self.job ≡ i.job = c.pack.ensures.look ∙ c.seek.ensures.look in
    let same : inserting w ≡ i = λ t. (let x : Inserting = record { job = job t; taking = c.pack.ensures.taking t; tries = c.numbers_of-work.ensures.tries t } in x) in
    begins_insert i c.args.entry c.args.kept c.args.area w (ap pass_rest c.pack.ensures.pass ∙ c.seek.ensures.rest) same c.pack.ensures.area c.numbers_of-work.ensures.kept c.numbers_of-work.ensures.left c.numbers_of-work.ensures.parts
