-- What is left of a search.
use Rattle.std.specs.Prelude.{◌≡◌, ℕ, Option}
use Rattle.verbs.specs.Programs.{Prog, mapped}
use Rattle.pass_text.specs.Pass.{pass}
use Rattle.scan_pass.specs.declared.pass.Pass.{Pass}
use Rattle.scan_pass.specs.Rest.{pass_rest}
use Rattle.op_search.specs.declared.end.SearchEnd.{SearchEnd}
use Rattle.op_search.specs.declared.search.SearchOp.{SearchOp}
use Rattle.op_search.specs.Text.{found}

-- a pass was started from this cached table, or from none, and not yet fed
abbrev pub IsBegun : Pass → Option ℕ → Type 0
IsBegun p entry = pass_rest p ≡ pass p.task.job entry

abbrev pub search_rest : SearchOp → Prog SearchEnd
search_rest s = mapped found (pass_rest s.pass)
