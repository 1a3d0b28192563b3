-- The search, as a program.
use Rattle.std.specs.Prelude.{ℕ, Option}
use Rattle.verbs.specs.Programs.{Prog, mapped}
use Rattle.pass_text.specs.declared.job.Job.{Job}
use Rattle.pass_text.specs.declared.passed.Passed.{Passed}
use Rattle.pass_text.specs.declared.passed.PassEnd.{PassEnd}
use Rattle.pass_text.specs.declared.passed.PassEnd.TheVariants.{Held, Clear, Gone, Spent}
use Rattle.pass_text.specs.Pass.{pass}
use Rattle.op_search.specs.declared.end.SearchEnd.{SearchEnd}
use Rattle.op_search.specs.declared.end.SearchOutcome.{SearchOutcome}
use Rattle.op_search.specs.declared.end.SearchOutcome.TheVariants.{Found, Missing}

-- Held gives Found, else Missing; a look has no other ends than Held and Clear
abbrev pub found_by : PassEnd → SearchOutcome
found_by (Held h) = Found h
found_by Clear = Missing
found_by Gone = Missing
found_by Spent = Missing

abbrev pub found : Passed → SearchEnd
found p = record { outcome = found_by p.end; table = p.table }

-- one look, from the cached table or through the directory
abbrev pub search : Job → Option ℕ → Prog SearchEnd
search j entry = mapped found (pass j entry)
