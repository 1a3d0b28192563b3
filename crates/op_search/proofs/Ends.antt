-- The table that the end of a search tells is the one where its look ended.
use Rattle.std.specs.Prelude.{◌≡◌, Some}
use Rattle.std.proofs.Common.{sym, ap}
use Rattle.verbs.specs.Programs.{outcome_of, mapped}
use Rattle.pass_text.specs.declared.job.Job.{Job}
use Rattle.scan_pass.specs.declared.scan.Scan.{Scan}
use Rattle.scan_pass.specs.declared.at.At.{At}
use Rattle.scan_pass.specs.declared.at.At.TheVariants.{Depth, Directory, Header, Parent, Birth, Slot, Block, Drop, KeyHeader, Child, Held, Clear, Gone, Spent}
use Rattle.scan_pass.specs.Rest.{at_rest}
use Rattle.op_search.specs.declared.end.SearchEnd.{SearchEnd}
use Rattle.op_search.specs.Text.{found}

same : (a b : SearchEnd) → Some a ≡ Some b → b.table ≡ a.table
same a b e = ap (λ (x : SearchEnd). x.table) (sym (given a b e))
  where
    given : (a b : SearchEnd) → Some a ≡ Some b → a ≡ b
    given a b e = cc

pub table_told : (j : Job) (s : Scan) (at : At) (e : SearchEnd) → outcome_of (mapped found (at_rest j s at)) ≡ Some e → e.table ≡ s.table
unfolding mapped
table_told j s Depth e h = absurd (cc)
table_told j s Directory e h = absurd (cc)
table_told j s Header e h = absurd (cc)
table_told j s Parent e h = absurd (cc)
table_told j s Birth e h = absurd (cc)
table_told j s Slot e h = absurd (cc)
table_told j s Block e h = absurd (cc)
table_told j s Drop e h = absurd (cc)
table_told j s KeyHeader e h = absurd (cc)
table_told j s Child e h = absurd (cc)
table_told j s Held e h = same _ e h
table_told j s Clear e h = same _ e h
table_told j s Gone e h = same _ e h
table_told j s Spent e h = same _ e h
