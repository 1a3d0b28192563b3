-- The table and the number of lost swaps that the end of a delete tells are those of its work.
use Rattle.std.specs.Prelude.{◌≡◌, Some, refl}
use Rattle.std.proofs.Common.{sym, ◌∙◌, ap}
use Rattle.verbs.specs.Programs.{outcome_of}
use Rattle.op_delete.specs.declared.end.DeleteEnd.{DeleteEnd}
use Rattle.work_area.specs.declared.work.Work.{Work}
use Rattle.op_delete.specs.declared.at.At.{At}
use Rattle.op_delete.specs.declared.at.At.TheVariants.{Looking, Settle, Remove, Deleted, Missing, Again}
use Rattle.op_delete.specs.Rest.{at_rest}
use Rattle.op_delete.specs.AtFits.{AtFits}
use Rattle.op_delete.proofs.Looking.{delete-outcome}

pub record Told (w : Work) (e : DeleteEnd) : Type 0 where
  pub table : e.table ≡ w.pass.scan.table
  pub lost : e.lost ≡ w.removal.lost

same : (w : Work) (a b : DeleteEnd) → Some a ≡ Some b → a.table ≡ w.pass.scan.table → a.lost ≡ w.removal.lost → Told w b
same w a b e t l = record { table = ap (λ (x : DeleteEnd). x.table) (sym (given a b e)) ∙ t; lost = ap (λ (x : DeleteEnd). x.lost) (sym (given a b e)) ∙ l }
  where
    given : (a b : DeleteEnd) → Some a ≡ Some b → a ≡ b
    given a b e = cc

pub end_told : (w : Work) (at : At) (e : DeleteEnd) → AtFits w at → outcome_of (at_rest w at) ≡ Some e → Told w e
end_told w Looking e f h = let x = delete-outcome w Looking refl f ∙ h in absurd (cc)
end_told w Settle e f h = absurd (cc)
end_told w Remove e f h = absurd (cc)
end_told w Deleted e f h = same w _ e h refl refl
end_told w Missing e f h = same w _ e h refl refl
end_told w Again e f h = same w _ e h refl refl
