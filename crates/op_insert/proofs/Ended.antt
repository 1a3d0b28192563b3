-- What an insert tells in the end of its lost swaps, its table and its area.
use Rattle.std.specs.Prelude.{◌≡◌, true, Some, refl}
use Rattle.std.proofs.Common.{◌∙◌, ap, sym}
use Rattle.verbs.specs.Programs.{outcome_of}
use Rattle.op_insert.specs.declared.end.InsertEnd.{InsertEnd}
use Rattle.work_area.specs.declared.work.Work.{Work}
use Rattle.op_insert.specs.declared.at.At.{At}
use Rattle.op_insert.specs.declared.at.At.TheVariants.{Look, ParentHeader, Begin, Open, ParentSlot, ParentBlock, ParentHash, Take, Place, Sweep, WithdrawHeld, WithdrawGone, WithdrawSpent, Commit, Lost, Left, Inserted, Exists, NeedRoom, Again, NoBlock, Out}
use Rattle.op_insert.specs.Rest.{area, at_rest, acts, lost_of}
use Rattle.op_insert.specs.AtFits.{AtFits}
use Rattle.op_insert.proofs.Onward.{act-outcome}

-- the table, the area and the lost swaps of the end are those of the work
pub record TellsWork (w : Work) (at : At) (e : InsertEnd) : Type 0 where
  pub lost : e.lost ≡ lost_of w at
  pub table : e.table ≡ w.pass.scan.table
  pub area : e.area ≡ area w

-- a part that acts tells nothing
not_yet : (w : Work) (at : At) (e : InsertEnd) → acts at ≡ true → AtFits w at → outcome_of (at_rest w at) ≡ Some e → ⊥
not_yet w at e a h told = let x = act-outcome w at a h ∙ told in cc

as_told : (w : Work) (at : At) (x e : InsertEnd) → x.lost ≡ lost_of w at → x.table ≡ w.pass.scan.table → x.area ≡ area w → Some x ≡ Some e → TellsWork w at e
as_told w at x e a b c told = let same : x ≡ e = cc in record {
  lost = ap (λ (v : InsertEnd). v.lost) (sym same) ∙ a;
  table = ap (λ (v : InsertEnd). v.table) (sym same) ∙ b;
  area = ap (λ (v : InsertEnd). v.area) (sym same) ∙ c;
}

tells : (w : Work) (at : At) (e : InsertEnd) → AtFits w at → outcome_of (at_rest w at) ≡ Some e → TellsWork w at e
tells w Look e h told = absurd (not_yet w Look e refl h told)
tells w ParentHeader e h told = absurd (not_yet w ParentHeader e refl h told)
tells w Begin e h told = absurd (not_yet w Begin e refl h told)
tells w Open e h told = absurd (not_yet w Open e refl h told)
tells w ParentSlot e h told = absurd (not_yet w ParentSlot e refl h told)
tells w ParentBlock e h told = absurd (not_yet w ParentBlock e refl h told)
tells w ParentHash e h told = absurd (not_yet w ParentHash e refl h told)
tells w Take e h told = absurd (not_yet w Take e refl h told)
tells w Place e h told = absurd (not_yet w Place e refl h told)
tells w Sweep e h told = absurd (not_yet w Sweep e refl h told)
tells w WithdrawHeld e h told = absurd (not_yet w WithdrawHeld e refl h told)
tells w WithdrawGone e h told = absurd (not_yet w WithdrawGone e refl h told)
tells w WithdrawSpent e h told = absurd (not_yet w WithdrawSpent e refl h told)
tells w Commit e h told = absurd (cc)
tells w Lost e h told = absurd h
tells w Left e h told = absurd h
tells w Inserted e h told = as_told w Inserted _ e refl refl refl told
tells w Exists e h told = as_told w Exists _ e refl refl refl told
tells w NeedRoom e h told = as_told w NeedRoom _ e refl refl refl told
tells w Again e h told = as_told w Again _ e refl refl refl told
tells w NoBlock e h told = as_told w NoBlock _ e refl refl refl told
tells w Out e h told = as_told w Out _ e refl refl refl told

pub lost-told : (w : Work) (at : At) (e : InsertEnd) → AtFits w at → outcome_of (at_rest w at) ≡ Some e → e.lost ≡ lost_of w at
lost-told w at e h told = (tells w at e h told).lost

pub table-told : (w : Work) (at : At) (e : InsertEnd) → AtFits w at → outcome_of (at_rest w at) ≡ Some e → e.table ≡ w.pass.scan.table
table-told w at e h told = (tells w at e h told).table

pub area-told : (w : Work) (at : At) (e : InsertEnd) → AtFits w at → outcome_of (at_rest w at) ≡ Some e → e.area ≡ area w
area-told w at e h told = (tells w at e h told).area

pub ruleset told = (lost-told, table-told, area-told)
