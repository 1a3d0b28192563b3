use Rattle.std.proofs.Common.{◌≡◌, ◌++◌, ◌∷◌, drop}
use Rattle.std.specs.List.{flat_map}
use Rattle.std.specs.Fmt.{decimal}
use Rattle.play_report.specs.Report.{nexts_text}
use Rattle.play_report.proofs.report.put_nexts.Given as goal

-- the numbers so far, and those that are left
abbrev pub invariant-loop-i : goal.invariant-loop-i
invariant-loop-i l = l.out.items ++ flat_map (λ m. 44 ∷ decimal m) (drop l.i l.next) ≡ l.fn.out.items ++ nexts_text l.next
