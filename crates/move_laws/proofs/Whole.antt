-- Moving a place, by the text.
use Rattle.std.specs.Prelude.{◌≡◌, ℕ, ◌-◌, reverse}
use Rattle.std.proofs.Common.{sym, subst, le_refl}
use Rattle.verbs.specs.Programs.{Prog}
use Rattle.log_facts.proofs.Unchanging.{modest_unchanging}
use Rattle.pass_laws.specs.SafeIn.{SafeBy}
use Rattle.pass_laws.proofs.Bridge.{by_quiet}
use Rattle.split_text.specs.declared.site.Site.{Site}
use Rattle.split_text.specs.declared.moved.MoveEnd.{MoveEnd}
use Rattle.split_text.specs.Move.{judge, move}
use Rattle.move_laws.specs.Law.{Moves, HasLeft, IsSafeMove, IsSafeJudging, MoveIsSafe}
use Rattle.move_laws.proofs.Judging.{judged_safe, move_safe}

pub move_is_safe : (site : Site) (p standing left : ℕ) → IsSafeMove site p standing left (move site p standing left)
move_is_safe site p standing left s c copy log l pl lv e h =
    by_quiet (Moves site p) s c (λ q x r. modest_unchanging s c q x r.0) log (move site p standing left) (λ q x. HasLeft s c site p left q x)
    (subst (λ v. SafeBy (Moves site p) s c (reverse log) (move site p v left) (λ q x. HasLeft s c site p left q x)) e (move_safe s c site p left pl left copy (reverse log) lv (le_refl left) l h))

pub judging_is_safe : (site : Site) (p word standing left : ℕ) → IsSafeJudging site p word standing left (judge site p (left - 1) word standing)
judging_is_safe site p word standing left s c copy at log l pl lv e h =
    by_quiet (Moves site p) s c (λ q x r. modest_unchanging s c q x r.0) log (judge site p (left - 1) word standing) (λ q x. HasLeft s c site p left q x)
    (subst (λ v. SafeBy (Moves site p) s c (reverse log) (judge site p (left - 1) word v) (λ q x. HasLeft s c site p left q x)) e (judged_safe s c site p left pl left word copy at (reverse log) lv (le_refl left) l h))

pub each_move_is_safe : MoveIsSafe
each_move_is_safe = (move_is_safe, judging_is_safe)

-- a program that is the move is safe as the move is
pub safe_as_move : (site : Site) (p standing left : ℕ) (program : Prog MoveEnd) → program ≡ move site p standing left → IsSafeMove site p standing left program
safe_as_move site p standing left program e = subst (IsSafeMove site p standing left) (sym e) (move_is_safe site p standing left)
