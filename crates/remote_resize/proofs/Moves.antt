-- What is left of a move after a lost swap, and after a reading.
use Rattle.std.specs.Prelude.{◌≡◌, ℕ, zero, suc, ◌+◌, ◌-◌, ◌*◌, ◌%◌, ◌^◌, ◌<◌, ◌≤◌, IsSome, refl}
use Rattle.std.proofs.lemmas.Nat.{mod_below, pow_pos, pow-add}
use Rattle.std.proofs.Common.{sym, ◌∙◌, ap, subst, arith}
use Rattle.verbs.specs.Programs.{Prog, next_act, Within}
use Rattle.split_text.specs.declared.moved.MoveEnd.{MoveEnd}
use Rattle.split_text.specs.Bound.{judge_acts}
use Rattle.split_text.proofs.Bounds.{move-within}
use Rattle.split_text.specs.declared.site.Site.{Site}
use Rattle.split_text.specs.declared.moved.MoveOutcome.TheVariants.{Spent}
use Rattle.split_text.specs.Move.{left_so, judge_word, read_again, judge, move}
use Rattle.remote_resize.specs.MoveRest.{lost_by}

-- judging is one turn, and what a lost swap leads to
judge_is : (site : Site) (p n word standing : ℕ) → judge site p n word standing ≡ judge_word site p (suc n) word standing (read_again site p (suc n) (lost_by site p n)) (lost_by site p n)
judge_is site p zero word standing = refl
judge_is site p (suc n) word standing = refl

pub judge_left : (site : Site) (p left word standing : ℕ) → 1 ≤ left → judge site p (left - 1) word standing ≡ judge_word site p left word standing (read_again site p left (lost_by site p (left - 1))) (lost_by site p (left - 1))
judge_left site p left word standing lv = ap (λ n. judge site p n word standing) (minus left) ∙ judge_is site p (left - 1) word standing ∙ ap (λ n. judge_word site p n word standing (read_again site p n (lost_by site p (left - 1))) (lost_by site p (left - 1))) (back left lv)
  where
    minus : (left : ℕ) → left - 1 ≡ left - 1
    minus left = omega arith

    back : (left : ℕ) → 1 ≤ left → suc (left - 1) ≡ left
    back left lv = omega arith

pub lost_last : (site : Site) (p left found standing : ℕ) → left ≤ 1 → lost_by site p (left - 1) found standing ≡ left_so Spent found standing 0
lost_last site p left found standing le = ap (λ n. lost_by site p n found standing) (none left le)
  where
    none : (left : ℕ) → left ≤ 1 → left - 1 ≡ 0
    none left le = omega arith

pub lost_more : (site : Site) (p left found standing : ℕ) → 2 ≤ left → lost_by site p (left - 1) found standing ≡ judge_word site p (left - 1) found standing (read_again site p (left - 1) (lost_by site p (left - 1 - 1))) (lost_by site p (left - 1 - 1))
lost_more site p left found standing le = ap (λ n. lost_by site p n found standing) (more left le) ∙ judge_left site p (left - 1) found standing (omega arith)
  where
    more : (left : ℕ) → 2 ≤ left → left - 1 ≡ suc (left - 1 - 1)
    more left le = omega arith

pub ruleset judges = (judge_left)

pub ruleset losts = (lost_last, lost_more)

-- what is the same program as a move ends as soon, and waits
pub within_as_move : (site : Site) (p standing left : ℕ) (program : Prog MoveEnd) → program ≡ move site p standing left → Within (suc (judge_acts left)) program
within_as_move site p standing left program e = subst (Within (suc (judge_acts left))) (sym e) (move-within site p standing left)

pub waits_as_move : (site : Site) (p standing left : ℕ) (program : Prog MoveEnd) → program ≡ move site p standing left → IsSome (next_act program)
waits_as_move site p standing left program e = subst (λ v. IsSome (next_act v)) (sym e) refl

-- the suffix of a child has a bit more than its table's
pub suffix_low : (x d : ℕ) → x % 2 ^ d + 2 ^ d < 2 ^ (d + 1)
suffix_low x d = let two : 2 ^ (d + 1) ≡ 2 ^ d * 2 = pow-add 2 d 1 in let m = mod_below x (2 ^ d) (pow_pos d) in omega arith

pub ruleset suffixes = (suffix_low)
