-- How a search goes on.
use Rattle.std.proofs.Common.{None, ℕ, ◌≡◌, ◌+◌, ◌-◌, ◌<◌, ◌≤◌, zero, suc, true, false, refl, sym, ◌∙◌, arith}
use Rattle.verbs.specs.Programs.{Prog, ret, ask, do_verb}
use Rattle.verb_log.specs.declared.entry.Verb.TheVariants.{Read}
use Rattle.pass_text.specs.declared.job.Job.{Job}
use Rattle.pass_text.specs.declared.passed.PassEnd.TheVariants.{Spent}
use Rattle.pass_text.specs.declared.passed.Passed.{Passed}
use Rattle.pass_text.specs.Words.{count, candidate_at, is_own}
use Rattle.pass_text.specs.Pass.{Seen, judge, judge_once, spare, scan, last, follow, search, passed}
use Rattle.scan_pass.specs.Rest.{onward, again}

-- n more may be lost
judge-is : (j : Job) (m i n : ℕ) (s : Seen) (word : ℕ) → judge j m i s word (onward j (i + 1) n) ≡ judge_once j i s word (onward j (i + 1) n) (again j m i n)
unfolding again
judge-is j zero i n s word = refl
judge-is j (suc m) i n s word = refl

scan-suc : (j : Job) (m i n : ℕ) (s : Seen) → i < count j → count j - (i + 1) ≡ m → onward j i n s ≡ scan j (suc m) i s (last j (follow j n))
unfolding onward
scan-suc j m i n s h e = let f : count j - i ≡ suc m = omega arith in rw f refl

-- the client's own slot is left out
pub onward-own : (j : Job) (i n : ℕ) (s : Seen) → i < count j → is_own j (candidate_at j s.table i) ≡ true → onward j i n s ≡ onward j (i + 1) n s
unfolding onward
onward-own j i n s h own = scan-suc j _ i n s h refl ∙ rw own refl

pub onward-slot : (j : Job) (i n : ℕ) (s : Seen) → i < count j → is_own j (candidate_at j s.table i) ≡ false
    → onward j i n s ≡ ask (do_verb None (Read (candidate_at j s.table i))) (λ word. judge_once j i s word (onward j (i + 1) n) (again j (spare j s) i n))
unfolding onward
onward-slot j i n s h own = scan-suc j _ i n s h refl ∙ rw own (λ k. ask (do_verb None (Read (candidate_at j s.table i))) (λ word. judge-is j (spare j s) i n s word k))

pub onward-last : (j : Job) (i n : ℕ) (s : Seen) → count j ≤ i → onward j i n s ≡ last j (follow j n) s
unfolding onward
onward-last j i n s h = let f : count j - i ≡ 0 = omega arith in rw f refl

pub ruleset onwards = (onward-own, onward-slot, onward-last)

pub search-onward : (j : Job) (n : ℕ) (s : Seen) → search j n s ≡ onward j 0 n s
unfolding onward search
search-onward j zero s = let e : count j - 0 ≡ count j = omega arith in rw e refl
search-onward j (suc n) s = let e : count j - 0 ≡ count j = omega arith in rw e refl

pub ruleset searches = (search-onward)

pub again-spent : (j : Job) (m i n : ℕ) (r : Seen) (found : ℕ) → m ≡ 0 → again j m i n r found ≡ ret (passed j r Spent)
unfolding again
again-spent j m i n r found e = rw e refl

pub again-more : (j : Job) (m k i n : ℕ) (r : Seen) (found : ℕ) → m ≡ suc k → again j m i n r found ≡ judge_once j i r found (onward j (i + 1) n) (again j k i n)
unfolding again
again-more j m k i n r found e = rw e (judge-is j k i n r found)

pub ruleset agains = (again-spent, again-more)

judged-same : (j : Job) (i h n m : ℕ) (q r : Seen) (found : ℕ) → q ≡ r → i ≡ h → n ≡ m
    → judge_once j i q found (onward j (i + 1) n) (again j (spare j q) i n) ≡ judge_once j h r found (onward j (h + 1) m) (again j (spare j r) h m)
judged-same j i h n m q r found e f g =
    λ k. judge_once j (f k) (e k) found (onward j (f k + 1) (g k)) (again j (spare j (e k)) (f k) (g k))

-- a lost drop, where more may be lost
pub again-judged : (j : Job) (i h n m l : ℕ) (q r : Seen) (found : ℕ) (p : Prog Passed) → q ≡ r → i ≡ h → n ≡ m → l ≡ suc (spare j r)
    → p ≡ judge_once j i q found (onward j (i + 1) n) (again j (spare j q) i n) → p ≡ again j l h m r found
again-judged j i h n m l q r found p e f g d a =
    a ∙ judged-same j i h n m q r found e f g ∙ sym (again-more j l (spare j r) h m r found d)
