-- How many verbs of a posted text are outstanding at once, and how many there are in all, whatever is answered.
use Rattle.std.specs.Prelude.{ℕ, zero, suc, ◌≤◌, length, Option}
use Rattle.pass_text.specs.declared.job.Job.{Job}
use Rattle.pass_text.specs.Bound.{most_verbs}
use Rattle.post_text.specs.Posts.{Posts, ends, posts}
use Rattle.post_text.specs.Look.{posted_look}

-- never more than so many are outstanding
abbrev pub FewOf : {A : Type 0} → ℕ → Posts A → Type 0
FewOf most (ends a) = Unit {0}
FewOf most (posts requests next) = (length requests ≤ most) × ((i word : ℕ) → FewOf most (next i word))

-- it ends within n verbs
abbrev pub EndsWithin : {A : Type 0} → ℕ → Posts A → Type 0
EndsWithin n (ends a) = Unit {0}
EndsWithin zero (posts requests next) = ⊥
EndsWithin (suc n) (posts requests next) = (i word : ℕ) → EndsWithin n (next i word)

-- of a posted look at most 137 are outstanding
abbrev pub IsFew : Type 0
IsFew = (j : Job) (start : Option ℕ) → FewOf 137 (posted_look j start)

-- a posted look ends within P verbs
abbrev pub IsShort : Type 0
IsShort = (j : Job) (start : Option ℕ) → EndsWithin (most_verbs j.geometry.max_depth) (posted_look j start)
