-- What is proved of the posted look.
use Rattle.std.specs.Prelude.{◌≡◌, ℕ, ◌≤◌, List, length, Option}
use Rattle.verb_log.specs.declared.entry.Entry.{Entry}
use Rattle.verb_log.specs.Tables.{Past}
use Rattle.race_laws.specs.Setting.{Setting}
use Rattle.race_laws.specs.Legal.{IsLegal, Legal}
use Rattle.race_laws.specs.Looks.{SpreadLooked}
use Rattle.race_laws.specs.Laws.{position, LacksBetween}
use Rattle.pass_text.specs.declared.job.Job.{Job}
use Rattle.pass_text.specs.declared.job.PassMode.TheVariants.{Look}
use Rattle.pass_text.specs.declared.passed.Passed.{Passed}
use Rattle.pass_laws.specs.Drops.{Drops}
use Rattle.pass_laws.specs.Law.{MayBegin, IsJobOf}
use Rattle.post_text.specs.Posts.{Posts}
use Rattle.post_text.specs.Look.{posted_look}
use Rattle.post_laws.specs.SafePosts.{PostsBy}
use Rattle.post_laws.specs.HasLooked.{HasLooked}

-- a text that plays a posted look is safe for each client on each legal log on which the look may begin: whatever others add
-- between the completions of its reads, and in whatever order these come, it adds no entry, each block that it reads is
-- published, and it ends so
abbrev pub IsSafeLook : Job → Option ℕ → Posts Passed → Type 0
IsSafeLook j start text =
    (s : Setting) (c : ℕ) (past : Past) → Legal s past → IsJobOf s j → MayBegin s j.key Look past start
    → PostsBy (Drops Look) s c past text (λ q p. HasLooked s j.key past q p)

-- each posted look is safe
abbrev pub LookIsSafe : Type 0
LookIsSafe = (j : Job) (start : Option ℕ) → j.mode ≡ Look → IsSafeLook j start (posted_look j start)

-- where spread looked holds between two positions, the map lacks the key at some position between them
abbrev pub SpreadAbsence : Type 0
SpreadAbsence =
    (s : Setting) (log : List Entry) → IsLegal s log → (n m : ℕ) → n ≤ m → m ≤ length log → (key : List ℕ)
    → SpreadLooked s (position log m) (position log n) key → LacksBetween s log n m key
