-- What is left where a posted look stands.
use Rattle.std.specs.Prelude.{◌≡◌, ℕ, ◌≤◌, List, [], length, take, Option, None}
use Rattle.std.proofs.Common.{ap, arith}
use Rattle.std.proofs.lemmas.List.{length-map}
use Rattle.node_words.specs.Addresses.{slot_at}
use Rattle.kv_block.specs.Reading.{block_value}
use Rattle.bucket_group.specs.Buckets.{candidates}
use Rattle.pass_text.specs.declared.job.Job.{Job}
use Rattle.pass_text.specs.declared.passed.Passed.{Passed}
use Rattle.pass_text.specs.declared.passed.PassEnd.TheVariants.{Clear}
use Rattle.pass_text.specs.Words.{candidate_at}
use Rattle.pass_text.specs.Pass.{passed, held}
use Rattle.post_text.specs.Posts.{Posts, ends, reads, post, range}
use Rattle.post_text.specs.Look.{candidates_in}
use Rattle.post_text.proofs.Counts.{range_length}
use Rattle.batch_pass.specs.declared.scan.Scan.{Scan}
use Rattle.batch_pass.specs.declared.at.At.{At}
use Rattle.batch_pass.specs.declared.at.At.TheVariants.{Depth, Directory, Header, Parent, Birth, Slots, Block, KeyHeader, Child, Held as HeldAt, Clear as ClearAt}
use Rattle.batch_pass.specs.declared.outstanding.Outstanding.{Outstanding}
use Rattle.batch_pass.specs.Waiting.{cells}
use Rattle.batch_pass.specs.Seen.{seen}
use Rattle.batch_pass.specs.Rest.{posted_at, block_at, then_at, rest_at}
use Rattle.batch_pass.specs.AtFits.{SomeWait}

-- some reads of this place wait
pub some_wait : (j : Job) (s : Scan) (r : Outstanding) (at : At) (n : ℕ) → length (posted_at j s at) ≡ n → 1 ≤ n → r.left ≡ n → SomeWait at r
some_wait j s r Depth n e h l = omega arith
some_wait j s r Directory n e h l = omega arith
some_wait j s r Header n e h l = omega arith
some_wait j s r Parent n e h l = omega arith
some_wait j s r Birth n e h l = omega arith
some_wait j s r Slots n e h l = omega arith
some_wait j s r Block n e h l = omega arith
some_wait j s r KeyHeader n e h l = omega arith
some_wait j s r Child n e h l = omega arith
some_wait j s r HeldAt n e h l = absurd (omega arith)
some_wait j s r ClearAt n e h l = absurd (omega arith)

-- reads that were just posted
pub posted-rest : (j : Job) (s : Scan) (r : Outstanding) (at : At) (n : ℕ) → length (posted_at j s at) ≡ n
    → ((block : Option ℕ) (ats : List ℕ) (go_on : List ℕ → Posts Passed) → length ats ≡ n → reads block r.left (cells ats r.words r.done) go_on ≡ post block ats go_on)
    → rest_at j s r at ≡ post (block_at s at) (posted_at j s at) (then_at j s at r.words)
unfolding rest_at
posted-rest j s r at n e h = h (block_at s at) (posted_at j s at) (then_at j s at r.words) e

pub ruleset places = (some_wait, posted-rest)

-- the look has ended
pub ended-held : (j : Job) (s : Scan) (r : Outstanding) → r.left ≡ 0 → rest_at j s r HeldAt ≡ ends (passed j (seen s) (held (candidate_at j s.table s.index) s.word (block_value (take s.len r.words))))
unfolding rest_at
ended-held j s r e = ap (λ n. reads None n [] (then_at j s HeldAt r.words)) e

pub ended-clear : (j : Job) (s : Scan) (r : Outstanding) → r.left ≡ 0 → rest_at j s r ClearAt ≡ ends (passed j (seen s) Clear)
unfolding rest_at
ended-clear j s r e = ap (λ n. reads None n [] (then_at j s ClearAt r.words)) e

pub ruleset ended = (ended-held, ended-clear)

-- how many candidates are posted
pub slots-long : (j : Job) (t : ℕ) → length (candidates_in j t) ≡ length (candidates j.geometry.groups j.hash)
unfolding candidates_in
slots-long j t = length-map (candidates j.geometry.groups j.hash) (slot_at t)

pub ruleset slots = (slots-long)

pub block-long : (n at : ℕ) → length (range at n) ≡ n
block-long n at = range_length n at

pub ruleset blocks = (block-long)
