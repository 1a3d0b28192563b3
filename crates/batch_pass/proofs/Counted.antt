-- The reads that are outstanding, where a posted look stands.
use Rattle.std.specs.Prelude.{◌≡◌, ℕ, zero, suc, ◌+◌, ◌<◌, ◌≤◌, List, [], ◌∷◌, length, take, slice_get, option_map, Option, Some, None, refl}
use Rattle.std.proofs.Common.{sym, ◌∙◌, ap, subst, inl, inr, arith}
use Rattle.std.proofs.lemmas.Option.{slice_get-map, slice_get-get_or}
use Rattle.verb_log.specs.declared.entry.Verb.TheVariants.{Read}
use Rattle.node_words.specs.Addresses.{slot_at}
use Rattle.bucket_group.specs.Buckets.{candidates}
use Rattle.bucket_group.proofs.CandidateLaws.{length-candidates_two}
use Rattle.pass_text.specs.declared.job.Job.{Job}
use Rattle.pass_text.specs.declared.passed.Passed.{Passed}
use Rattle.pass_text.specs.Words.{candidate_at}
use Rattle.post_text.specs.Posts.{Request, Posted, Posts, ends, reads, words, outstanding, completed, end_of, verb_at, range}
use Rattle.post_text.specs.Look.{candidates_in}
use Rattle.post_text.proofs.Counts.{range_length}
use Rattle.batch_pass.specs.declared.scan.Scan.{Scan}
use Rattle.batch_pass.specs.declared.at.At.{At}
use Rattle.batch_pass.specs.declared.at.At.TheVariants.{Depth, Directory, Header, Parent, Birth, Slots, Block, KeyHeader, Child, Held as HeldAt, Clear as ClearAt}
use Rattle.batch_pass.specs.declared.outstanding.Outstanding.{Outstanding}
use Rattle.batch_pass.specs.Waiting.{open_in, opens, nth_open, cells}
use Rattle.batch_pass.specs.Rest.{posted_at, block_at, then_at, rest_at}
use Rattle.batch_pass.specs.AtFits.{SomeWait, Waits}
use Rattle.batch_pass.proofs.Opens.{nth_low, open_opens, count_outstanding, verb_outstanding, words_done}
use Rattle.batch_pass.proofs.Places.{slots-long}

-- at most 137 reads are posted together
pub posted_few : (j : Job) (s : Scan) (at : At) → length (posted_at j s at) ≤ 137
posted_few j s Depth = omega arith
posted_few j s Directory = omega arith
posted_few j s Header = omega arith
posted_few j s Parent = omega arith
posted_few j s Birth = omega arith
posted_few j s Slots = let e = slots-long j s.table in elim (length-candidates_two j.geometry.groups j.hash) [ inl x ↦ omega (arith, x, e) | inr x ↦ omega (arith, x, e) ]
posted_few j s Block = let e = range_length s.len s.from in omega (arith, e, s.len_low)
posted_few j s KeyHeader = omega arith
posted_few j s Child = omega arith
posted_few j s HeldAt = omega arith
posted_few j s ClearAt = omega arith

-- the look has ended, or some reads wait
data Stage (j : Job) (s : Scan) (r : Outstanding) (at : At) : Type 0 where
  over : r.left ≡ 0 → (a : Passed) → rest_at j s r at ≡ ends a → Stage j s r at
  waits : 1 ≤ r.left → Stage j s r at

stage : (j : Job) (s : Scan) (r : Outstanding) (at : At) → SomeWait at r → Stage j s r at
unfolding rest_at
stage j s r Depth h = waits h
stage j s r Directory h = waits h
stage j s r Header h = waits h
stage j s r Parent h = waits h
stage j s r Birth h = waits h
stage j s r Slots h = waits h
stage j s r Block h = waits h
stage j s r KeyHeader h = waits h
stage j s r Child h = waits h
stage j s r HeldAt h = over h _ (ap (λ n. reads None n [] (then_at j s HeldAt r.words)) h)
stage j s r ClearAt h = over h _ (ap (λ n. reads None n [] (then_at j s ClearAt r.words)) h)

-- how many are outstanding
pub count-left : (j : Job) (s : Scan) (r : Outstanding) (at : At) → SomeWait at r → Waits j s r at → r.left ≡ length (outstanding (rest_at j s r at))
unfolding rest_at
count-left j s r at some w = by (stage j s r at some)
  where
    by : Stage j s r at → r.left ≡ length (outstanding (rest_at j s r at))
    by (over z a e) = z ∙ sym (ap (λ (p : Posts Passed). length (outstanding p)) e)
    by (waits h) =
        let few = posted_few j s at in
        count_outstanding (block_at s at) (posted_at j s at) r.words r.done r.left (then_at j s at r.words) (omega (arith, few, r.words_long)) (omega (arith, few, r.done_long)) w h

pub ruleset counted = (count-left)

-- which read is the one of a number
pub number-open : (j : Job) (s : Scan) (r : Outstanding) (at : At) (i : ℕ) → SomeWait at r → Waits j s r at → i < length (outstanding (rest_at j s r at)) → i < opens r.done
number-open j s r at i some w low =
    let e = count-left j s r at some w in
    let o = open_opens (length (posted_at j s at)) r.done in
    omega (arith, e, o, w, low)

pub number-left : (j : Job) (s : Scan) (r : Outstanding) (at : At) (i : ℕ) → SomeWait at r → Waits j s r at → i < length (outstanding (rest_at j s r at)) → i < r.left
number-left j s r at i some w low = let e = count-left j s r at some w in omega (arith, e, low)

pub place-low : (j : Job) (s : Scan) (r : Outstanding) (at : At) (i place : ℕ) → SomeWait at r → Waits j s r at → i < length (outstanding (rest_at j s r at)) → place ≡ nth_open r.done i → place < length (posted_at j s at)
place-low j s r at i place some w low there = subst (λ n. n < length (posted_at j s at)) (sym there) (nth_low (length (posted_at j s at)) r.done i (subst (λ n. i < n) w (number-left j s r at i some w low)))

pub verb-posted : (j : Job) (s : Scan) (r : Outstanding) (at : At) (i place address : ℕ) → SomeWait at r → Waits j s r at → i < length (outstanding (rest_at j s r at)) → place ≡ nth_open r.done i → slice_get (posted_at j s at) place ≡ Some address
    → verb_at (outstanding (rest_at j s r at)) i ≡ Some (Read address)
unfolding rest_at
verb-posted j s r at i place address some w low there is =
    let few = posted_few j s at in
    ap (option_map (λ (x : Request). x.verb)) (verb_outstanding (block_at s at) (posted_at j s at) r.words r.done i place address r.left (then_at j s at r.words) (omega (arith, few, r.words_long)) w (number-left j s r at i some w low) there is)

pub ruleset verbs = (number-open, place-low, verb-posted)

-- the addresses
pub candidate-get : (j : Job) (t i : ℕ) → i < length (candidates_in j t) → slice_get (candidates_in j t) i ≡ Some (candidate_at j t i)
unfolding candidates_in candidate_at
candidate-get j t i low =
    let ps = candidates j.geometry.groups j.hash in
    let e = slots-long j t in
    slice_get-map (slot_at t) ps i ∙ ap (option_map (slot_at t)) (slice_get-get_or ps i 0 (omega arith))

pub range-get : (n at i : ℕ) → i < n → slice_get (range at n) i ≡ Some (at + i)
range-get zero at i low = absurd (omega arith)
range-get (suc n) at zero low = ap (λ k. Some k) (plain at)
  where
    plain : (k : ℕ) → k ≡ k + 0
    plain k = omega arith
range-get (suc n) at (suc i) low = range-get n (suc at) i (omega arith) ∙ ap (λ k. Some k) (moved at i)
  where
    moved : (k i : ℕ) → suc k + i ≡ k + suc i
    moved k i = omega arith

pub one-get : (x i : ℕ) → i < 1 → slice_get (x ∷ []) i ≡ Some x
one-get x zero low = refl
one-get x (suc i) low = absurd (omega arith)

pub ruleset addresses = (candidate-get, range-get, one-get, range_length, slots-long)

-- once all are done
pub done-rest : (j : Job) (s : Scan) (r : Outstanding) (at : At) → Waits j s r at → r.left ≡ 0 → rest_at j s r at ≡ then_at j s at r.words (take (length (posted_at j s at)) r.words)
unfolding rest_at
done-rest j s r at w z =
    let few = posted_few j s at in
    ap (λ n. reads (block_at s at) n (cells (posted_at j s at) r.words r.done) (then_at j s at r.words)) z
    ∙ ap (then_at j s at r.words) (words_done (posted_at j s at) r.words r.done (omega (arith, few, r.words_long)) (omega (arith, few, r.done_long)) (sym w ∙ z))

-- .. and what follows words does not depend on those that were there, but where the look has ended
then_same : (j : Job) (s : Scan) (r : Outstanding) (at : At) (words words2 : List ℕ) → SomeWait at r → 1 ≤ r.left → then_at j s at words ≡ then_at j s at words2
then_same j s r Depth words words2 some h = refl
then_same j s r Directory words words2 some h = refl
then_same j s r Header words words2 some h = refl
then_same j s r Parent words words2 some h = refl
then_same j s r Birth words words2 some h = refl
then_same j s r Slots words words2 some h = refl
then_same j s r Block words words2 some h = refl
then_same j s r KeyHeader words words2 some h = refl
then_same j s r Child words words2 some h = refl
then_same j s r HeldAt words words2 some h = absurd (omega arith)
then_same j s r ClearAt words words2 some h = absurd (omega arith)

-- one more is done
pub filled-rest : (j : Job) (s : Scan) (r q : Outstanding) (at : At) (i word : ℕ) → SomeWait at r → Waits j s r at → i < length (outstanding (rest_at j s r at))
    → ((block : Option ℕ) (ats : List ℕ) (go_on : List ℕ → Posts Passed) → length ats ≤ 137 → r.left ≡ open_in (length ats) r.done → reads block q.left (cells ats q.words q.done) go_on ≡ completed (reads block r.left (cells ats r.words r.done) go_on) i word)
    → rest_at j s q at ≡ completed (rest_at j s r at) i word
unfolding rest_at
filled-rest j s r q at i word some w low h =
    let left = number-left j s r at i some w low in
    ap (reads (block_at s at) q.left (cells (posted_at j s at) q.words q.done)) (then_same j s r at q.words r.words some (omega arith))
    ∙ h (block_at s at) (posted_at j s at) (then_at j s at r.words) (posted_few j s at) w

-- a look that has not ended
some_left : (r : Outstanding) (at : At) → SomeWait at r → (at ≡ HeldAt → ⊥) → (at ≡ ClearAt → ⊥) → 1 ≤ r.left
some_left r Depth h f g = h
some_left r Directory h f g = h
some_left r Header h f g = h
some_left r Parent h f g = h
some_left r Birth h f g = h
some_left r Slots h f g = h
some_left r Block h f g = h
some_left r KeyHeader h f g = h
some_left r Child h f g = h
some_left r HeldAt h f g = absurd (f refl)
some_left r ClearAt h f g = absurd (g refl)

none_yet : {A : Type 0} (block : Option ℕ) (n : ℕ) (xs : List Posted) (go_on : List ℕ → Posts A) → 1 ≤ n → end_of (reads block n xs go_on) ≡ None
none_yet block zero xs go_on h = absurd (omega arith)
none_yet block (suc n) xs go_on h = refl

pub goes-on : (j : Job) (s : Scan) (r : Outstanding) (at : At) → SomeWait at r → Waits j s r at → (at ≡ HeldAt → ⊥) → (at ≡ ClearAt → ⊥) → (end_of (rest_at j s r at) ≡ None) × (1 ≤ length (outstanding (rest_at j s r at)))
unfolding rest_at
goes-on j s r at some w f g =
    let left = some_left r at some f g in
    (none_yet (block_at s at) r.left (cells (posted_at j s at) r.words r.done) (then_at j s at r.words) left, subst (λ n. 1 ≤ n) (count-left j s r at some w) left)
