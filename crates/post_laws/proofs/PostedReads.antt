-- Reads that are posted together, and are done in any order while others lengthen the log.
use Rattle.std.specs.Prelude.{◌≡◌, ℕ, zero, suc, ◌<◌, List, [], ◌∷◌, length, map, slice_get, slice_index, Option, Some, None, refl}
use Rattle.std.proofs.Common.{sym, ◌∙◌, ap, subst, inl, inr, arith}
use Rattle.verb_log.specs.declared.entry.Verb.TheVariants.{Read}
use Rattle.verb_log.specs.Tables.{Past, Before, here, word_at}
use Rattle.verb_log.proofs.Positions.{Before-trans}
use Rattle.verbs.specs.Logs.{place_of}
use Rattle.race_laws.specs.Setting.{Setting}
use Rattle.race_laws.specs.Standing.{IsIn}
use Rattle.race_laws.specs.Legal.{Legal}
use Rattle.log_facts.specs.Among.{ReadsIn}
use Rattle.log_facts.specs.Since.{Since, same}
use Rattle.log_facts.proofs.Growing.{since_before, since_trans}
use Rattle.pass_laws.specs.SafeIn.{Rule, MayDoBy}
use Rattle.post_text.specs.Posts.{Request, Posts, Posted, waits, has, waiting, words, fill, reads, post, post_one}
use Rattle.post_laws.specs.SafePosts.{PostsBy}

-- what is known of reads that are partly done: each word stood at its address at a position since the reads were posted
abbrev pub FilledOne : Setting → Past → Past → Posted → Type 0
FilledOne s from q (waits at) = Unit {0}
FilledOne s from q (has at word) = (r : Past) × Before from r × Before r q × (word_at s.geometry r at ≡ word)

abbrev pub Filled : Setting → Past → Past → List Posted → Type 0
Filled s from q [] = Unit {0}
Filled s from q (x ∷ xs) = FilledOne s from q x × Filled s from q xs

abbrev pub address : Posted → ℕ
address (waits at) = at
address (has at word) = at

abbrev pub addresses : List Posted → List ℕ
addresses [] = []
addresses (x ∷ xs) = address x ∷ addresses xs

-- a read of this address reads a word of the block that it names, where it names one
abbrev pub ReadsOf : Setting → Option ℕ → Past → ℕ → Type 0
ReadsOf s None q at = Unit {0}
ReadsOf s (Some block) q at = ReadsIn s.geometry q block (Read at)

one_later : (s : Setting) (from p q : Past) (x : Posted) → Before p q → FilledOne s from p x → FilledOne s from q x
one_later s from p q (waits at) b h = tt
one_later s from p q (has at word) b h = (h.0, h.1, Before-trans h.2 b, h.3)

filled_later : (s : Setting) (from p q : Past) (xs : List Posted) → Before p q → Filled s from p xs → Filled s from q xs
filled_later s from p q [] b h = tt
filled_later s from p q (x ∷ xs) b h = (one_later s from p q x b h.0, filled_later s from p q xs b h.1)

fill_addresses : (xs : List Posted) (i word : ℕ) → addresses (fill xs i word) ≡ addresses xs
fill_addresses [] i word = refl
fill_addresses (has at w ∷ xs) i word = ap (λ ats. at ∷ ats) (fill_addresses xs i word)
fill_addresses (waits at ∷ xs) zero word = refl
fill_addresses (waits at ∷ xs) (suc i) word = ap (λ ats. at ∷ ats) (fill_addresses xs i word)

-- one of those that wait is done
record Done (s : Setting) (block : Option ℕ) (from q : Past) (xs : List Posted) (i : ℕ) (r : Request) : Type 0 where
  at : ℕ
  request : r ≡ record { block = block; verb = Read at }
  listed : IsIn at (addresses xs)
  fewer : (word : ℕ) → length (waiting block xs) ≡ suc (length (waiting block (fill xs i word)))
  filled : Filled s from q (fill xs i (word_at s.geometry q at))

one_done : (s : Setting) (block : Option ℕ) (from q : Past) (xs : List Posted) (i : ℕ) (r : Request) → slice_get (waiting block xs) i ≡ Some r → Before from q → Filled s from q xs → Done s block from q xs i r
one_done s block from q [] i r e b h = absurd (cc)
one_done s block from q (has at word ∷ xs) i r e b h =
    let d = one_done s block from q xs i r e b h.1 in
    record { at = d.at; request = d.request; listed = inr d.listed; fewer = d.fewer; filled = (h.0, d.filled) }
one_done s block from q (waits at ∷ xs) zero r e b h = record { at = at; request = sym (same_request e); listed = inl refl; fewer = λ word. refl; filled = ((q, b, here, refl), h.1) }
  where
    this : Request
    this = record { block = block; verb = Read at }

    same_request : Some this ≡ Some r → this ≡ r
    same_request e = cc
one_done s block from q (waits at ∷ xs) (suc i) r e b h =
    let d = one_done s block from q xs i r e b h.1 in
    record { at = d.at; request = d.request; listed = inr d.listed; fewer = λ word. ap suc (d.fewer word); filled = (h.0, d.filled) }

none_wait : (rs : List Request) → length rs ≡ 0 → rs ≡ []
none_wait [] e = refl
none_wait (r ∷ rs) e = absurd (cc)

-- a read may be done, whatever holds then
may_read : (R : Rule) (s : Setting) (c : ℕ) (q : Past) (block : Option ℕ) (at : ℕ) (Then : Past → ℕ → Type 0) → ReadsOf s block q at → Then q (word_at s.geometry q at) → MayDoBy R s c q block (Read at) Then
may_read R s c q None at Then o h = h
may_read R s c q (Some block) at Then o h = (o, h)

-- reads of which some are done are safe, where what follows their words is safe, whatever the positions of the readings are
module _ (A : Type 0) (R : Rule) (s : Setting) (c : ℕ) (End : Past → A → Type 0) (block : Option ℕ) (from : Past) (ats : List ℕ)
    (low : (at : ℕ) → IsIn at ats → at < s.geometry.words) (of : (q : Past) → Since c from q → Legal s q → (at : ℕ) → IsIn at ats → ReadsOf s block q at) (go_on : List ℕ → Posts A)
    (goes : (q : Past) (xs : List Posted) → Since c from q → Legal s q → Filled s from q xs → waiting block xs ≡ [] → addresses xs ≡ ats → PostsBy R s c q (go_on (words xs)) End) where
  reads_safe : (n : ℕ) (xs : List Posted) (p : Past) → length (waiting block xs) ≡ n → Filled s from p xs → addresses xs ≡ ats → Since c from p → Legal s p → PostsBy R s c p (reads block n xs go_on) End
  reads_safe zero xs p e h a b l = goes p xs b l h (none_wait (waiting block xs) e) a
  reads_safe (suc n) xs p e h a b l = (
    omega arith,
    λ i r at.
        let now = one_done s block from p xs i r at (since_before b) h in (
          subst (λ (x : Request). place_of x.verb < s.geometry.words) (sym now.request) (low now.at (subst (IsIn now.at) a now.listed)),
          λ q lq sq.
              let bq = since_trans b sq in
              let d = one_done s block from q xs i r at (since_before bq) (filled_later s from p q xs (since_before sq) h) in
              subst (λ (x : Request). MayDoBy R s c q x.block x.verb (λ m word. PostsBy R s c m (reads block n (fill xs i word) go_on) End)) (sym d.request)
              (may_read R s c q block d.at (λ m word. PostsBy R s c m (reads block n (fill xs i word) go_on) End) (of q bq lq d.at (subst (IsIn d.at) a d.listed))
              (reads_safe n (fill xs i (word_at s.geometry q d.at)) q (let z = d.fewer (word_at s.geometry q d.at) in omega arith) d.filled (fill_addresses xs i (word_at s.geometry q d.at) ∙ a) bq lq)),
        ),
  )

  all_wait : (ats : List ℕ) → (length (waiting block (map waits ats)) ≡ length ats) × (addresses (map waits ats) ≡ ats)
  all_wait [] = (refl, refl)
  all_wait (at ∷ ats) = let r = all_wait ats in (ap suc r.0, ap (λ xs. at ∷ xs) r.1)

  none_filled : (q : Past) (ats : List ℕ) → Filled s from q (map waits ats)
  none_filled q [] = tt
  none_filled q (at ∷ ats) = (tt, none_filled q ats)

  -- reads that are posted together
  pub post_safe : Legal s from → PostsBy R s c from (post block ats go_on) End
  post_safe l = reads_safe (length ats) (map waits ats) from (all_wait ats).0 (none_filled from ats) (all_wait ats).1 same l

-- one read alone: what is read is the word of that moment
module _ (A : Type 0) (R : Rule) (s : Setting) (c : ℕ) (End : Past → A → Type 0) (q : Past) (at : ℕ) (low : at < s.geometry.words) (go_on : ℕ → Posts A)
    (goes : (z : Past) → Legal s z → Since c q z → PostsBy R s c z (go_on (word_at s.geometry z at)) End) where
  pub one_safe : PostsBy R s c q (post_one at go_on) End
  one_safe = (
    omega arith,
    λ i r e.
        let d = one_done s None q q (waits at ∷ []) i r e here (tt, tt) in
        by i r d.at d.request e,
  )
    where
      by : (i : ℕ) (r : Request) (a : ℕ) → r ≡ record { block = None; verb = Read a } → slice_get (waiting None (waits at ∷ [])) i ≡ Some r
          → (place_of r.verb < s.geometry.words) × ((z : Past) → Legal s z → Since c q z → MayDoBy R s c z r.block r.verb (λ m word. PostsBy R s c m (reads None 0 (fill (waits at ∷ []) i word) (λ ws. go_on (slice_index ws 0))) End))
      by zero r a is e = subst (λ (x : Request). (place_of x.verb < s.geometry.words) × ((z : Past) → Legal s z → Since c q z → MayDoBy R s c z x.block x.verb (λ m word. PostsBy R s c m (go_on word) End))) (first e) (low, λ z lz sz. goes z lz sz)
        where
          this : Request
          this = record { block = None; verb = Read at }

          first : Some this ≡ Some r → this ≡ r
          first e = cc
      by (suc i) r a is e = absurd (cc)
