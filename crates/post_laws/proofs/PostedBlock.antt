-- The words of a block that a slot has named, read together in any order.
use Rattle.std.specs.Prelude.{◌≡◌, ◌≢◌, ℕ, zero, suc, ◌+◌, ◌-◌, ◌<◌, ◌≤◌, Bool, true, false, cond, List, [], ◌∷◌, Some, refl}
use Rattle.std.proofs.Common.{sym, ◌∙◌, ap, subst, arith, le_refl, ⊎_elim}
use Rattle.kv_block.specs.Bytes.{AreBytes}
use Rattle.kv_block.specs.Packing.{Pair, IsPair, packed, unpacked}
use Rattle.kv_block.specs.Reading.{has_key, block_value}
use Rattle.kv_block.proofs.Packed.{packed_of_unpacked, IsPair-from_unpacked}
use Rattle.kv_block.proofs.ReadingLemmas.{block_value-packed, key_of-packed, has_key-packed}
use Rattle.verb_log.specs.declared.entry.Verb.TheVariants.{Read}
use Rattle.verb_log.specs.Decoded.{Body}
use Rattle.verb_log.specs.Tables.{Past, Before, word_at, words_at, pair_at}
use Rattle.verb_log.proofs.BlockWords.{length-words_at, pair_within, pair_unpacked}
use Rattle.verb_log.proofs.Positions.{Before-trans}
use Rattle.race_laws.specs.Setting.{Setting}
use Rattle.race_laws.specs.Standing.{IsIn}
use Rattle.race_laws.specs.Legal.{Legal}
use Rattle.race_laws.specs.Named.{Named}
use Rattle.race_laws.proofs.Positions.{legal_before}
use Rattle.race_laws.proofs.SoundStep.{named_at}
use Rattle.race_laws.proofs.Published.{word_later}
use Rattle.log_facts.specs.Among.{ReadsIn}
use Rattle.log_facts.proofs.Growing.{since_before}
use Rattle.pass_laws.specs.SafeIn.{Rule}
use Rattle.post_text.specs.Posts.{Posts, Posted, waits, has, waiting, words, post, range}
use Rattle.post_laws.specs.SafePosts.{PostsBy}
use Rattle.post_laws.proofs.PostedReads.{Filled, addresses, post_safe}

-- what the words of a pair tell: its value, and whether its key is this one
pair_tells : (ws key : List ℕ) (pr : Pair) → unpacked ws ≡ Some pr → AreBytes key → (block_value ws ≡ pr.value) × (has_key ws key ≡ true → pr.key ≡ key) × (pr.key ≡ key → has_key ws key ≡ true)
pair_tells ws key pr u bytes = subst (λ v. (block_value v ≡ pr.value) × (has_key v key ≡ true → pr.key ≡ key) × (pr.key ≡ key → has_key v key ≡ true)) (packed_of_unpacked ws pr u)
    (block_value-packed pr fits, (λ h. key_of-packed pr fits key bytes h), (λ e. subst (λ k. has_key (packed pr.key pr.value) k ≡ true) e (has_key-packed pr fits)))
  where
    fits : IsPair pr
    fits = IsPair-from_unpacked ws pr u

pub same_first : (a b : ℕ) (xs ys : List ℕ) → a ∷ xs ≡ b ∷ ys → (a ≡ b) × (xs ≡ ys)
same_first a b xs ys e = ((cc), (cc))

in_range : (n at a : ℕ) → IsIn a (range at n) → (at ≤ a) × (a < at + n)
in_range zero at a h = absurd h
in_range (suc n) at a h = ⊎_elim (λ (e : a ≡ at). ((omega arith), (omega arith))) (λ (i : IsIn a (range (suc at) n)). let x = in_range n (suc at) a i in let y = x.0 in let z = x.1 in ((omega arith), (omega arith))) h

module _ {A : Type 0} (R : Rule) (s : Setting) (c : ℕ) (End : Past → A → Type 0) (r : Past) (b : Body) (pr : Pair) (nm : Named s.geometry r b) (pk : pair_at s.geometry r b ≡ Some pr) where
  -- each word is that of the block, at whatever position it was read
  block_words : (from q : Past) → Before r from → Legal s q → (n at : ℕ) → b.at ≤ at → at + n ≤ b.at + b.length → (xs : List Posted) → addresses xs ≡ range at n → waiting (Some b.at) xs ≡ [] → Filled s from q xs → words xs ≡ words_at s.geometry r at n
  block_words from q rf l zero at low high [] a w f = refl
  block_words from q rf l zero at low high (x ∷ xs) a w f = absurd (cc)
  block_words from q rf l (suc n) at low high [] a w f = absurd (cc)
  block_words from q rf l (suc n) at low high (waits x ∷ xs) a w f = absurd (cc)
  block_words from q rf l (suc n) at low high (has x word ∷ xs) a w f =
      let e = same_first x at (addresses xs) (range (suc at) n) a in
      let o = f.0 in
      let same : word ≡ word_at s.geometry r at = sym o.3 ∙ ap (word_at s.geometry o.0) e.0 ∙ word_later s (Before-trans rf o.1) (legal_before s o.2 l) b nm at low (omega arith) in
      ap (λ v. v ∷ words xs) same ∙ ap (λ vs. word_at s.geometry r at ∷ vs) (block_words from q rf l n (suc at) (omega arith) (omega arith) xs e.1 w f.1)

  -- each address reads a word of the block, which is published
  reads_block : (y : Past) → Before r y → Legal s y → (a : ℕ) → IsIn a (range b.at b.length) → ReadsIn s.geometry y b.at (Read a)
  reads_block y ry ly a i =
      let x = in_range b.length b.at a i in
      let low = x.0 in
      let high = x.1 in
      let long = length-words_at s.geometry y b.at b.length in
      let place : a ≡ b.at + (a - b.at) = omega arith in
      (words_at s.geometry y b.at b.length, (b, refl, named_at s ry ly b nm, refl), (a - b.at, omega (arith, long, low, high), ap (λ v. Read v) place))

  within : (a : ℕ) → IsIn a (range b.at b.length) → a < s.geometry.words
  within a i =
      let x = in_range b.length b.at a i in
      let low = x.0 in
      let high = x.1 in
      let w = pair_within s.geometry r b pr pk in
      omega arith

  -- the words of the block are read: its key is this one, and what follows has its value; or it is not
  pub posted_block_safe : (key : List ℕ) → AreBytes key → (hit : List ℕ → Posts A) (miss : Posts A) (q : Past) → Before r q → Legal s q → (pr.key ≡ key → (y : Past) → Legal s y → Before q y → PostsBy R s c y (hit pr.value) End) → (pr.key ≢ key → (y : Past) → Legal s y → Before q y → PostsBy R s c y miss End)
      → PostsBy R s c q (post (Some b.at) (range b.at b.length) (λ ws. cond (has_key ws key) (hit (block_value ws)) miss)) End
  posted_block_safe key bytes hit miss q rq l f h = post_safe A R s c End (Some b.at) q (range b.at b.length) within (λ y sy ly a i. reads_block y (Before-trans rq (since_before sy)) ly a i) (λ ws. cond (has_key ws key) (hit (block_value ws)) miss)
      (λ y xs sy ly filled none at.
      subst (λ ws. PostsBy R s c y (cond (has_key ws key) (hit (block_value ws)) miss) End) (sym (block_words q y rq ly b.length b.at (le_refl _) (le_refl _) xs at none filled))
      (by y ly (since_before sy) (has_key whole key) refl)) l
    where
      whole : List ℕ
      whole = words_at s.geometry r b.at b.length

      tell : (block_value whole ≡ pr.value) × (has_key whole key ≡ true → pr.key ≡ key) × (pr.key ≡ key → has_key whole key ≡ true)
      tell = pair_tells whole key pr (pair_unpacked s.geometry r b pr pk) bytes

      by : (y : Past) → Legal s y → Before q y → (v : Bool) → has_key whole key ≡ v → PostsBy R s c y (cond v (hit (block_value whole)) miss) End
      by y ly qy true e = subst (λ v. PostsBy R s c y (hit v) End) (sym tell.0) (f (tell.1 e) y ly qy)
      by y ly qy false e = h (λ (x : pr.key ≡ key). let z = tell.2 x in cc) y ly qy
