-- Reading a block that a slot has named, by any rule of own entries.
use Rattle.std.specs.Prelude.{◌≡◌, ◌≢◌, ℕ, zero, suc, ◌+◌, ◌-◌, ◌≤◌, Bool, true, false, cond, List, [], ◌∷◌, ◌++◌, Some, refl}
use Rattle.std.proofs.Common.{sym, ◌∙◌, ap, subst, arith, append_assoc, append-nil, le_refl}
use Rattle.kv_block.specs.Bytes.{AreBytes}
use Rattle.kv_block.specs.Packing.{Pair, IsPair, packed, unpacked}
use Rattle.kv_block.specs.Reading.{has_key, block_value}
use Rattle.kv_block.proofs.Packed.{packed_of_unpacked, IsPair-from_unpacked}
use Rattle.kv_block.proofs.ReadingLemmas.{block_value-packed, key_of-packed, has_key-packed}
use Rattle.verb_log.specs.declared.entry.Verb.TheVariants.{Read}
use Rattle.verb_log.specs.Decoded.{Body}
use Rattle.verb_log.specs.Tables.{Past, Before, word_at, words_at, pair_at}
use Rattle.verb_log.proofs.BlockWords.{length-words_at, pair_within, pair_unpacked}
use Rattle.verb_log.proofs.Positions.{Before-trans}
use Rattle.verbs.specs.Programs.{Prog}
use Rattle.race_laws.specs.Setting.{Setting}
use Rattle.race_laws.specs.Legal.{Legal}
use Rattle.race_laws.specs.Named.{Named}
use Rattle.race_laws.proofs.SoundStep.{named_at}
use Rattle.race_laws.proofs.Published.{word_later}
use Rattle.log_facts.specs.Among.{ReadsIn}
use Rattle.log_facts.specs.Since.{Since, same}
use Rattle.log_facts.proofs.Growing.{since_before, since_trans}
use Rattle.pass_text.specs.Pass.{read_words}
use Rattle.pass_laws.specs.SafeIn.{Rule, SafeBy}
use Rattle.pass_laws.proofs.ListPass.{if_block, read_block}

-- what the words of a block tell: its key, and its value
words_tell : (ws key : List ℕ) (pr : Pair) → unpacked ws ≡ Some pr → AreBytes key → (block_value ws ≡ pr.value) × (has_key ws key ≡ true → pr.key ≡ key) × (pr.key ≡ key → has_key ws key ≡ true)
words_tell ws key pr u bytes = subst (λ v. (block_value v ≡ pr.value) × (has_key v key ≡ true → pr.key ≡ key) × (pr.key ≡ key → has_key v key ≡ true)) (packed_of_unpacked ws pr u)
    (block_value-packed pr fits, (λ h. key_of-packed pr fits key bytes h), (λ e. subst (λ k. has_key (packed pr.key pr.value) k ≡ true) e (has_key-packed pr fits)))
  where
    fits : IsPair pr
    fits = IsPair-from_unpacked ws pr u

module _ {A : Type 0} (R : Rule) (s : Setting) (c : ℕ) (End : Past → A → Type 0) (r : Past) (b : Body) (pr : Pair) (nm : Named s.geometry r b) (pk : pair_at s.geometry r b ≡ Some pr) where
  pub by_words : (n at : ℕ) (ws whole : List ℕ) → ws ++ words_at s.geometry r at n ≡ whole → b.at ≤ at → at + n ≡ b.at + b.length → (k : List ℕ → Prog A) (q : Past) → ((z : Past) → Legal s z → Since c q z → SafeBy R s c z (k whole) End) → Before r q → Legal s q → SafeBy R s c q (read_words b.at n at ws k) End
  by_words zero at ws whole e low to k q f b1 l = subst (λ v. SafeBy R s c q (k v) End) (sym e ∙ append-nil ws) (f q l same)
  by_words (suc n) at ws whole e low to k q f b1 l =
      let w = pair_within s.geometry r b pr pk in (
        omega arith,
        λ z lz sz. let bz = since_before sz in (
          reads z (Before-trans b1 bz) lz,
          by_words n (at + 1) (ws ++ word_at s.geometry z at ∷ []) whole
              (next z (word_later s (Before-trans b1 bz) lz b nm at low (omega arith))) (omega arith) (omega arith) k z (λ y ly sy. f y ly (since_trans sz sy)) (Before-trans b1 bz) lz,
        ),
      )
    where
      reads : (z : Past) → Before r z → Legal s z → ReadsIn s.geometry z b.at (Read at)
      reads z bz lz =
          let long = length-words_at s.geometry z b.at b.length in
          let place : at ≡ b.at + (at - b.at) = omega arith in
          (words_at s.geometry z b.at b.length, (b, refl, named_at s bz lz b nm, refl), (at - b.at, omega (arith, long), ap (λ a. Read a) place))

      next : (z : Past) → word_at s.geometry z at ≡ word_at s.geometry r at → (ws ++ word_at s.geometry z at ∷ []) ++ words_at s.geometry r (at + 1) n ≡ whole
      next z h = append_assoc ws (word_at s.geometry z at ∷ []) (words_at s.geometry r (at + 1) n) ∙ ap (λ v. ws ++ (v ∷ words_at s.geometry r (at + 1) n)) h
          ∙ ap (λ v. ws ++ (word_at s.geometry r at ∷ words_at s.geometry r v n)) (plus1 at) ∙ e
        where
          plus1 : (x : ℕ) → x + 1 ≡ suc x
          plus1 x = omega arith

  -- the block is read: its key is this one, and what follows has its value; or it is not
  pub by_block : (key : List ℕ) → AreBytes key → (hit : List ℕ → Prog A) (miss : Prog A) (q : Past) → Before r q → Legal s q → (pr.key ≡ key → (z : Past) → Legal s z → Before q z → SafeBy R s c z (hit pr.value) End) → (pr.key ≢ key → (z : Past) → Legal s z → Before q z → SafeBy R s c z miss End) → SafeBy R s c q (read_block key b hit miss) End
  by_block key bytes hit miss q b1 l f h = by_words b.length b.at [] ws refl (le_refl _) refl (if_block key hit miss) q
      (λ z lz sz. let bz = since_before sz in by z lz bz (has_key ws key) refl) b1 l
    where
      ws : List ℕ
      ws = words_at s.geometry r b.at b.length

      tell : (block_value ws ≡ pr.value) × (has_key ws key ≡ true → pr.key ≡ key) × (pr.key ≡ key → has_key ws key ≡ true)
      tell = words_tell ws key pr (pair_unpacked s.geometry r b pr pk) bytes

      by : (z : Past) → Legal s z → Before q z → (v : Bool) → has_key ws key ≡ v → SafeBy R s c z (cond v (hit (block_value ws)) miss) End
      by z lz bz true e = subst (λ v. SafeBy R s c z (hit v) End) (sym tell.0) (f (tell.1 e) z lz bz)
      by z lz bz false e = h (λ (x : pr.key ≡ key). let y = tell.2 x in cc) z lz bz
