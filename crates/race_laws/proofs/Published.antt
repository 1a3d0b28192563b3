-- The words of a published block never change.
use Rattle.std.specs.Prelude.{◌≡◌, ℕ, zero, suc, ◌+◌, ◌<◌, ◌≤◌, List, ◌∷◌, length, slice_index, refl}
use Rattle.std.proofs.Common.{sym, ◌∙◌, ap, subst, arith}
use Rattle.kv_block.specs.Packing.{HasShape}
use Rattle.kv_block.proofs.Packed.{packed_of_unpacked, IsPair-from_unpacked, HasShape-packed}
use Rattle.node_words.specs.declared.geometry.Geometry.{Geometry}
use Rattle.verb_log.specs.Decoded.{Body}
use Rattle.verb_log.specs.Tables.{Past, Before, here, later, word_at, words_at}
use Rattle.verb_log.proofs.BlockWords.{length-words_at, index-words_at, pair_within, pair_unpacked}
use Rattle.race_laws.specs.Setting.{Setting}
use Rattle.race_laws.specs.Legal.{Legal}
use Rattle.race_laws.specs.Named.{Named, PublishedIn}
use Rattle.race_laws.proofs.RegionsStep.{heap_kept}
use Rattle.race_laws.proofs.Sound.{named_heap}
use Rattle.race_laws.proofs.SoundStep.{sound, sounds, named_at}

-- a word of a named block is what it was
pub word_later : (s : Setting) {p q : Past} → Before p q → Legal s q → (b : Body) → Named s.geometry p b → (a : ℕ) → b.at ≤ a → a < b.at + b.length → word_at s.geometry q a ≡ word_at s.geometry p a
word_later s here l b n a h k = refl
word_later s (later {q = q} {e = e} bf) l b n a h k =
    let nq = named_at s bf l.0 b n in
    heap_kept s q e l.1 (sound s q l.0) (λ at c. sounds s at q c l.0) a (named_heap s.geometry q (sound s q l.0) b nq a h k) (nq.published a h k) ∙ word_later s bf l.0 b n a h k

pub words_later : (s : Setting) {p q : Past} → Before p q → Legal s q → (b : Body) → Named s.geometry p b → (a n : ℕ) → b.at ≤ a → a + n ≤ b.at + b.length → words_at s.geometry p a n ≡ words_at s.geometry q a n
words_later s bf l b nm a zero low to = refl
words_later s {p = p} {q = q} bf l b nm a (suc n) low to =
    ap (λ w. w ∷ words_at s.geometry p (suc a) n) (sym (word_later s bf l b nm a low (omega arith)))
    ∙ ap (λ ws. word_at s.geometry q a ∷ ws) (words_later s bf l b nm (suc a) n (omega arith) (omega arith))

-- so a published block stays published with its words
pub published_later : (s : Setting) {p q : Past} → Before p q → Legal s q → (at : ℕ) (words : List ℕ) → PublishedIn s.geometry p at words → PublishedIn s.geometry q at words
published_later s bf l at words h = (h.0, h.1, named_at s bf l h.0 h.2, h.3 ∙ words_later s bf l h.0 h.2 (h.0).at (h.0).length (omega arith) (omega arith))

-- they are the words of a block, and each stands in the memory
pub published_shape : (g : Geometry) (past : Past) (at : ℕ) (words : List ℕ) → PublishedIn g past at words → HasShape words
published_shape g past at words h =
    let u = pair_unpacked g past h.0 h.2.pair h.2.packs in
    subst HasShape (packed_of_unpacked _ h.2.pair u ∙ sym h.3) (HasShape-packed h.2.pair (IsPair-from_unpacked _ h.2.pair u))

pub published_within : (g : Geometry) (past : Past) (at : ℕ) (words : List ℕ) → PublishedIn g past at words → at + length words ≤ g.words
published_within g past at words h =
    let long : length words ≡ (h.0).length = ap length h.3 ∙ length-words_at g past (h.0).at (h.0).length in
    let within = pair_within g past h.0 h.2.pair h.2.packs in
    let same = h.1 in
    omega (arith, long, within, same)

pub published_stands : (g : Geometry) (past : Past) (at : ℕ) (words : List ℕ) → PublishedIn g past at words → (i : ℕ) → i < length words → word_at g past (at + i) ≡ slice_index words i
published_stands g past at words h i less =
    let long : length words ≡ (h.0).length = ap length h.3 ∙ length-words_at g past (h.0).at (h.0).length in
    let short : i < (h.0).length = omega (arith, long, less) in
    ap (λ a. word_at g past (a + i)) (sym h.1)
    ∙ sym (index-words_at g past (h.0).at (h.0).length i short)
    ∙ ap (λ (ws : List ℕ). slice_index ws i) (sym h.3)
