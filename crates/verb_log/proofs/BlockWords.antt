-- The words of a block are those that stand at its addresses, and a pair's are within the memory.
use Rattle.std.proofs.Common.{◌≡◌, ℕ, zero, suc, ◌+◌, ◌-◌, ◌<◌, ◌≤◌, Bool, true, false, cond, List, ◌∷◌, length, take, drop, get_or, reverse, Some, None, refl, ap, ◌∙◌, arith, drop-cons}
use Rattle.std.specs.Prelude.{nat_le, slice_range, slice_index}
use Rattle.std.proofs.lemmas.Bool.Decides.{nat_tests}
use Rattle.kv_block.specs.Packing.{Pair, unpacked}
use Rattle.node_words.specs.declared.geometry.Geometry.{Geometry}
use Rattle.verb_log.specs.declared.entry.Entry.{Entry}
use Rattle.verb_log.specs.Decoded.{Body}
use Rattle.verb_log.specs.Tables.{Past, word_at, words_at, pair_at}
use Rattle.verb_log.specs.Replay.{replay}
use Rattle.verb_log.proofs.InOrder.{replay_index, length-replay}

-- the n words from a on
pub words_from : (g : Geometry) (l : List Entry) (a n : ℕ) → a + n ≤ g.words → take n (drop a (replay g l)) ≡ words_at g (reverse l) a n
words_from g l a zero h = refl
words_from g l a (suc n) h =
    let long = length-replay g l in
    let cut : drop a (replay g l) ≡ get_or (replay g l) a 0 ∷ drop (suc a) (replay g l) = drop-cons (replay g l) a 0 (omega arith) in
    ap (take (suc n)) cut
    ∙ ap (λ (w : ℕ). w ∷ take n (drop (suc a) (replay g l))) (replay_index g l a (omega arith))
    ∙ ap (λ (x : List ℕ). word_at g (reverse l) a ∷ x) (words_from g l (suc a) n (omega arith))

pub range_is : (g : Geometry) (l : List Entry) (a n : ℕ) → a + n ≤ g.words → slice_range (replay g l) a (a + n) ≡ words_at g (reverse l) a n
range_is g l a n h = let e : a + n - a ≡ n = omega arith in ap (λ (k : ℕ). take k (drop a (replay g l))) e ∙ words_from g l a n h

-- how many they are, and each of them
pub length-words_at : (g : Geometry) (past : Past) (a n : ℕ) → length (words_at g past a n) ≡ n
length-words_at g past a zero = refl
length-words_at g past a (suc n) = ap (λ (m : ℕ). suc m) (length-words_at g past (suc a) n)

pub index-words_at : (g : Geometry) (past : Past) (a n i : ℕ) → i < n → slice_index (words_at g past a n) i ≡ word_at g past (a + i)
index-words_at g past a zero i h = absurd (omega arith)
index-words_at g past a (suc n) zero h = let e : a ≡ a + zero = omega arith in ap (word_at g past) e
index-words_at g past a (suc n) (suc i) h = let e : suc a + i ≡ a + suc i = omega arith in index-words_at g past (suc a) n i (omega arith) ∙ ap (word_at g past) e

-- a block that packs a pair lies within the memory, and its words are the pair's
pub pair_within : (g : Geometry) (past : Past) (b : Body) (pair : Pair) → pair_at g past b ≡ Some pair → b.at + b.length ≤ g.words
pair_within g past b pair h = by (nat_le (b.at + b.length) g.words) refl h
  where
    by : (v : Bool) → nat_le (b.at + b.length) g.words ≡ v → cond v (unpacked (words_at g past b.at b.length)) None ≡ Some pair → b.at + b.length ≤ g.words
    by true e k = grind (arith, nat_tests, e)
    by false e k = absurd (cc)

pub pair_unpacked : (g : Geometry) (past : Past) (b : Body) (pair : Pair) → pair_at g past b ≡ Some pair → unpacked (words_at g past b.at b.length) ≡ Some pair
pair_unpacked g past b pair h = by (nat_le (b.at + b.length) g.words) h
  where
    by : (v : Bool) → cond v (unpacked (words_at g past b.at b.length)) None ≡ Some pair → unpacked (words_at g past b.at b.length) ≡ Some pair
    by true k = k
    by false k = absurd (cc)
