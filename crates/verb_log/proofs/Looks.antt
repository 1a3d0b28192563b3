-- The look back from the newest entry finds the word of an address.
use Rattle.std.proofs.Common.{◌≡◌, ℕ, ◌+◌, ◌-◌, ◌<◌, ◌≤◌, List, ◌∷◌, length, reverse, take, get_or, Some, refl, sym, ap, ◌∙◌, arith}
use Rattle.std.specs.Prelude.{slice_get, slice_index}
use Rattle.std.proofs.lemmas.Option.{slice_get_read}
use Rattle.std.proofs.lemmas.Bool.Decides.{nat_tests}
use Rattle.node_words.specs.declared.geometry.Geometry.{Geometry}
use Rattle.node_words.specs.Opening.{opening_word}
use Rattle.verb_log.specs.declared.entry.Entry.{Entry}
use Rattle.verb_log.specs.Tables.{Past, word_at}
use Rattle.verb_log.specs.Replay.{replay}
use Rattle.verb_log.proofs.InOrder.{replay_index}
use Rattle.verb_log.proofs.Positions.{position_next}

-- the newest entry tells the word of its own address
pub word_own : (g : Geometry) (past : Past) (e : Entry) (a : ℕ) → e.at ≡ a → word_at g (e ∷ past) a ≡ e.new
word_own g past e a h = grind (arith, nat_tests)

-- the position of entry n - 1, and the one behind it
pub position_last : (l : List Entry) (n : ℕ) (x : Entry) → 0 < n → n ≤ length l → x ≡ get_or l (n - 1) x → reverse (take n l) ≡ x ∷ reverse (take (n - 1) l)
position_last l n x some within read =
    let there : slice_get l (n - 1) ≡ Some x = slice_get_read l (length l) (n - 1) x refl (omega arith) read in
    let e : n - 1 + 1 ≡ n = omega arith in
    ap (λ (k : ℕ). reverse (take k l)) (sym e) ∙ position_next l (n - 1) x there

-- where no entry from n on stands at the address, entry n - 1 tells the word if it does
pub found_word : (g : Geometry) (l : List Entry) (n a : ℕ) (x : Entry) → a < g.words → 0 < n → n ≤ length l → x ≡ get_or l (n - 1) x → x.at ≡ a → word_at g (reverse l) a ≡ word_at g (reverse (take n l)) a → x.new ≡ slice_index (replay g l) a
found_word g l n a x within some below read at kept =
    sym (replay_index g l a within ∙ kept ∙ ap (λ (p : Past). word_at g p a) (position_last l n x some below read) ∙ word_own g (reverse (take (n - 1) l)) x a at)

-- and where no entry at all does, it is the opening's
pub unfound_word : (g : Geometry) (l : List Entry) (n a w : ℕ) → a < g.words → n ≤ 0 → w ≡ opening_word g a → word_at g (reverse l) a ≡ word_at g (reverse (take n l)) a → w ≡ slice_index (replay g l) a
unfound_word g l n a w within none is kept =
    let z : n ≡ 0 = omega arith in
    is ∙ sym (replay_index g l a within ∙ kept ∙ ap (λ (k : ℕ). word_at g (reverse (take k l)) a) z)
