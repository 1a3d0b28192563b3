-- A log in order beside the same log newest first: words, well made logs, entries.
use Rattle.std.proofs.Common.{◌≡◌, ℕ, ◌<◌, List, [], ◌∷◌, ◌++◌, length, reverse, cond, refl, sym, ap, subst, ◌∙◌, arith, get_or-set_other, get_or-set_same}
use Rattle.std.specs.Prelude.{◌==◌, slice_index, slice_set}
use Rattle.std.proofs.lemmas.List.{reverse-append, reverse-reverse, length-set}
use Rattle.std.proofs.lemmas.Bool.Decides.{nat_tests}
use Rattle.node_words.specs.declared.geometry.Geometry.{Geometry}
use Rattle.node_words.specs.Opening.{opening}
use Rattle.node_words.proofs.OpeningWords.{length-opening, opening-index}
use Rattle.verb_log.specs.declared.entry.Entry.{Entry}
use Rattle.verb_log.specs.Tables.{Past, word_at}
use Rattle.verb_log.specs.Replay.{replay_from, replay, Follows, IsMade, WellMade}

-- the newest entry of a log stands first in the other reading
pub reverse_push : {A : Type 0} (l : List A) (x : A) → reverse (l ++ x ∷ []) ≡ x ∷ reverse l
reverse_push l x = reverse-append l (x ∷ [])

pub reverse_cons : {A : Type 0} (x : A) (l : List A) → reverse (x ∷ l) ≡ reverse l ++ x ∷ []
reverse_cons x l = reverse-append (x ∷ []) l

-- the words after no entry, and after one more
pub replay-nil : (g : Geometry) → replay g [] ≡ opening g
unfolding replay
replay-nil g = refl

pub replay_from_push : (ws : List ℕ) (l : List Entry) (e : Entry) → replay_from ws (l ++ e ∷ []) ≡ slice_set (replay_from ws l) e.at e.new
replay_from_push ws [] e = refl
replay_from_push ws (x ∷ l) e = replay_from_push (slice_set ws x.at x.new) l e

pub replay_push : (g : Geometry) (l : List Entry) (e : Entry) → replay g (l ++ e ∷ []) ≡ slice_set (replay g l) e.at e.new
unfolding replay
replay_push g l e = replay_from_push (opening g) l e

pub length-replay_from : (ws : List ℕ) (l : List Entry) → length (replay_from ws l) ≡ length ws
length-replay_from ws [] = refl
length-replay_from ws (x ∷ l) = length-replay_from (slice_set ws x.at x.new) l ∙ length-set ws x.at x.new

-- the memory keeps its length
pub length-replay : (g : Geometry) (l : List Entry) → length (replay g l) ≡ g.words
unfolding replay
length-replay g l = length-replay_from (opening g) l ∙ length-opening g

-- an element after a write
pub index_set : (ws : List ℕ) (i v a : ℕ) → a < length ws → slice_index (slice_set ws i v) a ≡ cond (a == i) v (slice_index ws a)
index_set ws i v a h = grind (arith, nat_tests, get_or-set_other, get_or-set_same)

pub index_push : (g : Geometry) (l : List Entry) (e : Entry) (a : ℕ) → a < g.words → slice_index (replay g (l ++ e ∷ [])) a ≡ cond (a == e.at) e.new (slice_index (replay g l) a)
index_push g l e a h =
    let n = length-replay g l in
    ap (λ (ws : List ℕ). slice_index ws a) (replay_push g l e) ∙ index_set (replay g l) e.at e.new a (omega arith)

-- the word of an address is its element of the replay
pub past_index : (g : Geometry) (past : Past) (a : ℕ) → a < g.words → slice_index (replay g (reverse past)) a ≡ word_at g past a
past_index g [] a h = ap (λ (ws : List ℕ). slice_index ws a) (replay-nil g) ∙ opening-index g a h
past_index g (e ∷ past) a h =
    ap (λ (l : List Entry). slice_index (replay g l) a) (reverse_cons e past)
    ∙ index_push g (reverse past) e a h
    ∙ ap (λ (w : ℕ). cond (a == e.at) e.new w) (past_index g past a h)

pub replay_index : (g : Geometry) (l : List Entry) (a : ℕ) → a < g.words → slice_index (replay g l) a ≡ word_at g (reverse l) a
replay_index g l a h = ap (λ (m : List Entry). slice_index (replay g m) a) (sym (reverse-reverse l)) ∙ past_index g (reverse l) a h

-- a log stays well made by an entry whose old word stands at its address
pub WellMade-nil : (g : Geometry) → WellMade g []
WellMade-nil g = tt

pub WellMade-push : (g : Geometry) (l : List Entry) (e : Entry) → WellMade g l → e.at < g.words → e.old ≡ slice_index (replay g l) e.at → WellMade g (l ++ e ∷ [])
WellMade-push g l e made within old =
    subst (IsMade g) (sym (reverse_push l e)) (record { within = within; old = old ∙ replay_index g l e.at within }, made)

pub WellMade-pop : (g : Geometry) (l : List Entry) (e : Entry) → WellMade g (l ++ e ∷ []) → WellMade g l × Follows g (reverse l) e
WellMade-pop g l e made = let m = subst (IsMade g) (reverse_push l e) made in (m.1, m.0)

pub ruleset pushes = (WellMade-push)
