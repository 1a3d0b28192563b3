-- The change of an entry, read from the words that stand before it.
use Rattle.std.proofs.Common.{◌≡◌, ℕ, ◌+◌, ◌≤◌, List, ◌++◌, take, set, reverse, Bool, true, false, cond, Option, Some, None, refl, sym, ap, ◌∙◌, arith}
use Rattle.std.specs.Prelude.{nat_le, slice_get, slice_range}
use Rattle.std.proofs.lemmas.Bool.Decides.{nat_tests}
use Rattle.std.specs.Option.{option_to_list}
use Rattle.node_words.specs.declared.geometry.Geometry.{Geometry}
use Rattle.kv_block.specs.declared.changes.Change.{Change}
use Rattle.kv_block.specs.Packing.{unpacked}
use Rattle.verb_log.specs.declared.entry.Entry.{Entry}
use Rattle.verb_log.specs.declared.kind.Kind.{Kind}
use Rattle.verb_log.specs.declared.kind.Kind.TheVariants.{Commit, Replace, Remove}
use Rattle.verb_log.specs.declared.role.Role.TheVariants.{Slot}
use Rattle.verb_log.specs.Decoded.{Content, Empty, Full, NoSlot, content}
use Rattle.verb_log.specs.declared.standing.Standing.{Standing}
use Rattle.verb_log.specs.Tables.{words_at, may_store}
use Rattle.verb_log.specs.Kinds.{kind, slot_kind}
use Rattle.verb_log.specs.Changes.{pair_in, set_to, gone, changes_by, changes}
use Rattle.verb_log.specs.Replay.{replay}
use Rattle.verb_log.specs.PlainKinds.{kind_of_plain}
use Rattle.verb_log.specs.Standings.{standing_of, judged_there}
use Rattle.verb_log.specs.Blocks.{pair_read, changes_read}
use Rattle.verb_log.proofs.InOrder.{replay_push, length-replay}
use Rattle.verb_log.proofs.Positions.{take_get, position_next}
use Rattle.verb_log.proofs.Judged.{kind_said}
use Rattle.verb_log.proofs.BlockWords.{range_is}

pub pair_read-is : (g : Geometry) (ws : List ℕ) (l : List Entry) (c : Content) → ws ≡ replay g l → pair_read ws c ≡ pair_in g (reverse l) c
pair_read-is g ws l Empty is = refl
pair_read-is g ws l (Full m b) is =
    ap (λ (x : List ℕ). pair_read x (Full m b)) is
    ∙ ap (λ (n : ℕ). cond (nat_le (b.at + b.length) n) (unpacked (slice_range (replay g l) b.at (b.at + b.length))) None) (length-replay g l)
    ∙ within (nat_le (b.at + b.length) g.words) refl
  where
    within : (t : Bool) → nat_le (b.at + b.length) g.words ≡ t → cond t (unpacked (slice_range (replay g l) b.at (b.at + b.length))) None ≡ cond t (unpacked (words_at g (reverse l) b.at b.length)) None
    within true h = ap unpacked (range_is g l b.at b.length (let k : b.at + b.length ≤ g.words = grind (arith, nat_tests) in k))
    within false h = refl
pair_read-is g ws l NoSlot is = refl

pub changes_read-is : (g : Geometry) (ws : List ℕ) (l : List Entry) (e : Entry) (k : Option Kind) → ws ≡ replay g l → changes_read ws e k ≡ changes_by g (reverse l) e k
changes_read-is g ws l e (Some Commit) is = ap set_to (pair_read-is g ws l (content e.new) is)
changes_read-is g ws l e (Some Replace) is = ap set_to (pair_read-is g ws l (content e.new) is)
changes_read-is g ws l e (Some Remove) is = ap gone (pair_read-is g ws l (content e.old) is)
changes_read-is g ws l e _ is = refl

-- the change of the entry at a place, whose word is taken for a slot
pub change_there : (g : Geometry) (l : List Entry) (n : ℕ) (ws : List ℕ) (e : Entry) (x : List Change) (s : Standing) → ws ≡ replay g (take n l) → slice_get l n ≡ Some e → s ≡ standing_of g (reverse (take n l)) e.at → Slot ≡ judged_there g s e.at → x ≡ changes_read ws e (slot_kind (content e.old) (content e.new)) → (f : Entry) → slice_get l n ≡ Some f → x ≡ changes_by g (reverse (take n l)) f (kind g (reverse (take n l)) f)
change_there g l n ws e x s is there said slot read f again =
    let same : e ≡ f = cc in
    let k : slot_kind (content e.old) (content e.new) ≡ kind g (reverse (take n l)) e = ap (kind_of_plain g (may_store g (reverse (take n l)) e.at) e) slot ∙ kind_said g (reverse (take n l)) e s said in
    read
    ∙ changes_read-is g ws (take n l) e (slot_kind (content e.old) (content e.new)) is
    ∙ ap (changes_by g (reverse (take n l)) e) k
    ∙ ap (λ (y : Entry). changes_by g (reverse (take n l)) y (kind g (reverse (take n l)) y)) same

-- one entry on
pub changes_next : (g : Geometry) (l : List Entry) (n : ℕ) (e : Entry) (before : List Change) (o : Option Change) → slice_get l n ≡ Some e → before ≡ changes g (reverse (take n l)) → option_to_list o ≡ changes_by g (reverse (take n l)) e (kind g (reverse (take n l)) e) → before ++ option_to_list o ≡ changes g (reverse (take (n + 1) l))
changes_next g l n e before o there is by =
    ap (λ (x : List Change). x ++ option_to_list o) is
    ∙ ap (λ (x : List Change). changes g (reverse (take n l)) ++ x) by
    ∙ sym (ap (changes g) (position_next l n e there))

pub words_next : (g : Geometry) (l : List Entry) (n : ℕ) (e : Entry) (ws : List ℕ) → slice_get l n ≡ Some e → ws ≡ replay g (take n l) → set ws e.at e.new ≡ replay g (take (n + 1) l)
words_next g l n e ws there is =
    ap (λ (x : List ℕ). set x e.at e.new) is
    ∙ sym (ap (replay g) (take_get l n e there) ∙ replay_push g (take n l) e)
