-- A split that is gone on with does a verb before it ends, whatever its ticket says.
use Rattle.std.specs.Prelude.{ℕ, zero, suc, ◌-◌, ◌+◌, ◌==◌, Bool, true, false, nat_le, if◌then◌else◌, List, [], Option, Some, None}
use Rattle.slot_word.specs.declared.slots.Mark.{Mark}
use Rattle.slot_word.specs.declared.slots.Mark.TheVariants.{Live, Pending, Copied, Moved}
use Rattle.slot_word.specs.declared.slots.Slot.{Slot}
use Rattle.slot_word.specs.Slots.{slot_of}
use Rattle.kv_block.specs.Reading.{block_key}
use Rattle.node_words.specs.declared.geometry.Geometry.{Geometry}
use Rattle.verbs.specs.Programs.{do_verb, ask_hash, Prog, ret, ask, bind}
use Rattle.pass_text.specs.Pass.{read_words}
use Rattle.split_text.specs.declared.site.Site.{Site}
use Rattle.split_text.specs.declared.site.Ticket.{Ticket}
use Rattle.split_text.specs.declared.moved.MoveOutcome.{MoveOutcome}
use Rattle.split_text.specs.declared.moved.MoveOutcome.TheVariants.{Done, Moved as MovedOn, Spent}
use Rattle.split_text.specs.declared.moved.MoveEnd.{MoveEnd}
use Rattle.split_text.specs.declared.resized.ResizeEnd.{ResizeEnd}
use Rattle.split_text.specs.Words.{cut, place_of, slot_count}
use Rattle.split_text.specs.Move.{is_leaving, if_leaving, stay, judge_mark, judge_slot, turn, judge}
use Rattle.split_text.specs.Text.{slots, after_move, resume}

-- the program does a verb before it ends, or P holds of its outcome, where the hashes that it asks for are told
abbrev pub DoesVerb : {A : Type 0} → (List ℕ → ℕ) → (A → Type 0) → Prog A → Type 0
DoesVerb hash P (ret a) = P a
DoesVerb hash P (ask (do_verb block verb) k) = Unit {0}
DoesVerb hash P (ask (ask_hash key) k) = DoesVerb hash P (k (hash key))

pub does_bind : {A B : Type 0} (hash : List ℕ → ℕ) (P : A → Type 0) (Q : B → Type 0) (p : Prog A) (f : A → Prog B) → ((a : A) → P a → DoesVerb hash Q (f a)) → DoesVerb hash P p → DoesVerb hash Q (bind p f)
does_bind hash P Q (ret a) f next h = next a h
does_bind hash P Q (ask (do_verb block verb) k) f next h = tt
does_bind hash P Q (ask (ask_hash key) k) f next h = does_bind hash P Q (k (hash key)) f next h

either : {A : Type 0} (hash : List ℕ → ℕ) (P : A → Type 0) (b : Bool) (p q : Prog A) → DoesVerb hash P p → DoesVerb hash P q → DoesVerb hash P (if b then p else q)
either hash P true p q h k = h
either hash P false p q h k = k

words_does : {A : Type 0} (hash : List ℕ → ℕ) (P : A → Type 0) (block n at : ℕ) (ws : List ℕ) (go_on : List ℕ → Prog A) → ((xs : List ℕ) → DoesVerb hash P (go_on xs)) → DoesVerb hash P (read_words block n at ws go_on)
words_does hash P block zero at ws go_on h = h ws
words_does hash P block (suc n) at ws go_on h = tt

-- the place is not left as it is for want of swaps
abbrev Goes : MoveOutcome → Type 0
Goes Done = Unit {0}
Goes MovedOn = Unit {0}
Goes Spent = ⊥

abbrev IsLeft : MoveEnd → Type 0
IsLeft e = Goes e.outcome

module _ (hash : List ℕ → ℕ) (site : Site) (p left : ℕ) where
  stay_does : (word standing : ℕ) → DoesVerb hash IsLeft (stay site p left word standing)
  stay_does word standing = either hash IsLeft (standing == 0) _ _ tt tt

  leaving_does : (slot : Slot) (leaving staying : Prog MoveEnd) → DoesVerb hash IsLeft leaving → DoesVerb hash IsLeft staying → DoesVerb hash IsLeft (if_leaving site slot leaving staying)
  leaving_does slot leaving staying h k =
      either hash IsLeft (nat_le slot.len 137) _ _
      (words_does hash IsLeft slot.at slot.len slot.at [] (λ ws. ask (ask_hash (block_key ws)) (λ key. is_leaving site key leaving staying)) (λ ws. either hash IsLeft _ leaving staying h k)) k

  mark_does : (word standing : ℕ) (slot : Slot) (mark : Mark) (more : Prog MoveEnd) (lost : ℕ → ℕ → Prog MoveEnd) → DoesVerb hash IsLeft (judge_mark site p left word standing slot mark more lost)
  mark_does word standing slot Live more lost = leaving_does slot _ _ tt (stay_does word standing)
  mark_does word standing slot Pending more lost = leaving_does slot _ _ (either hash IsLeft (standing == 0) _ _ tt tt) (stay_does word standing)
  mark_does word standing slot Copied more lost = stay_does word standing
  mark_does word standing slot Moved more lost = stay_does word standing

  slot_does : (word standing : ℕ) (o : Option Slot) (more : Prog MoveEnd) (lost : ℕ → ℕ → Prog MoveEnd) → DoesVerb hash IsLeft (judge_slot site p left word standing o more lost)
  slot_does word standing None more lost = stay_does word standing
  slot_does word standing (Some slot) more lost = mark_does word standing slot slot.mark more lost

  turn_does : (word standing : ℕ) (lost : ℕ → ℕ → Prog MoveEnd) → DoesVerb hash IsLeft (turn site p left word standing lost)
  turn_does word standing lost = slot_does word standing (slot_of word) _ lost

judge_does : (hash : List ℕ → ℕ) (site : Site) (p n word standing : ℕ) → DoesVerb hash IsLeft (judge site p n word standing)
judge_does hash site p zero word standing = turn_does hash site p 1 word standing _
judge_does hash site p (suc n) word standing = turn_does hash site p (suc (suc n)) word standing _

slots_does : (hash : List ℕ → ℕ) (g : Geometry) (c : ℕ) (site : Site) (n i left : ℕ) → DoesVerb hash (λ (x : ResizeEnd). ⊥) (slots g c site n i left)
slots_does hash g c site zero i left = tt
slots_does hash g c site (suc n) i left = tt

moved_does : (hash : List ℕ → ℕ) (g : Geometry) (c : ℕ) (site : Site) (i : ℕ) (next : ℕ → Prog ResizeEnd) (e : MoveEnd) (o : MoveOutcome) → Goes o → ((left : ℕ) → DoesVerb hash (λ (x : ResizeEnd). ⊥) (next left)) → DoesVerb hash (λ (x : ResizeEnd). ⊥) (after_move g c site i next e o)
moved_does hash g c site i next e Done h k = k e.left
moved_does hash g c site i next e MovedOn h k = tt
moved_does hash g c site i next e Spent h k = absurd h

pub resume_does : (hash : List ℕ → ℕ) (t : Ticket) (left : ℕ) → DoesVerb hash (λ (x : ResizeEnd). ⊥) (resume t left)
resume_does hash t left =
    let site = cut t.site in
    let next : ℕ → Prog ResizeEnd = slots t.geometry t.client site (slot_count t.geometry - (t.slot + 1)) (t.slot + 1) in
    does_bind hash IsLeft (λ (x : ResizeEnd). ⊥) (judge site (place_of t.slot) (left - 1) t.word t.copy) (λ e. after_move t.geometry t.client site t.slot next e e.outcome)
    (λ e h. moved_does hash t.geometry t.client site t.slot next e e.outcome h (λ n. slots_does hash t.geometry t.client site (slot_count t.geometry - (t.slot + 1)) (t.slot + 1) n))
    (judge_does hash site (place_of t.slot) (left - 1) t.word t.copy)
