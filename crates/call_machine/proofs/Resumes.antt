-- A split that is gone on with has an act.
use Rattle.std.specs.Prelude.{◌≡◌, ℕ, zero, suc, ◌+◌, ◌-◌, ◌==◌, nat_le, Bool, true, false, cond, List, [], Option, Some, None, IsSome, refl}
use Rattle.std.proofs.Common.{subst, sym}
use Rattle.node_words.specs.declared.geometry.Geometry.{Geometry}
use Rattle.slot_word.specs.declared.slots.Mark.{Mark}
use Rattle.slot_word.specs.declared.slots.Mark.TheVariants.{Live, Pending, Copied, Moved}
use Rattle.slot_word.specs.declared.slots.Slot.{Slot}
use Rattle.slot_word.specs.Slots.{slot_of}
use Rattle.kv_block.specs.Reading.{block_key}
use Rattle.verbs.specs.Programs.{Prog, ret, ask, ask_hash, bind, next_act}
use Rattle.pass_text.specs.Pass.{read_words}
use Rattle.split_text.specs.declared.site.Site.{Site}
use Rattle.split_text.specs.declared.site.Ticket.{Ticket}
use Rattle.split_text.specs.declared.moved.MoveOutcome.{MoveOutcome}
use Rattle.split_text.specs.declared.moved.MoveOutcome.TheVariants.{Done, Moved as MovedOn, Spent}
use Rattle.split_text.specs.declared.moved.MoveEnd.{MoveEnd}
use Rattle.split_text.specs.declared.resized.ResizeEnd.{ResizeEnd}
use Rattle.split_text.specs.Words.{cut, slot_count, place_of}
use Rattle.split_text.specs.Move.{left_so, is_leaving, if_leaving, uncopy, stay, judge_mark, judge_slot, judge}
use Rattle.split_text.specs.Text.{after_move, slots, resume}

-- a place that has ended without an act is done
abbrev Ready : Prog MoveEnd → Type 0
Ready (ret e) = e.outcome ≡ Done
Ready (ask act k) = Unit {0}

ready_either : (v : Bool) (x y : Prog MoveEnd) → Ready x → Ready y → Ready (cond v x y)
ready_either true x y h k = h
ready_either false x y h k = k

ready-words : (block n at : ℕ) (ws : List ℕ) (go_on : List ℕ → ℕ → Prog MoveEnd) → Ready (read_words block n at ws (λ ks. ask (ask_hash (block_key ks)) (go_on ks)))
ready-words block zero at ws go_on = tt
ready-words block (suc n) at ws go_on = tt

ready-uncopy : (site : Site) (p left standing : ℕ) (go_on : Prog MoveEnd) → Ready go_on → Ready (uncopy site p left standing go_on)
ready-uncopy site p left standing go_on h = ready_either (standing == 0) go_on _ h tt

ready-stay : (site : Site) (p left word standing : ℕ) → Ready (stay site p left word standing)
ready-stay site p left word standing = ready-uncopy site p left standing (left_so Done word 0 left) refl

ready-leaving : (site : Site) (slot : Slot) (leaving staying : Prog MoveEnd) → Ready staying → Ready (if_leaving site slot leaving staying)
ready-leaving site slot leaving staying h = ready_either (nat_le slot.len 137) _ staying (ready-words slot.at slot.len slot.at [] (λ ws hash. is_leaving site hash leaving staying)) h

ready-mark : (site : Site) (p left word standing : ℕ) (slot : Slot) (mark : Mark) (again : Prog MoveEnd) (lost : ℕ → ℕ → Prog MoveEnd) → Ready (judge_mark site p left word standing slot mark again lost)
ready-mark site p left word standing slot Live again lost = ready-leaving site slot _ _ (ready-stay site p left word standing)
ready-mark site p left word standing slot Pending again lost = ready-leaving site slot _ _ (ready-stay site p left word standing)
ready-mark site p left word standing slot Copied again lost = ready-stay site p left word standing
ready-mark site p left word standing slot Moved again lost = ready-stay site p left word standing

ready-slot : (site : Site) (p left word standing : ℕ) (o : Option Slot) (again : Prog MoveEnd) (lost : ℕ → ℕ → Prog MoveEnd) → Ready (judge_slot site p left word standing o again lost)
ready-slot site p left word standing None again lost = ready-stay site p left word standing
ready-slot site p left word standing (Some slot) again lost = ready-mark site p left word standing slot slot.mark again lost

ready-judge : (site : Site) (p n word standing : ℕ) → Ready (judge site p n word standing)
ready-judge site p zero word standing = ready-slot site p 1 word standing (slot_of word) _ _
ready-judge site p (suc n) word standing = ready-slot site p (suc (suc n)) word standing (slot_of word) _ _

slots-wait : (g : Geometry) (c : ℕ) (site : Site) (n i left : ℕ) → IsSome (next_act (slots g c site n i left))
slots-wait g c site zero i left = refl
slots-wait g c site (suc n) i left = refl

module _ (g : Geometry) (c : ℕ) (site : Site) (i n : ℕ) where
  moved-waits : (e : MoveEnd) (o : MoveOutcome) → o ≡ Done → IsSome (next_act (after_move g c site i (slots g c site n (i + 1)) e o))
  moved-waits e Done h = slots-wait g c site n (i + 1) e.left
  moved-waits e MovedOn h = refl
  moved-waits e Spent h = absurd (cc)

  place-waits : (p : Prog MoveEnd) → Ready p → IsSome (next_act (bind p (λ e. after_move g c site i (slots g c site n (i + 1)) e e.outcome)))
  place-waits (ret e) h = moved-waits e e.outcome h
  place-waits (ask act k) h = refl

pub resume-waits : (t : Ticket) (left : ℕ) (p : Prog ResizeEnd) → p ≡ resume t left → IsSome (next_act p)
resume-waits t left p e =
    subst (λ q. IsSome (next_act q)) (sym e)
    (place-waits t.geometry t.client (cut t.site) t.slot (slot_count t.geometry - (t.slot + 1)) (judge (cut t.site) (place_of t.slot) (left - 1) t.word t.copy) (ready-judge (cut t.site) (place_of t.slot) (left - 1) t.word t.copy))

pub ruleset waits = (resume-waits)
