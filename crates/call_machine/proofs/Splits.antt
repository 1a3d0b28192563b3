-- A split after which a call may go on may lose one swap more.
use Rattle.std.specs.Prelude.{◌≡◌, ℕ, zero, suc, ◌+◌, ◌-◌, ◌≤◌, ◌==◌, ◌%◌, ◌^◌, ◌*◌, ◌&&◌, nat_le, nat_lt, Bool, true, false, cond, List, [], slice_set, replicate, Option, Some, None}
use Rattle.std.proofs.Common.{arith, subst, sym}
use Rattle.std.proofs.lemmas.Bool.Decides.{nat_tests}
use Rattle.node_words.specs.declared.geometry.Geometry.{Geometry}
use Rattle.node_words.specs.Addresses.{node_size, table_words}
use Rattle.slot_word.specs.declared.slots.Mark.{Mark}
use Rattle.slot_word.specs.declared.slots.Mark.TheVariants.{Live, Pending, Copied, Moved}
use Rattle.slot_word.specs.declared.slots.Slot.{Slot}
use Rattle.slot_word.specs.Slots.{slot_of}
use Rattle.verbs.specs.Programs.{Prog, Outcomes}
use Rattle.verbs.proofs.Progs.{Outcomes-bind}
use Rattle.pass_text.specs.Words.{head_in}
use Rattle.directory.specs.Text.{naming}
use Rattle.split_text.specs.declared.site.Site.{Site}
use Rattle.split_text.specs.declared.site.SplitJob.{SplitJob}
use Rattle.split_text.specs.declared.site.Ticket.{Ticket}
use Rattle.split_text.specs.declared.begun.BeginOutcome.{BeginOutcome}
use Rattle.split_text.specs.declared.begun.BeginOutcome.TheVariants as begin_ends
use Rattle.split_text.specs.declared.begun.BeginEnd.{BeginEnd}
use Rattle.split_text.specs.declared.moved.MoveOutcome.{MoveOutcome}
use Rattle.split_text.specs.declared.moved.MoveOutcome.TheVariants.{Done, Moved as MovedOn, Spent}
use Rattle.split_text.specs.declared.moved.MoveEnd.{MoveEnd}
use Rattle.split_text.specs.declared.resized.ResizeEnd.{ResizeEnd}
use Rattle.split_text.specs.Words.{cut, site_of, naming_of, slot_count, place_of, main_count, marked}
use Rattle.split_text.specs.Begin.{begins, write_buckets, write_child, take_at, take_from, first_node, next_node, lock_lost, begin}
use Rattle.split_text.specs.Move.{left_so, if_leaving, uncopy, drop_word, settle, flip, copy, stay, judge_mark, judge_slot, read_again, turn, judge}
use Rattle.split_text.specs.Text.{ripen, name_child, close, after_move, slots, resume_at, resume, after_begin, resize}
use Rattle.call_machine.specs.Spare.{SplitSpares}
use Rattle.call_machine.proofs.Ways.{either, words, any}

-- the first half ends so that one swap more may be lost, or as Spent or FullWords
abbrev Keeps : ℕ → BeginOutcome → Type 0
Keeps left (begin_ends.Begun child) = 1 ≤ left
Keeps left begin_ends.Changed = 1 ≤ left
Keeps left begin_ends.Locked = 1 ≤ left
Keeps left begin_ends.Spent = Unit {0}
Keeps left (begin_ends.FullWords next need) = Unit {0}

abbrev BeginKeeps : Prog BeginEnd → Type 0
BeginKeeps p = Outcomes (λ (e : BeginEnd). Keeps e.left e.outcome) p

begin_either : (v : Bool) (x y : Prog BeginEnd) → (v ≡ true → BeginKeeps x) → (v ≡ false → BeginKeeps y) → BeginKeeps (cond v x y)
begin_either v x y h k = either (λ (e : BeginEnd). Keeps e.left e.outcome) v x y h k

begins-keep : (j : SplitJob) (site : Site) (left n m : ℕ) → 1 ≤ left → BeginKeeps (begins j site left n m)
begins-keep j site left zero m le = λ found. le
begins-keep j site left (suc n) m le = λ found. begins-keep j site left n (m + 1) le

buckets-keep : (j : SplitJob) (site : Site) (left n m : ℕ) → 1 ≤ left → BeginKeeps (write_buckets j site left n m)
buckets-keep j site left zero m le = λ found. begins-keep j site left (main_count j.geometry) 0 le
buckets-keep j site left (suc n) m le = λ answer. buckets-keep j site left n (m + 1) le

child-keep : (j : SplitJob) (site : Site) (left : ℕ) → 1 ≤ left → BeginKeeps (write_child j site left)
child-keep j site left le = λ x y z. buckets-keep j site left (main_count j.geometry) 0 le

take-keep : (j : SplitJob) (left k n : ℕ) (full : ℕ → ℕ → Prog BeginEnd) → ((next left2 : ℕ) → 1 ≤ left2 → BeginKeeps (full next left2)) → BeginKeeps (take_at j left k n full)
take-keep j zero k n full h = λ found. tt
take-keep j (suc left) k n full h =
    begin_either (nat_le (n + table_words j.geometry) ((k + 1) * node_size j.geometry)) _ (full n (suc left))
    (λ v found. begin_either (found == n) (write_child j (site_of j n) (suc left)) (take_at j left k found full) (λ w. child-keep j (site_of j n) (suc left) (omega arith)) (λ w. take-keep j left k found full h))
    (λ v. h n (suc left) (omega arith))

from-keep : (j : SplitJob) (n k left : ℕ) (nexts : List ℕ) → BeginKeeps (take_from j n k nexts left)
from-keep j zero k left nexts = λ found. tt
from-keep j (suc n) k left nexts = λ read. take-keep j left k read _ (λ next left2 le. from-keep j n (next_node j.geometry k) left2 (slice_set nexts k next))

lock-keep : (left : ℕ) → BeginKeeps (lock_lost left)
lock-keep left = begin_either (nat_le left 1) _ _ (λ v. tt) (λ v. more left v)
  where
    more : (n : ℕ) → nat_le n 1 ≡ false → 1 ≤ n - 1
    more n v = grind (arith, nat_tests)

begin-keep : (j : SplitJob) (left : ℕ) → 1 ≤ left → BeginKeeps (begin j left)
begin-keep j left le = λ found. begin_either (found == 0) _ (lock_lost left)
    (λ v word. begin_either (((head_in word).depth == j.depth) && nat_lt j.depth j.geometry.max_depth) _ _ (λ w. from-keep j j.geometry.nodes (first_node j) left (replicate 8 0)) (λ w x. le))
    (λ v. lock-keep left)

-- a place is left so that one swap more may be lost, or as Spent
abbrev Leaves : ℕ → MoveOutcome → Type 0
Leaves left Done = 1 ≤ left
Leaves left MovedOn = 1 ≤ left
Leaves left Spent = Unit {0}

abbrev MoveKeeps : Prog MoveEnd → Type 0
MoveKeeps p = Outcomes (λ (e : MoveEnd). Leaves e.left e.outcome) p

move_either : (v : Bool) (x y : Prog MoveEnd) → MoveKeeps x → MoveKeeps y → MoveKeeps (cond v x y)
move_either v x y h k = either (λ (e : MoveEnd). Leaves e.left e.outcome) v x y (λ u. h) (λ u. k)

module _ (site : Site) (p left : ℕ) (some : 1 ≤ left) (lost : ℕ → ℕ → Prog MoveEnd) (loses : (found standing : ℕ) → MoveKeeps (lost found standing)) where
  leaving-keep : (slot : Slot) (leaving staying : Prog MoveEnd) → MoveKeeps leaving → MoveKeeps staying → MoveKeeps (if_leaving site slot leaving staying)
  leaving-keep slot leaving staying h k =
      move_either (nat_le slot.len 137) _ staying
      (words (λ (e : MoveEnd). Leaves e.left e.outcome) slot.at slot.len slot.at [] _ (λ ks hash. move_either (hash % 2 ^ (site.depth + 1) == site.suffix) leaving staying h k)) k

  uncopy-keep : (standing : ℕ) (go_on : Prog MoveEnd) → MoveKeeps go_on → MoveKeeps (uncopy site p left standing go_on)
  uncopy-keep standing go_on h = move_either (standing == 0) go_on _ h (λ found. h)

  drop-keep : (word : ℕ) → MoveKeeps (drop_word site p left word lost)
  drop-keep word = λ found. move_either (found == word) _ (lost found 0) some (loses found 0)

  flip-keep : (word : ℕ) (slot : Slot) → MoveKeeps (flip site p left word slot lost)
  flip-keep word slot = λ found. move_either (found == word) (settle site p left slot) (lost found (marked Copied slot)) (λ x. some) (loses found (marked Copied slot))

  copy-keep : (word standing : ℕ) (slot : Slot) (again : Prog MoveEnd) → MoveKeeps again → MoveKeeps (copy site p left word standing slot again lost)
  copy-keep word standing slot again h = λ found. move_either (found == standing) (flip site p left word slot lost) again (flip-keep word slot) h

  stay-keep : (word standing : ℕ) → MoveKeeps (stay site p left word standing)
  stay-keep word standing = uncopy-keep standing (left_so Done word 0 left) some

  mark-keep : (word standing : ℕ) (slot : Slot) (mark : Mark) (again : Prog MoveEnd) → MoveKeeps again → MoveKeeps (judge_mark site p left word standing slot mark again lost)
  mark-keep word standing slot Live again h = leaving-keep slot _ _ (copy-keep word standing slot again h) (stay-keep word standing)
  mark-keep word standing slot Pending again h = leaving-keep slot _ _ (uncopy-keep standing (drop_word site p left word lost) (drop-keep word)) (stay-keep word standing)
  mark-keep word standing slot Copied again h = stay-keep word standing
  mark-keep word standing slot Moved again h = stay-keep word standing

  slot-keep : (word standing : ℕ) (o : Option Slot) (again : Prog MoveEnd) → MoveKeeps again → MoveKeeps (judge_slot site p left word standing o again lost)
  slot-keep word standing None again h = stay-keep word standing
  slot-keep word standing (Some slot) again h = mark-keep word standing slot slot.mark again h

  turn-keep : (word standing : ℕ) → MoveKeeps (turn site p left word standing lost)
  turn-keep word standing = slot-keep word standing (slot_of word) (read_again site p left lost) (λ w. slot-keep w 0 (slot_of w) (left_so Done w 0 left) some)

judge-keep : (site : Site) (p n word standing : ℕ) → MoveKeeps (judge site p n word standing)
judge-keep site p zero word standing = turn-keep site p 1 (omega arith) _ (λ found standing2. tt) word standing
judge-keep site p (suc n) word standing = turn-keep site p (suc (suc n)) (omega arith) _ (λ found standing2. judge-keep site p n found standing2) word standing

-- the whole split
abbrev Spare : Prog ResizeEnd → Type 0
Spare p = Outcomes SplitSpares p

ripen-spares : (g : Geometry) (c : ℕ) (site : Site) (left n m : ℕ) → 1 ≤ left → Spare (ripen g c site left n m)
ripen-spares g c site left zero m le = λ x y z. le
ripen-spares g c site left (suc n) m le = λ found. ripen-spares g c site left n (m + 1) le

name-spares : (g : Geometry) (c : ℕ) (site : Site) (left : ℕ) → 1 ≤ left → Spare (name_child g c site left)
name-spares g c site left le = Outcomes-bind (λ n. Unit {0}) SplitSpares (naming (naming_of g site)) _ (any (naming (naming_of g site))) (λ n x. ripen-spares g c site left (main_count g) 0 le)

close-spares : (g : Geometry) (c : ℕ) (site : Site) (left n m : ℕ) → 1 ≤ left → Spare (close g c site left n m)
close-spares g c site left zero m le = name-spares g c site left le
close-spares g c site left (suc n) m le = λ found. close-spares g c site left n (m + 1) le

after-spares : (g : Geometry) (c : ℕ) (site : Site) (i : ℕ) (next : ℕ → Prog ResizeEnd) (e : MoveEnd) (o : MoveOutcome) → ((left : ℕ) → 1 ≤ left → Spare (next left)) → Leaves e.left o → Spare (after_move g c site i next e o)
after-spares g c site i next e Done h le = h e.left le
after-spares g c site i next e MovedOn h le = λ found. h e.left le
after-spares g c site i next e Spent h le = tt

slots-spare : (g : Geometry) (c : ℕ) (site : Site) (n i left : ℕ) → 1 ≤ left → Spare (slots g c site n i left)
slots-spare g c site zero i left le = λ found. close-spares g c site left (main_count g) 0 le
slots-spare g c site (suc n) i left le = λ word.
    Outcomes-bind (λ (e : MoveEnd). Leaves e.left e.outcome) SplitSpares (judge site (place_of i) (left - 1) word 0) _
    (judge-keep site (place_of i) (left - 1) word 0)
    (λ e h. after-spares g c site i (slots g c site n (i + 1)) e e.outcome (λ left2 le2. slots-spare g c site n (i + 1) left2 le2) h)

resumed-spares : (g : Geometry) (c : ℕ) (site : Site) (i word standing left : ℕ) → Spare (resume_at g c site i word standing left)
resumed-spares g c site i word standing left =
    Outcomes-bind (λ (e : MoveEnd). Leaves e.left e.outcome) SplitSpares (judge site (place_of i) (left - 1) word standing) _
    (judge-keep site (place_of i) (left - 1) word standing)
    (λ e h. after-spares g c site i (slots g c site (slot_count g - (i + 1)) (i + 1)) e e.outcome (λ left2 le2. slots-spare g c site (slot_count g - (i + 1)) (i + 1) left2 le2) h)

begun-spares : (j : SplitJob) (left : ℕ) (o : BeginOutcome) → Keeps left o → Spare (after_begin j left o)
begun-spares j left (begin_ends.Begun child) le = slots-spare j.geometry j.client (site_of j child) (slot_count j.geometry) 0 left le
begun-spares j left begin_ends.Changed le = le
begun-spares j left begin_ends.Locked le = le
begun-spares j left begin_ends.Spent le = tt
begun-spares j left (begin_ends.FullWords next need) le = tt

-- .. of a split that was begun, and of one that is gone on with
pub resize-spares : (j : SplitJob) (left : ℕ) (p : Prog ResizeEnd) → p ≡ resize j left → 1 ≤ left → Outcomes SplitSpares p
resize-spares j left p e le =
    subst (λ q. Outcomes SplitSpares q) (sym e)
    (Outcomes-bind (λ (b : BeginEnd). Keeps b.left b.outcome) SplitSpares (begin j left) _ (begin-keep j left le) (λ b h. begun-spares j b.left b.outcome h))

pub resume-spares : (t : Ticket) (left : ℕ) (p : Prog ResizeEnd) → p ≡ resume t left → Outcomes SplitSpares p
resume-spares t left p e = subst (λ q. Outcomes SplitSpares q) (sym e) (resumed-spares t.geometry t.client (cut t.site) t.slot t.word t.copy left)

pub ruleset spares_on = (resize-spares, resume-spares)
