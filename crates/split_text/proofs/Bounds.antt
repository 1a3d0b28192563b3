-- The parts of a split end within so many acts, whatever is answered.
use Rattle.std.proofs.Common.{◌≡◌, ℕ, zero, suc, ◌+◌, ◌-◌, ◌*◌, ◌≤◌, Bool, true, false, cond, Option, Some, None, List, [], ◌∷◌, ◌++◌, refl, arith}
use Rattle.std.specs.Prelude.{◌==◌, ◌&&◌, nat_le, nat_lt, slice_set, replicate}
use Rattle.std.proofs.lemmas.Bool.Decides.{nat_tests}
use Rattle.node_words.specs.declared.geometry.Geometry.{Geometry}
use Rattle.node_words.specs.Addresses.{node_size, table_words}
use Rattle.slot_word.specs.declared.slots.Mark.{Mark}
use Rattle.slot_word.specs.declared.slots.Mark.TheVariants.{Live, Pending, Copied, Moved}
use Rattle.slot_word.specs.declared.slots.Slot.{Slot}
use Rattle.slot_word.specs.Slots.{slot_of}
use Rattle.verbs.specs.Programs.{Prog, ret, ask, bind, Within, Costs}
use Rattle.verbs.proofs.Progs.{Within-more, Costs-more, Within-bind}
use Rattle.pass_text.specs.Words.{head_in}
use Rattle.pass_text.specs.Pass.{read_words}
use Rattle.directory.specs.Text.{naming}
use Rattle.directory.specs.Bound.{naming_verbs}
use Rattle.directory.proofs.Bounds.{naming-within}
use Rattle.split_text.specs.declared.site.Site.{Site}
use Rattle.split_text.specs.declared.site.SplitJob.{SplitJob}
use Rattle.split_text.specs.declared.site.Ticket.{Ticket}
use Rattle.split_text.specs.declared.begun.BeginEnd.{BeginEnd}
use Rattle.split_text.specs.declared.moved.MoveOutcome.{MoveOutcome}
use Rattle.split_text.specs.declared.moved.MoveOutcome.TheVariants.{Done, Moved as MovedOn, Spent}
use Rattle.split_text.specs.declared.moved.MoveEnd.{MoveEnd}
use Rattle.split_text.specs.declared.resized.ResizeEnd.{ResizeEnd}
use Rattle.split_text.specs.Words.{cut, naming_of, slot_count, place_of, main_count, site_of, marked}
use Rattle.split_text.specs.Begin.{begins, write_buckets, write_child, take_at, take_from, first_node, next_node, header_read, lock_lost, begin, link}
use Rattle.split_text.specs.Move.{left_so, if_leaving, uncopy, drop_word, settle, flip, copy, stay, judge_mark, judge_slot, judge_word, read_again, turn, judge, move}
use Rattle.split_text.specs.Text.{ripen, close, finish, after_move, slots, resume_at, resume, name_child}
use Rattle.split_text.specs.Bound.{begin_acts, judge_acts, resize_acts}

-- one of two programs
either : {A : Type 0} (n : ℕ) (v : Bool) (p q : Prog A) → Within n p → Within n q → Within n (cond v p q)
either n true p q h k = h
either n false p q h k = k

-- The first half.
begins-within : (j : SplitJob) (site : Site) (left n m total : ℕ) → n + 1 ≤ total → Within total (begins j site left n m)
begins-within j site left zero m zero le = absurd (omega arith)
begins-within j site left zero m (suc total) le = λ found. tt
begins-within j site left (suc n) m zero le = absurd (omega arith)
begins-within j site left (suc n) m (suc total) le = λ found. begins-within j site left n (m + 1) total (omega arith)

link-within : (j : SplitJob) (site : Site) (left total : ℕ) → main_count j.geometry + 2 ≤ total → Within total (link j site left)
link-within j site left zero le = absurd (omega arith)
link-within j site left (suc total) le = λ found. begins-within j site left (main_count j.geometry) 0 total (omega arith)

buckets-within : (j : SplitJob) (site : Site) (left n m total : ℕ) → n + main_count j.geometry + 2 ≤ total → Within total (write_buckets j site left n m)
buckets-within j site left zero m total le = link-within j site left total (omega arith)
buckets-within j site left (suc n) m zero le = absurd (omega arith)
buckets-within j site left (suc n) m (suc total) le = λ answer. buckets-within j site left n (m + 1) total (omega arith)

child-within : (j : SplitJob) (site : Site) (left total : ℕ) → 2 * main_count j.geometry + 5 ≤ total → Within total (write_child j site left)
child-within j site left zero le = absurd (omega arith)
child-within j site left (suc zero) le = absurd (omega arith)
child-within j site left (suc (suc zero)) le = absurd (omega arith)
child-within j site left (suc (suc (suc total))) le = λ x y z. buckets-within j site left (main_count j.geometry) 0 total (omega arith)

-- what is done after the words are taken
abbrev linked : SplitJob → ℕ
linked j = 2 * main_count j.geometry + 6

take-within : (j : SplitJob) (left k n most total : ℕ) (full : ℕ → ℕ → Prog BeginEnd) → ((next left2 room : ℕ) → most + left2 ≤ room → Within room (full next left2)) → linked j ≤ most → most + left ≤ total → Within total (take_at j left k n full)
take-within j zero k n most zero full h few le = absurd (omega arith)
take-within j zero k n most (suc total) full h few le = λ found. tt
take-within j (suc left) k n most zero full h few le = absurd (omega arith)
take-within j (suc left) k n most (suc total) full h few le =
    either (suc total) (nat_le (n + table_words j.geometry) ((k + 1) * node_size j.geometry)) _ (full n (suc left))
    (λ found. either total (found == n) (write_child j (site_of j n) (suc left)) (take_at j left k found full)
    (child-within j (site_of j n) (suc left) total (omega arith))
    (take-within j left k found most total full h few (omega arith)))
    (h n (suc left) (suc total) (omega arith))

from-within : (j : SplitJob) (n k left total : ℕ) (nexts : List ℕ) → n + linked j + left ≤ total → Within total (take_from j n k nexts left)
from-within j zero k left zero nexts le = absurd (omega arith)
from-within j zero k left (suc total) nexts le = λ found. tt
from-within j (suc n) k left zero nexts le = absurd (omega arith)
from-within j (suc n) k left (suc total) nexts le = λ read.
    take-within j left k read (n + linked j) total _ (λ next left2 room le2. from-within j n (next_node j.geometry k) left2 room (slice_set nexts k next) (omega arith)) (omega arith) (omega arith)

-- the first half of a split ends within so many acts, whatever is answered
pub begin-within : (j : SplitJob) (left : ℕ) → j.geometry.nodes ≤ 8 → Within (begin_acts j.geometry left) (begin j left)
begin-within j left few = by (begin_acts j.geometry left) (omega arith)
  where
    lost : (total : ℕ) → Within total (lock_lost left)
    lost total = either total (nat_le left 1) _ _ tt tt

    read : (total word : ℕ) → j.geometry.nodes + linked j + left ≤ total → Within total (header_read j left word)
    read zero word le = absurd (omega arith)
    read (suc total) word le =
        either (suc total) (((head_in word).depth == j.depth) && nat_lt j.depth j.geometry.max_depth) _ _
        (from-within j j.geometry.nodes (first_node j) left (suc total) (replicate 8 0) (omega arith)) (λ found. tt)

    by : (total : ℕ) → j.geometry.nodes + linked j + left + 2 ≤ total → Within total (begin j left)
    by zero le = absurd (omega arith)
    by (suc zero) le = absurd (omega arith)
    by (suc (suc total)) le = λ found.
        either (suc total) (found == 0) _ (lock_lost left) (λ word. read total word (omega arith)) (lost (suc total))

-- Judging a word, counted with what its end costs later.
either_costs : {A : Type 0} (cost : A → ℕ) (n : ℕ) (v : Bool) (p q : Prog A) → (v ≡ true → Costs cost n p) → Costs cost n q → Costs cost n (cond v p q)
either_costs cost n true p q h k = h refl
either_costs cost n false p q h k = k

words-costs : {A : Type 0} (cost : A → ℕ) (block n most total at : ℕ) (ws : List ℕ) (go_on : List ℕ → Prog A) → n + most ≤ total → ((ks : List ℕ) → Costs cost most (go_on ks)) → Costs cost total (read_words block n at ws go_on)
words-costs cost block zero most total at ws go_on le h = Costs-more cost most total (go_on ws) (omega arith) (h ws)
words-costs cost block (suc n) most zero at ws go_on le h = absurd (omega arith)
words-costs cost block (suc n) most (suc total) at ws go_on le h = λ w. words-costs cost block n most total (at + 1) (ws ++ w ∷ []) go_on (omega arith) h

few_words : (n : ℕ) → nat_le n 137 ≡ true → n ≤ 137
few_words n e = grind (arith, nat_tests)

leaving-costs : (cost : MoveEnd → ℕ) (site : Site) (slot : Slot) (most total : ℕ) (leaving staying : Prog MoveEnd) → 138 + most ≤ total → Costs cost most leaving → Costs cost most staying → Costs cost total (if_leaving site slot leaving staying)
leaving-costs cost site slot most total leaving staying le h k =
    either_costs cost total (nat_le slot.len 137) _ staying
    (λ e. let few = few_words slot.len e in words-costs cost slot.at slot.len (suc most) total slot.at [] _ (omega (arith, few, le)) (λ ks hash. either_costs cost most _ leaving staying (λ f. h) k))
    (Costs-more cost most total staying (omega arith) k)

-- what follows costs no more than this: of a place that is left, and of a lost swap
module _ (cost : MoveEnd → ℕ) (site : Site) (p left most : ℕ) (lost : ℕ → ℕ → Prog MoveEnd) (loses : (found standing : ℕ) → Costs cost most (lost found standing)) (done : (word : ℕ) → cost (record { outcome = Done; word = word; standing = 0; left = left }) ≤ most) (moved : (word : ℕ) → cost (record { outcome = MovedOn; word = word; standing = 0; left = left }) ≤ most) where
  uncopy-costs : (total standing : ℕ) (go_on : Prog MoveEnd) → Costs cost total go_on → Costs cost (suc total) (uncopy site p left standing go_on)
  uncopy-costs total standing go_on h =
      either_costs cost (suc total) (standing == 0) go_on _ (λ e. Costs-more cost total (suc total) go_on (omega arith) h) (λ found. h)

  drop-costs : (word : ℕ) → Costs cost (suc most) (drop_word site p left word lost)
  drop-costs word = λ found. either_costs cost most (found == word) _ (lost found 0) (λ e. done word) (loses found 0)

  flip-costs : (word : ℕ) (slot : Slot) → Costs cost (suc (suc most)) (flip site p left word slot lost)
  flip-costs word slot = λ found.
      either_costs cost (suc most) (found == word) (settle site p left slot) (lost found (marked Copied slot))
      (λ e x. moved (marked Moved slot)) (Costs-more cost most (suc most) (lost found (marked Copied slot)) (omega arith) (loses found (marked Copied slot)))

  copy-costs : (word standing total : ℕ) (slot : Slot) (again : Prog MoveEnd) → 2 + most ≤ total → Costs cost total again → Costs cost (suc total) (copy site p left word standing slot again lost)
  copy-costs word standing total slot again le h = λ found.
      either_costs cost total (found == standing) (flip site p left word slot lost) again
      (λ e. Costs-more cost (suc (suc most)) total (flip site p left word slot lost) (omega arith) (flip-costs word slot)) h

  stay-costs : (word standing : ℕ) → Costs cost (suc most) (stay site p left word standing)
  stay-costs word standing = uncopy-costs most standing (left_so Done word 0 left) (done word)

  mark-costs : (word standing total : ℕ) (slot : Slot) (mark : Mark) (again : Prog MoveEnd) → 2 + most ≤ total → Costs cost total again → Costs cost (139 + total) (judge_mark site p left word standing slot mark again lost)
  mark-costs word standing total slot Live again le h =
      leaving-costs cost site slot (suc total) (139 + total) _ _ (omega arith) (copy-costs word standing total slot again le h)
      (Costs-more cost (suc most) (suc total) (stay site p left word standing) (omega arith) (stay-costs word standing))
  mark-costs word standing total slot Pending again le h =
      leaving-costs cost site slot (suc total) (139 + total) _ _ (omega arith)
      (Costs-more cost (suc (suc most)) (suc total) (uncopy site p left standing (drop_word site p left word lost)) (omega arith) (uncopy-costs (suc most) standing (drop_word site p left word lost) (drop-costs word)))
      (Costs-more cost (suc most) (suc total) (stay site p left word standing) (omega arith) (stay-costs word standing))
  mark-costs word standing total slot Copied again le h = Costs-more cost (suc most) (139 + total) (stay site p left word standing) (omega arith) (stay-costs word standing)
  mark-costs word standing total slot Moved again le h = Costs-more cost (suc most) (139 + total) (stay site p left word standing) (omega arith) (stay-costs word standing)

  slot-costs : (word standing total : ℕ) (o : Option Slot) (again : Prog MoveEnd) → 2 + most ≤ total → Costs cost total again → Costs cost (139 + total) (judge_slot site p left word standing o again lost)
  slot-costs word standing total None again le h = Costs-more cost (suc most) (139 + total) (stay site p left word standing) (omega arith) (stay-costs word standing)
  slot-costs word standing total (Some slot) again le h = mark-costs word standing total slot slot.mark again le h

  again-costs : Costs cost (suc (141 + most)) (read_again site p left lost)
  again-costs = λ word.
      Costs-more cost (139 + (2 + most)) (141 + most) (judge_word site p left word 0 (left_so Done word 0 left) lost) (omega arith)
      (slot-costs word 0 (2 + most) (slot_of word) (left_so Done word 0 left) (omega arith) (let d = done word in omega (arith, d)))

  turn-costs : (word standing total : ℕ) → 281 + most ≤ total → Costs cost total (turn site p left word standing lost)
  turn-costs word standing total le =
      Costs-more cost (139 + suc (141 + most)) total (turn site p left word standing lost) (omega arith) (slot-costs word standing (suc (141 + most)) (slot_of word) (read_again site p left lost) (omega arith) again-costs)

-- a place that is left costs k later, and so much for each swap that may still be lost
abbrev cost_of : ℕ → ℕ → MoveOutcome → ℕ
cost_of k left Done = k + 285 * (left - 1)
cost_of k left MovedOn = k + 285 * (left - 1)
cost_of k left Spent = 0

abbrev place_cost : ℕ → MoveEnd → ℕ
place_cost k e = cost_of k e.left e.outcome

judge-costs : (k : ℕ) (site : Site) (p n word standing total : ℕ) → 285 + k + 285 * n ≤ total → Costs (place_cost k) total (judge site p n word standing)
judge-costs k site p zero word standing total le =
    turn-costs (place_cost k) site p 1 k _ (λ found standing2. omega arith) (λ w. omega arith) (λ w. omega arith) word standing total (omega arith)
judge-costs k site p (suc n) word standing total le =
    turn-costs (place_cost k) site p (suc (suc n)) (285 + k + 285 * n) _ (λ found standing2. judge-costs k site p n found standing2 (285 + k + 285 * n) (omega arith)) (λ w. omega arith) (λ w. omega arith) word standing total (omega arith)

-- counted with what follows it
costs-within : {A : Type 0} (cost : A → ℕ) (n : ℕ) (p : Prog A) → Costs cost n p → Within n p
costs-within cost n (ret a) h = tt
costs-within cost zero (ask act k) h = absurd h
costs-within cost (suc n) (ask act k) h = λ answer. costs-within cost n (k answer) (h answer)

costs-bind : {A B : Type 0} (cost : A → ℕ) (n : ℕ) (p : Prog A) (f : A → Prog B) → Costs cost n p → ((a : A) → Within (cost a) (f a)) → Within n (bind p f)
costs-bind cost n (ret a) f h g = Within-more (cost a) n (f a) h (g a)
costs-bind cost zero (ask act k) f h g = absurd h
costs-bind cost (suc n) (ask act k) f h g = λ answer. costs-bind cost n (k answer) f (h answer) g

-- a place is judged within so many acts, whatever is answered
pub judge-within : (site : Site) (p left word standing : ℕ) → Within (judge_acts left) (judge site p (left - 1) word standing)
judge-within site p left word standing =
    costs-within (place_cost 0) (judge_acts left) (judge site p (left - 1) word standing) (judge-costs 0 site p (left - 1) word standing (judge_acts left) (omega arith))

pub move-within : (site : Site) (p standing left : ℕ) → Within (suc (judge_acts left)) (move site p standing left)
move-within site p standing left = λ word. judge-within site p left word standing

-- The whole split.
-- after the naming: Ripen and the two locks; before it: Close and Finish
ripen-within : (g : Geometry) (c : ℕ) (site : Site) (left n m total : ℕ) → n + 3 ≤ total → Within total (ripen g c site left n m)
ripen-within g c site left zero m zero le = absurd (omega arith)
ripen-within g c site left zero m (suc zero) le = absurd (omega arith)
ripen-within g c site left zero m (suc (suc zero)) le = absurd (omega arith)
ripen-within g c site left zero m (suc (suc (suc total))) le = λ x y z. tt
ripen-within g c site left (suc n) m zero le = absurd (omega arith)
ripen-within g c site left (suc n) m (suc total) le = λ found. ripen-within g c site left n (m + 1) total (omega arith)

-- from the naming on
abbrev named : Geometry → ℕ
named g = naming_verbs g.max_depth + (main_count g + 3)

name-within : (g : Geometry) (c : ℕ) (site : Site) (left : ℕ) → Within (named g) (name_child g c site left)
name-within g c site left =
    Within-bind (naming_verbs g.max_depth) (main_count g + 3) (naming (naming_of g site)) _ (naming-within (naming_of g site)) (λ n. ripen-within g c site left (main_count g) 0 (main_count g + 3) (omega arith))

close-within : (g : Geometry) (c : ℕ) (site : Site) (left n m total : ℕ) → n + named g ≤ total → Within total (close g c site left n m)
close-within g c site left zero m total le = Within-more (named g) total (name_child g c site left) (omega arith) (name-within g c site left)
close-within g c site left (suc n) m zero le = absurd (omega arith)
close-within g c site left (suc n) m (suc total) le = λ found. close-within g c site left n (m + 1) total (omega arith)

-- from Finish on
abbrev pub finished : Geometry → ℕ
finished g = suc (main_count g + named g)

finish-within : (g : Geometry) (c : ℕ) (site : Site) (left : ℕ) → Within (finished g) (finish g c site left)
finish-within g c site left = λ found. close-within g c site left (main_count g) 0 (main_count g + named g) (omega arith)

-- a place is left, and what follows costs k, and so much for each swap that may still be lost
after-within : (g : Geometry) (c : ℕ) (site : Site) (i k : ℕ) (next : ℕ → Prog ResizeEnd) (e : MoveEnd) (o : MoveOutcome) → ((left : ℕ) → Within (k + 285 * (left - 1)) (next left)) → Within (cost_of (suc k) e.left o) (after_move g c site i next e o)
after-within g c site i k next e Done h = Within-more (k + 285 * (e.left - 1)) (suc k + 285 * (e.left - 1)) (next e.left) (omega arith) (h e.left)
after-within g c site i k next e MovedOn h = Within-more (suc (k + 285 * (e.left - 1))) (suc k + 285 * (e.left - 1)) (after_move g c site i next e MovedOn) (omega arith) (λ found. h e.left)
after-within g c site i k next e Spent h = tt

-- a slot: its read, its place, and Clear
pub slots-within : (g : Geometry) (c : ℕ) (site : Site) (n i left : ℕ) → Within ((287 * n + finished g) + 285 * (left - 1)) (slots g c site n i left)
slots-within g c site zero i left = Within-more (finished g) ((287 * zero + finished g) + 285 * (left - 1)) (finish g c site left) (omega arith) (finish-within g c site left)
slots-within g c site (suc n) i left =
    Within-more (suc (285 + suc (287 * n + finished g) + 285 * (left - 1))) ((287 * suc n + finished g) + 285 * (left - 1)) (slots g c site (suc n) i left) (omega arith)
    (λ word. costs-bind (place_cost (suc (287 * n + finished g))) (285 + suc (287 * n + finished g) + 285 * (left - 1)) (judge site (place_of i) (left - 1) word 0) _
    (judge-costs (suc (287 * n + finished g)) site (place_of i) (left - 1) word 0 (285 + suc (287 * n + finished g) + 285 * (left - 1)) (omega arith))
    (λ e. after-within g c site i (287 * n + finished g) (slots g c site n (i + 1)) e e.outcome (slots-within g c site n (i + 1))))

-- a split ends within so many acts, whatever is answered
resumed-within : (g : Geometry) (c : ℕ) (site : Site) (i word standing left : ℕ) → Within (resize_acts g left) (resume_at g c site i word standing left)
resumed-within g c site i word standing left =
    let n : ℕ = slot_count g - (i + 1) in
    Within-more (285 + suc (287 * (slot_count g - (i + 1)) + finished g) + 285 * (left - 1)) (resize_acts g left) (resume_at g c site i word standing left) (few (slot_count g - (i + 1)) (omega arith))
    (costs-bind (place_cost (suc (287 * (slot_count g - (i + 1)) + finished g))) (285 + suc (287 * (slot_count g - (i + 1)) + finished g) + 285 * (left - 1)) (judge site (place_of i) (left - 1) word standing) _
    (judge-costs (suc (287 * (slot_count g - (i + 1)) + finished g)) site (place_of i) (left - 1) word standing (285 + suc (287 * (slot_count g - (i + 1)) + finished g) + 285 * (left - 1)) (omega arith))
    (λ e. after-within g c site i (287 * (slot_count g - (i + 1)) + finished g) (slots g c site (slot_count g - (i + 1)) (i + 1)) e e.outcome (slots-within g c site (slot_count g - (i + 1)) (i + 1))))
  where
    few : (n : ℕ) → n ≤ slot_count g → 285 + suc (287 * n + finished g) + 285 * (left - 1) ≤ resize_acts g left
    few n le = omega arith

pub resume-within : (t : Ticket) (left : ℕ) → Within (resize_acts t.geometry left) (resume t left)
resume-within t left = resumed-within t.geometry t.client (cut t.site) t.slot t.word t.copy left
