-- The swaps that a split loses.
use Rattle.std.specs.Prelude.{◌≡◌, ℕ, zero, suc, ◌+◌, ◌-◌, ◌*◌, ◌%◌, ◌^◌, ◌≤◌, ◌==◌, ◌&&◌, Bool, true, false, cond, nat_le, nat_lt, List, [], take, replicate, slice_set, Option, Some, None, refl}
use Rattle.std.proofs.Common.{arith}
use Rattle.std.proofs.lemmas.Bool.Decides.{nat_tests}
use Rattle.slot_word.specs.declared.slots.Mark.{Mark}
use Rattle.slot_word.specs.declared.slots.Mark.TheVariants.{Live, Pending, Copied, Moved}
use Rattle.slot_word.specs.declared.slots.Slot.{Slot}
use Rattle.slot_word.specs.Slots.{slot_of}
use Rattle.node_words.specs.declared.geometry.Geometry.{Geometry}
use Rattle.node_words.specs.Addresses.{node_at, node_size, table_words, header_at, lock_at, child_at, slot_at, bucket_header_at}
use Rattle.verb_log.specs.declared.entry.Verb.TheVariants.{Read, Swap}
use Rattle.verbs.specs.Programs.{Prog, bind}
use Rattle.pass_text.specs.Words.{head_in}
use Rattle.directory.specs.Text.{naming}
use Rattle.split_text.specs.declared.site.Site.{Site}
use Rattle.split_text.specs.declared.site.SplitJob.{SplitJob}
use Rattle.split_text.specs.declared.site.Ticket.{Ticket}
use Rattle.split_text.specs.declared.begun.BeginEnd.{BeginEnd}
use Rattle.split_text.specs.declared.begun.BeginOutcome.{BeginOutcome}
use Rattle.split_text.specs.declared.begun.BeginOutcome.TheVariants as begun
use Rattle.split_text.specs.declared.moved.MoveEnd.{MoveEnd}
use Rattle.split_text.specs.declared.moved.MoveOutcome.{MoveOutcome}
use Rattle.split_text.specs.declared.moved.MoveOutcome.TheVariants as moved
use Rattle.split_text.specs.declared.resized.ResizeEnd.{ResizeEnd}
use Rattle.split_text.specs.declared.resized.ResizeOutcome.{ResizeOutcome}
use Rattle.split_text.specs.declared.resized.ResizeOutcome.TheVariants as split
use Rattle.split_text.specs.Words.{cut, low_address, site_of, naming_of, plain_of, splitting_of, filling_of, slot_count, place_of, main_count, marked}
use Rattle.split_text.specs.Begin.{sure, unlock, ended, unlocked, open_table, begins, link, write_buckets, write_child, first_node, next_node, take_at, take_from, header_read, lock_lost, begin}
use Rattle.split_text.specs.Move.{left_so, uncopy, drop_word, settle, flip, copy, stay, if_leaving, judge_mark, judge_slot, judge_word, read_again, turn, judge, move}
use Rattle.split_text.specs.Text.{resized, unlocks, ripen, name_child, close, finish, after_move, slots, resume_at, resume, after_begin, resize}
use Rattle.loss_laws.specs.Loses.{Loses}
use Rattle.loss_laws.proofs.Rules.{Grows, after_verb, counted, pick, words, in_turn, after_any}

-- the first half: how many swaps may still be lost after it
abbrev pub spare_begun : BeginOutcome → ℕ → ℕ
spare_begun (begun.Begun child) left = left
spare_begun begun.Changed left = left
spare_begun begun.Locked left = left
spare_begun begun.Spent left = 0
spare_begun (begun.FullWords next need) left = left

abbrev pub BeginLost : ℕ → ℕ → BeginEnd → Type 0
BeginLost least n e = least ≤ n + spare_begun e.outcome e.left

-- a place
abbrev pub spare_moved : MoveOutcome → ℕ → ℕ
spare_moved moved.Done left = left
spare_moved moved.Moved left = left
spare_moved moved.Spent left = 0

abbrev pub MoveLost : ℕ → ℕ → MoveEnd → Type 0
MoveLost least n e = least ≤ n + spare_moved e.outcome e.left

-- the whole split
abbrev pub spare_split : ResizeOutcome → ℕ → ℕ
spare_split (split.Split table depth) left = left
spare_split split.Changed left = left
spare_split split.Locked left = left
spare_split (split.Again ticket) left = 0
spare_split (split.FullWords next need) left = left

abbrev pub SplitLost : ℕ → ℕ → ResizeEnd → Type 0
SplitLost least n r = least ≤ n + spare_split r.outcome r.left

module _ (least : ℕ) where
  abbrev B : ℕ → BeginEnd → Type 0
  B n e = BeginLost least n e

  abbrev M : ℕ → MoveEnd → Type 0
  M n e = MoveLost least n e

  abbrev S : ℕ → ResizeEnd → Type 0
  S n r = SplitLost least n r

  begins-grow : Grows B
  begins-grow n m e h x = omega arith

  moves-grow : Grows M
  moves-grow n m e h x = omega arith

  splits-grow : Grows S
  splits-grow n m e h x = omega arith

  -- what is never lost is not counted
  sure-loses : {A : Type 0} (E : ℕ → A → Type 0) → Grows E → (n at old new : ℕ) (go : Prog A) → Loses E n go → Loses E n (sure at old new go)
  sure-loses E g n at old new go h = after_verb E g n None (Swap at old new) (λ found. go) (λ found. h)

  module _ (j : SplitJob) where
    unlocked-loses : (o : BeginOutcome) (left n : ℕ) → least ≤ n + spare_begun o left → Loses B n (unlocked j o left)
    unlocked-loses o left n h = sure-loses B begins-grow n (lock_at (low_address j.table)) (j.client + 1) 0 (ended o left) h

    begins-loses : (site : Site) (left m b n : ℕ) → least ≤ n + left → Loses B n (begins j site left m b)
    begins-loses site left zero b n h = after_verb B begins-grow n None (Swap (header_at site.table) (plain_of site.depth) (splitting_of site.depth)) (λ found. ended (begun.Begun site.child) left) (λ found. h)
    begins-loses site left (suc m) b n h = after_verb B begins-grow n None (Swap (bucket_header_at site.table b) (plain_of site.depth) (splitting_of site.depth)) (λ found. begins j site left m (b + 1)) (λ found. begins-loses site left m (b + 1) n h)

    link-loses : (site : Site) (left n : ℕ) → least ≤ n + left → Loses B n (link j site left)
    link-loses site left n h = sure-loses B begins-grow n (child_at site.table site.depth) 0 site.child (begins j site left (main_count j.geometry) 0) (begins-loses site left (main_count j.geometry) 0 n h)

    buckets-loses : (site : Site) (left m b n : ℕ) → least ≤ n + left → Loses B n (write_buckets j site left m b)
    buckets-loses site left zero b n h = link-loses site left n h
    buckets-loses site left (suc m) b n h = λ answer. buckets-loses site left m (b + 1) n h

    child-loses : (site : Site) (left n : ℕ) → least ≤ n + left → Loses B n (write_child j site left)
    child-loses site left n h = λ a b c. buckets-loses site left (main_count j.geometry) 0 n h

    at-loses : (left k number : ℕ) (full : ℕ → ℕ → Prog BeginEnd) (n : ℕ) → least ≤ n + left → ((next left2 m : ℕ) → least ≤ m + left2 → Loses B m (full next left2)) → Loses B n (take_at j left k number full)
    at-loses zero k number full n h goes = unlocked-loses begun.Spent 0 n h
    at-loses (suc left) k number full n h goes =
        pick B n (nat_le (number + table_words j.geometry) ((k + 1) * node_size j.geometry)) _ (full number (suc left))
        (λ v. counted B n (node_at j.geometry k) number (number + table_words j.geometry) _ (λ found. take_at j left k found full) (child-loses (site_of j number) (suc left) n h) (λ found. at-loses left k found full (suc n) (omega arith) goes))
        (λ v. goes number (suc left) n h)

    from-loses : (m k : ℕ) (nexts : List ℕ) (left n : ℕ) → least ≤ n + left → Loses B n (take_from j m k nexts left)
    from-loses zero k nexts left n h = unlocked-loses (begun.FullWords (take j.geometry.nodes nexts) (table_words j.geometry)) left n h
    from-loses (suc m) k nexts left n h = λ found. at-loses left k found _ n h (λ next left2 n2 h2. from-loses m (next_node j.geometry k) (slice_set nexts k next) left2 n2 h2)

    header-loses : (left word n : ℕ) → least ≤ n + left → Loses B n (header_read j left word)
    header-loses left word n h = pick B n (((head_in word).depth == j.depth) && nat_lt j.depth j.geometry.max_depth) _ _ (λ v. from-loses j.geometry.nodes (first_node j) (replicate 8 0) left n h) (λ v. unlocked-loses begun.Changed left n h)

    lock-loses : (left n : ℕ) → least ≤ n + left → Loses B (suc n) (lock_lost left)
    lock-loses left n h = pick B (suc n) (nat_le left 1) _ _ (λ v. last_one n left h v) (λ v. omega arith)
      where
        last_one : (n left : ℕ) → least ≤ n + left → nat_le left 1 ≡ true → least ≤ suc n + 0
        last_one n left h v = grind (arith, nat_tests)

    begin-loses : (left n : ℕ) → least ≤ n + left → Loses B n (begin j left)
    begin-loses left n h = counted B n (lock_at (low_address j.table)) 0 (j.client + 1) _ (λ found. lock_lost left) (λ word. header-loses left word n h) (λ found. lock-loses left n h)

  module _ (site : Site) (p left n : ℕ) (h : least ≤ n + left) where
    uncopy-loses : (standing : ℕ) (go : Prog MoveEnd) → Loses M n go → Loses M n (uncopy site p left standing go)
    uncopy-loses standing go g = pick M n (standing == 0) go _ (λ v. g) (λ v. sure-loses M moves-grow n (slot_at site.child p) standing 0 go g)

    stay-loses : (word standing : ℕ) → Loses M n (stay site p left word standing)
    stay-loses word standing = uncopy-loses standing (left_so moved.Done word 0 left) h

    leaving-loses : (slot : Slot) (leaving staying : Prog MoveEnd) → Loses M n leaving → Loses M n staying → Loses M n (if_leaving site slot leaving staying)
    leaving-loses slot leaving staying a b =
        pick M n (nat_le slot.len 137) _ staying
        (λ v. words M n slot.at slot.len slot.at [] _ (λ ws hash. pick M n (hash % 2 ^ (site.depth + 1) == site.suffix) leaving staying (λ w. a) (λ w. b)))
        (λ v. b)

    module _ (lost : ℕ → ℕ → Prog MoveEnd) (loses : (found standing : ℕ) → Loses M (suc n) (lost found standing)) where
      drop-loses : (word : ℕ) → Loses M n (drop_word site p left word lost)
      drop-loses word = counted M n (slot_at site.table p) word 0 (left_so moved.Done word 0 left) (λ found. lost found 0) h (λ found. loses found 0)

      flip-loses : (word : ℕ) (slot : Slot) → Loses M n (flip site p left word slot lost)
      flip-loses word slot = counted M n (slot_at site.table p) word (marked Moved slot) (settle site p left slot) (λ found. lost found (marked Copied slot))
          (after_verb M moves-grow n None (Swap (slot_at site.child p) (marked Copied slot) (marked Live slot)) (λ found. left_so moved.Moved (marked Moved slot) 0 left) (λ found. h)) (λ found. loses found (marked Copied slot))

      mark-loses : (word standing : ℕ) (slot : Slot) (mark : Mark) (again : Prog MoveEnd) → Loses M n again → Loses M n (judge_mark site p left word standing slot mark again lost)
      mark-loses word standing slot Live again a = leaving-loses slot _ _ (after_verb M moves-grow n None (Swap (slot_at site.child p) standing (marked Copied slot)) _ (λ found. pick M n (found == standing) _ again (λ v. flip-loses word slot) (λ v. a))) (stay-loses word standing)
      mark-loses word standing slot Pending again a = leaving-loses slot _ _ (uncopy-loses standing (drop_word site p left word lost) (drop-loses word)) (stay-loses word standing)
      mark-loses word standing slot Copied again a = stay-loses word standing
      mark-loses word standing slot Moved again a = stay-loses word standing

      slot-loses : (word standing : ℕ) (o : Option Slot) (again : Prog MoveEnd) → Loses M n again → Loses M n (judge_slot site p left word standing o again lost)
      slot-loses word standing None again a = stay-loses word standing
      slot-loses word standing (Some slot) again a = mark-loses word standing slot slot.mark again a

      again-loses : Loses M n (read_again site p left lost)
      again-loses = λ word. slot-loses word 0 (slot_of word) _ h

      turn-loses : (word standing : ℕ) → Loses M n (turn site p left word standing lost)
      turn-loses word standing = slot-loses word standing (slot_of word) _ again-loses

  judge-loses : (site : Site) (p m word standing n : ℕ) → least ≤ n + suc m → Loses M n (judge site p m word standing)
  judge-loses site p zero word standing n h = turn-loses site p 1 n h _ (λ found standing2. omega arith) word standing
  judge-loses site p (suc m) word standing n h = turn-loses site p (suc (suc m)) n h _ (λ found standing2. judge-loses site p m found standing2 (suc n) (omega arith)) word standing

  -- one that may lose none counts as one
  judge-loses_left : (site : Site) (p left word standing n : ℕ) → least ≤ n + left → Loses M n (judge site p (left - 1) word standing)
  judge-loses_left site p left word standing n h = judge-loses site p (left - 1) word standing n (omega arith)

  module _ (g : Geometry) (c : ℕ) (site : Site) where
    unlocks-loses : (left n : ℕ) → least ≤ n + left → Loses S n (unlocks g c site left)
    unlocks-loses left n h = sure-loses S splits-grow n (lock_at site.table) (c + 1) 0 (unlock c site.child (resized (split.Split site.table (site.depth + 1)) left)) (sure-loses S splits-grow n (lock_at site.child) (c + 1) 0 (resized (split.Split site.table (site.depth + 1)) left) h)

    ripen-loses : (left m b n : ℕ) → least ≤ n + left → Loses S n (ripen g c site left m b)
    ripen-loses left zero b n h = sure-loses S splits-grow n (header_at site.child) (filling_of (site.depth + 1)) (plain_of (site.depth + 1)) (unlocks g c site left) (unlocks-loses left n h)
    ripen-loses left (suc m) b n h = sure-loses S splits-grow n (bucket_header_at site.child b) (filling_of (site.depth + 1)) (plain_of (site.depth + 1)) (ripen g c site left m (b + 1)) (ripen-loses left m (b + 1) n h)

    close-loses : (left m b n : ℕ) → least ≤ n + left → Loses S n (close g c site left m b)
    close-loses left zero b n h = after_any S splits-grow n (naming (naming_of g site)) _ (λ named. ripen-loses left (main_count g) 0 n h)
    close-loses left (suc m) b n h = sure-loses S splits-grow n (bucket_header_at site.table b) (splitting_of site.depth) (plain_of (site.depth + 1)) (close g c site left m (b + 1)) (close-loses left m (b + 1) n h)

    finish-loses : (left n : ℕ) → least ≤ n + left → Loses S n (finish g c site left)
    finish-loses left n h = sure-loses S splits-grow n (header_at site.table) (splitting_of site.depth) (plain_of (site.depth + 1)) (close g c site left (main_count g) 0) (close-loses left (main_count g) 0 n h)

    moved-loses : (i : ℕ) (next : ℕ → Prog ResizeEnd) (n : ℕ) → ((left : ℕ) → least ≤ n + left → Loses S n (next left)) → (e : MoveEnd) (o : MoveOutcome) → least ≤ n + spare_moved o e.left → Loses S n (after_move g c site i next e o)
    moved-loses i next n goes e moved.Done h = goes e.left h
    moved-loses i next n goes e moved.Moved h = sure-loses S splits-grow n (slot_at site.table (place_of i)) e.word 0 (next e.left) (goes e.left h)
    moved-loses i next n goes e moved.Spent h = h

    slots-loses : (m i left n : ℕ) → least ≤ n + left → Loses S n (slots g c site m i left)
    slots-loses zero i left n h = finish-loses left n h
    slots-loses (suc m) i left n h =
        in_turn M S n (move site (place_of i) 0 left) _ (λ word. judge-loses_left site (place_of i) left word 0 n h)
        (λ k e x. moved-loses i (slots g c site m (i + 1)) k (λ left2 h2. slots-loses m (i + 1) left2 k h2) e e.outcome x)

  begun-loses : (j : SplitJob) (left n : ℕ) (o : BeginOutcome) → least ≤ n + spare_begun o left → Loses S n (after_begin j left o)
  begun-loses j left n (begun.Begun child) h = slots-loses j.geometry j.client (site_of j child) (slot_count j.geometry) 0 left n h
  begun-loses j left n begun.Changed h = h
  begun-loses j left n begun.Locked h = h
  begun-loses j left n begun.Spent h = h
  begun-loses j left n (begun.FullWords next need) h = h

  pub split-loses : (j : SplitJob) (left n : ℕ) → least ≤ n + left → Loses S n (resize j left)
  split-loses j left n h = in_turn B S n (begin j left) _ (begin-loses j left n h) (λ m e x. begun-loses j e.left m e.outcome x)

  at_loses : (g : Geometry) (c : ℕ) (site : Site) (i word standing left n : ℕ) → least ≤ n + left → Loses S n (resume_at g c site i word standing left)
  at_loses g c site i word standing left n h =
      in_turn M S n (judge site (place_of i) (left - 1) word standing) _ (judge-loses_left site (place_of i) left word standing n h)
      (λ k e x. moved-loses g c site i (slots g c site (slot_count g - (i + 1)) (i + 1)) k (λ left2 h2. slots-loses g c site (slot_count g - (i + 1)) (i + 1) left2 k h2) e e.outcome x)

  pub resume-loses : (t : Ticket) (left n : ℕ) → least ≤ n + left → Loses S n (resume t left)
  resume-loses t left n h = at_loses t.geometry t.client (cut t.site) t.slot t.word t.copy left n h
