-- The first half of a split, as a program: steps 1 to 5 of docs/PROTOCOL.md, "The split". `begin` is the whole, `header_read` what
-- follows the Lock, `take_from` the nodes that are still to be tried, `take_at` one node at a number read or found, `write_child`
-- the words of the child, `link` the Link with all Begins and the Open. A swap that is never lost on a legal log goes on whatever
-- it finds.
use Rattle.std.specs.Prelude.{ℕ, zero, suc, ◌+◌, ◌-◌, ◌*◌, ◌%◌, ◌==◌, ◌&&◌, nat_lt, nat_le, if◌then◌else◌, List, take, replicate, slice_set, None}
use Rattle.node_words.specs.declared.geometry.Geometry.{Geometry}
use Rattle.node_words.specs.Addresses.{node_size, node_at, table_words, birth_at, header_at, lock_at, child_at, bucket_header_at}
use Rattle.slot_word.specs.Births.{birth_word}
use Rattle.verb_log.specs.declared.entry.Verb.TheVariants.{Read, Write, Swap}
use Rattle.verbs.specs.Programs.{Prog, ret, ask, do_verb}
use Rattle.pass_text.specs.Words.{head_in}
use Rattle.split_text.specs.declared.site.Site.{Site}
use Rattle.split_text.specs.declared.site.SplitJob.{SplitJob}
use Rattle.split_text.specs.declared.begun.BeginOutcome.{BeginOutcome}
use Rattle.split_text.specs.declared.begun.BeginOutcome.TheVariants.{Begun, Changed, Locked, Spent, FullWords}
use Rattle.split_text.specs.declared.begun.BeginEnd.{BeginEnd}
use Rattle.split_text.specs.Words.{low_address, site_of, plain_of, splitting_of, filling_of, main_count}

-- a swap that is never lost
abbrev pub sure : {A : Type 0} → ℕ → ℕ → ℕ → Prog A → Prog A
sure at old new go_on = ask (do_verb None (Swap at old new)) (λ found. go_on)

-- a lock is given back
abbrev pub unlock : {A : Type 0} → ℕ → ℕ → Prog A → Prog A
unlock c table go_on = sure (lock_at table) (c + 1) 0 go_on

abbrev pub ended : BeginOutcome → ℕ → Prog BeginEnd
ended outcome left = ret (record { outcome = outcome; left = left })

-- it ends so, and gives the lock back before
abbrev pub unlocked : SplitJob → BeginOutcome → ℕ → Prog BeginEnd
unlocked j outcome left = unlock j.client (low_address j.table) (ended outcome left)

-- 5. Open: the table's header; whoever opens it
abbrev pub open_table : SplitJob → Site → ℕ → Prog BeginEnd
open_table j site left = ask (do_verb None (Swap (header_at site.table) (plain_of site.depth) (splitting_of site.depth))) (λ found. ended (Begun site.child) left)

-- Begin: n bucket headers from number m on, whoever begins them
abbrev pub begins : SplitJob → Site → ℕ → ℕ → ℕ → Prog BeginEnd
begins j site left zero m = open_table j site left
begins j site left (suc n) m =
    ask (do_verb None (Swap (bucket_header_at site.table m) (plain_of site.depth) (splitting_of site.depth))) (λ found. begins j site left n (m + 1))

-- Link
abbrev pub link : SplitJob → Site → ℕ → Prog BeginEnd
link j site left = sure (child_at site.table site.depth) 0 site.child (begins j site left (main_count j.geometry) 0)

-- 4. n bucket headers of the child from number m on
abbrev pub write_buckets : SplitJob → Site → ℕ → ℕ → ℕ → Prog BeginEnd
write_buckets j site left zero m = link j site left
write_buckets j site left (suc n) m =
    ask (do_verb None (Write (bucket_header_at site.child m) (filling_of (site.depth + 1)))) (λ answer. write_buckets j site left n (m + 1))

-- the child's birth, header and lock before them
abbrev pub birth_of_child : Site → ℕ
birth_of_child site = birth_word (record { depth = site.depth + 1; suffix = site.suffix; parent = site.table })

abbrev pub write_lock : SplitJob → Site → ℕ → Prog BeginEnd
write_lock j site left = ask (do_verb None (Write (lock_at site.child) (j.client + 1))) (λ answer. write_buckets j site left (main_count j.geometry) 0)

abbrev pub write_header : SplitJob → Site → ℕ → Prog BeginEnd
write_header j site left = ask (do_verb None (Write (header_at site.child) (filling_of (site.depth + 1)))) (λ answer. write_lock j site left)

abbrev pub write_child : SplitJob → Site → ℕ → Prog BeginEnd
write_child j site left = ask (do_verb None (Write (birth_at site.child) (birth_of_child site))) (λ answer. write_header j site left)

-- 3. the node that is tried first, and the one behind a node, round
abbrev pub first_node : SplitJob → ℕ
first_node j = j.client % j.geometry.nodes

abbrev pub next_node : Geometry → ℕ → ℕ
next_node g k = if k + 1 == g.nodes then 0 else k + 1

-- one node by the number read or found, while `left` swaps may be lost: the words are taken where they are there, and a lost Take
-- gives the new number
abbrev pub take_at : SplitJob → ℕ → ℕ → ℕ → (ℕ → ℕ → Prog BeginEnd) → Prog BeginEnd
take_at j zero k n full = unlocked j Spent 0
take_at j (suc left) k n full =
    if nat_le (n + table_words j.geometry) ((k + 1) * node_size j.geometry)
    then ask (do_verb None (Swap (node_at j.geometry k) n (n + table_words j.geometry)))
    (λ found. if found == n then write_child j (site_of j n) (suc left) else take_at j left k found full)
    else full n (suc left)

-- n nodes are tried from node k on, round: its next word is read, and kept as the last number read of this node
abbrev pub take_from : SplitJob → ℕ → ℕ → List ℕ → ℕ → Prog BeginEnd
take_from j zero k nexts left = unlocked j (FullWords (take j.geometry.nodes nexts) (table_words j.geometry)) left
take_from j (suc n) k nexts left =
    ask (do_verb None (Read (node_at j.geometry k)))
    (λ read. take_at j left k read (λ next left2. take_from j n (next_node j.geometry k) (slice_set nexts k next) left2))

-- 2. the header was read under the lock
abbrev pub header_read : SplitJob → ℕ → ℕ → Prog BeginEnd
header_read j left word =
    if ((head_in word).depth == j.depth) && nat_lt j.depth j.geometry.max_depth then take_from j j.geometry.nodes (first_node j) (replicate 8 0) left
    else unlocked j Changed left

-- the lock was not free
abbrev pub lock_lost : ℕ → Prog BeginEnd
lock_lost left = if nat_le left 1 then ended Spent 0 else ended Locked (left - 1)

-- 1. Lock
abbrev pub begin : SplitJob → ℕ → Prog BeginEnd
begin j left =
    ask (do_verb None (Swap (lock_at (low_address j.table)) 0 (j.client + 1)))
    (λ found. if found == 0 then ask (do_verb None (Read (header_at (low_address j.table)))) (λ word. header_read j left word) else lock_lost left)
