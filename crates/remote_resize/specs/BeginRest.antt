-- What is left of the first half of a split.
use Rattle.std.specs.Prelude.{ℕ, suc, ◌+◌, ◌-◌, ◌==◌, if◌then◌else◌, take, slice_set, None}
use Rattle.node_words.specs.Addresses.{node_at, table_words, header_at}
use Rattle.verb_log.specs.declared.entry.Verb.TheVariants.{Read, Swap}
use Rattle.verbs.specs.Programs.{Prog, ask, do_verb}
use Rattle.split_text.specs.declared.site.SplitJob.{SplitJob}
use Rattle.split_text.specs.declared.begun.BeginOutcome.TheVariants.{Begun, Changed, Locked, Spent, FullWords}
use Rattle.split_text.specs.declared.begun.BeginEnd.{BeginEnd}
use Rattle.split_text.specs.Words.{low_address, site_of}
use Rattle.split_text.specs.Begin.{ended, unlocked, open_table, begins, link, write_buckets, write_lock, write_header, write_child, next_node, take_at, take_from, header_read, begin}
use Rattle.remote_resize.specs.declared.starter.Starter.{Starter}
use Rattle.remote_resize.specs.declared.begin_op.BeginOp.{BeginOp}
use Rattle.remote_resize.specs.declared.begin_at.BeginAt.{BeginAt}
use Rattle.remote_resize.specs.declared.begin_at.BeginAt.TheVariants as at

-- the node is full: the next one is tried
abbrev pub goes_on : SplitJob → Starter → ℕ → ℕ → Prog BeginEnd
goes_on j s next left = take_from j s.more (next_node j.geometry s.node) (slice_set s.nexts s.node next) left

-- a Take was lost
abbrev pub take_lost : SplitJob → Starter → ℕ → Prog BeginEnd
take_lost j s found = take_at j (s.left - 1) s.node found (goes_on j s)

abbrev pub begin_rest_at : SplitJob → Starter → BeginAt → Prog BeginEnd
begin_rest_at j s at.Lock = begin j s.left
begin_rest_at j s at.Header = ask (do_verb None (Read (header_at (low_address j.table)))) (λ word. header_read j s.left word)
begin_rest_at j s at.Read = take_from j (suc s.more) s.node s.nexts s.left
begin_rest_at j s at.Take =
    ask (do_verb None (Swap (node_at j.geometry s.node) s.next (s.next + table_words j.geometry)))
    (λ found. if found == s.next then write_child j (site_of j s.next) s.left else take_lost j s found)
begin_rest_at j s at.UnlockChanged = unlocked j Changed s.left
begin_rest_at j s at.UnlockFull = unlocked j (FullWords (take j.geometry.nodes s.nexts) (table_words j.geometry)) s.left
begin_rest_at j s at.UnlockSpent = unlocked j Spent 0
begin_rest_at j s at.Birth = write_child j (site_of j s.child) s.left
begin_rest_at j s at.ChildHeader = write_header j (site_of j s.child) s.left
begin_rest_at j s at.ChildLock = write_lock j (site_of j s.child) s.left
begin_rest_at j s at.Bucket = write_buckets j (site_of j s.child) s.left (suc s.after) s.index
begin_rest_at j s at.Link = link j (site_of j s.child) s.left
begin_rest_at j s at.Begin = begins j (site_of j s.child) s.left (suc s.after) s.index
begin_rest_at j s at.Open = open_table j (site_of j s.child) s.left
begin_rest_at j s at.Begun = ended (Begun s.child) s.left
begin_rest_at j s at.Changed = ended Changed s.left
begin_rest_at j s at.Locked = ended Locked s.left
begin_rest_at j s at.Spent = ended Spent 0
begin_rest_at j s at.FullWords = ended (FullWords (take j.geometry.nodes s.nexts) (table_words j.geometry)) s.left

abbrev pub begin_rest : BeginOp → Prog BeginEnd
begin_rest op = begin_rest_at op.job op.starter op.at

-- how many swaps may still be lost, and how many were
abbrev pub left_at : Starter → BeginAt → ℕ
left_at s at.Spent = 0
left_at s _ = s.left

abbrev pub lost_of : BeginOp → ℕ
lost_of op = op.tries - left_at op.starter op.at
