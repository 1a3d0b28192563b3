-- What is proved of the first half of a split.
use Rattle.std.specs.Prelude.{◌≡◌, ◌≢◌, ℕ, ◌+◌, ◌*◌, ◌^◌, ◌<◌, ◌≤◌, List, length, reverse, slice_index, ◌⊎◌}
use Rattle.node_words.specs.Addresses.{node_size, node_at, table_words}
use Rattle.verb_log.specs.declared.entry.Entry.{Entry}
use Rattle.verb_log.specs.Tables.{Past, Before, word_at}
use Rattle.verbs.specs.Programs.{Prog}
use Rattle.verbs.specs.Safe.{Safe}
use Rattle.race_laws.specs.Setting.{Setting, hash}
use Rattle.race_laws.specs.Standing.{IsTable, header_in, birth_in, lock_in, depth}
use Rattle.race_laws.specs.Splits.{IsQuiet}
use Rattle.race_laws.specs.Legal.{IsLegal}
use Rattle.log_facts.specs.Among.{quiet_among}
use Rattle.split_text.specs.declared.site.SplitJob.{SplitJob}
use Rattle.split_text.specs.declared.begun.BeginOutcome.{BeginOutcome}
use Rattle.split_text.specs.declared.begun.BeginOutcome.TheVariants.{Begun, Changed, Locked, Spent, FullWords}
use Rattle.split_text.specs.declared.begun.BeginEnd.{BeginEnd}
use Rattle.split_text.specs.Words.{site_of}
use Rattle.split_text.specs.Begin.{begin}
use Rattle.begin_laws.specs.States.{Fresh, Untouched}

-- a split may begin: its sizes are the setting's, and the suffix, which has no more bits than the depth says, is the table's
pub record MaySplit (s : Setting) (q : Past) (j : SplitJob) : Type 0 where
  pub geometry : j.geometry ≡ s.geometry
  pub table : IsTable s.geometry q j.table
  pub suffix : (birth_in s.geometry q j.table).suffix ≡ j.suffix
  pub low : j.suffix < 2 ^ j.depth

-- the table had another depth, or the greatest, at a position from one on, at which its lock was won, so that no split of it was open
pub record ChangedIn (s : Setting) (from q : Past) (t d : ℕ) : Type 0 where
  pub at : Past
  pub from_then : Before from at
  pub till : Before at q
  pub changed : (depth (header_in s.geometry at t) ≢ d) ⊎ (d ≡ s.geometry.max_depth)
  pub quiet : IsQuiet s.geometry at t

-- another client had the table's lock
pub record LockedIn (s : Setting) (from q : Past) (t : ℕ) : Type 0 where
  pub at : Past
  pub from_then : Before from at
  pub till : Before at q
  pub locked : lock_in s.geometry at t ≢ 0

-- this was the next word of node k, and so many words more go past the node's end
pub record WasFull (s : Setting) (from q : Past) (k next words : ℕ) : Type 0 where
  pub at : Past
  pub from_then : Before from at
  pub till : Before at q
  pub read : word_at s.geometry at (node_at s.geometry k) ≡ next
  pub past : (k + 1) * node_size s.geometry < next + words

-- Begun: the split is open. Changed, Locked, FullWords: with the cause, at positions of it. In all of these, and in no other, a swap
-- more may be lost.
abbrev pub BegunSo : Setting → SplitJob → Past → Past → ℕ → BeginOutcome → Type 0
BegunSo s j from q left (Begun child) = Fresh s j.client (site_of j child) q × (1 ≤ left)
BegunSo s j from q left Changed = ChangedIn s from q j.table j.depth × (1 ≤ left)
BegunSo s j from q left Locked = LockedIn s from q j.table × (1 ≤ left)
BegunSo s j from q left Spent = left ≡ 0
BegunSo s j from q left (FullWords next need) =
    (need ≡ table_words s.geometry) × (length next ≡ s.geometry.nodes)
    × ((k : ℕ) → k < s.geometry.nodes → WasFull s from q k (slice_index next k) (table_words s.geometry)) × (1 ≤ left)

-- no more swaps may be lost than before, and fewer after a lost lock
abbrev pub Fewer : ℕ → ℕ → BeginOutcome → Type 0
Fewer most left (Begun child) = left ≤ most
Fewer most left Changed = left ≤ most
Fewer most left Locked = left < most
Fewer most left Spent = left ≤ most
Fewer most left (FullWords next need) = left ≤ most

-- The first half of a split has ended.
pub record HasBegun (s : Setting) (j : SplitJob) (most : ℕ) (from q : Past) (e : BeginEnd) : Type 0 where
  pub so : BegunSo s j from q e.left e.outcome
  pub fewer : Fewer most e.left e.outcome
  pub untouched : Untouched s j.client from q

-- a program that plays the first half of a split that may lose so many swaps, at least one, is safe for its client on each legal
-- log on which it may begin: whatever others add between its verbs, each of its entries may follow and changes nothing in the map, and it
-- ends so
abbrev pub IsSafeBegin : SplitJob → ℕ → Prog BeginEnd → Type 0
IsSafeBegin j left program =
    (s : Setting) (log : List Entry) → IsLegal s log → MaySplit s (reverse log) j → 1 ≤ left
    → Safe (quiet_among s j.client) (hash s) log program (λ log2 e. HasBegun s j left (reverse log) (reverse log2) e)

-- each first half is safe
abbrev pub BeginIsSafe : Type 0
BeginIsSafe = (j : SplitJob) (left : ℕ) → IsSafeBegin j left (begin j left)
