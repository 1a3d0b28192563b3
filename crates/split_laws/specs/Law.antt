-- What is proved of a split.
use Rattle.std.specs.Prelude.{◌≡◌, ℕ, ◌+◌, ◌*◌, ◌<◌, ◌≤◌, List, ◌∷◌, length, reverse, slice_index, Some, None}
use Rattle.node_words.specs.Addresses.{table_words, lock_at}
use Rattle.verb_log.specs.declared.entry.Entry.{Entry}
use Rattle.verb_log.specs.declared.kind.Kind.TheVariants.{Unlock}
use Rattle.verb_log.specs.Kinds.{kind}
use Rattle.verb_log.specs.Tables.{Past}
use Rattle.verbs.specs.Programs.{Prog}
use Rattle.verbs.specs.Safe.{Safe}
use Rattle.race_laws.specs.Setting.{Setting, hash}
use Rattle.race_laws.specs.Standing.{header_in, bucket_in, birth_in, depth}
use Rattle.race_laws.specs.Legal.{Legal, IsLegal}
use Rattle.log_facts.specs.Among.{quiet_among}
use Rattle.log_facts.specs.Beside.{Beside}
use Rattle.directory.specs.declared.naming.Named.{Named}
use Rattle.directory.specs.Law.{HasNamed}
use Rattle.split_text.specs.declared.site.SplitJob.{SplitJob}
use Rattle.split_text.specs.declared.site.Ticket.{Ticket}
use Rattle.split_text.specs.declared.resized.ResizeOutcome.{ResizeOutcome}
use Rattle.split_text.specs.declared.resized.ResizeOutcome.TheVariants.{Split, Changed, Locked, Again, FullWords}
use Rattle.split_text.specs.declared.resized.ResizeEnd.{ResizeEnd}
use Rattle.split_text.specs.Text.{resize, resume}
use Rattle.begin_laws.specs.States.{Untouched}
use Rattle.begin_laws.specs.Law.{MaySplit, ChangedIn, LockedIn, WasFull}
use Rattle.split_laws.specs.Ticket.{Fits}

-- the last entry is this client's unlock of the child that the split of the table made, the table and each of its bucket headers have
-- this depth at least, and the directory has named the child
pub record SplitBy (s : Setting) (c t d : ℕ) (q : Past) : Type 0 where
  pub entry : Entry
  pub past : Past
  pub log : q ≡ entry ∷ past
  pub client : entry.client ≡ c
  pub is_unlock : kind s.geometry past entry ≡ Some Unlock
  pub child : ℕ
  pub at : entry.at ≡ lock_at child
  pub parent : (birth_in s.geometry past child).parent ≡ t
  pub born : (birth_in s.geometry past child).depth ≡ d
  pub deep : d ≤ depth (header_in s.geometry past t)
  pub buckets : (m : ℕ) → m < 2 * s.geometry.groups → d ≤ depth (bucket_in s.geometry q t m)
  pub suffix : ℕ
  pub begun : Past
  pub named : Named
  pub is_named : HasNamed s (record { geometry = s.geometry; child = child; birth = record { depth = d; suffix = suffix; parent = t } }) begun q named

-- so a split of a table at a depth ends, while so many swaps may still be lost. Again with a ticket: it fits, and is of this split.
abbrev pub EndSo : Setting → ℕ → Past → ℕ → ℕ → Past → ℕ → ResizeOutcome → Type 0
EndSo s c from t d q left (Split u e) = (u ≡ t) × (e ≡ d + 1) × SplitBy s c t (d + 1) q × (1 ≤ left)
EndSo s c from t d q left Changed = ChangedIn s from q t d × (1 ≤ left)
EndSo s c from t d q left Locked = LockedIn s from q t × (1 ≤ left)
EndSo s c from t d q left (Again None) = left ≡ 0
EndSo s c from t d q left (Again (Some ticket)) = Fits s c ticket q × (ticket.site.table ≡ t) × (ticket.site.depth ≡ d) × (left ≡ 0)
EndSo s c from t d q left (FullWords next need) =
    (need ≡ table_words s.geometry) × (length next ≡ s.geometry.nodes)
    × ((k : ℕ) → k < s.geometry.nodes → WasFull s from q k (slice_index next k) (table_words s.geometry)) × (1 ≤ left)

-- no more swaps may be lost than before, and fewer after a lost lock
abbrev pub Fewer : ℕ → ℕ → ResizeOutcome → Type 0
Fewer most left (Split u e) = left ≤ most
Fewer most left Changed = left ≤ most
Fewer most left Locked = left < most
Fewer most left (Again ticket) = left ≤ most
Fewer most left (FullWords next need) = left ≤ most

-- A split has ended.
pub record HasSplit (s : Setting) (c t d most : ℕ) (from q : Past) (e : ResizeEnd) : Type 0 where
  pub so : EndSo s c from t d q e.left e.outcome
  pub fewer : Fewer most e.left e.outcome
  pub untouched : Untouched s c from q

-- so a call ends that goes on with a ticket: the table is split, or the ticket that it keeps fits
abbrev pub ResumedSo : Setting → ℕ → ℕ → ℕ → Past → ℕ → ResizeOutcome → Type 0
ResumedSo s c t d q left (Split u e) = (u ≡ t) × (e ≡ d + 1) × SplitBy s c t (d + 1) q × (1 ≤ left)
ResumedSo s c t d q left (Again (Some ticket)) = Fits s c ticket q × (ticket.site.table ≡ t) × (ticket.site.depth ≡ d) × (left ≡ 0)
ResumedSo s c t d q left Changed = ⊥
ResumedSo s c t d q left Locked = ⊥
ResumedSo s c t d q left (Again None) = ⊥
ResumedSo s c t d q left (FullWords next need) = ⊥

pub record HasResumed (s : Setting) (c t d most : ℕ) (from q : Past) (e : ResizeEnd) : Type 0 where
  pub so : ResumedSo s c t d q e.left e.outcome
  pub fewer : e.left ≤ most
  pub untouched : Untouched s c from q

-- a program that plays a split that may lose so many swaps, at least one, is safe for its client on each legal log on which it may
-- begin: whatever others add between its verbs, each of its entries may follow and changes nothing in the map, and it ends so
abbrev pub IsSafeSplit : SplitJob → ℕ → Prog ResizeEnd → Type 0
IsSafeSplit j left program =
    (s : Setting) (log : List Entry) → IsLegal s log → MaySplit s (reverse log) j → 1 ≤ left
    → Safe (quiet_among s j.client) (hash s) log program (λ log2 e. HasSplit s j.client j.table j.depth left (reverse log) (reverse log2) e)

-- .. and so is one that goes on with a ticket, for the ticket's client, on each legal log on which the ticket fits
abbrev pub IsSafeResume : Ticket → ℕ → Prog ResizeEnd → Type 0
IsSafeResume t left program =
    (s : Setting) (log : List Entry) → IsLegal s log → Fits s t.client t (reverse log) → 1 ≤ left
    → Safe (quiet_among s t.client) (hash s) log program (λ log2 e. HasResumed s t.client t.site.table t.site.depth left (reverse log) (reverse log2) e)

-- each split is safe, and each going on with one
abbrev pub SplitIsSafe : Type 0
SplitIsSafe = (j : SplitJob) (left : ℕ) → IsSafeSplit j left (resize j left)

abbrev pub ResumeIsSafe : Type 0
ResumeIsSafe = (t : Ticket) (left : ℕ) → IsSafeResume t left (resume t left)

-- a ticket fits as long as no entry uses a lock of its client
abbrev pub TicketStands : Type 0
TicketStands = (s : Setting) (c : ℕ) (ticket : Ticket) (q : Past) (e : Entry) → Legal s (e ∷ q) → Beside s c q e → Fits s c ticket q → Fits s c ticket (e ∷ q)
