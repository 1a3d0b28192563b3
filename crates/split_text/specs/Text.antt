-- The whole split, as a program: docs/PROTOCOL.md, "The split". `resize` is steps 1 to 9, `resume` goes on with a ticket. Step 6 is
-- `slots`, slot by slot through `move`; step 7 `finish`, step 8 the naming of crate `directory`, step 9 `ripen`.
use Rattle.std.specs.Prelude.{ℕ, zero, suc, ◌+◌, ◌-◌, Some, None}
use Rattle.node_words.specs.declared.geometry.Geometry.{Geometry}
use Rattle.node_words.specs.Addresses.{header_at, slot_at, bucket_header_at}
use Rattle.verbs.specs.Programs.{Prog, ret, bind}
use Rattle.directory.specs.Text.{naming}
use Rattle.split_text.specs.declared.site.Site.{Site}
use Rattle.split_text.specs.declared.site.SplitJob.{SplitJob}
use Rattle.split_text.specs.declared.site.Ticket.{Ticket}
use Rattle.split_text.specs.declared.begun.BeginOutcome.{BeginOutcome}
use Rattle.split_text.specs.declared.begun.BeginOutcome.TheVariants as begin_ends
use Rattle.split_text.specs.declared.moved.MoveOutcome.{MoveOutcome}
use Rattle.split_text.specs.declared.moved.MoveOutcome.TheVariants.{Done, Moved, Spent}
use Rattle.split_text.specs.declared.moved.MoveEnd.{MoveEnd}
use Rattle.split_text.specs.declared.resized.ResizeOutcome.{ResizeOutcome}
use Rattle.split_text.specs.declared.resized.ResizeOutcome.TheVariants.{Split, Changed, Locked, Again, FullWords}
use Rattle.split_text.specs.declared.resized.ResizeEnd.{ResizeEnd}
use Rattle.split_text.specs.Words.{cut, site_of, naming_of, plain_of, splitting_of, filling_of, slot_count, place_of, main_count}
use Rattle.split_text.specs.Begin.{sure, unlock, begin}
use Rattle.split_text.specs.Move.{judge, move}

abbrev pub resized : ResizeOutcome → ℕ → Prog ResizeEnd
resized outcome left = ret (record { outcome = outcome; left = left })

-- A split that has begun, by a client.
module _ (g : Geometry) (c : ℕ) (site : Site) where
  -- 9. Unlock of the table, and then of the child
  abbrev pub unlocks : ℕ → Prog ResizeEnd
  unlocks left = unlock c site.table (unlock c site.child (resized (Split site.table (site.depth + 1)) left))

  -- Ripen: n bucket headers of the child from number m on, and then its header
  abbrev pub ripen : ℕ → ℕ → ℕ → Prog ResizeEnd
  ripen left zero m = sure (header_at site.child) (filling_of (site.depth + 1)) (plain_of (site.depth + 1)) (unlocks left)
  ripen left (suc n) m = sure (bucket_header_at site.child m) (filling_of (site.depth + 1)) (plain_of (site.depth + 1)) (ripen left n (m + 1))

  -- 8. the child is named
  abbrev pub name_child : ℕ → Prog ResizeEnd
  name_child left = bind (naming (naming_of g site)) (λ named. ripen left (main_count g) 0)

  -- 7. Close: n bucket headers of the table from number m on
  abbrev pub close : ℕ → ℕ → ℕ → Prog ResizeEnd
  close left zero m = name_child left
  close left (suc n) m = sure (bucket_header_at site.table m) (splitting_of site.depth) (plain_of (site.depth + 1)) (close left n (m + 1))

  -- Finish
  abbrev pub finish : ℕ → Prog ResizeEnd
  finish left = sure (header_at site.table) (splitting_of site.depth) (plain_of (site.depth + 1)) (close left (main_count g) 0)

  -- what the client keeps of it, where a call ends at slot number i
  abbrev pub ticket_at : ℕ → ℕ → ℕ → Ticket
  ticket_at i word standing = record { geometry = g; client = c; site = site; slot = i; word = word; copy = standing }

  -- the place of slot number i is left so; the other slots follow
  abbrev pub after_move : ℕ → (ℕ → Prog ResizeEnd) → MoveEnd → MoveOutcome → Prog ResizeEnd
  after_move i next e Done = next e.left
  after_move i next e Moved = sure (slot_at site.table (place_of i)) e.word 0 (next e.left)
  after_move i next e Spent = resized (Again (Some (ticket_at i e.word e.standing))) e.left

  -- 6. n slots in the order of addresses, from number i on
  abbrev pub slots : ℕ → ℕ → ℕ → Prog ResizeEnd
  slots zero i left = finish left
  slots (suc n) i left = bind (move site (place_of i) 0 left) (λ e. after_move i (slots n (i + 1)) e e.outcome)

-- a call goes on with a ticket, while `left` swaps may be lost
abbrev pub resume_at : Geometry → ℕ → Site → ℕ → ℕ → ℕ → ℕ → Prog ResizeEnd
resume_at g c site i word standing left =
    bind (judge site (place_of i) (left - 1) word standing) (λ e. after_move g c site i (slots g c site (slot_count g - (i + 1)) (i + 1)) e e.outcome)

abbrev pub resume : Ticket → ℕ → Prog ResizeEnd
resume t left = resume_at t.geometry t.client (cut t.site) t.slot t.word t.copy left

-- the first half has ended so
abbrev pub after_begin : SplitJob → ℕ → BeginOutcome → Prog ResizeEnd
after_begin j left (begin_ends.Begun child) = slots j.geometry j.client (site_of j child) (slot_count j.geometry) 0 left
after_begin j left begin_ends.Changed = resized Changed left
after_begin j left begin_ends.Locked = resized Locked left
after_begin j left begin_ends.Spent = resized (Again None) left
after_begin j left (begin_ends.FullWords next need) = resized (FullWords next need) left

-- a split of a table, while `left` swaps may be lost
abbrev pub resize : SplitJob → ℕ → Prog ResizeEnd
resize j left = bind (begin j left) (λ e. after_begin j e.left e.outcome)
