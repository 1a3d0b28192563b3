-- Whole calls, as programs made of the operations: docs/PROTOCOL.md, "The calls". A call that starts again after a split, a lost lock
-- or a full table does so from a `Stage`.
use Rattle.std.specs.Prelude.{ℕ, ◌-◌, ◌%◌, ◌^◌, Bool, false, ◌==◌, ◌||◌, if◌then◌else◌, List, [], ◌∷◌, Option, Some, None}
use Rattle.slot_word.specs.declared.slots.Slot.{Slot}
use Rattle.slot_word.specs.declared.heads.Head.{Head}
use Rattle.slot_word.specs.Slots.{slot_of}
use Rattle.kv_block.specs.Packing.{Pair, packed}
use Rattle.map_model.specs.declared.calls.Call.{Call}
use Rattle.map_model.specs.declared.calls.Call.TheVariants.{Insert, Search, Update, Delete, Resize}
use Rattle.map_model.specs.declared.calls.Reply.{Reply}
use Rattle.map_model.specs.declared.calls.Reply.TheVariants.{Found, Missing, Inserted, Exists, Updated, Deleted, Split, Again, FullDepth, FullWords, NoBlock}
use Rattle.node_words.specs.declared.geometry.Geometry.{Geometry}
use Rattle.dir_cache.specs.Cached.{entry_of}
use Rattle.verbs.specs.Programs.{Prog, ret, bind, Go, again, done}
use Rattle.pass_text.specs.declared.job.Job.{Job}
use Rattle.pass_text.specs.declared.job.PassMode.TheVariants.{Walk}
use Rattle.pass_text.specs.declared.passed.Held.{Held as HeldWord}
use Rattle.pass_text.specs.declared.passed.Passed.{Passed}
use Rattle.pass_text.specs.Pass.{pass}
use Rattle.call_laws.specs.Settling.{look_job}
use Rattle.block_taking.specs.declared.taking.Area.{Area}
use Rattle.op_search.specs.declared.end.SearchOutcome.{SearchOutcome}
use Rattle.op_search.specs.declared.end.SearchOutcome.TheVariants as searched
use Rattle.op_search.specs.Text.{search}
use Rattle.op_delete.specs.declared.end.DeleteOutcome.{DeleteOutcome}
use Rattle.op_delete.specs.declared.end.DeleteOutcome.TheVariants as deleted
use Rattle.op_delete.specs.Text.{delete}
use Rattle.op_update.specs.declared.end.UpdateEnd.{UpdateEnd}
use Rattle.op_update.specs.declared.end.UpdateOutcome.{UpdateOutcome}
use Rattle.op_update.specs.declared.end.UpdateOutcome.TheVariants as updated
use Rattle.op_update.specs.Text.{update}
use Rattle.op_update.specs.Law.{plan_of}
use Rattle.op_insert.specs.declared.end.InsertEnd.{InsertEnd}
use Rattle.op_insert.specs.declared.end.InsertOutcome.{InsertOutcome}
use Rattle.op_insert.specs.declared.end.InsertOutcome.TheVariants as inserted
use Rattle.op_insert.specs.Text.{Inserting as InsertPlan, insert, is_plain_at}
use Rattle.split_text.specs.declared.site.SplitJob.{SplitJob}
use Rattle.split_text.specs.declared.site.Ticket.{Ticket}
use Rattle.split_text.specs.declared.resized.ResizeOutcome.{ResizeOutcome}
use Rattle.split_text.specs.declared.resized.ResizeOutcome.TheVariants as split
use Rattle.split_text.specs.Text.{resize, resume}
use Rattle.call_texts.specs.State.{State, Caller, caller_of, CallEnd, Inserting, with_forgotten, Stage, inserting, walking}

-- the block of a slot's word
abbrev pub block_at : Option Slot → ℕ
block_at None = 0
block_at (Some slot) = slot.at

abbrev pub block_of : HeldWord → ℕ
block_of h = block_at (slot_of h.word)

-- the table that the cache names, unless a split of this table has forgotten it
abbrev pub unless_split : Option ℕ → ℕ → Option ℕ
unless_split None u = None
unless_split (Some t) u = if t == u then None else Some t

-- A call of this caller.
module _ (who : Caller) where
  -- the call has its answer, and has split the table `split` after its last pass
  abbrev pub ended_by : Option ℕ → Reply → ℕ → ℕ → Option ℕ → List ℕ → Area → Option Ticket → Prog (Go Stage CallEnd)
  ended_by split reply source target table forgotten area ticket =
      ret (done (record { reply = reply; source = source; target = target; hash = who.hash; table = table; forgotten = forgotten; split = split; area = area; ticket = ticket }))

  abbrev pub ended : Reply → ℕ → ℕ → Option ℕ → List ℕ → Area → Option Ticket → Prog (Go Stage CallEnd)
  ended reply source target table forgotten area ticket = ended_by None reply source target table forgotten area ticket

  -- Search
  abbrev pub after_search : Area → Option Ticket → ℕ → SearchOutcome → Prog (Go Stage CallEnd)
  after_search area ticket t (searched.Found h) = ended (Found h.value) (block_of h) (block_of h) (Some t) [] area ticket
  after_search area ticket t searched.Missing = ended Missing 0 0 (Some t) [] area ticket

  abbrev pub search_call : List ℕ → Option ℕ → Area → Option Ticket → Prog (Go Stage CallEnd)
  search_call key entry area ticket = bind (search (look_job who.geometry key who.hash) entry) (λ e. after_search area ticket e.table e.outcome)

  -- Delete
  abbrev pub after_delete : Area → Option Ticket → ℕ → DeleteOutcome → Prog (Go Stage CallEnd)
  after_delete area ticket t (deleted.Deleted h) = ended (Deleted h.value) (block_of h) 0 (Some t) [] area ticket
  after_delete area ticket t deleted.Missing = ended Missing 0 0 (Some t) [] area ticket
  after_delete area ticket t deleted.Again = ended (Again who.tries) 0 0 (Some t) [] area ticket

  abbrev pub delete_call : List ℕ → Option ℕ → Area → Option Ticket → Prog (Go Stage CallEnd)
  delete_call key entry area ticket = bind (delete (look_job who.geometry key who.hash) who.tries entry) (λ e. after_delete area ticket e.table e.outcome)

  -- Update
  abbrev pub after_update : Option Ticket → UpdateEnd → UpdateOutcome → Prog (Go Stage CallEnd)
  after_update ticket e (updated.Updated h at) = ended (Updated h.value) (block_of h) at (Some e.table) [] e.area ticket
  after_update ticket e updated.Missing = ended Missing 0 0 (Some e.table) [] e.area ticket
  after_update ticket e updated.Again = ended (Again who.tries) 0 0 (Some e.table) [] e.area ticket
  after_update ticket e (updated.NoBlock next need) = ended (NoBlock next need) 0 0 (Some e.table) [] e.area ticket

  abbrev pub update_call : Pair → Option ℕ → Area → Option Ticket → Prog (Go Stage CallEnd)
  update_call pair entry area ticket = bind (update (plan_of who.geometry who.client pair who.hash who.tries) area entry) (λ e. after_update ticket e e.outcome)

  -- the split of a table at a depth
  abbrev pub split_job : ℕ → ℕ → SplitJob
  split_job t d = record { geometry = who.geometry; client = who.client; table = t; depth = d; suffix = who.hash % 2 ^ d }

  -- Insert, of this pair
  module _ (pair : Pair) where
    abbrev pub insert_plan : ℕ → InsertPlan
    insert_plan left = record {
      job = look_job who.geometry pair.key who.hash;
      taking = record { geometry = who.geometry; client = who.client; block = packed pair.key pair.value };
      tries = left;
    }

    abbrev pub starts_again : Option Ticket → Inserting → InsertEnd → Option ℕ → Option ℕ → ℕ → Option ℕ → List ℕ → Prog (Go Stage CallEnd)
    starts_again ticket st e start kept left full forgotten =
        ret (again (inserting who pair (record { start = start; kept = kept; left = left; full = full; forgotten = forgotten; area = e.area; ticket = ticket })))

    abbrev pub refuses : Reply → Option Ticket → Inserting → InsertEnd → Prog (Go Stage CallEnd)
    refuses reply ticket st e = ended reply 0 0 (Some e.table) st.forgotten e.area ticket

    -- under the lock the header of a table was read as plain at the greatest depth
    abbrev pub full_now : ℕ → ℕ → Option ℕ → Option ℕ
    full_now t d full = if d == who.geometry.max_depth then Some t else full

    -- 7. The split has ended that the pass needed room for, or that the ticket is of.
    abbrev pub after_split : Inserting → InsertEnd → Option ℕ → ℕ → ℕ → ResizeOutcome → Prog (Go Stage CallEnd)
    after_split st e kept d left (split.Split u k) = starts_again None st e (unless_split (Some e.table) u) kept left st.full (with_forgotten st.forgotten u)
    after_split st e kept d left split.Changed = starts_again None st e (Some e.table) kept left (full_now e.table d st.full) st.forgotten
    after_split st e kept d left split.Locked = starts_again None st e (Some e.table) kept left st.full st.forgotten
    after_split st e kept d left (split.Again ticket) = refuses (Again who.tries) ticket st e
    after_split st e kept d left (split.FullWords next need) = refuses (FullWords next need) None st e

    abbrev pub plain_full : Option Head → Bool
    plain_full None = false
    plain_full (Some h) = is_plain_at who.geometry.max_depth h

    abbrev pub is_table : Option ℕ → ℕ → Bool
    is_table None t = false
    is_table (Some u) t = u == t

    -- a header of this table was read as plain at the greatest depth before the pass read its candidates
    abbrev pub was_full : Inserting → ℕ → Passed → Bool
    was_full st t p = is_table st.full t || plain_full p.opened

    -- 7. No room: with a ticket that split is gone on with. Else, where the last header was plain at the greatest depth, and had been
    -- before, the call says so, and remembers it the first time. Elsewhere the table is split.
    abbrev pub room : Inserting → InsertEnd → Passed → Option ℕ → ℕ → Option Ticket → Prog (Go Stage CallEnd)
    room st e p kept left (Some ticket) = bind (resume ticket left) (λ r. after_split st e kept p.head.depth r.left r.outcome)
    room st e p kept left None =
        if is_plain_at who.geometry.max_depth p.head
        then (if was_full st e.table p then refuses (FullDepth who.geometry.max_depth) None st e else starts_again None st e (Some e.table) kept left (Some e.table) st.forgotten)
        else bind (resize (split_job e.table p.head.depth) left) (λ r. after_split st e kept p.head.depth r.left r.outcome)

    abbrev pub after_insert : Inserting → InsertEnd → InsertOutcome → Prog (Go Stage CallEnd)
    after_insert st e (inserted.Inserted at) = ended Inserted 0 at (Some e.table) st.forgotten e.area st.ticket
    after_insert st e (inserted.Exists h) = ended (Exists h.value) (block_of h) (block_of h) (Some e.table) st.forgotten e.area st.ticket
    after_insert st e (inserted.NeedRoom p kept) = room st e p kept (st.left - e.lost) st.ticket
    after_insert st e inserted.Again = refuses (Again (who.tries - (st.left - e.lost))) st.ticket st e
    after_insert st e (inserted.NoBlock next need) = refuses (NoBlock next need) st.ticket st e

    -- a part: the insert with what is left of the swaps that may be lost
    abbrev pub insert_part : Inserting → Prog (Go Stage CallEnd)
    insert_part st = bind (insert (insert_plan st.left) st.start st.kept st.area) (λ e. after_insert st e e.outcome)

  -- Resize, of this key; the client has this area
  abbrev pub walk_job : List ℕ → Job
  walk_job key = record { geometry = who.geometry; key = key; hash = who.hash; mode = Walk }

  -- the split has ended, after a walk that ended at this table, or with a ticket after none
  abbrev pub after_own : List ℕ → Area → Option ℕ → ℕ → ResizeOutcome → Prog (Go Stage CallEnd)
  after_own key area t left (split.Split u d) = ended_by (Some u) (Split u d) 0 0 t [] area None
  after_own key area t left split.Changed = ret (again (walking who key t left area))
  after_own key area t left split.Locked = ret (again (walking who key t left area))
  after_own key area t left (split.Again ticket) = ended (Again who.tries) 0 0 t [] area ticket
  after_own key area t left (split.FullWords next need) = ended (FullWords next need) 0 0 t [] area None

  abbrev pub after_walk : List ℕ → Area → ℕ → Passed → Prog (Go Stage CallEnd)
  after_walk key area left p =
      if is_plain_at who.geometry.max_depth p.head then ended (FullDepth who.geometry.max_depth) 0 0 (Some p.table) [] area None
      else bind (resize (split_job p.table p.head.depth) left) (λ r. after_own key area (Some p.table) r.left r.outcome)

  abbrev pub walk_part : List ℕ → Area → Option ℕ → ℕ → Prog (Go Stage CallEnd)
  walk_part key area start left = bind (pass (walk_job key) start) (after_walk key area left)

  -- with a ticket that split is gone on with, whatever the key
  abbrev pub resize_call : List ℕ → Option ℕ → Area → Option Ticket → Prog (Go Stage CallEnd)
  resize_call key entry area (Some ticket) = bind (resume ticket who.tries) (λ r. after_own key area None r.left r.outcome)
  resize_call key entry area None = walk_part key area entry who.tries

-- the part of a call that starts from a stage
abbrev pub part_of : Stage → Prog (Go Stage CallEnd)
part_of (inserting who pair st) = insert_part who pair st
part_of (walking who key start left area) = walk_part who key area start left

-- a call of a client with this state from its beginning, where its key has this hash
abbrev pub begin_call : State → ℕ → Call → Prog (Go Stage CallEnd)
begin_call k hash (Search key) = search_call (caller_of k hash) key (entry_of k.cache hash) k.area k.ticket
begin_call k hash (Delete key) = delete_call (caller_of k hash) key (entry_of k.cache hash) k.area k.ticket
begin_call k hash (Update key value) = update_call (caller_of k hash) (record { key = key; value = value }) (entry_of k.cache hash) k.area k.ticket
begin_call k hash (Insert key value) =
    insert_part (caller_of k hash) (record { key = key; value = value })
    (record { start = entry_of k.cache hash; kept = None; left = k.tries; full = None; forgotten = []; area = k.area; ticket = k.ticket })
begin_call k hash (Resize key) = resize_call (caller_of k hash) key (entry_of k.cache hash) k.area k.ticket
