-- A split inside an insert: what follows it depends on the table and the area of the insert's end alone.
use Rattle.std.specs.Prelude.{◌≡◌, ℕ, false, cond, if◌then◌else◌, List, [], Option, Some, None, IsSome, refl}
use Rattle.std.proofs.Common.{sym, ◌∙◌, ap, subst}
use Rattle.kv_block.specs.Packing.{Pair}
use Rattle.verbs.specs.Programs.{Prog, bind, next_act, goes_on}
use Rattle.verbs.proofs.Progs.{next_act-bind}
use Rattle.block_taking.specs.declared.taking.Area.{Area}
use Rattle.op_insert.specs.declared.end.InsertEnd.{InsertEnd}
use Rattle.op_insert.specs.declared.end.InsertOutcome.TheVariants as inserted
use Rattle.split_text.specs.declared.resized.ResizeEnd.{ResizeEnd}
use Rattle.split_text.specs.declared.resized.ResizeOutcome.{ResizeOutcome}
use Rattle.split_text.specs.declared.resized.ResizeOutcome.TheVariants as split
use Rattle.call_texts.specs.State.{Caller, Inserting}
use Rattle.map_model.specs.declared.calls.Reply.TheVariants.{FullDepth}
use Rattle.pass_text.specs.declared.passed.Passed.{Passed}
use Rattle.op_insert.specs.Text.{is_plain_at}
use Rattle.split_text.specs.declared.site.Ticket.{Ticket}
use Rattle.split_text.specs.Text.{resize, resume}
use Rattle.call_texts.specs.Text.{part_of, ended, split_job, starts_again, refuses, was_full, room, after_split}
use Rattle.call_machine.specs.declared.task.Task.{Task}
use Rattle.call_machine.specs.Tasks.{caller_in, pair_in, inserting_in, insert_end_in}
use Rattle.call_machine.specs.Rest.{Left, on_room, on_walk, on_split}
use Rattle.call_machine.proofs.Parts.{acts-stay}

-- .. by its parts
abbrev split_from : Caller → Pair → Option ℕ → List ℕ → ℕ → Area → Option ℕ → ℕ → ℕ → ResizeOutcome → Left
split_from who pair full forgotten table area kept d left o =
    after_split who pair (record { start = None; kept = None; left = 0; full = full; forgotten = forgotten; area = area; ticket = None })
    (record { outcome = inserted.Again; table = table; area = area; lost = 0 }) kept d left o

by-parts : (who : Caller) (pair : Pair) (st : Inserting) (e : InsertEnd) (kept : Option ℕ) (d left : ℕ) (o : ResizeOutcome) → after_split who pair st e kept d left o ≡ split_from who pair st.full st.forgotten e.table e.area kept d left o
by-parts who pair st e kept d left (split.Split u k) = refl
by-parts who pair st e kept d left split.Changed = refl
by-parts who pair st e kept d left split.Locked = refl
by-parts who pair st e kept d left (split.Again ticket) = refl
by-parts who pair st e kept d left (split.FullWords next need) = refl

-- the task says the same as the insert's end
pub record Says (t u : Task) (e : InsertEnd) (kept : Option ℕ) (d : ℕ) : Type 0 where
  pub caller : caller_in u ≡ caller_in t
  pub pair : pair_in u ≡ pair_in t
  pub full : u.full ≡ t.full
  pub forgotten : u.forgotten ≡ t.forgotten
  pub table : u.table ≡ e.table
  pub area : u.area ≡ e.area
  pub kept_so : u.kept ≡ kept
  pub depth : u.depth ≡ d

room-on : (t u : Task) (e : InsertEnd) (kept : Option ℕ) (d left : ℕ) (o : ResizeOutcome) → Says t u e kept d
    → after_split (caller_in u) (pair_in u) (inserting_in u) (insert_end_in u) u.kept u.depth left o ≡ after_split (caller_in t) (pair_in t) (inserting_in t) e kept d left o
room-on t u e kept d left o s =
    by-parts (caller_in u) (pair_in u) (inserting_in u) (insert_end_in u) u.kept u.depth left o
    ∙ (λ k. split_from (s.caller k) (s.pair k) (s.full k) (s.forgotten k) (s.table k) (s.area k) (s.kept_so k) (s.depth k) left o)
    ∙ sym (by-parts (caller_in t) (pair_in t) (inserting_in t) e kept d left o)

by_says : (t u : Task) (e : InsertEnd) (kept : Option ℕ) (d : ℕ) (p q : Prog ResizeEnd) → p ≡ q → IsSome (next_act p) → Says t u e kept d
    → bind p (on_room u) ≡ goes_on part_of (bind q (λ r. after_split (caller_in t) (pair_in t) (inserting_in t) e kept d r.left r.outcome))
by_says t u e kept d p q same h s =
    sym (acts-stay (bind p (on_room u)) (subst (λ a. IsSome a) (sym (next_act-bind p (on_room u) h)) h))
    ∙ ap (goes_on part_of) ((λ k. bind p (λ r. room-on t u e kept d r.left r.outcome s k)) ∙ ap (λ x. bind x (λ r. after_split (caller_in t) (pair_in t) (inserting_in t) e kept d r.left r.outcome)) same)

-- what needs room goes on with the ticket, or splits the table
pub room-resumes : (t u : Task) (e : InsertEnd) (p : Passed) (kept : Option ℕ) (ticket : Ticket) (left : ℕ) (q : Prog ResizeEnd) → t.ticket ≡ Some ticket → q ≡ resume ticket left → IsSome (next_act q) → Says t u e kept p.head.depth
    → bind q (on_room u) ≡ goes_on part_of (room (caller_in t) (pair_in t) (inserting_in t) e p kept left t.ticket)
room-resumes t u e p kept ticket left q h same w s =
    by_says t u e kept p.head.depth q (resume ticket left) same w s ∙ ap (λ o. goes_on part_of (room (caller_in t) (pair_in t) (inserting_in t) e p kept left o)) (sym h)

pub room-splits : (t u : Task) (e : InsertEnd) (p : Passed) (kept : Option ℕ) (left : ℕ) (q : Prog ResizeEnd) → t.ticket ≡ None → is_plain_at t.geometry.max_depth p.head ≡ false → q ≡ resize (split_job (caller_in t) e.table p.head.depth) left → IsSome (next_act q) → Says t u e kept p.head.depth
    → bind q (on_room u) ≡ goes_on part_of (room (caller_in t) (pair_in t) (inserting_in t) e p kept left t.ticket)
room-splits t u e p kept left q h plain same w s =
    by_says t u e kept p.head.depth q (resize (split_job (caller_in t) e.table p.head.depth) left) same w s
    ∙ ap (λ v. goes_on part_of (cond v yes no)) (sym plain)
    ∙ ap (λ o. goes_on part_of (room (caller_in t) (pair_in t) (inserting_in t) e p kept left o)) (sym h)
  where
    yes : Left
    yes = if was_full (caller_in t) (pair_in t) (inserting_in t) e.table p then refuses (caller_in t) (pair_in t) (FullDepth t.geometry.max_depth) None (inserting_in t) e else starts_again (caller_in t) (pair_in t) None (inserting_in t) e (Some e.table) kept left (Some e.table) t.forgotten

    no : Left
    no = bind (resize (split_job (caller_in t) e.table p.head.depth) left) (λ r. after_split (caller_in t) (pair_in t) (inserting_in t) e kept p.head.depth r.left r.outcome)

-- a split of a resize begins
pub split-begins : (p q : Prog ResizeEnd) (f : ResizeEnd → Left) → p ≡ q → IsSome (next_act p) → bind p f ≡ goes_on part_of (bind q f)
split-begins p q f same h =
    sym (acts-stay (bind p f) (subst (λ a. IsSome a) (sym (next_act-bind p f h)) h)) ∙ ap (λ x. goes_on part_of (bind x f)) same

pub walk-splits : (t : Task) (p : Passed) (q : Prog ResizeEnd) → is_plain_at t.geometry.max_depth p.head ≡ false → q ≡ resize (split_job (caller_in t) p.table p.head.depth) t.left → IsSome (next_act q)
    → bind q (on_split t (Some p.table)) ≡ goes_on part_of (on_walk t p)
walk-splits t p q plain same w =
    split-begins q (resize (split_job (caller_in t) p.table p.head.depth) t.left) (on_split t (Some p.table)) same w
    ∙ ap (λ v. goes_on part_of (cond v (ended (caller_in t) (FullDepth t.geometry.max_depth) 0 0 (Some p.table) [] t.area None) (bind (resize (split_job (caller_in t) p.table p.head.depth) t.left) (on_split t (Some p.table))))) (sym plain)
