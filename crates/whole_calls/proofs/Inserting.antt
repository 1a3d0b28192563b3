-- A whole insert, with its splits, begun or gone on with.
use Rattle.std.specs.Prelude.{◌≡◌, ◌≢◌, ℕ, zero, suc, ◌+◌, ◌-◌, ◌*◌, ◌%◌, ◌^◌, ◌<◌, ◌≤◌, ◌==◌, ◌||◌, ◌&&◌, Bool, true, false, cond, nat_le, List, ◌∷◌, [], length, reverse, slice_index, Option, Some, None, ◌⊎◌, refl}
use Rattle.std.proofs.Common.{sym, ◌∙◌, ap, subst, inl, inr, arith, ⊎_elim}
use Rattle.std.proofs.lemmas.Bool.Decides.{nat_tests}
use Rattle.std.proofs.lemmas.Nat.{mod_below, pow_pos}
use Rattle.std.proofs.lemmas.Bool.{cases_lt}
use Rattle.std.proofs.Math.Nat.{suc-mul}
use Rattle.slot_word.specs.declared.heads.Head.{Head}
use Rattle.slot_word.specs.declared.heads.State.{State as HeadState}
use Rattle.slot_word.specs.declared.heads.State.TheVariants.{Plain, Splitting, Filling}
use Rattle.kv_block.specs.declared.changes.Change.{Change}
use Rattle.kv_block.specs.Packing.{Pair, IsPair, packed}
use Rattle.kv_block.proofs.Packed.{packed_most}
use Rattle.map_model.specs.declared.calls.Call.{Call}
use Rattle.map_model.specs.declared.calls.Call.TheVariants.{Insert}
use Rattle.map_model.specs.declared.calls.Reply.{Reply}
use Rattle.map_model.specs.declared.calls.Reply.TheVariants.{Exists, Again, FullDepth, FullWords, NoBlock}
use Rattle.map_model.specs.Machine.{reply_at, is_change, is_quiet}
use Rattle.node_words.specs.declared.geometry.Geometry.{Geometry}
use Rattle.node_words.specs.Addresses.{slot_at, node_size}
use Rattle.verb_log.specs.declared.entry.Verb.TheVariants.{Swap}
use Rattle.verb_log.specs.Decoded.{PlainAt, header_of}
use Rattle.verb_log.specs.Changes.{changes}
use Rattle.verb_log.specs.Tables.{Past, Before, here, later, word_at, words_at}
use Rattle.verb_log.proofs.Positions.{Before-trans}
use Rattle.verbs.specs.Logs.{Entries}
use Rattle.verbs.specs.Programs.{Prog, do_verb, ret, ask, bind, Go, goes_on, Costs}
use Rattle.verbs.specs.Calls.{SafeCall}
use Rattle.verbs.proofs.Calls.{SafeCall-more}
use Rattle.race_laws.specs.Setting.{Setting, hash}
use Rattle.race_laws.specs.Standing.{key_header, depth, Stays}
use Rattle.race_laws.specs.Legal.{Legal, IsLegal}
use Rattle.race_laws.proofs.Positions.{legal_before}
use Rattle.race_laws.proofs.Passes.{in_order_span}
use Rattle.log_facts.specs.Among.{changes_of}
use Rattle.log_facts.specs.Beside.{mild, other, uses_lock}
use Rattle.log_facts.specs.Entries.{Unchanging}
use Rattle.log_facts.specs.Since.{Since, change_in}
use Rattle.log_facts.specs.Start.{Start}
use Rattle.log_facts.specs.Reached.{Reached, Stayed, Down}
use Rattle.log_facts.proofs.Growing.{since_before}
use Rattle.log_facts.proofs.Mild.{firm_on}
use Rattle.log_facts.proofs.Passings.{passing_start}
use Rattle.log_facts.proofs.Reached.{reached_first, reached_most, reached_before, stuck_before, clear_stayed, header_deeper, key_depth, down_table}
use Rattle.log_facts.proofs.Silent.{kept_since, kept_mine}
use Rattle.log_facts.proofs.Starts.{start_before}
use Rattle.log_facts.proofs.Suffixes.{aimed}
use Rattle.log_facts.proofs.Within.{slot_within}
use Rattle.log_facts.proofs.Written.{block_since}
use Rattle.pass_text.specs.declared.job.PassMode.TheVariants.{Look}
use Rattle.pass_text.specs.declared.passed.Passed.{Passed}
use Rattle.pass_laws.specs.HasPassed.{LookedAt}
use Rattle.pass_laws.specs.SafeIn.{SafeBy, Calmly}
use Rattle.pass_laws.specs.Law.{MayBegin}
use Rattle.pass_laws.proofs.Rules.{Holds, by_kept}
use Rattle.call_laws.specs.Judged.{judged}
use Rattle.call_laws.proofs.LastSwap.{last_swap}
use Rattle.call_laws.proofs.QuietParts.{call_costs}
use Rattle.call_laws.proofs.Moments.{held_then}
use Rattle.dir_cache.specs.Cached.{Cached, entry_of}
use Rattle.block_taking.specs.declared.taking.Area.{Area}
use Rattle.block_taking.specs.Holdings.{Owns, KeptBlock}
use Rattle.op_insert.specs.declared.end.InsertEnd.{InsertEnd}
use Rattle.op_insert.specs.declared.end.InsertOutcome.{InsertOutcome}
use Rattle.op_insert.specs.declared.end.InsertOutcome.TheVariants as inserted
use Rattle.op_insert.specs.Text.{Inserting as InsertPlan, Part, Result, to_commit, exists_with, start_again, left_again, spent, no_block, need_room, is_plain, is_plain_at, pending_word, live_word, insert_part, ended, ends_again, after_commit, on_part, insert_from, parts_of}
use Rattle.op_insert.specs.Law.{inserting_of, NoRoom}
use Rattle.op_insert.proofs.PartEnds.{ToCommit, ResultSo, FallsBy, PartEnd}
use Rattle.op_insert.proofs.Filling.{looked_from}
use Rattle.op_insert.proofs.Parts.{part_safe}
use Rattle.op_insert.proofs.Committing.{commit_table, commit_meets, commit_kind, commit_change, commit_absent, commit_owns}
use Rattle.split_text.specs.declared.site.SplitJob.{SplitJob}
use Rattle.split_text.specs.declared.site.Ticket.{Ticket}
use Rattle.split_text.specs.declared.resized.ResizeEnd.{ResizeEnd}
use Rattle.split_text.specs.declared.resized.ResizeOutcome.{ResizeOutcome}
use Rattle.split_text.specs.declared.resized.ResizeOutcome.TheVariants as split
use Rattle.split_text.specs.Text.{resize, resume}
use Rattle.begin_laws.specs.Law.{MaySplit, ChangedIn}
use Rattle.begin_laws.specs.States.{Untouched}
use Rattle.split_laws.specs.Ticket.{Fits}
use Rattle.split_laws.specs.Law.{SplitBy, EndSo, Fewer, HasSplit, ResumedSo, HasResumed}
use Rattle.split_laws.proofs.Whole.{whole_safe, resume_safe}
use Rattle.call_texts.specs.State.{State, Caller, caller_of, CallEnd, Inserting, with_forgotten, Stage, inserting}
use Rattle.call_texts.specs.Text.{part_of, insert_plan, unless_split, starts_again, refuses, after_split, split_job, room, was_full, is_table, plain_full, after_insert}
use Rattle.call_texts.specs.Bound.{split_most, call_most}
use Rattle.call_bounds.specs.Bound.{loss_most, part_most, insert_most}
use Rattle.call_bounds.proofs.Parts.{parts_cost}
use Rattle.call_bounds.proofs.Splits.{splits_cost, resumes_cost}
use Rattle.call_bounds.proofs.Fitting.{parts_fit}
use Rattle.whole_calls.specs.Fits.{TicketFits}
use Rattle.whole_calls.specs.Law.{IsSafeWithin, MayCall, InsertIsSafe}
use Rattle.whole_calls.specs.Right.{Right, Cause, NoPlace, FullTable}
use Rattle.whole_calls.proofs.Fitting.{ticket_firm}
use Rattle.whole_calls.proofs.Inside.{quiet_costs}
use Rattle.whole_calls.proofs.Points.{not_read, was_read, false_true, true_false, point, told, Going, going_firm, own_state, state_is, may_look}
use Rattle.whole_calls.proofs.Depths.{Full, full_on, full_there, deep_stuck, split_deeper, change_deeper, change_full, stays_plain}

-- one program and then another and then a third
bind_twice : {A B C : Type 0} (p : Prog A) (f : A → Prog B) (g : B → Prog C) → bind (bind p f) g ≡ bind p (λ x. bind (f x) g)
bind_twice (ret a) f g = refl
bind_twice (ask act k) f g = ap (ask act) (λ i answer. bind_twice (k answer) f g i)

-- none of those that might be lost is left
all_lost : (n left : ℕ) → n - (left - left) ≡ n
all_lost n left = omega arith

equal_test : (x y : ℕ) → (x == y) ≡ true → x ≡ y
equal_test x y h = grind (arith, nat_tests)

-- a header told as plain at a depth
pub plain_head : (d : ℕ) (h : Head) → is_plain_at d h ≡ true → header_of (Some h) ≡ PlainAt d
plain_head d h e = by h.state h.depth e
  where
    by : (st : HeadState) (x : ℕ) → (is_plain st && (x == d)) ≡ true → header_of (Some (record { depth = x; state = st })) ≡ PlainAt d
    by Plain x e = ap PlainAt (equal_test x d e)
    by Splitting x e = absurd (false_true e)
    by Filling x e = absurd (false_true e)

-- .. and one that is so
pub plain_not : (d : ℕ) (h : Head) → is_plain_at d h ≡ false → header_of (Some h) ≡ PlainAt d → ⊥
plain_not d h e k = by h.state h.depth e k
  where
    by : (st : HeadState) (x : ℕ) → (is_plain st && (x == d)) ≡ false → header_of (Some (record { depth = x; state = st })) ≡ PlainAt d → ⊥
    by Plain x e k = differ x d (ap depth k) e
      where
        differ : (x y : ℕ) → x ≡ y → (x == y) ≡ false → ⊥
        differ x y h k = grind (arith, nat_tests)
    by Splitting x e k = cc
    by Filling x e k = cc

pub head_depth : (h : Head) → depth (header_of (Some h)) ≡ h.depth
head_depth h = by h.state h.depth
  where
    by : (st : HeadState) (x : ℕ) → depth (header_of (Some (record { depth = x; state = st }))) ≡ x
    by Plain x = refl
    by Splitting x = refl
    by Filling x = refl

words_same : (g : _) (p q : Past) (a n : ℕ) → ((x : ℕ) → a ≤ x → x < a + n → word_at g q x ≡ word_at g p x) → words_at g q a n ≡ words_at g p a n
words_same g p q a zero h = refl
words_same g p q a (suc n) h =
    ap (λ v. v ∷ words_at g q (suc a) n) (h a (omega arith) (omega arith)) ∙ ap (λ vs. word_at g p a ∷ vs) (words_same g p q (suc a) n (λ x k l. h x (omega arith) (omega arith)))

-- others leave it
pub kept_block_on : (s : Setting) (c : ℕ) (ws : List ℕ) (kept : Option ℕ) (area : Area) {p q : Past} → Since c p q → Legal s q → KeptBlock s c ws kept area p → KeptBlock s c ws kept area q
kept_block_on s c ws None area b l h = tt
kept_block_on s c ws (Some at) area b l h = (block_since s c at ws b l h.0, h.1)

-- a split leaves a block that was never placed
pub block_untouched : (s : Setting) (c : ℕ) (ws : List ℕ) (kept : Option ℕ) (area : Area) (p q : Past) → Untouched s c p q → KeptBlock s c ws kept area p → KeptBlock s c ws kept area q
block_untouched s c ws None area p q u h = tt
block_untouched s c ws (Some at) area p q u h =
    let v = u at (length ws) h.0.mine in (record { mine = v.0; written = words_same s.geometry p q at (length ws) v.1 ∙ h.0.written }, h.1)

abbrev pub held : Option Ticket → ℕ
held None = 0
held (Some ticket) = 1

abbrev pub unseen : Option ℕ → ℕ
unseen None = 1
unseen (Some t) = 0

live_same : (s : Setting) (c : ℕ) (pair : Pair) (a b at : ℕ) → live_word (inserting_of s c pair a) at ≡ live_word (inserting_of s c pair b) at
unfolding live_word
live_same s c pair a b at = refl

module _ (s : Setting) (c tries : ℕ) (pair : Pair) (ip : IsPair pair) (cache : Cached) (ticket0 : Option Ticket) (area0 : Area) (first : Entries) where
  abbrev k : State
  k = own_state s c tries cache ticket0 area0

  abbrev h : ℕ
  h = hash s pair.key

  abbrev call : Call
  call = Insert pair.key pair.value

  abbrev part : Stage → Prog (Go Stage CallEnd)
  part = part_of

  abbrev who : Caller
  who = caller_of k h

  abbrev Ends : List Change → Entries → CallEnd → Type 0
  Ends b l e = Right s c call k first b l e

  abbrev Goes : ℕ → List Change → Entries → Prog (Go Stage CallEnd) → Type 0
  Goes n b l p = SafeCall (judged s c part) n b l (goes_on part p) Ends

  -- a part with its split, but for the lost swaps
  abbrev round : ℕ
  round = insert_most s.geometry

  abbrev split_acts : ℕ
  split_acts = split_most s.geometry

  -- so many parts more, while so many swaps may be lost
  abbrev budget : ℕ → ℕ → ℕ
  budget left parts = loss_most * left + parts * round

  goes_more : (n most : ℕ) (b : List Change) (l : Entries) (p : Prog (Go Stage CallEnd)) → n ≤ most → Goes n b l p → Goes most b l p
  goes_more n most b l p le g = SafeCall-more (judged s c part) Ends n most b l (goes_on part p) le g

  -- what a part starts with, whatever it starts from
  record Now (ticket : Option Ticket) (full : Option ℕ) (start kept : Option ℕ) (area : Area) (left rank : ℕ) (l : Entries) : Type 0 where
    legal : Legal s (reverse l)
    since : Before (reverse first) (reverse l)
    begin : MayBegin s pair.key Look (reverse l) start
    owns : Owns s c area (reverse l)
    keeps : KeptBlock s c (packed pair.key pair.value) kept area (reverse l)
    ticket_now : TicketFits s c ticket (reverse l)
    some : 1 ≤ left
    few : left ≤ tries
    reach : ℕ
    reached : Reached s pair.key (reverse l) reach
    seen : Full s pair.key (reverse l) full
    count : left - 1 + (s.geometry.max_depth - reach) + unseen full + held ticket < rank

  abbrev From : ℕ → Entries → Inserting → Type 0
  From rank l st = Now st.ticket st.full st.start st.kept st.area st.left rank l

  -- an end without an answer of the map
  refused : (reply : Reply) (t : ℕ) (forgotten : List ℕ) (area : Area) (ticket : Option Ticket) (d : List Change) (m : Entries) → is_change reply ≡ false → is_quiet reply ≡ false → Cause s c call k (reverse first) (reverse m) reply → Start s.geometry (reverse m) h t → Owns s c area (reverse m) → TicketFits s c ticket (reverse m) → changes_of s m ≡ d
      → Ends d m (record { reply = reply; source = 0; target = 0; hash = h; table = Some t; forgotten = forgotten; split = None; area = area; ticket = ticket })
  refused reply t forgotten area ticket d m x y cause st ow tk same = record {
    changing = λ e. absurd (false_true (sym x ∙ e));
    staying = λ e. same;
    quiet = λ e. absurd (false_true (sym y ∙ e));
    read = not_read s call (reverse first) (reverse m) reply 0 0 y;
    cause = cause;
    of_key = refl;
    start = λ u e. told (Start s.geometry (reverse m) h) t u e st;
    owns = ow;
    ticket = tk;
  }

  pick_true : (N : ℕ) (b : List Change) (l : Entries) (p q : Prog (Go Stage CallEnd)) (v : Bool) → v ≡ true → Goes N b l p → Goes N b l (cond v p q)
  pick_true N b l p q true e g = g
  pick_true N b l p q false e g = absurd (false_true e)

  pick_false : (N : ℕ) (b : List Change) (l : Entries) (p q : Prog (Go Stage CallEnd)) (v : Bool) → v ≡ false → Goes N b l q → Goes N b l (cond v p q)
  pick_false N b l p q true e g = absurd (true_false e)
  pick_false N b l p q false e g = g

  -- A stage from which later ones have fewer ranks.
  module _ (st : Inserting) (rank : ℕ) (ih : (less : ℕ) (d : List Change) (m : Entries) (st2 : Inserting) → less < rank → From less m st2 → changes_of s m ≡ d → SafeCall (judged s c part) (budget st2.left less) d m (part (inserting who pair st2)) Ends) (st_few : st.left ≤ tries) where
    abbrev i : InsertPlan
    i = insert_plan who pair st.left

    abbrev after : InsertEnd → Prog (Go Stage CallEnd)
    after e = after_insert who pair st e e.outcome

    abbrev end_with : InsertOutcome → Part → InsertEnd
    end_with o p = record { outcome = o; table = p.table; area = p.area; lost = st.left - p.left }

    -- what stands where a part has ended, in which `reach` was reached before
    record Then (p : Part) (start_of : Past) (reach : ℕ) (m : Entries) : Type 0 where
      legal : Legal s (reverse m)
      since : Before (reverse first) start_of
      later_than : Before start_of (reverse m)
      start : Start s.geometry (reverse m) h p.table
      owns : Owns s c p.area (reverse m)
      keeps : KeptBlock s c (packed pair.key pair.value) p.kept p.area (reverse m)
      ticket_now : TicketFits s c st.ticket (reverse m)
      some : 1 ≤ p.left
      few : p.left ≤ tries
      low : p.left ≤ st.left
      reached : Reached s pair.key start_of reach
      seen : Full s pair.key start_of st.full

    -- No candidate was free.
    module _ (p : Part) (from : Past) (reach : ℕ) (m : Entries) (x : Then p from reach m) (q : Passed) (no : NoRoom s i from (reverse m) q) (te : q.table ≡ p.table) (less : ℕ) (lr : less < rank) (count : p.left - 1 + (s.geometry.max_depth - reach) + unseen st.full + held st.ticket < suc less) where
      abbrev e : InsertEnd
      e = end_with (inserted.NeedRoom q p.kept) p

      l : Legal s (reverse m)
      l = x.legal

      abbrev looked : LookedAt s pair.key from (reverse m) q
      looked = looked_from s pair.key from (reverse m) q no.look

      passed_table : looked.clear.passed.table ≡ p.table
      passed_table = looked.clear.table ∙ te

      abbrev w0 : Stayed s pair.key from (reverse m) looked.clear.passed.table
      w0 = clear_stayed s pair.key None from (reverse m) l looked.clear.passed

      -- by its last header the key stayed in the table
      abbrev w : Stayed s pair.key from (reverse m) p.table
      w = record {
        at = w0.at;
        from_then = w0.from_then;
        till = w0.till;
        down = subst (Down s w0.at pair.key) passed_table w0.down;
        stays = subst (λ t. Stays s w0.at t pair.key (key_header s w0.at t pair.key)) passed_table w0.stays;
      }

      w_head : key_header s w0.at p.table pair.key ≡ header_of (Some q.head)
      w_head = subst (λ t. key_header s w0.at t pair.key ≡ header_of (Some q.head)) te looked.clear.head

      w_depth : depth (key_header s w0.at p.table pair.key) ≡ q.head.depth
      w_depth = ap depth w_head ∙ head_depth q.head

      lw : Legal s w0.at
      lw = legal_before s w0.till l

      -- another part
      start_from : (y : Entries) (b : List Change) (start : Option ℕ) → MayBegin s pair.key Look (reverse y) start → (kept : Option ℕ) (left : ℕ) (full : Option ℕ) (forgotten : List ℕ) (reach2 : ℕ) → Legal s (reverse y) → Before (reverse m) (reverse y) → Owns s c p.area (reverse y) → KeptBlock s c (packed pair.key pair.value) kept p.area (reverse y) → 1 ≤ left → left ≤ tries → Reached s pair.key (reverse y) reach2
          → Full s pair.key (reverse y) full → left - 1 + (s.geometry.max_depth - reach2) + unseen full < less → changes_of s y ≡ b → Goes (budget left less) b y (starts_again who pair None st e start kept left full forgotten)
      start_from y b start begin kept left full forgotten reach2 ly bm ow kb some few rc fs count2 same =
          ih less b y (record { start = start; kept = kept; left = left; full = full; forgotten = forgotten; area = p.area; ticket = None }) lr
          (record {
            legal = ly;
            since = Before-trans (Before-trans x.since x.later_than) bm;
            begin = begin;
            owns = ow;
            keeps = kb;
            ticket_now = tt;
            some = some;
            few = few;
            reach = reach2;
            reached = rc;
            seen = fs;
            count = omega (arith, count2);
          }) same

      start_less : (y : Entries) (b : List Change) (kept : Option ℕ) (left : ℕ) (full : Option ℕ) (forgotten : List ℕ) (reach2 : ℕ) → Legal s (reverse y) → Before (reverse m) (reverse y) → Owns s c p.area (reverse y) → KeptBlock s c (packed pair.key pair.value) kept p.area (reverse y) → 1 ≤ left → left ≤ tries → Reached s pair.key (reverse y) reach2
          → Full s pair.key (reverse y) full → left - 1 + (s.geometry.max_depth - reach2) + unseen full < less → changes_of s y ≡ b → Goes (budget left less) b y (starts_again who pair None st e (Some p.table) kept left full forgotten)
      start_less y b kept left full forgotten reach2 ly bm ow kb some few rc fs count2 same =
          start_from y b (Some p.table) (start_before s bm ly h p.table x.start) kept left full forgotten reach2 ly bm ow kb some few rc fs count2 same

      -- .. after a split of the table u, which the cache has forgotten
      may_unless : (y : Entries) (u : ℕ) → Start s.geometry (reverse y) h p.table → MayBegin s pair.key Look (reverse y) (unless_split (Some p.table) u)
      may_unless y u t = by (p.table == u)
        where
          by : (v : Bool) → MayBegin s pair.key Look (reverse y) (cond v None (Some p.table))
          by true = tt
          by false = t

      start_split : (y : Entries) (b : List Change) (u : ℕ) (kept : Option ℕ) (left : ℕ) (full : Option ℕ) (forgotten : List ℕ) (reach2 : ℕ) → Legal s (reverse y) → Before (reverse m) (reverse y) → Owns s c p.area (reverse y) → KeptBlock s c (packed pair.key pair.value) kept p.area (reverse y) → 1 ≤ left → left ≤ tries → Reached s pair.key (reverse y) reach2
          → Full s pair.key (reverse y) full → left - 1 + (s.geometry.max_depth - reach2) + unseen full < less → changes_of s y ≡ b → Goes (budget left less) b y (starts_again who pair None st e (unless_split (Some p.table) u) kept left full forgotten)
      start_split y b u kept left full forgotten reach2 ly bm ow kb some few rc fs count2 same =
          start_from y b (unless_split (Some p.table) u) (may_unless y u (start_before s bm ly h p.table x.start)) kept left full forgotten reach2 ly bm ow kb some few rc fs count2 same

      abbrev no_place : (y : Entries) → Before (reverse m) (reverse y) → NoPlace s c call (reverse first) (reverse y)
      no_place y b = record { pair = pair; is = refl; since = from; from_then = x.since; till = reverse m; till_then = b; passed = q; tries = st.left; none = no }

      -- the table is full
      full_answer : (d : List Change) → is_plain_at s.geometry.max_depth q.head ≡ true → st.ticket ≡ None → changes_of s m ≡ d → (v : Bool) → was_full who pair st p.table q ≡ v
          → Goes (budget p.left less) d m (cond v (refuses who pair (FullDepth s.geometry.max_depth) None st e) (starts_again who pair None st e (Some p.table) p.kept p.left (Some p.table) st.forgotten))
      full_answer d full has same true v = refused (FullDepth s.geometry.max_depth) p.table st.forgotten p.area None d m refl refl
          (refl, record { no_place = no_place m here; full = before.0; there = before.1 })
          x.start x.owns tt same
        where
          Seen : Type 0
          Seen = (f : FullTable s pair.key (reverse first) no.look.opened) × (f.table ≡ q.table)

          remembered : (o : Option ℕ) → st.full ≡ o → Full s pair.key from o → is_table who pair o p.table ≡ true → Seen
          remembered None e f t = absurd (false_true t)
          remembered (Some u) e f t =
              let same_table : u ≡ q.table = equal_test u p.table t ∙ sym te in
              (record { at = from; from_then = x.since; till = no.look.from_then; table = u; plain = inr f.1 }, same_table)

          opened_full : (o : Option Head) → q.opened ≡ o → plain_full who pair o ≡ true → Seen
          opened_full None e t = absurd (false_true t)
          opened_full (Some g) e t =
              (record { at = no.look.opened; from_then = Before-trans x.since no.look.from_then; till = here; table = q.table; plain = inl (no.look.opened_head g e ∙ plain_head s.geometry.max_depth g t) }, refl)

          or_one : (a b : Bool) → (a || b) ≡ true → (a ≡ true) ⊎ (b ≡ true)
          or_one true b t = inl refl
          or_one false b t = inr t

          before : Seen
          before = ⊎_elim (remembered st.full refl x.seen) (opened_full q.opened refl) (or_one (is_table who pair st.full p.table) (plain_full who pair q.opened) v)
      full_answer d full has same false v = by st.full refl x.seen
        where
          plain : key_header s w0.at p.table pair.key ≡ PlainAt s.geometry.max_depth
          plain = w_head ∙ plain_head s.geometry.max_depth q.head full

          by : (o : Option ℕ) → st.full ≡ o → Full s pair.key from o → Goes (budget p.left less) d m (starts_again who pair None st e (Some p.table) p.kept p.left (Some p.table) st.forgotten)
          by None o g =
              let one = ap unseen o in
              let zero = ap held has in
              start_less m d p.kept p.left (Some p.table) st.forgotten reach l here x.owns x.keeps x.some x.few (reached_before s pair.key x.later_than l reach x.reached)
              (deep_stuck s pair.key from (reverse m) l p.table w (w_depth ∙ sym (head_depth q.head) ∙ ap depth (plain_head s.geometry.max_depth q.head full)), stays_plain s pair.key w0.at (reverse m) p.table w0.till l (down_table s w0.at lw pair.key p.table w.down) plain)
              (omega arith) same
          by (Some u) o g = absurd (none u (full_there s pair.key from (reverse m) l p.table u w g).0 o)
            where
              none : (u : ℕ) → p.table ≡ u → st.full ≡ Some u → ⊥
              none u a o = true_false (seen u a ∙ v2 u o)
                where
                  same_test : (x y : ℕ) → x ≡ y → true ≡ ((y == x) || plain_full who pair q.opened)
                  same_test x y e = or_true (y == x) (plain_full who pair q.opened) (eq x y e)
                    where
                      eq : (x y : ℕ) → x ≡ y → (y == x) ≡ true
                      eq x y e = grind (arith, nat_tests)

                      or_true : (a b : Bool) → a ≡ true → true ≡ (a || b)
                      or_true true b e = refl
                      or_true false b e = absurd (false_true e)

                  seen : (u : ℕ) → p.table ≡ u → true ≡ ((u == p.table) || plain_full who pair q.opened)
                  seen u a = same_test p.table u a

                  v2 : (u : ℕ) → st.full ≡ Some u → ((u == p.table) || plain_full who pair q.opened) ≡ false
                  v2 u o = subst (λ f. (is_table who pair f p.table || plain_full who pair q.opened) ≡ false) o v

      abbrev job : SplitJob
      job = split_job who p.table q.head.depth

      low_suffix : (x n : ℕ) → x % 2 ^ n < 2 ^ n
      low_suffix x n = mod_below x (2 ^ n) (pow_pos n)

      may_split : MaySplit s (reverse m) job
      may_split =
          let sp = start_before s (Before-trans here here) lw h p.table (subst (Start s.geometry w0.at h) passed_table (passed_start)) in
          let a = aimed s pair.key w0.till l p.table (header_of (Some q.head)) sp w_head (subst (λ v. Stays s w0.at p.table pair.key v) w_head w.stays) in
          record { geometry = refl; table = a.0; suffix = a.1 ∙ ap (λ v. h % 2 ^ v) (head_depth q.head); low = low_suffix h q.head.depth }
        where
          passed_start : Start s.geometry w0.at h looked.clear.passed.table
          passed_start =
              let z = looked.clear.passed in
              let b = in_order_span z.since z.seen z.end z.misses.stand in
              start_before s b lw h z.table (passing_start s pair.key None from z.prev z.table z.since (legal_before s b lw) z.passing)

      -- the split has ended
      split_ends : is_plain_at s.geometry.max_depth q.head ≡ false → st.ticket ≡ None → (y : Entries) (b : List Change) → Legal s (reverse y) → Before (reverse m) (reverse y) → (r : ResizeEnd) (o : ResizeOutcome) → EndSo s c (reverse m) p.table q.head.depth (reverse y) r.left o → Fewer p.left r.left o → Untouched s c (reverse m) (reverse y) → changes_of s y ≡ b
          → Goes (budget r.left less) b y (after_split who pair st e p.kept q.head.depth r.left o)
      split_ends nf has y b ly bm r (split.Split u dd) so le un same =
          let zero = ap held has in
          let few = x.few in
          let more = header_deeper s pair.key from p.table w bm ly (split_deeper s pair.key c from (reverse m) (reverse y) p.table w ly bm (subst (λ v. SplitBy s c p.table (v + 1) (reverse y)) (sym w_depth) so.2)) reach x.reached in
          let top = reached_most s (reverse y) ly pair.key (reach + 1) more in
          let some = so.3 in
          start_split y b u p.kept r.left st.full (with_forgotten st.forgotten u) (reach + 1) ly bm (un p.area.at p.area.left x.owns).0 (block_untouched s c (packed pair.key pair.value) p.kept p.area (reverse m) (reverse y) un x.keeps) so.3 (omega arith) more
          (full_on s pair.key (Before-trans x.later_than bm) ly st.full x.seen) (omega arith) same
      split_ends nf has y b ly bm r split.Locked so le un same =
          let zero = ap held has in
          let few = x.few in
          start_less y b p.kept r.left st.full st.forgotten reach ly bm (un p.area.at p.area.left x.owns).0 (block_untouched s c (packed pair.key pair.value) p.kept p.area (reverse m) (reverse y) un x.keeps) so.1 (omega arith) (reached_before s pair.key (Before-trans x.later_than bm) ly reach x.reached)
          (full_on s pair.key (Before-trans x.later_than bm) ly st.full x.seen) (omega arith) same
      split_ends nf has y b ly bm r split.Changed so le un same = by (q.head.depth == s.geometry.max_depth) refl
        where
          ch : ChangedIn s (reverse m) (reverse y) p.table (depth (key_header s w.at p.table pair.key))
          ch = subst (ChangedIn s (reverse m) (reverse y) p.table) (sym w_depth) so.0

          keep : KeptBlock s c (packed pair.key pair.value) p.kept p.area (reverse y)
          keep = block_untouched s c (packed pair.key pair.value) p.kept p.area (reverse m) (reverse y) un x.keeps

          at_top : q.head.depth ≡ s.geometry.max_depth → (o : Option ℕ) → st.full ≡ o → Full s pair.key from o → Goes (budget r.left less) b y (starts_again who pair None st e (Some p.table) p.kept r.left (Some p.table) st.forgotten)
          at_top t None o g =
              let one = ap unseen o in
              let zero = ap held has in
              let few = x.few in
              start_less y b p.kept r.left (Some p.table) st.forgotten reach ly bm (un p.area.at p.area.left x.owns).0 keep so.1 (omega arith) (reached_before s pair.key (Before-trans x.later_than bm) ly reach x.reached)
              (stuck_before s pair.key bm ly p.table (deep_stuck s pair.key from (reverse m) l p.table w (w_depth ∙ t)), change_full s pair.key c from (reverse m) (reverse y) p.table w ly bm ch (w_depth ∙ t)) (omega arith) same
          at_top t (Some u) o g =
              let f = full_there s pair.key from (reverse m) l p.table u w g in absurd (plain_not s.geometry.max_depth q.head nf (sym w_head ∙ f.1))

          low_depth : (x y top : ℕ) → x ≡ y → x ≤ top → (y == top) ≡ false → x < top
          low_depth x y top e k t = grind (arith, nat_tests, t)

          by : (v : Bool) → (q.head.depth == s.geometry.max_depth) ≡ v → Goes (budget r.left less) b y (starts_again who pair None st e (Some p.table) p.kept r.left (cond v (Some p.table) st.full) st.forgotten)
          by true t = at_top (equal_test q.head.depth s.geometry.max_depth t) st.full refl x.seen
          by false t =
              let zero = ap held has in
              let few = x.few in
              let below = low_depth (depth (key_header s w.at p.table pair.key)) q.head.depth s.geometry.max_depth w_depth (key_depth s w.at lw pair.key p.table (down_table s w.at lw pair.key p.table w.down)).1 t in
              let more = header_deeper s pair.key from p.table w bm ly (change_deeper s pair.key c from (reverse m) (reverse y) p.table w ly bm ch below) reach x.reached in
              let top = reached_most s (reverse y) ly pair.key (reach + 1) more in
              let some = so.1 in
              start_less y b p.kept r.left st.full st.forgotten (reach + 1) ly bm (un p.area.at p.area.left x.owns).0 keep so.1 (omega arith) more (full_on s pair.key (Before-trans x.later_than bm) ly st.full x.seen) (omega arith) same
      split_ends nf has y b ly bm r (split.Again None) so le un same =
          refused (Again tries) p.table st.forgotten p.area None b y refl refl refl (start_before s bm ly h p.table x.start) (un p.area.at p.area.left x.owns).0 tt same
      split_ends nf has y b ly bm r (split.Again (Some ticket)) so le un same =
          refused (Again tries) p.table st.forgotten p.area (Some ticket) b y refl refl refl (start_before s bm ly h p.table x.start) (un p.area.at p.area.left x.owns).0 so.0 same
      split_ends nf has y b ly bm r (split.FullWords next need) so le un same =
          refused (FullWords next need) p.table st.forgotten p.area None b y refl refl
          (so.0, so.1, (λ n low. let z = so.2 n low in record { at = z.at; from_then = Before-trans (Before-trans x.since x.later_than) z.from_then; till = z.till; read = z.read; past = z.past }), no_place y bm)
          (start_before s bm ly h p.table x.start) (un p.area.at p.area.left x.owns).0 tt same

      -- the split of the ticket has ended
      resume_ends : (tk : Ticket) → st.ticket ≡ Some tk → (y : Entries) (b : List Change) → Legal s (reverse y) → Before (reverse m) (reverse y) → (r : ResizeEnd) (o : ResizeOutcome) → ResumedSo s c tk.site.table tk.site.depth (reverse y) r.left o → r.left ≤ p.left → Untouched s c (reverse m) (reverse y) → changes_of s y ≡ b
          → Goes (budget r.left less) b y (after_split who pair st e p.kept q.head.depth r.left o)
      resume_ends tk has y b ly bm r (split.Split u dd) so le un same =
          let one = ap held has in
          let few = x.few in
          let some = so.3 in
          start_split y b u p.kept r.left st.full (with_forgotten st.forgotten u) reach ly bm (un p.area.at p.area.left x.owns).0 (block_untouched s c (packed pair.key pair.value) p.kept p.area (reverse m) (reverse y) un x.keeps) so.3 (omega arith) (reached_before s pair.key (Before-trans x.later_than bm) ly reach x.reached)
          (full_on s pair.key (Before-trans x.later_than bm) ly st.full x.seen) (omega arith) same
      resume_ends tk has y b ly bm r (split.Again (Some ticket)) so le un same =
          refused (Again tries) p.table st.forgotten p.area (Some ticket) b y refl refl refl (start_before s bm ly h p.table x.start) (un p.area.at p.area.left x.owns).0 so.0 same
      resume_ends tk has y b ly bm r split.Changed so le un same = absurd so
      resume_ends tk has y b ly bm r split.Locked so le un same = absurd so
      resume_ends tk has y b ly bm r (split.Again None) so le un same = absurd so
      resume_ends tk has y b ly bm r (split.FullWords next need) so le un same = absurd so

      abbrev Legally : Past → Type 0
      Legally y = Legal s y × Before (reverse m) y

      legally : Holds Unchanging s c Legally
      legally = record { others = λ y en le o g. (le, later g.1); own = λ y en le r g. (le, later g.1) }

      -- a split, and then what follows while so many swaps may be lost
      abbrev splitting : ℕ
      splitting = split_acts + loss_most * p.left + less * round

      room_safe : (d : List Change) → changes_of s m ≡ d → (o : Option Ticket) → st.ticket ≡ o → TicketFits s c o (reverse m) → Goes splitting d m (room who pair st e q p.kept p.left o)
      room_safe d same (Some tk) has ft =
          quiet_costs s c part (resume tk p.left) (λ r. after_split who pair st e p.kept q.head.depth r.left r.outcome) (λ y r. HasResumed s c tk.site.table tk.site.depth p.left (reverse m) y r × Legally y) Ends (λ r. loss_most * r.left) (split_acts + loss_most * p.left) (less * round) d m
          (subst (λ (g : Geometry). Costs (λ (r : ResizeEnd). loss_most * r.left) (split_most g + loss_most * p.left) (resume tk p.left)) ft.geometry (resumes_cost tk p.left x.some)) same
          (by_kept Unchanging s c Legally legally (reverse m) (resume tk p.left) (λ y r. HasResumed s c tk.site.table tk.site.depth p.left (reverse m) y r) (l, here)
          (subst (λ v. SafeBy Unchanging s v (reverse m) (resume tk p.left) (λ y r. HasResumed s v tk.site.table tk.site.depth p.left (reverse m) y r)) ft.client
          (resume_safe s tk (reverse m) l (subst (λ v. Fits s v tk (reverse m)) (sym ft.client) ft) p.left x.some)))
          (λ y r b g same2. resume_ends tk has y b g.1.0 g.1.1 r r.outcome g.0.so g.0.fewer g.0.untouched same2)
      room_safe d same None has ft = by (is_plain_at s.geometry.max_depth q.head) refl
        where
          by : (v : Bool) → is_plain_at s.geometry.max_depth q.head ≡ v → Goes splitting d m (cond v (cond (was_full who pair st p.table q) (refuses who pair (FullDepth s.geometry.max_depth) None st e) (starts_again who pair None st e (Some p.table) p.kept p.left (Some p.table) st.forgotten))
              (bind (resize job p.left) (λ r. after_split who pair st e p.kept q.head.depth r.left r.outcome)))
          by true v = goes_more (budget p.left less) splitting d m (cond (was_full who pair st p.table q) (refuses who pair (FullDepth s.geometry.max_depth) None st e) (starts_again who pair None st e (Some p.table) p.kept p.left (Some p.table) st.forgotten)) (omega arith)
              (full_answer d v has same (was_full who pair st p.table q) refl)
          by false v =
              quiet_costs s c part (resize job p.left) (λ r. after_split who pair st e p.kept q.head.depth r.left r.outcome) (λ y r. HasSplit s c p.table q.head.depth p.left (reverse m) y r × Legally y) Ends (λ r. loss_most * r.left) (split_acts + loss_most * p.left) (less * round) d m
              (splits_cost job p.left x.some) same
              (by_kept Unchanging s c Legally legally (reverse m) (resize job p.left) (λ y r. HasSplit s c p.table q.head.depth p.left (reverse m) y r) (l, here) (whole_safe s job (reverse m) l may_split p.left x.some))
              (λ y r b g same2. split_ends v has y b g.1.0 g.1.1 r r.outcome g.0.so g.0.fewer g.0.untouched same2)

    -- .. the split or the answer, with what the operation tells
    need_safe : (p : Part) (from : Past) (reach : ℕ) (m : Entries) → Then p from reach m → (q : Passed) → NoRoom s i from (reverse m) q → q.table ≡ p.table → (less : ℕ) → less < rank → p.left - 1 + (s.geometry.max_depth - reach) + unseen st.full + held st.ticket < suc less → (d : List Change) → changes_of s m ≡ d
        → Goes (split_acts + loss_most * p.left + less * round) d m (after (end_with (inserted.NeedRoom q p.kept) p))
    need_safe p from reach m x q nr te less lr count d same =
        subst (λ v. Goes (split_acts + loss_most * p.left + less * round) d m (room who pair st (end_with (inserted.NeedRoom q p.kept) p) q p.kept v st.ticket)) (back st.left p.left x.low)
        (room_safe p from reach m x q nr te less lr count d same st.ticket refl x.ticket_now)
      where
        back : (a b : ℕ) → b ≤ a → b ≡ a - (a - b)
        back a b le = omega arith

    -- the operation goes on so many parts at most
    module _ (n : ℕ) (inner : (less : ℕ) (start kept : Option ℕ) (area : Area) (left : ℕ) (d : List Change) (l : Entries) → less ≤ rank → left ≤ st.left → (x : Now st.ticket st.full start kept area left less l) → left - 1 + (s.geometry.max_depth - x.reach) < n → changes_of s l ≡ d → Goes (budget left less) d l (bind (insert_from i n start kept area left) after))
        (less : ℕ) (lr : less < rank) (start0 kept0 : Option ℕ) (area1 : Area) (left0 : ℕ) (l0 : Entries) (low0 : left0 ≤ st.left) (x0 : Now st.ticket st.full start0 kept0 area1 left0 (suc less) l0) (fits : left0 - 1 + (s.geometry.max_depth - x0.reach) < suc n) where
      -- what is known where the part has ended
      record At (p : Part) (m : Entries) : Type 0 where
        legal : Legal s (reverse m)
        later_than : Before (reverse l0) (reverse m)
        ticket_now : TicketFits s c st.ticket (reverse m)
        start : Start s.geometry (reverse m) h p.table
        owns : Owns s c p.area (reverse m)
        keeps : KeptBlock s c (packed pair.key pair.value) p.kept p.area (reverse m)

      -- what follows a part of this end
      abbrev follows : ℕ → ℕ
      follows left = loss_most * left + suc (split_acts + less * round)

      abbrev next : Part → Option ℕ → Area → ℕ → Prog InsertEnd
      next p = insert_from i n (Some p.table)

      -- the next part, with fewer swaps that may be lost, or with more reached
      next_safe : (p : Part) (m : Entries) (d : List Change) (kept : Option ℕ) (left reach : ℕ) → At p m → KeptBlock s c (packed pair.key pair.value) kept p.area (reverse m) → 1 ≤ left → left ≤ left0 → Reached s pair.key (reverse m) reach → left - 1 + (s.geometry.max_depth - reach) < left0 - 1 + (s.geometry.max_depth - x0.reach) → changes_of s m ≡ d
          → Goes (budget left less) d m (bind (next p kept p.area left) after)
      next_safe p m d kept left reach a kb some low rc fewer same =
          let few = x0.few in
          let count = x0.count in
          inner less (Some p.table) kept p.area left d m (omega arith) (omega arith)
          (record {
            legal = a.legal;
            since = Before-trans x0.since a.later_than;
            begin = a.start;
            owns = a.owns;
            keeps = kb;
            ticket_now = a.ticket_now;
            some = some;
            few = omega arith;
            reach = reach;
            reached = rc;
            seen = full_on s pair.key a.later_than a.legal st.full x0.seen;
            count = omega (arith, fewer);
          }) (omega (arith, fewer, fits)) same

      -- an answer of the operation that refuses
      refuses_so : (p : Part) (m : Entries) (d : List Change) → At p m → (reply : Reply) → is_change reply ≡ false → is_quiet reply ≡ false → Cause s c call k (reverse first) (reverse m) reply → changes_of s m ≡ d → Ends d m (record { reply = reply; source = 0; target = 0; hash = h; table = Some p.table; forgotten = st.forgotten; split = None; area = p.area; ticket = st.ticket })
      refuses_so p m d a reply x y cause same = refused reply p.table st.forgotten p.area st.ticket d m x y cause a.start a.owns a.ticket_now same

      -- The own pending word is committed.
      module _ (p : Part) (m : Entries) (own at : ℕ) (tc : ToCommit s c i pair p.area (reverse m) own at) (a : At p m) (some : 1 ≤ p.left) (low : p.left ≤ left0) where
        abbrev slot : ℕ
        slot = slot_at tc.table tc.place

        abbrev lost_then : Prog InsertEnd
        lost_then = cond (nat_le p.left 1) (ends_again i p) (next p None p.area (p.left - 1))

        lost_safe : (z : Entries) → At p z → Goes (budget p.left less) (changes_of s z) z (bind lost_then after)
        lost_safe z az = by (nat_le p.left 1) refl
          where
            by : (v : Bool) → nat_le p.left 1 ≡ v → Goes (budget p.left less) (changes_of s z) z (bind (cond v (ends_again i p) (next p None p.area (p.left - 1))) after)
            by true e = refuses_so p z (changes_of s z) az (Again (tries - (st.left - st.left))) refl refl (all_lost tries st.left) refl
            by false e =
                let two : 2 ≤ p.left = grind (arith, nat_tests, e) in
                goes_more (budget (p.left - 1) less) (budget p.left less) (changes_of s z) z (bind (next p None p.area (p.left - 1)) after) (omega arith)
                (next_safe p z (changes_of s z) None (p.left - 1) x0.reach az tt (omega arith) (omega arith) (reached_before s pair.key az.later_than az.legal x0.reach x0.reached) (omega arith) refl)

        pick : (N : ℕ) (b : List Change) (z : Entries) (q r : Prog InsertEnd) (v w : Bool) → v ≡ w → Goes N b z (bind (cond w q r) after) → Goes N b z (bind (cond v q r) after)
        pick N b z q r v w e g = subst (λ t. Goes N b z (bind (cond t q r) after)) (sym e) g

        same_word : (x y : ℕ) → x ≡ y → (x == y) ≡ true
        same_word x y e = grind (arith, nat_tests)

        other_word : (x y : ℕ) → x ≢ y → (x == y) ≡ false
        other_word x y e = grind (arith, nat_tests)

        commit_safe : (d : List Change) → changes_of s m ≡ d → Goes (suc (budget p.left less)) d m (bind (on_part i p (next p) (to_commit own at)) after)
        commit_safe d same =
            subst (λ v. Goes (suc (budget p.left less)) d m (ask (do_verb None (Swap v (pending_word i at) (live_word i at))) (λ found. bind (after_commit i at found p (next p)) after))) (sym tc.own_is)
            (last_swap s c part slot (pending_word i at) (live_word i at) (budget p.left less) (λ found. bind (after_commit i at found p (next p)) after) Ends d m same
            (slot_within s (reverse m) a.legal tc.table tc.place (commit_table s c i pair p.area (reverse m) own at tc (reverse m) here) tc.is_place)
            (λ z lz sz.
            let bz = since_before sz in
            let az : At p z = record {
              legal = lz;
              later_than = Before-trans a.later_than bz;
              ticket_now = firm_on s c (TicketFits s c st.ticket) (ticket_firm s c st.ticket) sz lz a.ticket_now;
              start = start_before s bz lz h p.table a.start;
              owns = kept_since s c (Owns s c p.area) (kept_mine s c p.area.at p.area.left) sz lz a.owns;
              keeps = kept_after sz lz;
            } in (
              (λ now.
                  let me = commit_meets s c i pair p.area (reverse m) own at tc (reverse z) lz bz now in
                  let kd = commit_kind s c i pair p.area (reverse m) own at tc (reverse z) lz bz now in
                  let lm : Legal s (change_in s.geometry c (reverse z) slot (live_word i at) ∷ reverse z) = (lz, me) in (
                    me,
                    λ r e. pick (budget p.left less) (changes_of s z) r (ended i (inserted.Inserted at) p) lost_then (word_at s.geometry (reverse z) slot == pending_word i at) true (same_word (word_at s.geometry (reverse z) slot) (pending_word i at) now)
                        (record {
                          changing = λ _. record {
                            change = record { key = pair.key; value = Some pair.value };
                            is = refl;
                            made = ap (changes s.geometry) e ∙ commit_change s c i pair p.area (reverse m) own at tc (reverse z) lz bz now;
                            answers = ap (reply_at call) (commit_absent s c i pair p.area (reverse m) own at tc (reverse z) lz bz now z refl);
                            entry = change_in s.geometry c (reverse z) slot (live_word i at);
                            past = reverse z;
                            last = e;
                            client = refl;
                            blocks = (refl, live_same s c pair st.left 0 at);
                          };
                          staying = λ y. absurd (true_false y);
                          quiet = λ y. absurd (false_true y);
                          read = tt;
                          cause = tt;
                          of_key = refl;
                          start = λ u y. told (Start s.geometry (reverse r) h) p.table u y (subst (λ v. Start s.geometry v h p.table) (sym e) (start_before s (later here) lm h p.table az.start));
                          owns = subst (Owns s c p.area) (sym e) (commit_owns s c i pair p.area (reverse m) own at tc (reverse z) lz bz now az.owns);
                          ticket = subst (TicketFits s c st.ticket) (sym e) (ticket_firm s c st.ticket (reverse z) (change_in s.geometry c (reverse z) slot (live_word i at)) lm (mild (ap uses_lock kd)) az.ticket_now);
                        }),
                  )),
              (λ other. pick (budget p.left less) (changes_of s z) z (ended i (inserted.Inserted at) p) lost_then (word_at s.geometry (reverse z) slot == pending_word i at) false (other_word (word_at s.geometry (reverse z) slot) (pending_word i at) other) (lost_safe z az)),
            )))
          where
            kept_after : {z : Past} → Since c (reverse m) z → Legal s z → KeptBlock s c (packed pair.key pair.value) p.kept p.area z
            kept_after sz lz = kept_block_on s c (packed pair.key pair.value) p.kept p.area sz lz a.keeps

      end_safe : (p : Part) (r : Result) (m : Entries) (d : List Change) → At p m → ResultSo s c i pair (reverse l0) (reverse m) p r → FallsBy left0 p.left r → changes_of s m ≡ d → Goes (follows p.left) d m (bind (on_part i p (next p) r) after)
      end_safe p (to_commit own at) m d a so fb same =
          goes_more (suc (budget p.left less)) (follows p.left) d m (bind (on_part i p (next p) (to_commit own at)) after) (omega arith) (commit_safe p m own at so.0 a so.1 fb d same)
      end_safe p (exists_with hw) m d a so fb same = record {
        changing = λ e. absurd (false_true e);
        staying = λ e. same;
        quiet = λ e. point s call first m (Exists hw.value) so.at (Before-trans x0.since so.from_then) so.till (Some so.pair.value) (held_then s so.till a.legal pair.key p.table so.place so.body so.pair so.holder) (ap (λ v. Some (Exists v)) so.value);
        read = (was_read s pair.key (reverse first) (reverse l0) (reverse m) p.table hw x0.since so, refl);
        cause = tt;
        of_key = refl;
        start = λ u e. told (Start s.geometry (reverse m) h) p.table u e a.start;
        owns = a.owns;
        ticket = a.ticket_now;
      }
      end_safe p spent m d a so fb same = refuses_so p m d a (Again (tries - (st.left - st.left))) refl refl (all_lost tries st.left) same
      end_safe p (no_block nexts words) m d a so fb same = refuses_so p m d a (NoBlock nexts words) refl refl
          (so.0, so.1, (λ j low. let w = so.2 j low in record { at = w.at; from_then = Before-trans x0.since w.from_then; till = w.till; read = w.read; past = subst (λ v. (j + 1) * node_size s.geometry < slice_index nexts j + v) (sym so.0) w.past })) same
      end_safe p start_again m d a so fb same =
          goes_more (budget p.left less) (follows p.left) d m (bind (on_part i p (next p) start_again) after) (omega arith)
          (next_safe p m d p.kept p.left x0.reach a a.keeps so (omega arith) (reached_before s pair.key a.later_than a.legal x0.reach x0.reached) (omega arith) same)
      end_safe p left_again m d a so fb same =
          let more = so.1 x0.reach x0.reached in
          let most = reached_most s (reverse m) a.legal pair.key (x0.reach + 1) more in
          let one = so.0 in
          goes_more (budget p.left less) (follows p.left) d m (bind (on_part i p (next p) left_again) after) (omega arith)
          (next_safe p m d p.kept p.left (x0.reach + 1) a a.keeps so.0 fb more (omega arith) same)
      end_safe p (need_room q) m d a so fb same =
          let few = x0.few in
          let count = x0.count in
          goes_more (split_acts + loss_most * p.left + less * round) (follows p.left) d m (after (end_with (inserted.NeedRoom q p.kept) p)) (omega arith)
          (need_safe p (reverse l0) x0.reach m
          (record {
            legal = a.legal;
            since = x0.since;
            later_than = a.later_than;
            start = a.start;
            owns = a.owns;
            keeps = a.keeps;
            ticket_now = a.ticket_now;
            some = so.2;
            few = omega arith;
            low = omega arith;
            reached = x0.reached;
            seen = x0.seen;
          }) q so.0 so.1 less lr (omega arith) d same)

    abbrev Goes_on : ℕ → Type 0
    Goes_on n = (less : ℕ) (start kept : Option ℕ) (area : Area) (left : ℕ) (d : List Change) (l : Entries) → less ≤ rank → left ≤ st.left → (x : Now st.ticket st.full start kept area left less l) → left - 1 + (s.geometry.max_depth - x.reach) < n → changes_of s l ≡ d
        → Goes (budget left less) d l (bind (insert_from i n start kept area left) after)

    -- n parts of the operation at most
    from_safe : (n : ℕ) → Goes_on n
    unfolding insert_from
    from_safe zero less start kept area left d l lr low x fits same = absurd (omega (arith, fits))
    from_safe (suc n) zero start kept area left d l lr low x fits same = absurd (let y = x.count in omega arith)
    from_safe (suc n) (suc less) start kept area left d l lr low x fits same =
        let few = x.few in
        subst (λ v. Goes (budget left (suc less)) d l v) (sym (bind_twice (insert_part i start kept area left) (λ p. on_part i p (insert_from i n (Some p.table)) p.result) after))
        (goes_more (part_most s.geometry - 1 + loss_most * left + suc (split_acts + less * round)) (budget left (suc less)) d l (bind (insert_part i start kept area left) (λ p. bind (on_part i p (insert_from i n (Some p.table)) p.result) after)) (enough (part_most s.geometry) less (omega arith))
        (call_costs s c part (insert_part i start kept area left) (λ p. bind (on_part i p (insert_from i n (Some p.table)) p.result) after) (λ y p. PartEnd s c i pair left (reverse l) y p × Going s c st.ticket (reverse l) y) Ends (λ p. loss_most * p.left) (part_most s.geometry - 1 + loss_most * left) (suc (split_acts + less * round)) d l
        (parts_cost i start kept area left (packed_most pair ip)) same
        (by_kept Calmly s c (Going s c st.ticket (reverse l)) (record { others = λ y en le o g. going_firm s c st.ticket (reverse l) y en le (other o) g; own = λ y en le r g. going_firm s c st.ticket (reverse l) y en le r.1 g }) (reverse l) (insert_part i start kept area left) (λ y p. PartEnd s c i pair left (reverse l) y p)
        (x.legal, (here, x.ticket_now)) (part_safe s c c pair ip st.left kept area left x.some (reverse l) x.legal start x.begin x.owns x.keeps))
        (λ m p d2 e same2. end_safe n (from_safe n) less (omega arith) start kept area left l low x fits p p.result m d2
        (record { legal = e.1.0; later_than = e.1.1.0; ticket_now = e.1.1.1; start = e.0.start; owns = e.0.owns; keeps = e.0.kept }) e.0.so e.0.falls same2)))
      where
        enough : (v n : ℕ) → 1 ≤ v → v - 1 + loss_most * left + suc (split_acts + n * (v + split_acts)) ≤ loss_most * left + suc n * (v + split_acts)
        enough v n one = let z = suc-mul n (v + split_acts) in omega arith

    -- a stage begins with an act
    begins : (n : ℕ) → 1 ≤ n → (start kept : Option ℕ) (area : Area) (left : ℕ) → goes_on part (bind (insert_from i n start kept area left) after) ≡ bind (insert_from i n start kept area left) after
    unfolding insert_from
    begins zero one start kept area left = absurd (omega (arith, one))
    begins (suc n) one None kept area left = refl
    begins (suc n) one (Some t) kept area left = refl

    enough_parts : (left reach m f : ℕ) → 1 ≤ left → f ≤ reach → left - 1 + (m - reach) < left + (m - f)
    enough_parts left reach m f one le = omega arith

    stage : (d : List Change) (m : Entries) (x : From rank m st) → s.geometry.first_depth ≤ x.reach → changes_of s m ≡ d → SafeCall (judged s c part) (budget st.left rank) d m (part (inserting who pair st)) Ends
    stage d m x deep same =
        let one = x.some in
        subst (λ v. SafeCall (judged s c part) (budget st.left rank) d m v Ends) (begins (parts_of i) (omega arith) st.start st.kept st.area st.left)
        (from_safe (parts_of i) rank st.start st.kept st.area st.left d m (at_most rank) (at_most st.left) x (let y = enough_parts st.left x.reach s.geometry.max_depth s.geometry.first_depth x.some deep in omega arith) same)
      where
        at_most : (n : ℕ) → n ≤ n
        at_most n = omega arith

  -- each stage, by its rank
  stage_safe : (most rank : ℕ) → rank ≤ most → (d : List Change) (m : Entries) (st : Inserting) → From rank m st → changes_of s m ≡ d → SafeCall (judged s c part) (budget st.left rank) d m (part (inserting who pair st)) Ends
  stage_safe zero rank le d m st x same = absurd (let y = x.count in omega arith)
  stage_safe (suc most) rank le d m st x same =
      ⊎_elim (λ (low : x.reach < s.geometry.first_depth).
      let count = x.count in
      stage st rank (λ less d2 m2 st2 lt y e2. stage_safe most less (down less lt) d2 m2 st2 y e2) x.few d m
      (record {
        legal = x.legal;
        since = x.since;
        begin = x.begin;
        owns = x.owns;
        keeps = x.keeps;
        ticket_now = x.ticket_now;
        some = x.some;
        few = x.few;
        reach = s.geometry.first_depth;
        reached = reached_first s (reverse m) x.legal pair.key;
        seen = x.seen;
        count = omega (arith, low);
      }) (at_most s.geometry.first_depth) same)
      (λ (deep : s.geometry.first_depth ≤ x.reach). stage st rank (λ less d2 m2 st2 lt y e2. stage_safe most less (down less lt) d2 m2 st2 y e2) x.few d m x deep same)
      (cases_lt x.reach s.geometry.first_depth)
    where
      at_most : (n : ℕ) → n ≤ n
      at_most n = omega arith

      down : (less : ℕ) → less < rank → less ≤ most
      down less lt = omega (arith, lt)

  -- from which a call begins
  abbrev st0 : Inserting
  st0 = record { start = entry_of cache h; kept = None; left = tries; full = None; forgotten = []; area = area0; ticket = ticket0 }

  none : (less : ℕ) (d : List Change) (m : Entries) (st2 : Inserting) → less < 0 → From less m st2 → changes_of s m ≡ d → SafeCall (judged s c part) (budget st2.left less) d m (part (inserting who pair st2)) Ends
  none less d m st2 lt x same = absurd (omega (arith, lt))

  -- so many parts with a split
  abbrev ranks : ℕ
  ranks = tries + (s.geometry.max_depth - s.geometry.first_depth) + 2

  pub insert_call_safe : IsLegal s first → MayCall s c k call first → IsSafeWithin (call_most s.geometry tries) s c k call first
  insert_call_safe lg m =
      let one = m.some in
      let fit = parts_fit s.geometry tries in
      subst (λ v. SafeCall (judged s c part) (call_most s.geometry tries) (changes_of s first) first v Ends) (sym (begins st0 0 none (at_most tries) (parts_of (i st0 0 none (at_most tries))) (omega arith) (entry_of cache h) None area0 tries))
      (SafeCall-more (judged s c part) Ends (budget tries ranks) (call_most s.geometry tries) (changes_of s first) first (part (inserting who pair st0)) (omega (arith, fit))
      (stage_safe ranks ranks (at_most ranks) (changes_of s first) first st0
      (record {
        legal = lg;
        since = here;
        begin = may_look s c k pair.key h (reverse first) (λ t e. m.fits.starts h t e);
        owns = m.fits.owns;
        keeps = tt;
        ticket_now = m.fits.ticket;
        some = m.some;
        few = at_most tries;
        reach = s.geometry.first_depth;
        reached = reached_first s (reverse first) lg pair.key;
        seen = tt;
        count = few_ranks tries (s.geometry.max_depth - s.geometry.first_depth) ticket0 m.some;
      }) refl))
    where
      at_most : (n : ℕ) → n ≤ n
      at_most n = omega arith

      few_ranks : (t n : ℕ) (o : Option Ticket) → 1 ≤ t → t - 1 + n + 1 + held o < t + n + 2
      few_ranks t n None one = omega arith
      few_ranks t n (Some tk) one = omega arith

-- for each state that fits
pub insert_is_safe_call : InsertIsSafe
insert_is_safe_call s c k key value l lg m =
    let e = state_is s c k m.fits.geometry m.fits.client in
    subst (λ (v : State). IsSafeWithin (call_most s.geometry v.tries) s c v (Insert key value) l) (sym e)
    (insert_call_safe s c k.tries (record { key = key; value = value }) m.is_call k.cache k.ticket k.area l lg (subst (λ v. MayCall s c v (Insert key value) l) e m))
