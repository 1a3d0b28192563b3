-- A whole resize: goes on with a ticket, or walks and splits.
use Rattle.std.specs.Prelude.{◌≡◌, ℕ, zero, suc, ◌+◌, ◌-◌, ◌*◌, ◌%◌, ◌^◌, ◌<◌, ◌≤◌, ◌==◌, Bool, true, false, cond, List, [], reverse, Option, Some, None, refl}
use Rattle.std.proofs.Common.{sym, ◌∙◌, ap, subst, inr, arith}
use Rattle.std.proofs.lemmas.Bool.Decides.{nat_tests}
use Rattle.std.proofs.lemmas.Nat.{mod_below, pow_pos}
use Rattle.std.proofs.Math.Nat.{suc-mul}
use Rattle.kv_block.specs.Bytes.{AreBytes}
use Rattle.kv_block.specs.declared.changes.Change.{Change}
use Rattle.map_model.specs.declared.calls.Call.TheVariants.{Resize}
use Rattle.map_model.specs.declared.calls.Reply.{Reply}
use Rattle.map_model.specs.declared.calls.Reply.TheVariants.{Split, Again, FullDepth, FullWords}
use Rattle.map_model.specs.Machine.{is_change, is_quiet}
use Rattle.node_words.specs.declared.geometry.Geometry.{Geometry}
use Rattle.verb_log.specs.Decoded.{header_of}
use Rattle.verb_log.specs.Tables.{Past, Before, here, later}
use Rattle.verb_log.proofs.Positions.{Before-trans}
use Rattle.verbs.specs.Logs.{Entries}
use Rattle.verbs.specs.Programs.{Prog, ret, bind, Go, done, goes_on, Costs}
use Rattle.verbs.specs.Calls.{SafeCall}
use Rattle.verbs.proofs.Calls.{SafeCall-more}
use Rattle.race_laws.specs.Setting.{Setting, hash}
use Rattle.race_laws.specs.Legal.{Legal}
use Rattle.log_facts.specs.Among.{changes_of}
use Rattle.log_facts.specs.Entries.{Unchanging}
use Rattle.log_facts.specs.Start.{Start}
use Rattle.log_facts.specs.Reached.{Reached}
use Rattle.log_facts.proofs.Mine.{mine_others}
use Rattle.log_facts.proofs.Reached.{reached_first, reached_most, reached_before}
use Rattle.log_facts.proofs.Starts.{start_before}
use Rattle.log_facts.proofs.Suffixes.{aimed}
use Rattle.pass_text.specs.declared.job.PassMode.TheVariants.{Walk}
use Rattle.pass_text.specs.declared.passed.Passed.{Passed}
use Rattle.pass_text.specs.declared.passed.PassEnd.{PassEnd}
use Rattle.pass_text.specs.declared.passed.PassEnd.TheVariants.{Held, Clear, Gone, Spent}
use Rattle.pass_text.specs.Pass.{pass}
use Rattle.pass_text.specs.Bound.{most_verbs, pass_verbs}
use Rattle.pass_text.proofs.Bounds.{pass-within}
use Rattle.pass_laws.specs.Drops.{Drops}
use Rattle.pass_laws.specs.SafeIn.{SafeBy}
use Rattle.pass_laws.specs.HasPassed.{HasPassed, StayedAt, EndsSo}
use Rattle.pass_laws.specs.Law.{MayBegin}
use Rattle.pass_laws.proofs.Rules.{Holds, by_kept, by_weaker}
use Rattle.pass_laws.proofs.Whole.{pass_safe}
use Rattle.call_laws.specs.Judged.{judged}
use Rattle.call_laws.proofs.QuietParts.{quiet_bind}
use Rattle.dir_cache.specs.Cached.{Cached, entry_of}
use Rattle.block_taking.specs.declared.taking.Area.{Area}
use Rattle.block_taking.specs.Holdings.{Owns}
use Rattle.op_insert.specs.Text.{is_plain_at}
use Rattle.split_text.specs.declared.site.SplitJob.{SplitJob}
use Rattle.split_text.specs.declared.site.Ticket.{Ticket}
use Rattle.split_text.specs.declared.resized.ResizeEnd.{ResizeEnd}
use Rattle.split_text.specs.declared.resized.ResizeOutcome.{ResizeOutcome}
use Rattle.split_text.specs.declared.resized.ResizeOutcome.TheVariants as split
use Rattle.split_text.specs.Text.{resize, resume}
use Rattle.begin_laws.specs.Law.{MaySplit}
use Rattle.split_laws.specs.Ticket.{Fits}
use Rattle.split_laws.specs.Law.{SplitBy, EndSo, Fewer, HasSplit, ResumedSo, HasResumed}
use Rattle.split_laws.proofs.Whole.{whole_safe, resume_safe}
use Rattle.call_texts.specs.State.{State, Caller, caller_of, CallEnd, Stage, walking}
use Rattle.call_texts.specs.Text.{part_of, split_job, walk_job, after_own, after_walk, walk_part, resize_call}
use Rattle.call_texts.specs.Bound.{split_most, round_most, call_most}
use Rattle.call_bounds.specs.Bound.{loss_most}
use Rattle.call_bounds.proofs.Splits.{splits_cost, resumes_cost}
use Rattle.call_bounds.proofs.Fitting.{rounds_fit}
use Rattle.whole_calls.specs.Fits.{TicketFits}
use Rattle.whole_calls.specs.Right.{Right, Cause}
use Rattle.whole_calls.specs.Law.{IsSafeWithin, MayCall, ResizeIsSafe}
use Rattle.whole_calls.proofs.Inside.{quiet_costs}
use Rattle.whole_calls.proofs.Points.{not_read, false_true, told, own_state, state_is, may_walk}
use Rattle.whole_calls.proofs.Depths.{Full, full_on}
use Rattle.whole_calls.proofs.Inserting.{plain_head, plain_not, head_depth, unseen}
use Rattle.whole_calls.proofs.Walking.{walk_low, walk_deeper, walk_full, walk_new}

equal_test : (x y : ℕ) → (x == y) ≡ true → x ≡ y
equal_test x y h = grind (arith, nat_tests)

module _ (s : Setting) (c tries : ℕ) (key : List ℕ) (bytes : AreBytes key) (cache : Cached) (ticket0 : Option Ticket) (area : Area) (first : Entries) where
  abbrev k : State
  k = own_state s c tries cache ticket0 area

  abbrev h : ℕ
  h = hash s key

  abbrev part : Stage → Prog (Go Stage CallEnd)
  part = part_of

  abbrev who : Caller
  who = caller_of k h

  abbrev Ends : List Change → Entries → CallEnd → Type 0
  Ends b l e = Right s c (Resize key) k first b l e

  abbrev Goes : ℕ → List Change → Entries → Prog (Go Stage CallEnd) → Type 0
  Goes n b l p = SafeCall (judged s c part) n b l (goes_on part p) Ends

  abbrev split_acts : ℕ
  split_acts = split_most s.geometry

  -- a walk and a split, but for the lost swaps
  abbrev round : ℕ
  round = most_verbs s.geometry.max_depth + split_acts

  -- so many of them more, while so many swaps may be lost
  abbrev budget : ℕ → ℕ → ℕ
  budget left parts = loss_most * left + parts * round

  answered : (split : Option ℕ) (reply : Reply) (t : Option ℕ) (ticket : Option Ticket) (d : List Change) (m : Entries) → is_change reply ≡ false → is_quiet reply ≡ false → Cause s c (Resize key) k (reverse first) (reverse m) reply → ((u : ℕ) → t ≡ Some u → Start s.geometry (reverse m) h u) → Owns s c area (reverse m) → TicketFits s c ticket (reverse m) → changes_of s m ≡ d
      → Ends d m (record { reply = reply; source = 0; target = 0; hash = h; table = t; forgotten = []; split = split; area = area; ticket = ticket })
  answered split reply t ticket d m x y cause st ow tk same = record {
    changing = λ e. absurd (false_true (sym x ∙ e));
    staying = λ e. same;
    quiet = λ e. absurd (false_true (sym y ∙ e));
    read = not_read s (Resize key) (reverse first) (reverse m) reply 0 0 y;
    cause = cause;
    of_key = refl;
    start = st;
    owns = ow;
    ticket = tk;
  }

  -- a split that is done, of this table at this depth
  split_done : (t : Option ℕ) (v d u e : ℕ) (b : List Change) (y : Entries) → u ≡ v → e ≡ d + 1 → SplitBy s c v (d + 1) (reverse y) → ((w : ℕ) → t ≡ Some w → Start s.geometry (reverse y) h w) → Owns s c area (reverse y) → changes_of s y ≡ b
      → Ends b y (record { reply = Split u e; source = 0; target = 0; hash = h; table = t; forgotten = []; split = Some u; area = area; ticket = None })
  split_done t v d u e b y eu ee sb st ow same =
      answered (Some u) (Split u e) t None b y refl refl (subst (λ x. SplitBy s c x e (reverse y)) (sym eu) (subst (λ x. SplitBy s c v x (reverse y)) (sym ee) sb)) st ow tt same

  -- the split of a ticket has ended
  resume_ends : (tk : Ticket) (y : Entries) (b : List Change) → Owns s c area (reverse y) → (r : ResizeEnd) (o : ResizeOutcome) → ResumedSo s c tk.site.table tk.site.depth (reverse y) r.left o → changes_of s y ≡ b → Goes (loss_most * r.left + 0) b y (after_own who key area None r.left o)
  resume_ends tk y b ow r (split.Split u d) so same = split_done None tk.site.table tk.site.depth u d b y so.0 so.1 so.2 (λ w q. absurd (cc)) ow same
  resume_ends tk y b ow r (split.Again (Some ticket)) so same = answered None (Again tries) None (Some ticket) b y refl refl refl (λ w q. absurd (cc)) ow so.0 same
  resume_ends tk y b ow r split.Changed so same = absurd so
  resume_ends tk y b ow r split.Locked so same = absurd so
  resume_ends tk y b ow r (split.Again None) so same = absurd so
  resume_ends tk y b ow r (split.FullWords next need) so same = absurd so

  resume_call_safe : (tk : Ticket) → Legal s (reverse first) → Owns s c area (reverse first) → Fits s c tk (reverse first) → 1 ≤ tries → Goes (split_acts + loss_most * tries + 0) (changes_of s first) first (bind (resume tk tries) (λ r. after_own who key area None r.left r.outcome))
  resume_call_safe tk l ow ft some =
      quiet_costs s c part (resume tk tries) (λ r. after_own who key area None r.left r.outcome) (λ y r. HasResumed s c tk.site.table tk.site.depth tries (reverse first) y r) Ends (λ r. loss_most * r.left) (split_acts + loss_most * tries) 0 (changes_of s first) first
      (subst (λ (g : Geometry). Costs (λ (r : ResizeEnd). loss_most * r.left) (split_most g + loss_most * tries) (resume tk tries)) ft.geometry (resumes_cost tk tries some)) refl
      (subst (λ v. SafeBy Unchanging s v (reverse first) (resume tk tries) (λ y r. HasResumed s v tk.site.table tk.site.depth tries (reverse first) y r)) ft.client
      (resume_safe s tk (reverse first) l (subst (λ v. Fits s v tk (reverse first)) (sym ft.client) ft) tries some))
      (λ y r b g same. resume_ends tk y b (g.untouched area.at area.left ow).0 r r.outcome g.so same)

  -- what a walk starts with
  record Now (rank : ℕ) (l : Entries) (start : Option ℕ) (left : ℕ) : Type 0 where
    legal : Legal s (reverse l)
    since : Before (reverse first) (reverse l)
    begin : MayBegin s key Walk (reverse l) start
    owns : Owns s c area (reverse l)
    some : 1 ≤ left
    few : left ≤ tries
    reach : ℕ
    reached : Reached s key (reverse l) reach
    full : Option ℕ
    seen : Full s key (reverse l) full
    count : left - 1 + (s.geometry.max_depth - reach) + unseen full < rank
    no_ticket : ticket0 ≡ None

  abbrev walk_from : Option ℕ → ℕ → Prog (Go Stage CallEnd)
  walk_from start left = walk_part who key area start left

  module _ (less : ℕ) (l0 : Entries) (start0 : Option ℕ) (left0 : ℕ) (x : Now (suc less) l0 start0 left0) (ih : (d : List Change) (m : Entries) (start : Option ℕ) (left : ℕ) → Now less m start left → changes_of s m ≡ d → SafeCall (judged s c part) (budget left less) d m (part (walking who key start left area)) Ends) where
    module _ (p : Passed) (m : Entries) (l : Legal s (reverse m)) (bm : Before (reverse l0) (reverse m)) (st : Start s.geometry (reverse m) h p.table) (ow : Owns s c area (reverse m)) (w : StayedAt s key (reverse l0) (reverse m) p) where
      abbrev job : SplitJob
      job = split_job who p.table p.head.depth

      may_split : MaySplit s (reverse m) job
      may_split =
          let a = aimed s key w.till l p.table (header_of (Some p.head)) w.start w.head w.stays in
          record { geometry = refl; table = a.0; suffix = a.1 ∙ ap (λ v. h % 2 ^ v) (head_depth p.head); low = mod_below h (2 ^ p.head.depth) (pow_pos p.head.depth) }

      start_less : (y : Entries) (b : List Change) (left reach : ℕ) (full : Option ℕ) → Legal s (reverse y) → Before (reverse m) (reverse y) → Owns s c area (reverse y) → 1 ≤ left → left ≤ tries → Reached s key (reverse y) reach → Full s key (reverse y) full → left - 1 + (s.geometry.max_depth - reach) + unseen full < less → changes_of s y ≡ b
          → SafeCall (judged s c part) (budget left less) b y (part (walking who key (Some p.table) left area)) Ends
      start_less y b left reach full ly by2 owy some few rc fs count same =
          ih b y (Some p.table) left (record { legal = ly; since = Before-trans x.since (Before-trans bm by2); begin = start_before s by2 ly h p.table st; owns = owy; some = some; few = few; reach = reach; reached = rc; full = full; seen = fs; count = count; no_ticket = x.no_ticket }) same

      own_ends : is_plain_at s.geometry.max_depth p.head ≡ false → (y : Entries) (b : List Change) → Legal s (reverse y) → Before (reverse m) (reverse y) → Owns s c area (reverse y) → (r : ResizeEnd) (o : ResizeOutcome) → EndSo s c (reverse m) p.table p.head.depth (reverse y) r.left o → Fewer left0 r.left o → changes_of s y ≡ b
          → Goes (budget r.left less) b y (after_own who key area (Some p.table) r.left o)
      own_ends nf y b ly by2 owy r (split.Split u d) so le same = split_done (Some p.table) p.table p.head.depth u d b y so.0 so.1 so.2 (λ w2 q. told (Start s.geometry (reverse y) h) p.table w2 q (start_before s by2 ly h p.table st)) owy same
      own_ends nf y b ly by2 owy r split.Locked so le same =
          let few = x.few in
          let count = x.count in
          let some = so.1 in
          start_less y b r.left x.reach x.full ly by2 owy so.1 (omega arith) (reached_before s key (Before-trans bm by2) ly x.reach x.reached) (full_on s key (Before-trans bm by2) ly x.full x.seen) (omega arith) same
      own_ends nf y b ly by2 owy r (split.Again None) so le same = answered None (Again tries) (Some p.table) None b y refl refl refl (λ w2 q. told (Start s.geometry (reverse y) h) p.table w2 q (start_before s by2 ly h p.table st)) owy tt same
      own_ends nf y b ly by2 owy r (split.Again (Some ticket)) so le same = answered None (Again tries) (Some p.table) (Some ticket) b y refl refl refl (λ w2 q. told (Start s.geometry (reverse y) h) p.table w2 q (start_before s by2 ly h p.table st)) owy so.0 same
      own_ends nf y b ly by2 owy r (split.FullWords next need) so le same =
          answered None (FullWords next need) (Some p.table) None b y refl refl
          (so.0, so.1, (λ n low. let z = so.2 n low in record { at = z.at; from_then = Before-trans (Before-trans x.since bm) z.from_then; till = z.till; read = z.read; past = z.past }), tt)
          (λ w2 q. told (Start s.geometry (reverse y) h) p.table w2 q (start_before s by2 ly h p.table st)) owy tt same
      own_ends nf y b ly by2 owy r split.Changed so le same = by (p.head.depth == s.geometry.max_depth) refl
        where
          at_top : p.head.depth ≡ s.geometry.max_depth → (o : Option ℕ) → x.full ≡ o → Full s key (reverse l0) o → SafeCall (judged s c part) (budget r.left less) b y (part (walking who key (Some p.table) r.left area)) Ends
          at_top t None o g =
              let one = ap unseen o in
              let few = x.few in
              let count = x.count in
              let some = so.1 in
              start_less y b r.left x.reach (Some p.table) ly by2 owy so.1 (omega arith) (reached_before s key (Before-trans bm by2) ly x.reach x.reached) (walk_full s c key (reverse l0) (reverse m) (reverse y) p w ly by2 so.0 t) (omega arith) same
          at_top t (Some u) o g = absurd (plain_not s.geometry.max_depth p.head nf (walk_new s c key (reverse l0) (reverse m) (reverse y) p w ly by2 so.0 t u g))

          low_depth : (a top : ℕ) → a ≤ top → (a == top) ≡ false → a < top
          low_depth a top e t = grind (arith, nat_tests, t)

          by : (v : Bool) → (p.head.depth == s.geometry.max_depth) ≡ v → SafeCall (judged s c part) (budget r.left less) b y (part (walking who key (Some p.table) r.left area)) Ends
          by true t = at_top (equal_test p.head.depth s.geometry.max_depth t) x.full refl x.seen
          by false t =
              let few = x.few in
              let count = x.count in
              let some = so.1 in
              let more = walk_deeper s c key (reverse l0) (reverse m) (reverse y) p w ly by2 so.0 (low_depth p.head.depth s.geometry.max_depth (walk_low s c key (reverse l0) (reverse m) (reverse y) p w ly by2 so.0) t) x.reach x.reached in
              let top = reached_most s (reverse y) ly key (x.reach + 1) more in
              start_less y b r.left (x.reach + 1) x.full ly by2 owy so.1 (omega arith) more (full_on s key (Before-trans bm by2) ly x.full x.seen) (omega arith) same

      abbrev Legally : Past → Type 0
      Legally y = Legal s y × Before (reverse m) y

      legally : Holds Unchanging s c Legally
      legally = record { others = λ y en le o g. (le, later g.1); own = λ y en le r g. (le, later g.1) }

      -- a split, and then what follows while so many swaps may be lost
      abbrev splitting : ℕ
      splitting = split_acts + loss_most * left0 + less * round

      walked_safe : (d : List Change) → changes_of s m ≡ d → Goes splitting d m (after_walk who key area left0 p)
      walked_safe d same = by (is_plain_at s.geometry.max_depth p.head) refl
        where
          by : (v : Bool) → is_plain_at s.geometry.max_depth p.head ≡ v → Goes splitting d m (cond v (ret (done (record { reply = FullDepth s.geometry.max_depth; source = 0; target = 0; hash = h; table = Some p.table; forgotten = []; split = None; area = area; ticket = None }))) (bind (resize job left0) (λ r. after_own who key area (Some p.table) r.left r.outcome)))
          by true v = answered None (FullDepth s.geometry.max_depth) (Some p.table) None d m refl refl
              (refl, (record { at = w.at; from_then = Before-trans x.since w.from_then; till = w.till; table = p.table; plain = inr (w.head ∙ plain_head s.geometry.max_depth p.head v) }, x.no_ticket))
              (λ w2 q. told (Start s.geometry (reverse m) h) p.table w2 q st) ow tt same
          by false v =
              quiet_costs s c part (resize job left0) (λ r. after_own who key area (Some p.table) r.left r.outcome) (λ y r. HasSplit s c p.table p.head.depth left0 (reverse m) y r × Legally y) Ends (λ r. loss_most * r.left) (split_acts + loss_most * left0) (less * round) d m
              (splits_cost job left0 x.some) same
              (by_kept Unchanging s c Legally legally (reverse m) (resize job left0) (λ y r. HasSplit s c p.table p.head.depth left0 (reverse m) y r) (l, here) (whole_safe s job (reverse m) l may_split left0 x.some))
              (λ y r b g same2. own_ends v y b g.1.0 g.1.1 (g.0.untouched area.at area.left ow).0 r r.outcome g.0.so g.0.fewer same2)

    abbrev Kept : Past → Type 0
    Kept y = Legal s y × (Before (reverse l0) y × Owns s c area y)

    walk_ends : (p : Passed) (e : PassEnd) (m : Entries) (opened : Past) → Before (reverse l0) opened → EndsSo s key Walk opened (reverse m) p e → StayedAt s key (reverse l0) (reverse m) p
    walk_ends p Clear m opened b so = record { at = so.at; from_then = Before-trans b so.from_then; till = so.till; start = so.start; head = so.head; stays = so.stays }
    walk_ends p (Held hw) m opened b so = absurd so
    walk_ends p Gone m opened b so = absurd so
    walk_ends p Spent m opened b so = absurd so

    round_safe : (d : List Change) → changes_of s l0 ≡ d → Goes (budget left0 (suc less)) d l0 (walk_from start0 left0)
    round_safe d same =
        SafeCall-more (judged s c part) Ends (pass_verbs (walk_job who key) + (split_acts + loss_most * left0 + less * round)) (budget left0 (suc less)) d l0 (goes_on part (walk_from start0 left0)) (enough (most_verbs s.geometry.max_depth) less)
        (quiet_bind s c part (pass (walk_job who key) start0) (after_walk who key area left0) (λ y p. HasPassed s key Walk (reverse l0) y p × Kept y) Ends (pass_verbs (walk_job who key)) (split_acts + loss_most * left0 + less * round) d l0
        (pass-within (walk_job who key) start0 s.geometry.deep) same
        (by_weaker (Drops Walk) s c Unchanging (λ y en r. absurd r) (reverse l0) (pass (walk_job who key) start0) (λ y p. HasPassed s key Walk (reverse l0) y p × Kept y) (λ y p. HasPassed s key Walk (reverse l0) y p × Kept y) (λ n a z. z)
        (by_kept (Drops Walk) s c Kept (record { others = λ y en le o g. (le, (later g.1.0, mine_others s y en le c area.at area.left o g.1.1)); own = λ y en le r g. absurd r }) (reverse l0) (pass (walk_job who key) start0) (λ y p. HasPassed s key Walk (reverse l0) y p)
        (x.legal, (here, x.owns)) (pass_safe s c (walk_job who key) (record { geometry = refl; hash = refl; bytes = bytes }) start0 (reverse l0) x.legal x.begin)))
        (λ m p d2 e same2. walked_safe p m e.1.0 e.1.1.0 e.0.start e.1.1.1 (walk_ends p p.end m e.0.opened e.0.from_then e.0.so) d2 same2))
      where
        enough : (v n : ℕ) → v + 138 * 0 + (split_acts + loss_most * left0 + n * (v + split_acts)) ≤ loss_most * left0 + suc n * (v + split_acts)
        enough v n = let z = suc-mul n (v + split_acts) in omega arith

  -- a walk begins with an act
  begins : (start : Option ℕ) (left : ℕ) → goes_on part (walk_from start left) ≡ walk_from start left
  begins None left = refl
  begins (Some t) left = refl

  walk_safe : (rank : ℕ) (d : List Change) (m : Entries) (start : Option ℕ) (left : ℕ) → Now rank m start left → changes_of s m ≡ d → SafeCall (judged s c part) (budget left rank) d m (part (walking who key start left area)) Ends
  walk_safe zero d m start left x same = absurd (let y = x.count in omega arith)
  walk_safe (suc less) d m start left x same =
      subst (λ v. SafeCall (judged s c part) (budget left (suc less)) d m v Ends) (begins start left) (round_safe less m start left x (λ d2 m2 start2 left2 y e2. walk_safe less d2 m2 start2 left2 y e2) d same)

  few_ranks : (t n : ℕ) → 1 ≤ t → t - 1 + n + 1 < t + n + 1
  few_ranks t n one = omega arith

  -- so many walks
  abbrev ranks : ℕ
  ranks = tries + (s.geometry.max_depth - s.geometry.first_depth) + 1

  ranks_fit : budget tries ranks ≤ call_most s.geometry tries
  ranks_fit = let fit = rounds_fit ranks tries round (round_most s.geometry) (tries + 2 * s.geometry.max_depth + 4) (omega arith) (omega arith) (omega arith) in omega (arith, fit)

  resize_safe : Legal s (reverse first) → MayCall s c k (Resize key) first → (o : Option Ticket) → ticket0 ≡ o → TicketFits s c o (reverse first)
      → Goes (call_most s.geometry tries) (changes_of s first) first (resize_call who key (entry_of cache h) area o)
  resize_safe lg m (Some tk) e ft =
      SafeCall-more (judged s c part) Ends (split_acts + loss_most * tries + 0) (call_most s.geometry tries) (changes_of s first) first (goes_on part (bind (resume tk tries) (λ r. after_own who key area None r.left r.outcome)))
      (let fit = ranks_fit in let one = one_round (tries + (s.geometry.max_depth - s.geometry.first_depth)) in omega (arith, fit, one)) (resume_call_safe tk lg m.fits.owns ft m.some)
    where
      one_round : (n : ℕ) → split_acts ≤ (n + 1) * round
      one_round n = let w = add_one n round in omega arith
        where
          add_one : (n r : ℕ) → (n + 1) * r ≡ n * r + r
          add_one n r = omega arith
  resize_safe lg m None e ft =
      subst (λ v. SafeCall (judged s c part) (call_most s.geometry tries) (changes_of s first) first v Ends) (sym (begins (entry_of cache h) tries))
      (SafeCall-more (judged s c part) Ends (budget tries ranks) (call_most s.geometry tries) (changes_of s first) first (part (walking who key (entry_of cache h) tries area)) ranks_fit
      (walk_safe ranks (changes_of s first) first (entry_of cache h) tries
      (record {
        legal = lg;
        since = here;
        begin = may_walk s c k key h (reverse first) (λ t e. m.fits.starts h t e);
        owns = m.fits.owns;
        some = m.some;
        few = at_most tries;
        reach = s.geometry.first_depth;
        reached = reached_first s (reverse first) lg key;
        full = None;
        seen = tt;
        count = few_ranks tries (s.geometry.max_depth - s.geometry.first_depth) m.some;
        no_ticket = e;
      }) refl))
    where
      at_most : (n : ℕ) → n ≤ n
      at_most n = omega arith

-- for each state that fits
pub resize_is_safe_call : ResizeIsSafe
resize_is_safe_call s c k key l lg m =
    let e = state_is s c k m.fits.geometry m.fits.client in
    subst (λ (v : State). IsSafeWithin (call_most s.geometry v.tries) s c v (Resize key) l) (sym e)
    (resize_safe s c k.tries key m.is_call k.cache k.ticket k.area l lg (subst (λ v. MayCall s c v (Resize key) l) e m) k.ticket refl m.fits.ticket)
