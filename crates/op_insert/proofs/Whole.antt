-- A whole insert, by the text: a number falls each time that it starts again.
use Rattle.std.specs.Prelude.{◌≡◌, ℕ, zero, suc, ◌+◌, ◌-◌, ◌*◌, ◌<◌, ◌≤◌, Bool, true, false, cond, nat_le, List, reverse, Option, Some, None, refl}
use Rattle.std.proofs.Common.{sym, ◌∙◌, ap, subst, arith}
use Rattle.std.proofs.Math.Nat.{suc-mul}
use Rattle.std.proofs.lemmas.Bool.Decides.{nat_tests}
use Rattle.kv_block.specs.declared.changes.Change.{Change}
use Rattle.kv_block.specs.Packing.{Pair, IsPair, packed}
use Rattle.kv_block.proofs.Packed.{packed_most}
use Rattle.node_words.specs.Addresses.{slot_at}
use Rattle.verb_log.specs.declared.entry.Verb.TheVariants.{Swap}
use Rattle.verb_log.specs.Changes.{changes}
use Rattle.verb_log.specs.Tables.{Past, Before, here, later, word_at}
use Rattle.verb_log.proofs.Positions.{Before-trans}
use Rattle.verbs.specs.Logs.{Entries}
use Rattle.verbs.specs.Programs.{Prog, ask, do_verb, bind}
use Rattle.race_laws.specs.Setting.{Setting, hash}
use Rattle.race_laws.specs.Legal.{Legal}
use Rattle.log_facts.specs.Since.{change_in}
use Rattle.log_facts.specs.Start.{Start}
use Rattle.log_facts.specs.Among.{changes_of}
use Rattle.log_facts.specs.Beside.{mild, uses_lock}
use Rattle.log_facts.specs.Reached.{Reached}
use Rattle.log_facts.proofs.Growing.{since_before}
use Rattle.log_facts.proofs.Within.{slot_within}
use Rattle.log_facts.proofs.Silent.{kept_since, kept_mine}
use Rattle.log_facts.proofs.Starts.{start_before}
use Rattle.log_facts.proofs.Reached.{reached_before, reached_most, reached_first}
use Rattle.log_facts.proofs.Places.{EachPlace, Placed_one, kept_places, none_placed}
use Rattle.pass_text.specs.declared.job.PassMode.TheVariants.{Look}
use Rattle.pass_laws.specs.SafeIn.{Calmly}
use Rattle.pass_laws.specs.Law.{MayBegin}
use Rattle.pass_laws.proofs.Rules.{Holds, by_kept}
use Rattle.call_laws.specs.Judged.{SafeOnce}
use Rattle.call_laws.proofs.Once.{once_more, once_bind, once_swap, once_found, once_lost}
use Rattle.block_taking.specs.declared.taking.Area.{Area}
use Rattle.block_taking.specs.Holdings.{Owns, KeptBlock}
use Rattle.op_insert.specs.declared.end.InsertEnd.{InsertEnd}
use Rattle.op_insert.specs.declared.end.InsertOutcome.TheVariants.{Inserted}
use Rattle.op_insert.specs.Text.{Inserting, Part, Result, to_commit, exists_with, start_again, left_again, spent, no_block, need_room, pending_word, live_word, parts_of, insert_part, ended, ends_again, after_commit, on_part, insert_from, insert}
use Rattle.op_insert.specs.Bound.{part_verbs, insert_verbs}
use Rattle.op_insert.specs.Law.{inserting_of, NonePending, HasInserted, IsSafeInsert, InsertIsSafe}
use Rattle.op_insert.proofs.PartEnds.{PartEnd, ToCommit, ResultSo, LeavesSo, FallsBy, none_pending, gone_pending}
use Rattle.op_insert.proofs.Parts.{part_safe}
use Rattle.op_insert.proofs.Committing.{commit_table, commit_meets, commit_kind, commit_change, commit_absent, commit_owns}
use Rattle.op_insert.proofs.Withdrawn.{none_both}
use Rattle.op_insert.proofs.Bounds.{part_bounded}
use Rattle.op_insert.proofs.Filling.{room_since}

-- the log at the end of a part is legal, and behind that at its beginning
legal_kept : (s : Setting) (c : ℕ) (from : Past) → Holds Calmly s c (λ q. Legal s q × Before from q)
legal_kept s c from = record { others = λ q e l o h. (l, later h.1); own = λ q e l r h. (l, later h.1) }

module _ (s : Setting) (c client : ℕ) (pair : Pair) (ip : IsPair pair) (tries : ℕ) (first : Entries) where
  abbrev i : Inserting
  i = inserting_of s client pair tries

  abbrev Ends : List Change → Entries → InsertEnd → Type 0
  Ends b l e = HasInserted s c i pair (reverse first) b l e

  abbrev Goes : ℕ → List Change → Entries → Prog InsertEnd → Type 0
  Goes n b l p = SafeOnce s c n b l p Ends

  -- what a part starts with
  pub record Begins (start kept : Option ℕ) (area : Area) (left rank : ℕ) (l : Entries) : Type 0 where
    pub legal : Legal s (reverse l)
    pub since : Before (reverse first) (reverse l)
    pub begin : MayBegin s pair.key Look (reverse l) start
    pub owns : Owns s c area (reverse l)
    pub keeps : KeptBlock s c (packed pair.key pair.value) kept area (reverse l)
    pub some : 1 ≤ left
    pub few : left ≤ tries
    pub reach : ℕ
    pub reached : Reached s pair.key (reverse l) reach
    pub count : left - 1 + (s.geometry.max_depth - reach) < rank
    pub none : NonePending s c (reverse first) (reverse l)

  module _ (n : ℕ) (ih : (start kept : Option ℕ) (area : Area) (left : ℕ) (d : List Change) (l : Entries) → Begins start kept area left n l → changes_of s l ≡ d → Goes (n * part_verbs i) d l (insert_from i n start kept area left))
      (start0 kept0 : Option ℕ) (area0 : Area) (left0 : ℕ) (l0 : Entries) (b0 : Begins start0 kept0 area0 left0 (suc n) l0) where
    -- no pending word of the insert stands after the part
    none_now : (m : Entries) → Legal s (reverse m) → Before (reverse l0) (reverse m) → NonePending s c (reverse l0) (reverse m) → NonePending s c (reverse first) (reverse m)
    none_now m lm bm np = none_both s c bm lm b0.none np

    -- the next part, with fewer swaps that may be lost, or with more reached
    next_safe : (t : ℕ) (kept : Option ℕ) (area : Area) (left reach : ℕ) (d : List Change) (m : Entries) → Legal s (reverse m) → Before (reverse l0) (reverse m) → Start s.geometry (reverse m) (hash s pair.key) t → Owns s c area (reverse m) → KeptBlock s c (packed pair.key pair.value) kept area (reverse m) → NonePending s c (reverse l0) (reverse m) → 1 ≤ left → left ≤ left0
        → Reached s pair.key (reverse m) reach → left - 1 + (s.geometry.max_depth - reach) < n → changes_of s m ≡ d → Goes (suc (n * part_verbs i)) d m (insert_from i n (Some t) kept area left)
    next_safe t kept area left reach d m lm bm st ow kb np some le rc less same =
        let few = b0.few in
        once_more s c Ends (n * part_verbs i) (suc (n * part_verbs i)) d m (insert_from i n (Some t) kept area left) (omega arith)
        (ih (Some t) kept area left d m (record { legal = lm; since = Before-trans b0.since bm; begin = st; owns = ow; keeps = kb; some = some; few = omega arith; reach = reach; reached = rc; count = less; none = none_now m lm bm np }) same)

    -- the Commit: won, the pair is inserted; lost, the insert starts again with a new block, while swaps may be lost
    module _ (part : Part) (m : Entries) (own at : ℕ) (tc : ToCommit s c i pair part.area (reverse m) own at) (some : 1 ≤ part.left) (le : part.left ≤ left0) (lm : Legal s (reverse m)) (bm : Before (reverse l0) (reverse m)) where
      abbrev slot : ℕ
      slot = slot_at tc.table tc.place

      abbrev lost_then : Prog InsertEnd
      lost_then = cond (nat_le part.left 1) (ends_again i part) (insert_from i n (Some part.table) None part.area (part.left - 1))

      lost_safe : (z : Entries) → Legal s (reverse z) → Before (reverse l0) (reverse z) → Start s.geometry (reverse z) (hash s pair.key) part.table → Owns s c part.area (reverse z) → NonePending s c (reverse l0) (reverse z) → Goes (n * part_verbs i) (changes_of s z) z lost_then
      lost_safe z lz bz st ow np = by (nat_le part.left 1) refl
        where
          by : (v : Bool) → nat_le part.left 1 ≡ v → Goes (n * part_verbs i) (changes_of s z) z (cond v (ends_again i part) (insert_from i n (Some part.table) None part.area (part.left - 1)))
          by true e = record { start = st; owns = ow; so = refl; stays = (refl, none_now z lz bz np) }
          by false e =
              let two : 2 ≤ part.left = grind (arith, nat_tests, e) in
              let count = b0.count in
              let few = b0.few in
              ih (Some part.table) None part.area (part.left - 1) (changes_of s z) z
              (record { legal = lz; since = Before-trans b0.since bz; begin = st; owns = ow; keeps = tt; some = omega arith; few = omega arith; reach = b0.reach; reached = reached_before s pair.key bz lz b0.reach b0.reached; count = omega arith; none = none_now z lz bz np }) refl

      abbrev swap_at : ℕ → Prog InsertEnd
      swap_at v = ask (do_verb None (Swap v (pending_word i at) (live_word i at))) (λ found. after_commit i at found part (insert_from i n (Some part.table)))

      commit_safe : (d : List Change) → Start s.geometry (reverse m) (hash s pair.key) part.table → Owns s c part.area (reverse m) → EachPlace s c (reverse l0) (Placed_one own (pending_word i at)) (reverse m) → changes_of s m ≡ d → Goes (suc (n * part_verbs i)) d m (ask (do_verb None (Swap own (pending_word i at) (live_word i at))) (λ found. after_commit i at found part (insert_from i n (Some part.table))))
      commit_safe d st ow lv same =
          subst (λ v. Goes (suc (n * part_verbs i)) d m (swap_at v)) (sym tc.own_is)
          (once_swap s c Ends slot (pending_word i at) (live_word i at) (n * part_verbs i) (λ found. after_commit i at found part (insert_from i n (Some part.table))) d m same
          (slot_within s (reverse m) lm tc.table tc.place (commit_table s c i pair part.area (reverse m) own at tc (reverse m) here) tc.is_place)
          (λ z lz sz.
          let bz = since_before sz in
          let stz = start_before s bz lz (hash s pair.key) part.table st in
          let owz = kept_since s c (Owns s c part.area) (kept_mine s c part.area.at part.area.left) sz lz ow in
          let onz = kept_since s c (EachPlace s c (reverse l0) (Placed_one slot (pending_word i at))) (kept_places s c (reverse l0) (Placed_one slot (pending_word i at))) sz lz (subst (λ v. EachPlace s c (reverse l0) (Placed_one v (pending_word i at)) (reverse m)) tc.own_is lv) in (
            (λ now.
                let me = commit_meets s c i pair part.area (reverse m) own at tc (reverse z) lz bz now in (
                  (me, mild (ap uses_lock (commit_kind s c i pair part.area (reverse m) own at tc (reverse z) lz bz now))),
                  λ r e. once_found s c Ends (word_at s.geometry (reverse z) slot) (pending_word i at) (n * part_verbs i) (changes_of s z) r (ended i (Inserted at) part) lost_then now
                      (record {
                        start = subst (λ v. Start s.geometry v (hash s pair.key) part.table) (sym e) (start_before s (later here) (lz, me) (hash s pair.key) part.table stz);
                        owns = subst (Owns s c part.area) (sym e) (commit_owns s c i pair part.area (reverse m) own at tc (reverse z) lz bz now owz);
                        so = record {
                          change = ap (changes s.geometry) e ∙ commit_change s c i pair part.area (reverse m) own at tc (reverse z) lz bz now;
                          absent = commit_absent s c i pair part.area (reverse m) own at tc (reverse z) lz bz now z refl;
                          last = change_in s.geometry c (reverse z) slot (live_word i at);
                          earlier = reverse z;
                          is_last = e;
                          client = refl;
                          commits = commit_kind s c i pair part.area (reverse m) own at tc (reverse z) lz bz now;
                          word = refl;
                        };
                        stays = tt;
                      }),
                )),
            (λ other. once_lost s c Ends (word_at s.geometry (reverse z) slot) (pending_word i at) (n * part_verbs i) (changes_of s z) z (ended i (Inserted at) part) lost_then other
                (lost_safe z lz (Before-trans bm bz) stz owz (gone_pending s c (reverse l0) (reverse z) slot (pending_word i at) onz other))),
          )))

    end_safe : (part : Part) (r : Result) (m : Entries) (d : List Change) → Legal s (reverse m) → Before (reverse l0) (reverse m) → Start s.geometry (reverse m) (hash s pair.key) part.table → Owns s c part.area (reverse m) → KeptBlock s c (packed pair.key pair.value) part.kept part.area (reverse m)
        → ResultSo s c i pair (reverse l0) (reverse m) part r → LeavesSo s c i (reverse l0) (reverse m) r → FallsBy left0 part.left r → changes_of s m ≡ d → Goes (suc (n * part_verbs i)) d m (on_part i part (insert_from i n (Some part.table)) r)
    end_safe part (exists_with h) m d lm bm st ow kb so lv fb same = record {
      start = st;
      owns = ow;
      so = record { at = so.at; from_then = Before-trans b0.since so.from_then; till = so.till; place = so.place; body = so.body; pair = so.pair; holder = so.holder; slot = so.slot; word = so.word; value = so.value };
      stays = (same, none_now m lm bm lv);
    }
    end_safe part spent m d lm bm st ow kb so lv fb same = record { start = st; owns = ow; so = refl; stays = (same, none_now m lm bm lv) }
    end_safe part (no_block next words) m d lm bm st ow kb so lv fb same = record {
      start = st;
      owns = ow;
      so = (
        so.0,
        so.1,
        (λ k low. let w = so.2 k low in record { at = w.at; from_then = Before-trans b0.since w.from_then; till = w.till; read = w.read; past = w.past }),
        lost_few part.left so.3,
      );
      stays = (same, none_now m lm bm lv);
    }
      where
        lost_few : (x : ℕ) → 1 ≤ x → tries - x < tries
        lost_few x h = let few = b0.few in let some = b0.some in omega arith
    end_safe part (need_room p) m d lm bm st ow kb so lv fb same = record {
      start = st;
      owns = ow;
      so = (room_since s i (reverse m) p b0.since so.0, so.1, kb, lost_few part.left so.2);
      stays = (same, none_now m lm bm lv);
    }
      where
        lost_few : (x : ℕ) → 1 ≤ x → tries - x < tries
        lost_few x h = let few = b0.few in let some = b0.some in omega arith
    end_safe part start_again m d lm bm st ow kb so lv fb same =
        let count = b0.count in
        next_safe part.table part.kept part.area part.left b0.reach d m lm bm st ow kb lv so (omega arith) (reached_before s pair.key bm lm b0.reach b0.reached) (omega arith) same
    end_safe part left_again m d lm bm st ow kb so lv fb same =
        let count = b0.count in
        let more = so.1 b0.reach b0.reached in
        let most = reached_most s (reverse m) lm pair.key (b0.reach + 1) more in
        let one = so.0 in
        next_safe part.table part.kept part.area part.left (b0.reach + 1) d m lm bm st ow kb lv so.0 fb more (omega arith) same
    end_safe part (to_commit own at) m d lm bm st ow kb so lv fb same = commit_safe part m own at so.0 so.1 fb lm bm d st ow lv same

  -- n parts at most
  from_safe : (n : ℕ) (start kept : Option ℕ) (area : Area) (left : ℕ) (d : List Change) (l : Entries) → Begins start kept area left n l → changes_of s l ≡ d → Goes (n * part_verbs i) d l (insert_from i n start kept area left)
  unfolding insert_from
  from_safe zero start kept area left d l b same = absurd (let x = b.count in omega arith)
  from_safe (suc n) start kept area left d l b same =
      once_more s c Ends (part_verbs i - 1 + suc (n * part_verbs i)) (suc n * part_verbs i) d l (bind (insert_part i start kept area left) (λ part. on_part i part (insert_from i n (Some part.table)) part.result)) (round n (part_verbs i) (omega arith))
      (once_bind s c Ends (insert_part i start kept area left) (λ part. on_part i part (insert_from i n (Some part.table)) part.result)
      (λ y part. PartEnd s c i pair left (reverse l) y part × (Legal s y × Before (reverse l) y)) (part_verbs i - 1) (suc (n * part_verbs i)) d l
      (part_bounded i (packed_most pair ip) start kept area left b.few).0 same
      (by_kept Calmly s c (λ y. Legal s y × Before (reverse l) y) (legal_kept s c (reverse l)) (reverse l) (insert_part i start kept area left) (λ y part. PartEnd s c i pair left (reverse l) y part) (b.legal, here)
      (part_safe s c client pair ip tries kept area left b.some (reverse l) b.legal start b.begin b.owns b.keeps))
      (λ m part d2 e same2. end_safe n (λ start2 kept2 area2 left2 d3 l3 b3 q3. from_safe n start2 kept2 area2 left2 d3 l3 b3 q3) start kept area left l b part part.result m d2 e.1.0 e.1.1 e.0.start e.0.owns e.0.kept e.0.so e.0.leaves e.0.falls same2))
    where
      round : (n v : ℕ) → 1 ≤ v → v - 1 + suc (n * v) ≤ suc n * v
      round n v h = let x = suc-mul n v in omega arith

-- an insert of any client, of a pair of bytes
pub insert_is_safe : InsertIsSafe
insert_is_safe i start kept area s c pair log l m =
    subst (λ v. SafeOnce s c (insert_verbs v) (changes_of s log) log (insert v start kept area) (HasInserted s c v pair (reverse log))) (sym m.is)
    (from_safe s c i.taking.client pair m.is_pair i.tries log (parts_of (inserting_of s i.taking.client pair i.tries)) start kept area i.tries (changes_of s log) log
    (record {
      legal = l;
      since = here;
      begin = m.begin;
      owns = m.owns;
      keeps = subst (λ (v : Inserting). KeptBlock s c v.taking.block kept area (reverse log)) m.is m.keeps;
      some = m.some;
      few = same i.tries;
      reach = s.geometry.first_depth;
      reached = reached_first s (reverse log) l pair.key;
      count = less i.tries (s.geometry.max_depth - s.geometry.first_depth) m.some;
      none = none_pending s c (reverse log) (reverse log) (none_placed s c (reverse log));
    }) refl)
  where
    same : (x : ℕ) → x ≤ x
    same x = omega arith

    less : (x d : ℕ) → 1 ≤ x → x - 1 + d < suc (x + d)
    less x d h = omega arith

-- a program that is the insert is safe as the insert is
pub safe_as_insert : (i : Inserting) (start kept : Option ℕ) (area : Area) (program : Prog InsertEnd) → program ≡ insert i start kept area → IsSafeInsert i start kept area program
safe_as_insert i start kept area program e = subst (IsSafeInsert i start kept area) (sym e) (insert_is_safe i start kept area)
