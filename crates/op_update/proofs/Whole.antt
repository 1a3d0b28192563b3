-- A whole update, as a call: by how many looks may still begin.
use Rattle.std.specs.Prelude.{◌≡◌, ◌≢◌, ℕ, zero, suc, ◌+◌, ◌-◌, ◌*◌, ◌<◌, ◌≤◌, ◌^◌, ◌==◌, Bool, true, false, cond, List, ◌∷◌, ◌++◌, reverse, length, slice_index, ◌%◌, Option, Some, None, refl, ◌⊎◌}
use Rattle.std.proofs.Common.{sym, ◌∙◌, ap, subst, arith, inl, inr}
use Rattle.std.proofs.Math.Nat.{mod-eq_of_lt}
use Rattle.std.proofs.lemmas.Bool.Decides.{nat_tests}
use Rattle.slot_word.specs.declared.slots.Mark.{Mark}
use Rattle.slot_word.specs.declared.slots.Mark.TheVariants.{Live, Copied}
use Rattle.kv_block.specs.declared.changes.Change.{Change}
use Rattle.kv_block.specs.Packing.{Pair, IsPair, packed}
use Rattle.kv_block.proofs.Packed.{packed_least, packed_most}
use Rattle.node_words.specs.declared.geometry.Geometry.{Geometry}
use Rattle.node_words.specs.Addresses.{slot_at}
use Rattle.bucket_group.specs.Buckets.{fingerprint_of}
use Rattle.verb_log.specs.declared.entry.Entry.{Entry}
use Rattle.verb_log.specs.declared.entry.Verb.TheVariants.{Swap}
use Rattle.verb_log.specs.declared.kind.Kind.TheVariants.{Replace}
use Rattle.verb_log.specs.Decoded.{Body, Full, content}
use Rattle.verb_log.specs.Tables.{Past, Before, here, later, word_at}
use Rattle.verb_log.specs.Changes.{changes}
use Rattle.verb_log.specs.Kinds.{kind}
use Rattle.verb_log.proofs.Positions.{Before-trans}
use Rattle.verbs.specs.Programs.{do_verb, Prog, ask, bind, Within}
use Rattle.verbs.specs.Logs.{Entries}
use Rattle.verbs.proofs.Progs.{Within-more}
use Rattle.race_laws.specs.Setting.{Setting, hash, print_of}
use Rattle.race_laws.specs.Standing.{place_in}
use Rattle.race_laws.specs.Chains.{Holder}
use Rattle.race_laws.specs.Legal.{Meets, Legal}
use Rattle.race_laws.proofs.Positions.{legal_before}
use Rattle.race_laws.proofs.SoundStep.{sound}
use Rattle.race_laws.proofs.Slots.{slot_is}
use Rattle.race_laws.proofs.Presence.{holder_home}
use Rattle.race_laws.proofs.Homes.{Stands, as_live, as_copy}
use Rattle.log_facts.specs.Start.{Start}
use Rattle.log_facts.specs.Since.{change_in, Since}
use Rattle.log_facts.specs.Since as sinces
use Rattle.log_facts.specs.Among.{changes_of}
use Rattle.log_facts.specs.Beside.{mild, uses_lock}
use Rattle.log_facts.specs.Mine.{Block}
use Rattle.log_facts.specs.SlotWords.{marked}
use Rattle.log_facts.proofs.Growing.{since_before}
use Rattle.log_facts.proofs.Starts.{start_before}
use Rattle.log_facts.proofs.Passings.{passed_between}
use Rattle.log_facts.proofs.Within.{slot_within}
use Rattle.log_facts.proofs.Known.{Known, known_before, holder_known, live_holder}
use Rattle.log_facts.proofs.Written.{block_within, says, block_packs}
use Rattle.log_facts.proofs.Silent.{kept_both, kept_before, kept_legal}
use Rattle.log_facts.proofs.Places.{EachPlace, None_placed, kept_places}
use Rattle.pass_text.specs.Words.{address_of}
use Rattle.pass_text.specs.declared.job.PassMode.TheVariants.{Look}
use Rattle.pass_text.specs.declared.passed.Held.{Held as HeldWord}
use Rattle.pass_text.specs.declared.passed.Passed.{Passed}
use Rattle.pass_text.specs.declared.passed.PassEnd.{PassEnd}
use Rattle.pass_text.specs.declared.passed.PassEnd.TheVariants.{Held, Clear, Gone, Spent}
use Rattle.pass_text.specs.Pass.{pass}
use Rattle.pass_text.specs.Bound.{most_verbs}
use Rattle.pass_laws.specs.SafeIn.{Calmly}
use Rattle.pass_laws.specs.HasPassed.{HasPassed, HeldAt, EndsSo}
use Rattle.pass_laws.specs.Law.{MayBegin, IsJobOf}
use Rattle.pass_laws.proofs.Rules.{by_weaker, by_kept}
use Rattle.block_taking.specs.declared.taking.Area.{Area}
use Rattle.block_taking.specs.declared.taking.TakeEnd.{TakeEnd}
use Rattle.block_taking.specs.declared.taking.TakeOutcome.{TakeOutcome}
use Rattle.block_taking.specs.declared.taking.TakeOutcome.TheVariants.{Taken as TakenBlock, NoBlock as NoRoom, Spent as SpentTakes}
use Rattle.block_taking.specs.Holdings.{Owns, KeptBlock}
use Rattle.block_taking.specs.Text.{take_block}
use Rattle.block_taking.specs.Bound.{taking_verbs}
use Rattle.block_taking.specs.Law.{WasFull, HasTaken, TakenSo}
use Rattle.block_taking.proofs.Own.{Quietly, quietly_holds}
use Rattle.block_taking.proofs.Bounds.{taking-within}
use Rattle.block_taking.proofs.Whole.{taking_safe}
use Rattle.call_laws.specs.Judged.{SafeOnce, PlacedNone}
use Rattle.call_laws.specs.Settling.{look_job}
use Rattle.call_laws.proofs.Changing.{replace_kind, replace_meets, replace_change}
use Rattle.call_laws.proofs.Once.{once_more, once_bind, once_swap, once_found, once_lost, placed_none, placed_more, placed_since}
use Rattle.call_laws.proofs.Settling.{settle_safe}
use Rattle.call_laws.proofs.Rounds.{one_more, all_rounds, look-within, look_calm}
use Rattle.op_update.specs.declared.end.UpdateEnd.{UpdateEnd}
use Rattle.op_update.specs.declared.end.UpdateOutcome.TheVariants.{Updated, Again}
use Rattle.op_update.specs.Text.{Plan, More, new_word, ended, after_replace, replace_word, with_block, after_take, on_held, on_end, after_look, again, update}
use Rattle.op_update.specs.Bound.{update_round, update_verbs}
use Rattle.op_update.specs.Law.{plan_of, HasUpdated, IsSafeUpdate, UpdateIsSafe}
use Rattle.op_update.proofs.Bounds.{update-within}
use Rattle.op_update.proofs.Kept.{owns_since, kept_block_since, owns_slot, kept_block_slot, owns_apart}

module _ (s : Setting) (c : ℕ) (g : Geometry) (client : ℕ) (pair : Pair) (ip : IsPair pair) (h : ℕ) (job : IsJobOf s (look_job g pair.key h)) (tries : ℕ) (some_tries : 1 ≤ tries) (from : Past) where
  abbrev u : Plan
  u = plan_of g client pair h tries

  abbrev ws : List ℕ
  ws = packed pair.key pair.value

  abbrev round : ℕ
  round = update_round u

  abbrev End : List Change → Entries → UpdateEnd → Type 0
  End before l e = HasUpdated s c pair tries from before (reverse l) e

  abbrev Goes : ℕ → List Change → Entries → Prog UpdateEnd → Type 0
  Goes n d l p = SafeOnce s c n d l p End

  -- what is known at each moment of the update, where its last look ended at table t, with this block kept and this area
  record At (kept : Option ℕ) (area : Area) (t : ℕ) (q : Past) : Type 0 where
    since : Before from q
    start : Start s.geometry q (hash s pair.key) t
    placed : PlacedNone s c from q
    owns : Owns s c area q
    block : KeptBlock s c ws kept area q

  at_since : (kept : Option ℕ) (area : Area) (t : ℕ) (y z : Past) → Since c y z → Legal s z → At kept area t y → At kept area t z
  at_since kept area t y z b l a = record {
    since = Before-trans a.since (since_before b);
    start = start_before s (since_before b) l (hash s pair.key) t a.start;
    placed = placed_since s c from b a.placed;
    owns = owns_since s c area b l a.owns;
    block = kept_block_since s c ws kept area b l a.block;
  }

  -- the answer of an end where fewer swaps were lost than might be, and where as many were
  fewer : (left : ℕ) → 1 ≤ left → tries - left < tries
  fewer left some = omega arith

  again_so : (kept : Option ℕ) (area : Area) (t left n : ℕ) (d : List Change) (l : Entries) → left ≡ 0 → At kept area t (reverse l) → changes_of s l ≡ d → Goes n d l (ended u Again t area left)
  again_so kept area t left n d l z a e = record { start = a.start; owns = a.owns; so = (e, omega arith); placed = a.placed }

  -- what follows a counted swap that was lost after a look at table t, where no more may be lost than looks may begin
  abbrev GoesAgain : ℕ → ℕ → More → Type 0
  GoesAgain n rounds more = (kept : Option ℕ) (area : Area) (left t : ℕ) (d : List Change) (l : Entries) → left ≤ rounds → Legal s (reverse l) → At kept area t (reverse l) → changes_of s l ≡ d → Goes n d l (more kept area left t)

  module _ (n rounds : ℕ) (fits : rounds + 1 ≤ tries) (more : More) (again_safe : GoesAgain n rounds more) where
    -- the live word of the block that was held is replaced by that of the client's block
    module _ (t : ℕ) (w : HeldWord) (place table : ℕ) (b : Body) (pr : Pair) (slot : w.at ≡ slot_at table place) (value : pr.value ≡ w.value) (held : (content w.word ≡ Full Live b) ⊎ (content w.word ≡ Full Copied b)) (at : ℕ) (area : Area) (left : ℕ) (some : 1 ≤ left) (low : left ≤ rounds + 1) where
      abbrev new : Body
      new = record { print = print_of s pair.key; length = length ws; at = at }

      new_is : (q : Past) → Legal s q → Block s c at ws q → new_word u at ≡ marked Live new
      unfolding new_word address_of
      new_is q l bl =
          let x = block_within s c at pair ip q l bl in
          let y = s.geometry.within in
          let two = packed_least pair ip in
          let a : at % 2 ^ 46 ≡ at = mod-eq_of_lt (omega arith) in
          ap (λ v. marked Live (record { print = fingerprint_of v; length = length ws; at = at % 2 ^ 46 })) job.hash ∙ ap (λ v. marked Live (record { print = print_of s pair.key; length = length ws; at = v })) a

      replaced : (live : ℕ) → content live ≡ Full Live b → (d : List Change) (m : Entries) → Legal s (reverse m) → Known s pair.key table place b pr (reverse m) → At (Some at) area t (reverse m) → changes_of s m ≡ d
          → Goes (suc n) d m (replace_word u more w t at area left live)
      replaced live lw d m l kn a e =
          subst (λ v. Goes (suc n) d m (ask (do_verb None (Swap v live (new_word u at))) (after_replace u more w t at area left live))) (sym slot)
          (subst (λ v. Goes (suc n) d m (ask (do_verb None (Swap (slot_at table place) live v)) (after_replace u more w t at area left live))) (sym (new_is (reverse m) l a.block.0))
          (once_swap s c End (slot_at table place) live (marked Live new) n (after_replace u more w t at area left live) d m e (slot_within s (reverse m) l table place kn.table kn.place) (λ z lz sz.
          let kz = known_before s pair.key table place b pr (since_before sz) lz kn in
          let az = at_since (Some at) area t (reverse m) (reverse z) sz lz a in (
            (λ now.
                let st : place_in s.geometry (reverse z) table place ≡ Full Live b = ap content now ∙ lw in
                let ho = live_holder s (reverse z) lz pair.key table place b pr kz st in
                let me = replace_meets s c (reverse z) lz pair ip at table place b pr ho st az.block.0 in (
                  (me, mild (ap uses_lock (replace_kind s c (reverse z) lz pair ip at table place b pr ho st az.block.0))),
                  λ r x. once_found s c End (word_at s.geometry (reverse z) (slot_at table place)) live n (changes_of s z) r (ended u (Updated w at) t area left) (more (Some at) area (left - 1) t) now (by z lz az st ho kz r x),
                )),
            (λ other. once_lost s c End (word_at s.geometry (reverse z) (slot_at table place)) live n (changes_of s z) z (ended u (Updated w at) t area left) (more (Some at) area (left - 1) t) other
                (again_safe (Some at) area (left - 1) t (changes_of s z) z (omega arith) lz az refl)),
          ))))
        where
          by : (z : Entries) → (lz : Legal s (reverse z)) → At (Some at) area t (reverse z) → (st : place_in s.geometry (reverse z) table place ≡ Full Live b) → (ho : Holder s (reverse z) pair.key table place b pr) → Known s pair.key table place b pr (reverse z)
              → (r : Entries) → reverse r ≡ change_in s.geometry c (reverse z) (slot_at table place) (marked Live new) ∷ reverse z → End (changes_of s z) r (record { outcome = Updated w at; table = t; area = area; lost = tries - left })
          by z lz az st ho kz r x = subst (λ q. HasUpdated s c pair tries from (changes_of s z) q (record { outcome = Updated w at; table = t; area = area; lost = tries - left })) (sym x) (record {
            start = start_before s (later here) (lz, me) (hash s pair.key) t az.start;
            owns = owns_apart s (reverse z) e2 c table place Live new area (slot_is s.geometry (reverse z) (sound s (reverse z) lz) table place kz.table kz.place) (says s c at pair ip (reverse z) lz az.block.0 Live) az.block.1 az.owns;
            so = (
              record {
                past = reverse z;
                entry = e2;
                last = refl;
                client = refl;
                at = sym slot;
                is_replace = kd;
                table = table;
                place = place;
                body = b;
                old = pr;
                slot = slot;
                holder = ho;
                live = st;
                held = held;
                value = value;
                new_body = new;
                new = says s c at pair ip (reverse z) lz az.block.0 Live;
                new_block = refl;
                packs = block_packs s c at pair ip (reverse z) lz az.block.0;
                told = refl;
                change = ap (λ (v : List Change). changes s.geometry (reverse z) ++ v) (replace_change s c (reverse z) lz pair ip at table place b pr ho st az.block.0);
              },
              fewer left some,
            );
            placed = placed_more s c from (reverse z) e2 (λ o k. let y = sym kd ∙ k in cc) az.placed;
          })
            where
              e2 : Entry
              e2 = change_in s.geometry c (reverse z) (slot_at table place) (marked Live new)

              me : Meets s (reverse z) e2
              me = replace_meets s c (reverse z) lz pair ip at table place b pr ho st az.block.0

              kd : kind s.geometry (reverse z) e2 ≡ Some Replace
              kd = replace_kind s c (reverse z) lz pair ip at table place b pr ho st az.block.0

    -- the look found this word held
    module _ (t : ℕ) (w : HeldWord) (x : Past) (m0 : Entries) (l0 : Legal s (reverse m0)) (ha : HeldAt s pair.key x (reverse m0) t w) where
      held : (content w.word ≡ Full Live ha.body) ⊎ (content w.word ≡ Full Copied ha.body)
      held = by (holder_home s ha.at (legal_before s ha.till l0) pair.key t ha.place ha.body ha.pair ha.holder).stands
        where
          stood : (mk : Mark) → place_in s.geometry ha.at t ha.place ≡ Full mk ha.body → content w.word ≡ Full mk ha.body
          stood mk p = ap content (sym ha.word ∙ ap (word_at s.geometry ha.at) ha.slot) ∙ p

          by : Stands s.geometry ha.at t ha.place ha.body → (content w.word ≡ Full Live ha.body) ⊎ (content w.word ≡ Full Copied ha.body)
          by (as_live p) = inl (stood Live p)
          by (as_copy p mo) = inr (stood Copied p)

      block_safe : (at : ℕ) (area : Area) (left : ℕ) → 1 ≤ left → left ≤ rounds + 1 → (d : List Change) (m : Entries) → Before (reverse m0) (reverse m) → Legal s (reverse m) → At (Some at) area t (reverse m) → changes_of s m ≡ d
          → Goes (suc (suc n)) d m (with_block u more w t at area left)
      block_safe at area left some low d m bm l a e =
          settle_safe s c End pair.key t ha.place ha.body ha.pair w ha.at ha.holder ha.slot ha.word
          (At (Some at) area t) (λ y z b lz i. at_since (Some at) area t y z b lz i)
          (λ z v lz k lw kd i.
          let en = change_in s.geometry c z (slot_at t ha.place) v in
          let ro = slot_is s.geometry z (sound s z lz.0) t ha.place k.table k.place in
          record {
            since = later i.since;
            start = start_before s (later here) lz (hash s pair.key) t i.start;
            placed = placed_more s c from z en (λ o q. let y = sym kd ∙ q in cc) i.placed;
            owns = owns_slot s z en lz c t ha.place Live ha.body area ro lw k.named i.owns;
            block = kept_block_slot s z en lz c t ha.place Live ha.body ws (Some at) area ro lw k.named i.block;
          })
          (suc n) (replace_word u more w t at area left) (more (Some at) area (left - 1) t)
          (λ live lw d2 m2 l2 b2 i2 e2. replaced t w ha.place t ha.body ha.pair ha.slot ha.value held at area left some low live lw d2 m2 l2
          (known_before s pair.key t ha.place ha.body ha.pair b2 l2 (holder_known s ha.at (legal_before s b2 l2) pair.key t ha.place ha.body ha.pair ha.holder)) i2 e2)
          (λ d2 m2 l2 b2 i2 e2. once_more s c End n (suc n) d2 m2 (more (Some at) area (left - 1) t) (omega arith) (again_safe (Some at) area (left - 1) t d2 m2 (omega arith) l2 i2 e2))
          d m l (Before-trans ha.till bm) a e

      -- a block was taken, or none could be
      taken_safe : (p : TakeEnd) (o : TakeOutcome) (d : List Change) (m : Entries) → TakenSo s c u.taking (reverse m0) (reverse m) p o → p.left ≤ rounds + 1 → Owns s c p.area (reverse m) → Before (reverse m0) (reverse m) → Legal s (reverse m)
          → Before from (reverse m0) → Start s.geometry (reverse m) (hash s pair.key) t → PlacedNone s c from (reverse m) → changes_of s m ≡ d → Goes (suc (suc n)) d m (after_take u more w t p o)
      taken_safe p (TakenBlock at) d m so few ow bm l bf st pl e =
          block_safe at p.area p.left so.2 few d m bm l (record { since = Before-trans bf bm; start = st; placed = pl; owns = ow; block = (so.0, so.1) }) e
      taken_safe p (NoRoom next words) d m so few ow bm l bf st pl e = record {
        start = st;
        owns = ow;
        so = (record { need = so.0; count = so.1; full = λ k low. subst (WasFull s from (reverse m) k (slice_index next k)) (sym so.0) (from_start k (slice_index next k) (so.2 k low)) }, e, fewer p.left so.3);
        placed = pl;
      }
        where
          from_start : (k next : ℕ) → WasFull s (reverse m0) (reverse m) k next (length ws) → WasFull s from (reverse m) k next (length ws)
          from_start k next f = record { at = f.at; from_then = Before-trans bf f.from_then; till = f.till; read = f.read; past = f.past }
      taken_safe p SpentTakes d m so few ow bm l bf st pl e = record { start = st; owns = ow; so = (e, spent p.left so); placed = pl }
        where
          spent : (x : ℕ) → x ≡ 0 → tries - x ≡ tries
          spent x z = omega arith

      held_safe : (kept : Option ℕ) (area : Area) (left : ℕ) → 1 ≤ left → left ≤ rounds + 1 → (d : List Change) → At kept area t (reverse m0) → changes_of s m0 ≡ d → Goes (taking_verbs u.taking tries + suc (suc n)) d m0 (on_held u more w t kept area left)
      held_safe (Some at) area left some low d a e = once_more s c End (suc (suc n)) (taking_verbs u.taking tries + suc (suc n)) d m0 (with_block u more w t at area left) (omega arith) (block_safe at area left some low d m0 here l0 a e)
      held_safe None area left some low d a e =
          once_bind s c End (take_block u.taking area left) (λ p. after_take u more w t p p.outcome)
          (λ y p. HasTaken s c u.taking left (reverse m0) y p × (Legal s y × (Before (reverse m0) y × EachPlace s c from None_placed y))) (taking_verbs u.taking tries) (suc (suc n)) d m0
          (Within-more (taking_verbs u.taking left) (taking_verbs u.taking tries) (take_block u.taking area left) (omega arith) (taking-within u.taking area left)) e
          (by_weaker Quietly s c Calmly (λ y k r. r.1) (reverse m0) (take_block u.taking area left) _ _ (λ y p k. k)
          (by_kept Quietly s c Kept (quietly_holds s c Kept (kept_both s c (Legal s) (λ y. Before (reverse m0) y × EachPlace s c from None_placed y) (kept_legal s c) (kept_both s c (Before (reverse m0)) (EachPlace s c from None_placed) (kept_before s c (reverse m0)) (kept_places s c from None_placed)))) (reverse m0)
          (take_block u.taking area left) (λ y p. HasTaken s c u.taking left (reverse m0) y p) (l0, (here, a.placed))
          (taking_safe s c u.taking area left (reverse m0) l0 (record { geometry = job.geometry; least = packed_least pair ip; most = packed_most pair ip; owns = a.owns }) some)))
          (λ m p d2 k e2. taken_safe p p.outcome d2 m k.0.so (few p.left k.0.fewer) k.0.owns k.1.1.0 k.1.0 a.since (start_before s k.1.1.0 k.1.0 (hash s pair.key) t a.start) k.1.1.1 e2)
        where
          Kept : Past → Type 0
          Kept y = Legal s y × (Before (reverse m0) y × EachPlace s c from None_placed y)

          few : (x : ℕ) → x ≤ left → x ≤ rounds + 1
          few x le = omega arith

    end_safe : (kept : Option ℕ) (area : Area) (left : ℕ) → 1 ≤ left → left ≤ rounds + 1 → (x : Past) → Before from x → (p : Passed) (end : PassEnd) (d : List Change) (m : Entries) → EndsSo s pair.key Look x (reverse m) p end → Legal s (reverse m) → At kept area p.table (reverse m) → changes_of s m ≡ d
        → Goes (taking_verbs u.taking tries + suc (suc n)) d m (on_end u more kept area left p.table end)
    end_safe kept area left some low x bx p (Held w) d m so l a e = held_safe p.table w x m l so kept area left some low d a e
    end_safe kept area left some low x bx p Clear d m so l a e = record { start = a.start; owns = a.owns; so = (passed_between s pair.key None bx here so.clear.passed, e, fewer left some); placed = a.placed }
    end_safe kept area left some low x bx p Gone d m so l a e = absurd so
    end_safe kept area left some low x bx p Spent d m so l a e = absurd so

    -- what is kept through the look
    record Kept (kept : Option ℕ) (area : Area) (q y : Past) : Type 0 where
      legal : Legal s y
      since : Before q y
      placed : PlacedNone s c from y
      owns : Owns s c area y
      block : KeptBlock s c ws kept area y

    from_safe : (kept : Option ℕ) (area : Area) (left : ℕ) → 1 ≤ left → left ≤ rounds + 1 → (start : Option ℕ) (d : List Change) (l : Entries) → Legal s (reverse l) → Before from (reverse l) → PlacedNone s c from (reverse l) → Owns s c area (reverse l) → KeptBlock s c ws kept area (reverse l) → MayBegin s pair.key Look (reverse l) start → changes_of s l ≡ d
        → Goes (round + n) d l (bind (pass u.job start) (after_look u more kept area left))
    from_safe kept area left some low start d l lg bf pl ow kb beg e =
        subst (λ v. Goes v d l (bind (pass u.job start) (after_look u more kept area left))) (sum (most_verbs g.max_depth) (taking_verbs u.taking tries) n)
        (once_bind s c End (pass u.job start) (after_look u more kept area left) (λ y p. HasPassed s pair.key Look (reverse l) y p × Kept kept area (reverse l) y) (most_verbs g.max_depth) (taking_verbs u.taking tries + suc (suc n)) d l
        (look-within g pair.key h start) e
        (look_calm s c g pair.key h job start (reverse l) lg beg (Kept kept area (reverse l)) (λ y en ly o k. others y en ly o k) (record { legal = lg; since = here; placed = pl; owns = ow; block = kb }))
        (λ m p d2 x e2. end_safe kept area left some low x.0.opened (Before-trans bf x.0.from_then) p p.end d2 m x.0.so x.1.legal (record { since = Before-trans bf x.1.since; start = x.0.start; placed = x.1.placed; owns = x.1.owns; block = x.1.block }) e2))
      where
        others : (y : Past) (en : Entry) → Legal s (en ∷ y) → en.client ≢ c → Kept kept area (reverse l) y → Kept kept area (reverse l) (en ∷ y)
        others y en ly o k = record {
          legal = ly;
          since = later k.since;
          placed = placed_more s c from y en (λ x q. o x) k.placed;
          owns = owns_since s c area (sinces.more en sinces.same o) ly k.owns;
          block = kept_block_since s c ws kept area (sinces.more en sinces.same o) ly k.block;
        }

        sum : (k t n : ℕ) → k + (t + suc (suc n)) ≡ k + (t + 2) + n
        sum k t n = omega arith

  -- where the update starts again, or may lose no more
  again_safe : (n : ℕ) → n + 1 ≤ tries → GoesAgain (n * round) n (again u n)
  unfolding again
  again_safe zero fits kept area left t d l low lg a e = again_so kept area t left (0 * round) d l (omega arith) a e
  again_safe (suc n) fits kept area left t d l low lg a e = subst (λ v. Goes v d l (again u (suc n) kept area left t)) (one_more n round)
      (by (left == 0) refl (λ k. from_safe (n * round) n (omega arith) (again u n) (again_safe n (omega arith)) kept area left k (omega arith) (Some t) d l lg a.since a.placed a.owns a.block a.start e))
    where
      none : (x : ℕ) → (x == 0) ≡ true → x ≡ 0
      none x v = grind (arith, nat_tests)

      some : (x : ℕ) → (x == 0) ≡ false → 1 ≤ x
      some x v = grind (arith, nat_tests)

      by : (v : Bool) → (left == 0) ≡ v → (1 ≤ left → Goes (round + n * round) d l (bind (pass u.job (Some t)) (after_look u (again u n) kept area left))) → Goes (round + n * round) d l (cond v (ended u Again t area left) (bind (pass u.job (Some t)) (after_look u (again u n) kept area left)))
      by true v f = again_so kept area t left (round + n * round) d l (none left v) a e
      by false v f = f (some left v)

-- each update is safe
pub update_is_safe : UpdateIsSafe
update_is_safe g client pair ip h tries some area start s c log l job b ow =
    subst (λ v. SafeOnce s c v (changes_of s log) log (update (plan_of g client pair h tries) area start) (λ before log2 e. HasUpdated s c pair tries (reverse log) before (reverse log2) e)) (all_rounds tries (update_round (plan_of g client pair h tries)) some)
    (from_safe s c g client pair ip h job tries some (reverse log) ((tries - 1) * update_round (plan_of g client pair h tries)) (tries - 1) (omega arith) (again (plan_of g client pair h tries) (tries - 1)) (again_safe s c g client pair ip h job tries some (reverse log) (tries - 1) (omega arith))
    None area tries some (omega arith) start (changes_of s log) log l here (placed_none s c (reverse log)) ow tt b refl)

-- a program that is the update is safe as the update is, and has its bound
pub safe_as_update : (g : Geometry) (client : ℕ) (pair : Pair) → IsPair pair → (h tries : ℕ) → 1 ≤ tries → (area : Area) (start : Option ℕ) (program : Prog UpdateEnd) → program ≡ update (plan_of g client pair h tries) area start → IsSafeUpdate g client pair h tries area start program
safe_as_update g client pair ip h tries some area start program e = subst (IsSafeUpdate g client pair h tries area start) (sym e) (update_is_safe g client pair ip h tries some area start)

pub within_as_update : (g : Geometry) (client : ℕ) (pair : Pair) (h tries : ℕ) → 1 ≤ tries → (area : Area) (start : Option ℕ) (program : Prog UpdateEnd) → program ≡ update (plan_of g client pair h tries) area start → Within (update_verbs (plan_of g client pair h tries)) program
within_as_update g client pair h tries some area start program e = subst (Within (update_verbs (plan_of g client pair h tries))) (sym e) (update-within g client pair h tries some area start)
