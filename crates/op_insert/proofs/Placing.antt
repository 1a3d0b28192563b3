-- A block is placed, swept for, and withdrawn or left to be committed.
use Rattle.std.specs.Prelude.{◌≡◌, ◌≢◌, ℕ, ◌+◌, ◌-◌, ◌<◌, ◌≤◌, ◌==◌, ◌&&◌, Bool, true, false, cond, nat_le, nat_lt, ◌∷◌, length, Option, Some, None, refl}
use Rattle.std.proofs.Common.{sym, ◌∙◌, ap, subst, arith, ⊎_elim}
use Rattle.std.proofs.lemmas.Bool.Decides.{nat_tests}
use Rattle.slot_word.specs.declared.slots.Mark.{Mark}
use Rattle.slot_word.specs.declared.slots.Mark.TheVariants.{Pending}
use Rattle.kv_block.specs.Packing.{Pair, IsPair, packed}
use Rattle.node_words.specs.Addresses.{slot_at, table_words}
use Rattle.node_words.specs.Roles.{SlotWord}
use Rattle.verb_log.specs.declared.entry.Entry.{Entry}
use Rattle.verb_log.specs.declared.entry.Verb.TheVariants.{Swap}
use Rattle.verb_log.specs.declared.kind.Kind.TheVariants.{Place, Drop}
use Rattle.verb_log.specs.Decoded.{Body, Empty, Full, content}
use Rattle.verb_log.specs.Tables.{Past, Before, here, later, word_at, pair_at, role, publishes}
use Rattle.verb_log.specs.Changes.{changes_by}
use Rattle.verb_log.specs.Kinds.{kind, kind_of_role, slot_kind}
use Rattle.verb_log.proofs.Positions.{Before-trans}
use Rattle.verbs.specs.Programs.{ret, bind}
use Rattle.race_laws.specs.Setting.{Setting, hash, places}
use Rattle.race_laws.specs.Standing.{IsTable, header_in, place_in, key_header, IsFilling, IsIn, IsGone, Exits}
use Rattle.race_laws.specs.Chains.{OnChain}
use Rattle.race_laws.specs.Rows.{IsPlace, IsFresh}
use Rattle.race_laws.specs.Legal.{Meets, Legal}
use Rattle.race_laws.proofs.Positions.{legal_before}
use Rattle.race_laws.proofs.SoundStep.{sound, sounds, fresh_packs}
use Rattle.race_laws.proofs.Sound.{judged_is}
use Rattle.race_laws.proofs.Covers.{covered, table_before}
use Rattle.race_laws.proofs.Slots.{slot_is, slot_place_of, content-0}
use Rattle.race_laws.proofs.Touch.{word_put}
use Rattle.race_laws.proofs.Chain.{chain_table, chain_before}
use Rattle.race_laws.proofs.Presence.{candidate_place}
use Rattle.log_facts.specs.Since.{change_in}
use Rattle.log_facts.specs.Start.{Start, on_chain}
use Rattle.log_facts.specs.Mine.{Block}
use Rattle.log_facts.specs.Ready.{Ready}
use Rattle.log_facts.specs.Reached.{Stayed, Deeper}
use Rattle.log_facts.proofs.Growing.{since_before}
use Rattle.log_facts.proofs.Within.{slot_within}
use Rattle.log_facts.proofs.Following.{slot_meets}
use Rattle.log_facts.proofs.Mine.{mine_own}
use Rattle.log_facts.proofs.Mild.{slot_mild}
use Rattle.log_facts.proofs.Silent.{Kept, kept_since, kept_both, kept_mine, kept_before, kept_legal, zero_silent}
use Rattle.log_facts.proofs.Written.{body, block_packs, block_since}
use Rattle.log_facts.proofs.Readiness.{ready_before}
use Rattle.log_facts.proofs.Starts.{start_before, start_table}
use Rattle.log_facts.proofs.Reached.{stayed_later, deeper_before, gone_deeper}
use Rattle.log_facts.proofs.Passings.{passed_between}
use Rattle.log_facts.proofs.Places.{EachPlace, None_placed, Placed_one, kept_places, placed_now}
use Rattle.pass_text.specs.declared.job.Job.{Job}
use Rattle.pass_text.specs.declared.job.PassMode.TheVariants.{Sweep}
use Rattle.pass_text.specs.declared.passed.Passed.{Passed}
use Rattle.pass_text.specs.declared.passed.PassEnd.{PassEnd}
use Rattle.pass_text.specs.declared.passed.PassEnd.TheVariants.{Held, Clear, Gone, Spent}
use Rattle.pass_text.specs.Words.{has_own}
use Rattle.pass_text.specs.Pass.{pass}
use Rattle.pass_laws.specs.SafeIn.{MayBy, SafeIn, Calmly}
use Rattle.pass_laws.specs.Drops.{Drops}
use Rattle.pass_laws.specs.HasPassed.{HasPassed, EndsSo}
use Rattle.pass_laws.proofs.Rules.{by_weaker, by_bind, by_cond, by_kept}
use Rattle.pass_laws.proofs.Keeping.{drop_calmly, drops_holds}
use Rattle.pass_laws.proofs.Whole.{pass_safe}
use Rattle.block_taking.specs.declared.taking.Area.{Area}
use Rattle.block_taking.specs.Holdings.{Apart, Owns, KeptBlock}
use Rattle.op_insert.specs.Text.{Inserting, Part, exists_with, left_again, spent, sweep_of, pending_word, after_loss, withdraw, on_swept, after_sweep, place_block}
use Rattle.op_insert.specs.Law.{inserting_of, NonePending}
use Rattle.op_insert.proofs.PartEnds.{PartEnd, none_pending, gone_pending}
use Rattle.op_insert.proofs.Owning.{OwnSo, by_outcomes, pass_so}
use Rattle.op_insert.proofs.Words.{equal, differ, job_is, pending_says, live_says}

-- an entry on a slot that names a block publishes no words apart from it
pub slot_apart : (s : Setting) (q : Past) (e : Entry) (t p : ℕ) (m : Mark) (b : Body) (area : Area) → role s.geometry q e.at ≡ SlotWord t p → content e.new ≡ Full m b → Apart b.at b.length area → (x : ℕ) → area.at ≤ x → x < area.at + area.left → publishes s.geometry e (role s.geometry q e.at) x ≡ true → ⊥
slot_apart s q e t p m b area r n ap2 x h k z = let y = covered (content e.new) m b x n (subst (λ v. publishes s.geometry e v x ≡ true) r z) in ap2 x y.0 y.1 h k

-- a pending word may be dropped, which changes nothing in the map and uses no lock
module _ (s : Setting) (c : ℕ) (q : Past) (l : Legal s q) (t p : ℕ) (b : Body) (tb : IsTable s.geometry q t) (pl : IsPlace s.geometry p) (st : place_in s.geometry q t p ≡ Full Pending b) where
  pub drop_meets : Meets s q (change_in s.geometry c q (slot_at t p) 0)
  drop_meets = slot_meets s c q l t p 0 (Full Pending b) Empty (Some Drop) tb pl st content-0 refl tt

  drop_kind : kind s.geometry q (change_in s.geometry c q (slot_at t p) 0) ≡ Some Drop
  drop_kind = ap (kind_of_role s.geometry q (change_in s.geometry c q (slot_at t p) 0)) (judged_is s.geometry q (sound s q l) (slot_at t p) ∙ slot_is s.geometry q (sound s q l) t p tb pl) ∙ ap (λ v. slot_kind v (content 0)) st ∙ ap (slot_kind (Full Pending b)) content-0

  pub drop_calm : Calmly s c q (change_in s.geometry c q (slot_at t p) 0)
  drop_calm = (ap (changes_by s.geometry q (change_in s.geometry c q (slot_at t p) 0)) drop_kind, slot_mild s c q l t p 0 (Full Pending b) Empty tb pl st content-0 refl)

-- a table in whose words a slot of another one stands is that one
own_table : (s : Setting) (q : Past) → Legal s q → (j : Job) (t u p n : ℕ) → j.geometry ≡ s.geometry → j.mode ≡ Sweep (slot_at u p) n → IsTable s.geometry q t → IsTable s.geometry q u → IsPlace s.geometry p → has_own j t ≡ true → t ≡ u
unfolding has_own
own_table s q l j t u p n same md tt2 tu pl h =
    let so = sound s q l in
    let r = region t (slot_at u p) (table_words j.geometry) (by md h) in
    let r1 = subst (λ g. slot_at u p < t + table_words g) same r.1 in
    let mine = so.whole t t tt2 (slot_at u p) r.0 r1 in
    one (sym mine ∙ (slot_place_of s.geometry q so (slot_at u p) u p (slot_is s.geometry q so u p tu pl)).2)
  where
    one : {x y : ℕ} → Some x ≡ Some y → x ≡ y
    one h = cc

    by : j.mode ≡ Sweep (slot_at u p) n → has_own j t ≡ true → (nat_le t (slot_at u p) && nat_lt (slot_at u p) (t + table_words j.geometry)) ≡ true
    by e h = subst (λ m. has_own (record { geometry = j.geometry; key = j.key; hash = j.hash; mode = m }) t ≡ true) e h

    region : (t x w : ℕ) → (nat_le t x && nat_lt x (t + w)) ≡ true → (t ≤ x) × (x < t + w)
    region t x w h = two (nat_le t x) refl (nat_lt x (t + w)) refl h
      where
        two : (v : Bool) → nat_le t x ≡ v → (y : Bool) → nat_lt x (t + w) ≡ y → (v && y) ≡ true → (t ≤ x) × (x < t + w)
        two true e true f g = (grind (arith, nat_tests, e), grind (arith, nat_tests, f))
        two true e false f g = absurd (cc)
        two false e y f g = absurd (cc)

module _ (s : Setting) (c client : ℕ) (pair : Pair) (ip : IsPair pair) (tries most : ℕ) (from : Past) where
  abbrev i : Inserting
  i = inserting_of s client pair tries

  abbrev End : Past → Part → Type 0
  End q part = PartEnd s c i pair most from q part

  abbrev n0 : ℕ
  n0 = length (packed pair.key pair.value)

  -- a lost swap
  pub loss_safe : (t : ℕ) (kept : Option ℕ) (area : Area) (left : ℕ) (q : Past) → Start s.geometry q (hash s pair.key) t → Owns s c area q → KeptBlock s c (packed pair.key pair.value) kept area q → NonePending s c from q → 1 ≤ left → left ≤ most → SafeIn s c q (after_loss t kept area left) End
  loss_safe t kept area left q st ow kb np lv le =
      by_cond Calmly s c End q (nat_le left 1) _ _ (λ v. record { start = st; owns = ow; kept = kb; so = tt; leaves = np; falls = tt })
      (λ v. record { start = st; owns = ow; kept = kb; so = some left v; leaves = np; falls = omega arith })
    where
      some : (left : ℕ) → nat_le left 1 ≡ false → 1 ≤ left - 1
      some left v = grind (arith, nat_tests)

  module _ (t p at : ℕ) (cand : IsIn p (places s pair.key)) where
    plc : IsPlace s.geometry p
    plc = candidate_place s pair.key p cand

    abbrev own : ℕ
    own = slot_at t p

    -- the place may follow
    module _ (z : Past) (l : Legal s z) (ch : OnChain s.geometry z (hash s pair.key) t) (rd : Ready s t p z) (b : Block s c at (packed pair.key pair.value) z) (empty : word_at s.geometry z (slot_at t p) ≡ 0) where
      tz : IsTable s.geometry z t
      tz = chain_table s z l (hash s pair.key) t ch

      abbrev placing : Entry
      placing = change_in s.geometry c z (slot_at t p) (pending_word i at)

      abbrev bd : Body
      bd = body s c at pair ip z l b

      says_pending : content (pending_word i at) ≡ Full Pending bd
      says_pending = pending_says s c client pair ip tries at z l b

      on_slot : role s.geometry z (slot_at t p) ≡ SlotWord t p
      on_slot = slot_is s.geometry z (sound s z l) t p tz plc

      fresh : IsFresh s z c bd pair
      fresh = record { packs = block_packs s c at pair ip z l b; print = refl; unpublished = b.mine.hidden; taken = b.mine.taken }

      place_meets : Meets s z (change_in s.geometry c z (slot_at t p) (pending_word i at))
      place_meets = slot_meets s c z l t p (pending_word i at) Empty (Full Pending bd) (Some Place) tz plc (ap content empty ∙ content-0) says_pending refl
          (record { body = bd; pair = pair; word = says_pending; slot = record { candidate = cand; chain = ch }; filling = λ f. ⊎_elim (λ (x : IsFilling (header_in s.geometry z t) → ⊥). absurd (x f)) (λ x. x) rd; fresh = fresh })

      place_kind : kind s.geometry z (change_in s.geometry c z (slot_at t p) (pending_word i at)) ≡ Some Place
      place_kind = ap (kind_of_role s.geometry z placing) (judged_is s.geometry z (sound s z l) (slot_at t p) ∙ on_slot) ∙ ap (λ v. slot_kind v (content (pending_word i at))) (ap content empty ∙ content-0) ∙ ap (slot_kind Empty) says_pending

    -- after it: the sweep's end
    module _ (z : Past) (l : Legal s z) (ch : OnChain s.geometry z (hash s pair.key) t) (rd : Ready s t p z) (b : Block s c at (packed pair.key pair.value) z) (empty : word_at s.geometry z (slot_at t p) ≡ 0) (bf : Before from z) (area : Area) (apart : Apart at n0 area) (sd : Stayed s pair.key from z t) where
      abbrev placed : Entry
      placed = change_in s.geometry c z (slot_at t p) (pending_word i at)

      abbrev bd2 : Body
      bd2 = body s c at pair ip z l b

      pm : Meets s z placed
      pm = place_meets z l ch rd b empty

      lp : Legal s (placed ∷ z)
      lp = (l, pm)

      says2 : content (pending_word i at) ≡ Full Pending bd2
      says2 = says_pending z l ch rd b empty

      -- of this part no other place than this
      abbrev Only : Past → Type 0
      Only w = EachPlace s c from (Placed_one (slot_at t p) (pending_word i at)) w

      abbrev Then : Past → Past → Type 0
      Then y w = Legal s w × (Before y w × (Owns s c area w × Only w))

      then_kept : (y : Past) → Kept s c (Then y)
      then_kept y = kept_both s c (Legal s) (λ w. Before y w × (Owns s c area w × Only w)) (kept_legal s c) (kept_both s c (Before y) (λ w. Owns s c area w × Only w) (kept_before s c y) (kept_both s c (Owns s c area) Only (kept_mine s c area.at area.left) (kept_places s c from (Placed_one (slot_at t p) (pending_word i at)))))

      pending_some : pending_word i at ≢ 0
      pending_some zero = none (sym (ap content zero ∙ content-0) ∙ says2)
        where
          none : {m : Mark} {d : Body} → Empty ≡ Full m d → ⊥
          none h = cc

      table_then : (y : Past) → Legal s y → Before (placed ∷ z) y → IsTable s.geometry y t
      table_then y ly by2 = table_before s.geometry (Before-trans (later here) by2) t t (tz z l ch rd b empty)

      stands_then : (y : Past) → word_at s.geometry y (slot_at t p) ≡ pending_word i at → place_in s.geometry y t p ≡ Full Pending bd2
      stands_then y w = ap content w ∙ says2

      -- the own word is withdrawn, or was dropped
      withdraw_safe : (part : Part) (y : Past) → ((w : Past) → Legal s w → Before y w → Owns s c area w → NonePending s c from w → End w part) → Legal s y → Before (placed ∷ z) y → Owns s c area y → Only y → SafeIn s c y (withdraw i (slot_at t p) at (ret part)) End
      withdraw_safe part y f ly by2 ow on = (slot_within s y ly t p (table_then y ly by2) plc, λ w lw sw. by w lw (kept_since s c (Then y) (then_kept y) sw lw (ly, (here, (ow, on)))))
        where
          by : (w : Past) → Legal s w → Then y w → MayBy Calmly s c w (Swap (slot_at t p) (pending_word i at) 0) (λ v found. SafeIn s c v (ret part) End)
          by w lw h = (
            (λ now.
                let tw = table_then w lw (Before-trans by2 h.1.0) in
                let dm = drop_meets s c w lw t p bd2 tw plc (stands_then w now) in
                let e = change_in s.geometry c w (slot_at t p) 0 in
                let h2 = (then_kept y).silent w e (lw, dm) (zero_silent s w e refl) h in
                ((dm, drop_calm s c w lw t p bd2 tw plc (stands_then w now)), f (e ∷ w) (lw, dm) h2.1.0 h2.1.1.0 (gone_pending s c from (e ∷ w) (slot_at t p) (pending_word i at) h2.1.1.1 (λ v. pending_some (sym v ∙ word_put s.geometry w e (slot_at t p) refl))))),
            (λ other. f w lw h.1.0 h.1.1.0 (gone_pending s c from w (slot_at t p) (pending_word i at) h.1.1.1 other)),
          )

      named_then : pair_at s.geometry (placed ∷ z) bd2 ≡ Some pair
      named_then = fresh_packs s z placed l pm (sound s z l) (λ x k. sounds s x z k l) t p c bd2 pair (on_slot z l ch rd b empty) (fresh z l ch rd b empty)

      -- what a sweep's end says
      swept_end : (left : ℕ) → left ≤ most → (r : Passed) (e : PassEnd) (y : Past) → Start s.geometry y (hash s pair.key) r.table → (opened : Past) → Before (placed ∷ z) opened → EndsSo s pair.key (Sweep (slot_at t p) left) opened y r e → (e ≡ Gone → r.table ≡ t) → Legal s y → Before (placed ∷ z) y → Owns s c area y → Only y
          → SafeIn s c y (on_swept i (slot_at t p) at area left r e) End
      swept_end left le r (Held h) y st op bo so own ly by2 ow on = withdraw_safe (record { result = exists_with h; table = r.table; kept = None; area = area; left = left - r.lost }) y
          (λ w lw bw ow2 np. record {
            start = start_before s bw lw (hash s pair.key) r.table st;
            owns = ow2;
            kept = tt;
            so = let x = so.0 in record { at = x.at; from_then = Before-trans (Before-trans bf (Before-trans (later here) bo)) x.from_then; till = Before-trans x.till bw; place = x.place; body = x.body; pair = x.pair; holder = x.holder; slot = x.slot; word = x.word; value = x.value };
            leaves = np;
            falls = omega arith;
          }) ly by2 ow on
      swept_end left le r Gone y st op bo so own ly by2 ow on = withdraw_safe (record { result = left_again; table = r.table; kept = None; area = area; left = left - r.lost }) y
          (λ w lw bw ow2 np. record { start = start_before s bw lw (hash s pair.key) r.table st; owns = ow2; kept = tt; so = (more so.1, deeper_before s pair.key from (Before-trans so.0.till bw) lw deep); leaves = np; falls = omega arith }) ly by2 ow on
        where
          more : r.lost < left → 1 ≤ left - r.lost
          more h = omega arith

          deep : Deeper s pair.key from so.0.at
          deep = gone_deeper s pair.key from t sd (Before-trans (Before-trans (later here) bo) so.0.from_then) (legal_before s so.0.till ly) so.0.level
              (subst (λ v. Exits s so.0.at v pair.key so.0.level) (own refl) so.0.exits)
              (subst (λ v. IsGone (key_header s so.0.at v pair.key) so.0.level) (own refl) (subst (λ v. IsGone v so.0.level) (sym so.0.head) so.0.gone))
      swept_end left le r Spent y st op bo so own ly by2 ow on = withdraw_safe (record { result = spent; table = r.table; kept = None; area = area; left = 0 }) y
          (λ w lw bw ow2 np. record { start = start_before s bw lw (hash s pair.key) r.table st; owns = ow2; kept = tt; so = tt; leaves = np; falls = tt }) ly by2 ow on
      swept_end left le r Clear y st op bo so own ly by2 ow on = record {
        start = st;
        owns = ow;
        kept = tt;
        so = (
          record {
            table = t;
            place = p;
            own_is = refl;
            is_place = plc;
            body = bd2;
            pending = says2;
            live = live_says s c client pair ip tries at z l b;
            placed = placed;
            before = z;
            is_table = table_then (placed ∷ z) lp here;
            packs = named_then;
            kept = by2;
            placing = place_kind z l ch rd b empty;
            slot = refl;
            word = refl;
            client = refl;
            swept = passed_between s pair.key (Some (slot_at t p)) bo here so.0.passed;
            apart = apart;
          },
          more so.1,
        );
        leaves = on;
        falls = omega arith;
      }
        where
          more : r.lost < left → 1 ≤ left - r.lost
          more h = omega arith

      -- the sweep, and what follows it
      sweep_safe : (left : ℕ) → 1 ≤ left → left ≤ most → Owns s c area (placed ∷ z) → Only (placed ∷ z) → SafeIn s c (placed ∷ z) (bind (pass (sweep_of i (slot_at t p) left) (Some t)) (after_sweep i (slot_at t p) at area left)) End
      sweep_safe left lv le ow on =
          let j : Job = sweep_of i (slot_at t p) left in
          let ch2 = chain_before s (later {e = placed} here) lp (hash s pair.key) t ch in
          let job = job_is s pair ip (Sweep (slot_at t p) left) in
          by_bind Calmly s c (placed ∷ z) (pass j (Some t)) (after_sweep i (slot_at t p) at area left) End
          (by_weaker (Drops j.mode) s c Calmly (λ x e d. drop_calmly s c j.mode x e d) (placed ∷ z) (pass j (Some t)) (λ y e. (HasPassed s pair.key j.mode (placed ∷ z) y e × Then (placed ∷ z) y) × OwnSo j e) (λ y e. SafeIn s c y (after_sweep i (slot_at t p) at area left e) End)
          (λ y e x. swept_end left le e e.end y x.0.0.start x.0.0.opened x.0.0.from_then x.0.0.so
          (λ g. own_table s y x.0.1.0 j e.table t p left refl refl (start_table s y x.0.1.0 (hash s pair.key) e.table x.0.0.start) (table_then y x.0.1.0 x.0.1.1.0) plc (x.1 g))
          x.0.1.0 x.0.1.1.0 x.0.1.1.1.0 x.0.1.1.1.1)
          (by_outcomes (Drops j.mode) s c (OwnSo j) (placed ∷ z) (pass j (Some t)) (λ y e. HasPassed s pair.key j.mode (placed ∷ z) y e × Then (placed ∷ z) y) (pass_so j t)
          (by_kept (Drops j.mode) s c (Then (placed ∷ z)) (drops_holds s c j.mode (Then (placed ∷ z)) (then_kept (placed ∷ z))) (placed ∷ z) (pass j (Some t)) (λ y e. HasPassed s pair.key j.mode (placed ∷ z) y e) (lp, (here, (ow, on)))
          (pass_safe s c j job (Some t) (placed ∷ z) lp (ch2, lv, (p, plc, refl))))))

    -- the place: won, the sweep; lost, the block is kept
    pub place_safe : (area : Area) (left : ℕ) (q : Past) → Legal s q → OnChain s.geometry q (hash s pair.key) t → Ready s t p q → Stayed s pair.key from q t → Block s c at (packed pair.key pair.value) q → Owns s c area q → Apart at n0 area → Before from q → EachPlace s c from None_placed q → 1 ≤ left → left ≤ most → SafeIn s c q (place_block i t (slot_at t p) at area left) End
    place_safe area left q l ch rd sd b ow apart bf np lv le = (
      slot_within s q l t p (chain_table s q l (hash s pair.key) t ch) plc,
      λ z lz sz.
          let bz = since_before sz in
          by z lz (chain_before s bz lz (hash s pair.key) t ch) (ready_before s t p bz lz (chain_table s q l (hash s pair.key) t ch) rd) (stayed_later s pair.key from bz t sd) (block_since s c at (packed pair.key pair.value) sz lz b) (kept_since s c (Owns s c area) (kept_mine s c area.at area.left) sz lz ow) (Before-trans bf bz) (kept_since s c (EachPlace s c from None_placed) (kept_places s c from None_placed) sz lz np),
    )
      where
        by : (z : Past) → Legal s z → OnChain s.geometry z (hash s pair.key) t → Ready s t p z → Stayed s pair.key from z t → Block s c at (packed pair.key pair.value) z → Owns s c area z → Before from z → EachPlace s c from None_placed z
            → MayBy Calmly s c z (Swap (slot_at t p) 0 (pending_word i at)) (λ v found. SafeIn s c v (cond (found == 0) (bind (pass (sweep_of i (slot_at t p) left) (Some t)) (after_sweep i (slot_at t p) at area left)) (after_loss t (Some at) area left)) End)
        by z lz chz rdz sdz bl owz bfz npz = (
          (λ now.
              let en = change_in s.geometry c z (slot_at t p) (pending_word i at) in
              let me = place_meets z lz chz rdz bl now in
              let ow2 = mine_own s z en c area.at area.left (slot_apart s z en t p Pending (body s c at pair ip z lz bl) area (on_slot z lz chz rdz bl now) (says_pending z lz chz rdz bl now) apart) owz in (
                (me, (ap (changes_by s.geometry z en) (place_kind z lz chz rdz bl now), slot_mild s c z lz t p (pending_word i at) Empty (Full Pending (body s c at pair ip z lz bl)) (chain_table s z lz (hash s pair.key) t chz) plc (ap content now ∙ content-0) (says_pending z lz chz rdz bl now) refl)),
                by_cond Calmly s c End (en ∷ z) (word_at s.geometry z (slot_at t p) == 0) _ (after_loss t (Some at) area left)
                    (λ v. sweep_safe z lz chz rdz bl now bfz area apart sdz left lv le ow2 (placed_now s c from z en (slot_at t p) (pending_word i at) refl refl npz))
                    (λ v. absurd (differ (word_at s.geometry z (slot_at t p)) 0 now v)),
              )),
          (λ other. by_cond Calmly s c End z (word_at s.geometry z (slot_at t p) == 0) _ (after_loss t (Some at) area left)
              (λ v. absurd (other (equal (word_at s.geometry z (slot_at t p)) 0 v)))
              (λ v. loss_safe t (Some at) area left z (on_chain t chz) owz (bl, apart) (none_pending s c from z npz) lv le)),
        )
