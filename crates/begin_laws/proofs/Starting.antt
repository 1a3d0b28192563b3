-- Lock, the header, and the words of the child.
use Rattle.std.specs.Prelude.{◌≡◌, ◌≢◌, ℕ, zero, suc, ◌+◌, ◌-◌, ◌*◌, ◌%◌, ◌^◌, ◌<◌, ◌≤◌, ◌==◌, Bool, true, false, cond, ◌&&◌, nat_le, nat_lt, List, ◌∷◌, length, take, replicate, slice_set, None, ◌⊎◌, refl}
use Rattle.std.proofs.Common.{sym, ◌∙◌, ap, subst, inl, inr, arith, ⊎_elim}
use Rattle.std.proofs.lemmas.Bool.Decides.{nat_tests}
use Rattle.std.proofs.lemmas.Nat.{mod_below, pow_pos}
use Rattle.slot_word.specs.declared.heads.State.{State}
use Rattle.slot_word.specs.declared.heads.State.TheVariants.{Plain, Splitting, Filling}
use Rattle.slot_word.specs.declared.births.Birth.{Birth}
use Rattle.node_words.specs.Addresses.{node_size, node_at, table_words, header_at, lock_at}
use Rattle.verb_log.specs.declared.entry.Verb.TheVariants.{Read, Swap}
use Rattle.verb_log.specs.Decoded.{Header, PlainAt, SplittingAt, FillingAt, NoHeader, header, header_with}
use Rattle.verb_log.specs.Tables.{Past, Before, here, later, word_at}
use Rattle.verb_log.proofs.Positions.{Before-trans}
use Rattle.verbs.specs.Programs.{do_verb, Prog, ask}
use Rattle.race_laws.specs.Setting.{Setting}
use Rattle.race_laws.specs.Standing.{IsTable, header_in, birth_in, lock_in, depth, IsPlain}
use Rattle.race_laws.specs.Splits.{IsQuiet}
use Rattle.race_laws.specs.Legal.{Legal}
use Rattle.race_laws.proofs.Touch.{word_put, table_stays, same_or_not}
use Rattle.race_laws.proofs.SoundStep.{sound}
use Rattle.race_laws.proofs.Frames.{birth_before, lock_is}
use Rattle.node_words.specs.Roles.{LockWord}
use Rattle.log_facts.proofs.Apart.{header_same, bucket_same, child_same}
use Rattle.std.proofs.lemmas.List.{length-replicate, length-take-le, get_or-take}
use Rattle.race_laws.proofs.Opening.{splits}
use Rattle.race_laws.proofs.Covers.{table_before}
use Rattle.race_laws.proofs.Rights.{unlocked_quiet, quiet_by}
use Rattle.log_facts.specs.Since.{change_in, Since}
use Rattle.log_facts.specs.Beside.{Firm}
use Rattle.log_facts.specs.Entries.{Unchanging}
use Rattle.log_facts.proofs.Blank.{taken_blank}
use Rattle.log_facts.proofs.Following.{lock_meets, unlock_meets, lock_low}
use Rattle.log_facts.proofs.Growing.{since_before}
use Rattle.log_facts.proofs.Keeps.{keeps_lock, keeps_quiet}
use Rattle.log_facts.proofs.Mild.{take_mild, firm_on}
use Rattle.log_facts.proofs.Modest.{lock_modest, take_modest}
use Rattle.log_facts.proofs.Taking.{take_low, take_meets, taken_mine, taken_apart}
use Rattle.log_facts.proofs.Unchanging.{modest_unchanging}
use Rattle.log_facts.proofs.Within.{header_low}
use Rattle.pass_laws.specs.SafeIn.{MayBy, SafeBy}
use Rattle.pass_laws.proofs.Rules.{by_cond}
use Rattle.pass_laws.proofs.SameWords.{head_alike}
use Rattle.pass_text.specs.Words.{head_in}
use Rattle.split_text.specs.declared.site.SplitJob.{SplitJob}
use Rattle.split_text.specs.declared.begun.BeginOutcome.{BeginOutcome}
use Rattle.split_text.specs.declared.begun.BeginOutcome.TheVariants.{Changed, Locked, Spent, FullWords}
use Rattle.split_text.specs.declared.begun.BeginEnd.{BeginEnd}
use Rattle.split_text.specs.Words.{low_address, site_of}
use Rattle.split_text.specs.Begin.{ended, unlocked, write_child, first_node, next_node, take_at, take_from, header_read, lock_lost, begin}
use Rattle.move_laws.proofs.Marking.{equal, differ}
use Rattle.begin_laws.specs.States.{Untouched}
use Rattle.begin_laws.specs.Law.{ChangedIn, LockedIn, WasFull, BegunSo, Fewer}
use Rattle.begin_laws.proofs.Untouched.{untouched_since, untouched_modest}
use Rattle.begin_laws.proofs.Linking.{Held, held_firm, write_child_safe}
use Rattle.begin_laws.proofs.Nodes.{WasRead, IsAhead, Tried, tried_on, tried_more}

-- the depth that a plain header tells
plain_depth : (w : ℕ) → IsPlain (header w) → (head_in w).depth ≡ depth (header w)
plain_depth w p = ⊎_elim (λ e. by (head_in w).depth (head_in w).state (header w) e) (λ e. absurd (subst IsPlain e p)) (head_alike w)
  where
    by : (x : ℕ) (st : State) (h : Header) → header_with x st ≡ h → x ≡ depth h
    by x Plain h e = ap depth e
    by x Splitting h e = ap depth e
    by x Filling h e = ap depth e

plain_is : (hd : Header) → IsPlain hd → hd ≡ PlainAt (depth hd)
plain_is (PlainAt x) p = refl
plain_is (SplittingAt x) p = absurd p
plain_is (FillingAt x) p = absurd p
plain_is NoHeader p = absurd p

at_most : (x y : ℕ) → nat_le x y ≡ true → x ≤ y
at_most x y h = grind (arith, nat_tests)

above : (x y : ℕ) → nat_le x y ≡ false → y < x
above x y h = grind (arith, nat_tests)

-- the client has the lock of a quiet table
record Quietly (s : Setting) (c t : ℕ) (q : Past) : Type 0 where
  pub table : IsTable s.geometry q t
  pub lock : lock_in s.geometry q t ≡ c + 1
  pub quiet : IsQuiet s.geometry q t

module _ (s : Setting) (c t0 d x0 most : ℕ) (known : low_address t0 ≡ t0) (from : Past) where
  abbrev job : SplitJob
  job = record { geometry = s.geometry; client = c; table = t0; depth = d; suffix = x0 }

  abbrev t : ℕ
  t = low_address t0

  abbrev suffix : ℕ
  suffix = x0 % 2 ^ d

  abbrev pub End : Past → BeginEnd → Type 0
  End q e = (BegunSo s job from q e.left e.outcome × Fewer most e.left e.outcome) × Untouched s c from q

  quietly_firm : Firm s c (Quietly s c (low_address t0))
  quietly_firm q e l bs h = record { table = table_stays s.geometry q e t t h.table; lock = keeps_lock s c q e l bs t h.table h.lock; quiet = keeps_quiet s c q e l bs t h.table h.lock h.quiet }

  -- Unlock, and an answer
  unlocked_safe : (outcome : BeginOutcome) (left : ℕ) (q : Past) → Legal s q → Quietly s c (low_address t0) q → Untouched s c from q → ((z : Past) → Legal s z → Before q z → BegunSo s job from z left outcome × Fewer most left outcome) → SafeBy Unchanging s c q (unlocked job outcome left) End
  unlocked_safe outcome left q l h kp f = (
    lock_low s c q l t h.table,
    λ z lz sz.
        let hz = firm_on s c (Quietly s c t) quietly_firm sz lz h in
        let me = unlock_meets s c z lz t hz.table hz.lock hz.quiet in
        let md = lock_modest s c z lz t 0 hz.table in
        let e = change_in s.geometry c z (lock_at t) 0 in (
          (λ now. ((me, modest_unchanging s c z e md), (f (e ∷ z) (lz, me) (later (since_before sz)), untouched_modest s c from z e (lz, me) md (untouched_since s c from sz lz kp)))),
          (λ other. absurd (other hz.lock)),
        ),
  )

  -- the Lock leaves a quiet table quiet
  quiet_locked : (z : Past) (lz : Legal s z) → Legal s (change_in s.geometry c z (lock_at (low_address t0)) (c + 1) ∷ z) → IsTable s.geometry z (low_address t0) → IsQuiet s.geometry z (low_address t0) → IsQuiet s.geometry (change_in s.geometry c z (lock_at (low_address t0)) (c + 1) ∷ z) (low_address t0)
  quiet_locked z lz lm tz w =
      let e = change_in s.geometry c z (lock_at t) (c + 1) in
      let on = lock_is s.geometry z (sound s z lz) t tz in
      quiet_by s z e lm t tz (header_same s z e lm (LockWord t) on t tz (λ x. cc)) (λ m k. bucket_same s z e lm (LockWord t) on t m tz k (λ x. cc)) (λ i k. child_same s z e lm (LockWord t) on t i tz k (λ x. cc)) w

  abbrev Hold : Past → Type 0
  Hold = Held s c (low_address t0) d (x0 % 2 ^ d)

  hold_firm : Firm s c (Held s c (low_address t0) d (x0 % 2 ^ d))
  hold_firm = held_firm s c t d suffix

  quietly : (q : Past) → Held s c (low_address t0) d (x0 % 2 ^ d) q → Quietly s c (low_address t0) q
  quietly q x = record { table = x.table; lock = x.lock; quiet = x.quiet }

  -- with what was read of the nodes
  record Now (k n : ℕ) (nexts : List ℕ) (q : Past) : Type 0 where
    pub hold : Held s c (low_address t0) d (x0 % 2 ^ d) q
    pub keep : Untouched s c from q
    pub from_then : Before from q
    pub tried : Tried s from k n nexts q

  now_since : (k n : ℕ) (nexts : List ℕ) {q z : Past} → Since c q z → Legal s z → Now k n nexts q → Now k n nexts z
  now_since k n nexts sz lz x = record { hold = firm_on s c Hold hold_firm sz lz x.hold; keep = untouched_since s c from sz lz x.keep; from_then = Before-trans x.from_then (since_before sz); tried = tried_on s from k n nexts (since_before sz) x.tried }

  module _ (deep : d < s.geometry.max_depth) where
    -- one node
    take_at_safe : (left k n : ℕ) (m : ℕ) (nexts : List ℕ) (full : ℕ → ℕ → Prog BeginEnd) → left ≤ most → ((z : Past) (next left2 : ℕ) → Legal s z → Now k (suc m) nexts z → WasRead s from z k next → (k + 1) * node_size s.geometry < next + table_words s.geometry → 1 ≤ left2 → left2 ≤ most → SafeBy Unchanging s c z (full next left2) End) → (q : Past) → Legal s q → Now k (suc m) nexts q → WasRead s from q k n → SafeBy Unchanging s c q (take_at job left k n full) End
    take_at_safe zero k n m nexts full fw fs q l x nx = unlocked_safe Spent 0 q l (quietly q x.hold) x.keep (λ z lz bz. (refl, omega arith))
    take_at_safe (suc left) k n m nexts full fw fs q l x nx =
        by_cond Unchanging s c End q (nat_le (n + table_words s.geometry) ((k + 1) * node_size s.geometry)) _ (full n (suc left))
        (λ v. (take_low s k x.tried.low, λ z lz sz. by (λ y j ly xy ny. take_at_safe left k j m nexts full (omega arith) fs y ly xy ny) (at_most (n + table_words s.geometry) ((k + 1) * node_size s.geometry) v) z lz (now_since k (suc m) nexts sz lz x)))
        (λ v. fs q n (suc left) l x nx (above (n + table_words s.geometry) ((k + 1) * node_size s.geometry) v) (omega arith) fw)
      where
        by : ((y : Past) (j : ℕ) → Legal s y → Now k (suc m) nexts y → WasRead s from y k j → SafeBy Unchanging s c y (take_at job left k j full) End) → n + table_words s.geometry ≤ (k + 1) * node_size s.geometry → (z : Past) → Legal s z → Now k (suc m) nexts z → MayBy Unchanging s c z (Swap (node_at s.geometry k) n (n + table_words s.geometry)) (λ y found. SafeBy Unchanging s c y (cond (found == n) (write_child job (site_of job n) (suc left)) (take_at job left k found full)) End)
        by ih room z lz xz =
            let low = xz.tried.low in (
              (λ now.
                  let me = take_meets s c z lz k n (table_words s.geometry) low now (inr (inl refl)) (omega arith) room in
                  let md = take_modest s c z lz k (n + table_words s.geometry) low in
                  let e = change_in s.geometry c z (node_at s.geometry k) (n + table_words s.geometry) in
                  let keep = untouched_modest s c from z e (lz, me) md xz.keep in (
                    (me, modest_unchanging s c z e md),
                    by_cond Unchanging s c End (e ∷ z) (word_at s.geometry z (node_at s.geometry k) == n) (write_child job (site_of job n) (suc left)) (take_at job left k (word_at s.geometry z (node_at s.geometry k)) full)
                        (λ v. write_child_safe s c t d suffix from n deep (mod_below x0 (2 ^ d) (pow_pos d)) t0 x0 (λ y r. BegunSo s job from y r.left r.outcome × Fewer most r.left r.outcome)
                        (λ a b mine x1 h1 h2 h3 h4. taken_apart s c z lz k n (table_words s.geometry) low now (inr (inl refl)) (omega arith) room a b x1 (xz.keep a b mine).0 h3 h4 h1 h2)
                        (suc left) (λ y ly fr. ((fr, omega arith), fw)) (e ∷ z) (lz, me) (record {
                          keep = keep;
                          held = hold_firm z e (lz, me) (take_mild s c z lz k (n + table_words s.geometry) low) xz.hold;
                          mine = taken_mine s c z lz k n (table_words s.geometry) low now (inr (inl refl)) (omega arith) room;
                          words = λ o y. taken_blank s c z lz k n (table_words s.geometry) low now room (n + o) (omega arith) (omega arith);
                        }))
                        (λ v. absurd (differ (word_at s.geometry z (node_at s.geometry k)) n now v)),
                  )),
              (λ other. by_cond Unchanging s c End z (word_at s.geometry z (node_at s.geometry k) == n) (write_child job (site_of job n) (suc left)) (take_at job left k (word_at s.geometry z (node_at s.geometry k)) full)
                  (λ v. absurd (other (equal (word_at s.geometry z (node_at s.geometry k)) n v)))
                  (λ v. ih z (word_at s.geometry z (node_at s.geometry k)) lz xz (record { at = z; from_then = xz.from_then; till = here; read = refl }))),
            )

    full_so : (q : Past) (k left : ℕ) (nexts : List ℕ) → 1 ≤ left → Tried s from k 0 nexts q → BegunSo s job from q left (FullWords (take s.geometry.nodes nexts) (table_words s.geometry))
    full_so q k left nexts lv h =
        let few = s.geometry.few in
        let long = h.long in
        let low = h.low in (
          refl,
          length-take-le s.geometry.nodes nexts (omega arith),
          (λ j lj. subst (λ v. WasFull s from q j v (table_words s.geometry)) (sym (get_or-take s.geometry.nodes nexts j 0 lj)) (⊎_elim (λ x. absurd (none_ahead s.geometry.nodes k j low lj x)) (λ x. x) (h.each j lj))),
          lv,
        )
      where
        none_ahead : (nodes k j : ℕ) → k < nodes → j < nodes → IsAhead nodes k 0 j → ⊥
        none_ahead nodes k j low lj (inl x) = let y = x.0 in let z = x.1 in omega arith
        none_ahead nodes k j low lj (inr x) = omega arith

    take_from_safe : (n k left : ℕ) (nexts : List ℕ) → 1 ≤ left → left ≤ most → (q : Past) → Legal s q → Now k n nexts q → SafeBy Unchanging s c q (take_from job n k nexts left) End
    take_from_safe zero k left nexts lv fw q l x = unlocked_safe (FullWords (take s.geometry.nodes nexts) (table_words s.geometry)) left q l (quietly q x.hold) x.keep (λ z lz bz. (full_so z k left nexts lv (tried_on s from k 0 nexts bz x.tried), fw))
    take_from_safe (suc n) k left nexts lv fw q l x = (
      take_low s k x.tried.low,
      λ z lz sz.
          let xz = now_since k (suc n) nexts sz lz x in
          take_at_safe left k (word_at s.geometry z (node_at s.geometry k)) n nexts (λ next left2. take_from job n (next_node s.geometry k) (slice_set nexts k next) left2) fw
          (λ y next left2 ly xy r past lv2 fw2. take_from_safe n (next_node s.geometry k) left2 (slice_set nexts k next) lv2 fw2 y ly
          (record { hold = xy.hold; keep = xy.keep; from_then = xy.from_then; tried = tried_more s from y k n next nexts xy.tried r past }))
          z lz xz (record { at = z; from_then = xz.from_then; till = here; read = refl }),
    )

    -- no node is tried yet
    first_tried : (q : Past) → Tried s from (c % s.geometry.nodes) s.geometry.nodes (replicate 8 0) q
    first_tried q = record {
      long = eight;
      low = mod_below c s.geometry.nodes (positive s.geometry.nodes s.geometry.some);
      each = λ j lj. inl (ahead s.geometry.nodes (c % s.geometry.nodes) j lj (nat_le (c % s.geometry.nodes) j) refl);
    }
      where
        eight : length {A = ℕ} (replicate 8 0) ≡ 8
        eight = length-replicate {A = ℕ} 8 0

        positive : (n : ℕ) → 1 ≤ n → 0 < n
        positive n h = omega arith

        ahead : (nodes k j : ℕ) → j < nodes → (v : Bool) → nat_le k j ≡ v → IsAhead nodes k nodes j
        ahead nodes k j lj true e = inl (at_most k j e, (let x = at_most k j e in omega arith))
        ahead nodes k j lj false e = inr (let x = above k j e in omega arith)

    takes_safe : (left : ℕ) → 1 ≤ left → left ≤ most → (q : Past) → Legal s q → Hold q → Untouched s c from q → Before from q → SafeBy Unchanging s c q (take_from job s.geometry.nodes (first_node job) (replicate 8 0) left) End
    takes_safe left lv fw q l x kp b = take_from_safe s.geometry.nodes (c % s.geometry.nodes) left (replicate 8 0) lv fw q l (record { hold = x; keep = kp; from_then = b; tried = first_tried q })

  tests : (x y m : ℕ) → ((x == y) && nat_lt y m) ≡ true → (x ≡ y) × (y < m)
  tests x y m e = (grind (arith, nat_tests), grind (arith, nat_tests))

  fails : (x y m : ℕ) → x ≤ m → ((x == y) && nat_lt y m) ≡ false → (x ≢ y) ⊎ (y ≡ m)
  fails x y m le e = ⊎_elim (λ (u : x ≡ y). inr (both u)) (λ u. inl u) (same_or_not x y)
    where
      both : x ≡ y → y ≡ m
      both u = grind (arith, nat_tests)

  -- the header was read under the lock
  header_safe : (left : ℕ) → 1 ≤ left → left ≤ most → IsTable s.geometry from (low_address t0) → (birth_in s.geometry from (low_address t0)).suffix ≡ x0 % 2 ^ d → (z : Past) → Legal s z → Quietly s c (low_address t0) z → Untouched s c from z → Before from z → SafeBy Unchanging s c z (ask (do_verb None (Read (header_at (low_address t0)))) (λ word. header_read job left word)) End
  header_safe left lv fw tb sf z lz hz kz b = (
    header_low s z lz t hz.table,
    λ y ly sy.
        let hy = firm_on s c (Quietly s c t) quietly_firm sy ly hz in
        let ky = untouched_since s c from sy ly kz in
        let by2 = Before-trans b (since_before sy) in
        let hd = plain_is (header_in s.geometry y t) hy.quiet.plain in
        let dp = plain_depth (word_at s.geometry y (header_at t)) hy.quiet.plain in
        let deep = (splits s y ly).deep t hy.table in
        by_cond Unchanging s c End y (((head_in (word_at s.geometry y (header_at t))).depth == d) && nat_lt d s.geometry.max_depth) (take_from job s.geometry.nodes (first_node job) (replicate 8 0) left) (unlocked job Changed left)
        (λ v. let tv = tests (head_in (word_at s.geometry y (header_at t))).depth d s.geometry.max_depth v in
        let eq = sym dp ∙ tv.0 in
        takes_safe tv.1 left lv fw y ly
        (record { table = hy.table; lock = hy.lock; quiet = hy.quiet; head = hd ∙ ap PlainAt eq; suffix_is = ap (λ (w : Birth). w.suffix) (birth_before s by2 ly t tb) ∙ sf }) ky by2)
        (λ v. unlocked_safe Changed left y ly hy ky (λ x lx bx. ((subst (λ a. ChangedIn s from x a d) known (record { at = y; from_then = by2; till = bx; changed = changed_so dp (fails (head_in (word_at s.geometry y (header_at t))).depth d s.geometry.max_depth (subst (λ a. a ≤ s.geometry.max_depth) (sym dp) deep) v); quiet = hy.quiet }), lv), fw))),
  )
    where
      changed_so : {x y : ℕ} → x ≡ y → (x ≢ d) ⊎ (d ≡ s.geometry.max_depth) → (y ≢ d) ⊎ (d ≡ s.geometry.max_depth)
      changed_so e (inl n) = inl (λ z. n (e ∙ z))
      changed_so e (inr m) = inr m

  -- the whole first half
  pub begin_safe : (left : ℕ) → 1 ≤ left → left ≤ most → Legal s from → IsTable s.geometry from (low_address t0) → (birth_in s.geometry from (low_address t0)).suffix ≡ x0 % 2 ^ d → SafeBy Unchanging s c from (begin job left) End
  begin_safe left lv fw l tb sf = (lock_low s c from l t tb, λ z lz sz. by z lz (since_before sz) (untouched_since s c from sz lz (λ a n m. (m, λ x g k. refl))))
    where
      more : (left : ℕ) → nat_le left 1 ≡ false → 1 ≤ left - 1
      more left v = grind (arith, nat_tests)

      lost_safe : (z : Past) → Before from z → Untouched s c from z → lock_in s.geometry z (low_address t0) ≢ 0 → SafeBy Unchanging s c z (lock_lost left) End
      lost_safe z bz kz other = by_cond Unchanging s c End z (nat_le left 1) (ended Spent 0) (ended Locked (left - 1))
          (λ w. ((refl, omega arith), kz))
          (λ w. ((((subst (LockedIn s from z) known (record { at = z; from_then = bz; till = here; locked = other })), more left w), omega arith), kz))

      by : (z : Past) → Legal s z → Before from z → Untouched s c from z → MayBy Unchanging s c z (Swap (lock_at (low_address t0)) 0 (c + 1)) (λ n found. SafeBy Unchanging s c n (cond (found == 0) (ask (do_verb None (Read (header_at (low_address t0)))) (λ word. header_read job left word)) (lock_lost left)) End)
      by z lz bz kz =
          let tz = table_before s.geometry bz t t tb in
          let e = change_in s.geometry c z (lock_at t) (c + 1) in (
            (λ now.
                let me = lock_meets s c z lz t tz now in
                let md = lock_modest s c z lz t (c + 1) tz in
                let lm : Legal s (e ∷ z) = (lz, me) in (
                  (me, modest_unchanging s c z e md),
                  by_cond Unchanging s c End (e ∷ z) (lock_in s.geometry z t == 0) _ (lock_lost left)
                      (λ v. header_safe left lv fw tb sf (e ∷ z) lm (record { table = table_stays s.geometry z e t t tz; lock = word_put s.geometry z e (lock_at t) refl; quiet = quiet_locked z lz lm tz (unlocked_quiet s z lz t tz now) }) (untouched_modest s c from z e lm md kz) (later bz))
                      (λ v. absurd (differ (lock_in s.geometry z t) 0 now v)),
                )),
            (λ other. by_cond Unchanging s c End z (lock_in s.geometry z t == 0) _ (lock_lost left)
                (λ v. absurd (other (equal (lock_in s.geometry z t) 0 v)))
                (λ v. lost_safe z bz kz other)),
          )
