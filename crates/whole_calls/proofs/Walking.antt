-- A whole resize: goes on with a ticket, or walks and splits.
use Rattle.std.specs.Prelude.{◌≡◌, ℕ, ◌<◌, ◌≤◌, List, Some, refl}
use Rattle.std.proofs.Common.{sym, ◌∙◌, ap, subst, arith, ⊎_elim}
use Rattle.slot_word.specs.declared.births.Birth.{Birth}
use Rattle.bucket_group.specs.ExitLevel.{exit_level}
use Rattle.bucket_group.proofs.ExitLaws.{exit-below, exit-some}
use Rattle.verb_log.specs.Decoded.{Header, PlainAt, SplittingAt, FillingAt, NoHeader, header_of}
use Rattle.verb_log.specs.Tables.{Past, Before}
use Rattle.verb_log.proofs.Positions.{Before-trans}
use Rattle.race_laws.specs.Setting.{Setting, hash, main_of}
use Rattle.race_laws.specs.Standing.{IsTable, header_in, key_header, depth, Stays, Exits, IsGone, IsPlain, IsFilling}
use Rattle.race_laws.specs.Legal.{Legal}
use Rattle.race_laws.proofs.Chain.{born_at, chain_table}
use Rattle.race_laws.proofs.Frames.{birth_before}
use Rattle.race_laws.proofs.Opening.{splits}
use Rattle.race_laws.proofs.Positions.{legal_before}
use Rattle.log_facts.specs.Start.{Start, on_chain, below}
use Rattle.log_facts.specs.Reached.{Stayed, Stuck, Down, goes_down, Deeper}
use Rattle.log_facts.proofs.Keys.{main_below, gone_or_not}
use Rattle.log_facts.proofs.Reached.{chain_down, down_before, down_order, gone_deeper, deeper_before, header_deeper, key_depth, stuck_there}
use Rattle.log_facts.proofs.Starts.{start_before, start_table, start_ripe}
use Rattle.pass_text.specs.declared.passed.Passed.{Passed}
use Rattle.pass_laws.specs.HasPassed.{StayedAt}
use Rattle.begin_laws.specs.Law.{ChangedIn}
use Rattle.whole_calls.proofs.Depths.{Full, full_on, key_deeper, change_deeper, stays_depth}
use Rattle.whole_calls.proofs.Inserting.{head_depth}

same_level : {x y : ℕ} → Some x ≡ Some y → x ≡ y
same_level e = cc

plain_ripe : (h : Header) → IsPlain h → IsFilling h → ⊥
plain_ripe (PlainAt d) p f = f
plain_ripe (SplittingAt d) p f = p
plain_ripe (FillingAt d) p f = p
plain_ripe NoHeader p f = p

-- A walk has ended, and the table's lock was won in vain.
module _ (s : Setting) (c : ℕ) (key : List ℕ) (from q y : Past) (p : Passed) (w : StayedAt s key from q p) (ly : Legal s y) (b : Before q y) (ch : ChangedIn s q y p.table p.head.depth) where
  abbrev t : ℕ
  t = p.table

  abbrev z : Past
  z = ch.at

  lz : Legal s z
  lz = legal_before s ch.till ly

  wz : Before w.at z
  wz = Before-trans w.till ch.from_then

  lw : Legal s w.at
  lw = legal_before s wz lz

  w_depth : depth (key_header s w.at t key) ≡ p.head.depth
  w_depth = ap depth w.head ∙ head_depth p.head

  table_w : IsTable s.geometry w.at t
  table_w = start_table s w.at lw (hash s key) t w.start

  -- the table is quiet then, and so on the chain
  down_z : Down s z key t
  down_z = chain_down s z lz key t (start_ripe s z lz (hash s key) t (start_before s wz lz (hash s key) t w.start) (λ f. plain_ripe (header_in s.geometry z t) ch.quiet.plain f))

  stays_w : Stays s w.at t key (key_header s w.at t key)
  stays_w = subst (Stays s w.at t key) (sym w.head) w.stays

  in_table : Down s w.at key t → p.head.depth < s.geometry.max_depth → Deeper s key from y
  in_table d low =
      let x : Stayed s key from q t = record { at = w.at; from_then = w.from_then; till = w.till; down = d; stays = stays_w } in
      header_deeper s key from t x b ly (change_deeper s key c from q y t x ly b (subst (ChangedIn s q y t) (sym w_depth) ch) (subst (λ v. v < s.geometry.max_depth) (sym w_depth) low))

  pub walk_low : p.head.depth ≤ s.geometry.max_depth
  walk_low = subst (λ v. v ≤ s.geometry.max_depth) w_depth (key_depth s w.at lw key t table_w).1

  -- more is reached
  pub walk_deeper : p.head.depth < s.geometry.max_depth → Deeper s key from y
  walk_deeper low = by t refl w.start
    where
      by : (v : ℕ) → v ≡ t → Start s.geometry w.at (hash s key) v → Deeper s key from y
      by v e (on_chain v2 ch2) = in_table (subst (Down s w.at key) e (chain_down s w.at lw key v ch2)) low
      by v e (below u i v2 ch2 ex k n) = ⊎_elim (λ (g : IsGone (key_header s w.at u key) i). in_table (subst (Down s w.at key) e (goes_down u i v (chain_down s w.at lw key u ch2) ex g k n)) low)
          (λ (g : IsGone (key_header s w.at u key) i → ⊥).
          let du = chain_down s w.at lw key u ch2 in
          let x : Stayed s key from q u = record { at = w.at; from_then = w.from_then; till = w.till; down = du; stays = λ j ej gj. g (subst (λ m. IsGone (key_header s w.at u key) m) (same_level (sym ej ∙ ex)) gj) } in
          let tu = chain_table s w.at lw (hash s key) u ch2 in
          let born = (splits s w.at lw).born u i v tu (exit-below (hash s key) (born_at s.geometry w.at u) i ex) k n in
          let up = exit-some (hash s key) (born_at s.geometry w.at u) i ex in
          let from_u = up.from in
          let level = born.level in
          let bu = ap (λ (x : Birth). x.depth) (birth_before s wz lz u tu) in
          let bt = ap (λ (x : Birth). x.depth) (birth_before s wz lz v born.table) in
          let o = down_order s z lz key u v (down_before s key wz lz u du) (subst (Down s z key) (sym e) down_z) (omega arith) in
          deeper_before s key from ch.till ly (gone_deeper s key from u x ch.from_then lz o.1.level o.1.exits o.1.gone))
          (gone_or_not (key_header s w.at u key) i)

  -- at the greatest depth
  module _ (top : p.head.depth ≡ s.geometry.max_depth) where
    plain_z : key_header s z t key ≡ PlainAt s.geometry.max_depth
    plain_z = by (header_in s.geometry z t) refl ch.quiet.plain
      where
        same_head : key_header s z t key ≡ header_in s.geometry z t
        same_head = ch.quiet.buckets (main_of s key) (main_below s key)

        no_less : s.geometry.max_depth ≤ depth (key_header s z t key)
        no_less = key_deeper s key s.geometry.max_depth wz lz t table_w (let e = w_depth in omega arith)

        by : (v : Header) → header_in s.geometry z t ≡ v → IsPlain (header_in s.geometry z t) → key_header s z t key ≡ PlainAt s.geometry.max_depth
        by (PlainAt x) e pl =
            let n = no_less in
            let m = (key_depth s z lz key t (start_table s z lz (hash s key) t (start_before s wz lz (hash s key) t w.start))).1 in
            let eq = ap depth (same_head ∙ e) in
            let y : x ≡ s.geometry.max_depth = omega arith in
            same_head ∙ e ∙ ap PlainAt y
        by (SplittingAt x) e pl = absurd (subst IsPlain e pl)
        by (FillingAt x) e pl = absurd (subst IsPlain e pl)
        by NoHeader e pl = absurd (subst IsPlain e pl)

    exits_z : (i : ℕ) → Exits s z t key i → s.geometry.max_depth ≤ i
    exits_z i ex =
        let x = stays_depth (key_header s w.at t key) i (λ g. stays_w i (subst (λ (v : Birth). exit_level (hash s key) v.depth ≡ Some i) (birth_before s wz lz t table_w) ex) g) in
        let e = w_depth in omega arith

    stuck_z : Stuck s key z t
    stuck_z = record { down = down_z; exits = exits_z }

    pub walk_full : Full s key y (Some t)
    walk_full = full_on s key ch.till ly (Some t) (stuck_z, plain_z)

    -- and no full table was known
    pub walk_new : (u : ℕ) → Full s key from (Some u) → header_of (Some p.head) ≡ PlainAt s.geometry.max_depth
    walk_new u f =
        let fz = full_on s key (Before-trans w.from_then wz) lz (Some u) f in
        let same = stuck_there s key z lz u t fz.0 down_z (λ i ex g. let x = exits_z i ex in below_top i x (subst (λ v. IsGone v i) plain_z g)) in
        let fw = full_on s key w.from_then lw (Some u) f in
        sym w.head ∙ ap (λ v. key_header s w.at v key) same ∙ fw.1
      where
        below_top : (i : ℕ) → s.geometry.max_depth ≤ i → IsGone (PlainAt s.geometry.max_depth) i → ⊥
        below_top i le g = omega arith
