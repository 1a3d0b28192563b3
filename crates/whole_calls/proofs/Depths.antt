-- The depth of a key's header after a split, and after a lock was won in vain; and the full table.
use Rattle.std.specs.Prelude.{◌≡◌, ◌≢◌, ℕ, ◌+◌, ◌<◌, ◌≤◌, List, Option, Some, None, refl}
use Rattle.std.proofs.Common.{sym, ◌∙◌, ap, subst, arith, ⊎_elim}
use Rattle.verb_log.specs.Decoded.{Header, PlainAt, SplittingAt, FillingAt, NoHeader}
use Rattle.verb_log.specs.Tables.{Past, Before}
use Rattle.verb_log.proofs.Positions.{Before-trans}
use Rattle.race_laws.specs.Setting.{Setting, main_of}
use Rattle.race_laws.specs.Standing.{IsTable, header_in, key_header, depth, IsPlain, IsGone}
use Rattle.race_laws.specs.Legal.{Legal}
use Rattle.race_laws.proofs.Positions.{legal_before}
use Rattle.race_laws.proofs.Covers.{table_before}
use Rattle.race_laws.proofs.Finality.{GoesOn, opens, finishes, ripens, deeper_on, bucket_keeps}
use Rattle.log_facts.proofs.Keys.{main_below}
use Rattle.log_facts.specs.Reached.{Stayed, Stuck}
use Rattle.log_facts.proofs.Reached.{key_depth, down_table, bucket_splits, stuck_before, stuck_there}
use Rattle.std.proofs.lemmas.Bool.{cases_lt}
use Rattle.begin_laws.specs.Law.{ChangedIn}
use Rattle.split_laws.specs.Law.{SplitBy}

-- a header by which a key stays is no deeper than the key's exit level
pub stays_depth : (h : Header) (i : ℕ) → (IsGone h i → ⊥) → depth h ≤ i
stays_depth (PlainAt d) i f = ⊎_elim (λ (x : i < d). absurd (f x)) (λ (x : d ≤ i). x) (cases_lt i d)
stays_depth (SplittingAt d) i f = ⊎_elim (λ (x : i < d). absurd (f (omega arith))) (λ (x : d ≤ i). x) (cases_lt i d)
stays_depth (FillingAt d) i f = ⊎_elim (λ (x : i < d). absurd (f x)) (λ (x : d ≤ i). x) (cases_lt i d)
stays_depth NoHeader i f = omega arith

module _ (s : Setting) (key : List ℕ) where
  -- the key's header never gets shallower
  pub key_deeper : (d : ℕ) {p q : Past} → Before p q → Legal s q → (t : ℕ) → IsTable s.geometry p t → d ≤ depth (key_header s p t key) → d ≤ depth (key_header s q t key)
  key_deeper d b l t tb h = bucket_keeps s (λ v. d ≤ depth v) (λ x y g z. let w = deeper_on g in omega arith) b l t (main_of s key) tb (main_below s key) h

  -- it is a header that does not fill
  abbrev Ripe : Header → Type 0
  Ripe (PlainAt d) = Unit {0}
  Ripe (SplittingAt d) = Unit {0}
  Ripe (FillingAt d) = ⊥
  Ripe NoHeader = ⊥

  ripe_on : (h k : Header) → GoesOn h k → Ripe h → Ripe k
  ripe_on h k (opens d p q) x = subst Ripe (sym q) tt
  ripe_on h k (finishes d p q) x = subst Ripe (sym q) tt
  ripe_on h k (ripens d p q) x = subst Ripe (sym q) tt

  pub stays_plain : (p q : Past) (t : ℕ) → Before p q → Legal s q → IsTable s.geometry p t → key_header s p t key ≡ PlainAt s.geometry.max_depth → key_header s q t key ≡ PlainAt s.geometry.max_depth
  stays_plain p q t b l tb h =
      by (key_header s q t key) refl (key_deeper s.geometry.max_depth b l t tb (let x = ap depth h in omega arith)) (key_depth s q l key t tq).1
      (bucket_keeps s Ripe ripe_on b l t (main_of s key) tb (main_below s key) (subst Ripe (sym h) tt))
    where
      tq : IsTable s.geometry q t
      tq = table_before s.geometry b t t tb

      by : (v : Header) → key_header s q t key ≡ v → s.geometry.max_depth ≤ depth (key_header s q t key) → depth (key_header s q t key) ≤ s.geometry.max_depth → Ripe (key_header s q t key) → key_header s q t key ≡ PlainAt s.geometry.max_depth
      by (PlainAt d) e a z r = let x = ap depth e in let y : d ≡ s.geometry.max_depth = omega arith in e ∙ ap PlainAt y
      by (SplittingAt d) e a z r = let x = ap depth e in let y = bucket_splits s q l t (main_of s key) d tq (main_below s key) e in absurd (omega arith)
      by (FillingAt d) e a z r = absurd (subst Ripe e r)
      by NoHeader e a z r = absurd (subst Ripe e r)

  -- a table in which the key stayed by a header of the greatest depth
  pub deep_stuck : (from q : Past) → Legal s q → (t : ℕ) → (w : Stayed s key from q t) → depth (key_header s w.at t key) ≡ s.geometry.max_depth → Stuck s key q t
  deep_stuck from q l t w h =
      stuck_before s key w.till l t (record { down = w.down; exits = λ i ex. let x = stays_depth (key_header s w.at t key) i (λ g. w.stays i ex g) in omega arith })

  -- the full table that a call has come to: the key never leaves it, and its header there is plain at the greatest depth
  abbrev pub Full : Past → Option ℕ → Type 0
  Full q None = Unit {0}
  Full q (Some t) = Stuck s key q t × (key_header s q t key ≡ PlainAt s.geometry.max_depth)

  pub full_on : {p q : Past} → Before p q → Legal s q → (full : Option ℕ) → Full p full → Full q full
  full_on b l None h = tt
  full_on {p = p} {q = q} b l (Some t) h = (stuck_before s key b l t h.0, stays_plain p q t b l (down_table s p (legal_before s b l) key t h.0.down) h.1)

  -- a look that ends later ends there
  pub full_there : (from q : Past) → Legal s q → (t u : ℕ) (w : Stayed s key from q t) → Full from (Some u) → (t ≡ u) × (key_header s w.at t key ≡ PlainAt s.geometry.max_depth)
  full_there from q l t u w h =
      let lw = legal_before s w.till l in
      let f = full_on w.from_then lw (Some u) h in
      let same = stuck_there s key w.at lw u t f.0 w.down w.stays in
      (same, subst (λ v. key_header s w.at v key ≡ PlainAt s.geometry.max_depth) (sym same) f.1)

  module _ (c : ℕ) (from q y : Past) (t : ℕ) (w : Stayed s key from q t) (l : Legal s y) (b : Before q y) where
    abbrev d : ℕ
    d = depth (key_header s w.at t key)

    table_then : IsTable s.geometry w.at t
    table_then = down_table s w.at (legal_before s (Before-trans w.till b) l) key t w.down

    -- after a split of the table
    pub split_deeper : SplitBy s c t (d + 1) y → d < depth (key_header s y t key)
    split_deeper sb = let x = sb.buckets (main_of s key) (main_below s key) in omega arith

    module _ (ch : ChangedIn s q y t d) where
      lat : Legal s ch.at
      lat = legal_before s ch.till l

      table_at : IsTable s.geometry ch.at t
      table_at = table_before s.geometry (Before-trans w.till ch.from_then) t t table_then

      same_head : key_header s ch.at t key ≡ header_in s.geometry ch.at t
      same_head = ch.quiet.buckets (main_of s key) (main_below s key)

      no_less_at : d ≤ depth (key_header s ch.at t key)
      no_less_at = key_deeper d (Before-trans w.till ch.from_then) lat t table_then (omega arith)

      -- after a lock that was won in vain
      pub change_deeper : d < s.geometry.max_depth → d < depth (key_header s y t key)
      change_deeper low =
          let n = no_less_at in
          let e = ap depth same_head in
          let up = ⊎_elim (λ (x : depth (header_in s.geometry ch.at t) ≢ d). more (depth (header_in s.geometry ch.at t)) d x (subst (λ v. d ≤ v) e n)) (λ (x : d ≡ s.geometry.max_depth). absurd (omega arith)) ch.changed in
          let z = key_deeper (d + 1) ch.till l t table_at (omega arith) in omega arith
        where
          more : (a b : ℕ) → a ≢ b → b ≤ a → b + 1 ≤ a
          more a b n h = omega arith

      pub change_full : d ≡ s.geometry.max_depth → key_header s y t key ≡ PlainAt s.geometry.max_depth
      change_full top = stays_plain ch.at y t ch.till l table_at (by (header_in s.geometry ch.at t) refl ch.quiet.plain)
        where
          by : (v : Header) → header_in s.geometry ch.at t ≡ v → IsPlain (header_in s.geometry ch.at t) → key_header s ch.at t key ≡ PlainAt s.geometry.max_depth
          by (PlainAt x) e p =
              let n = no_less_at in
              let m = (key_depth s ch.at lat key t table_at).1 in
              let eq = ap depth (same_head ∙ e) in
              let y : x ≡ s.geometry.max_depth = omega arith in
              same_head ∙ e ∙ ap PlainAt y
          by (SplittingAt x) e p = absurd (subst IsPlain e p)
          by (FillingAt x) e p = absurd (subst IsPlain e p)
          by NoHeader e p = absurd (subst IsPlain e p)
