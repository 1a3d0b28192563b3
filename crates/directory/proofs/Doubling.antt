-- Doubling the directory is safe: each upper word names what the lower one names, which was born no deeper than the parent was.
use Rattle.std.specs.Prelude.{◌≡◌, ◌≢◌, ℕ, zero, suc, ◌+◌, ◌-◌, ◌*◌, ◌%◌, ◌^◌, ◌<◌, ◌≤◌, cond, ◌==◌, ◌∷◌, ◌⊎◌, refl}
use Rattle.std.proofs.Common.{sym, ◌∙◌, ap, subst, inl, inr, arith, ⊎_elim}
use Rattle.std.proofs.lemmas.Bool.Decides.{nat_tests}
use Rattle.std.proofs.lemmas.Bool.{cases_lt}
use Rattle.std.proofs.lemmas.Nat.{pow-add}
use Rattle.std.proofs.Math.Nat.{add-mul-mod_self_left}
use Rattle.slot_word.specs.declared.births.Birth.{Birth}
use Rattle.node_words.specs.Addresses.{directory_at}
use Rattle.verb_log.specs.declared.entry.Verb.TheVariants.{Swap}
use Rattle.verb_log.specs.Tables.{Past, Before, here, later, word_at}
use Rattle.verb_log.proofs.Positions.{Before-trans}
use Rattle.race_laws.specs.Setting.{Setting}
use Rattle.race_laws.specs.Rows.{DeepenRow}
use Rattle.race_laws.specs.Legal.{Legal}
use Rattle.race_laws.proofs.Positions.{legal_before}
use Rattle.race_laws.proofs.Touch.{word_put}
use Rattle.race_laws.proofs.Frames.{birth_before}
use Rattle.race_laws.proofs.Chain.{born_at}
use Rattle.log_facts.specs.Since.{change_in}
use Rattle.log_facts.proofs.Growing.{since_before}
use Rattle.log_facts.proofs.Following.{name_meets, deepen_meets, directory_low}
use Rattle.log_facts.proofs.Directory.{Pointed, directs, directory_set, pow_up}
use Rattle.log_facts.proofs.Shallow.{named_shallow}
use Rattle.log_facts.proofs.Naming.{pointed_before, pointed_row, table_is_address, name_kind, deepen_kind, depth_low}
use Rattle.pass_laws.specs.SafeIn.{MayBy, SafeBy}
use Rattle.directory.specs.declared.naming.Naming.{Naming}
use Rattle.directory.specs.declared.naming.Named.{Named}
use Rattle.directory.specs.Text.{old_depth, name_below, deepen, double}
use Rattle.directory.specs.Law.{Names, HasNamed}
use Rattle.directory.proofs.Child.{Child, child_later, child_since}
use Rattle.directory.proofs.Each.{below_safe}

pub two_pow : (d : ℕ) → 2 ^ (d + 1) ≡ 2 ^ d + 2 ^ d
two_pow d = pow-add 2 d 1 ∙ twice (2 ^ d)
  where
    twice : (x : ℕ) → x * 2 ≡ x + x
    twice x = omega arith

-- The global depth was read as d at the position `read`. The parent was so deep before it was split.
module _ (s : Setting) (c : ℕ) (t : Naming) (same : t.geometry ≡ s.geometry) (from read : Past) (begun : Before from read) (d : ℕ) (level : word_at s.geometry read 1 ≡ d) (old : old_depth t ≡ d) (below : d < s.geometry.max_depth) where
  upper_low : (j : ℕ) → j < 2 ^ (d + 1) → j < 2 ^ s.geometry.max_depth
  upper_low j k = let y = pow_up (d + 1) s.geometry.max_depth (omega arith) in omega arith

  -- the lower half is set
  lower : (z : Past) → Before read z → Legal s z → (j : ℕ) → j < 2 ^ d → word_at s.geometry z (directory_at j) ≢ 0
  lower z b l j k =
      let y = pow_up d s.geometry.max_depth (omega arith) in
      directory_set s b l j (omega arith) ((directs s read (legal_before s b l)).some j (subst (λ v. j < 2 ^ v) (sym level) k))

  -- the upper words below j are set
  abbrev Set : ℕ → Past → Type 0
  Set j q = (i : ℕ) → 2 ^ d ≤ i → i < j → word_at s.geometry q (directory_at i) ≢ 0

  set_later : (j : ℕ) → j ≤ 2 ^ (d + 1) → {q z : Past} → Before q z → Legal s z → Set j q → Set j z
  set_later j k b l h i a m = directory_set s b l i (upper_low i (omega arith)) (h i a m)

  -- what a lower word names may be named in its upper word
  pointed_up : (z y : Past) → Before read z → Before z y → Legal s y → (i : ℕ) → i < 2 ^ d → Pointed s.geometry y (i + 2 ^ d) (word_at s.geometry z (directory_at i))
  pointed_up z y bz b l i k =
      let lz = legal_before s b l in
      let dr = directs s read (legal_before s bz lz) in
      let some = lower z bz lz i k in
      let low : i < 2 ^ s.geometry.max_depth = let p = pow_up d s.geometry.max_depth (omega arith) in omega arith in
      let pt = (directs s z lz).points i low some in
      let shallow = named_shallow s z lz i d (let x = dr.depth_from in omega arith) (omega arith) k some in
      let py = pointed_before s b l i (word_at s.geometry z (directory_at i)) pt in
      let same_birth : born_at s.geometry y (word_at s.geometry z (directory_at i)) ≡ born_at s.geometry z (word_at s.geometry z (directory_at i)) = ap (λ (v : Birth). v.depth) (birth_before s b l (word_at s.geometry z (directory_at i)) pt.table) in
      record { table = py.table; suffix = py.suffix ∙ sym (mod_upper (born_at s.geometry y (word_at s.geometry z (directory_at i))) i (omega arith)); ready = py.ready }
    where
      mod_upper : (b i : ℕ) → b ≤ d → (i + 2 ^ d) % 2 ^ b ≡ i % 2 ^ b
      mod_upper b i k = ap (λ v. (i + v) % 2 ^ b) (whole b k) ∙ add-mul-mod_self_left i (2 ^ b) (2 ^ (d - b))
        where
          plus : (b d : ℕ) → b ≤ d → d ≡ b + (d - b)
          plus b d k = omega arith

          whole : (b : ℕ) → b ≤ d → 2 ^ d ≡ 2 ^ b * 2 ^ (d - b)
          whole b k = ap (λ v. 2 ^ v) (plus b d k) ∙ pow-add 2 b (d - b)

  abbrev End : Past → Named → Type 0
  End z m = HasNamed s t from z m

  -- the directory has twice as many words, and becomes deeper
  deepen_row : (x : Past) → Legal s x → Before read x → word_at s.geometry x 1 ≡ d → Set (2 ^ (d + 1)) x → DeepenRow s.geometry x (change_in s.geometry c x 1 (d + 1))
  deepen_row x l b now set = record {
    below = omega arith;
    named = λ j k. ⊎_elim (λ (v : j < 2 ^ d). lower x b l j v) (λ (v : 2 ^ d ≤ j). set j v k) (cases_lt j (2 ^ d));
  }

  deepen_safe : (q : Past) → Legal s q → Child s t from q → Before read q → Set (2 ^ (d + 1)) q → SafeBy Names s c q (deepen t) End
  deepen_safe q l h b set = (
    depth_low s c q l,
    λ x lx sx.
        let bx = Before-trans b (since_before sx) in
        let hx = child_since s t from sx lx h in
        let setx = set_later (2 ^ (d + 1)) (omega arith) (since_before sx) lx set in
        subst (λ v. MayBy Names s c x (Swap 1 v (v + 1)) (λ n found. SafeBy Names s c n (name_below t (cond (found == v) (v + 1) found)) End)) (sym old) (by x lx hx bx setx),
  )
    where
      found_is : (x : ℕ) → x ≡ d → d + 1 ≡ cond (x == d) (d + 1) x
      found_is x e = grind (arith, nat_tests)

      other_is : (x : ℕ) → x ≢ d → x ≡ cond (x == d) (d + 1) x
      other_is x e = grind (arith, nat_tests)

      by : (x : Past) → Legal s x → Child s t from x → Before read x → Set (2 ^ (d + 1)) x → MayBy Names s c x (Swap 1 d (d + 1)) (λ n found. SafeBy Names s c n (name_below t (cond (found == d) (d + 1) found)) End)
      by x lx hx bx setx =
          let e = change_in s.geometry c x 1 (d + 1) in (
            (λ now.
                let me = deepen_meets s c x lx d now (deepen_row x lx bx now setx) in
                let le : Legal s (e ∷ x) = (lx, me) in
                let he = child_later s t from x e le hx in (
                  (me, inr (deepen_kind s c x lx d now)),
                  below_safe s c t same from (e ∷ x) (e ∷ x) he.begun here le he (cond (word_at s.geometry x 1 == d) (d + 1) (word_at s.geometry x 1)) (word_put s.geometry x e 1 refl ∙ found_is (word_at s.geometry x 1) now),
                )),
            (λ other. below_safe s c t same from x x hx.begun here lx hx (cond (word_at s.geometry x 1 == d) (d + 1) (word_at s.geometry x 1)) (other_is (word_at s.geometry x 1) other)),
          )

  -- n upper words from j on are to be set
  pub double_safe : (n j : ℕ) → 2 ^ d ≤ j → j + n ≡ 2 ^ (d + 1) → (q : Past) → Legal s q → Child s t from q → Before read q → Set j q → SafeBy Names s c q (double t n j) End
  double_safe zero j from_low all q l h b set = deepen_safe q l h b (subst (λ v. Set v q) (omega arith) set)
  double_safe (suc n) j from_low all q l h b set =
      let two = two_pow d in
      let i : ℕ = j - 2 ^ d in
      let lower_is : j - 2 ^ old_depth t ≡ j - 2 ^ d = ap (λ v. j - 2 ^ v) old in
      let low : j - 2 ^ d < 2 ^ d = omega arith in
      let low_max : j - 2 ^ old_depth t < 2 ^ s.geometry.max_depth = let p = pow_up d s.geometry.max_depth (omega arith) in omega arith in (
        directory_low s c q l (j - 2 ^ old_depth t) low_max,
        λ z lz sz.
            let bz = Before-trans b (since_before sz) in
            let hz = child_since s t from sz lz h in (
              directory_low s c z lz j (upper_low j (omega arith)),
              λ y ly sy. swap (λ x lx hx bx set2. double_safe n (j + 1) (omega arith) (omega arith) x lx hx bx set2) y ly (child_since s t from sy ly hz) z bz (since_before sy) (word_at s.geometry z (directory_at (j - 2 ^ old_depth t))) (ap (λ v. word_at s.geometry z (directory_at v)) lower_is)
                  (set_later j (omega arith) (Before-trans (since_before sz) (since_before sy)) ly set),
            ),
      )
    where
      up : 2 ^ d ≤ j → (j - 2 ^ d) + 2 ^ d ≡ j
      up k = omega arith

      swap : ((x : Past) → Legal s x → Child s t from x → Before read x → Set (j + 1) x → SafeBy Names s c x (double t n (j + 1)) End) → (y : Past) → Legal s y → Child s t from y → (z : Past) → Before read z → Before z y → (w : ℕ) → w ≡ word_at s.geometry z (directory_at (j - 2 ^ d)) → Set j y → MayBy Names s c y (Swap (directory_at j) 0 w) (λ x found. SafeBy Names s c x (double t n (j + 1)) End)
      swap ih y ly hy z bz bzy w is set =
          let two = two_pow d in
          let pu : Pointed s.geometry y j w = subst (λ v. Pointed s.geometry y j v) (sym is) (subst (λ v. Pointed s.geometry y v (word_at s.geometry z (directory_at (j - 2 ^ d)))) (up from_low) (pointed_up z y bz bzy ly (j - 2 ^ d) (omega arith))) in
          let an = table_is_address s y ly w pu.table in
          let low = upper_low j (omega arith) in
          let e = change_in s.geometry c y (directory_at j) w in (
            (λ now.
                let me = name_meets s c y ly j w low an (pointed_row s c y j w pu (inl now)) in
                let le : Legal s (e ∷ y) = (ly, me) in (
                  (me, inl (name_kind s c y ly j w low an)),
                  ih (e ∷ y) le (child_later s t from y e le hy) (Before-trans bz (later bzy))
                      (step (e ∷ y) (set_later j (omega arith) (later {e = e} here) le set) (λ v. an.0 (sym (word_put s.geometry y e (directory_at j) refl) ∙ v))),
                )),
            (λ other. ih y ly hy (Before-trans bz bzy) (step y set other)),
          )
        where
          step : (x : Past) → Set j x → word_at s.geometry x (directory_at j) ≢ 0 → Set (j + 1) x
          step x sx some i a b2 = ⊎_elim (λ (v : i < j). sx i a v) (λ (v : i ≡ j). subst (λ u. word_at s.geometry x (directory_at u) ≢ 0) (sym v) some) (below_or i j b2)
            where
              below_or : (i j : ℕ) → i < j + 1 → (i < j) ⊎ (i ≡ j)
              below_or i j k = grind arith
