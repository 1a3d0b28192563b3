-- The children of a table by level.
use Rattle.std.specs.Prelude.{◌≡◌, ◌≢◌, ℕ, zero, suc, ◌+◌, ◌-◌, ◌*◌, ◌%◌, ◌^◌, ◌<◌, ◌≤◌, List, [], ◌∷◌, ◌++◌, refl}
use Rattle.std.specs.List.{range_with_len, flat_map}
use Rattle.std.proofs.Common.{sym, ◌∙◌, ap, inl, arith, append-nil, append_assoc}
use Rattle.std.proofs.lemmas.Grind.{flat_map-append}
use Rattle.std.proofs.Math.Nat.{mod-eq_of_lt}
use Rattle.node_words.specs.declared.geometry.Geometry.{Geometry}
use Rattle.node_words.specs.Addresses.{child_at}
use Rattle.race_laws.specs.Standing.{IsIn}
use Rattle.log_facts.proofs.Directory.{pow_up}
use Rattle.image_laws.specs.declared.table.ImageTable.{ImageTable}
use Rattle.image_laws.specs.Walk.{Words, child_of, child_if, named_as, named_at, children}
use Rattle.image_laws.proofs.Members.{in_flat_back, in_range_back}
use Rattle.image_laws.proofs.Tables.{child_if_is, child_if_back, named_back}
use Rattle.image_laws.proofs.Offsets.{off_child}

-- so many numbers, and the others behind them
range_parts : (a m n : ℕ) → range_with_len a (m + n) ≡ range_with_len a m ++ range_with_len (a + m) n
range_parts a zero n = ap (range_with_len a) (none n) ∙ ap (λ v. range_with_len v n) (plus a)
  where
    plus : (a : ℕ) → a ≡ a + 0
    plus a = omega arith

    none : (n : ℕ) → 0 + n ≡ n
    none n = omega arith
range_parts a (suc m) n = ap (range_with_len a) (shift m n) ∙ ap (λ v. a ∷ v) (range_parts (a + 1) m n ∙ ap (λ v. range_with_len (a + 1) m ++ range_with_len v n) (plus a m))
  where
    shift : (m n : ℕ) → suc m + n ≡ suc (m + n)
    shift m n = omega arith

    plus : (a m : ℕ) → a + 1 + m ≡ a + suc m
    plus a m = omega arith

empty : {A : Type 0} (xs : List A) → ((x : A) → IsIn x xs → ⊥) → xs ≡ []
empty [] h = refl
empty (x ∷ xs) h = absurd (h x (inl refl))

module _ (g : Geometry) (w : Words) (t : ImageTable) where
  -- the children of n levels, from one on
  abbrev pub levels : ℕ → ℕ → List ImageTable
  levels d n = flat_map (child_if w t) (range_with_len d n)

  -- words that are no child words name nothing
  no_names : (a n : ℕ) → ((o i : ℕ) → a ≤ o → o < a + n → o ≡ 4 + i → i < 16 → ⊥) → flat_map (named_at w t) (range_with_len a n) ≡ []
  no_names a n h = empty (flat_map (named_at w t) (range_with_len a n)) (λ c k.
      let r = in_flat_back (named_at w t) c (range_with_len a n) k in
      let b = in_range_back a n r.0 r.1 in
      let x = named_back w t r.0 c r.2 in
      h r.0 x.level b.0 b.1 x.at x.is_child.below)

  at_levels : (d n : ℕ) → d + n ≤ 16 → flat_map (named_at w t) (range_with_len (4 + d) n) ≡ levels d n
  at_levels d zero h = refl
  at_levels d (suc n) h =
      ap (λ v. v ++ flat_map (named_at w t) (range_with_len (4 + d + 1) n)) (ap (named_as w t) (off_child g t.at d (omega arith)))
      ∙ ap (λ v. child_if w t d ++ flat_map (named_at w t) (range_with_len v n)) (plus d)
      ∙ ap (λ v. child_if w t d ++ v) (at_levels (d + 1) n (omega arith))
    where
      plus : (d : ℕ) → 4 + d + 1 ≡ 4 + (d + 1)
      plus d = omega arith

  -- there are none below the birth depth
  low_levels : (d : ℕ) → d ≤ t.depth → levels 0 d ≡ []
  low_levels d l = empty (levels 0 d) (λ c k.
      let r = in_flat_back (child_if w t) c (range_with_len 0 d) k in
      let b = (in_range_back 0 d r.0 r.1).1 in
      let x = (child_if_back w t r.0 c r.2).0 in
      omega arith)

  pub children_levels : t.depth ≤ 16 → children g w t ≡ levels t.depth (16 - t.depth)
  children_levels l =
      ap (λ v. flat_map (named_at w t) (range_with_len 0 v)) (whole g.groups)
      ∙ ap (flat_map (named_at w t)) (range_parts 0 4 (16 + 24 * g.groups) ∙ ap (λ v. range_with_len 0 4 ++ v) (range_parts 4 16 (24 * g.groups)))
      ∙ flat_map-append (named_at w t) (range_with_len 0 4) (range_with_len 4 16 ++ range_with_len 20 (24 * g.groups))
      ∙ ap (λ v. v ++ flat_map (named_at w t) (range_with_len 4 16 ++ range_with_len 20 (24 * g.groups))) (no_names 0 4 (λ o i a b e f. omega arith))
      ∙ flat_map-append (named_at w t) (range_with_len 4 16) (range_with_len 20 (24 * g.groups))
      ∙ ap (λ v. flat_map (named_at w t) (range_with_len 4 16) ++ v) (no_names 20 (24 * g.groups) (λ o i a b e f. omega arith))
      ∙ append-nil (flat_map (named_at w t) (range_with_len 4 16))
      ∙ at_levels 0 16 (omega arith)
      ∙ ap (levels 0) (parts t.depth l)
      ∙ ap (flat_map (child_if w t)) (range_parts 0 t.depth (16 - t.depth))
      ∙ flat_map-append (child_if w t) (range_with_len 0 t.depth) (range_with_len (0 + t.depth) (16 - t.depth))
      ∙ ap (λ v. v ++ levels (0 + t.depth) (16 - t.depth)) (low_levels t.depth (omega arith))
      ∙ ap (λ v. levels v (16 - t.depth)) (none t.depth)
    where
      whole : (n : ℕ) → 20 + 24 * n ≡ 4 + (16 + 24 * n)
      whole n = omega arith

      parts : (d : ℕ) → d ≤ 16 → 16 ≡ d + (16 - d)
      parts d h = omega arith

      none : (d : ℕ) → 0 + d ≡ d
      none d = omega arith

  -- the next level
  levels_next : (i : ℕ) → t.depth ≤ i → levels t.depth (i + 1 - t.depth) ≡ levels t.depth (i - t.depth) ++ child_if w t i
  levels_next i h =
      ap (levels t.depth) (one t.depth i h)
      ∙ ap (flat_map (child_if w t)) (range_parts t.depth (i - t.depth) 1)
      ∙ flat_map-append (child_if w t) (range_with_len t.depth (i - t.depth)) (range_with_len (t.depth + (i - t.depth)) 1)
      ∙ ap (λ v. levels t.depth (i - t.depth) ++ v) (append-nil (child_if w t (t.depth + (i - t.depth))) ∙ ap (child_if w t) (back t.depth i h))
    where
      one : (d i : ℕ) → d ≤ i → i + 1 - d ≡ i - d + 1
      one d i h = omega arith

      back : (d i : ℕ) → d ≤ i → d + (i - d) ≡ i
      back d i h = omega arith

  pub levels_none : (i : ℕ) → t.depth ≤ i → w (child_at t.at i) ≡ 0 → levels t.depth (i + 1 - t.depth) ≡ levels t.depth (i - t.depth)
  levels_none i h z = levels_next i h ∙ ap (λ v. levels t.depth (i - t.depth) ++ v) (empty (child_if w t i) (λ c k. (child_if_back w t i c k).1 z)) ∙ append-nil (levels t.depth (i - t.depth))

  pub levels_some : (i : ℕ) → t.depth ≤ i → w (child_at t.at i) ≢ 0 → levels t.depth (i + 1 - t.depth) ≡ levels t.depth (i - t.depth) ++ child_of w t i ∷ []
  levels_some i h n = levels_next i h ∙ ap (λ v. levels t.depth (i - t.depth) ++ v) (child_if_is w t i h n)

-- the same, of what the code has read
module _ (g : Geometry) (w : Words) (t : ImageTable) (ts us : List ImageTable) where
  pub levels_start : levels g w t t.depth (t.depth - t.depth) ≡ []
  levels_start = ap (levels g w t t.depth) (none t.depth)
    where
      none : (d : ℕ) → d - d ≡ 0
      none d = omega arith

  -- the children of the levels below i stand behind the others
  abbrev pub Behind : ℕ → Type 0
  Behind i = us ≡ ts ++ levels g w t t.depth (i - t.depth)

  pub behind_all : t.depth ≤ 16 → (i : ℕ) → 16 ≤ i → i ≤ 16 → Behind i → us ≡ ts ++ children g w t
  behind_all l i a b h = h ∙ ap (λ v. ts ++ v) (ap (λ v. levels g w t t.depth (v - t.depth)) (same i a b) ∙ sym (children_levels g w t l))
    where
      same : (i : ℕ) → 16 ≤ i → i ≤ 16 → i ≡ 16
      same i a b = omega arith

  pub behind_none : (i c : ℕ) → t.depth ≤ i → c ≡ w (child_at t.at i) → c ≡ 0 → Behind i → Behind (i + 1)
  behind_none i c l e z h = h ∙ ap (λ v. ts ++ v) (sym (levels_none g w t i l (sym e ∙ z)))

built : (a x b y d p : ℕ) → a ≡ b → x ≡ y → (let u : ImageTable = record { at = a; depth = d; suffix = x; parent = p } in u) ≡ record { at = b; depth = d; suffix = y; parent = p }
built a x b y d p e f = cc

shifted : (i : ℕ) → i < 16 → 1 * 2 ^ i % 4294967296 ≡ 2 ^ i
shifted i h = let a = pow_up i 15 (omega arith) in mod-eq_of_lt (omega arith) ∙ one_times (2 ^ i)
  where
    one_times : (x : ℕ) → 1 * x ≡ x
    one_times x = omega arith

pub behind_some : (g : Geometry) (w : Words) (t : ImageTable) (ts us vs : List ImageTable) (i c : ℕ) → t.depth ≤ i → i < 16 → c ≡ w (child_at t.at i) → c ≢ 0 → vs ≡ us ++ record { at = c; depth = i + 1; suffix = t.suffix + 1 * 2 ^ i % 4294967296; parent = t.at } ∷ [] → Behind g w t ts us i → Behind g w t ts vs (i + 1)
behind_some g w t ts us vs i c l i16 e n ve h =
    ve ∙ ap (λ v. us ++ v ∷ []) (built c (t.suffix + 1 * 2 ^ i % 4294967296) (w (child_at t.at i)) (t.suffix + 2 ^ i) (i + 1) t.at e (ap (λ y. t.suffix + y) (shifted i i16)))
    ∙ ap (λ v. v ++ child_of w t i ∷ []) h ∙ append_assoc ts (levels g w t t.depth (i - t.depth)) (child_of w t i ∷ [])
    ∙ ap (λ v. ts ++ v) (sym (levels_some g w t i l (λ z. n (e ∙ z))))
