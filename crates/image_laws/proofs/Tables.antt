-- The tables of the walk: with a table each of its children, and nothing but first tables and children.
use Rattle.std.specs.Prelude.{◌≡◌, ◌≢◌, ℕ, zero, suc, ◌+◌, ◌^◌, ◌<◌, ◌≤◌, ◌==◌, nat_lt, Bool, true, false, cond, List, [], ◌∷◌, ◌++◌, map, refl}
use Rattle.std.specs.List.{range_with_len, flat_map}
use Rattle.std.proofs.Common.{sym, ap, subst, inl, inr, arith, ⊎_elim}
use Rattle.std.proofs.lemmas.Bool.Decides.{nat_tests}
use Rattle.node_words.specs.declared.geometry.Geometry.{Geometry}
use Rattle.node_words.specs.Addresses.{table_words, child_at}
use Rattle.node_words.specs.Roles.{Role, ChildWord, offset_role}
use Rattle.node_words.proofs.RoleLemmas.{child_place}
use Rattle.race_laws.specs.Standing.{IsIn}
use Rattle.image_laws.proofs.Offsets.{off_child}
use Rattle.image_laws.specs.declared.table.ImageTable.{ImageTable}
use Rattle.image_laws.specs.Walk.{Words, first_of, firsts, child_of, child_if, named_as, named_at, children, reach, tables, WalkWord, TableWord, GlobalDepth, DirectoryEntry, words_of, walk}
use Rattle.image_laws.proofs.Members.{in_left, in_right, in_cases, in_flat, in_flat_back, in_map, in_map_back, in_range, in_range_back}

-- table c is the child of table u at level i
pub record IsChildOf (w : Words) (u : ImageTable) (i : ℕ) (c : ImageTable) : Type 0 where
  pub from : u.depth ≤ i
  pub below : i < 16
  pub some : w (child_at u.at i) ≢ 0
  pub is : c ≡ child_of w u i

is_zero : (x : ℕ) → (x == 0) ≡ true → x ≡ 0
is_zero x h = grind (arith, nat_tests)

not_zero : (x : ℕ) → (x == 0) ≡ false → x ≢ 0
not_zero x h = grind (arith, nat_tests)

is_less : (x y : ℕ) → nat_lt x y ≡ true → x < y
is_less x y h = grind (arith, nat_tests)

not_less : (x y : ℕ) → nat_lt x y ≡ false → y ≤ x
not_less x y h = grind (arith, nat_tests)

pub child_if_is : (w : Words) (t : ImageTable) (i : ℕ) → t.depth ≤ i → w (child_at t.at i) ≢ 0 → child_if w t i ≡ child_of w t i ∷ []
child_if_is w t i f n = by (nat_lt i t.depth) (w (child_at t.at i) == 0) refl refl
  where
    by : (a b : Bool) → nat_lt i t.depth ≡ a → (w (child_at t.at i) == 0) ≡ b → cond a [] (cond b [] (child_of w t i ∷ [])) ≡ child_of w t i ∷ []
    by true b h k = let x = is_less i t.depth h in absurd (omega arith)
    by false true h k = absurd (n (is_zero (w (child_at t.at i)) k))
    by false false h k = refl

pub child_if_some : (w : Words) (t : ImageTable) (i : ℕ) → t.depth ≤ i → w (child_at t.at i) ≢ 0 → IsIn (child_of w t i) (child_if w t i)
child_if_some w t i f n = subst (IsIn (child_of w t i)) (sym (child_if_is w t i f n)) (inl refl)

pub child_if_back : (w : Words) (t : ImageTable) (i : ℕ) (c : ImageTable) → IsIn c (child_if w t i) → (t.depth ≤ i) × (w (child_at t.at i) ≢ 0) × (c ≡ child_of w t i)
child_if_back w t i c h = by (nat_lt i t.depth) (w (child_at t.at i) == 0) refl refl h
  where
    by : (a b : Bool) → nat_lt i t.depth ≡ a → (w (child_at t.at i) == 0) ≡ b → IsIn c (cond a [] (cond b [] (child_of w t i ∷ []))) → (t.depth ≤ i) × (w (child_at t.at i) ≢ 0) × (c ≡ child_of w t i)
    by true b e f k = absurd k
    by false true e f k = absurd k
    by false false e f (inl k) = (not_less i t.depth e, not_zero (w (child_at t.at i)) f, k)
    by false false e f (inr k) = absurd k

pub named_child : (g : Geometry) (w : Words) (t : ImageTable) (i : ℕ) → t.depth ≤ i → i < 16 → w (child_at t.at i) ≢ 0 → IsIn (child_of w t i) (named_at w t (4 + i))
named_child g w t i f k n = subst (λ r. IsIn (child_of w t i) (named_as w t r)) (sym (off_child g t.at i k)) (child_if_some w t i f n)

pub child_among : (g : Geometry) (w : Words) (t : ImageTable) (i : ℕ) → t.depth ≤ i → i < 16 → w (child_at t.at i) ≢ 0 → IsIn (child_of w t i) (children g w t)
child_among g w t i h k n = in_flat (named_at w t) (child_of w t i) (4 + i) (range_with_len 0 (table_words g)) (in_range 0 (table_words g) (4 + i) (omega arith) (omega arith)) (named_child g w t i h k n)

-- what a word names is a child
pub record IsNamed (w : Words) (t : ImageTable) (o : ℕ) (c : ImageTable) : Type 0 where
  pub level : ℕ
  pub at : o ≡ 4 + level
  pub is_child : IsChildOf w t level c

pub named_back : (w : Words) (t : ImageTable) (o : ℕ) (c : ImageTable) → IsIn c (named_at w t o) → IsNamed w t o c
named_back w t o c h = by (offset_role t.at o) refl h
  where
    by : (r : Role) → offset_role t.at o ≡ r → IsIn c (named_as w t r) → IsNamed w t o c
    by (ChildWord u i) e m =
        let x = child_place t.at o u i e in
        let y = child_if_back w t i c m in
        record { level = i; at = x.1; is_child = record { from = y.0; below = x.2; some = y.1; is = y.2 } }
    by _ e m = absurd m

pub child_back : (g : Geometry) (w : Words) (t : ImageTable) (c : ImageTable) → IsIn c (children g w t) → (i : ℕ) × IsChildOf w t i c
child_back g w t c h =
    let r = in_flat_back (named_at w t) c (range_with_len 0 (table_words g)) h in
    let x = named_back w t r.0 c r.2 in
    (x.level, x.is_child)

module _ (g : Geometry) where
  pub reach-zero : (w : Words) (ts : List ImageTable) → reach g zero w ts ≡ []
  unfolding reach
  reach-zero w ts = refl

  pub reach-suc : (n : ℕ) (w : Words) (ts : List ImageTable) → reach g (suc n) w ts ≡ ts ++ reach g n w (flat_map (children g w) ts)
  unfolding reach
  reach-suc n w ts = refl

  reach_here : (n : ℕ) (w : Words) (x : ImageTable) (ts : List ImageTable) → 1 ≤ n → IsIn x ts → IsIn x (reach g n w ts)
  reach_here zero w x ts h k = absurd (omega arith)
  reach_here (suc n) w x ts h k = subst (IsIn x) (sym (reach-suc n w ts)) (in_left x ts (reach g n w (flat_map (children g w) ts)) k)

  abbrev pub Deep : ℕ → List ImageTable → Type 0
  Deep k ts = (t : ImageTable) → IsIn t ts → k ≤ t.depth

  pub deeper : (k : ℕ) (w : Words) (ts : List ImageTable) → Deep k ts → Deep (k + 1) (flat_map (children g w) ts)
  deeper k w ts d c h =
      let r = in_flat_back (children g w) c ts h in
      let x = child_back g w r.0 c r.2 in
      let a = d r.0 r.1 in
      let f = x.1.from in
      let e = ap (λ (t : ImageTable). t.depth) x.1.is in
      omega arith

  reach_closed : (n k : ℕ) → n + k ≡ 17 → (w : Words) (ts : List ImageTable) → Deep k ts → (t : ImageTable) → IsIn t (reach g n w ts) → (i : ℕ) → t.depth ≤ i → i < 16 → w (child_at t.at i) ≢ 0 → IsIn (child_of w t i) (reach g n w ts)
  reach_closed zero k e w ts d t h i f b m = absurd (subst (IsIn t) (reach-zero w ts) h)
  reach_closed (suc n) k e w ts d t h i f b m =
      subst (IsIn (child_of w t i)) (sym (reach-suc n w ts))
      (⊎_elim (λ (x : IsIn t ts). in_right (child_of w t i) ts (reach g n w (flat_map (children g w) ts)) (reach_here n w (child_of w t i) (flat_map (children g w) ts) (let y = d t x in omega arith) (in_flat (children g w) (child_of w t i) t ts x (child_among g w t i f b m))))
      (λ (x : IsIn t (reach g n w (flat_map (children g w) ts))). in_right (child_of w t i) ts (reach g n w (flat_map (children g w) ts)) (reach_closed n (k + 1) (omega arith) w (flat_map (children g w) ts) (deeper k w ts d) t x i f b m))
      (in_cases t ts (reach g n w (flat_map (children g w) ts)) (subst (IsIn t) (reach-suc n w ts) h)))

  -- what holds of the first ones and goes on to children holds of all
  pub reach_all : (P : ImageTable → Type 0) (n : ℕ) (w : Words) (ts : List ImageTable) → ((t : ImageTable) → IsIn t ts → P t) → ((u : ImageTable) (i : ℕ) (c : ImageTable) → IsIn u (reach g n w ts) → P u → IsChildOf w u i c → P c) → (t : ImageTable) → IsIn t (reach g n w ts) → P t
  reach_all P zero w ts base step t h = absurd (subst (IsIn t) (reach-zero w ts) h)
  reach_all P (suc n) w ts base step t h = ⊎_elim (λ (x : IsIn t ts). base t x)
      (λ (x : IsIn t (reach g n w (flat_map (children g w) ts))). reach_all P n w (flat_map (children g w) ts) next (λ u i c a p k. step u i c (later u a) p k) t x)
      (in_cases t ts (reach g n w (flat_map (children g w) ts)) (subst (IsIn t) (reach-suc n w ts) h))
    where
      later : (u : ImageTable) → IsIn u (reach g n w (flat_map (children g w) ts)) → IsIn u (reach g (suc n) w ts)
      later u a = subst (IsIn u) (sym (reach-suc n w ts)) (in_right u ts (reach g n w (flat_map (children g w) ts)) a)

      here : (u : ImageTable) → IsIn u ts → IsIn u (reach g (suc n) w ts)
      here u a = subst (IsIn u) (sym (reach-suc n w ts)) (in_left u ts (reach g n w (flat_map (children g w) ts)) a)

      next : (c : ImageTable) → IsIn c (flat_map (children g w) ts) → P c
      next c k =
          let r = in_flat_back (children g w) c ts k in
          let x = child_back g w r.0 c r.2 in
          step r.0 x.0 c (here r.0 r.1) (base r.0 r.1) x.1

pub firsts_among : (g : Geometry) (j : ℕ) → j < 2 ^ g.first_depth → IsIn (first_of g j) (firsts g)
firsts_among g j h = in_map (first_of g) j (range_with_len 0 (2 ^ g.first_depth)) (in_range 0 (2 ^ g.first_depth) j (omega arith) (omega arith))

pub firsts_back : (g : Geometry) (t : ImageTable) → IsIn t (firsts g) → (j : ℕ) × (j < 2 ^ g.first_depth) × (t ≡ first_of g j)
firsts_back g t h =
    let r = in_map_back (first_of g) t (range_with_len 0 (2 ^ g.first_depth)) h in
    let x = in_range_back 0 (2 ^ g.first_depth) r.0 r.1 in
    (r.0, (let y = x.1 in omega arith), r.2)

pub first_listed : (g : Geometry) (w : Words) (j : ℕ) → j < 2 ^ g.first_depth → IsIn (first_of g j) (tables g w)
unfolding tables
first_listed g w j h = reach_here g 17 w (first_of g j) (firsts g) (omega arith) (firsts_among g j h)

pub child_listed : (g : Geometry) (w : Words) (t : ImageTable) → IsIn t (tables g w) → (i : ℕ) → t.depth ≤ i → i < 16 → w (child_at t.at i) ≢ 0 → IsIn (child_of w t i) (tables g w)
unfolding tables
child_listed g w t h i f b n = reach_closed g 17 0 refl w (firsts g) (λ u k. omega arith) t h i f b n

pub tables_all : (P : ImageTable → Type 0) (g : Geometry) (w : Words) → ((j : ℕ) → j < 2 ^ g.first_depth → P (first_of g j)) → ((u : ImageTable) (i : ℕ) (c : ImageTable) → IsIn u (tables g w) → P u → IsChildOf w u i c → P c) → (t : ImageTable) → IsIn t (tables g w) → P t
unfolding tables
tables_all P g w base step t h = reach_all g P 17 w (firsts g) (λ t k. let r = firsts_back g t k in subst P (sym r.2) (base r.0 r.1)) step t h

pub table_word_in : (g : Geometry) (w : Words) (t : ImageTable) (o : ℕ) → IsIn t (tables g w) → o < table_words g → IsIn (TableWord t o) (walk g w)
unfolding walk
table_word_in g w t o h k = in_left (TableWord t o) (flat_map (words_of g) (tables g w)) _ (in_flat (words_of g) (TableWord t o) t (tables g w) h (in_map (TableWord t) o (range_with_len 0 (table_words g)) (in_range 0 (table_words g) o (omega arith) (omega arith))))

-- what a site of the walk is
pub data IsWalked (g : Geometry) (w : Words) : WalkWord → Type 0 where
  in_table : (t : ImageTable) (o : ℕ) → IsIn t (tables g w) → o < table_words g → IsWalked g w (TableWord t o)
  of_depth : IsWalked g w GlobalDepth
  of_directory : (j : ℕ) → j < 2 ^ g.max_depth → IsWalked g w (DirectoryEntry j)

pub walked_is : (g : Geometry) (w : Words) (x : WalkWord) → IsIn x (walk g w) → IsWalked g w x
unfolding walk
walked_is g w x h = ⊎_elim (λ (k : IsIn x (flat_map (words_of g) (tables g w))). tabled k)
    (λ (k : IsIn x (GlobalDepth ∷ map DirectoryEntry (range_with_len 0 (2 ^ g.max_depth)))). after k)
    (in_cases x (flat_map (words_of g) (tables g w)) _ h)
  where
    tabled : IsIn x (flat_map (words_of g) (tables g w)) → IsWalked g w x
    tabled k =
        let r = in_flat_back (words_of g) x (tables g w) k in
        let y = in_map_back (TableWord r.0) x (range_with_len 0 (table_words g)) r.2 in
        let z = in_range_back 0 (table_words g) y.0 y.1 in
        subst (IsWalked g w) (sym y.2) (in_table r.0 y.0 r.1 (let v = z.1 in omega arith))

    after : IsIn x (GlobalDepth ∷ map DirectoryEntry (range_with_len 0 (2 ^ g.max_depth))) → IsWalked g w x
    after (inl e) = subst (IsWalked g w) (sym e) of_depth
    after (inr k) =
        let y = in_map_back DirectoryEntry x (range_with_len 0 (2 ^ g.max_depth)) k in
        let z = in_range_back 0 (2 ^ g.max_depth) y.0 y.1 in
        subst (IsWalked g w) (sym y.2) (of_directory y.0 (let v = z.1 in omega arith))
