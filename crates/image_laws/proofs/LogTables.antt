-- The walk of the words after a legal log: its tables are those of the log, each once.
use Rattle.std.specs.Prelude.{◌≡◌, ◌≢◌, ℕ, zero, suc, ◌+◌, ◌^◌, ◌<◌, ◌≤◌, ◌==◌, nat_lt, Bool, true, false, cond, List, [], ◌∷◌, map, Some, ◌⊎◌, refl}
use Rattle.std.specs.List.{range_with_len, flat_map}
use Rattle.std.proofs.Common.{sym, ◌∙◌, ap, subst, inl, inr, arith, ⊎_elim}
use Rattle.std.proofs.lemmas.Bool.{cases_lt}
use Rattle.slot_word.specs.declared.births.Birth.{Birth}
use Rattle.slot_word.specs.Births.{birth_word}
use Rattle.node_words.specs.declared.geometry.Geometry.{Geometry}
use Rattle.node_words.specs.Addresses.{table_words, first_table, child_at}
use Rattle.node_words.specs.Roles.{Role, ChildWord, offset_role}
use Rattle.node_words.specs.Opening.{first_birth}
use Rattle.node_words.proofs.FirstTables.{IsInFirst, first_table_apart}
use Rattle.verb_log.specs.Tables.{Past, word_at, table_of}
use Rattle.race_laws.specs.Setting.{Setting}
use Rattle.race_laws.specs.Standing.{IsTable, birth_in, IsIn}
use Rattle.race_laws.specs.Legal.{Legal}
use Rattle.race_laws.proofs.Sound.{Sound, table_some}
use Rattle.race_laws.proofs.SoundStep.{sound}
use Rattle.race_laws.proofs.Splits.{Born, IsFirst, Kin, Splits}
use Rattle.race_laws.proofs.Opening.{splits}
use Rattle.race_laws.proofs.Chain.{first_is_table, born_at}
use Rattle.log_facts.proofs.Directory.{first_birth_is}
use Rattle.image_laws.specs.declared.table.ImageTable.{ImageTable}
use Rattle.image_laws.specs.Walk.{Words, first_of, firsts, child_of, named_as, named_at, children, reach, tables, WalkWord, TableWord, GlobalDepth, DirectoryEntry, words_of, walk}
use Rattle.image_laws.specs.Sound.{Apart}
use Rattle.image_laws.proofs.Members.{in_flat_back, in_map_back}
use Rattle.image_laws.proofs.Tables.{IsChildOf, child_back, IsNamed, named_back, reach-suc, reach-zero, reach_all, first_listed, child_listed, firsts_back, tables_all}
use Rattle.image_laws.proofs.SoundWords.{ListedAt}
use Rattle.image_laws.proofs.WordForms.{birth_back}
use Rattle.image_laws.specs.Pairwise.{Pairwise}
use Rattle.image_laws.proofs.Pairwise.{pairwise_append, pairwise_flat, pairwise_map, pairwise_range}
use Rattle.image_laws.proofs.Fixed.{first_word}

-- two tables of a log have no word in common
pub tables_apart : (g : Geometry) (q : Past) → Sound g q → (t u : ℕ) → IsTable g q t → IsTable g q u → t ≢ u → Apart g t u
tables_apart g q so t u h k n = ⊎_elim (λ (x : t + table_words g ≤ u). inl x)
    (λ (x : u < t + table_words g). ⊎_elim (λ (y : u + table_words g ≤ t). inr y) (λ (y : t < u + table_words g). absurd (by x y)) (cases (u + table_words g) t))
    (cases (t + table_words g) u)
  where
    cases : (x y : ℕ) → (x ≤ y) ⊎ (y < x)
    cases x y = ⊎_elim (λ (z : y < x). inr z) (λ (z : x ≤ y). inl z) (cases_lt y x)

    same : table_of g q t ≡ Some t → table_of g q t ≡ Some u → t ≡ u
    same a b = cc

    same2 : table_of g q u ≡ Some u → table_of g q u ≡ Some t → t ≡ u
    same2 a b = cc

    by : u < t + table_words g → t < u + table_words g → ⊥
    by x y = ⊎_elim (λ (z : t ≤ u). n (same2 k (so.whole t t h u z x))) (λ (z : u < t). n (same h (so.whole u u k t (omega arith) y))) (cases t u)

-- a table of the walk is one of the log, with the birth that its word packs
pub record Stands (s : Setting) (q : Past) (t : ImageTable) : Type 0 where
  pub is_table : IsTable s.geometry q t.at
  pub birth : birth_in s.geometry q t.at ≡ (let b : Birth = record { depth = t.depth; suffix = t.suffix; parent = t.parent } in b)
  pub word : word_at s.geometry q t.at ≡ birth_word (record { depth = t.depth; suffix = t.suffix; parent = t.parent })
  pub from : s.geometry.first_depth ≤ t.depth

packed : (f j : ℕ) → first_birth f j ≡ birth_word (record { depth = f; suffix = j; parent = 0 })
unfolding birth_word
packed f j = omega arith

built : (x y z u v w : ℕ) → x ≡ u → y ≡ v → z ≡ w → (let b : Birth = record { depth = x; suffix = y; parent = z } in b) ≡ record { depth = u; suffix = v; parent = w }
built x y z u v w e f g = cc

birth_eq : (b : Birth) (d x p : ℕ) → b.depth ≡ d → b.suffix ≡ x → b.parent ≡ p → b ≡ record { depth = d; suffix = x; parent = p }
birth_eq b d x p e f g = built b.depth b.suffix b.parent d x p e f g

-- a table stands so many splits below a first table
data Rank (s : Setting) (q : Past) : ℕ → ℕ → Type 0 where
  root : (a : ℕ) → IsInFirst s.geometry a a → Rank s q a 0
  up : (a n : ℕ) → (IsInFirst s.geometry a a → ⊥) → Rank s q (birth_in s.geometry q a).parent n → Rank s q a (suc n)

rank_same : (s : Setting) (q : Past) (a n m : ℕ) → Rank s q a n → Rank s q a m → n ≡ m
rank_same s q a n m (root a2 f) (root a3 g) = refl
rank_same s q a n m (root a2 f) (up a3 k x r) = absurd (x f)
rank_same s q a n m (up a2 k x r) (root a3 f) = absurd (x f)
rank_same s q a n m (up a2 k x r) (up a3 j y z) = ap suc (rank_same s q (birth_in s.geometry q a).parent k j r z)

module _ (s : Setting) (q : Past) (l : Legal s q) where
  abbrev words : Words
  words = word_at s.geometry q

  sp : Splits s.geometry q
  sp = splits s q l

  so : Sound s.geometry q
  so = sound s q l

  abbrev is_first : (j : ℕ) → j < 2 ^ s.geometry.first_depth → IsInFirst s.geometry (first_table s.geometry j) (first_table s.geometry j)
  is_first j h = record { index = j; below = h; is = refl; from = omega arith; to = omega arith }

  stands_first : (j : ℕ) → j < 2 ^ s.geometry.first_depth → Stands s q (first_of s.geometry j)
  stands_first j h = record {
    is_table = first_is_table s.geometry q j h;
    birth = first_birth_is s q l (first_table s.geometry j) (is_first j h);
    word = first_word s q l j h ∙ packed s.geometry.first_depth j;
    from = omega arith;
  }

  born_child : (u : ImageTable) (i : ℕ) (c : ImageTable) → Stands s q u → IsChildOf words u i c → Born s.geometry q u.at i (words (child_at u.at i))
  born_child u i c h k = sp.born u.at i (words (child_at u.at i)) h.is_table k.below refl k.some

  child_birth : (u : ImageTable) (i : ℕ) (c : ImageTable) → Stands s q u → IsChildOf words u i c → birth_in s.geometry q (words (child_at u.at i)) ≡ (let b : Birth = record { depth = i + 1; suffix = u.suffix + 2 ^ i; parent = u.at } in b)
  child_birth u i c h k = let b = born_child u i c h k in birth_eq (birth_in s.geometry q (words (child_at u.at i))) (i + 1) (u.suffix + 2 ^ i) u.at b.level (b.suffix ∙ ap (λ (v : Birth). v.suffix + 2 ^ i) h.birth) b.parent

  stands_child : (u : ImageTable) (i : ℕ) (c : ImageTable) → Stands s q u → IsChildOf words u i c → Stands s q c
  stands_child u i c h k =
      let b = child_birth u i c h k in
      subst (Stands s q) (sym k.is) (record {
        is_table = (born_child u i c h k).table;
        birth = b;
        word = birth_back (words (words (child_at u.at i))) (i + 1) (u.suffix + 2 ^ i) u.at (omega arith) b;
        from = (let x = h.from in let y = k.from in omega arith);
      })

  pub stands : (t : ImageTable) → IsIn t (tables s.geometry words) → Stands s q t
  stands t h = tables_all (Stands s q) s.geometry words stands_first (λ u i c a p k. stands_child u i c p k) t h

  -- a child is no first table
  pub child_not_first : (u : ImageTable) (i : ℕ) (c : ImageTable) → Stands s q u → IsChildOf words u i c → IsInFirst s.geometry c.at c.at → ⊥
  child_not_first u i c h k f =
      let st = stands_child u i c h k in
      let a = ap (λ (b : Birth). b.depth) (first_birth_is s q l c.at f) in
      let d = ap (λ (b : Birth). b.depth) st.birth in
      let e = ap (λ (t : ImageTable). t.depth) k.is in
      let x = h.from in
      let y = k.from in
      omega arith

  -- where two children have one address, they are children of one table at one level
  pub child_one : (u v : ImageTable) (i j : ℕ) (c d : ImageTable) → Stands s q u → Stands s q v → IsChildOf words u i c → IsChildOf words v j d → c.at ≡ d.at → (u.at ≡ v.at) × (i ≡ j)
  child_one u v i j c d hu hv k m e =
      let x = (stands_child u i c hu k).birth in
      let y = (stands_child v j d hv m).birth in
      let z = sym x ∙ ap (birth_in s.geometry q) e ∙ y in
      let p = ap (λ (b : Birth). b.parent) z in
      let n = ap (λ (b : Birth). b.depth) z in
      let a = ap (λ (t : ImageTable). t.depth) k.is in
      let b = ap (λ (t : ImageTable). t.depth) m.is in
      let f = ap (λ (t : ImageTable). t.parent) k.is in
      let g = ap (λ (t : ImageTable). t.parent) m.is in
      (omega arith, omega arith)

  -- each table of the log is one of the walk
  listed_first : (a : ℕ) → IsFirst s.geometry q a → ListedAt s.geometry words a
  listed_first a f = record { table = first_of s.geometry f.inside.index; is_listed = first_listed s.geometry words f.inside.index f.inside.below; is = sym f.inside.is }

  listed_next : (a n : ℕ) → IsTable s.geometry q a → (k : Kin s.geometry q a) → born_at s.geometry q a ≤ suc n → ((u : ℕ) → IsTable s.geometry q u → born_at s.geometry q u ≤ n → ListedAt s.geometry words u) → ListedAt s.geometry words a
  listed_next a n h k b ih =
      let u = (birth_in s.geometry q a).parent in
      let g16 = s.geometry.deep in
      let small = k.below in
      let some = table_some s.geometry q so a h in
      let up = sp.upto u k.level k.table (omega arith) (λ z. some (sym k.is_child ∙ z)) in
      let born = k.born in
      let kn = ih u k.table (let x = up.0 in omega arith) in
      let d : born_at s.geometry q u ≡ kn.table.depth = ap (born_at s.geometry q) (sym kn.is) ∙ ap (λ (x : Birth). x.depth) (stands kn.table kn.is_listed).birth in
      let word : words (child_at kn.table.at k.level) ≡ a = ap (λ v. words (child_at v k.level)) kn.is ∙ k.is_child in
      record { table = child_of words kn.table k.level; is_listed = child_listed s.geometry words kn.table kn.is_listed k.level (let x = up.0 in omega arith) (omega arith) (λ z. some (sym word ∙ z)); is = word }

  listed : (n a : ℕ) → IsTable s.geometry q a → born_at s.geometry q a ≤ n → ListedAt s.geometry words a
  listed zero a h b = ⊎_elim (λ (f : IsFirst s.geometry q a). listed_first a f) (λ (k : Kin s.geometry q a). let x = k.born in absurd (omega arith)) (sp.kin a h)
  listed (suc n) a h b = ⊎_elim (λ (f : IsFirst s.geometry q a). listed_first a f) (λ (k : Kin s.geometry q a). listed_next a n h k b (λ u hu bu. listed n u hu bu)) (sp.kin a h)

  pub known : (a : ℕ) → IsTable s.geometry q a → ListedAt s.geometry words a
  known a h = listed (born_at s.geometry q a) a h (omega arith)

  -- no table stands twice in the walk
  abbrev Differ : ImageTable → ImageTable → Type 0
  Differ t u = t.at ≢ u.at

  all_stand : List ImageTable → Type 0
  all_stand ts = (t : ImageTable) → IsIn t ts → Stands s q t

  children_differ : (t : ImageTable) → Stands s q t → Pairwise Differ (children s.geometry words t)
  children_differ t h = pairwise_flat (λ i j. i < j) Differ (named_at words t) (range_with_len 0 (table_words s.geometry)) (pairwise_range 0 (table_words s.geometry))
      (λ o m. single o)
      (λ o p a b low c d x y e. apart o p low c d (named_back words t o c x) (named_back words t p d y) e)
    where
      single : (o : ℕ) → Pairwise Differ (named_at words t o)
      single o = by (offset_role t.at o)
        where
          if : (a b : Bool) (i : ℕ) → Pairwise Differ (cond a [] (cond b [] (child_of words t i ∷ [])))
          if true b i = tt
          if false true i = tt
          if false false i = ((λ y a. absurd a), tt)

          by : (r : Role) → Pairwise Differ (named_as words t r)
          by (ChildWord u i) = if (nat_lt i t.depth) (words (child_at t.at i) == 0) i
          by _ = tt

      apart : (o p : ℕ) → o < p → (c d : ImageTable) → IsNamed words t o c → IsNamed words t p d → c.at ≡ d.at → ⊥
      apart o p low c d x y e = let z = (child_one t t x.level y.level c d h h x.is_child y.is_child e).1 in let u = x.at in let v = y.at in omega arith

  -- tables so many splits deep, or deeper
  record Below (k : ℕ) (t : ImageTable) : Type 0 where
    pub stands_here : Stands s q t
    pub rank : ℕ
    pub is_rank : Rank s q t.at rank
    pub low : k ≤ rank

  rank_child : (u : ImageTable) (i : ℕ) (c : ImageTable) (n : ℕ) → Stands s q u → IsChildOf words u i c → Rank s q u.at n → Rank s q c.at (suc n)
  rank_child u i c n h k r =
      let st = stands_child u i c h k in
      let p = ap (λ (b : Birth). b.parent) st.birth ∙ ap (λ (t : ImageTable). t.parent) k.is in
      up c.at n (child_not_first u i c h k) (subst (λ v. Rank s q v n) (sym p) r)

  below_child : (k : ℕ) (u : ImageTable) (i : ℕ) (c : ImageTable) → Below k u → IsChildOf words u i c → Below k c
  below_child k u i c b x = record { stands_here = stands_child u i c b.stands_here x; rank = suc b.rank; is_rank = rank_child u i c b.rank b.stands_here x b.is_rank; low = (let y = b.low in omega arith) }

  once_reach : (n k : ℕ) (ts : List ImageTable) → ((t : ImageTable) → IsIn t ts → Stands s q t × Rank s q t.at k) → Pairwise Differ ts → Pairwise Differ (reach s.geometry n words ts)
  once_reach zero k ts st once = subst (Pairwise Differ) (sym (reach-zero s.geometry words ts)) tt
  once_reach (suc n) k ts st once = subst (Pairwise Differ) (sym (reach-suc s.geometry n words ts)) (pairwise_append Differ ts (reach s.geometry n words (flat_map (children s.geometry words) ts)) once
      (once_reach n (suc k) (flat_map (children s.geometry words) ts) next (pairwise_flat Differ Differ (children s.geometry words) ts once (λ t m. children_differ t (st t m).0) (λ t u m m2 d a b x y e. apart t u m m2 d a b (child_back s.geometry words t a x) (child_back s.geometry words u b y) e)))
      (λ t u m m2 e. cross t u (st t m).1 e (reach_all s.geometry (Below (suc k)) n words (flat_map (children s.geometry words) ts) (λ c m3. let r = next c m3 in record { stands_here = r.0; rank = suc k; is_rank = r.1; low = omega arith }) (λ v i c m3 b x. below_child (suc k) v i c b x) u m2)))
    where
      next : (c : ImageTable) → IsIn c (flat_map (children s.geometry words) ts) → Stands s q c × Rank s q c.at (suc k)
      next c m =
          let r = in_flat_back (children s.geometry words) c ts m in
          let x = child_back s.geometry words r.0 c r.2 in
          let z = st r.0 r.1 in
          (stands_child r.0 x.0 c z.0 x.1, rank_child r.0 x.0 c k z.0 x.1 z.1)

      apart : (t u : ImageTable) → IsIn t ts → IsIn u ts → Differ t u → (a b : ImageTable) → (i : ℕ) × IsChildOf words t i a → (j : ℕ) × IsChildOf words u j b → a.at ≡ b.at → ⊥
      apart t u m m2 d a b x y e = d (child_one t u x.0 y.0 a b (st t m).0 (st u m2).0 x.1 y.1 e).0

      cross : (t u : ImageTable) → Rank s q t.at k → t.at ≡ u.at → Below (suc k) u → ⊥
      cross t u r e b = let x = rank_same s q u.at k b.rank (subst (λ v. Rank s q v k) e r) b.is_rank in let y = b.low in omega arith

  pub tables_once : Pairwise Differ (tables s.geometry words)
  unfolding tables
  tables_once = once_reach 17 0 (firsts s.geometry) (λ t m. let r = firsts_back s.geometry t m in subst (λ v. Stands s q v × Rank s q v.at 0) (sym r.2) (stands_first r.0 r.1, root (first_table s.geometry r.0) (is_first r.0 r.1)))
      (pairwise_map (λ i j. i < j) Differ (first_of s.geometry) (range_with_len 0 (2 ^ s.geometry.first_depth)) (pairwise_range 0 (2 ^ s.geometry.first_depth)) (λ i j low e. let x = first_table_apart s.geometry i j low in omega arith))

  -- no word of a table stands twice in the walk
  abbrev pub WordsDiffer : WalkWord → WalkWord → Type 0
  WordsDiffer (TableWord t o) (TableWord u p) = t.at ≡ u.at → o ≡ p → ⊥
  WordsDiffer (TableWord t o) GlobalDepth = Unit {0}
  WordsDiffer (TableWord t o) (DirectoryEntry j) = Unit {0}
  WordsDiffer GlobalDepth y = Unit {0}
  WordsDiffer (DirectoryEntry j) y = Unit {0}

  to_depth : (x : WalkWord) → WordsDiffer x GlobalDepth
  to_depth (TableWord t o) = tt
  to_depth GlobalDepth = tt
  to_depth (DirectoryEntry j) = tt

  to_directory : (x : WalkWord) (j : ℕ) → WordsDiffer x (DirectoryEntry j)
  to_directory (TableWord t o) j = tt
  to_directory GlobalDepth j = tt
  to_directory (DirectoryEntry k) j = tt

  pub walk_once : Pairwise WordsDiffer (walk s.geometry words)
  unfolding walk
  walk_once = pairwise_append WordsDiffer (flat_map (words_of s.geometry) (tables s.geometry words)) (GlobalDepth ∷ map DirectoryEntry (range_with_len 0 (2 ^ s.geometry.max_depth)))
      (pairwise_flat Differ WordsDiffer (words_of s.geometry) (tables s.geometry words) tables_once
      (λ t m. pairwise_map (λ i j. i < j) WordsDiffer (TableWord t) (range_with_len 0 (table_words s.geometry)) (pairwise_range 0 (table_words s.geometry)) (λ i j low e f. omega arith))
      (λ t u m m2 d a b x y. apart t u d a b (in_map_back (TableWord t) a (range_with_len 0 (table_words s.geometry)) x) (in_map_back (TableWord u) b (range_with_len 0 (table_words s.geometry)) y)))
      ((λ y m. tt), pairwise_map (λ i j. i < j) WordsDiffer DirectoryEntry (range_with_len 0 (2 ^ s.geometry.max_depth)) (pairwise_range 0 (2 ^ s.geometry.max_depth)) (λ i j low. tt))
      (λ x y m m2. last x y m2)
    where
      apart : (t u : ImageTable) → Differ t u → (a b : WalkWord) → (o : ℕ) × IsIn o (range_with_len 0 (table_words s.geometry)) × (a ≡ TableWord t o) → (p : ℕ) × IsIn p (range_with_len 0 (table_words s.geometry)) × (b ≡ TableWord u p) → WordsDiffer a b
      apart t u d a b x y = subst (λ v. WordsDiffer v b) (sym x.2) (subst (WordsDiffer (TableWord t x.0)) (sym y.2) (λ e f. d e))

      last : (x y : WalkWord) → IsIn y (GlobalDepth ∷ map DirectoryEntry (range_with_len 0 (2 ^ s.geometry.max_depth))) → WordsDiffer x y
      last x y (inl e) = subst (WordsDiffer x) (sym e) (to_depth x)
      last x y (inr m) = let r = in_map_back DirectoryEntry y (range_with_len 0 (2 ^ s.geometry.max_depth)) m in subst (WordsDiffer x) (sym r.2) (to_directory x r.0)
