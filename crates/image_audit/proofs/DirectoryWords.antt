-- The directory and the end of an audit.
use Rattle.std.specs.Prelude.{◌≡◌, ◌≢◌, ℕ, zero, suc, ◌+◌, ◌%◌, ◌^◌, ◌<◌, ◌≤◌, Bool, true, false, cond, List, [], ◌∷◌, ◌++◌, map, Option, Some, None, ◌⊎◌, refl}
use Rattle.std.specs.List.{range_with_len, flat_map}
use Rattle.std.specs.Ordering.{nat_cmp, is_eq}
use Rattle.std.specs.BTreeMap.{BTreeMap, is_at}
use Rattle.std.specs.declared.cmp.Ordering.{Ordering}
use Rattle.std.specs.declared.cmp.Ordering.TheVariants.{Less, Equal, Greater}
use Rattle.std.proofs.lemmas.Cmp.{eq_by_cmp_equiv, nat_cmp_total}
use Rattle.std.proofs.lemmas.Map.Lookups.{exact_unsigned}
use Rattle.std.proofs.Common.{sym, ◌∙◌, ap, subst, inl, inr, arith, ⊎_elim, append-nil, append_assoc}
use Rattle.std.proofs.lemmas.Grind.{flat_map-append}
use Rattle.std.proofs.lemmas.List.FromFn.{map-range_with_len_more}
use Rattle.std.specs.BTreeMap as tree
use Rattle.std.specs.FinMap as fin
use Rattle.map_model.specs.Machine.{map_after}
use Rattle.node_words.specs.declared.geometry.Geometry.{Geometry}
use Rattle.node_words.specs.Addresses.{first_table, directory_at, first_free}
use Rattle.node_words.proofs.FirstTables.{first_table_low, first_table_ends}
use Rattle.node_words.proofs.Sizes.{few_first, first_free_words}
use Rattle.race_laws.specs.Setting.{Setting}
use Rattle.race_laws.specs.Standing.{IsIn}
use Rattle.race_laws.proofs.Touch.{same_or_not}
use Rattle.image_laws.specs.declared.table.ImageTable.{ImageTable}
use Rattle.image_laws.specs.Walk.{Words, first_of, tables, WalkWord, GlobalDepth, DirectoryEntry, FirstBreak, address_of, last_words, words_of, walk, firsts}
use Rattle.image_laws.specs.Sound.{DirectoryRule, Rule, NextsFit, IsSound, FirstBad, held_by, held}
use Rattle.image_laws.specs.Pairwise.{Pairwise}
use Rattle.image_laws.proofs.Members.{in_left, in_right, in_cases}
use Rattle.image_laws.proofs.Tables.{tables_all, firsts_back}
use Rattle.image_laws.specs.Answers.{sets}
use Rattle.image_laws.proofs.Whole.{whole, named_tables}
use Rattle.image_audit.specs.Breaks.{AllMeet, Breaks}
use Rattle.image_audit.specs.Held.{Blocks, Hold, map_walked}
use Rattle.image_audit.specs.Kept.{Indexes, Kept, IsSmall, AllSmall}
use Rattle.image_audit.proofs.Loops.{meets_append, range_split, map_split}

some_or_none : {A : Type 0} (o : Option A) → (o ≡ None) ⊎ ((x : A) × (o ≡ Some x))
some_or_none None = inl refl
some_or_none (Some x) = inr (x, refl)

-- no table stands at 0
pub nowhere_zero : (g : Geometry) (w : Words) (t : ImageTable) → IsIn t (tables g w) → t.at ≢ 0
nowhere_zero g w t h = tables_all (λ (u : ImageTable). u.at ≢ 0) g w (λ j k z. let x = first_table_low g j in omega arith) (λ u i c a p k z. k.some (sym (ap (λ (v : ImageTable). v.at) k.is) ∙ z)) t h

same_table : (ts : List ImageTable) → Pairwise (λ (t u : ImageTable). t.at ≢ u.at) ts → (t u : ImageTable) → IsIn t ts → IsIn u ts → t.at ≡ u.at → t ≡ u
same_table [] p t u a b e = absurd a
same_table (x ∷ ts) p t u (inl a) (inl b) e = a ∙ sym b
same_table (x ∷ ts) p t u (inl a) (inr b) e = absurd (p.0 u b (sym (ap (λ (v : ImageTable). v.at) a) ∙ e))
same_table (x ∷ ts) p t u (inr a) (inl b) e = absurd (p.0 t a (sym (ap (λ (v : ImageTable). v.at) b) ∙ sym e))
same_table (x ∷ ts) p t u (inr a) (inr b) e = same_table ts p.1 t u a b e

-- what a directory word says, by the table at its address
module _ (g : Geometry) (w : Words) (m : BTreeMap ℕ ImageTable) (ts : List ImageTable) (ix : Indexes m ts) (all : ts ≡ tables g w) (once : Pairwise (λ (t u : ImageTable). t.at ≢ u.at) ts) (j : ℕ) where
  pub zero_word : w (directory_at j) ≡ 0 → 2 ^ w 1 ≤ j → DirectoryRule g w j
  zero_word z h = inl (z, h)

  pub zero_low : w (directory_at j) ≡ 0 → j < 2 ^ w 1 → DirectoryRule g w j → ⊥
  zero_low z h (inl x) = let y = x.1 in omega arith
  zero_low z h (inr n) = nowhere_zero g w n.table n.is_listed (sym n.is ∙ z)

  pub unknown : w (directory_at j) ≢ 0 → tree.get nat_cmp m (w (directory_at j)) ≡ None → DirectoryRule g w j → ⊥
  unknown z e (inl x) = z x.0
  unknown z e (inr n) = ix.all n.table (subst (IsIn n.table) (sym all) n.is_listed) (ap (tree.get nat_cmp m) (sym n.is) ∙ e)

  pub named : (t : ImageTable) → tree.get nat_cmp m (w (directory_at j)) ≡ Some t → j % 2 ^ t.depth ≡ t.suffix → DirectoryRule g w j
  named t e h = let r = ix.found (w (directory_at j)) t e in inr (record { table = t; is_listed = subst (IsIn t) all r.0; is = sym r.1; suffix = sym h })

  pub misnamed : w (directory_at j) ≢ 0 → (t : ImageTable) → tree.get nat_cmp m (w (directory_at j)) ≡ Some t → j % 2 ^ t.depth ≢ t.suffix → DirectoryRule g w j → ⊥
  misnamed z t e h (inl x) = z x.0
  misnamed z t e h (inr n) =
      let r = ix.found (w (directory_at j)) t e in
      let same = same_table ts once t n.table r.0 (subst (IsIn n.table) (sym all) n.is_listed) (r.1 ∙ n.is) in
      h (subst (λ (v : ImageTable). j % 2 ^ v.depth ≡ v.suffix) (sym same) (sym n.suffix))

-- one more table by its address
is_equal : (o : Ordering) → is_eq o ≡ true → o ≡ Equal
is_equal Less e = cc
is_equal Equal e = refl
is_equal Greater e = cc

at_test : (x y : ℕ) → is_at (nat_cmp x) y ≡ true → x ≡ y
at_test x y e = exact_unsigned x y (is_equal (nat_cmp x y) e)

at_itself : (x : ℕ) → is_at (nat_cmp x) x ≡ true
at_itself x = (eq_by_cmp_equiv nat_cmp_total).refl x

pub index_more : (m n : BTreeMap ℕ ImageTable) (ts : List ImageTable) (t : ImageTable) → Indexes m ts → ((q : ℕ) → tree.get nat_cmp n q ≡ cond (is_at (nat_cmp t.at) q) (Some t) (tree.get nat_cmp m q)) → Indexes n (ts ++ t ∷ [])
index_more m n ts t ix up = record {
  found = λ a u e. by a u (is_at (nat_cmp t.at) a) refl (sym (up a) ∙ e);
  all = λ u a e. there u a (is_at (nat_cmp t.at) u.at) refl (sym (up u.at) ∙ e);
}
  where
    by : (a : ℕ) (u : ImageTable) (v : Bool) → is_at (nat_cmp t.at) a ≡ v → cond v (Some t) (tree.get nat_cmp m a) ≡ Some u → IsIn u (ts ++ t ∷ []) × (u.at ≡ a)
    by a u true h e = let same = inside e in (in_right u ts (t ∷ []) (inl (sym same)), ap (λ (z : ImageTable). z.at) (sym same) ∙ at_test t.at a h)
      where
        inside : Some t ≡ Some u → t ≡ u
        inside e = cc
    by a u false h e = let r = ix.found a u e in (in_left u ts (t ∷ []) r.0, r.1)

    there : (u : ImageTable) → IsIn u (ts ++ t ∷ []) → (v : Bool) → is_at (nat_cmp t.at) u.at ≡ v → cond v (Some t) (tree.get nat_cmp m u.at) ≡ None → ⊥
    there u a true h e = cc
    there u a false h e = ⊎_elim (λ (x : IsIn u ts). ix.all u x e) (λ (x : IsIn u (t ∷ [])). one x) (in_cases u ts (t ∷ []) a)
      where
        one : IsIn u (t ∷ []) → ⊥
        one (inl x) = let y = ap (λ (z : ImageTable). is_at (nat_cmp t.at) z.at) x in let z = at_itself t.at in cc
        one (inr x) = x

-- all words meet their rules, one after the other
meets_split : (R : List WalkWord → WalkWord → Type 0) (front xs : List WalkWord) → AllMeet R front xs → (before after : List WalkWord) (x : WalkWord) → xs ≡ before ++ x ∷ after → R (front ++ before) x
meets_split R front [] h [] after x e = absurd (cc)
meets_split R front [] h (y ∷ before) after x e = absurd (cc)
meets_split R front (z ∷ xs) h [] after x e = subst (λ v. R (front ++ []) v) (heads e) (subst (λ v. R v z) (sym (append-nil front)) h.0)
  where
    heads : z ∷ xs ≡ x ∷ after → z ≡ x
    heads e = cc
meets_split R front (z ∷ xs) h (y ∷ before) after x e =
    subst (λ v. R (front ++ v ∷ before) x) (heads e) (subst (λ v. R v x) (append_assoc front (z ∷ []) before) (meets_split R (front ++ z ∷ []) xs h.1 before after x (tails e)))
  where
    heads : z ∷ xs ≡ y ∷ (before ++ x ∷ after) → z ≡ y
    heads e = cc

    tails : z ∷ xs ≡ y ∷ (before ++ x ∷ after) → xs ≡ before ++ x ∷ after
    tails e = cc

pub all_sound : (s : Setting) (w : Words) → NextsFit s.geometry w → AllMeet (Rule s w) [] (walk s.geometry w) → IsSound s w
all_sound s w n h = record { nexts = n; meets = λ before after x e. meets_split (Rule s w) [] (walk s.geometry w) h before after x e }

pub first_break : (R : List WalkWord → WalkWord → Type 0) (words : List WalkWord) (at : ℕ) (b : Breaks R [] words at) → FirstBreak R words b.word
first_break R words at b = record { before = b.front; after = b.rest; is = b.is; meets = λ front rest y e. meets_split R [] b.front b.meets front rest y e; breaks = b.breaks }

pub walk_is : (g : Geometry) (w : Words) → walk g w ≡ flat_map (words_of g) (tables g w) ++ last_words (2 ^ g.max_depth)
unfolding walk
walk_is g w = refl

pub directory_meets : (s : Setting) (w : Words) (before : List WalkWord) (n a : ℕ) → ((k : ℕ) → a ≤ k → k < a + n → DirectoryRule s.geometry w k) → AllMeet (Rule s w) before (map DirectoryEntry (range_with_len a n))
directory_meets s w before zero a h = tt
directory_meets s w before (suc n) a h = (h a (omega arith) (omega arith), directory_meets s w (before ++ DirectoryEntry a ∷ []) n (a + 1) (λ k x y. h k (omega arith) (omega arith)))

pub last_fine : (s : Setting) (w : Words) (n : ℕ) → s.geometry.first_depth ≤ w 1 → w 1 ≤ s.geometry.max_depth → ((k : ℕ) → k < n → DirectoryRule s.geometry w k) → (before : List WalkWord) → AllMeet (Rule s w) before (last_words n)
last_fine s w n f t h before = (record { from = f; to = t }, directory_meets s w (before ++ GlobalDepth ∷ []) n 0 (λ k x y. h k (omega arith)))

pub depth_bad : (s : Setting) (w : Words) (n : ℕ) → ((s.geometry.first_depth ≤ w 1) × (w 1 ≤ s.geometry.max_depth) → ⊥) → (before : List WalkWord) → Breaks (Rule s w) before (last_words n) 1
depth_bad s w n h before = record { front = []; word = GlobalDepth; rest = map DirectoryEntry (range_with_len 0 n); is = refl; meets = tt; breaks = λ r. h (r.from, r.to); address = refl }

pub word_bad : (s : Setting) (w : Words) (n j : ℕ) → s.geometry.first_depth ≤ w 1 → w 1 ≤ s.geometry.max_depth → ((k : ℕ) → k < j → DirectoryRule s.geometry w k) → j < n → (DirectoryRule s.geometry w j → ⊥) → (before : List WalkWord) → Breaks (Rule s w) before (last_words n) (2 + j)
word_bad s w n j f t h low b before =
    let r = range_split 0 j n low in
    record {
      front = last_words j;
      word = DirectoryEntry j;
      rest = map DirectoryEntry r.0;
      is = ap (λ v. GlobalDepth ∷ v) (ap (map DirectoryEntry) r.1 ∙ map_split DirectoryEntry (range_with_len 0 j) ((0 + j) ∷ r.0) ∙ ap (λ v. map DirectoryEntry (range_with_len 0 j) ++ DirectoryEntry v ∷ map DirectoryEntry r.0) (plus j));
      meets = last_fine s w j f t h before;
      breaks = b;
      address = refl;
    }
  where
    plus : (j : ℕ) → 0 + j ≡ j
    plus j = omega arith

-- the end
pub audit_sound : (s : Setting) (w : Words) → AllMeet (Rule s w) [] (flat_map (words_of s.geometry) (tables s.geometry w)) → ((before : List WalkWord) → AllMeet (Rule s w) before (last_words (2 ^ s.geometry.max_depth))) → NextsFit s.geometry w → IsSound s w
audit_sound s w h k n = all_sound s w n (subst (AllMeet (Rule s w) []) (sym (walk_is s.geometry w)) (meets_append (Rule s w) [] (flat_map (words_of s.geometry) (tables s.geometry w)) (last_words (2 ^ s.geometry.max_depth)) h (k (flat_map (words_of s.geometry) (tables s.geometry w)))))

pub tables_bad : (s : Setting) (w : Words) (at : ℕ) → Breaks (Rule s w) [] (flat_map (words_of s.geometry) (tables s.geometry w)) at → (x : WalkWord) × FirstBad s w x × (at ≡ address_of x)
tables_bad s w at b =
    let y : Breaks (Rule s w) [] (walk s.geometry w) at = record { front = b.front; word = b.word; rest = b.rest ++ last_words (2 ^ s.geometry.max_depth); is = walk_is s.geometry w ∙ ap (λ v. v ++ last_words (2 ^ s.geometry.max_depth)) b.is ∙ append_assoc b.front (b.word ∷ b.rest) (last_words (2 ^ s.geometry.max_depth)); meets = b.meets; breaks = b.breaks; address = b.address } in
    (b.word, first_break (Rule s w) (walk s.geometry w) at y, b.address)

pub last_bad : (s : Setting) (w : Words) (at : ℕ) → AllMeet (Rule s w) [] (flat_map (words_of s.geometry) (tables s.geometry w)) → Breaks (Rule s w) (flat_map (words_of s.geometry) (tables s.geometry w)) (last_words (2 ^ s.geometry.max_depth)) at → (x : WalkWord) × FirstBad s w x × (at ≡ address_of x)
last_bad s w at h b =
    let ts = flat_map (words_of s.geometry) (tables s.geometry w) in
    let y : Breaks (Rule s w) [] (walk s.geometry w) at = record { front = ts ++ b.front; word = b.word; rest = b.rest; is = walk_is s.geometry w ∙ ap (λ v. ts ++ v) b.is ∙ sym (append_assoc ts b.front (b.word ∷ b.rest)); meets = meets_append (Rule s w) [] ts b.front h b.meets; breaks = b.breaks; address = b.address } in
    (b.word, first_break (Rule s w) (walk s.geometry w) at y, b.address)

pub small_firsts : (g : Geometry) → AllSmall (firsts g)
small_firsts g t h =
    let r = firsts_back g t h in
    subst IsSmall (sym r.2) (record { at = (let x = first_table_ends g r.0 r.1 in let y = first_free_words g in let z = g.within in let v = first_low g r.0 r.1 in omega arith); depth = few_first g; suffix = r.1; parent = omega arith })
  where
    first_low : (g : Geometry) (j : ℕ) → j < 2 ^ g.first_depth → first_table g j < first_free g
    first_low g j h = let x = first_table_ends g j h in omega arith

pub kept_listed : (s : Setting) (w : Words) (place : ℕ → ℕ) (cells : ℕ) (us : List ImageTable) (ns : List Bool) (n : Blocks) → Kept s w place cells (flat_map (words_of s.geometry) (tables s.geometry w)) us ns n → us ≡ tables s.geometry w
kept_listed s w place cells us ns n k = k.listed ∙ ap (λ v. firsts s.geometry ++ v) (named_tables s.geometry w (tables s.geometry w)) ∙ sym (whole s.geometry w)

pub kept_map : (s : Setting) (w : Words) (place : ℕ → ℕ) (cells : ℕ) (us : List ImageTable) (ns : List Bool) (n : Blocks) → Kept s w place cells (flat_map (words_of s.geometry) (tables s.geometry w)) us ns n → Hold s.geometry w n (map_walked s.geometry w)
kept_map s w place cells us ns n k =
    subst (λ v. Hold s.geometry w n (map_after fin.empty (map sets v)))
    (sym (ap (held w) (walk_is s.geometry w) ∙ flat_map-append (held_by w) (flat_map (words_of s.geometry) (tables s.geometry w)) (last_words (2 ^ s.geometry.max_depth)) ∙ ap (λ v. held w (flat_map (words_of s.geometry) (tables s.geometry w)) ++ v) (none (2 ^ s.geometry.max_depth) 0) ∙ append-nil (held w (flat_map (words_of s.geometry) (tables s.geometry w)))))
    k.map
  where
    none : (n a : ℕ) → held w (map DirectoryEntry (range_with_len a n)) ≡ []
    none zero a = refl
    none (suc n) a = none n (a + 1)

pub first_more : (g : Geometry) (j x : ℕ) (ts us : List ImageTable) → ts ≡ map (first_of g) (range_with_len 0 j) → us ≡ ts ++ record { at = x; depth = g.first_depth; suffix = j; parent = 0 } ∷ [] → x ≡ first_table g j → us ≡ map (first_of g) (range_with_len 0 (j + 1))
first_more g j x ts us e f h =
    f ∙ ap (λ v. v ++ record { at = x; depth = g.first_depth; suffix = j; parent = 0 } ∷ []) e
    ∙ ap (λ v. map (first_of g) (range_with_len 0 j) ++ record { at = v; depth = g.first_depth; suffix = j; parent = 0 } ∷ []) h
    ∙ sym (map-range_with_len_more (first_of g) 0 j j (omega arith))

pub rule_on : (g : Geometry) (w : Words) (j : ℕ) → ((k : ℕ) → k < j → DirectoryRule g w k) → DirectoryRule g w j → (k : ℕ) → k < j + 1 → DirectoryRule g w k
rule_on g w j h r k low = ⊎_elim (λ (e : k ≡ j). subst (DirectoryRule g w) (sym e) r) (λ n. h k (omega arith)) (same_or_not k j)
