-- Child words, as an audit judges them.
use Rattle.std.specs.Prelude.{◌≡◌, ◌≢◌, ℕ, ◌+◌, ◌*◌, ◌%◌, ◌^◌, ◌<◌, ◌≤◌, ◌↔◌, IsTrue, not, Bool, true, false, List, [], ◌∷◌, ◌++◌, map, slice_index_or, ◌⊎◌, refl}
use Rattle.std.specs.List.{flat_map}
use Rattle.std.proofs.Common.{sym, ◌∙◌, ap, subst, inl, inr, arith, ⊎_elim, append-nil, append_assoc}
use Rattle.std.proofs.lemmas.Bool.{cases_lt}
use Rattle.std.proofs.lemmas.Grind.{flat_map-append}
use Rattle.std.proofs.lemmas.Nat.{pow-add}
use Rattle.std.proofs.Math.Nat.{mod-eq_of_lt, mod-le}
use Rattle.std.specs.FinMap as fin
use Rattle.map_model.specs.Machine.{map_after}
use Rattle.node_words.specs.declared.geometry.Geometry.{Geometry}
use Rattle.node_words.specs.Addresses.{table_words, first_table, child_at}
use Rattle.node_words.proofs.FirstTables.{first_table_ends}
use Rattle.race_laws.specs.Setting.{Setting}
use Rattle.race_laws.proofs.Regions.{base_low}
use Rattle.race_laws.specs.Standing.{IsIn}
use Rattle.log_facts.proofs.Directory.{pow_up}
use Rattle.image_laws.specs.declared.table.ImageTable.{ImageTable}
use Rattle.image_laws.specs.Walk.{Words, first_of, firsts, child_of, child_if, named_as, WalkWord, TableWord}
use Rattle.image_laws.specs.Sound.{IsTaken, depth_in, named_by, listed_by, held_as, held_by, held, Apart, ChildRule, TableRule, PlainRule, Rule}
use Rattle.image_laws.specs.Answers.{sets}
use Rattle.image_laws.specs.Pairwise.{Pairwise}
use Rattle.image_laws.proofs.Members.{in_left, in_right, in_cases}
use Rattle.image_laws.proofs.Tables.{child_if_is, child_if_back, firsts_back}
use Rattle.image_laws.proofs.Offsets.{off_child}
use Rattle.image_laws.proofs.Pairwise.{pairwise_append}
use Rattle.image_audit.specs.Held.{Blocks, Hold}
use Rattle.image_audit.specs.Kept.{AreFree, Marks, Kept, IsSmall, AllSmall}

two_cases : (b : Bool) → (b ≡ true) ⊎ (b ≡ false)
two_cases true = inl refl
two_cases false = inr refl

-- a word behind those before it
pub held_more : (w : Words) (before : List WalkWord) (x : WalkWord) → held w (before ++ x ∷ []) ≡ held w before ++ held_by w x
held_more w before x = flat_map-append (held_by w) before (x ∷ []) ∙ ap (λ v. held w before ++ v) (append-nil (held_by w x))

pub named_more : (w : Words) (before : List WalkWord) (x : WalkWord) → flat_map (named_by w) (before ++ x ∷ []) ≡ flat_map (named_by w) before ++ named_by w x
named_more w before x = flat_map-append (named_by w) before (x ∷ []) ∙ ap (λ v. flat_map (named_by w) before ++ v) (append-nil (named_by w x))

pub listed_more : (g : Geometry) (w : Words) (before : List WalkWord) (x : WalkWord) → listed_by g w (before ++ x ∷ []) ≡ listed_by g w before ++ named_by w x
listed_more g w before x = ap (λ v. firsts g ++ v) (named_more w before x) ∙ sym (append_assoc (firsts g) (flat_map (named_by w) before) (named_by w x))

-- a word that names and holds nothing
pub kept_on : (s : Setting) (w : Words) (place : ℕ → ℕ) (cells : ℕ) (before : List WalkWord) (x : WalkWord) (ts : List ImageTable) (ms : List Bool) (m : Blocks) → Kept s w place cells before ts ms m → named_by w x ≡ [] → held_by w x ≡ [] → Kept s w place cells (before ++ x ∷ []) ts ms m
kept_on s w place cells before x ts ms m k n h =
    let e = named_more w before x ∙ ap (λ v. flat_map (named_by w) before ++ v) n ∙ append-nil (flat_map (named_by w) before) in
    record {
      listed = k.listed ∙ sym (ap (λ v. firsts s.geometry ++ v) e);
      size = k.size;
      taken = λ u a. k.taken u (subst (IsIn u) e a);
      given = λ u a. k.given u (subst (IsIn u) e a);
      only = λ j b. let r = k.only j b in (r.0, subst (IsIn r.0) (sym e) r.1, r.2, r.3, r.4, r.5);
      once = subst (λ v. Pairwise (λ (t u : ImageTable). t.at ≢ u.at) (firsts s.geometry ++ v)) (sym e) k.once;
      map = subst (λ v. Hold s.geometry w m (map_after fin.empty (map sets v))) (sym (held_more w before x ∙ ap (λ v. held w before ++ v) h ∙ append-nil (held w before))) k.map;
    }

module _ (s : Setting) (w : Words) (place : ℕ → ℕ) (cells : ℕ) (before : List WalkWord) (ts : List ImageTable) (ms : List Bool) (m : Blocks) (k : Kept s w place cells before ts ms m) (t : ImageTable) (i : ℕ) (i16 : i < 16) where
  abbrev c : ℕ
  c = w (child_at t.at i)

  abbrev x : WalkWord
  x = TableWord t (4 + i)

  to_rule : ChildRule s.geometry w before t i → Rule s w before x
  to_rule r = (subst (TableRule s w before t) (sym (off_child s.geometry t.at i i16)) r, subst (PlainRule w t (4 + i)) (sym (off_child s.geometry t.at i i16)) tt)

  of_rule : Rule s w before x → ChildRule s.geometry w before t i
  of_rule r = subst (TableRule s w before t) (off_child s.geometry t.at i i16) r.0

  none_held : held_by w x ≡ []
  none_held = ap (held_as w t) (off_child s.geometry t.at i i16)

  names : named_by w x ≡ child_if w t i
  names = ap (named_as w t) (off_child s.geometry t.at i i16)

  abbrev Wanted : Type 0
  Wanted = (t.depth ≤ i) × (i < depth_in w t.at)

  zero_named : c ≡ 0 → named_by w x ≡ []
  zero_named z = names ∙ none (child_if w t i) refl
    where
      none : (v : List ImageTable) → child_if w t i ≡ v → child_if w t i ≡ []
      none [] e = e
      none (u ∷ us) e = absurd ((child_if_back w t i u (subst (IsIn u) (sym e) (inl refl))).1 z)

  pub zero_fine : c ≡ 0 → (Wanted → ⊥) → Rule s w before x × Kept s w place cells (before ++ x ∷ []) ts ms m
  zero_fine z n = (to_rule (record { only = λ f. absurd (f z); all = λ a b. absurd (n (a, b)); taken = λ f. absurd (f z); apart = λ f. absurd (f z) }), kept_on s w place cells before x ts ms m k (zero_named z) none_held)

  pub zero_bad : c ≡ 0 → Wanted → Rule s w before x → ⊥
  zero_bad z n r = (of_rule r).all n.0 n.1 z

  pub unwanted_bad : c ≢ 0 → (Wanted → ⊥) → Rule s w before x → ⊥
  unwanted_bad f n r = n ((of_rule r).only f)

  module _ (one : (a b : ℕ) → IsTaken s.geometry w a → IsTaken s.geometry w b → place a ≡ place b → a ≡ b) (low : (a : ℕ) → IsTaken s.geometry w a → a < 2 ^ 24) where
    pub high_bad : c ≢ 0 → 2 ^ 24 ≤ c → Rule s w before x → ⊥
    high_bad f h r = let y = low c ((of_rule r).taken f c (omega arith) (omega arith)) in omega arith

    clash : (u : ImageTable) → (a : ℕ) → c ≤ a → a < c + table_words s.geometry → u.at ≤ a → a < u.at + table_words s.geometry → Apart s.geometry c u.at → ⊥
    clash u a p q y z (inl e) = omega arith
    clash u a p q y z (inr e) = omega arith

    pub used_bad : c ≢ 0 → (AreFree s.geometry w place ms c (table_words s.geometry) → ⊥) → Rule s w before x → ⊥
    used_bad f n r = n (λ a p q. (rule.taken f a p q, free a p q (two_cases (slice_index_or ms (place a) false))))
      where
        rule : ChildRule s.geometry w before t i
        rule = of_rule r

        free : (a : ℕ) → c ≤ a → a < c + table_words s.geometry → (slice_index_or ms (place a) false ≡ true) ⊎ (slice_index_or ms (place a) false ≡ false) → slice_index_or ms (place a) false ≡ false
        free a p q (inr e) = e
        free a p q (inl e) =
            let y = k.only (place a) e in
            let ta = k.taken y.0 y.1 y.2 y.3 y.4 in
            let same = one y.2 a ta (rule.taken f a p q) y.5 in
            absurd (clash y.0 a p q (subst (λ v. y.0.at ≤ v) same y.3) (subst (λ v. v < y.0.at + table_words s.geometry) same y.4) (rule.apart f y.0 (in_right y.0 (firsts s.geometry) (flat_map (named_by w) before) y.1)))

    apart_first : (j : ℕ) → j < 2 ^ s.geometry.first_depth → IsTaken s.geometry w c → Apart s.geometry c (first_table s.geometry j)
    apart_first j h tk = let a = first_table_ends s.geometry j h in let b = base_low s.geometry tk.node in let d = tk.from in inr (omega arith)

    apart_named : AreFree s.geometry w place ms c (table_words s.geometry) → (u : ImageTable) → IsIn u (flat_map (named_by w) before) → Apart s.geometry c u.at
    apart_named fr u a = ⊎_elim (λ (y : c + table_words s.geometry ≤ u.at). inl y)
        (λ (y : u.at < c + table_words s.geometry). ⊎_elim (λ (z : u.at + table_words s.geometry ≤ c). inr z) (λ (z : c < u.at + table_words s.geometry). absurd (⊎_elim (λ (v : c ≤ u.at). both u.at v y (omega arith) (omega arith)) (λ (v : u.at < c). both c (omega arith) (omega arith) (omega arith) z) (cases c u.at)))
        (cases (u.at + table_words s.geometry) c)) (cases (c + table_words s.geometry) u.at)
      where
        cases : (x y : ℕ) → (x ≤ y) ⊎ (y < x)
        cases x y = ⊎_elim (λ (z : y < x). inr z) (λ (z : x ≤ y). inl z) (cases_lt y x)

        both : (b : ℕ) → c ≤ b → b < c + table_words s.geometry → u.at ≤ b → b < u.at + table_words s.geometry → ⊥
        both b p q y z = let e = k.given u a b y z in let f = (fr b p q).1 in cc

    pub child_fine : (ns : List Bool) → c ≢ 0 → Wanted → AreFree s.geometry w place ms c (table_words s.geometry) → Marks place ms ns c (table_words s.geometry)
        → Rule s w before x × Kept s w place cells (before ++ x ∷ []) (ts ++ child_of w t i ∷ []) ns m
    child_fine ns f n fr mk = (
      to_rule (record {
        only = λ g. n;
        all = λ a b. f;
        taken = λ g a p q. (fr a p q).0;
        apart = λ g u a. ⊎_elim (λ (y : IsIn u (firsts s.geometry)). first u (firsts_back s.geometry u y)) (λ (y : IsIn u (flat_map (named_by w) before)). apart_named fr u y) (in_cases u (firsts s.geometry) (flat_map (named_by w) before) a);
      }),
      record {
        listed = ap (λ v. v ++ child_of w t i ∷ []) k.listed ∙ sym (listed_more s.geometry w before x ∙ ap (λ v. listed_by s.geometry w before ++ v) named);
        size = mk.size ∙ k.size;
        taken = λ u a b p q. ⊎_elim (λ (y : IsIn u (flat_map (named_by w) before)). k.taken u y b p q) (λ (y : u ≡ child_of w t i). let e = ap (λ (v : ImageTable). v.at) y in (fr b (omega arith) (omega arith)).0) (cases u a);
        given = λ u a b p q. ⊎_elim (λ (y : IsIn u (flat_map (named_by w) before)). mk.kept (place b) (k.given u y b p q)) (λ (y : u ≡ child_of w t i). let e = ap (λ (v : ImageTable). v.at) y in mk.put b (omega arith) (omega arith)) (cases u a);
        only = λ j b. ⊎_elim (λ (y : slice_index_or ms j false ≡ true). let r = k.only j y in (r.0, more r.0 (inl r.1), r.2, r.3, r.4, r.5))
            (λ y. (child_of w t i, more (child_of w t i) (inr refl), y.0, y.1, y.2, y.3)) (mk.only j b);
        once = subst (Pairwise (λ (t u : ImageTable). t.at ≢ u.at)) (sym (listed_more s.geometry w before x ∙ ap (λ v. listed_by s.geometry w before ++ v) named))
            (pairwise_append (λ (t u : ImageTable). t.at ≢ u.at) (listed_by s.geometry w before) (child_of w t i ∷ []) k.once ((λ y a. absurd a), tt) (λ y z a b. other y z a b));
        map = subst (λ v. Hold s.geometry w m (map_after fin.empty (map sets v))) (sym (held_more w before x ∙ ap (λ v. held w before ++ v) none_held ∙ append-nil (held w before))) k.map;
      },
    )
      where
        named : named_by w x ≡ child_of w t i ∷ []
        named = names ∙ child_if_is w t i n.0 f

        first : (u : ImageTable) → (j : ℕ) × (j < 2 ^ s.geometry.first_depth) × (u ≡ first_of s.geometry j) → Apart s.geometry c u.at
        first u r = subst (λ (v : ImageTable). Apart s.geometry c v.at) (sym r.2) (apart_first r.0 r.1 (fr c (omega arith) (omega arith)).0)

        apart_all : (u : ImageTable) → IsIn u (listed_by s.geometry w before) → Apart s.geometry c u.at
        apart_all u a = ⊎_elim (λ (y : IsIn u (firsts s.geometry)). first u (firsts_back s.geometry u y)) (λ (y : IsIn u (flat_map (named_by w) before)). apart_named fr u y) (in_cases u (firsts s.geometry) (flat_map (named_by w) before) a)

        other : (y z : ImageTable) → IsIn y (listed_by s.geometry w before) → IsIn z (child_of w t i ∷ []) → y.at ≡ z.at → ⊥
        other y z a (inl e) q = let f = ap (λ (v : ImageTable). v.at) e in clash y c (omega arith) (omega arith) (omega arith) (omega arith) (apart_all y a)
        other y z a (inr e) q = e

        cases : (u : ImageTable) → IsIn u (flat_map (named_by w) (before ++ x ∷ [])) → IsIn u (flat_map (named_by w) before) ⊎ (u ≡ child_of w t i)
        cases u a = ⊎_elim (λ (y : IsIn u (flat_map (named_by w) before)). inl y) (λ (y : IsIn u (named_by w x)). inr (one_of (subst (IsIn u) named y))) (in_cases u (flat_map (named_by w) before) (named_by w x) (subst (IsIn u) (named_more w before x) a))
          where
            one_of : IsIn u (child_of w t i ∷ []) → u ≡ child_of w t i
            one_of (inl e) = e
            one_of (inr e) = absurd e

        more : (u : ImageTable) → IsIn u (flat_map (named_by w) before) ⊎ (u ≡ child_of w t i) → IsIn u (flat_map (named_by w) (before ++ x ∷ []))
        more u (inl y) = subst (IsIn u) (sym (named_more w before x)) (in_left u (flat_map (named_by w) before) (named_by w x) y)
        more u (inr e) = subst (IsIn u) (sym (named_more w before x)) (in_right u (flat_map (named_by w) before) (named_by w x) (subst (IsIn u) (sym named) (inl e)))

-- the same, of what the code has read
module _ (s : Setting) (w : Words) (place : ℕ → ℕ) (cells : ℕ) (before : List WalkWord) (ts : List ImageTable) (ms : List Bool) (m : Blocks) (k : Kept s w place cells before ts ms m) (t : ImageTable) (i : ℕ) (i16 : i < 16) (v : Bool) (d ch : ℕ) (e : IsTrue v ↔ ((t.depth ≤ i) × (i < d))) (de : d ≡ depth_in w t.at) (ce : ch ≡ w (child_at t.at i)) where
  wanted : v ≡ true → (t.depth ≤ i) × (i < depth_in w t.at)
  wanted z = let y = e.0 z in (y.0, subst (λ u. i < u) de y.1)

  unwanted : v ≡ false → (t.depth ≤ i) × (i < depth_in w t.at) → ⊥
  unwanted z y = let q = e.1 (y.0, subst (λ u. i < u) (sym de) y.1) in cc

  not_true : (b : Bool) → not b ≡ true → b ≡ false
  not_true true h = cc
  not_true false h = refl

  not_false : (b : Bool) → not b ≡ false → b ≡ true
  not_false true h = refl
  not_false false h = cc

  pub zero_judged : ch ≡ 0 → (not v ≡ true → Rule s w before (TableWord t (4 + i)) × Kept s w place cells (before ++ TableWord t (4 + i) ∷ []) ts ms m) × (not v ≡ false → Rule s w before (TableWord t (4 + i)) → ⊥)
  zero_judged z = (
    (λ x. zero_fine s w place cells before ts ms m k t i i16 (sym ce ∙ z) (unwanted (not_true v x))),
    (λ x r. zero_bad s w place cells before ts ms m k t i i16 (sym ce ∙ z) (wanted (not_false v x)) r),
  )

  pub unwanted_judged : ch ≢ 0 → v ≡ false → Rule s w before (TableWord t (4 + i)) → ⊥
  unwanted_judged n x r = unwanted_bad s w place cells before ts ms m k t i i16 (λ z. n (ce ∙ z)) (unwanted x) r

  module _ (one : (a b : ℕ) → IsTaken s.geometry w a → IsTaken s.geometry w b → place a ≡ place b → a ≡ b) (low : (a : ℕ) → IsTaken s.geometry w a → a < 2 ^ 24) where
    pub high_judged : ch ≢ 0 → 2 ^ 24 ≤ ch → Rule s w before (TableWord t (4 + i)) → ⊥
    high_judged n h r = high_bad s w place cells before ts ms m k t i i16 one low (λ z. n (ce ∙ z)) (subst (λ u. 2 ^ 24 ≤ u) ce h) r

    pub used_judged : ch ≢ 0 → (n : ℕ) → n ≡ table_words s.geometry → (AreFree s.geometry w place ms ch n → ⊥) → Rule s w before (TableWord t (4 + i)) → ⊥
    used_judged z n en f r = used_bad s w place cells before ts ms m k t i i16 one low (λ y. z (ce ∙ y)) (λ fr. f (subst (λ u. AreFree s.geometry w place ms u n) (sym ce) (subst (AreFree s.geometry w place ms (w (child_at t.at i))) (sym en) fr))) r

    pub fine_judged : (ns : List Bool) (u : ImageTable) → ch ≢ 0 → v ≡ true → (n : ℕ) → n ≡ table_words s.geometry → AreFree s.geometry w place ms ch n → Marks place ms ns ch n → u ≡ child_of w t i → Rule s w before (TableWord t (4 + i)) × Kept s w place cells (before ++ TableWord t (4 + i) ∷ []) (ts ++ u ∷ []) ns m
    fine_judged ns u z x n en fr mk ue = subst (λ y. Rule s w before (TableWord t (4 + i)) × Kept s w place cells (before ++ TableWord t (4 + i) ∷ []) (ts ++ y ∷ []) ns m) (sym ue)
        (child_fine s w place cells before ts ms m k t i i16 one low ns (λ y. z (ce ∙ y)) (wanted x)
        (subst (λ y. AreFree s.geometry w place ms y (table_words s.geometry)) ce (subst (AreFree s.geometry w place ms ch) en fr))
        (subst (λ y. Marks place ms ns y (table_words s.geometry)) ce (subst (Marks place ms ns ch) en mk)))

    pub added_judged : (us : List ImageTable) (ns : List Bool) (m2 : Blocks) → ch ≢ 0 → v ≡ true → (n : ℕ) → n ≡ table_words s.geometry → AreFree s.geometry w place ms ch n → us ≡ ts ++ record { at = ch; depth = i + 1; suffix = t.suffix + 1 * 2 ^ i % 4294967296; parent = t.at } ∷ [] → Marks place ms ns ch n → m2 ≡ m → Rule s w before (TableWord t (4 + i)) × Kept s w place cells (before ++ TableWord t (4 + i) ∷ []) us ns m2
    added_judged us ns m2 z x n en fr ue mk me = subst (λ y. Rule s w before (TableWord t (4 + i)) × Kept s w place cells (before ++ TableWord t (4 + i) ∷ []) y ns m2) (sym ue)
        (subst (λ y. Rule s w before (TableWord t (4 + i)) × Kept s w place cells (before ++ TableWord t (4 + i) ∷ []) (ts ++ record { at = ch; depth = i + 1; suffix = t.suffix + 1 * 2 ^ i % 4294967296; parent = t.at } ∷ []) ns y) (sym me)
        (fine_judged ns (record { at = ch; depth = i + 1; suffix = t.suffix + 1 * 2 ^ i % 4294967296; parent = t.at }) z x n en fr mk (built ch (t.suffix + 1 * 2 ^ i % 4294967296) (w (child_at t.at i)) (t.suffix + 2 ^ i) (i + 1) t.at ce (ap (λ y. t.suffix + y) (shifted i i16)))))
      where
        built : (a x b y d p : ℕ) → a ≡ b → x ≡ y → (let u : ImageTable = record { at = a; depth = d; suffix = x; parent = p } in u) ≡ record { at = b; depth = d; suffix = y; parent = p }
        built a x b y d p e f = cc

        shifted : (i : ℕ) → i < 16 → 1 * 2 ^ i % 4294967296 ≡ 2 ^ i
        shifted i h = let a = pow_up i 15 (omega arith) in mod-eq_of_lt (omega arith) ∙ one_times (2 ^ i)
          where
            one_times : (x : ℕ) → 1 * x ≡ x
            one_times x = omega arith

small_shift : (i : ℕ) → i < 16 → 1 * 2 ^ i % 4294967296 ≤ 2 ^ i
small_shift i h = let a = mod-le (1 * 2 ^ i) 4294967296 in one (2 ^ i) (1 * 2 ^ i % 4294967296) a
  where
    one : (x y : ℕ) → y ≤ 1 * x → y ≤ x
    one x y h = omega arith

pub added_small : (t : ImageTable) (i : ℕ) → i < 16 → (ts us : List ImageTable) (ch : ℕ) → IsSmall t → ch < 2 ^ 24 → t.depth ≤ i → us ≡ ts ++ record { at = ch; depth = i + 1; suffix = t.suffix + 1 * 2 ^ i % 4294967296; parent = t.at } ∷ [] → AllSmall ts → AllSmall us
added_small t i i16 ts us ch sm low f e all u a = ⊎_elim (λ (y : IsIn u ts). all u y) (λ y. last y) (in_cases u ts (record { at = ch; depth = i + 1; suffix = t.suffix + 1 * 2 ^ i % 4294967296; parent = t.at } ∷ []) (subst (IsIn u) e a))
  where
    small : IsSmall (record { at = ch; depth = i + 1; suffix = t.suffix + 1 * 2 ^ i % 4294967296; parent = t.at })
    small = record {
      at = low;
      depth = omega arith;
      suffix = (let x = sm.suffix in let y = pow_up t.depth i f in let z = pow-add 2 i 1 in let v = small_shift i i16 in omega arith);
      parent = sm.at;
    }

    last : IsIn u (record { at = ch; depth = i + 1; suffix = t.suffix + 1 * 2 ^ i % 4294967296; parent = t.at } ∷ []) → IsSmall u
    last (inl q) = subst IsSmall (sym q) small
    last (inr q) = absurd q
