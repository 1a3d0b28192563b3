-- The loops of an audit.
use Rattle.std.specs.Prelude.{◌≡◌, ◌≢◌, ℕ, zero, suc, ◌+◌, ◌-◌, ◌^◌, ◌<◌, ◌≤◌, Bool, true, false, List, [], ◌∷◌, ◌++◌, map, length, take, drop, slice_index_or, Option, Some, None, MatchOption, refl}
use Rattle.std.specs.List.{range_with_len, flat_map}
use Rattle.std.proofs.Common.{sym, ◌∙◌, ap, subst, inl, inr, arith, append-nil, append_assoc, get_or, length-append}
use Rattle.std.proofs.lemmas.List.{take-append-drop}
use Rattle.std.proofs.lemmas.Grind.{flat_map-append}
use Rattle.std.proofs.lemmas.List.FromFn.{map-range_with_len_more}
use Rattle.std.specs.FinMap as fin
use Rattle.std.specs.BTreeMap as tree
use Rattle.std.specs.BTreeMap.{is_at}
use Rattle.std.specs.Map.{lookup}
use Rattle.kv_block.specs.Bytes.{key_cmp}
use Rattle.node_words.specs.declared.geometry.Geometry.{Geometry}
use Rattle.node_words.proofs.FirstTables.{first_table_apart}
use Rattle.race_laws.specs.Setting.{Setting}
use Rattle.race_laws.specs.Standing.{IsIn}
use Rattle.image_laws.specs.declared.table.ImageTable.{ImageTable}
use Rattle.image_laws.specs.Walk.{Words, WalkWord, TableWord, address_of, words_of, tables, firsts, first_of}
use Rattle.image_laws.specs.Sound.{Rule, named_by, listed_by}
use Rattle.image_laws.specs.Pairwise.{Pairwise}
use Rattle.image_laws.proofs.Pairwise.{pairwise_map, pairwise_range}
use Rattle.image_laws.proofs.Whole.{front, all_walked, next_table, next_low, next_front}
use Rattle.image_audit.specs.Kept.{Kept, Judged, IsSmall, AllSmall, Walked, SoFar, Through}
use Rattle.image_audit.specs.Held.{Blocks}
use Rattle.image_audit.specs.Breaks.{AllMeet, Breaks}

pub meets_append : (R : List WalkWord → WalkWord → Type 0) (before xs ys : List WalkWord) → AllMeet R before xs → AllMeet R (before ++ xs) ys → AllMeet R before (xs ++ ys)
meets_append R before [] ys h k = subst (λ v. AllMeet R v ys) (append-nil before) k
meets_append R before (x ∷ xs) ys h k = (h.0, meets_append R (before ++ x ∷ []) xs ys h.1 (subst (λ v. AllMeet R v ys) (sym (append_assoc before (x ∷ []) xs)) k))

pub range_split : (a o n : ℕ) → o < n → (rest : List ℕ) × (range_with_len a n ≡ range_with_len a o ++ (a + o) ∷ rest)
range_split a o zero h = absurd (omega arith)
range_split a zero (suc n) h = (range_with_len (a + 1) n, ap (λ v. v ∷ range_with_len (a + 1) n) (plus a))
  where
    plus : (a : ℕ) → a ≡ a + 0
    plus a = omega arith
range_split a (suc o) (suc n) h = by (range_split (a + 1) o n (omega arith))
  where
    by : (rest : List ℕ) × (range_with_len (a + 1) n ≡ range_with_len (a + 1) o ++ (a + 1 + o) ∷ rest) → (rest : List ℕ) × (a ∷ range_with_len (a + 1) n ≡ a ∷ (range_with_len (a + 1) o ++ (a + suc o) ∷ rest))
    by r = (r.0, ap (λ v. a ∷ v) (r.1 ∙ ap (λ v. range_with_len (a + 1) o ++ v ∷ r.0) (plus a o)))
      where
        plus : (a o : ℕ) → a + 1 + o ≡ a + suc o
        plus a o = omega arith

pub map_split : (f : ℕ → WalkWord) (xs ys : List ℕ) → map f (xs ++ ys) ≡ map f xs ++ map f ys
map_split f [] ys = refl
map_split f (x ∷ xs) ys = ap (λ v. f x ∷ v) (map_split f xs ys)

pub none_of : (A : Type 0) (B : ℕ → Type 0) (o : Option ℕ) → o ≡ None → MatchOption o A B → A
none_of A B None e h = h
none_of A B (Some x) e h = absurd (cc)

pub some_of : (A : Type 0) (B : ℕ → Type 0) (o : Option ℕ) (x : ℕ) → o ≡ Some x → MatchOption o A B → B x
some_of A B None x e h = absurd (cc)
some_of A B (Some y) x e h = subst B (inside e) h
  where
    inside : Some y ≡ Some x → y ≡ x
    inside e = cc

get_among : (us : List ImageTable) (k : ℕ) (d : ImageTable) → k < length us → IsIn (get_or us k d) us
get_among [] k d h = absurd (omega arith)
get_among (u ∷ us) zero d h = inl refl
get_among (u ∷ us) (suc k) d h = inr (get_among us k d (omega arith))

firsts_once : (g : Geometry) → Pairwise (λ (t u : ImageTable). t.at ≢ u.at) (firsts g)
firsts_once g = pairwise_map (λ i j. i < j) (λ (t u : ImageTable). t.at ≢ u.at) (first_of g) (range_with_len 0 (2 ^ g.first_depth)) (pairwise_range 0 (2 ^ g.first_depth)) (λ i j low e. let x = first_table_apart g i j low in omega arith)

module _ (s : Setting) (w : Words) (place : ℕ → ℕ) (cells : ℕ) where
  pub so_far_start : (ts : List ImageTable) (ms : List Bool) (m : Blocks) → length ms ≡ cells → SoFar s w place cells [] ts ms m ts ms m
  so_far_start ts ms m e = record { walked = λ before k. (tt, subst (λ v. Kept s w place cells v ts ms m) (sym (append-nil before)) k); cells = e; small = λ a. a }

  pub so_far_word : (x : WalkWord) (xs : List WalkWord) (ts us vs : List ImageTable) (ms ns ls : List Bool) (m n p : Blocks) (v : Bool) → SoFar s w place cells xs ts ms m us ns n → Judged s w place cells x v us ns n vs ls p → v ≡ true → length ls ≡ cells → (AllSmall us → AllSmall vs) → SoFar s w place cells (xs ++ x ∷ []) ts ms m vs ls p
  so_far_word x xs ts us vs ms ns ls m n p v h j e c sm = record {
    walked = λ before k. let a = h.walked before k in let b = (j (before ++ xs) a.1).0 e in (meets_append (Rule s w) before xs (x ∷ []) a.0 (b.0, tt), subst (λ z. Kept s w place cells z vs ls p) (append_assoc before xs (x ∷ [])) b.1);
    cells = c;
    small = λ a. sm (h.small a);
  }

  pub so_far_stop : (x : WalkWord) (xs rest all : List WalkWord) (at : ℕ) (ts us vs : List ImageTable) (ms ns ls : List Bool) (m n p : Blocks) (v : Bool) → SoFar s w place cells xs ts ms m us ns n → Judged s w place cells x v us ns n vs ls p → v ≡ false → all ≡ xs ++ x ∷ rest → at ≡ address_of x → (before : List WalkWord) → Kept s w place cells before ts ms m → Breaks (Rule s w) before all at
  so_far_stop x xs rest all at ts us vs ms ns ls m n p v h j e ae ad before k = let a = h.walked before k in record { front = xs; word = x; rest = rest; is = ae; meets = a.0; breaks = (j (before ++ xs) a.1).1 e; address = ad }

  pub so_far_whole : (xs ys : List WalkWord) (ts us : List ImageTable) (ms ns : List Bool) (m n : Blocks) → xs ≡ ys → SoFar s w place cells xs ts ms m us ns n → SoFar s w place cells ys ts ms m us ns n
  so_far_whole xs ys ts us ms ns m n e h = subst (λ v. SoFar s w place cells v ts ms m us ns n) e h

  -- the words of a table
  abbrev pub first_words : ImageTable → ℕ → List WalkWord
  first_words t o = map (TableWord t) (range_with_len 0 o)

  pub first_words_more : (t : ImageTable) (o : ℕ) → first_words t (o + 1) ≡ first_words t o ++ TableWord t o ∷ []
  first_words_more t o = map-range_with_len_more (TableWord t) 0 o o (omega arith)

  pub word_split : (t : ImageTable) (o n : ℕ) → o < n → (rest : List WalkWord) × (first_words t n ≡ first_words t o ++ TableWord t o ∷ rest)
  word_split t o n h =
      let r = range_split 0 o n h in
      (map (TableWord t) r.0, ap (map (TableWord t)) r.1 ∙ map_split (TableWord t) (range_with_len 0 o) ((0 + o) ∷ r.0) ∙ ap (λ v. first_words t o ++ TableWord t v ∷ map (TableWord t) r.0) (plus o))
    where
      plus : (o : ℕ) → 0 + o ≡ o
      plus o = omega arith

  -- all tables
  pub through_start : (ts : List ImageTable) (ms : List Bool) (m : Blocks) → ts ≡ firsts s.geometry → length ms ≡ cells → ((j : ℕ) → slice_index_or ms j false ≡ false) → tree.IsEmpty m → AllSmall ts → Through s w place cells 0 ts ms m
  through_start ts ms m te c un me sm = record {
    meets = tt;
    kept = record {
      listed = te ∙ sym (append-nil (firsts s.geometry));
      size = c;
      taken = λ u a. absurd a;
      given = λ u a. absurd a;
      only = λ j b. let x = un j in absurd (cc);
      once = subst (Pairwise (λ (t u : ImageTable). t.at ≢ u.at)) (sym (append-nil (firsts s.geometry))) (firsts_once s.geometry);
      map = record { words = λ key word e. let x = ap (lookup {K = List ℕ} {X = ℕ} (is_at (key_cmp key))) me in absurd (cc); lacks = λ key e. fin.get-empty key_cmp key };
    };
    low = omega arith;
    small = sm;
  }

  module _ (k : ℕ) (us : List ImageTable) (ns : List Bool) (n : Blocks) (h : Through s w place cells k us ns n) where
    abbrev seen : List WalkWord
    seen = front s.geometry w k

    pub next_is : (t : ImageTable) → k < length us → t ≡ get_or us k t → (t ≡ get_or (tables s.geometry w) k t) × (k < length (listed_by s.geometry w seen))
    next_is t low e =
        let size : k < length (listed_by s.geometry w seen) = subst (λ v. k < length v) h.kept.listed low in
        (e ∙ ap (λ v. get_or v k t) h.kept.listed ∙ next_table s.geometry w k t size, size)

    grows : (xs : List WalkWord) (vs : List ImageTable) (ls : List Bool) (p : Blocks) → Kept s w place cells (seen ++ xs) vs ls p → length us ≤ length vs
    grows xs vs ls p kp =
        let a = ap length h.kept.listed in
        let b = ap length kp.listed in
        let f = length-append (firsts s.geometry) (flat_map (named_by w) seen) in
        let g = length-append (firsts s.geometry) (flat_map (named_by w) (seen ++ xs)) in
        let d = ap length (flat_map-append (named_by w) seen xs) in
        let z = length-append (flat_map (named_by w) seen) (flat_map (named_by w) xs) in
        omega arith

    pub through_next : (t : ImageTable) → k < length us → t ≡ get_or us k t → (vs : List ImageTable) (ls : List Bool) (p : Blocks) → AllMeet (Rule s w) seen (words_of s.geometry t) × Kept s w place cells (seen ++ words_of s.geometry t) vs ls p → (AllSmall us → AllSmall vs) → Through s w place cells (k + 1) vs ls p
    through_next t low e vs ls p r sm =
        let x = next_is t low e in
        let f : front s.geometry w (k + 1) ≡ seen ++ words_of s.geometry t = next_front s.geometry w k t x.1 ∙ ap (λ v. seen ++ words_of s.geometry v) (sym x.0) in
        record {
          meets = subst (AllMeet (Rule s w) []) (sym f) (meets_append (Rule s w) [] seen (words_of s.geometry t) h.meets r.0);
          kept = subst (λ v. Kept s w place cells v vs ls p) (sym f) r.1;
          low = (let g = grows (words_of s.geometry t) vs ls p r.1 in omega arith);
          small = sm h.small;
        }

    pub through_end : length us ≤ k → AllMeet (Rule s w) [] (flat_map (words_of s.geometry) (tables s.geometry w)) × Kept s w place cells (flat_map (words_of s.geometry) (tables s.geometry w)) us ns n
    through_end e =
        let l = ap length h.kept.listed in
        let o = h.low in
        let a = (all_walked s.geometry w k (omega arith)).1 in
        (subst (AllMeet (Rule s w) []) a h.meets, subst (λ v. Kept s w place cells v us ns n) a h.kept)

    pub through_stop : (t : ImageTable) → k < length us → t ≡ get_or us k t → (at : ℕ) → Breaks (Rule s w) seen (words_of s.geometry t) at → Breaks (Rule s w) [] (flat_map (words_of s.geometry) (tables s.geometry w)) at
    through_stop t low e at b =
        let x = next_is t low e in
        record {
          front = seen ++ b.front;
          word = b.word;
          rest = b.rest ++ flat_map (words_of s.geometry) (drop (k + 1) (tables s.geometry w));
          is = ap (flat_map (words_of s.geometry)) (sym (take-append-drop (k + 1) (tables s.geometry w)))
              ∙ flat_map-append (words_of s.geometry) (take (k + 1) (tables s.geometry w)) (drop (k + 1) (tables s.geometry w))
              ∙ ap (λ v. v ++ flat_map (words_of s.geometry) (drop (k + 1) (tables s.geometry w))) (next_front s.geometry w k t x.1 ∙ ap (λ v. seen ++ words_of s.geometry v) (sym x.0) ∙ ap (λ v. seen ++ v) b.is)
              ∙ regroup seen b.front b.word b.rest (flat_map (words_of s.geometry) (drop (k + 1) (tables s.geometry w)));
          meets = meets_append (Rule s w) [] seen b.front h.meets b.meets;
          breaks = b.breaks;
          address = b.address;
        }
      where
        regroup : (a b : List WalkWord) (x : WalkWord) (c d : List WalkWord) → (a ++ (b ++ x ∷ c)) ++ d ≡ (a ++ b) ++ x ∷ (c ++ d)
        regroup a b x c d = simp append_assoc

    pub through_none : (t : ImageTable) → k < length us → t ≡ get_or us k t → (stop : Option ℕ) (vs : List ImageTable) (ls : List Bool) (p : Blocks) → stop ≡ None → Walked s w place cells (words_of s.geometry t) stop us ns n vs ls p → (AllSmall us → AllSmall vs) → Through s w place cells (k + 1) vs ls p
    through_none t low e stop vs ls p f j sm = through_next t low e vs ls p (none_of _ _ stop f (j seen h.kept)) sm

    pub through_some : (t : ImageTable) → k < length us → t ≡ get_or us k t → (stop : Option ℕ) (at : ℕ) (vs : List ImageTable) (ls : List Bool) (p : Blocks) → stop ≡ Some at → Walked s w place cells (words_of s.geometry t) stop us ns n vs ls p → Breaks (Rule s w) [] (flat_map (words_of s.geometry) (tables s.geometry w)) at
    through_some t low e stop at vs ls p f j = through_stop t low e at (some_of _ _ stop at f (j seen h.kept))

    pub small_next : (t : ImageTable) → k < length us → t ≡ get_or us k t → IsSmall t
    small_next t low e = h.small t (subst (λ v. IsIn v us) (sym e) (get_among us k t low))

    pub smaller : k < length us → length (tables s.geometry w) - (k + 1) < length (tables s.geometry w) - k
    smaller low = let x = next_low s.geometry w k (subst (λ v. k < length v) h.kept.listed low) in omega arith
