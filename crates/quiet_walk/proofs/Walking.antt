-- Walks that look for the first word that is not quiet.
use Rattle.std.specs.Prelude.{◌≡◌, ℕ, ◌+◌, ◌^◌, ◌<◌, ◌≤◌, List, [], ◌∷◌, ◌++◌, map, length, take, drop, Option, Some, None, MatchOption, refl}
use Rattle.std.specs.List.{range_with_len, flat_map}
use Rattle.std.proofs.Common.{sym, ◌∙◌, ap, subst, inl, inr, arith, ⊎_elim, append-nil, append_assoc, get_or}
use Rattle.std.proofs.lemmas.List.{take_more, take_all, take-append-drop}
use Rattle.std.proofs.lemmas.List.FromFn.{map-range_with_len_more}
use Rattle.std.proofs.lemmas.Grind.{flat_map-append}
use Rattle.node_words.specs.declared.geometry.Geometry.{Geometry}
use Rattle.race_laws.specs.Standing.{IsIn}
use Rattle.image_laws.specs.declared.table.ImageTable.{ImageTable}
use Rattle.image_laws.specs.Walk.{Words, WalkWord, TableWord, DirectoryEntry, words_of, last_words, tables, walk}
use Rattle.image_laws.specs.Quiet.{QuietAt}
use Rattle.image_laws.proofs.Members.{in_cases, in_map_back, split_in}
use Rattle.image_audit.proofs.Loops.{range_split, map_split}
use Rattle.quiet_walk.specs.Loud.{AllQuiet, IsFirstLoud, Loud}

quiet_append : (w : Words) (xs ys : List WalkWord) → AllQuiet w xs → AllQuiet w ys → AllQuiet w (xs ++ ys)
quiet_append w xs ys h k x i = ⊎_elim (λ (a : IsIn x xs). h x a) (λ (a : IsIn x ys). k x a) (in_cases x xs ys i)

quiet_one : (w : Words) (x : WalkWord) → QuietAt w x → AllQuiet w (x ∷ [])
quiet_one w x h y (inl e) = subst (QuietAt w) (sym e) h
quiet_one w x h y (inr e) = absurd e

-- behind quiet words, others of which one is not quiet
loud_behind : (w : Words) (before xs rest all : List WalkWord) (at : ℕ) → AllQuiet w before → Loud w xs at → all ≡ before ++ (xs ++ rest) → Loud w all at
loud_behind w before xs rest all at q l e = record {
  front = before ++ l.front;
  word = l.word;
  rest = l.rest ++ rest;
  is = e ∙ ap (λ v. before ++ (v ++ rest)) l.is ∙ regroup before l.front l.word l.rest rest;
  quiet = quiet_append w before l.front q l.quiet;
  breaks = l.breaks;
  address = l.address;
}
  where
    regroup : (a b : List WalkWord) (x : WalkWord) (c d : List WalkWord) → a ++ ((b ++ x ∷ c) ++ d) ≡ (a ++ b) ++ x ∷ (c ++ d)
    regroup a b x c d = simp append_assoc

module _ (w : Words) (t : ImageTable) where
  -- the first words of a table
  abbrev pub words_to : ℕ → List WalkWord
  words_to o = map (TableWord t) (range_with_len 0 o)

  pub word_quiet : (o : ℕ) → AllQuiet w (words_to o) → QuietAt w (TableWord t o) → AllQuiet w (words_to (o + 1))
  word_quiet o h k = subst (AllQuiet w) (sym (map-range_with_len_more (TableWord t) 0 o o (omega arith))) (quiet_append w (words_to o) (TableWord t o ∷ []) h (quiet_one w (TableWord t o) k))

  pub word_loud : (o n : ℕ) → o < n → AllQuiet w (words_to o) → (QuietAt w (TableWord t o) → ⊥) → Loud w (words_to n) (t.at + o)
  word_loud o n l h k =
      let r = range_split 0 o n l in
      record {
        front = words_to o;
        word = TableWord t o;
        rest = map (TableWord t) r.0;
        is = ap (map (TableWord t)) r.1 ∙ map_split (TableWord t) (range_with_len 0 o) ((0 + o) ∷ r.0) ∙ ap (λ v. words_to o ++ TableWord t v ∷ map (TableWord t) r.0) (plus o);
        quiet = h;
        breaks = k;
        address = refl;
      }
    where
      plus : (o : ℕ) → 0 + o ≡ o
      plus o = omega arith

module _ (g : Geometry) (w : Words) (ts : List ImageTable) where
  -- the words of the first tables
  abbrev pub words_before : ℕ → List WalkWord
  words_before k = flat_map (words_of g) (take k ts)

  before_more : (k : ℕ) (d : ImageTable) → k < length ts → words_before (k + 1) ≡ words_before k ++ words_of g (get_or ts k d)
  before_more k d l = ap (flat_map (words_of g)) (take_more ts k d l) ∙ flat_map-append (words_of g) (take k ts) (get_or ts k d ∷ []) ∙ ap (λ v. words_before k ++ v) (append-nil (words_of g (get_or ts k d)))

  pub table_quiet : (k : ℕ) (d : ImageTable) → k < length ts → AllQuiet w (words_before k) → AllQuiet w (words_of g (get_or ts k d)) → AllQuiet w (words_before (k + 1))
  table_quiet k d l h q = subst (AllQuiet w) (sym (before_more k d l)) (quiet_append w (words_before k) (words_of g (get_or ts k d)) h q)

  pub table_loud : (k : ℕ) (d : ImageTable) (at : ℕ) → k < length ts → AllQuiet w (words_before k) → Loud w (words_of g (get_or ts k d)) at → Loud w (flat_map (words_of g) ts) at
  table_loud k d at l h q = loud_behind w (words_before k) (words_of g (get_or ts k d)) (flat_map (words_of g) (drop (k + 1) ts)) (flat_map (words_of g) ts) at h q
      (ap (flat_map (words_of g)) (sym (take-append-drop (k + 1) ts)) ∙ flat_map-append (words_of g) (take (k + 1) ts) (drop (k + 1) ts) ∙ ap (λ v. v ++ flat_map (words_of g) (drop (k + 1) ts)) (before_more k d l)
      ∙ append_assoc (words_before k) (words_of g (get_or ts k d)) (flat_map (words_of g) (drop (k + 1) ts)))

  pub tables_quiet : (k : ℕ) → length ts ≤ k → AllQuiet w (words_before k) → AllQuiet w (flat_map (words_of g) ts)
  tables_quiet k l h = subst (λ v. AllQuiet w (flat_map (words_of g) v)) (take_all k ts l) h

-- the words behind those of the tables are quiet whatever they are
last_quiet : (w : Words) (n : ℕ) → AllQuiet w (last_words n)
last_quiet w n x (inl e) = subst (QuietAt w) (sym e) tt
last_quiet w n x (inr h) = let r = in_map_back DirectoryEntry x (range_with_len 0 n) h in subst (QuietAt w) (sym r.2) tt

-- the walk of all tables is the whole walk
pub walk_ends : (g : Geometry) (w : Words) (ts : List ImageTable) → ts ≡ tables g w → (o : Option ℕ) → MatchOption o (AllQuiet w (flat_map (words_of g) ts)) (Loud w (flat_map (words_of g) ts)) → IsFirstLoud g w o
unfolding walk
walk_ends g w ts e None h = subst (λ v. AllQuiet w (flat_map (words_of g) v ++ last_words (2 ^ g.max_depth))) e (quiet_append w (flat_map (words_of g) ts) (last_words (2 ^ g.max_depth)) h (last_quiet w (2 ^ g.max_depth)))
walk_ends g w ts e (Some at) l = (
  l.word,
  record {
    before = l.front;
    after = l.rest ++ last_words (2 ^ g.max_depth);
    is = ap (λ v. flat_map (words_of g) v ++ last_words (2 ^ g.max_depth)) (sym e) ∙ ap (λ v. v ++ last_words (2 ^ g.max_depth)) l.is ∙ append_assoc l.front (l.word ∷ l.rest) (last_words (2 ^ g.max_depth));
    meets = λ front rest y f. l.quiet y (subst (IsIn y) (sym f) (split_in y front rest));
    breaks = l.breaks;
  },
  l.address,
)
