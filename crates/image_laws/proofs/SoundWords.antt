-- What the rules of sound words say of a table of the walk: its numbers, its birth, and that it is on the chains of its suffix.
use Rattle.std.specs.Prelude.{◌≡◌, ℕ, ◌+◌, ◌%◌, ◌^◌, ◌<◌, ◌≤◌, List, ◌∷◌, ◌++◌, refl}
use Rattle.std.proofs.Common.{sym, ◌∙◌, ap, subst, arith}
use Rattle.std.proofs.lemmas.Nat.{pow_pos, mod_below, pow-add}
use Rattle.slot_word.specs.declared.births.Birth.{Birth}
use Rattle.slot_word.specs.Births.{birth_word}
use Rattle.slot_word.proofs.BirthLaws.{birth_of-birth_word}
use Rattle.bucket_group.specs.ExitLevel.{exit_level}
use Rattle.bucket_group.proofs.ExitLaws.{exit-some, exit-below}
use Rattle.node_words.specs.declared.geometry.Geometry.{Geometry}
use Rattle.node_words.specs.Addresses.{table_words, first_table, child_at}
use Rattle.node_words.proofs.Sizes.{few_first, first_free_words, node_ends}
use Rattle.node_words.proofs.FirstTables.{first_table_ends}
use Rattle.verb_log.specs.Decoded.{birth, birth_or_none}
use Rattle.race_laws.specs.Setting.{Setting}
use Rattle.race_laws.specs.Standing.{IsIn, IsGone, depth}
use Rattle.log_facts.proofs.Directory.{bits, pow_up}
use Rattle.image_laws.specs.declared.table.ImageTable.{ImageTable}
use Rattle.image_laws.specs.Walk.{Words, first_of, child_of, tables, WalkWord, TableWord, walk}
use Rattle.image_laws.specs.Sound.{IsTaken, HeaderRule, ChildRule, TableRule, Rule, IsSound}
use Rattle.image_laws.specs.Answers.{Chained, starts, goes_on}
use Rattle.image_laws.proofs.Members.{in_split}
use Rattle.image_laws.proofs.Tables.{IsChildOf, first_listed, child_listed, tables_all, table_word_in}
use Rattle.image_laws.proofs.Offsets.{off_birth, off_header, off_child}

-- where a word stands in the walk, with its rule
pub record Placed (s : Setting) (w : Words) (x : WalkWord) : Type 0 where
  pub before : List WalkWord
  pub after : List WalkWord
  pub is : walk s.geometry w ≡ before ++ x ∷ after
  pub rule : Rule s w before x

-- the numbers of a table of the walk
pub record Fits (t : ImageTable) : Type 0 where
  pub deep : t.depth ≤ 16
  pub small : t.suffix < 2 ^ t.depth
  pub parent : t.parent < 2 ^ 40
  pub at : t.at < 2 ^ 40

-- a table of the walk at this address
pub record ListedAt (g : Geometry) (w : Words) (a : ℕ) : Type 0 where
  pub table : ImageTable
  pub is_listed : IsIn table (tables g w)
  pub is : table.at ≡ a

module _ (s : Setting) (w : Words) (so : IsSound s w) where
  pub placed : (x : WalkWord) → IsIn x (walk s.geometry w) → Placed s w x
  placed x h = let r = in_split x (walk s.geometry w) h in record { before = r.0; after = r.1; is = r.2; rule = so.meets r.0 r.1 x r.2 }

  pub placed_in : (t : ImageTable) (o : ℕ) → IsIn t (tables s.geometry w) → o < table_words s.geometry → Placed s w (TableWord t o)
  placed_in t o h k = placed (TableWord t o) (table_word_in s.geometry w t o h k)

  pub child_rule : (t : ImageTable) → IsIn t (tables s.geometry w) → (i : ℕ) → i < 16 → (before : List WalkWord) × ChildRule s.geometry w before t i
  child_rule t h i k = let r = placed_in t (4 + i) h (omega arith) in (r.before, subst (TableRule s w r.before t) (off_child s.geometry t.at i k) r.rule.0)

  pub header_rule : (t : ImageTable) → IsIn t (tables s.geometry w) → HeaderRule s.geometry w t
  header_rule t h = let r = placed_in t 1 h (omega arith) in subst (TableRule s w r.before t) (off_header s.geometry t.at) r.rule.0

  pub birth_rule : (t : ImageTable) → IsIn t (tables s.geometry w) → w t.at ≡ birth_word (record { depth = t.depth; suffix = t.suffix; parent = t.parent })
  birth_rule t h = let r = placed_in t 0 h (omega arith) in subst (TableRule s w r.before t) (off_birth s.geometry t.at) r.rule.0

  within : (a : ℕ) → IsTaken s.geometry w a → a < 2 ^ 24
  within a t = let x = (so.nexts t.node t.is_node).1 in let y = node_ends s.geometry t.node t.is_node in let z = s.geometry.within in let u = t.to in omega arith

  fits_first : (j : ℕ) → j < 2 ^ s.geometry.first_depth → Fits (first_of s.geometry j)
  fits_first j h = record {
    deep = few_first s.geometry;
    small = h;
    parent = omega arith;
    at = let x = first_table_ends s.geometry j h in let y = first_free_words s.geometry in let z = s.geometry.within in omega arith;
  }

  fits_child : (u : ImageTable) (i : ℕ) (c : ImageTable) → IsIn u (tables s.geometry w) → Fits u → IsChildOf w u i c → Fits c
  fits_child u i c h f k =
      let r = child_rule u h i k.below in
      let n = k.some in
      subst Fits (sym k.is) (record {
        deep = (let x = k.below in omega arith);
        small = less u.suffix u.depth i k.from f.small;
        parent = f.at;
        at = (let x = within (w (child_at u.at i)) (r.1.taken n (w (child_at u.at i)) (omega arith) (omega arith)) in omega arith);
      })
    where
      less : (x b i : ℕ) → b ≤ i → x < 2 ^ b → x + 2 ^ i < 2 ^ (i + 1)
      less x b i h k = let y = pow_up b i h in let z = pow-add 2 i 1 in omega arith

  pub fits : (t : ImageTable) → IsIn t (tables s.geometry w) → Fits t
  fits t h = tables_all Fits s.geometry w fits_first fits_child t h

  pub birth_is : (t : ImageTable) → IsIn t (tables s.geometry w) → birth (w t.at) ≡ (let b : Birth = record { depth = t.depth; suffix = t.suffix; parent = t.parent } in b)
  unfolding birth
  birth_is t h =
      let f = fits t h in
      ap (λ v. birth v) (birth_rule t h) ∙ ap birth_or_none (birth_of-birth_word (record { depth = t.depth; suffix = t.suffix; parent = t.parent }) (record { depth = f.deep; suffix = f.small; parent = f.parent }))

  -- the tables of a chain are tables of the walk
  pub chain_known : (h a : ℕ) → Chained s.geometry w h a → ListedAt s.geometry w a
  chain_known h a starts =
      let j = h % 2 ^ s.geometry.first_depth in
      record { table = first_of s.geometry j; is_listed = first_listed s.geometry w j (mod_below h (2 ^ s.geometry.first_depth) (pow_pos s.geometry.first_depth)); is = refl }
  chain_known h a (goes_on t i c k ex gn ch n) = next (chain_known h t k)
    where
      next : ListedAt s.geometry w t → ListedAt s.geometry w c
      next kn =
          let b = birth_is kn.table kn.is_listed in
          let d : (birth (w t)).depth ≡ kn.table.depth = ap (λ v. (birth (w v)).depth) (sym kn.is) ∙ ap (λ (x : Birth). x.depth) b in
          let from = (exit-some h (birth (w t)).depth i ex).from in
          let e16 = exit-below h (birth (w t)).depth i ex in
          let word : w (child_at kn.table.at i) ≡ c = ap (λ v. w (child_at v i)) kn.is ∙ ch in
          record { table = child_of w kn.table i; is_listed = child_listed s.geometry w kn.table kn.is_listed i (omega arith) e16 (λ z. n (sym word ∙ z)); is = word }

  -- a table of the walk with the suffix of a hash is on its chain
  abbrev OnIts : ImageTable → Type 0
  OnIts t = (h : ℕ) → t.suffix ≡ h % 2 ^ t.depth → Chained s.geometry w h t.at

  on_first : (j : ℕ) → j < 2 ^ s.geometry.first_depth → OnIts (first_of s.geometry j)
  on_first j k h e = subst (λ v. Chained s.geometry w h (first_table s.geometry v)) (sym e) starts

  on_child : (u : ImageTable) (i : ℕ) (c : ImageTable) → IsIn u (tables s.geometry w) → OnIts u → IsChildOf w u i c → OnIts c
  on_child u i c hu ih k = subst OnIts (sym k.is) (λ h e.
      let f = fits u hu in
      let x = bits h u.depth i u.suffix k.from k.below f.small (sym e) in
      let b = ap (λ (x : Birth). x.depth) (birth_is u hu) in
      let cr = (child_rule u hu i k.below).1 in
      let hr = header_rule u hu in
      let low = (cr.only k.some).1 in
      let low2 : i < hr.depth = subst (λ v. i < depth v) hr.plain low in
      goes_on u.at i (w (child_at u.at i)) (ih h x.1) (ap (exit_level h) b ∙ x.0) (subst (λ v. IsGone v i) (sym hr.plain) low2) refl k.some)

  pub on_chain : (t : ImageTable) → IsIn t (tables s.geometry w) → (h : ℕ) → t.suffix ≡ h % 2 ^ t.depth → Chained s.geometry w h t.at
  on_chain t k = tables_all OnIts s.geometry w on_first on_child t k
