-- Directory words name tables on the chains of the hashes with their index. Of every legal log; a word that is set stays set.
use Rattle.std.specs.Prelude.{◌≡◌, ◌≢◌, ℕ, zero, suc, ◌+◌, ◌-◌, ◌*◌, ◌/◌, ◌%◌, ◌^◌, ◌<◌, ◌≤◌, Bool, true, false, cond, ◌&&◌, nat_le, nat_lt, [], ◌∷◌, Some, None, ◌⊎◌, refl}
use Rattle.std.proofs.Common.{sym, ◌∙◌, ap, subst, inl, inr, arith, ⊎_elim, le_refl}
use Rattle.std.proofs.lemmas.Nat.{pow_pos, mod_below}
use Rattle.std.proofs.lemmas.Bool.{cases_lt}
use Rattle.std.proofs.lemmas.Bool.Decides.{nat_tests}
use Rattle.std.proofs.Math.Nat.{pow-le-pow_right, div-eq_of_lt, mod-eq_of_lt, mod-le}
use Rattle.std.proofs.Math.Pow.{mod-mod-pow}
use Rattle.slot_word.specs.declared.births.Birth.{Birth}
use Rattle.slot_word.specs.Births.{birth_of, birth_word}
use Rattle.slot_word.proofs.BirthLaws.{birth_of-birth_word}
use Rattle.bucket_group.specs.ExitLevel.{bit_of, exit_level}
use Rattle.bucket_group.proofs.ExitLaws.{bit_cases, exit-is, low_bit, low_same, bit_low}
use Rattle.node_words.specs.declared.geometry.Geometry.{Geometry}
use Rattle.node_words.specs.Addresses.{first_table, first_free, directory_at, node_of}
use Rattle.node_words.specs.Roles.{DepthWord, DirectoryWord, role_in, first_table_of}
use Rattle.node_words.specs.Opening.{first_birth}
use Rattle.node_words.proofs.Sizes.{few_first, first_free_directory}
use Rattle.node_words.proofs.FirstTables.{IsInFirst, first_table_low, depth_apart, directory_apart}
use Rattle.node_words.proofs.RoleLemmas.{depth_role, directory_role}
use Rattle.node_words.proofs.OpeningWords.{opening_birth, opening_depth, opening_directory}
use Rattle.verb_log.specs.declared.entry.Entry.{Entry}
use Rattle.verb_log.specs.Decoded.{birth, birth_or_none}
use Rattle.verb_log.specs.Tables.{Past, Before, here, later, word_at, table_of, role}
use Rattle.race_laws.specs.Setting.{Setting}
use Rattle.race_laws.specs.Standing.{IsTable, header_in, birth_in, depth, IsFilling}
use Rattle.race_laws.specs.Chains as chains
use Rattle.race_laws.specs.Chains.{OnChain}
use Rattle.race_laws.specs.Rows.{DeepenRow, NameRow}
use Rattle.race_laws.specs.Legal.{Legal}
use Rattle.race_laws.proofs.Positions.{legal_before}
use Rattle.race_laws.proofs.Touch.{touched, table_stays, word_put}
use Rattle.race_laws.proofs.Regions.{base_low}
use Rattle.race_laws.proofs.Sound.{judged_is, table_none, table_some}
use Rattle.race_laws.proofs.SoundStep.{sound}
use Rattle.race_laws.proofs.Frames.{birth_kept, birth_before}
use Rattle.race_laws.proofs.Finality.{deeper_on, header_next}
use Rattle.race_laws.proofs.Splits.{IsFirst, Kin}
use Rattle.race_laws.proofs.TablesStep.{filling_depth}
use Rattle.race_laws.proofs.Opening.{splits}
use Rattle.race_laws.proofs.Chain.{before_opening, first_is_table, born_at}
use Rattle.log_facts.proofs.Within.{low_is_first}
use Rattle.log_facts.proofs.Starts.{deep_gone}

-- births
birth_word_is : (f j : ℕ) → f ≤ 16 → j < 2 ^ f → birth (first_birth f j) ≡ (let b : Birth = record { depth = f; suffix = j; parent = 0 } in b)
unfolding birth birth_word
birth_word_is f j h k = ap birth_or_none (ap birth_of (word f j) ∙ birth_of-birth_word (record { depth = f; suffix = j; parent = 0 }) (record { depth = h; suffix = k; parent = omega arith }))
  where
    word : (f j : ℕ) → first_birth f j ≡ birth_word (record { depth = f; suffix = j; parent = 0 })
    word f j = omega arith

pub birth_small : (w : ℕ) → (birth w).suffix < 2 ^ (birth w).depth
unfolding birth birth_of
birth_small w = by (nat_le (w % 2 ^ 8) 16 && nat_lt (w / 2 ^ 8 % 2 ^ 16) (2 ^ (w % 2 ^ 8))) refl
  where
    low : (x y : ℕ) (a : Bool) → (a && nat_lt x y) ≡ true → x < y
    low x y true h = grind (arith, nat_tests, h)
    low x y false h = cc

    by : (v : Bool) → (nat_le (w % 2 ^ 8) 16 && nat_lt (w / 2 ^ 8 % 2 ^ 16) (2 ^ (w % 2 ^ 8))) ≡ v → (birth_or_none (cond v (Some (record { depth = w % 2 ^ 8; suffix = w / 2 ^ 8 % 2 ^ 16; parent = w / 2 ^ 24 })) None)).suffix < 2 ^ (birth_or_none (cond v (Some (record { depth = w % 2 ^ 8; suffix = w / 2 ^ 8 % 2 ^ 16; parent = w / 2 ^ 24 })) None)).depth
    by true e = low (w / 2 ^ 8 % 2 ^ 16) (2 ^ (w % 2 ^ 8)) (nat_le (w % 2 ^ 8) 16) e
    by false e = pow_pos 0

-- the birth of a first table
pub first_birth_is : (s : Setting) (q : Past) → Legal s q → (t : ℕ) (f : IsInFirst s.geometry t t) → birth_in s.geometry q t ≡ (let b : Birth = record { depth = s.geometry.first_depth; suffix = f.index; parent = 0 } in b)
first_birth_is s q l t f =
    let tb : IsTable s.geometry [] t = subst (IsTable s.geometry []) (sym f.is) (first_is_table s.geometry [] f.index f.below) in
    birth_before s (before_opening q) l t tb ∙ ap (birth_in s.geometry []) f.is ∙ ap birth (opening_birth s.geometry f.index f.below) ∙ birth_word_is s.geometry.first_depth f.index (few_first s.geometry) f.below

-- a first table is on the chain of each hash with its suffix
pub first_chain : (s : Setting) (q : Past) → Legal s q → (h t : ℕ) → IsInFirst s.geometry t t → (birth_in s.geometry q t).suffix ≡ h % 2 ^ born_at s.geometry q t → OnChain s.geometry q h t
first_chain s q l h t f e =
    let b = first_birth_is s q l t f in
    let suffix : f.index ≡ h % 2 ^ s.geometry.first_depth = sym (ap (λ (v : Birth). v.suffix) b) ∙ e ∙ ap (λ (v : Birth). h % 2 ^ v.depth) b in
    subst (OnChain s.geometry q h) (sym (f.is ∙ ap (first_table s.geometry) suffix)) chains.starts

-- the bits of a hash, by the suffixes of a child and of its parent
pub pow_up : (i j : ℕ) → i ≤ j → 2 ^ i ≤ 2 ^ j
pow_up i j h = pow-le-pow_right (omega arith) h

pub bits : (h b i x : ℕ) → b ≤ i → i < 16 → x < 2 ^ b → h % 2 ^ (i + 1) ≡ x + 2 ^ i → (exit_level h b ≡ Some i) × (x ≡ h % 2 ^ b)
bits h b i x low e16 xs e = (exit-is h b i low e16 set zeros, sym low_part ∙ subst (λ v. h % 2 ^ v ≡ h % 2 ^ b) (plus b i low) (low_same h b (i - b) (λ j k m. zeros j k (omega arith))))
  where
    p : 2 ^ b ≤ 2 ^ i
    p = pow_up b i low

    set : bit_of h i ≡ 1
    set = ⊎_elim (λ (z : bit_of h i ≡ 0). let y = low_bit h i in let m = mod_below h (2 ^ i) (pow_pos i) in let w = ap (λ v. v * 2 ^ i) z in let pp = p in absurd (omega arith)) (λ z. z) (bit_cases h i)

    low_part : h % 2 ^ i ≡ x
    low_part = let y = low_bit h i in let w = ap (λ v. v * 2 ^ i) set in omega arith

    plus : (b i : ℕ) → b ≤ i → b + (i - b) ≡ i
    plus b i k = omega arith

    zero_bit : (x j : ℕ) → x < 2 ^ j → bit_of x j ≡ 0
    zero_bit x j k = let y : x / 2 ^ j ≡ 0 = div_zero x (2 ^ j) k in ap (λ v. v % 2) y
      where
        div_zero : (x n : ℕ) → x < n → x / n ≡ 0
        div_zero x n k = div-eq_of_lt k

    zeros : (j : ℕ) → b ≤ j → j < i → bit_of h j ≡ 0
    zeros j k m = sym (bit_low h i j m) ∙ ap (λ v. bit_of v j) low_part ∙ zero_bit x j (let a = pow_up b j k in omega arith)

-- a table with the suffix of the hash whose split has opened is on the chain of the hash
pub suffix_chain : (s : Setting) (q : Past) → Legal s q → (h n t : ℕ) → IsTable s.geometry q t → born_at s.geometry q t ≤ n → (birth_in s.geometry q t).suffix ≡ h % 2 ^ born_at s.geometry q t → born_at s.geometry q t ≤ depth (header_in s.geometry q (birth_in s.geometry q t).parent) → OnChain s.geometry q h t
suffix_chain s q l h zero t tb le sf rd = ⊎_elim (λ (x : IsFirst s.geometry q t). first_chain s q l h t x.inside sf) (λ (x : Kin s.geometry q t). let y = x.born in absurd (omega arith)) ((splits s q l).kin t tb)
suffix_chain s q l h (suc n) t tb le sf rd = ⊎_elim (λ (x : IsFirst s.geometry q t). first_chain s q l h t x.inside sf) (λ x. kin x (λ u tu lu su ru. suffix_chain s q l h n u tu lu su ru)) ((splits s q l).kin t tb)
  where
    kin : Kin s.geometry q t → ((u : ℕ) → IsTable s.geometry q u → born_at s.geometry q u ≤ n → (birth_in s.geometry q u).suffix ≡ h % 2 ^ born_at s.geometry q u → born_at s.geometry q u ≤ depth (header_in s.geometry q (birth_in s.geometry q u).parent) → OnChain s.geometry q h u) → OnChain s.geometry q h t
    kin x ih =
        let sp = splits s q l in
        let u = (birth_in s.geometry q t).parent in
        let g16 = s.geometry.deep in
        let small = x.below in
        let e16 : x.level < 16 = omega arith in
        let some = table_some s.geometry q (sound s q l) t tb in
        let born = sp.born u x.level t x.table e16 x.is_child some in
        let up = sp.upto u x.level x.table e16 (λ z. some (sym x.is_child ∙ z)) in
        let suffix : h % 2 ^ (x.level + 1) ≡ (birth_in s.geometry q u).suffix + 2 ^ x.level = sym (ap (λ v. h % 2 ^ v) x.born) ∙ sym sf ∙ born.suffix in
        let b = bits h (born_at s.geometry q u) x.level (birth_in s.geometry q u).suffix up.0 e16 (birth_small (word_at s.geometry q u)) suffix in
        let deep : x.level < depth (header_in s.geometry q u) = let y = x.born in omega arith in
        chains.goes_on u x.level t (above u x.table b.1 deep up.0) b.0 (deep_gone (header_in s.geometry q u) x.level (sp.valid u x.table) deep) x.is_child some
      where
        not_filling : (u : ℕ) → IsTable s.geometry q u → x.level < depth (header_in s.geometry q u) → born_at s.geometry q u ≤ x.level → IsFilling (header_in s.geometry q u) → ⊥
        not_filling u tu deep low f = let y = (splits s q l).first u (depth (header_in s.geometry q u)) tu (filling_depth (header_in s.geometry q u) f) in omega arith

        above : (u : ℕ) → IsTable s.geometry q u → (birth_in s.geometry q u).suffix ≡ h % 2 ^ born_at s.geometry q u → x.level < depth (header_in s.geometry q u) → born_at s.geometry q u ≤ x.level → OnChain s.geometry q h u
        above u tu su deep low = ⊎_elim (λ (y : IsFirst s.geometry q u). first_chain s q l h u y.inside su)
            (λ (y : Kin s.geometry q u). ih u tu (let z = x.born in omega arith) su (opened y)) ((splits s q l).kin u tu)
          where
            opened : Kin s.geometry q u → born_at s.geometry q u ≤ depth (header_in s.geometry q (birth_in s.geometry q u).parent)
            opened y =
                let g16 = s.geometry.deep in let yb = y.below in let bb = y.born in
                ⊎_elim (λ (z : y.level < depth (header_in s.geometry q (birth_in s.geometry q u).parent)). omega arith)
                (λ (z : depth (header_in s.geometry q (birth_in s.geometry q u).parent) ≤ y.level). absurd (not_filling u tu deep low ((splits s q l).fills (birth_in s.geometry q u).parent y.level u y.table (omega arith) y.is_child (table_some s.geometry q (sound s q l) u tu) (λ w. omega arith))))
                (cases_lt y.level (depth (header_in s.geometry q (birth_in s.geometry q u).parent)))

-- what a directory word names
pub record Pointed (g : Geometry) (q : Past) (j t : ℕ) : Type 0 where
  pub table : IsTable g q t
  pub suffix : (birth_in g q t).suffix ≡ j % 2 ^ born_at g q t
  pub ready : IsInFirst g t t ⊎ (born_at g q t ≤ depth (header_in g q (birth_in g q t).parent))

module _ (s : Setting) (q : Past) (l : Legal s q) where
  -- low words are no words of tables
  pub low_none : (a : ℕ) → a < first_free s.geometry → first_table_of s.geometry a ≡ None → table_of s.geometry q a ≡ None
  low_none a low f = table_none s.geometry q (sound s q l) a f (λ x. let t = (sound s q l).taken a ((sound s q l).published a x) in let y = t.from in let b = base_low s.geometry (node_of s.geometry a) in omega arith)

  pub depth_is : role s.geometry q 1 ≡ DepthWord
  depth_is = let x = first_free_directory s.geometry in ap (role_in s.geometry 1) (low_none 1 (omega arith) (depth_apart s.geometry)) ∙ depth_role s.geometry

  pub directory_is : (j : ℕ) → j < 2 ^ s.geometry.max_depth → role s.geometry q (directory_at j) ≡ DirectoryWord j
  directory_is j h = let x = first_free_directory s.geometry in ap (role_in s.geometry (directory_at j)) (low_none (directory_at j) (omega arith) (directory_apart s.geometry j h)) ∙ directory_role s.geometry j h

pub pointed_later : (s : Setting) (q : Past) (e : Entry) → Legal s (e ∷ q) → (j t : ℕ) → Pointed s.geometry q j t → Pointed s.geometry (e ∷ q) j t
pointed_later s q e l j t p =
    let so = sound s q l.0 in
    let bk = birth_kept s q e l.1 so t p.table in
    record {
      table = table_stays s.geometry q e t t p.table;
      suffix = ap (λ (v : Birth). v.suffix) bk ∙ p.suffix ∙ ap (λ (v : Birth). j % 2 ^ v.depth) (sym bk);
      ready = ⊎_elim (λ (x : IsInFirst s.geometry t t). inl x) (λ (x : born_at s.geometry q t ≤ depth (header_in s.geometry q (birth_in s.geometry q t).parent)). ready bk x) p.ready;
    }
  where
    ready : birth_in s.geometry (e ∷ q) t ≡ birth_in s.geometry q t → born_at s.geometry q t ≤ depth (header_in s.geometry q (birth_in s.geometry q t).parent) → IsInFirst s.geometry t t ⊎ (born_at s.geometry (e ∷ q) t ≤ depth (header_in s.geometry (e ∷ q) (birth_in s.geometry (e ∷ q) t).parent))
    ready bk x = ⊎_elim (λ (y : IsFirst s.geometry q t). inl y.inside)
        (λ (y : Kin s.geometry q t).
        let g = ⊎_elim (λ (z : header_in s.geometry (e ∷ q) (birth_in s.geometry q t).parent ≡ header_in s.geometry q (birth_in s.geometry q t).parent). at_least (ap depth z)) (λ z. deeper_on z) (header_next s q e l.1 (sound s q l.0) (birth_in s.geometry q t).parent y.table) in
        inr (subst (λ (v : Birth). v.depth ≤ depth (header_in s.geometry (e ∷ q) v.parent)) (sym bk) (omega arith)))
        ((splits s q l.0).kin t p.table)
      where
        at_least : {a b : ℕ} → a ≡ b → b ≤ a
        at_least h = omega arith

-- the directory at every position
pub record Directs (s : Setting) (q : Past) : Type 0 where
  pub depth_low : word_at s.geometry q 1 ≤ s.geometry.max_depth
  pub depth_from : s.geometry.first_depth ≤ word_at s.geometry q 1
  pub points : (j : ℕ) → j < 2 ^ s.geometry.max_depth → word_at s.geometry q (directory_at j) ≢ 0 → Pointed s.geometry q j (word_at s.geometry q (directory_at j))
  pub some : (j : ℕ) → j < 2 ^ word_at s.geometry q 1 → word_at s.geometry q (directory_at j) ≢ 0

pub directs : (s : Setting) (q : Past) → Legal s q → Directs s q
directs s [] l = record {
  depth_low = let x = opening_depth s.geometry in let y = s.geometry.begins in omega arith;
  depth_from = let x = opening_depth s.geometry in omega arith;
  points = λ j h n. first j n (nat_lt j (2 ^ s.geometry.first_depth)) refl (opening_directory s.geometry j h);
  some = λ j h. there j (subst (λ v. j < 2 ^ v) (opening_depth s.geometry) h);
}
  where
    pointed : (j : ℕ) → j < 2 ^ s.geometry.first_depth → Pointed s.geometry [] j (first_table s.geometry j)
    pointed j h =
        let f : IsInFirst s.geometry (first_table s.geometry j) (first_table s.geometry j) = record { index = j; below = h; is = refl; from = omega arith; to = omega arith } in
        let b = first_birth_is s [] l (first_table s.geometry j) f in
        record { table = first_is_table s.geometry [] j h; suffix = ap (λ (v : Birth). v.suffix) b ∙ sym (mod_small j (2 ^ s.geometry.first_depth) h) ∙ ap (λ (v : Birth). j % 2 ^ v.depth) (sym b); ready = inl f }
      where
        mod_small : (x n : ℕ) → x < n → x % n ≡ x
        mod_small x n h = mod-eq_of_lt h

    first : (j : ℕ) → word_at s.geometry [] (directory_at j) ≢ 0 → (v : Bool) → nat_lt j (2 ^ s.geometry.first_depth) ≡ v → word_at s.geometry [] (directory_at j) ≡ cond v (first_table s.geometry j) 0 → Pointed s.geometry [] j (word_at s.geometry [] (directory_at j))
    first j n true e w = subst (Pointed s.geometry [] j) (sym w) (pointed j (less j (2 ^ s.geometry.first_depth) e))
      where
        less : (x y : ℕ) → nat_lt x y ≡ true → x < y
        less x y e = grind (arith, nat_tests)
    first j n false e w = absurd (n w)

    there : (j : ℕ) → j < 2 ^ s.geometry.first_depth → word_at s.geometry [] (directory_at j) ≢ 0
    there j h z = by (nat_lt j (2 ^ s.geometry.first_depth)) refl (opening_directory s.geometry j (let y = pow_up s.geometry.first_depth s.geometry.max_depth s.geometry.begins in omega arith))
      where
        by : (v : Bool) → nat_lt j (2 ^ s.geometry.first_depth) ≡ v → word_at s.geometry [] (directory_at j) ≡ cond v (first_table s.geometry j) 0 → ⊥
        by true e w = let y = first_table_low s.geometry j in omega arith
        by false e w = not_less j (2 ^ s.geometry.first_depth) h e
          where
            not_less : (x y : ℕ) → x < y → nat_lt x y ≡ false → ⊥
            not_less x y h k = grind (arith, nat_tests)
directs s (e ∷ q) l = by (directs s q l.0)
  where
    depth_cases : (word_at s.geometry (e ∷ q) 1 ≡ word_at s.geometry q 1) ⊎ ((1 ≡ e.at) × (e.new ≡ word_at s.geometry q e.at + 1) × DeepenRow s.geometry q e)
    depth_cases = ⊎_elim (λ (x : word_at s.geometry (e ∷ q) 1 ≡ word_at s.geometry q 1). inl x) (λ x. inr (x.0, x.1.0, x.1.1)) (touched s q e 1 DepthWord l.1 (judged_is s.geometry q (sound s q l.0) 1 ∙ depth_is s q l.0))

    word_cases : (j : ℕ) → j < 2 ^ s.geometry.max_depth → (word_at s.geometry (e ∷ q) (directory_at j) ≡ word_at s.geometry q (directory_at j)) ⊎ ((directory_at j ≡ e.at) × (e.new ≢ 0) × NameRow s.geometry q e j)
    word_cases j h = ⊎_elim (λ (x : word_at s.geometry (e ∷ q) (directory_at j) ≡ word_at s.geometry q (directory_at j)). inl x) (λ x. inr (x.0, x.1.0, x.1.1)) (touched s q e (directory_at j) (DirectoryWord j) l.1 (judged_is s.geometry q (sound s q l.0) (directory_at j) ∙ directory_is s q l.0 j h))

    named : (j : ℕ) → NameRow s.geometry q e j → Pointed s.geometry q j e.new
    named j row = record { table = row.is_table; suffix = row.suffix; ready = ⊎_elim (λ (x : e.new < first_free s.geometry). inl (low_is_first s.geometry q (sound s q l.0) e.new row.is_table x)) (λ x. inr x) row.ready }

    by : Directs s q → Directs s (e ∷ q)
    by ih = record {
      depth_low = low;
      depth_from = ⊎_elim (λ (x : word_at s.geometry (e ∷ q) 1 ≡ word_at s.geometry q 1). let y = ih.depth_from in omega arith) (λ x. let y = ih.depth_from in let w = word_put s.geometry q e 1 x.0 in let v = ap (word_at s.geometry q) x.0 in let n = x.1 in omega arith) depth_cases;
      points = λ j h n. ⊎_elim (λ (x : word_at s.geometry (e ∷ q) (directory_at j) ≡ word_at s.geometry q (directory_at j)). subst (Pointed s.geometry (e ∷ q) j) (sym x) (pointed_later s q e l j (word_at s.geometry q (directory_at j)) (ih.points j h (λ z. n (x ∙ z)))))
          (λ x. subst (Pointed s.geometry (e ∷ q) j) (sym (word_put s.geometry q e (directory_at j) x.0)) (pointed_later s q e l j e.new (named j x.2))) (word_cases j h);
      some = λ j h. let hm : j < 2 ^ s.geometry.max_depth = let y = pow_up (word_at s.geometry (e ∷ q) 1) s.geometry.max_depth low in omega arith in
          ⊎_elim (λ (x : word_at s.geometry (e ∷ q) 1 ≡ word_at s.geometry q 1). kept j hm (ih.some j (subst (λ v. j < 2 ^ v) x h)))
          (λ x. kept j hm (x.2.named j (subst (λ v. j < 2 ^ v) (word_put s.geometry q e 1 x.0) h))) depth_cases;
    }
      where
        low : word_at s.geometry (e ∷ q) 1 ≤ s.geometry.max_depth
        low = ⊎_elim (λ (x : word_at s.geometry (e ∷ q) 1 ≡ word_at s.geometry q 1). let y = ih.depth_low in omega arith) (λ x. let y = x.2.below in let w = word_put s.geometry q e 1 x.0 in omega arith) depth_cases

        kept : (j : ℕ) → j < 2 ^ s.geometry.max_depth → word_at s.geometry q (directory_at j) ≢ 0 → word_at s.geometry (e ∷ q) (directory_at j) ≢ 0
        kept j h n z = ⊎_elim (λ (x : word_at s.geometry (e ∷ q) (directory_at j) ≡ word_at s.geometry q (directory_at j)). n (sym x ∙ z)) (λ x. x.1 (sym (word_put s.geometry q e (directory_at j) x.0) ∙ z)) (word_cases j h)

-- a directory word that is set stays set
pub directory_set : (s : Setting) {p q : Past} → Before p q → Legal s q → (j : ℕ) → j < 2 ^ s.geometry.max_depth → word_at s.geometry p (directory_at j) ≢ 0 → word_at s.geometry q (directory_at j) ≢ 0
directory_set s here l j h n z = n z
directory_set s (later {q = q} {e = e} b) l j h n z =
    let ih = directory_set s b l.0 j h n in
    ⊎_elim (λ (x : word_at s.geometry (e ∷ q) (directory_at j) ≡ word_at s.geometry q (directory_at j)). ih (sym x ∙ z)) (λ x. x.1.0 (sym (word_put s.geometry q e (directory_at j) x.0) ∙ z)) (touched s q e (directory_at j) (DirectoryWord j) l.1 (judged_is s.geometry q (sound s q l.0) (directory_at j) ∙ directory_is s q l.0 j h))

-- the directory word of a hash, by the depth read before it, names a table on its chain
pub directory_chain : (s : Setting) {p q : Past} → Before p q → Legal s q → (h : ℕ) → OnChain s.geometry q h (word_at s.geometry q (directory_at (h % 2 ^ word_at s.geometry p 1)))
directory_chain s {p = p} {q = q} b l h =
    let dp = directs s p (legal_before s b l) in
    let g = word_at s.geometry p 1 in
    let j = h % 2 ^ g in
    let low : j < 2 ^ g = mod_below h (2 ^ g) (pow_pos g) in
    let hm : j < 2 ^ s.geometry.max_depth = let y = pow_up g s.geometry.max_depth dp.depth_low in omega arith in
    let set = directory_set s b l j hm (dp.some j low) in
    let pt = (directs s q l).points j hm set in
    chain_of g low dp.depth_from (word_at s.geometry q (directory_at j)) pt
  where
    chain_of : (g : ℕ) → h % 2 ^ g < 2 ^ g → s.geometry.first_depth ≤ g → (t : ℕ) → Pointed s.geometry q (h % 2 ^ g) t → OnChain s.geometry q h t
    chain_of g low from t pt = ⊎_elim (λ (x : IsInFirst s.geometry t t). first_chain s q l h t x (suffix (let b = ap (λ (v : Birth). v.depth) (first_birth_is s q l t x) in omega arith)))
        (λ (x : born_at s.geometry q t ≤ depth (header_in s.geometry q (birth_in s.geometry q t).parent)).
        suffix_chain s q l h (born_at s.geometry q t) t pt.table (le_refl _) (suffix (shallow ((splits s q l).kin t pt.table))) x) pt.ready
      where
        suffix : born_at s.geometry q t ≤ g → (birth_in s.geometry q t).suffix ≡ h % 2 ^ born_at s.geometry q t
        suffix le = pt.suffix ∙ mod_mod h (born_at s.geometry q t) g le
          where
            mod_mod : (h b g : ℕ) → b ≤ g → h % 2 ^ g % 2 ^ b ≡ h % 2 ^ b
            mod_mod h b g le = ap (λ v. h % 2 ^ v % 2 ^ b) (parts b g le) ∙ mod-mod-pow h (g - b) b
              where
                parts : (b g : ℕ) → b ≤ g → g ≡ (g - b) + b
                parts b g le = omega arith

        shallow : IsFirst s.geometry q t ⊎ Kin s.geometry q t → born_at s.geometry q t ≤ g
        shallow (inl x) = let y = x.level in omega arith
        shallow (inr x) =
            let g16 = s.geometry.deep in
            let small = x.below in
            let born = (splits s q l).born (birth_in s.geometry q t).parent x.level t x.table (omega arith) x.is_child (table_some s.geometry q (sound s q l) t pt.table) in
            let sx = born.suffix in
            let sf = pt.suffix in
            let md = mod_le (h % 2 ^ g) (2 ^ born_at s.geometry q t) in
            ⊎_elim (λ (y : x.level < g). let z = x.born in omega arith) (λ (y : g ≤ x.level). let z = pow_up g x.level y in absurd (omega arith)) (cases_lt x.level g)
          where
            mod_le : (x n : ℕ) → x % n ≤ x
            mod_le x n = mod-le x n
