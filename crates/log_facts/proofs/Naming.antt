-- What a directory word may name is on the chain of its index, and may be named there; a word that is set names the same table, or
-- one that was born deeper; entries on directory words and on the global depth use no lock. Of every legal log.
use Rattle.std.specs.Prelude.{◌≡◌, ◌≢◌, ℕ, ◌+◌, ◌^◌, ◌<◌, ◌≤◌, ◌==◌, ◌&&◌, nat_lt, not, true, ◌∷◌, Some, ◌⊎◌, refl}
use Rattle.std.proofs.Common.{sym, ◌∙◌, ap, subst, inl, inr, arith, ⊎_elim, le_refl}
use Rattle.std.proofs.lemmas.Bool.Decides.{nat_tests}
use Rattle.slot_word.specs.declared.births.Birth.{Birth}
use Rattle.node_words.specs.Addresses.{first_free, directory_at}
use Rattle.node_words.specs.Roles.{DirectoryWord}
use Rattle.node_words.proofs.FirstTables.{IsInFirst, first_in_words}
use Rattle.node_words.proofs.Sizes.{first_free_directory, first_free_words}
use Rattle.verb_log.specs.declared.kind.Kind.TheVariants.{Name, Deepen}
use Rattle.verb_log.specs.Fits.{IsAddress}
use Rattle.verb_log.specs.Tables.{Past, Before, here, later, word_at, is_address}
use Rattle.verb_log.specs.Kinds.{kind, kind_of_role, only_if}
use Rattle.race_laws.specs.Setting.{Setting}
use Rattle.race_laws.specs.Standing.{IsTable, header_in, birth_in, depth}
use Rattle.race_laws.specs.Chains.{OnChain}
use Rattle.race_laws.specs.Rows.{NameRow}
use Rattle.race_laws.specs.Legal.{Legal}
use Rattle.race_laws.proofs.Positions.{legal_before}
use Rattle.race_laws.proofs.Touch.{touched, word_put}
use Rattle.race_laws.proofs.Sound.{judged_is, table_some}
use Rattle.race_laws.proofs.SoundStep.{sound}
use Rattle.race_laws.proofs.Frames.{birth_kept, birth_before}
use Rattle.race_laws.proofs.Opening.{splits}
use Rattle.race_laws.proofs.Chain.{born_at}
use Rattle.log_facts.specs.Since.{change_in}
use Rattle.log_facts.specs.Beside.{uses_lock, Beside, mild}
use Rattle.log_facts.proofs.Within.{birth_low}
use Rattle.log_facts.proofs.Directory.{Pointed, pointed_later, directs, directory_is, depth_is, directory_set, first_chain, suffix_chain}

pub pointed_before : (s : Setting) {p q : Past} → Before p q → Legal s q → (j t : ℕ) → Pointed s.geometry p j t → Pointed s.geometry q j t
pointed_before s here l j t h = h
pointed_before s (later {q = q} {e = e} b) l j t h = pointed_later s q e l j t (pointed_before s b l.0 j t h)

-- what a directory word may name is on the chain of its index
pub pointed_chain : (s : Setting) (q : Past) → Legal s q → (j t : ℕ) → Pointed s.geometry q j t → OnChain s.geometry q j t
pointed_chain s q l j t h = ⊎_elim (λ (x : IsInFirst s.geometry t t). first_chain s q l j t x h.suffix)
    (λ (x : born_at s.geometry q t ≤ depth (header_in s.geometry q (birth_in s.geometry q t).parent)). suffix_chain s q l j (born_at s.geometry q t) t h.table (le_refl _) h.suffix x) h.ready

-- a Name of it at that index may follow where the word is 0 or names a table that was born less deep
pub pointed_row : (s : Setting) (c : ℕ) (q : Past) (j t : ℕ) → Pointed s.geometry q j t → (word_at s.geometry q (directory_at j) ≡ 0) ⊎ (IsTable s.geometry q (word_at s.geometry q (directory_at j)) × ((birth_in s.geometry q (word_at s.geometry q (directory_at j))).depth < (birth_in s.geometry q t).depth)) → NameRow s.geometry q (change_in s.geometry c q (directory_at j) t) j
pointed_row s c q j t h less = record {
  is_table = h.table;
  suffix = h.suffix;
  ready = ⊎_elim (λ (x : IsInFirst s.geometry t t). inl (first_low x)) (λ x. inr x) h.ready;
  shallower = less;
}
  where
    first_low : IsInFirst s.geometry t t → t < first_free s.geometry
    first_low x = let y = (first_in_words s.geometry t t x).0 in omega arith

-- what a directory word may name is an address
pub table_is_address : (s : Setting) (q : Past) → Legal s q → (t : ℕ) → IsTable s.geometry q t → IsAddress s.geometry t
table_is_address s q l t h = (table_some s.geometry q (sound s q l) t h, birth_low s q l t h)

-- a directory word that changes names a table that was born deeper
pub deeper_word : (s : Setting) {r z : Past} → Before r z → Legal s z → (j : ℕ) → j < 2 ^ s.geometry.max_depth → word_at s.geometry r (directory_at j) ≢ 0 → (word_at s.geometry z (directory_at j) ≡ word_at s.geometry r (directory_at j)) ⊎ (born_at s.geometry r (word_at s.geometry r (directory_at j)) < born_at s.geometry z (word_at s.geometry z (directory_at j)))
deeper_word s here l j low n = inl refl
deeper_word s {r = r} (later {q = q} {e = e} b) l j low n = ⊎_elim
    (λ (x : word_at s.geometry (e ∷ q) (directory_at j) ≡ word_at s.geometry q (directory_at j)). kept x (deeper_word s b l.0 j low n))
    (λ x. inr (named x.0 x.1.1 (deeper_word s b l.0 j low n)))
    (touched s q e (directory_at j) (DirectoryWord j) l.1 (judged_is s.geometry q (sound s q l.0) (directory_at j) ∙ directory_is s q l.0 j low))
  where
    some : word_at s.geometry q (directory_at j) ≢ 0
    some = directory_set s b l.0 j low n

    tr : IsTable s.geometry r (word_at s.geometry r (directory_at j))
    tr = ((directs s r (legal_before s b l.0)).points j low n).table

    tq : IsTable s.geometry q (word_at s.geometry q (directory_at j))
    tq = ((directs s q l.0).points j low some).table

    born_now : (t : ℕ) → IsTable s.geometry q t → born_at s.geometry (e ∷ q) t ≡ born_at s.geometry q t
    born_now t h = ap (λ (v : Birth). v.depth) (birth_kept s q e l.1 (sound s q l.0) t h)

    kept : word_at s.geometry (e ∷ q) (directory_at j) ≡ word_at s.geometry q (directory_at j) → (word_at s.geometry q (directory_at j) ≡ word_at s.geometry r (directory_at j)) ⊎ (born_at s.geometry r (word_at s.geometry r (directory_at j)) < born_at s.geometry q (word_at s.geometry q (directory_at j))) → (word_at s.geometry (e ∷ q) (directory_at j) ≡ word_at s.geometry r (directory_at j)) ⊎ (born_at s.geometry r (word_at s.geometry r (directory_at j)) < born_at s.geometry (e ∷ q) (word_at s.geometry (e ∷ q) (directory_at j)))
    kept x (inl y) = inl (x ∙ y)
    kept x (inr y) = inr (subst (λ v. born_at s.geometry r (word_at s.geometry r (directory_at j)) < v) (sym (ap (born_at s.geometry (e ∷ q)) x ∙ born_now (word_at s.geometry q (directory_at j)) tq)) y)

    named : directory_at j ≡ e.at → NameRow s.geometry q e j → (word_at s.geometry q (directory_at j) ≡ word_at s.geometry r (directory_at j)) ⊎ (born_at s.geometry r (word_at s.geometry r (directory_at j)) < born_at s.geometry q (word_at s.geometry q (directory_at j))) → born_at s.geometry r (word_at s.geometry r (directory_at j)) < born_at s.geometry (e ∷ q) (word_at s.geometry (e ∷ q) (directory_at j))
    named a row ih =
        let old : word_at s.geometry q (directory_at j) ≡ e.old = ap (word_at s.geometry q) a ∙ l.1.stands in
        let now : born_at s.geometry (e ∷ q) (word_at s.geometry (e ∷ q) (directory_at j)) ≡ born_at s.geometry q e.new = ap (born_at s.geometry (e ∷ q)) (word_put s.geometry q e (directory_at j) a) ∙ born_now e.new row.is_table in
        let up : born_at s.geometry q (word_at s.geometry q (directory_at j)) < born_at s.geometry q e.new = ⊎_elim (λ (y : e.old ≡ 0). absurd (some (old ∙ y))) (λ y. subst (λ v. born_at s.geometry q v < born_at s.geometry q e.new) (sym old) y.1) row.shallower in
        let from : born_at s.geometry r (word_at s.geometry r (directory_at j)) ≤ born_at s.geometry q (word_at s.geometry q (directory_at j)) = low_or ih in
        omega arith
      where
        low_or : (word_at s.geometry q (directory_at j) ≡ word_at s.geometry r (directory_at j)) ⊎ (born_at s.geometry r (word_at s.geometry r (directory_at j)) < born_at s.geometry q (word_at s.geometry q (directory_at j))) → born_at s.geometry r (word_at s.geometry r (directory_at j)) ≤ born_at s.geometry q (word_at s.geometry q (directory_at j))
        low_or (inl y) = let x = ap (λ (v : Birth). v.depth) (birth_before s b l.0 (word_at s.geometry r (directory_at j)) tr) in let z = ap (born_at s.geometry q) y in omega arith
        low_or (inr y) = omega arith

-- which entries on directory words and on the global depth are Name and Deepen; they use no lock
module _ (s : Setting) (c : ℕ) (q : Past) (l : Legal s q) where
  pub name_kind : (j u : ℕ) → j < 2 ^ s.geometry.max_depth → IsAddress s.geometry u → kind s.geometry q (change_in s.geometry c q (directory_at j) u) ≡ Some Name
  name_kind j u low n = ap (kind_of_role s.geometry q (change_in s.geometry c q (directory_at j) u)) (judged_is s.geometry q (sound s q l) (directory_at j) ∙ directory_is s q l j low) ∙ by u n
    where
      test : (y w : ℕ) → y ≢ 0 → y < w → (not (y == 0) && nat_lt y w) ≡ true
      test y w n m = grind (arith, nat_tests)

      by : (y : ℕ) → IsAddress s.geometry y → only_if (is_address s.geometry y) Name ≡ Some Name
      by y n = ap (λ v. only_if v Name) (test y s.geometry.words n.0 n.1)

  pub name_beside : (j u : ℕ) → j < 2 ^ s.geometry.max_depth → IsAddress s.geometry u → Beside s c q (change_in s.geometry c q (directory_at j) u)
  name_beside j u low n = mild (ap uses_lock (name_kind j u low n))

  pub deepen_kind : (d : ℕ) → word_at s.geometry q 1 ≡ d → kind s.geometry q (change_in s.geometry c q 1 (d + 1)) ≡ Some Deepen
  deepen_kind d z = ap (kind_of_role s.geometry q (change_in s.geometry c q 1 (d + 1))) (judged_is s.geometry q (sound s q l) 1 ∙ depth_is s q l) ∙ by (word_at s.geometry q 1) z
    where
      by : (x : ℕ) → x ≡ d → only_if (d + 1 == x + 1) Deepen ≡ Some Deepen
      by x z = grind (arith, nat_tests)

  pub deepen_beside : (d : ℕ) → word_at s.geometry q 1 ≡ d → Beside s c q (change_in s.geometry c q 1 (d + 1))
  deepen_beside d z = mild (ap uses_lock (deepen_kind d z))

  pub depth_low : 1 < s.geometry.words
  depth_low = let x = first_free_directory s.geometry in let y = first_free_words s.geometry in omega arith

  -- a table is not born deeper than 16
  pub born_low : (t : ℕ) → IsTable s.geometry q t → born_at s.geometry q t ≤ 16
  born_low t h = let a = (splits s q l).from t h in let b = (splits s q l).deep t h in let g16 = s.geometry.deep in omega arith
