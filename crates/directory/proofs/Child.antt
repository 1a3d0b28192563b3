-- What a naming knows of the child and of a directory word at each position of it.
use Rattle.std.specs.Prelude.{◌≡◌, ◌≢◌, ℕ, ◌%◌, ◌^◌, ◌<◌, ◌≤◌, ◌∷◌, ◌⊎◌}
use Rattle.std.proofs.Common.{sym, ◌∙◌, ap, subst, inl, inr, arith}
use Rattle.std.proofs.Math.Nat.{mod-eq_of_lt}
use Rattle.slot_word.specs.declared.births.Birth.{Birth}
use Rattle.bucket_group.proofs.ExitLaws.{exit-below}
use Rattle.node_words.specs.declared.geometry.Geometry.{Geometry}
use Rattle.node_words.specs.Addresses.{directory_at}
use Rattle.verb_log.specs.declared.entry.Entry.{Entry}
use Rattle.verb_log.specs.Changes.{changes_by}
use Rattle.verb_log.specs.Tables.{Past, Before, here, later, word_at}
use Rattle.verb_log.proofs.Positions.{Before-trans}
use Rattle.race_laws.specs.Setting.{Setting}
use Rattle.race_laws.specs.Standing.{birth_in, header_in, depth}
use Rattle.race_laws.specs.Legal.{Legal}
use Rattle.race_laws.proofs.SoundStep.{sound}
use Rattle.race_laws.proofs.Frames.{birth_kept}
use Rattle.race_laws.proofs.Chain.{born_at, Reach, one, more, compare, reach_deeper}
use Rattle.log_facts.specs.Since.{Since, same, more as longer}
use Rattle.log_facts.specs.Beside.{mild, uses_lock}
use Rattle.log_facts.specs.Entries.{Modest, uses_fresh}
use Rattle.log_facts.proofs.Directory.{Pointed, pointed_later, directs, directory_set, birth_small}
use Rattle.log_facts.proofs.Naming.{pointed_chain}
use Rattle.pass_laws.specs.SafeIn.{Calmly}
use Rattle.directory.specs.declared.naming.Naming.{Naming}
use Rattle.directory.specs.Law.{Names, MayName, IsBelow, child, further, WasNamed}

-- own entries of a naming change nothing in the map, and use no lock
pub names_calmly : (s : Setting) (c : ℕ) (q : Past) (e : Entry) → Names s c q e → Calmly s c q e
names_calmly s c q e (inl k) = (ap (changes_by s.geometry q e) k, mild (ap uses_lock k))
names_calmly s c q e (inr k) = (ap (changes_by s.geometry q e) k, mild (ap uses_lock k))

-- .. nor name new blocks, link or store
pub names_modest : (s : Setting) (c : ℕ) (q : Past) (e : Entry) → Names s c q e → Modest s q e
names_modest s c q e (inl k) = ap uses_fresh k
names_modest s c q e (inr k) = ap uses_fresh k

-- the directory may name the child at its suffix; the naming began at the position `from`
pub record Child (s : Setting) (t : Naming) (from q : Past) : Type 0 where
  pub pointed : Pointed s.geometry q t.birth.suffix t.child
  pub birth : birth_in s.geometry q t.child ≡ t.birth
  pub begun : Before from q

module _ (s : Setting) (t : Naming) (from : Past) where
  suffix_low : (q : Past) → birth_in s.geometry q t.child ≡ t.birth → t.birth.suffix < 2 ^ t.birth.depth
  suffix_low q e = subst (λ (v : Birth). v.suffix < 2 ^ v.depth) e (birth_small (word_at s.geometry q t.child))

  pub child_low : (q : Past) → Child s t from q → t.birth.suffix < 2 ^ t.birth.depth
  child_low q h = suffix_low q h.birth

  small : (x n : ℕ) → x < n → x % n ≡ x
  small x n h = mod-eq_of_lt h

  pub child_first : MayName s from t → Child s t from from
  child_first m = record {
    pointed = record {
      table = m.table;
      suffix = ap (λ (v : Birth). v.suffix) m.birth ∙ sym (small t.birth.suffix (2 ^ t.birth.depth) (suffix_low from m.birth)) ∙ ap (λ (v : Birth). t.birth.suffix % 2 ^ v.depth) (sym m.birth);
      ready = inr (subst (λ (v : Birth). v.depth ≤ depth (header_in s.geometry from v.parent)) (sym m.birth) m.ready);
    };
    birth = m.birth;
    begun = here;
  }

  pub child_later : (q : Past) (e : Entry) → Legal s (e ∷ q) → Child s t from q → Child s t from (e ∷ q)
  child_later q e l h = record {
    pointed = pointed_later s q e l t.birth.suffix t.child h.pointed;
    birth = birth_kept s q e l.1 (sound s q l.0) t.child h.pointed.table ∙ h.birth;
    begun = later h.begun;
  }

  pub child_since : {c : ℕ} {q z : Past} → Since c q z → Legal s z → Child s t from q → Child s t from z
  child_since same l h = h
  child_since (longer {q = q} e b o) l h = child_later q e l (child_since b l.0 h)

  -- an index with the child's suffix, whose directory word is set
  pub record Mine (j : ℕ) (q : Past) : Type 0 where
    pub low : j < 2 ^ s.geometry.max_depth
    pub suffix : j % 2 ^ t.birth.depth ≡ t.birth.suffix
    pub some : word_at s.geometry q (directory_at j) ≢ 0

  pub mine_later : (j : ℕ) {q z : Past} → Before q z → Legal s z → Mine j q → Mine j z
  mine_later j b l m = record { low = m.low; suffix = m.suffix; some = directory_set s b l j m.low m.some }

  -- the child may be named there
  pub pointed_at : (q : Past) → Child s t from q → (j : ℕ) → j % 2 ^ t.birth.depth ≡ t.birth.suffix → Pointed s.geometry q j t.child
  pointed_at q h j m = record {
    table = h.pointed.table;
    suffix = ap (λ (v : Birth). v.suffix) h.birth ∙ sym m ∙ ap (λ (v : Birth). j % 2 ^ v.depth) (sym h.birth);
    ready = h.pointed.ready;
  }

  below : (q : Past) (h u v : ℕ) → Reach s.geometry q h u v → IsBelow s.geometry q u v
  below q h u v (one u2 v2 f) = child u2 f.level v2 (exit-below h (born_at s.geometry q u2) f.level f.exits) f.child f.some
  below q h u v (more u2 c v2 f r) = further u2 f.level c v2 (exit-below h (born_at s.geometry q u2) f.level f.exits) f.child f.some (below q h c v2 r)

  -- a word that names a table which was born no less deep than the child names the child or a table below it
  pub deep_named : (q : Past) → Legal s q → Child s t from q → (j : ℕ) → Mine j q → t.birth.depth ≤ born_at s.geometry q (word_at s.geometry q (directory_at j)) → (word_at s.geometry q (directory_at j) ≡ t.child) ⊎ IsBelow s.geometry q t.child (word_at s.geometry q (directory_at j))
  deep_named q l h j m deep =
      let w : ℕ = word_at s.geometry q (directory_at j) in
      let pw = (directs s q l).points j m.low m.some in
      let pc = pointed_at q h j m.suffix in
      by (word_at s.geometry q (directory_at j)) pw deep (compare s q l j (word_at s.geometry q (directory_at j)) t.child (pointed_chain s q l j (word_at s.geometry q (directory_at j)) pw) (pointed_chain s q l j t.child pc))
    where
      by : (w : ℕ) → Pointed s.geometry q j w → t.birth.depth ≤ born_at s.geometry q w → (w ≡ t.child) ⊎ (Reach s.geometry q j w t.child ⊎ Reach s.geometry q j t.child w) → (w ≡ t.child) ⊎ IsBelow s.geometry q t.child w
      by w pw k (inl x) = inl x
      by w pw k (inr (inl y)) = let z = reach_deeper s q l j w t.child pw.table y in let b = ap (λ (v : Birth). v.depth) h.birth in absurd (omega arith)
      by w pw k (inr (inr y)) = inr (below q j t.child w y)

pub named_later : (g : Geometry) (from : Past) (j u : ℕ) {q z : Past} → Before q z → WasNamed g from q j u → WasNamed g from z j u
named_later g from j u b w = record { at = w.at; from_then = w.from_then; till = Before-trans w.till b; named = w.named }
