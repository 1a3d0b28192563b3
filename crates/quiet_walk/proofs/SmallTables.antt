-- The words after a legal log lead to tables of small numbers only.
use Rattle.std.specs.Prelude.{◌≡◌, ℕ, ◌^◌, ◌<◌, true}
use Rattle.std.proofs.Common.{sym, subst, arith, ⊎_elim}
use Rattle.std.proofs.lemmas.Nat.{pow-add}
use Rattle.node_words.specs.Addresses.{first_table, node_of}
use Rattle.node_words.proofs.Sizes.{first_free_words, node_ends}
use Rattle.node_words.proofs.FirstTables.{IsInFirst, first_table_ends}
use Rattle.verb_log.specs.Tables.{Past, word_at, is_published}
use Rattle.race_laws.specs.Setting.{Setting}
use Rattle.race_laws.specs.Standing.{IsIn}
use Rattle.race_laws.specs.Legal.{Legal}
use Rattle.race_laws.proofs.Sound.{Sound}
use Rattle.race_laws.proofs.SoundStep.{sound}
use Rattle.log_facts.proofs.Directory.{pow_up}
use Rattle.image_laws.specs.declared.table.ImageTable.{ImageTable}
use Rattle.image_laws.specs.Walk.{Words, first_of, child_of, tables}
use Rattle.image_laws.proofs.Tables.{IsChildOf, firsts_among, child_listed, tables_all}
use Rattle.image_laws.proofs.LogTables.{stands}
use Rattle.image_audit.specs.Kept.{IsSmall, AllSmall}
use Rattle.image_audit.proofs.DirectoryWords.{small_firsts}

module _ (s : Setting) (q : Past) (l : Legal s q) where
  abbrev words : Words
  words = word_at s.geometry q

  so : Sound s.geometry q
  so = sound s q l

  at_low : (t : ImageTable) → IsIn t (tables s.geometry words) → t.at < 2 ^ 24
  at_low t h = ⊎_elim (λ (x : IsInFirst s.geometry t.at t.at). first x) (λ (x : is_published s.geometry q t.at ≡ true). later x) (so.tables t.at t.at (stands s q l t h).is_table).2
    where
      first : IsInFirst s.geometry t.at t.at → t.at < 2 ^ 24
      first x = let a = first_table_ends s.geometry x.index x.below in let b = first_free_words s.geometry in let c = s.geometry.within in let e = x.is in low (first_table s.geometry x.index) (omega arith) e
        where
          low : (y : ℕ) → y < 2 ^ 24 → t.at ≡ y → t.at < 2 ^ 24
          low y k e = omega arith

      later : is_published s.geometry q t.at ≡ true → t.at < 2 ^ 24
      later x =
          let a = so.taken t.at (so.published t.at x) in
          let b = so.next_to (node_of s.geometry t.at) a.node in
          let c = node_ends s.geometry (node_of s.geometry t.at) a.node in
          let d = s.geometry.within in
          let e = a.to in
          omega arith

  small_child : (u : ImageTable) (i : ℕ) (c : ImageTable) → IsIn u (tables s.geometry words) → IsSmall u → IsChildOf words u i c → IsSmall c
  small_child u i c h k x = subst IsSmall (sym x.is) (record {
    at = at_low (child_of words u i) (child_listed s.geometry words u h i x.from x.below x.some);
    depth = (let b = x.below in omega arith);
    suffix = (let a = k.suffix in let b = pow_up u.depth i x.from in let d = pow-add 2 i 1 in omega arith);
    parent = k.at;
  })

  pub small_tables : AllSmall (tables s.geometry words)
  small_tables = tables_all IsSmall s.geometry words (λ j h. small_firsts s.geometry (first_of s.geometry j) (firsts_among s.geometry j h)) small_child
