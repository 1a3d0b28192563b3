-- Which entries of a client may follow, by the word that they change: a row is met by what is known of that word. On every legal log.
use Rattle.std.specs.Prelude.{◌≡◌, ◌≢◌, ℕ, ◌+◌, ◌*◌, ◌^◌, ◌<◌, ◌==◌, true, not, nat_lt, ◌&&◌, Option, Some, refl}
use Rattle.std.proofs.Common.{sym, ◌∙◌, ap, subst, arith}
use Rattle.std.proofs.lemmas.Bool.Decides.{nat_tests}
use Rattle.node_words.specs.Addresses.{directory_at, header_at, lock_at, child_at, slot_at, bucket_header_at}
use Rattle.verb_log.specs.declared.entry.Entry.{Entry}
use Rattle.verb_log.specs.declared.kind.Kind.{Kind}
use Rattle.verb_log.specs.declared.kind.Kind.TheVariants.{Lock, Unlock, Link, Name, Deepen}
use Rattle.verb_log.specs.Decoded.{Body, Content, content, Header, header}
use Rattle.verb_log.specs.Fits.{IsAddress}
use Rattle.verb_log.specs.Tables.{Past, word_at, is_address}
use Rattle.verb_log.specs.Kinds.{kind_of_role, only_if, slot_kind, header_kind, bucket_kind, lock_kind, same_body}
use Rattle.race_laws.specs.Setting.{Setting}
use Rattle.race_laws.specs.Standing.{IsTable, header_in, lock_in, child_in, bucket_in, place_in}
use Rattle.race_laws.specs.Splits.{IsQuiet}
use Rattle.race_laws.specs.Rows.{IsPlace, LinkRow, NameRow, DeepenRow}
use Rattle.race_laws.specs.Legal.{SlotRow, HeaderRow, BucketRow, LockRow, IfKind, Row, Meets, Legal}
use Rattle.race_laws.proofs.Sound.{judged_is}
use Rattle.race_laws.proofs.SoundStep.{sound}
use Rattle.race_laws.proofs.Slots.{slot_is}
use Rattle.race_laws.proofs.Frames.{header_is, lock_is, child_is, bucket_is}
use Rattle.log_facts.specs.Since.{change_in}
use Rattle.log_facts.proofs.Within.{table_within, slot_within, header_low, bucket_low, child_low}
use Rattle.log_facts.proofs.Directory.{depth_is, directory_is}
use Rattle.node_words.proofs.Sizes.{first_free_directory, first_free_words}

pub same_itself : (b : Body) → same_body b b ≡ true
same_itself b = grind (arith, nat_tests)

module _ (s : Setting) (c : ℕ) (q : Past) (l : Legal s q) where
  pub slot_meets : (t p w : ℕ) (o n : Content) (k : Option Kind) → IsTable s.geometry q t → IsPlace s.geometry p → place_in s.geometry q t p ≡ o → content w ≡ n → slot_kind o n ≡ k → SlotRow s q (change_in s.geometry c q (slot_at t p) w) t p k → Meets s q (change_in s.geometry c q (slot_at t p) w)
  slot_meets t p w o n k h pl po cw sk row = record {
    within = slot_within s q l t p h pl;
    stands = refl;
    row = subst (λ v. Row s q e v (kind_of_role s.geometry q e v)) (sym (judged_is s.geometry q (sound s q l) (slot_at t p) ∙ slot_is s.geometry q (sound s q l) t p h pl))
        (subst (SlotRow s q e t p) (sym (ap (λ v. slot_kind v (content w)) po ∙ ap (slot_kind o) cw ∙ sk)) row);
  }
    where
      e : Entry
      e = change_in s.geometry c q (slot_at t p) w

  pub header_meets : (t w : ℕ) (o n : Header) (k : Option Kind) → IsTable s.geometry q t → header_in s.geometry q t ≡ o → header w ≡ n → header_kind o n ≡ k → HeaderRow s q (change_in s.geometry c q (header_at t) w) t k → Meets s q (change_in s.geometry c q (header_at t) w)
  header_meets t w o n k h po cw sk row = record {
    within = header_low s q l t h;
    stands = refl;
    row = subst (λ v. Row s q e v (kind_of_role s.geometry q e v)) (sym (judged_is s.geometry q (sound s q l) (header_at t) ∙ header_is s.geometry q (sound s q l) t h))
        (subst (HeaderRow s q e t) (sym (ap (λ v. header_kind v (header w)) po ∙ ap (header_kind o) cw ∙ sk)) row);
  }
    where
      e : Entry
      e = change_in s.geometry c q (header_at t) w

  pub bucket_meets : (t m w : ℕ) (o n : Header) (k : Option Kind) → IsTable s.geometry q t → m < 2 * s.geometry.groups → bucket_in s.geometry q t m ≡ o → header w ≡ n → bucket_kind o n ≡ k → BucketRow s q (change_in s.geometry c q (bucket_header_at t m) w) t k → Meets s q (change_in s.geometry c q (bucket_header_at t m) w)
  bucket_meets t m w o n k h low po cw sk row = record {
    within = bucket_low s q l t h m low;
    stands = refl;
    row = subst (λ v. Row s q e v (kind_of_role s.geometry q e v)) (sym (judged_is s.geometry q (sound s q l) (bucket_header_at t m) ∙ bucket_is s.geometry q (sound s q l) t h m low))
        (subst (BucketRow s q e t) (sym (ap (λ v. bucket_kind v (header w)) po ∙ ap (bucket_kind o) cw ∙ sk)) row);
  }
    where
      e : Entry
      e = change_in s.geometry c q (bucket_header_at t m) w

  pub lock_low : (t : ℕ) → IsTable s.geometry q t → lock_at t < s.geometry.words
  lock_low t h = table_within s.geometry q (sound s q l) t 2 h (omega arith)

  pub lock_meets : (t : ℕ) → IsTable s.geometry q t → lock_in s.geometry q t ≡ 0 → Meets s q (change_in s.geometry c q (lock_at t) (c + 1))
  lock_meets t h z = record {
    within = lock_low t h;
    stands = refl;
    row = subst (λ v. Row s q e v (kind_of_role s.geometry q e v)) (sym (judged_is s.geometry q (sound s q l) (lock_at t) ∙ lock_is s.geometry q (sound s q l) t h))
        (subst (LockRow s q t) (sym (by (lock_in s.geometry q t) z)) tt);
  }
    where
      e : Entry
      e = change_in s.geometry c q (lock_at t) (c + 1)

      by : (x : ℕ) → x ≡ 0 → lock_kind (record { client = c; at = lock_at t; old = x; new = c + 1 }) ≡ Some Lock
      by x z = grind (arith, nat_tests)

  pub unlock_meets : (t : ℕ) → IsTable s.geometry q t → lock_in s.geometry q t ≡ c + 1 → IsQuiet s.geometry q t → Meets s q (change_in s.geometry c q (lock_at t) 0)
  unlock_meets t h z w = record {
    within = lock_low t h;
    stands = refl;
    row = subst (λ v. Row s q e v (kind_of_role s.geometry q e v)) (sym (judged_is s.geometry q (sound s q l) (lock_at t) ∙ lock_is s.geometry q (sound s q l) t h))
        (subst (LockRow s q t) (sym (by (lock_in s.geometry q t) z)) (record { quiet = w }));
  }
    where
      e : Entry
      e = change_in s.geometry c q (lock_at t) 0

      by : (x : ℕ) → x ≡ c + 1 → lock_kind (record { client = c; at = lock_at t; old = x; new = 0 }) ≡ Some Unlock
      by x z = grind (arith, nat_tests)

  pub link_meets : (t i u : ℕ) → IsTable s.geometry q t → i < 16 → child_in s.geometry q t i ≡ 0 → IsAddress s.geometry u → LinkRow s.geometry q (change_in s.geometry c q (child_at t i) u) t i → Meets s q (change_in s.geometry c q (child_at t i) u)
  link_meets t i u h low z n row = record {
    within = child_low s q l t h i low;
    stands = refl;
    row = subst (λ v. Row s q e v (kind_of_role s.geometry q e v)) (sym (judged_is s.geometry q (sound s q l) (child_at t i) ∙ child_is s.geometry q (sound s q l) t h i low))
        (subst (λ o. IfKind o (LinkRow s.geometry q e t i)) (sym (by (child_in s.geometry q t i) u z n)) row);
  }
    where
      e : Entry
      e = change_in s.geometry c q (child_at t i) u

      test : (x y w : ℕ) → x ≡ 0 → y ≢ 0 → y < w → ((x == 0) && (not (y == 0) && nat_lt y w)) ≡ true
      test x y w z n m = grind (arith, nat_tests)

      by : (x y : ℕ) → x ≡ 0 → IsAddress s.geometry y → only_if ((x == 0) && is_address s.geometry y) Link ≡ Some Link
      by x y z n = ap (λ v. only_if v Link) (test x y s.geometry.words z n.0 n.1)

  pub directory_low : (j : ℕ) → j < 2 ^ s.geometry.max_depth → directory_at j < s.geometry.words
  directory_low j h = let x = first_free_directory s.geometry in let y = first_free_words s.geometry in omega arith

  pub name_meets : (j u : ℕ) → j < 2 ^ s.geometry.max_depth → IsAddress s.geometry u → NameRow s.geometry q (change_in s.geometry c q (directory_at j) u) j → Meets s q (change_in s.geometry c q (directory_at j) u)
  name_meets j u low n row = record {
    within = directory_low j low;
    stands = refl;
    row = subst (λ v. Row s q e v (kind_of_role s.geometry q e v)) (sym (judged_is s.geometry q (sound s q l) (directory_at j) ∙ directory_is s q l j low))
        (subst (λ o. IfKind o (NameRow s.geometry q e j)) (sym (by u n)) row);
  }
    where
      e : Entry
      e = change_in s.geometry c q (directory_at j) u

      test : (y w : ℕ) → y ≢ 0 → y < w → (not (y == 0) && nat_lt y w) ≡ true
      test y w n m = grind (arith, nat_tests)

      by : (y : ℕ) → IsAddress s.geometry y → only_if (is_address s.geometry y) Name ≡ Some Name
      by y n = ap (λ v. only_if v Name) (test y s.geometry.words n.0 n.1)

  pub deepen_meets : (d : ℕ) → word_at s.geometry q 1 ≡ d → DeepenRow s.geometry q (change_in s.geometry c q 1 (d + 1)) → Meets s q (change_in s.geometry c q 1 (d + 1))
  deepen_meets d z row = record {
    within = let x = first_free_directory s.geometry in let y = first_free_words s.geometry in omega arith;
    stands = refl;
    row = subst (λ v. Row s q e v (kind_of_role s.geometry q e v)) (sym (judged_is s.geometry q (sound s q l) 1 ∙ depth_is s q l))
        (subst (λ o. IfKind o (DeepenRow s.geometry q e)) (sym (by (word_at s.geometry q 1) z)) row);
  }
    where
      e : Entry
      e = change_in s.geometry c q 1 (d + 1)

      by : (x : ℕ) → x ≡ d → only_if (d + 1 == x + 1) Deepen ≡ Some Deepen
      by x z = grind (arith, nat_tests)
