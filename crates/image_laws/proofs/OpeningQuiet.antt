-- The opening words are quiet.
use Rattle.std.specs.Prelude.{◌≡◌, ℕ, ◌+◌, ◌*◌, ◌/◌, ◌%◌, ◌<◌, [], refl}
use Rattle.std.proofs.Common.{sym, ap, subst, arith}
use Rattle.node_words.specs.Addresses.{table_words, slot_at, bucket_header_at}
use Rattle.node_words.specs.Roles.{Role, NextWord, DepthWord, DirectoryWord, BirthWord, HeaderWord, LockWord, ReservedWord, ChildWord, BucketWord, SlotWord, HeapWord, offset_role}
use Rattle.node_words.proofs.RoleLemmas.{header_place, lock_place, slot_place, slot_below, bucket_place, bucket_below}
use Rattle.verb_log.specs.Decoded.{content, header}
use Rattle.verb_log.specs.Tables.{word_at}
use Rattle.race_laws.specs.Standing.{IsTable, IsPlain}
use Rattle.race_laws.proofs.Opening.{opening_lock_free, opening_quiet, opening_empty_slot}
use Rattle.image_laws.specs.declared.table.ImageTable.{ImageTable}
use Rattle.image_laws.specs.Walk.{WalkWord}
use Rattle.image_laws.specs.Quiet.{QuietAs, QuietAt}
use Rattle.image_laws.specs.Laws.{OpeningIsQuiet}
use Rattle.image_laws.proofs.Tables.{IsWalked, in_table, of_depth, of_directory, walked_is}
use Rattle.image_laws.proofs.LogTables.{stands}

pub opening_is_quiet : OpeningIsQuiet
opening_is_quiet s x h = word_is x (walked_is s.geometry (word_at s.geometry []) x h)
  where
    role : (t : ImageTable) (o : ℕ) → IsTable s.geometry [] t.at → o < table_words s.geometry → (r : Role) → offset_role t.at o ≡ r → QuietAs (word_at s.geometry []) (t.at + o) r
    role t o h low (HeaderWord u) e = let p = header_place t.at o u e in subst (λ v. IsPlain (header (word_at s.geometry [] (t.at + v)))) (sym p.1) (opening_quiet s.geometry t.at h).plain
    role t o h low (LockWord u) e = let p = lock_place t.at o u e in subst (λ v. word_at s.geometry [] (t.at + v) ≡ 0) (sym p.1) (opening_lock_free s.geometry t.at h)
    role t o h low (BucketWord u m) e =
        let p = bucket_place t.at o u m e in
        let q = opening_quiet s.geometry t.at h in
        let b = q.buckets m (bucket_below s.geometry t.at o u m e low) in
        subst (λ v. IsPlain (header (word_at s.geometry [] v))) (sym (place t.at o m p.1)) (subst IsPlain (sym b) q.plain)
      where
        place : (t o m : ℕ) → o ≡ 20 + 24 * (m / 2) + 16 * (m % 2) → t + o ≡ bucket_header_at t m
        place t o m e = omega arith
    role t o h low (SlotWord u p) e = λ m b f.
        let q = slot_place t.at o u p e in
        let z = opening_empty_slot s.geometry t.at p h (slot_below s.geometry t.at o u p e low, q.2) in
        let v = ap (λ v. content (word_at s.geometry [] v)) (place t.at o p q.1) in
        absurd (cc)
      where
        place : (t o p : ℕ) → o ≡ 20 + p → t + o ≡ slot_at t p
        place t o p e = omega arith
    role t o h low (NextWord k) e = tt
    role t o h low DepthWord e = tt
    role t o h low (DirectoryWord j) e = tt
    role t o h low (BirthWord u) e = tt
    role t o h low ReservedWord e = tt
    role t o h low (ChildWord u i) e = tt
    role t o h low HeapWord e = tt

    word_is : (x : WalkWord) → IsWalked s.geometry (word_at s.geometry []) x → QuietAt (word_at s.geometry []) x
    word_is x (in_table t o h k) = role t o (stands s [] tt t h).is_table k (offset_role t.at o) refl
    word_is x of_depth = tt
    word_is x (of_directory j k) = tt
