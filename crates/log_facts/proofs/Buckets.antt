-- Bucket headers beside their table's header, its children and its parent. Of every legal log.
use Rattle.std.specs.Prelude.{◌≡◌, ◌≢◌, ℕ, ◌+◌, ◌*◌, ◌<◌, ◌≤◌, [], ◌∷◌, ◌⊎◌, refl}
use Rattle.std.proofs.Common.{sym, ◌∙◌, ap, subst, inl, inr, arith, ⊎_elim}
use Rattle.std.proofs.lemmas.Bool.{cases_lt}
use Rattle.slot_word.specs.declared.births.Birth.{Birth}
use Rattle.node_words.specs.Addresses.{child_at, bucket_header_at}
use Rattle.verb_log.specs.declared.entry.Entry.{Entry}
use Rattle.verb_log.specs.Decoded.{Header, PlainAt, SplittingAt, FillingAt, NoHeader, header}
use Rattle.verb_log.specs.Fits.{IsAddress}
use Rattle.verb_log.specs.Tables.{Past, word_at, table_of}
use Rattle.race_laws.specs.Setting.{Setting}
use Rattle.race_laws.specs.Standing.{IsTable, header_in, birth_in, child_in, bucket_in, depth, IsFilling, IsGone}
use Rattle.race_laws.specs.Rows.{LinkRow}
use Rattle.race_laws.specs.Legal.{Legal}
use Rattle.race_laws.proofs.Step.{BucketStep, begin, close, ripen_bucket}
use Rattle.race_laws.proofs.SoundStep.{sound}
use Rattle.race_laws.proofs.Frames.{birth_kept, bucket_cases, child_cases}
use Rattle.race_laws.proofs.Finality.{deeper_on, header_next, gone_on, bucket_next}
use Rattle.race_laws.proofs.Splits.{Linked, linked_at, new_table, new_child, new_bucket}
use Rattle.race_laws.proofs.TablesStep.{new_filling, new_level}
use Rattle.race_laws.proofs.Touch.{same_or_not}
use Rattle.log_facts.proofs.Heads.{filling_childless}
use Rattle.race_laws.proofs.Opening.{splits, opening_head, opening_head_bucket, opening_birth_depth}

-- a header after an entry is no shallower
grows : (s : Setting) (q : Past) (e : Entry) → Legal s (e ∷ q) → (t : ℕ) → IsTable s.geometry q t → depth (header_in s.geometry q t) ≤ depth (header_in s.geometry (e ∷ q) t)
grows s q e l t h = ⊎_elim (λ (y : header_in s.geometry (e ∷ q) t ≡ header_in s.geometry q t). let z = ap depth y in omega arith) (λ y. deeper_on y) (header_next s q e l.1 (sound s q l.0) t h)

module _ (s : Setting) (q : Past) (e : Entry) (l : Legal s (e ∷ q)) where
  -- the bucket headers of a new table
  pub new_bucket_is : (k : Linked s q e) (t n : ℕ) → t ≡ e.new → n < 2 * s.geometry.groups → bucket_in s.geometry (e ∷ q) t n ≡ FillingAt (k.level + 1)
  new_bucket_is k t n z m = ap (λ v. bucket_in s.geometry (e ∷ q) v n) z ∙ new_bucket s q e l.0 l.1 k n m ∙ k.row.newborn.buckets n m

  was : (t n : ℕ) (hd : Header) → bucket_header_at t n ≡ e.at → header (word_at s.geometry q e.at) ≡ hd → bucket_in s.geometry q t n ≡ hd
  was t n hd a o = ap (λ v. header (word_at s.geometry q v)) a ∙ o

-- a bucket header is no deeper than its table's
pub bucket_depth : (s : Setting) (q : Past) → Legal s q → (t n : ℕ) → IsTable s.geometry q t → n < 2 * s.geometry.groups → depth (bucket_in s.geometry q t n) ≤ depth (header_in s.geometry q t)
bucket_depth s [] l t n h m = let x = ap depth (opening_head s.geometry t h) in let y = ap depth (opening_head_bucket s.geometry t h n m) in omega arith
bucket_depth s (e ∷ q) l t n h m = ⊎_elim
    (λ (x : IsTable s.geometry q t). let g = grows s q e l t x in let ih = bucket_depth s q l.0 t n x m in
    ⊎_elim (λ (y : bucket_in s.geometry (e ∷ q) t n ≡ bucket_in s.geometry q t n). let z = ap depth y in omega arith) (λ y. by x g ih y.0 y.1 y.2) (bucket_cases s q e l.1 (sound s q l.0) t x n m))
    (λ x. let y = ap depth (new_bucket_is s q e l x.1 t n x.0 m) in let z = ap depth (new_filling s q e l.0 l.1 (splits s q l.0) x.1 t x.0) in omega arith)
    (new_table s q e l.0 l.1 t h)
  where
    by : IsTable s.geometry q t → depth (header_in s.geometry q t) ≤ depth (header_in s.geometry (e ∷ q) t) → depth (bucket_in s.geometry q t n) ≤ depth (header_in s.geometry q t) → bucket_in s.geometry (e ∷ q) t n ≡ header e.new → bucket_header_at t n ≡ e.at → BucketStep s q e t → depth (bucket_in s.geometry (e ∷ q) t n) ≤ depth (header_in s.geometry (e ∷ q) t)
    by x g ih nw a (begin d o w r) = let b = ap depth (was s q e l t n (PlainAt d) a o) in let c = ap depth (nw ∙ w) in omega arith
    by x g ih nw a (close d o w r) = let c = ap depth (nw ∙ w) in let old : depth (header e.old) ≡ d = ap depth (ap header (sym l.1.stands) ∙ o) in let dp = r.deeper in omega arith
    by x g ih nw a (ripen_bucket d o w r) = let b = ap depth (was s q e l t n (FillingAt d) a o) in let c = ap depth (nw ∙ w) in omega arith

-- a filling bucket header has the birth depth
pub bucket_fills : (s : Setting) (q : Past) → Legal s q → (t n d : ℕ) → IsTable s.geometry q t → n < 2 * s.geometry.groups → bucket_in s.geometry q t n ≡ FillingAt d → d ≡ (birth_in s.geometry q t).depth
bucket_fills s [] l t n d h m f = let y = opening_head_bucket s.geometry t h n m in absurd (cc)
bucket_fills s (e ∷ q) l t n d h m f = ⊎_elim
    (λ (x : IsTable s.geometry q t). let bk = ap (λ (v : Birth). v.depth) (birth_kept s q e l.1 (sound s q l.0) t x) in
    ⊎_elim (λ (y : bucket_in s.geometry (e ∷ q) t n ≡ bucket_in s.geometry q t n). bucket_fills s q l.0 t n d x m (sym y ∙ f) ∙ sym bk) (λ y. absurd (by y.0 y.2)) (bucket_cases s q e l.1 (sound s q l.0) t x n m))
    (λ x. let y = ap depth (sym f ∙ new_bucket_is s q e l x.1 t n x.0 m) in y ∙ sym (new_level s q e l.0 l.1 (splits s q l.0) x.1 t x.0))
    (new_table s q e l.0 l.1 t h)
  where
    by : bucket_in s.geometry (e ∷ q) t n ≡ header e.new → BucketStep s q e t → ⊥
    by nw (begin c o w r) = let z = sym f ∙ nw ∙ w in cc
    by nw (close c o w r) = let z = sym f ∙ nw ∙ w in cc
    by nw (ripen_bucket c o w r) = let z = sym f ∙ nw ∙ w in cc

-- where a bucket header of a child has ripened, the split that made the child is finished
pub bucket_ripe : (s : Setting) (q : Past) → Legal s q → (t n u i : ℕ) → IsTable s.geometry q t → n < 2 * s.geometry.groups → IsTable s.geometry q u → i < 16 → child_in s.geometry q u i ≡ t → t ≢ 0 → (IsFilling (bucket_in s.geometry q t n) → ⊥) → i < depth (header_in s.geometry q u)
bucket_ripe s [] l t n u i h m hu k ch z f = ⊎_elim (λ (x : i < depth (header_in s.geometry [] u)). x)
    (λ (x : depth (header_in s.geometry [] u) ≤ i). absurd (subst IsFilling (opening_head s.geometry t h) ((splits s [] l).fills u i t hu k ch z (λ y. omega arith)))) (cases_lt i (depth (header_in s.geometry [] u)))
bucket_ripe s (e ∷ q) l t n u i h m hu k ch z f = ⊎_elim
    (λ (x : IsTable s.geometry q t). ⊎_elim
    (λ (y : IsTable s.geometry q u). ⊎_elim
    (λ (w : child_in s.geometry (e ∷ q) u i ≡ child_in s.geometry q u i). old x y (sym w ∙ ch) (λ g. bucket_ripe s q l.0 t n u i x m y k (sym w ∙ ch) z g))
    (λ w. absurd (fresh x y w.0 w.1 w.2 w.3 w.4)) (child_cases s q e l.1 (sound s q l.0) u y i k))
    (λ y. absurd (z (sym ch ∙ ap (λ v. child_in s.geometry (e ∷ q) v i) y.0 ∙ new_child s q e l.0 l.1 y.1 i k))) (new_table s q e l.0 l.1 u hu))
    (λ x. absurd (f (subst IsFilling (sym (new_bucket_is s q e l x.1 t n x.0 m)) tt))) (new_table s q e l.0 l.1 t h)
  where
    -- a child that is linked now was no table
    fresh : IsTable s.geometry q t → IsTable s.geometry q u → child_in s.geometry (e ∷ q) u i ≡ e.new → child_at u i ≡ e.at → child_in s.geometry q u i ≡ 0 → IsAddress s.geometry e.new → LinkRow s.geometry q e u i → ⊥
    fresh x y new a empty some row =
        let k2 = (linked_at s q e l.0 l.1 u i y k a empty some row).0 in
        let none = k2.none 0 (omega arith) in
        let same = ap (table_of s.geometry q) (plus0 e.new ∙ sym new ∙ ch) in
        cc
      where
        plus0 : (n : ℕ) → n + 0 ≡ n
        plus0 n = omega arith

    old : IsTable s.geometry q t → IsTable s.geometry q u → child_in s.geometry q u i ≡ t → ((IsFilling (bucket_in s.geometry q t n) → ⊥) → i < depth (header_in s.geometry q u)) → i < depth (header_in s.geometry (e ∷ q) u)
    old x y c ih =
        let g = grows s q e l u y in
        ⊎_elim (λ (w : bucket_in s.geometry (e ∷ q) t n ≡ bucket_in s.geometry q t n). let r = ih (λ v. f (subst IsFilling (sym w) v)) in omega arith) (λ w. let r = by w.1 w.2 in omega arith) (bucket_cases s q e l.1 (sound s q l.0) t x n m)
      where
        by : bucket_header_at t n ≡ e.at → BucketStep s q e t → i < depth (header_in s.geometry q u)
        by a (begin d o w r) = ih (λ v. subst IsFilling (was s q e l t n (PlainAt d) a o) v)
        by a (close d o w r) = ih (λ v. subst IsFilling (was s q e l t n (SplittingAt d) a o) v)
        by a (ripen_bucket d o w r) =
            let born = (splits s q l.0).born u i t y k c z in
            let dd = bucket_fills s q l.0 t n d x m (was s q e l t n (FillingAt d) a o) in
            let old : depth (header e.old) ≡ d = ap depth (ap header (sym l.1.stands) ∙ o) in
            let parent = r.parent in
            let here : depth (header_in s.geometry q (birth_in s.geometry q t).parent) ≡ depth (header_in s.geometry q u) = ap (λ v. depth (header_in s.geometry q v)) born.parent in
            let level = born.level in
            omega arith

-- where a child is linked at a level each bucket header is plain there, or shows the level gone
pub linked_bucket : (s : Setting) (q : Past) → Legal s q → (t n d : ℕ) → IsTable s.geometry q t → n < 2 * s.geometry.groups → d < 16 → child_in s.geometry q t d ≢ 0 → (bucket_in s.geometry q t n ≡ PlainAt d) ⊎ IsGone (bucket_in s.geometry q t n) d
linked_bucket s [] l t n d h m k z =
    let hd = opening_head s.geometry t h in
    let bk = opening_head_bucket s.geometry t h n m in
    let up = (splits s [] l).upto t d h k z in
    let b = opening_birth_depth s.geometry t h in
    let x = ap depth hd in
    let same : d ≡ s.geometry.first_depth = let u0 = up.0 in let u1 = up.1 in omega arith in
    inl (bk ∙ ap PlainAt (sym same))
linked_bucket s (e ∷ q) l t n d h m k z = ⊎_elim
    (λ (x : IsTable s.geometry q t). ⊎_elim
    (λ (w : child_in s.geometry (e ∷ q) t d ≡ child_in s.geometry q t d). old x (linked_bucket s q l.0 t n d x m k (λ v. z (w ∙ v))))
    (λ w. inl (linked x w.1 w.4)) (child_cases s q e l.1 (sound s q l.0) t x d k))
    (λ x. absurd (z (ap (λ v. child_in s.geometry (e ∷ q) v d) x.0 ∙ new_child s q e l.0 l.1 x.1 d k))) (new_table s q e l.0 l.1 t h)
  where
    old : IsTable s.geometry q t → (bucket_in s.geometry q t n ≡ PlainAt d) ⊎ IsGone (bucket_in s.geometry q t n) d → (bucket_in s.geometry (e ∷ q) t n ≡ PlainAt d) ⊎ IsGone (bucket_in s.geometry (e ∷ q) t n) d
    old x (inr g) = inr (⊎_elim (λ (y : bucket_in s.geometry (e ∷ q) t n ≡ bucket_in s.geometry q t n). subst (λ v. IsGone v d) (sym y) g) (λ y. gone_on y d g) (bucket_next s q e l.1 (sound s q l.0) t n x m))
    old x (inl p) = ⊎_elim (λ (y : bucket_in s.geometry (e ∷ q) t n ≡ bucket_in s.geometry q t n). inl (y ∙ p)) (λ y. by y.0 y.1 y.2) (bucket_cases s q e l.1 (sound s q l.0) t x n m)
      where
        by : bucket_in s.geometry (e ∷ q) t n ≡ header e.new → bucket_header_at t n ≡ e.at → BucketStep s q e t → (bucket_in s.geometry (e ∷ q) t n ≡ PlainAt d) ⊎ IsGone (bucket_in s.geometry (e ∷ q) t n) d
        by nw a (begin c o w r) = let same : d ≡ c = ap depth (sym p ∙ was s q e l t n (PlainAt c) a o) in inr (subst (λ v. IsGone v d) (sym (nw ∙ w)) (at_most d c same))
          where
            at_most : (x y : ℕ) → x ≡ y → x ≤ y
            at_most x y h = omega arith
        by nw a (close c o w r) = let x2 = sym p ∙ was s q e l t n (SplittingAt c) a o in absurd (cc)
        by nw a (ripen_bucket c o w r) = let x2 = sym p ∙ was s q e l t n (FillingAt c) a o in absurd (cc)

    linked : IsTable s.geometry q t → child_at t d ≡ e.at → LinkRow s.geometry q e t d → bucket_in s.geometry (e ∷ q) t n ≡ PlainAt d
    linked x a row = ⊎_elim (λ (y : bucket_in s.geometry (e ∷ q) t n ≡ bucket_in s.geometry q t n). y ∙ row.quiet.buckets n m ∙ row.level)
        (λ y. absurd (apart t n d k (y.1 ∙ sym a))) (bucket_cases s q e l.1 (sound s q l.0) t x n m)
      where
        apart : (t n d : ℕ) → d < 16 → bucket_header_at t n ≡ child_at t d → ⊥
        apart t n d k e = omega arith

-- a header of a table with a child at a level is plain there, or shows the level gone
pub linked_header : (s : Setting) (q : Past) → Legal s q → (t d : ℕ) → IsTable s.geometry q t → d < 16 → child_in s.geometry q t d ≢ 0 → (header_in s.geometry q t ≡ PlainAt d) ⊎ IsGone (header_in s.geometry q t) d
linked_header s q l t d h k z = by (header_in s.geometry q t) refl
  where
    up : d ≤ depth (header_in s.geometry q t)
    up = ((splits s q l).upto t d h k z).1

    by : (hd : Header) → header_in s.geometry q t ≡ hd → (hd ≡ PlainAt d) ⊎ IsGone hd d
    by (PlainAt x) e = let y = ap depth e in ⊎_elim (λ (w : x ≡ d). inl (ap PlainAt w)) (λ (w : x ≢ d). inr (above x w (ap depth e))) (same_or_not x d)
      where
        above : (x : ℕ) → x ≢ d → depth (header_in s.geometry q t) ≡ x → d < x
        above x w y = let u = up in omega arith
    by (SplittingAt x) e = inr (le x (ap depth e))
      where
        le : (x : ℕ) → depth (header_in s.geometry q t) ≡ x → d ≤ x
        le x y = let u = up in omega arith
    by (FillingAt x) e = absurd (z (filling_childless s q l t d h k (subst IsFilling (sym e) tt)))
    by NoHeader e = absurd ((splits s q l).valid t h e)

-- a bucket header is no shallower than its table was born
pub bucket_from : (s : Setting) (q : Past) → Legal s q → (t n : ℕ) → IsTable s.geometry q t → n < 2 * s.geometry.groups → (birth_in s.geometry q t).depth ≤ depth (bucket_in s.geometry q t n)
bucket_from s [] l t n h m = let y = ap depth (opening_head_bucket s.geometry t h n m) in let b = opening_birth_depth s.geometry t h in omega arith
bucket_from s (e ∷ q) l t n h m = ⊎_elim
    (λ (x : IsTable s.geometry q t).
    let ih = bucket_from s q l.0 t n x m in
    let bk = ap (λ (v : Birth). v.depth) (birth_kept s q e l.1 (sound s q l.0) t x) in
    ⊎_elim (λ (y : bucket_in s.geometry (e ∷ q) t n ≡ bucket_in s.geometry q t n). let z = ap depth y in omega arith) (λ y. let z = deeper_on y in omega arith) (bucket_next s q e l.1 (sound s q l.0) t n x m))
    (λ x. let y = ap depth (new_bucket_is s q e l x.1 t n x.0 m) in let z = new_level s q e l.0 l.1 (splits s q l.0) x.1 t x.0 in omega arith)
    (new_table s q e l.0 l.1 t h)
