-- What a lock keeps: facts of a table whose lock the client has, kept by the entries of other clients and by those of its own that
-- use no lock.
use Rattle.std.specs.Prelude.{◌≡◌, ◌≢◌, ℕ, ◌+◌, ◌*◌, ◌<◌, ◌==◌, ◌&&◌, nat_lt, not, true, ◌∷◌, Some, ◌⊎◌, refl}
use Rattle.std.proofs.Common.{sym, ◌∙◌, ap, arith, ⊎_elim, inl, inr}
use Rattle.std.proofs.lemmas.Bool.Decides.{nat_tests}
use Rattle.slot_word.specs.declared.slots.Mark.TheVariants.{Copied, Moved}
use Rattle.node_words.specs.Addresses.{header_at, lock_at, child_at, slot_at, bucket_header_at}
use Rattle.node_words.specs.Roles.{Role, HeaderWord, LockWord, ChildWord, BucketWord, SlotWord}
use Rattle.verb_log.specs.declared.entry.Entry.{Entry}
use Rattle.verb_log.specs.declared.kind.Kind.{Kind}
use Rattle.verb_log.specs.declared.kind.Kind.TheVariants.{Unlock, Link, Copy, Uncopy, Flip, Clear, Finish, Close, Ripen}
use Rattle.verb_log.specs.Decoded.{Body, Empty, Full, content, Header, PlainAt, SplittingAt, FillingAt, header}
use Rattle.verb_log.specs.Fits.{IsAddress}
use Rattle.verb_log.specs.Tables.{Past, word_at, role}
use Rattle.verb_log.specs.Kinds.{kind, kind_of_role, only_if, header_kind, bucket_kind, lock_kind}
use Rattle.race_laws.specs.Setting.{Setting}
use Rattle.race_laws.specs.Standing.{IsTable, header_in, birth_in, lock_in, child_in, bucket_in, place_in, depth}
use Rattle.race_laws.specs.Splits.{IsQuiet}
use Rattle.race_laws.specs.Rows.{IsPlace}
use Rattle.race_laws.specs.Legal.{Legal}
use Rattle.race_laws.proofs.Step.{SlotStep, place, drop, commit, replace, remove, copy, uncopy, flip, settle, clear, HeaderStep, open_it, finish, ripen, BucketStep, begin, close, ripen_bucket, LockStep, lock, unlock}
use Rattle.race_laws.proofs.Sound.{judged_is, Sound}
use Rattle.race_laws.proofs.SoundStep.{sound}
use Rattle.race_laws.proofs.Touch.{touched}
use Rattle.race_laws.proofs.Slots.{slot_is}
use Rattle.race_laws.proofs.Frames.{header_is, lock_is, child_is, bucket_is, header_cases, bucket_cases, lock_cases, child_cases, slot_cases}
use Rattle.race_laws.proofs.Rights.{quiet_by}
use Rattle.log_facts.specs.Beside.{by_lock, uses_lock, Beside, other, mild}

same_true : (d : ℕ) → (d == d) ≡ true
same_true d = grind (arith, nat_tests)

module _ (s : Setting) (q : Past) (e : Entry) (l : Legal s (e ∷ q)) where
  old_is : (x : Header) → header (word_at s.geometry q e.at) ≡ x → header e.old ≡ x
  old_is x h = ap header (sym l.1.stands) ∙ h

  of_role : (r : Role) → role s.geometry q e.at ≡ r → kind s.geometry q e ≡ kind_of_role s.geometry q e r
  of_role r h = ap (kind_of_role s.geometry q e) (judged_is s.geometry q (sound s q l.0) e.at ∙ h)

  finish_kind : (t d : ℕ) → role s.geometry q e.at ≡ HeaderWord t → header (word_at s.geometry q e.at) ≡ SplittingAt d → header e.new ≡ PlainAt (d + 1) → kind s.geometry q e ≡ Some Finish
  finish_kind t d r o n = of_role (HeaderWord t) r ∙ ap (λ v. header_kind v (header e.new)) (old_is (SplittingAt d) o) ∙ ap (λ v. header_kind (SplittingAt d) v) n ∙ ap (λ v. only_if v Finish) (same_true (d + 1))

  ripen_kind : (t d : ℕ) → role s.geometry q e.at ≡ HeaderWord t → header (word_at s.geometry q e.at) ≡ FillingAt d → header e.new ≡ PlainAt d → kind s.geometry q e ≡ Some Ripen
  ripen_kind t d r o n = of_role (HeaderWord t) r ∙ ap (λ v. header_kind v (header e.new)) (old_is (FillingAt d) o) ∙ ap (λ v. header_kind (FillingAt d) v) n ∙ ap (λ v. only_if v Ripen) (same_true d)

  close_kind : (t m d : ℕ) → role s.geometry q e.at ≡ BucketWord t m → header (word_at s.geometry q e.at) ≡ SplittingAt d → header e.new ≡ PlainAt (d + 1) → kind s.geometry q e ≡ Some Close
  close_kind t m d r o n = of_role (BucketWord t m) r ∙ ap (λ v. bucket_kind v (header e.new)) (old_is (SplittingAt d) o) ∙ ap (λ v. bucket_kind (SplittingAt d) v) n ∙ ap (λ v. only_if v Close) (same_true (d + 1))

  ripen_bucket_kind : (t m d : ℕ) → role s.geometry q e.at ≡ BucketWord t m → header (word_at s.geometry q e.at) ≡ FillingAt d → header e.new ≡ PlainAt d → kind s.geometry q e ≡ Some Ripen
  ripen_bucket_kind t m d r o n = of_role (BucketWord t m) r ∙ ap (λ v. bucket_kind v (header e.new)) (old_is (FillingAt d) o) ∙ ap (λ v. bucket_kind (FillingAt d) v) n ∙ ap (λ v. only_if v Ripen) (same_true d)

  pub unlock_kind : (t : ℕ) → role s.geometry q e.at ≡ LockWord t → word_at s.geometry q e.at ≡ e.client + 1 → e.new ≡ 0 → kind s.geometry q e ≡ Some Unlock
  unlock_kind t r o n = of_role (LockWord t) r ∙ by e.old e.new e.client (sym l.1.stands ∙ o) n
    where
      by : (x y z : ℕ) → x ≡ z + 1 → y ≡ 0 → lock_kind (record { client = z; at = e.at; old = x; new = y }) ≡ Some Unlock
      by x y z h k = grind (arith, nat_tests)

  pub link_kind : (t i : ℕ) → role s.geometry q e.at ≡ ChildWord t i → word_at s.geometry q e.at ≡ 0 → IsAddress s.geometry e.new → kind s.geometry q e ≡ Some Link
  link_kind t i r o n = of_role (ChildWord t i) r ∙ by e.old e.new (sym l.1.stands ∙ o) n
    where
      test : (x y w : ℕ) → x ≡ 0 → y ≢ 0 → y < w → ((x == 0) && (not (y == 0) && nat_lt y w)) ≡ true
      test x y w h k m = grind (arith, nat_tests)

      by : (x y : ℕ) → x ≡ 0 → IsAddress s.geometry y → kind_of_role s.geometry q (record { client = e.client; at = e.at; old = x; new = y }) (ChildWord t i) ≡ Some Link
      by x y h k = ap (λ v. only_if v Link) (test x y s.geometry.words h k.0 k.1)

-- an entry beside uses no lock that the client has
pub not_beside : (s : Setting) (c : ℕ) (q : Past) (e : Entry) → Beside s c q e → (w : ℕ) → w ≡ c + 1 → w ≡ e.client + 1 → (k : Kind) → by_lock k ≡ true → kind s.geometry q e ≡ Some k → ⊥
not_beside s c q e (other o) w x y k b h = o (omega arith)
not_beside s c q e (mild m) w x y k b h = let z = sym m ∙ ap uses_lock h ∙ b in absurd (cc)

module _ (s : Setting) (c : ℕ) (q : Past) (e : Entry) (l : Legal s (e ∷ q)) (bs : Beside s c q e) where
  so : Sound s.geometry q
  so = sound s q l.0

  on : (a : ℕ) (r : Role) → role s.geometry q a ≡ r → a ≡ e.at → role s.geometry q e.at ≡ r
  on a r h z = ap (role s.geometry q) (sym z) ∙ h

  pub slot_word_cases : (t p : ℕ) → IsTable s.geometry q t → IsPlace s.geometry p → (word_at s.geometry (e ∷ q) (slot_at t p) ≡ word_at s.geometry q (slot_at t p)) ⊎ ((slot_at t p ≡ e.at) × SlotStep s q e t p)
  slot_word_cases t p h k = touched s q e (slot_at t p) (SlotWord t p) l.1 (judged_is s.geometry q so (slot_at t p) ∙ slot_is s.geometry q so t p h k)

  -- the lock itself, so that an Unlock is never lost
  pub keeps_lock : (t : ℕ) → IsTable s.geometry q t → lock_in s.geometry q t ≡ c + 1 → lock_in s.geometry (e ∷ q) t ≡ c + 1
  keeps_lock t h k = ⊎_elim (λ (x : lock_in s.geometry (e ∷ q) t ≡ lock_in s.geometry q t). x ∙ k) (λ x. absurd (by x.1 x.2)) (lock_cases s q e l.1 so t h)
    where
      by : lock_at t ≡ e.at → LockStep s q e t → ⊥
      by a (lock o n) = let z = ap (word_at s.geometry q) a in omega arith
      by a (unlock o n r) = not_beside s c q e bs (lock_in s.geometry q t) k (ap (word_at s.geometry q) a ∙ o) Unlock refl (unlock_kind s q e l t (on (lock_at t) (LockWord t) (lock_is s.geometry q so t h) a) o n)

  -- each child word, so that a Link is never lost
  pub keeps_child : (t i : ℕ) → IsTable s.geometry q t → i < 16 → lock_in s.geometry q t ≡ c + 1 → child_in s.geometry (e ∷ q) t i ≡ child_in s.geometry q t i
  keeps_child t i h k x = ⊎_elim (λ (y : child_in s.geometry (e ∷ q) t i ≡ child_in s.geometry q t i). y)
      (λ y. absurd (not_beside s c q e bs (lock_in s.geometry q t) x y.4.locked Link refl (link_kind s q e l t i (on (child_at t i) (ChildWord t i) (child_is s.geometry q so t h i k) y.1) (ap (word_at s.geometry q) (sym y.1) ∙ y.2) y.3))) (child_cases s q e l.1 so t h i k)

  -- the header of a splitting table, so that a Finish is never lost
  pub keeps_splitting : (t d : ℕ) → IsTable s.geometry q t → lock_in s.geometry q t ≡ c + 1 → header_in s.geometry q t ≡ SplittingAt d → header_in s.geometry (e ∷ q) t ≡ SplittingAt d
  keeps_splitting t d h k w = ⊎_elim (λ (x : header_in s.geometry (e ∷ q) t ≡ header_in s.geometry q t). x ∙ w) (λ x. absurd (by x.1 x.2)) (header_cases s q e l.1 so t h)
    where
      by : header_at t ≡ e.at → HeaderStep s q e t → ⊥
      by a (open_it f o n r) = let z = ap (λ v. header (word_at s.geometry q v)) a in cc
      by a (finish f o n r) = not_beside s c q e bs (lock_in s.geometry q t) k r.locked Finish refl (finish_kind s q e l t f (on (header_at t) (HeaderWord t) (header_is s.geometry q so t h) a) o n)
      by a (ripen f o n r) = let z = ap (λ v. header (word_at s.geometry q v)) a in cc

  -- a splitting bucket header, so that a Close is never lost
  pub keeps_splitting_bucket : (t m d : ℕ) → IsTable s.geometry q t → m < 2 * s.geometry.groups → lock_in s.geometry q t ≡ c + 1 → bucket_in s.geometry q t m ≡ SplittingAt d → bucket_in s.geometry (e ∷ q) t m ≡ SplittingAt d
  keeps_splitting_bucket t m d h low k w = ⊎_elim (λ (x : bucket_in s.geometry (e ∷ q) t m ≡ bucket_in s.geometry q t m). x ∙ w) (λ x. absurd (by x.1 x.2)) (bucket_cases s q e l.1 so t h m low)
    where
      by : bucket_header_at t m ≡ e.at → BucketStep s q e t → ⊥
      by a (begin f o n r) = let z = ap (λ v. header (word_at s.geometry q v)) a in cc
      by a (close f o n r) = not_beside s c q e bs (lock_in s.geometry q t) k r.locked Close refl (close_kind s q e l t m f (on (bucket_header_at t m) (BucketWord t m) (bucket_is s.geometry q so t h m low) a) o n)
      by a (ripen_bucket f o n r) = let z = ap (λ v. header (word_at s.geometry q v)) a in cc

  -- the headers of a filling table, so that a Ripen is never lost
  pub keeps_filling : (t d : ℕ) → IsTable s.geometry q t → lock_in s.geometry q t ≡ c + 1 → header_in s.geometry q t ≡ FillingAt d → header_in s.geometry (e ∷ q) t ≡ FillingAt d
  keeps_filling t d h k w = ⊎_elim (λ (x : header_in s.geometry (e ∷ q) t ≡ header_in s.geometry q t). x ∙ w) (λ x. absurd (by x.1 x.2)) (header_cases s q e l.1 so t h)
    where
      by : header_at t ≡ e.at → HeaderStep s q e t → ⊥
      by a (open_it f o n r) = let z = ap (λ v. header (word_at s.geometry q v)) a in cc
      by a (finish f o n r) = let z = ap (λ v. header (word_at s.geometry q v)) a in cc
      by a (ripen f o n r) = not_beside s c q e bs (lock_in s.geometry q t) k r.ripens.locked Ripen refl (ripen_kind s q e l t f (on (header_at t) (HeaderWord t) (header_is s.geometry q so t h) a) o n)

  pub keeps_filling_bucket : (t m d : ℕ) → IsTable s.geometry q t → m < 2 * s.geometry.groups → lock_in s.geometry q t ≡ c + 1 → bucket_in s.geometry q t m ≡ FillingAt d → bucket_in s.geometry (e ∷ q) t m ≡ FillingAt d
  keeps_filling_bucket t m d h low k w = ⊎_elim (λ (x : bucket_in s.geometry (e ∷ q) t m ≡ bucket_in s.geometry q t m). x ∙ w) (λ x. absurd (by x.1 x.2)) (bucket_cases s q e l.1 so t h m low)
    where
      by : bucket_header_at t m ≡ e.at → BucketStep s q e t → ⊥
      by a (begin f o n r) = let z = ap (λ v. header (word_at s.geometry q v)) a in cc
      by a (close f o n r) = let z = ap (λ v. header (word_at s.geometry q v)) a in cc
      by a (ripen_bucket f o n r) = not_beside s c q e bs (lock_in s.geometry q t) k r.locked Ripen refl (ripen_bucket_kind s q e l t m f (on (bucket_header_at t m) (BucketWord t m) (bucket_is s.geometry q so t h m low) a) o n)

  -- a moved word, so that a Clear is never lost
  pub keeps_moved : (t p : ℕ) (b : Body) → IsTable s.geometry q t → IsPlace s.geometry p → lock_in s.geometry q t ≡ c + 1 → place_in s.geometry q t p ≡ Full Moved b → place_in s.geometry (e ∷ q) t p ≡ Full Moved b
  keeps_moved t p b h k x w = ⊎_elim (λ (y : place_in s.geometry (e ∷ q) t p ≡ place_in s.geometry q t p). y ∙ w) (λ y. absurd (by y.1 y.2)) (slot_cases s q e l.1 so t h p k)
    where
      by : slot_at t p ≡ e.at → SlotStep s q e t p → ⊥
      by a (place d i o n row) = let z = ap (λ v. content (word_at s.geometry q v)) a in cc
      by a (drop d i o n) = let z = ap (λ v. content (word_at s.geometry q v)) a in cc
      by a (commit d i o n row) = let z = ap (λ v. content (word_at s.geometry q v)) a in cc
      by a (replace d f i o n y row) = let z = ap (λ v. content (word_at s.geometry q v)) a in cc
      by a (remove d i o n row) = let z = ap (λ v. content (word_at s.geometry q v)) a in cc
      by a (copy d i o n row) = ⊎_elim (λ (v : content (word_at s.geometry q e.at) ≡ Empty). let z = ap (λ v. content (word_at s.geometry q v)) a in cc) (λ v. let z = ap (λ v. content (word_at s.geometry q v)) a in let u = v.1 in cc) o
      by a (uncopy d i o n row) = let z = ap (λ v. content (word_at s.geometry q v)) a in cc
      by a (flip d i o n row) = let z = ap (λ v. content (word_at s.geometry q v)) a in cc
      by a (settle d i o n row) = let z = ap (λ v. content (word_at s.geometry q v)) a in cc
      by a (clear d i o n row) = not_beside s c q e bs (lock_in s.geometry q t) x row.locked Clear refl i

  -- a place that is not moved
  abbrev pub Still : Past → ℕ → ℕ → Type 0
  Still z t p = (b : Body) → place_in s.geometry z t p ≢ Full Moved b

  pub keeps_still : (t p : ℕ) → IsTable s.geometry q t → IsPlace s.geometry p → lock_in s.geometry q t ≡ c + 1 → Still q t p → Still (e ∷ q) t p
  keeps_still t p h k x st b w = ⊎_elim (λ (y : place_in s.geometry (e ∷ q) t p ≡ place_in s.geometry q t p). st b (sym y ∙ w)) (λ y. by y.2 (sym y.0 ∙ w)) (slot_cases s q e l.1 so t h p k)
    where
      by : SlotStep s q e t p → content e.new ≡ Full Moved b → ⊥
      by (place d i o n row) v = cc
      by (drop d i o n) v = cc
      by (commit d i o n row) v = cc
      by (replace d f i o n y row) v = cc
      by (remove d i o n row) v = cc
      by (copy d i o n row) v = cc
      by (uncopy d i o n row) v = cc
      by (flip d i o n row) v = not_beside s c q e bs (lock_in s.geometry q t) x row.locked Flip refl i
      by (settle d i o n row) v = cc
      by (clear d i o n row) v = cc

  -- a place of the child that is no copy
  pub keeps_bare : (u p : ℕ) → IsTable s.geometry q u → IsPlace s.geometry p → lock_in s.geometry q (birth_in s.geometry q u).parent ≡ c + 1 → ((b : Body) → place_in s.geometry q u p ≢ Full Copied b) → (b : Body) → place_in s.geometry (e ∷ q) u p ≢ Full Copied b
  keeps_bare u p h k x st b w = ⊎_elim (λ (y : place_in s.geometry (e ∷ q) u p ≡ place_in s.geometry q u p). st b (sym y ∙ w)) (λ y. by y.2 (sym y.0 ∙ w)) (slot_cases s q e l.1 so u h p k)
    where
      by : SlotStep s q e u p → content e.new ≡ Full Copied b → ⊥
      by (place d i o n row) v = cc
      by (drop d i o n) v = cc
      by (commit d i o n row) v = cc
      by (replace d f i o n y row) v = cc
      by (remove d i o n row) v = cc
      by (copy d i o n row) v = not_beside s c q e bs (lock_in s.geometry q (birth_in s.geometry q u).parent) x row.locked Copy refl i
      by (uncopy d i o n row) v = cc
      by (flip d i o n row) v = cc
      by (settle d i o n row) v = cc
      by (clear d i o n row) v = cc

  -- a copy whose place of the parent is not moved, so that an Uncopy and a Copy over it are never lost
  pub keeps_copy : (t p : ℕ) (w0 : ℕ) (b : Body) → IsTable s.geometry q t → IsPlace s.geometry p → lock_in s.geometry q (birth_in s.geometry q t).parent ≡ c + 1 → ((d : Body) → place_in s.geometry q (birth_in s.geometry q t).parent p ≢ Full Moved d) → content w0 ≡ Full Copied b → word_at s.geometry q (slot_at t p) ≡ w0 → word_at s.geometry (e ∷ q) (slot_at t p) ≡ w0
  keeps_copy t p w0 b h k x still cw w = ⊎_elim (λ y. y ∙ w) (λ y. absurd (by y.0 y.1)) (slot_word_cases t p h k)
    where
      st : place_in s.geometry q t p ≡ Full Copied b
      st = ap content w ∙ cw

      by : slot_at t p ≡ e.at → SlotStep s q e t p → ⊥
      by a (place d i o n row) = let z = ap (λ v. content (word_at s.geometry q v)) a in cc
      by a (drop d i o n) = let z = ap (λ v. content (word_at s.geometry q v)) a in cc
      by a (commit d i o n row) = let z = ap (λ v. content (word_at s.geometry q v)) a in cc
      by a (replace d f i o n y row) = let z = ap (λ v. content (word_at s.geometry q v)) a in cc
      by a (remove d i o n row) = let z = ap (λ v. content (word_at s.geometry q v)) a in cc
      by a (copy d i o n row) = not_beside s c q e bs (lock_in s.geometry q (birth_in s.geometry q t).parent) x row.locked Copy refl i
      by a (uncopy d i o n row) = not_beside s c q e bs (lock_in s.geometry q (birth_in s.geometry q t).parent) x row.locked Uncopy refl i
      by a (flip d i o n row) = let z = ap (λ v. content (word_at s.geometry q v)) a in cc
      by a (settle d i o n row) = still row.body row.moved
      by a (clear d i o n row) = let z = ap (λ v. content (word_at s.geometry q v)) a in cc

  -- the copy of a moved block stands, or is settled
  pub keeps_settling : (t p : ℕ) (b : Body) → IsTable s.geometry q t → IsPlace s.geometry p → lock_in s.geometry q (birth_in s.geometry q t).parent ≡ c + 1 → place_in s.geometry q t p ≡ Full Copied b → (place_in s.geometry (e ∷ q) t p ≡ Full Copied b) ⊎ ((d : Body) → place_in s.geometry (e ∷ q) t p ≢ Full Copied d)
  keeps_settling t p b h k x w = ⊎_elim (λ (y : place_in s.geometry (e ∷ q) t p ≡ place_in s.geometry q t p). inl (y ∙ w)) (λ y. inr (λ d v. by y.1 y.2 d (sym y.0 ∙ v))) (slot_cases s q e l.1 so t h p k)
    where
      by : slot_at t p ≡ e.at → SlotStep s q e t p → (d : Body) → content e.new ≡ Full Copied d → ⊥
      by a (place d i o n row) g v = cc
      by a (drop d i o n) g v = cc
      by a (commit d i o n row) g v = cc
      by a (replace d f i o n y row) g v = cc
      by a (remove d i o n row) g v = cc
      by a (copy d i o n row) g v = not_beside s c q e bs (lock_in s.geometry q (birth_in s.geometry q t).parent) x row.locked Copy refl i
      by a (uncopy d i o n row) g v = cc
      by a (flip d i o n row) g v = cc
      by a (settle d i o n row) g v = cc
      by a (clear d i o n row) g v = cc

  -- a table that no split touches
  pub keeps_quiet : (t : ℕ) → IsTable s.geometry q t → lock_in s.geometry q t ≡ c + 1 → IsQuiet s.geometry q t → IsQuiet s.geometry (e ∷ q) t
  keeps_quiet t h k w = quiet_by s q e l t h
      (⊎_elim (λ (x : header_in s.geometry (e ∷ q) t ≡ header_in s.geometry q t). x) (λ x. absurd (by x.1 x.2)) (header_cases s q e l.1 so t h))
      (λ m low. ⊎_elim (λ (x : bucket_in s.geometry (e ∷ q) t m ≡ bucket_in s.geometry q t m). x) (λ x. absurd (by_bucket m low x.1 x.2)) (bucket_cases s q e l.1 so t h m low))
      (λ i low. keeps_child t i h low k) w
    where
      by : header_at t ≡ e.at → HeaderStep s q e t → ⊥
      by a (open_it f o n r) =
          let hd : header_in s.geometry q t ≡ PlainAt f = ap (λ v. header (word_at s.geometry q v)) a ∙ o in
          let dd : depth (header e.old) ≡ f = ap depth (old_is s q e l (PlainAt f) o) in
          let dh = ap depth hd in let low = r.below in let g16 = s.geometry.deep in
          r.linked (ap (child_in s.geometry q t) (dd ∙ sym dh) ∙ w.no_child (omega arith))
      by a (finish f o n r) = not_beside s c q e bs (lock_in s.geometry q t) k r.locked Finish refl (finish_kind s q e l t f (on (header_at t) (HeaderWord t) (header_is s.geometry q so t h) a) o n)
      by a (ripen f o n r) = not_beside s c q e bs (lock_in s.geometry q t) k r.ripens.locked Ripen refl (ripen_kind s q e l t f (on (header_at t) (HeaderWord t) (header_is s.geometry q so t h) a) o n)

      by_bucket : (m : ℕ) → m < 2 * s.geometry.groups → bucket_header_at t m ≡ e.at → BucketStep s q e t → ⊥
      by_bucket m low a (begin f o n r) =
          let bk : bucket_in s.geometry q t m ≡ PlainAt f = ap (λ v. header (word_at s.geometry q v)) a ∙ o in
          let dd : depth (header e.old) ≡ f = ap depth (old_is s q e l (PlainAt f) o) in
          let dh = ap depth (sym (w.buckets m low) ∙ bk) in let below = r.below in let g16 = s.geometry.deep in
          r.linked (ap (child_in s.geometry q t) (dd ∙ sym dh) ∙ w.no_child (omega arith))
      by_bucket m low a (close f o n r) = not_beside s c q e bs (lock_in s.geometry q t) k r.locked Close refl (close_kind s q e l t m f (on (bucket_header_at t m) (BucketWord t m) (bucket_is s.geometry q so t h m low) a) o n)
      by_bucket m low a (ripen_bucket f o n r) = not_beside s c q e bs (lock_in s.geometry q t) k r.locked Ripen refl (ripen_bucket_kind s q e l t m f (on (bucket_header_at t m) (BucketWord t m) (bucket_is s.geometry q so t h m low) a) o n)

  -- a plain header with no child at its depth
  pub keeps_plain : (t d : ℕ) → IsTable s.geometry q t → header_in s.geometry q t ≡ PlainAt d → (d < 16 → child_in s.geometry q t d ≡ 0) → header_in s.geometry (e ∷ q) t ≡ PlainAt d
  keeps_plain t d h w ch = ⊎_elim (λ (x : header_in s.geometry (e ∷ q) t ≡ header_in s.geometry q t). x ∙ w) (λ x. absurd (by x.1 x.2)) (header_cases s q e l.1 so t h)
    where
      by : header_at t ≡ e.at → HeaderStep s q e t → ⊥
      by a (open_it f o n r) =
          let same : f ≡ d = ap depth (sym (ap (λ v. header (word_at s.geometry q v)) a ∙ o) ∙ w) in
          let dd : depth (header e.old) ≡ f = ap depth (old_is s q e l (PlainAt f) o) in
          let low = r.below in let g16 = s.geometry.deep in
          r.linked (ap (child_in s.geometry q t) (dd ∙ same) ∙ ch (omega arith))
      by a (finish f o n r) = let z = ap (λ v. header (word_at s.geometry q v)) a in cc
      by a (ripen f o n r) = let z = ap (λ v. header (word_at s.geometry q v)) a in cc

  pub keeps_plain_bucket : (t m d : ℕ) → IsTable s.geometry q t → m < 2 * s.geometry.groups → bucket_in s.geometry q t m ≡ PlainAt d → (d < 16 → child_in s.geometry q t d ≡ 0) → bucket_in s.geometry (e ∷ q) t m ≡ PlainAt d
  keeps_plain_bucket t m d h low w ch = ⊎_elim (λ (x : bucket_in s.geometry (e ∷ q) t m ≡ bucket_in s.geometry q t m). x ∙ w) (λ x. absurd (by x.1 x.2)) (bucket_cases s q e l.1 so t h m low)
    where
      by : bucket_header_at t m ≡ e.at → BucketStep s q e t → ⊥
      by a (begin f o n r) =
          let same : f ≡ d = ap depth (sym (ap (λ v. header (word_at s.geometry q v)) a ∙ o) ∙ w) in
          let dd : depth (header e.old) ≡ f = ap depth (old_is s q e l (PlainAt f) o) in
          let below = r.below in let g16 = s.geometry.deep in
          r.linked (ap (child_in s.geometry q t) (dd ∙ same) ∙ ch (omega arith))
      by a (close f o n r) = let z = ap (λ v. header (word_at s.geometry q v)) a in cc
      by a (ripen_bucket f o n r) = let z = ap (λ v. header (word_at s.geometry q v)) a in cc
