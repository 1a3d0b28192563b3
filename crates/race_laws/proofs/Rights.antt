-- Locks: a table whose lock is 0 is quiet. No law of the index rests on this file; the swaps that are never lost do, with what
-- others leave of a table whose lock a client has.
use Rattle.std.specs.Prelude.{◌≡◌, ℕ, ◌+◌, ◌*◌, ◌<◌, ◌≤◌, [], ◌∷◌, refl}
use Rattle.std.proofs.Common.{sym, ◌∙◌, ap, subst, arith, ⊎_elim}
use Rattle.slot_word.specs.declared.births.Birth.{Birth}
use Rattle.node_words.specs.Addresses.{header_at, lock_at, bucket_header_at}
use Rattle.verb_log.specs.declared.entry.Entry.{Entry}
use Rattle.verb_log.specs.Decoded.{Header, PlainAt, header}
use Rattle.verb_log.specs.Tables.{Past, word_at}
use Rattle.race_laws.specs.Setting.{Setting}
use Rattle.race_laws.specs.Standing.{IsTable, header_in, birth_in, lock_in, child_in, bucket_in, depth, IsFilling, IsPlain}
use Rattle.race_laws.specs.Chains.{OnChain}
use Rattle.race_laws.specs.Splits.{IsQuiet}
use Rattle.race_laws.specs.Legal.{Legal}
use Rattle.race_laws.proofs.Step.{HeaderStep, open_it, finish, ripen, BucketStep, begin, close, ripen_bucket, LockStep, lock, unlock}
use Rattle.race_laws.proofs.Touch.{word_put}
use Rattle.race_laws.proofs.Sound.{Sound}
use Rattle.race_laws.proofs.SoundStep.{sound}
use Rattle.race_laws.proofs.Frames.{birth_kept, header_cases, bucket_cases, lock_cases, child_cases, child_stays}
use Rattle.race_laws.proofs.Finality.{filling_on, header_next}
use Rattle.race_laws.proofs.Splits.{Splits, Linked, new_table, new_word}
use Rattle.race_laws.proofs.Opening.{splits, opening_quiet}
use Rattle.race_laws.proofs.Chain.{born_at, chain_table}

-- a chain ends within the greatest depth: each of its tables was born no deeper
pub chain_depth : (s : Setting) (q : Past) → Legal s q → (h t : ℕ) → OnChain s.geometry q h t → born_at s.geometry q t ≤ s.geometry.max_depth
chain_depth s q l h t c =
    let sp = splits s q l in
    let tb = chain_table s q l h t c in
    let a = sp.from t tb in
    let b = sp.deep t tb in
    omega arith

-- what an entry does to a table whose lock is 0 before and after it
module _ (s : Setting) (q : Past) (e : Entry) (l : Legal s (e ∷ q)) (t : ℕ) (h : IsTable s.geometry q t) where
  so : Sound s.geometry q
  so = sound s q l.0

  sp : Splits s.geometry q
  sp = splits s q l.0

  locked_by : lock_in s.geometry q t ≡ 0 → (c : ℕ) → lock_in s.geometry q t ≡ c + 1 → ⊥
  locked_by z c k = omega arith

  old_header : header_at t ≡ e.at → (x : Header) → header (word_at s.geometry q e.at) ≡ x → header_in s.geometry q t ≡ x
  old_header a x o = ap (λ v. header (word_at s.geometry q v)) a ∙ o

  depth_old : (d : ℕ) (x : Header) → header (word_at s.geometry q e.at) ≡ x → depth (header e.old) ≡ depth x
  depth_old d x o = ap depth (ap header (sym l.1.stands) ∙ o)

  quiet_header : lock_in s.geometry q t ≡ 0 → IsQuiet s.geometry q t → header_at t ≡ e.at → HeaderStep s q e t → ⊥
  quiet_header z w a (open_it d o n r) =
      let hd = old_header a (PlainAt d) o in
      let dd = depth_old d (PlainAt d) o in
      let low = r.below in
      let g16 = s.geometry.deep in
      let dh = ap depth hd in
      r.linked (ap (child_in s.geometry q t) (dd ∙ sym dh) ∙ w.no_child (omega arith))
  quiet_header z w a (finish d o n r) = locked_by z e.client r.locked
  quiet_header z w a (ripen d o n r) = locked_by z e.client r.ripens.locked

  quiet_bucket : lock_in s.geometry q t ≡ 0 → IsQuiet s.geometry q t → (m : ℕ) → m < 2 * s.geometry.groups → bucket_header_at t m ≡ e.at → BucketStep s q e t → ⊥
  quiet_bucket z w m k a (begin d o n r) =
      let bk : bucket_in s.geometry q t m ≡ PlainAt d = ap (λ v. header (word_at s.geometry q v)) a ∙ o in
      let hd = sym (w.buckets m k) ∙ bk in
      let dd = depth_old d (PlainAt d) o in
      let low = r.below in
      let g16 = s.geometry.deep in
      let dh = ap depth hd in
      r.linked (ap (child_in s.geometry q t) (dd ∙ sym dh) ∙ w.no_child (omega arith))
  quiet_bucket z w m k a (close d o n r) = locked_by z e.client r.locked
  quiet_bucket z w m k a (ripen_bucket d o n r) = locked_by z e.client r.locked

  header_quiet : lock_in s.geometry q t ≡ 0 → IsQuiet s.geometry q t → header_in s.geometry (e ∷ q) t ≡ header_in s.geometry q t
  header_quiet z w = ⊎_elim (λ (x : header_in s.geometry (e ∷ q) t ≡ header_in s.geometry q t). x) (λ x. absurd (quiet_header z w x.1 x.2)) (header_cases s q e l.1 so t h)

  bucket_quiet : lock_in s.geometry q t ≡ 0 → IsQuiet s.geometry q t → (m : ℕ) → m < 2 * s.geometry.groups → bucket_in s.geometry (e ∷ q) t m ≡ bucket_in s.geometry q t m
  bucket_quiet z w m k = ⊎_elim (λ (x : bucket_in s.geometry (e ∷ q) t m ≡ bucket_in s.geometry q t m). x) (λ x. absurd (quiet_bucket z w m k x.1 x.2)) (bucket_cases s q e l.1 so t h m k)

  child_quiet : lock_in s.geometry q t ≡ 0 → (i : ℕ) → i < 16 → child_in s.geometry (e ∷ q) t i ≡ child_in s.geometry q t i
  child_quiet z i k = ⊎_elim (λ (x : child_in s.geometry (e ∷ q) t i ≡ child_in s.geometry q t i). x) (λ x. absurd (locked_by z e.client x.4.locked)) (child_cases s q e l.1 so t h i k)

  -- a quiet table of which an entry leaves the header, the bucket headers and the child words stays quiet
  pub quiet_by : header_in s.geometry (e ∷ q) t ≡ header_in s.geometry q t → ((m : ℕ) → m < 2 * s.geometry.groups → bucket_in s.geometry (e ∷ q) t m ≡ bucket_in s.geometry q t m) → ((i : ℕ) → i < 16 → child_in s.geometry (e ∷ q) t i ≡ child_in s.geometry q t i) → IsQuiet s.geometry q t → IsQuiet s.geometry (e ∷ q) t
  quiet_by hq bq cq w =
      let dq = ap depth hq in
      record {
        plain = subst IsPlain (sym hq) w.plain;
        buckets = λ m k. bq m k ∙ w.buckets m k ∙ sym hq;
        no_child = λ k. ap (child_in s.geometry (e ∷ q) t) dq ∙ cq (depth (header_in s.geometry q t)) (omega arith) ∙ w.no_child (omega arith);
        ripe = λ d k b f. ripe_now w d (sym dq ∙ k) b f;
      }
    where
      ripe_now : IsQuiet s.geometry q t → (d : ℕ) → depth (header_in s.geometry q t) ≡ d + 1 → (birth_in s.geometry (e ∷ q) t).depth ≤ d → IsFilling (header_in s.geometry (e ∷ q) (child_in s.geometry (e ∷ q) t d)) → ⊥
      ripe_now w d k b f =
          let same = ap (λ (x : Birth). x.depth) (birth_kept s q e l.1 so t h) in
          let deep = sp.deep t h in
          let g16 = s.geometry.deep in
          let small : d < 16 = omega arith in
          let set = sp.all_below t d h (omega arith) (omega arith) in
          let ch = child_stays s q e l.1 so t h d small set in
          let born = sp.born t d (child_in s.geometry q t d) h small refl set in
          w.ripe d k (omega arith) (not_filled (child_in s.geometry q t d) born.table (subst (λ v. IsFilling (header_in s.geometry (e ∷ q) v)) ch f))
        where
          not_filled : (c : ℕ) → IsTable s.geometry q c → IsFilling (header_in s.geometry (e ∷ q) c) → IsFilling (header_in s.geometry q c)
          not_filled c tc f = ⊎_elim (λ (x : header_in s.geometry (e ∷ q) c ≡ header_in s.geometry q c). subst IsFilling x f) (λ x. filling_on x f) (header_next s q e l.1 so c tc)

  quiet_stays : lock_in s.geometry q t ≡ 0 → IsQuiet s.geometry q t → IsQuiet s.geometry (e ∷ q) t
  quiet_stays z w = quiet_by (header_quiet z w) (λ m k. bucket_quiet z w m k) (λ i k. child_quiet z i k) w

  -- an unlock leaves what it found
  unlocked_now : lock_at t ≡ e.at → LockStep s q e t → lock_in s.geometry (e ∷ q) t ≡ 0 → IsQuiet s.geometry (e ∷ q) t
  unlocked_now a (lock o n) z = let w = word_put s.geometry q e (lock_at t) a in absurd (omega arith)
  unlocked_now a (unlock o n r) z = quiet_by
      (⊎_elim (λ (x : header_in s.geometry (e ∷ q) t ≡ header_in s.geometry q t). x) (λ x. let y = x.1 in absurd (omega arith)) (header_cases s q e l.1 so t h))
      (λ m k. ⊎_elim (λ (x : bucket_in s.geometry (e ∷ q) t m ≡ bucket_in s.geometry q t m). x) (λ x. let y = x.1 in absurd (omega arith)) (bucket_cases s q e l.1 so t h m k))
      (λ i k. ⊎_elim (λ (x : child_in s.geometry (e ∷ q) t i ≡ child_in s.geometry q t i). x) (λ x. let y = x.1 in absurd (omega arith)) (child_cases s q e l.1 so t h i k))
      r.quiet

-- a new table is locked
new_locked : (s : Setting) (q : Past) (e : Entry) (l : Legal s (e ∷ q)) → (k : Linked s q e) → lock_in s.geometry (e ∷ q) e.new ≡ e.client + 1
new_locked s q e l k = new_word s q e l.0 l.1 k 2 (omega arith) ∙ k.row.own_lock

-- a table whose lock is 0 is quiet
pub unlocked_quiet : (s : Setting) (q : Past) → Legal s q → (t : ℕ) → IsTable s.geometry q t → lock_in s.geometry q t ≡ 0 → IsQuiet s.geometry q t
unlocked_quiet s [] l t h z = opening_quiet s.geometry t h
unlocked_quiet s (e ∷ q) l t h z = ⊎_elim
    (λ (x : IsTable s.geometry q t). ⊎_elim
    (λ (y : lock_in s.geometry (e ∷ q) t ≡ lock_in s.geometry q t). quiet_stays s q e l t x (sym y ∙ z) (unlocked_quiet s q l.0 t x (sym y ∙ z)))
    (λ y. unlocked_now s q e l t x y.1 y.2 z) (lock_cases s q e l.1 (sound s q l.0) t x))
    (λ x. let y = ap (lock_in s.geometry (e ∷ q)) x.0 ∙ new_locked s q e l x.1 in absurd (omega arith))
    (new_table s q e l.0 l.1 t h)
