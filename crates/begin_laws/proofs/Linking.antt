-- Link of a child whose words are stored.
use Rattle.std.specs.Prelude.{◌≡◌, ◌≢◌, ℕ, zero, suc, ◌+◌, ◌*◌, ◌/◌, ◌%◌, ◌^◌, ◌<◌, ◌≤◌, ◌∷◌, refl}
use Rattle.std.proofs.Common.{sym, ◌∙◌, ap, subst, arith}
use Rattle.std.proofs.lemmas.Bool.Decides.{nat_tests}
use Rattle.std.proofs.lemmas.Nat.{pow-add}
use Rattle.slot_word.specs.declared.births.Birth.{Birth}
use Rattle.slot_word.specs.Births.{birth_word}
use Rattle.node_words.specs.Addresses.{node_of, table_words, lock_at, child_at, bucket_header_at}
use Rattle.node_words.specs.Roles.{ChildWord, HeapWord}
use Rattle.node_words.proofs.Sizes.{first_free_low}
use Rattle.verb_log.specs.declared.entry.Entry.{Entry}
use Rattle.verb_log.specs.Decoded.{PlainAt, FillingAt, header, birth}
use Rattle.verb_log.specs.Fits.{IsAddress}
use Rattle.verb_log.specs.Tables.{Past, word_at, role}
use Rattle.race_laws.specs.Setting.{Setting}
use Rattle.race_laws.specs.Standing.{IsTable, header_in, birth_in, lock_in, child_in, bucket_in, depth}
use Rattle.race_laws.specs.Splits.{IsQuiet}
use Rattle.race_laws.specs.Rows.{IsNewborn}
use Rattle.race_laws.specs.Legal.{Meets, Legal}
use Rattle.race_laws.proofs.Touch.{word_put, table_stays, taken_by_someone}
use Rattle.race_laws.proofs.Regions.{base_low}
use Rattle.race_laws.proofs.SoundStep.{sound}
use Rattle.race_laws.proofs.Frames.{child_is, birth_kept}
use Rattle.log_facts.specs.Since.{change_in}
use Rattle.log_facts.specs.Beside.{Firm}
use Rattle.log_facts.specs.Entries.{Unchanging}
use Rattle.log_facts.proofs.Apart.{word_apart, header_same, lock_same}
use Rattle.log_facts.proofs.Following.{link_meets}
use Rattle.log_facts.proofs.HeadWords.{says_filling}
use Rattle.log_facts.proofs.Keeps.{keeps_lock, keeps_quiet, keeps_plain}
use Rattle.log_facts.proofs.Mine.{mine_heap}
use Rattle.log_facts.proofs.Unchanging.{child_unchanging}
use Rattle.log_facts.proofs.Within.{table_within, taken_within, child_low}
use Rattle.pass_laws.specs.SafeIn.{SafeBy}
use Rattle.split_text.specs.declared.site.Site.{Site}
use Rattle.split_text.specs.declared.site.SplitJob.{SplitJob}
use Rattle.split_text.specs.declared.begun.BeginOutcome.TheVariants.{Begun}
use Rattle.split_text.specs.declared.begun.BeginEnd.{BeginEnd}
use Rattle.split_text.specs.Words.{filling_of}
use Rattle.split_text.specs.Begin.{begins, link, write_buckets, write_lock, write_header, write_child}
use Rattle.begin_laws.specs.States.{Fresh, Untouched}
use Rattle.begin_laws.proofs.Untouched.{Away, untouched_link, modest_free}
use Rattle.begin_laws.proofs.Opening.{Ready, plain_ready, begins_safe}
use Rattle.begin_laws.proofs.Storing.{put, bucket_offset, put_buckets, bucket_put, bucket_none, Stored, stored_since, store_safe, blank_not, says_birth}

-- the client has the lock of a quiet table with this depth, whose suffix is known
pub record Held (s : Setting) (c t d suffix : ℕ) (q : Past) : Type 0 where
  pub table : IsTable s.geometry q t
  pub lock : lock_in s.geometry q t ≡ c + 1
  pub quiet : IsQuiet s.geometry q t
  pub head : header_in s.geometry q t ≡ PlainAt d
  pub suffix_is : (birth_in s.geometry q t).suffix ≡ suffix

module _ (s : Setting) (c t d suffix : ℕ) where
  -- a quiet table has no child at its depth
  held_childless : (q : Past) → IsQuiet s.geometry q t → header_in s.geometry q t ≡ PlainAt d → d < 16 → child_in s.geometry q t d ≡ 0
  held_childless q w h k = ap (child_in s.geometry q t) (sym (ap depth h)) ∙ w.no_child (subst (λ v. depth v < 16) (sym h) k)

  pub held_firm : Firm s c (Held s c t d suffix)
  held_firm q e l bs h = record {
    table = table_stays s.geometry q e t t h.table;
    lock = keeps_lock s c q e l bs t h.table h.lock;
    quiet = keeps_quiet s c q e l bs t h.table h.lock h.quiet;
    head = keeps_plain s c q e l bs t d h.table h.head (held_childless q h.quiet h.head);
    suffix_is = ap (λ (v : Birth). v.suffix) (birth_kept s q e l.1 (sound s q l.0) t h.table) ∙ h.suffix_is;
  }

  module _ (from : Past) (u : ℕ) (low : d < s.geometry.max_depth) (bits : suffix < 2 ^ d) where
    abbrev site : Site
    site = record { table = t; depth = d; child = u; suffix = suffix + 2 ^ d }

    abbrev child_birth : Birth
    child_birth = record { depth = d + 1; suffix = suffix + 2 ^ d; parent = t }

    -- the words of the child, before its bucket headers and with them
    abbrev top_words : ℕ → ℕ
    top_words = put 2 (c + 1) (put 1 (filling_of (d + 1)) (put 0 (birth_word child_birth) (λ o. 0)))

    abbrev child_words : ℕ → ℕ
    child_words = put_buckets (filling_of (d + 1)) (2 * s.geometry.groups) 0 top_words

    abbrev Full : Past → Type 0
    Full = Stored s c from u (Held s c t d suffix) child_words

    far : (m o : ℕ) → o < 20 → o ≢ bucket_offset m
    far m o k e = omega arith

    word0 : child_words 0 ≡ birth_word child_birth
    word0 = bucket_none (filling_of (d + 1)) (2 * s.geometry.groups) 0 top_words 0 (λ m. far m 0 (omega arith))

    word1 : child_words 1 ≡ filling_of (d + 1)
    word1 = bucket_none (filling_of (d + 1)) (2 * s.geometry.groups) 0 top_words 1 (λ m. far m 1 (omega arith))

    word2 : child_words 2 ≡ c + 1
    word2 = bucket_none (filling_of (d + 1)) (2 * s.geometry.groups) 0 top_words 2 (λ m. far m 2 (omega arith))

    blank_word : (o : ℕ) → o ≢ 0 → o ≢ 1 → o ≢ 2 → ((m : ℕ) → o ≢ bucket_offset m) → child_words o ≡ 0
    blank_word o a b x f = bucket_none (filling_of (d + 1)) (2 * s.geometry.groups) 0 top_words o f ∙ by o a b x
      where
        by : (o : ℕ) → o ≢ 0 → o ≢ 1 → o ≢ 2 → put 2 (c + 1) (put 1 (filling_of (d + 1)) (put 0 (birth_word child_birth) (λ o. 0))) o ≡ 0
        by o a b x = grind (arith, nat_tests)

    -- Link may follow
    module _ (z : Past) (l : Legal s z) (h : Full z) where
      d16 : d < 16
      d16 = let x = s.geometry.deep in omega arith

      plus0 : (x : ℕ) → x + 0 ≡ x
      plus0 x = omega arith

      birth_now : birth_in s.geometry z u ≡ child_birth
      birth_now =
          let w : word_at s.geometry z u ≡ birth_word child_birth = ap (word_at s.geometry z) (sym (plus0 u)) ∙ h.words 0 (omega arith) ∙ word0 in
          let tw = table_within s.geometry z (sound s z l) t 2 h.held.table (omega arith) in
          let within = s.geometry.within in
          let two : 2 ^ (d + 1) ≡ 2 ^ d * 2 = pow-add 2 d 1 in
          let x = d16 in
          ap birth w ∙ says_birth child_birth (omega arith) (omega arith) (omega arith)

      head_now : header_in s.geometry z u ≡ FillingAt (d + 1)
      head_now = let x = d16 in ap header (h.words 1 (omega arith) ∙ word1) ∙ says_filling (d + 1) (omega arith)

      lock_now : lock_in s.geometry z u ≡ c + 1
      lock_now = h.words 2 (omega arith) ∙ word2

      bucket_now : (m : ℕ) → m < 2 * s.geometry.groups → bucket_in s.geometry z u m ≡ FillingAt (d + 1)
      bucket_now m k =
          let x = d16 in
          ap header (ap (word_at s.geometry z) (sym (there u m)) ∙ h.words (bucket_offset m) (within m k) ∙ bucket_put (filling_of (d + 1)) (2 * s.geometry.groups) 0 top_words m (omega arith) (omega arith)) ∙ says_filling (d + 1) (omega arith)
        where
          there : (t m : ℕ) → t + (20 + 24 * (m / 2) + 16 * (m % 2)) ≡ bucket_header_at t m
          there t m = omega arith

          within : (m : ℕ) → m < 2 * s.geometry.groups → 20 + 24 * (m / 2) + 16 * (m % 2) < table_words s.geometry
          within m k = omega arith

      newborn : IsNewborn s.geometry z t d u
      newborn = record {
        birth_depth = ap (λ (v : Birth). v.depth) birth_now;
        birth_suffix = ap (λ (v : Birth). v.suffix) birth_now ∙ ap (λ v. v + 2 ^ d) (sym h.held.suffix_is);
        birth_parent = ap (λ (v : Birth). v.parent) birth_now;
        head = head_now;
        buckets = bucket_now;
        blank = λ o k b. let n = blank_not s.geometry u o b in h.words o k ∙ blank_word o n.0 n.1 n.2 n.3;
      }

      child_none : child_in s.geometry z t d ≡ 0
      child_none = held_childless z h.held.quiet h.held.head d16

      some : u ≢ 0
      some =
          let t0 = (sound s z l).taken u (taken_by_someone s.geometry z c u (h.mine.taken u (omega arith) (omega arith))) in
          let from = t0.from in
          let b = base_low s.geometry (node_of s.geometry u) in
          let f = first_free_low s.geometry in
          above u (omega arith)
        where
          above : (x : ℕ) → 1 ≤ x → x ≢ 0
          above x k e = omega arith

      abbrev linking : Entry
      linking = change_in s.geometry c z (child_at t d) u

      address : IsAddress s.geometry u
      address = let tk = (sound s z l).taken u (taken_by_someone s.geometry z c u (h.mine.taken u (omega arith) (omega arith))) in (some, taken_within s.geometry z (sound s z l) u (node_of s.geometry u) refl tk.node tk.to)

      linked_meets : Meets s z (change_in s.geometry c z (child_at t d) u)
      linked_meets = link_meets s c z l t d u h.held.table d16 child_none address (record {
        quiet = h.held.quiet;
        level = h.held.head;
        below = low;
        newborn = newborn;
        unpublished = h.mine.hidden;
        taken = h.mine.taken;
        own_lock = lock_now;
        locked = h.held.lock;
      })

      on_child : role s.geometry z (child_at t d) ≡ ChildWord t d
      on_child = child_is s.geometry z (sound s z l) t h.held.table d d16

      linked_ready : Ready s c site (change_in s.geometry c z (child_at t d) u ∷ z)
      linked_ready =
          let lm : Legal s (linking ∷ z) = (l, linked_meets) in
          plain_ready s c site (linking ∷ z) lm
          (record {
            table = table_stays s.geometry z linking t t h.held.table;
            lock = lock_same s z linking lm (ChildWord t d) on_child t h.held.table (λ x. cc) ∙ h.held.lock;
            below = low;
            link = word_put s.geometry z linking (child_at t d) refl;
            some = some;
            child_lock = word_apart s z linking (lock_at u) HeapWord (ChildWord t d) (mine_heap s z l c u (table_words s.geometry) (lock_at u) h.mine (omega arith) (omega arith)) on_child (λ x. cc) ∙ lock_now;
            suffix = ap (λ v. v + 2 ^ d) (sym (ap (λ (v : Birth). v.suffix) (birth_kept s z linking linked_meets (sound s z l) t h.held.table) ∙ h.held.suffix_is));
          })
          (header_same s z linking lm (ChildWord t d) on_child t h.held.table (λ x. cc) ∙ h.held.head)

    module _ (t0 x0 : ℕ) (End : Past → BeginEnd → Type 0) (away : Away s c from u) (left : ℕ) (f : (z : Past) → Legal s z → Fresh s c site z → End z (record { outcome = Begun u; left = left })) where
      abbrev job : SplitJob
      job = record { geometry = s.geometry; client = c; table = t0; depth = d; suffix = x0 }

      abbrev Ends : Past → BeginEnd → Type 0
      Ends q e = End q e × Untouched s c from q

      pub link_safe : (q : Past) → Legal s q → Full q → SafeBy Unchanging s c q (link job site left) Ends
      link_safe q l h = (
        child_low s q l t h.held.table d (let x = s.geometry.deep in omega arith),
        λ z lz sz.
            let hz = stored_since s c from u (Held s c t d suffix) held_firm child_words sz lz h in (
              (λ now. (
                (linked_meets z lz hz, child_unchanging s c z lz t d u hz.held.table (let x = s.geometry.deep in omega arith)),
                modest_free s c from (change_in s.geometry c z (child_at t d) u ∷ z) (begins job site left (2 * s.geometry.groups) 0) End
                    (untouched_link s c from u away t d z (change_in s.geometry c z (child_at t d) u) (lz, linked_meets z lz hz) (on_child z lz hz) refl hz.keep)
                    (begins_safe s c site job left End f (2 * s.geometry.groups) 0 (plus1 (2 * s.geometry.groups)) (change_in s.geometry c z (child_at t d) u ∷ z) (lz, linked_meets z lz hz) (linked_ready z lz hz) (λ k low2 b. absurd (omega arith))),
              )),
              (λ other. absurd (other (child_none z lz hz))),
            ),
      )
        where
          plus1 : (x : ℕ) → 0 + x ≡ x
          plus1 x = omega arith

      buckets_safe : (n m : ℕ) (g : ℕ → ℕ) → m + n ≡ 2 * s.geometry.groups → ((z : Past) → Legal s z → Stored s c from u (Held s c t d suffix) (put_buckets (filling_of (d + 1)) n m g) z → SafeBy Unchanging s c z (link job site left) Ends) → (q : Past) → Legal s q → Stored s c from u (Held s c t d suffix) g q → SafeBy Unchanging s c q (write_buckets job site left n m) Ends
      buckets_safe zero m g all next q l h = next q l h
      buckets_safe (suc n) m g all next q l h = store_safe s c from u (Held s c t d suffix) held_firm Ends away g (bucket_header_at u m) (bucket_offset m) (filling_of (d + 1)) (there u m) (within m (omega arith)) (write_buckets job site left n (m + 1))
          (λ z lz hz. buckets_safe n (m + 1) (put (bucket_offset m) (filling_of (d + 1)) g) (omega arith) next z lz hz) q l h
        where
          there : (t m : ℕ) → t + (20 + 24 * (m / 2) + 16 * (m % 2)) ≡ bucket_header_at t m
          there t m = omega arith

          within : (m : ℕ) → m < 2 * s.geometry.groups → 20 + 24 * (m / 2) + 16 * (m % 2) < table_words s.geometry
          within m k = omega arith

      -- the words of the child are written into words that are 0, and the child is linked
      pub write_child_safe : (q : Past) → Legal s q → Stored s c from u (Held s c t d suffix) (λ o. 0) q → SafeBy Unchanging s c q (write_child job site left) Ends
      write_child_safe q l h =
          store_safe s c from u (Held s c t d suffix) held_firm Ends away (λ o. 0) u 0 (birth_word child_birth) (plus u) (omega arith) (write_header job site left)
          (λ z lz hz. store_safe s c from u (Held s c t d suffix) held_firm Ends away (put 0 (birth_word child_birth) (λ o. 0)) (u + 1) 1 (filling_of (d + 1)) refl (omega arith) (write_lock job site left)
          (λ y ly hy. store_safe s c from u (Held s c t d suffix) held_firm Ends away (put 1 (filling_of (d + 1)) (put 0 (birth_word child_birth) (λ o. 0))) (u + 2) 2 (c + 1) refl (omega arith) (write_buckets job site left (2 * s.geometry.groups) 0)
          (λ x lx hx. buckets_safe (2 * s.geometry.groups) 0 top_words (zero_plus (2 * s.geometry.groups)) (λ w lw hw. link_safe w lw hw) x lx hx)
          y ly hy) z lz hz) q l h
        where
          plus : (x : ℕ) → x + 0 ≡ x
          plus x = omega arith

          zero_plus : (x : ℕ) → 0 + x ≡ x
          zero_plus x = omega arith
