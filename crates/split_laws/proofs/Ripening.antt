-- Ripen of the child, and Unlock of both.
use Rattle.log_facts.proofs.Modest.{lock_modest, header_modest, bucket_modest}
use Rattle.std.specs.Prelude.{◌≡◌, ◌≢◌, ℕ, ◌+◌, ◌*◌, ◌<◌, ◌≤◌, ◌==◌, true, zero, suc, ◌∷◌, Some, refl}
use Rattle.std.proofs.Common.{sym, ◌∙◌, ap, subst, arith, ⊎_elim}
use Rattle.std.proofs.lemmas.Bool.Decides.{nat_tests}
use Rattle.slot_word.specs.declared.births.Birth.{Birth}
use Rattle.node_words.specs.Addresses.{header_at, lock_at, bucket_header_at}
use Rattle.node_words.specs.Roles.{HeaderWord, LockWord, BucketWord}
use Rattle.verb_log.specs.declared.entry.Entry.{Entry}
use Rattle.verb_log.specs.declared.kind.Kind.TheVariants.{Ripen}
use Rattle.verb_log.specs.Decoded.{PlainAt, FillingAt, header}
use Rattle.verb_log.specs.Tables.{Past, Before, here, later, word_at, role}
use Rattle.verb_log.specs.Kinds.{only_if}
use Rattle.race_laws.specs.Setting.{Setting}
use Rattle.race_laws.specs.Standing.{IsTable, header_in, birth_in, lock_in, child_in, bucket_in, depth, IsFilling, IsPlain}
use Rattle.race_laws.specs.Splits.{IsQuiet}
use Rattle.race_laws.specs.Legal.{Meets, Legal}
use Rattle.race_laws.proofs.Touch.{word_put, same_or_not, table_stays}
use Rattle.race_laws.proofs.SoundStep.{sound}
use Rattle.race_laws.proofs.Frames.{header_is, lock_is, bucket_is, birth_kept}
use Rattle.race_laws.proofs.Splits.{Born}
use Rattle.race_laws.proofs.Finality.{deeper_before}
use Rattle.log_facts.specs.Since.{change_in}
use Rattle.pass_laws.specs.SafeIn.{SafeBy}
use Rattle.begin_laws.specs.States.{Modestly}
use Rattle.log_facts.proofs.Heads.{filling_childless}
use Rattle.race_laws.proofs.Finality.{bucket_keeps, deeper_on}
use Rattle.log_facts.proofs.Within.{header_low, bucket_low}
use Rattle.split_text.specs.declared.site.Site.{Site}
use Rattle.log_facts.specs.Beside.{Firm}
use Rattle.move_laws.specs.States.{Going}
use Rattle.split_text.specs.declared.resized.ResizeOutcome.TheVariants.{Split}
use Rattle.split_text.specs.declared.resized.ResizeEnd.{ResizeEnd}
use Rattle.split_text.specs.Words.{plain_of, filling_of}
use Rattle.split_text.specs.Begin.{unlock}
use Rattle.split_text.specs.Text.{resized, unlocks, ripen}
use Rattle.node_words.specs.declared.geometry.Geometry.{Geometry}
use Rattle.directory.specs.declared.naming.Named.{Named}
use Rattle.directory.specs.declared.naming.Naming.{Naming}
use Rattle.directory.specs.Law.{HasNamed}
use Rattle.directory.proofs.Child.{named_later}
use Rattle.verb_log.proofs.Positions.{Before-trans}
use Rattle.log_facts.specs.Since.{Since}
use Rattle.log_facts.proofs.Growing.{since_before}
use Rattle.split_text.specs.Words.{naming_of}
use Rattle.split_laws.specs.Law.{SplitBy}
use Rattle.log_facts.proofs.Mild.{firm_on}
use Rattle.log_facts.proofs.Keeps.{keeps_lock, keeps_child, keeps_filling, keeps_filling_bucket, keeps_plain, keeps_plain_bucket, unlock_kind}
use Rattle.move_laws.proofs.Stable.{going_born, going_firm}
use Rattle.log_facts.proofs.Apart.{header_same, lock_same, child_same, bucket_same}
use Rattle.move_laws.proofs.Sites.{going_own}
use Rattle.log_facts.proofs.Following.{header_meets, bucket_meets, unlock_meets, lock_low}
use Rattle.split_laws.proofs.Sure.{sure_safe}
use Rattle.log_facts.proofs.HeadWords.{says_plain, is_filling}
use Rattle.move_laws.proofs.Sites.{child_apart}
use Rattle.split_laws.proofs.Closing.{Closing, deep}

-- the table is done with; the bucket headers of the child from number i on are to ripen, those below have
pub record Ripening (s : Setting) (c : ℕ) (site : Site) (i : ℕ) (q : Past) : Type 0 where
  pub going : Going s c site q
  pub head : header_in s.geometry q site.table ≡ PlainAt (site.depth + 1)
  pub next : site.depth + 1 < 16 → child_in s.geometry q site.table (site.depth + 1) ≡ 0
  pub closed : (m : ℕ) → m < 2 * s.geometry.groups → bucket_in s.geometry q site.table m ≡ PlainAt (site.depth + 1)
  pub fills : header_in s.geometry q site.child ≡ FillingAt (site.depth + 1)
  pub to_ripen : (m : ℕ) → m < 2 * s.geometry.groups → i ≤ m → bucket_in s.geometry q site.child m ≡ FillingAt (site.depth + 1)
  pub ripened : (m : ℕ) → m < 2 * s.geometry.groups → m < i → bucket_in s.geometry q site.child m ≡ PlainAt (site.depth + 1)

-- both tables are done with, and locked
pub record Ripe (s : Setting) (c : ℕ) (site : Site) (q : Past) : Type 0 where
  pub going : Going s c site q
  pub head : header_in s.geometry q site.table ≡ PlainAt (site.depth + 1)
  pub next : site.depth + 1 < 16 → child_in s.geometry q site.table (site.depth + 1) ≡ 0
  pub closed : (m : ℕ) → m < 2 * s.geometry.groups → bucket_in s.geometry q site.table m ≡ PlainAt (site.depth + 1)
  pub child_head : header_in s.geometry q site.child ≡ PlainAt (site.depth + 1)
  pub child_next : site.depth + 1 < 16 → child_in s.geometry q site.child (site.depth + 1) ≡ 0
  pub child_closed : (m : ℕ) → m < 2 * s.geometry.groups → bucket_in s.geometry q site.child m ≡ PlainAt (site.depth + 1)

-- the child alone is locked still
pub record Last (s : Setting) (c : ℕ) (site : Site) (q : Past) : Type 0 where
  pub table : IsTable s.geometry q site.child
  pub lock : lock_in s.geometry q site.child ≡ c + 1
  pub born : (birth_in s.geometry q site.child).depth ≡ site.depth + 1
  pub parent : (birth_in s.geometry q site.child).parent ≡ site.table
  pub head : header_in s.geometry q site.child ≡ PlainAt (site.depth + 1)
  pub next : site.depth + 1 < 16 → child_in s.geometry q site.child (site.depth + 1) ≡ 0
  pub closed : (m : ℕ) → m < 2 * s.geometry.groups → bucket_in s.geometry q site.child m ≡ PlainAt (site.depth + 1)
  pub above : IsTable s.geometry q site.table
  pub deeper : site.depth + 1 ≤ depth (header_in s.geometry q site.table)
  pub buckets : (m : ℕ) → m < 2 * s.geometry.groups → site.depth + 1 ≤ depth (bucket_in s.geometry q site.table m)

-- a child that was named stays so
pub has_named_on : (s : Setting) (t : Naming) (from : Past) {q z : Past} → Before q z → (n : Named) → HasNamed s t from q n → HasNamed s t from z n
has_named_on s t from b n h = record {
  deep = h.deep;
  from_then = h.from_then;
  till = Before-trans h.till b;
  depth = h.depth;
  each = λ j low m. named_later s.geometry from j t.child b (h.each j low m);
}

module _ (s : Setting) (c : ℕ) (site : Site) where
  same_true : (d : ℕ) → (d == d) ≡ true
  same_true d = grind (arith, nat_tests)

  at_least : (x : ℕ) → x ≤ x
  at_least x = omega arith

  pub ripening_firm : (i : ℕ) → Firm s c (Ripening s c site i)
  ripening_firm j q e l bs h =
      let g = h.going in
      let born = going_born s c site q l.0 g in
      record {
        going = going_firm s c site q e l bs g;
        head = keeps_plain s c q e l bs site.table (site.depth + 1) g.table h.head h.next;
        next = λ k. keeps_child s c q e l bs site.table (site.depth + 1) g.table k g.lock ∙ h.next k;
        closed = λ m k. keeps_plain_bucket s c q e l bs site.table m (site.depth + 1) g.table k (h.closed m k) h.next;
        fills = keeps_filling s c q e l bs site.child (site.depth + 1) born.table g.child_lock h.fills;
        to_ripen = λ m k i. keeps_filling_bucket s c q e l bs site.child m (site.depth + 1) born.table k g.child_lock (h.to_ripen m k i);
        ripened = λ m k i. keeps_plain_bucket s c q e l bs site.child m (site.depth + 1) born.table k (h.ripened m k i) (λ z. filling_childless s q l.0 site.child (site.depth + 1) born.table z (subst IsFilling (sym h.fills) tt));
      }

  pub ripe_firm : Firm s c (Ripe s c site)
  ripe_firm q e l bs h =
      let g = h.going in
      let born = going_born s c site q l.0 g in
      record {
        going = going_firm s c site q e l bs g;
        head = keeps_plain s c q e l bs site.table (site.depth + 1) g.table h.head h.next;
        next = λ k. keeps_child s c q e l bs site.table (site.depth + 1) g.table k g.lock ∙ h.next k;
        closed = λ m k. keeps_plain_bucket s c q e l bs site.table m (site.depth + 1) g.table k (h.closed m k) h.next;
        child_head = keeps_plain s c q e l bs site.child (site.depth + 1) born.table h.child_head h.child_next;
        child_next = λ k. keeps_child s c q e l bs site.child (site.depth + 1) born.table k g.child_lock ∙ h.child_next k;
        child_closed = λ m k. keeps_plain_bucket s c q e l bs site.child m (site.depth + 1) born.table k (h.child_closed m k) h.child_next;
      }

  last_firm : Firm s c (Last s c site)
  last_firm q e l bs h =
      let b = birth_kept s q e l.1 (sound s q l.0) site.child h.table in
      record {
        table = table_stays s.geometry q e site.child site.child h.table;
        lock = keeps_lock s c q e l bs site.child h.table h.lock;
        born = ap (λ (v : Birth). v.depth) b ∙ h.born;
        parent = ap (λ (v : Birth). v.parent) b ∙ h.parent;
        head = keeps_plain s c q e l bs site.child (site.depth + 1) h.table h.head h.next;
        next = λ k. keeps_child s c q e l bs site.child (site.depth + 1) h.table k h.lock ∙ h.next k;
        closed = λ m k. keeps_plain_bucket s c q e l bs site.child m (site.depth + 1) h.table k (h.closed m k) h.next;
        above = table_stays s.geometry q e site.table site.table h.above;
        deeper = deeper_before s (site.depth + 1) (later {e = e} here) l site.table h.above h.deeper;
        buckets = λ m k. bucket_keeps s (λ v. site.depth + 1 ≤ depth v) (λ x y g z. let w = deeper_on g in omega arith) (later {e = e} here) l site.table m h.above k (h.buckets m k);
      }

  bucket_other : (t u x y : ℕ) → BucketWord t x ≡ BucketWord u y → (t ≡ u) × (x ≡ y)
  bucket_other t u x y k = (cc, cc)

  head_other : (t u : ℕ) → HeaderWord t ≡ HeaderWord u → t ≡ u
  head_other t u x = cc

  lock_other : (t u : ℕ) → LockWord t ≡ LockWord u → t ≡ u
  lock_other t u x = cc

  -- Ripen of a bucket header
  module _ (z : Past) (l : Legal s z) (m : ℕ) (low : m < 2 * s.geometry.groups) (h : Ripening s c site m z) where
    abbrev ripe_bucket : Entry
    ripe_bucket = change_in s.geometry c z (bucket_header_at site.child m) (plain_of (site.depth + 1))

    born : Born s.geometry z site.table site.depth site.child
    born = going_born s c site z l h.going

    parent_deep : (w : ℕ) → header w ≡ FillingAt (site.depth + 1) → depth (header w) ≤ depth (header_in s.geometry z (birth_in s.geometry z site.child).parent)
    parent_deep w e = let x = ap depth e in let y = ap (λ v. depth (header_in s.geometry z v)) born.parent in let v = ap depth h.head in omega arith

    ripen_bucket_meets : Meets s z (change_in s.geometry c z (bucket_header_at site.child m) (plain_of (site.depth + 1)))
    ripen_bucket_meets = bucket_meets s c z l site.child m (plain_of (site.depth + 1)) (FillingAt (site.depth + 1)) (PlainAt (site.depth + 1)) (Some Ripen) born.table low (h.to_ripen m low (at_least m)) (says_plain (site.depth + 1) (deep s c site z h.going)) (ap (λ v. only_if v Ripen) (same_true (site.depth + 1)))
        (record { parent = parent_deep (word_at s.geometry z (bucket_header_at site.child m)) (h.to_ripen m low (at_least m)); locked = h.going.child_lock })

    on_bucket : role s.geometry z (bucket_header_at site.child m) ≡ BucketWord site.child m
    on_bucket = bucket_is s.geometry z (sound s z l) site.child born.table m low

    ripen_bucket_done : Ripening s c site (m + 1) (change_in s.geometry c z (bucket_header_at site.child m) (plain_of (site.depth + 1)) ∷ z)
    ripen_bucket_done =
        let lm : Legal s (ripe_bucket ∷ z) = (l, ripen_bucket_meets) in
        let g = h.going in
        record {
          going = going_own s z ripe_bucket lm (BucketWord site.child m) on_bucket c site (λ x. cc) (λ x. cc) g;
          head = header_same s z ripe_bucket lm (BucketWord site.child m) on_bucket site.table g.table (λ x. cc) ∙ h.head;
          next = λ k. child_same s z ripe_bucket lm (BucketWord site.child m) on_bucket site.table (site.depth + 1) g.table k (λ x. cc) ∙ h.next k;
          closed = λ n k. bucket_same s z ripe_bucket lm (BucketWord site.child m) on_bucket site.table n g.table k (λ x. child_apart s c site z l g (bucket_other site.table site.child n m x).0) ∙ h.closed n k;
          fills = header_same s z ripe_bucket lm (BucketWord site.child m) on_bucket site.child born.table (λ x. cc) ∙ h.fills;
          to_ripen = λ n k i. bucket_same s z ripe_bucket lm (BucketWord site.child m) on_bucket site.child n born.table k (λ x. let y = (bucket_other site.child site.child n m x).1 in omega (arith, y, i)) ∙ h.to_ripen n k (omega arith);
          ripened = λ n k i. ⊎_elim
              (λ (x : n ≡ m). ap header (word_put s.geometry z ripe_bucket (bucket_header_at site.child n) (ap (bucket_header_at site.child) x)) ∙ says_plain (site.depth + 1) (deep s c site z g))
              (λ (x : n ≢ m). bucket_same s z ripe_bucket lm (BucketWord site.child m) on_bucket site.child n born.table k (λ y. x (bucket_other site.child site.child n m y).1) ∙ h.ripened n k (omega (arith, i, x))) (same_or_not n m);
        }

  -- Ripen of the header
  module _ (z : Past) (l : Legal s z) (h : Ripening s c site (2 * s.geometry.groups) z) where
    abbrev ripe_head : Entry
    ripe_head = change_in s.geometry c z (header_at site.child) (plain_of (site.depth + 1))

    born2 : Born s.geometry z site.table site.depth site.child
    born2 = going_born s c site z l h.going

    parent_deep2 : (w : ℕ) → header w ≡ FillingAt (site.depth + 1) → depth (header w) ≤ depth (header_in s.geometry z (birth_in s.geometry z site.child).parent)
    parent_deep2 w e = let x = ap depth e in let y = ap (λ v. depth (header_in s.geometry z v)) born2.parent in let v = ap depth h.head in omega arith

    ripen_meets : Meets s z (change_in s.geometry c z (header_at site.child) (plain_of (site.depth + 1)))
    ripen_meets = header_meets s c z l site.child (plain_of (site.depth + 1)) (FillingAt (site.depth + 1)) (PlainAt (site.depth + 1)) (Some Ripen) born2.table h.fills (says_plain (site.depth + 1) (deep s c site z h.going)) (ap (λ v. only_if v Ripen) (same_true (site.depth + 1)))
        (record {
          ripens = record { parent = parent_deep2 (word_at s.geometry z (header_at site.child)) h.fills; locked = h.going.child_lock };
          buckets = λ m k. subst IsPlain (sym (h.ripened m k k)) tt;
        })

    on_head : role s.geometry z (header_at site.child) ≡ HeaderWord site.child
    on_head = header_is s.geometry z (sound s z l) site.child born2.table

    ripen_done : Ripe s c site (change_in s.geometry c z (header_at site.child) (plain_of (site.depth + 1)) ∷ z)
    ripen_done =
        let lm : Legal s (ripe_head ∷ z) = (l, ripen_meets) in
        let g = h.going in
        record {
          going = going_own s z ripe_head lm (HeaderWord site.child) on_head c site (λ x. cc) (λ x. cc) g;
          head = header_same s z ripe_head lm (HeaderWord site.child) on_head site.table g.table (λ x. child_apart s c site z l g (head_other site.table site.child x)) ∙ h.head;
          next = λ k. child_same s z ripe_head lm (HeaderWord site.child) on_head site.table (site.depth + 1) g.table k (λ x. cc) ∙ h.next k;
          closed = λ n k. bucket_same s z ripe_head lm (HeaderWord site.child) on_head site.table n g.table k (λ x. cc) ∙ h.closed n k;
          child_head = ap header (word_put s.geometry z ripe_head (header_at site.child) refl) ∙ says_plain (site.depth + 1) (deep s c site z g);
          child_next = λ k. child_same s z ripe_head lm (HeaderWord site.child) on_head site.child (site.depth + 1) born2.table k (λ x. cc) ∙ filling_childless s z l site.child (site.depth + 1) born2.table k (subst IsFilling (sym h.fills) tt);
          child_closed = λ n k. bucket_same s z ripe_head lm (HeaderWord site.child) on_head site.child n born2.table k (λ x. cc) ∙ h.ripened n k k;
        }

  -- Unlock of the table
  module _ (z : Past) (l : Legal s z) (h : Ripe s c site z) where
    abbrev unlocking : Entry
    unlocking = change_in s.geometry c z (lock_at site.table) 0

    born3 : Born s.geometry z site.table site.depth site.child
    born3 = going_born s c site z l h.going

    quiet_table : IsQuiet s.geometry z site.table
    quiet_table = record {
      plain = subst IsPlain (sym h.head) tt;
      buckets = λ m k. h.closed m k ∙ sym h.head;
      no_child = λ k. ap (child_in s.geometry z site.table) (ap depth h.head) ∙ h.next (subst (λ v. depth v < 16) h.head k);
      ripe = λ d k b f. ripe_now d (sym (ap depth h.head) ∙ k) f;
    }
      where
        cancel : (x d : ℕ) → x + 1 ≡ d + 1 → d ≡ x
        cancel x d k = omega arith

        ripe_now : (d : ℕ) → site.depth + 1 ≡ d + 1 → IsFilling (header_in s.geometry z (child_in s.geometry z site.table d)) → ⊥
        ripe_now d k f = subst IsFilling (ap (header_in s.geometry z) (ap (child_in s.geometry z site.table) (cancel site.depth d k) ∙ h.going.link) ∙ h.child_head) f

    unlock_table_meets : Meets s z (change_in s.geometry c z (lock_at site.table) 0)
    unlock_table_meets = unlock_meets s c z l site.table h.going.table h.going.lock quiet_table

    on_lock : role s.geometry z (lock_at site.table) ≡ LockWord site.table
    on_lock = lock_is s.geometry z (sound s z l) site.table h.going.table

    unlocked_table : Last s c site (change_in s.geometry c z (lock_at site.table) 0 ∷ z)
    unlocked_table =
        let lm : Legal s (unlocking ∷ z) = (l, unlock_table_meets) in
        let b = birth_kept s z unlocking lm.1 (sound s z l) site.child born3.table in
        record {
          table = table_stays s.geometry z unlocking site.child site.child born3.table;
          lock = lock_same s z unlocking lm (LockWord site.table) on_lock site.child born3.table (λ x. child_apart s c site z l h.going (sym (lock_other site.child site.table x))) ∙ h.going.child_lock;
          born = ap (λ (v : Birth). v.depth) b ∙ born3.level;
          parent = ap (λ (v : Birth). v.parent) b ∙ born3.parent;
          head = header_same s z unlocking lm (LockWord site.table) on_lock site.child born3.table (λ x. cc) ∙ h.child_head;
          next = λ k. child_same s z unlocking lm (LockWord site.table) on_lock site.child (site.depth + 1) born3.table k (λ x. cc) ∙ h.child_next k;
          closed = λ n k. bucket_same s z unlocking lm (LockWord site.table) on_lock site.child n born3.table k (λ x. cc) ∙ h.child_closed n k;
          above = table_stays s.geometry z unlocking site.table site.table h.going.table;
          deeper = subst (λ v. site.depth + 1 ≤ depth v) (sym (header_same s z unlocking lm (LockWord site.table) on_lock site.table h.going.table (λ x. cc) ∙ h.head)) (at_least (site.depth + 1));
          buckets = λ m k. subst (λ v. site.depth + 1 ≤ depth v) (sym (bucket_same s z unlocking lm (LockWord site.table) on_lock site.table m h.going.table k (λ x. cc) ∙ h.closed m k)) (at_least (site.depth + 1));
        }

  -- Unlock of the child
  module _ (z : Past) (l : Legal s z) (h : Last s c site z) where
    quiet_child : IsQuiet s.geometry z site.child
    quiet_child = record {
      plain = subst IsPlain (sym h.head) tt;
      buckets = λ m k. h.closed m k ∙ sym h.head;
      no_child = λ k. ap (child_in s.geometry z site.child) (ap depth h.head) ∙ h.next (subst (λ v. depth v < 16) h.head k);
      ripe = λ d k b f. let x = ap depth h.head in let y = h.born in absurd (omega arith);
    }

    unlock_child_meets : Meets s z (change_in s.geometry c z (lock_at site.child) 0)
    unlock_child_meets = unlock_meets s c z l site.child h.table h.lock quiet_child

    split_by : (begun : Past) (n : Named) → HasNamed s (naming_of s.geometry site) begun z n → SplitBy s c site.table (site.depth + 1) (change_in s.geometry c z (lock_at site.child) 0 ∷ z)
    split_by begun n hn = record {
      entry = change_in s.geometry c z (lock_at site.child) 0;
      past = z;
      log = refl;
      client = refl;
      is_unlock = unlock_kind s z (change_in s.geometry c z (lock_at site.child) 0) (l, unlock_child_meets) site.child (lock_is s.geometry z (sound s z l) site.child h.table) h.lock refl;
      child = site.child;
      at = refl;
      parent = h.parent;
      born = h.born;
      deep = h.deeper;
      buckets = λ m k. bucket_keeps s (λ v. site.depth + 1 ≤ depth v) (λ x y g w. let u = deeper_on g in omega arith) (later {e = change_in s.geometry c z (lock_at site.child) 0} here) (l, unlock_child_meets) site.table m h.above k (h.buckets m k);
      suffix = site.suffix;
      begun = begun;
      named = n;
      is_named = has_named_on s (naming_of s.geometry site) begun (later here) n hn;
    }

  -- from the end of the naming on
  module _ (g : Geometry) (begun : Past) (n : Named) (End : Past → ResizeEnd → Type 0) (left : ℕ) (f : (z : Past) → Legal s z → SplitBy s c site.table (site.depth + 1) z → End z (record { outcome = Split site.table (site.depth + 1); left = left })) where
    abbrev Nmd : Past → Type 0
    Nmd q = HasNamed s (naming_of s.geometry site) begun q n

    on : {q z : Past} → Since c q z → HasNamed s (naming_of s.geometry site) begun q n → HasNamed s (naming_of s.geometry site) begun z n
    on sz h = has_named_on s (naming_of s.geometry site) begun (since_before sz) n h

    unlock_child_safe : (q : Past) → Legal s q → Last s c site q → HasNamed s (naming_of s.geometry site) begun q n → SafeBy Modestly s c q (unlock c site.child (resized (Split site.table (site.depth + 1)) left)) End
    unlock_child_safe q l h hn = sure_safe s c End (lock_at site.child) (c + 1) 0 (resized (Split site.table (site.depth + 1)) left) q (lock_low s c q l site.child h.table)
        (λ z lz sz. let hz = firm_on s c (Last s c site) last_firm sz lz h in
        (hz.lock, (unlock_child_meets z lz hz, lock_modest s c z lz site.child 0 hz.table), f (change_in s.geometry c z (lock_at site.child) 0 ∷ z) (lz, unlock_child_meets z lz hz) (split_by z lz hz begun n (on sz hn))))

    unlocks_safe : (q : Past) → Legal s q → Ripe s c site q → HasNamed s (naming_of s.geometry site) begun q n → SafeBy Modestly s c q (unlocks g c site left) End
    unlocks_safe q l h hn = sure_safe s c End (lock_at site.table) (c + 1) 0 (unlock c site.child (resized (Split site.table (site.depth + 1)) left)) q (lock_low s c q l site.table h.going.table)
        (λ z lz sz. let hz = firm_on s c (Ripe s c site) ripe_firm sz lz h in
        (hz.going.lock, (unlock_table_meets z lz hz, lock_modest s c z lz site.table 0 hz.going.table), unlock_child_safe (change_in s.geometry c z (lock_at site.table) 0 ∷ z) (lz, unlock_table_meets z lz hz) (unlocked_table z lz hz) (has_named_on s (naming_of s.geometry site) begun (later (since_before sz)) n hn)))

    pub ripen_safe : (k m : ℕ) → m + k ≡ 2 * s.geometry.groups → (q : Past) → Legal s q → Ripening s c site m q → HasNamed s (naming_of s.geometry site) begun q n → SafeBy Modestly s c q (ripen g c site left k m) End
    ripen_safe zero m all q l h hn = sure_safe s c End (header_at site.child) (filling_of (site.depth + 1)) (plain_of (site.depth + 1)) (unlocks g c site left) q (header_low s q l site.child (going_born s c site q l h.going).table)
        (λ z lz sz. let hz = subst (λ v. Ripening s c site v z) (whole m all) (firm_on s c (Ripening s c site m) (ripening_firm m) sz lz h) in
        (is_filling (word_at s.geometry z (header_at site.child)) (site.depth + 1) hz.fills, (ripen_meets z lz hz, header_modest s c z lz site.child (plain_of (site.depth + 1)) (going_born s c site z lz hz.going).table), unlocks_safe (change_in s.geometry c z (header_at site.child) (plain_of (site.depth + 1)) ∷ z) (lz, ripen_meets z lz hz) (ripen_done z lz hz) (has_named_on s (naming_of s.geometry site) begun (later (since_before sz)) n hn)))
      where
        whole : (m : ℕ) → m + 0 ≡ 2 * s.geometry.groups → m ≡ 2 * s.geometry.groups
        whole m e = omega arith
    ripen_safe (suc k) m all q l h hn =
        let lm : m < 2 * s.geometry.groups = omega arith in
        sure_safe s c End (bucket_header_at site.child m) (filling_of (site.depth + 1)) (plain_of (site.depth + 1)) (ripen g c site left k (m + 1)) q (bucket_low s q l site.child (going_born s c site q l h.going).table m lm)
        (λ z lz sz. let hz = firm_on s c (Ripening s c site m) (ripening_firm m) sz lz h in let me = ripen_bucket_meets z lz m lm hz in (
          is_filling (word_at s.geometry z (bucket_header_at site.child m)) (site.depth + 1) (hz.to_ripen m lm (at_least m)),
          (me, bucket_modest s c z lz site.child m (plain_of (site.depth + 1)) (going_born s c site z lz hz.going).table lm),
          ripen_safe k (m + 1) (omega arith) (change_in s.geometry c z (bucket_header_at site.child m) (plain_of (site.depth + 1)) ∷ z) (lz, me) (ripen_bucket_done z lz m lm hz) (has_named_on s (naming_of s.geometry site) begun (later (since_before sz)) n hn),
        ))

  -- a table that is closed
  pub closed_ripening : (q : Past) → Closing s c site (2 * s.geometry.groups) q → Ripening s c site 0 q
  closed_ripening q h =
      let f = h.finished in
      record {
        going = f.going;
        head = f.head;
        next = f.next;
        closed = λ m k. h.closed m k k;
        fills = f.fills;
        to_ripen = λ m k i. f.fill_buckets m k;
        ripened = λ m k i. absurd (omega arith);
      }
