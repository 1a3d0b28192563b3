-- Finish and Close.
use Rattle.log_facts.proofs.Modest.{bucket_modest}
use Rattle.std.specs.Prelude.{◌≡◌, ◌≢◌, ℕ, ◌+◌, ◌*◌, ◌<◌, ◌≤◌, ◌==◌, true, zero, suc, ◌∷◌, Some, ◌⊎◌, refl}
use Rattle.std.proofs.Common.{sym, ◌∙◌, ap, subst, inl, inr, arith, ⊎_elim}
use Rattle.std.proofs.lemmas.Bool.Decides.{nat_tests}
use Rattle.node_words.specs.Addresses.{header_at, bucket_header_at}
use Rattle.node_words.specs.Roles.{HeaderWord, BucketWord}
use Rattle.verb_log.specs.declared.entry.Entry.{Entry}
use Rattle.verb_log.specs.declared.kind.Kind.TheVariants.{Finish, Close}
use Rattle.verb_log.specs.Decoded.{Header, PlainAt, SplittingAt, FillingAt, NoHeader, header}
use Rattle.verb_log.specs.Tables.{Past, word_at, role}
use Rattle.verb_log.specs.Kinds.{only_if}
use Rattle.race_laws.specs.Setting.{Setting}
use Rattle.race_laws.specs.Standing.{header_in, child_in, bucket_in, depth, IsFilling, IsGone}
use Rattle.race_laws.specs.Splits.{WasClear}
use Rattle.race_laws.specs.Legal.{Meets, Legal}
use Rattle.race_laws.proofs.Touch.{word_put, same_or_not}
use Rattle.race_laws.proofs.SoundStep.{sound}
use Rattle.race_laws.proofs.Frames.{header_is, bucket_is}
use Rattle.race_laws.proofs.Splits.{Born, Splits}
use Rattle.race_laws.proofs.TablesStep.{filling_depth}
use Rattle.race_laws.proofs.Opening.{splits}
use Rattle.log_facts.specs.Since.{change_in}
use Rattle.pass_laws.specs.SafeIn.{SafeBy}
use Rattle.begin_laws.specs.States.{Modestly}
use Rattle.log_facts.proofs.Within.{bucket_low}
use Rattle.log_facts.proofs.Buckets.{bucket_depth, bucket_fills, bucket_ripe}
use Rattle.split_text.specs.declared.site.Site.{Site}
use Rattle.log_facts.specs.Beside.{Firm}
use Rattle.move_laws.specs.States.{Going, Opened}
use Rattle.split_laws.proofs.Around.{Resting}
use Rattle.split_laws.proofs.Places.{number_of, number_low, place_number}
use Rattle.split_text.specs.declared.resized.ResizeEnd.{ResizeEnd}
use Rattle.split_text.specs.Words.{plain_of, splitting_of, slot_count}
use Rattle.split_text.specs.Text.{name_child, close}
use Rattle.node_words.specs.declared.geometry.Geometry.{Geometry}
use Rattle.log_facts.proofs.Mild.{firm_on}
use Rattle.log_facts.proofs.Keeps.{keeps_child, keeps_splitting_bucket, keeps_filling, keeps_filling_bucket, keeps_plain, keeps_plain_bucket}
use Rattle.move_laws.proofs.Stable.{going_born, small, going_firm}
use Rattle.log_facts.proofs.Apart.{header_same, child_same, bucket_same}
use Rattle.move_laws.proofs.Sites.{going_own}
use Rattle.log_facts.proofs.Following.{header_meets, bucket_meets}
use Rattle.split_laws.proofs.Sure.{sure_safe}
use Rattle.log_facts.proofs.HeadWords.{says_plain, is_splitting}
use Rattle.move_laws.proofs.Sites.{child_apart, child_fills}
use Rattle.move_laws.proofs.Moving.{is_child}

-- the split is finished: the table is a depth deeper, and has no child there; its child fills
pub record Finished (s : Setting) (c : ℕ) (site : Site) (q : Past) : Type 0 where
  pub going : Going s c site q
  pub head : header_in s.geometry q site.table ≡ PlainAt (site.depth + 1)
  pub next : site.depth + 1 < 16 → child_in s.geometry q site.table (site.depth + 1) ≡ 0
  pub fills : header_in s.geometry q site.child ≡ FillingAt (site.depth + 1)
  pub fill_buckets : (m : ℕ) → m < 2 * s.geometry.groups → bucket_in s.geometry q site.child m ≡ FillingAt (site.depth + 1)

-- the bucket headers of the table from number i on are to be closed, those below are
pub record Closing (s : Setting) (c : ℕ) (site : Site) (i : ℕ) (q : Past) : Type 0 where
  pub finished : Finished s c site q
  pub to_close : (m : ℕ) → m < 2 * s.geometry.groups → i ≤ m → bucket_in s.geometry q site.table m ≡ SplittingAt site.depth
  pub closed : (m : ℕ) → m < 2 * s.geometry.groups → m < i → bucket_in s.geometry q site.table m ≡ PlainAt (site.depth + 1)

module _ (s : Setting) (c : ℕ) (site : Site) where
  pub deep : (q : Past) → Going s c site q → site.depth + 1 ≤ 16
  deep q g = let x = small s c site q g in omega arith

  pub finished_firm : Firm s c (Finished s c site)
  finished_firm q e l bs h =
      let g = h.going in
      let born = going_born s c site q l.0 g in
      record {
        going = going_firm s c site q e l bs g;
        head = keeps_plain s c q e l bs site.table (site.depth + 1) g.table h.head h.next;
        next = λ k. keeps_child s c q e l bs site.table (site.depth + 1) g.table k g.lock ∙ h.next k;
        fills = keeps_filling s c q e l bs site.child (site.depth + 1) born.table g.child_lock h.fills;
        fill_buckets = λ m k. keeps_filling_bucket s c q e l bs site.child m (site.depth + 1) born.table k g.child_lock (h.fill_buckets m k);
      }

  pub closing_firm : (i : ℕ) → Firm s c (Closing s c site i)
  closing_firm j q e l bs h =
      let f = h.finished in
      let g = f.going in
      record {
        finished = finished_firm q e l bs f;
        to_close = λ m k i. keeps_splitting_bucket s c q e l bs site.table m site.depth g.table k g.lock (h.to_close m k i);
        closed = λ m k i. keeps_plain_bucket s c q e l bs site.table m (site.depth + 1) g.table k (h.closed m k i) f.next;
      }

  -- what is known when the split is open
  module _ (q : Past) (l : Legal s q) (o : Opened s c site q) where
    sp : Splits s.geometry q
    sp = splits s q l

    born : Born s.geometry q site.table site.depth site.child
    born = going_born s c site q l o.going

    no_next : site.depth + 1 < 16 → child_in s.geometry q site.table (site.depth + 1) ≡ 0
    no_next k = ⊎_elim (λ (x : child_in s.geometry q site.table (site.depth + 1) ≡ 0). x)
        (λ (x : child_in s.geometry q site.table (site.depth + 1) ≢ 0). let up = (sp.upto site.table (site.depth + 1) o.going.table k x).1 in let dd = ap depth o.splits in absurd (omega arith))
        (same_or_not (child_in s.geometry q site.table (site.depth + 1)) 0)

    child_head : header_in s.geometry q site.child ≡ FillingAt (site.depth + 1)
    child_head =
        let f = filling_depth (header_in s.geometry q site.child) (child_fills s c site q l o) in
        f ∙ ap FillingAt (sp.first site.child (depth (header_in s.geometry q site.child)) born.table f ∙ born.level)

    is_filling_or : (h : Header) → IsFilling h ⊎ (IsFilling h → ⊥)
    is_filling_or (PlainAt d) = inr (λ x. x)
    is_filling_or (SplittingAt d) = inr (λ x. x)
    is_filling_or (FillingAt d) = inl tt
    is_filling_or NoHeader = inr (λ x. x)

    child_bucket : (m : ℕ) → m < 2 * s.geometry.groups → bucket_in s.geometry q site.child m ≡ FillingAt (site.depth + 1)
    child_bucket m k = ⊎_elim
        (λ (x : IsFilling (bucket_in s.geometry q site.child m)).
        let f = filling_depth (bucket_in s.geometry q site.child m) x in
        f ∙ ap FillingAt (bucket_fills s q l site.child m (depth (bucket_in s.geometry q site.child m)) born.table k f ∙ born.level))
        (λ (x : IsFilling (bucket_in s.geometry q site.child m) → ⊥).
        let r = bucket_ripe s q l site.child m site.table site.depth born.table k o.going.table (small s c site q o.going) o.going.link o.going.some x in
        let dd = ap depth o.splits in absurd (omega arith)) (is_filling_or (bucket_in s.geometry q site.child m))

    exactly : (h : Header) (d : ℕ) → IsGone h d → depth h ≤ d → h ≡ SplittingAt d
    exactly (PlainAt x) d g k = absurd (omega arith)
    exactly (SplittingAt x) d g k = let same : x ≡ d = omega arith in ap SplittingAt same
    exactly (FillingAt x) d g k = absurd (omega arith)
    exactly NoHeader d g k = absurd g

    pub table_bucket : (m : ℕ) → m < 2 * s.geometry.groups → bucket_in s.geometry q site.table m ≡ SplittingAt site.depth
    table_bucket m k =
        let gone = sp.heads site.table m site.depth o.going.table k (subst (λ v. IsGone v site.depth) (sym o.splits) (at_least site.depth)) in
        let d = bucket_depth s q l site.table m o.going.table k in
        let dd = ap depth o.splits in
        exactly (bucket_in s.geometry q site.table m) site.depth gone (omega arith)
      where
        at_least : (x : ℕ) → x ≤ x
        at_least x = omega arith

  at_least : (x : ℕ) → x ≤ x
  at_least x = omega arith

  same_true : (d : ℕ) → (d == d) ≡ true
  same_true d = grind (arith, nat_tests)

  -- Finish
  module _ (z : Past) (l : Legal s z) (h : Resting s c site (slot_count s.geometry) z) where
    abbrev finishing : Entry
    finishing = change_in s.geometry c z (header_at site.table) (plain_of (site.depth + 1))

    g : Going s c site z
    g = h.open_now.going

    old_depth : depth (header (word_at s.geometry z (header_at site.table))) ≡ site.depth
    old_depth = ap depth h.open_now.splits

    pub finish_meets : Meets s z (change_in s.geometry c z (header_at site.table) (plain_of (site.depth + 1)))
    finish_meets = header_meets s c z l site.table (plain_of (site.depth + 1)) (SplittingAt site.depth) (PlainAt (site.depth + 1)) (Some Finish) g.table h.open_now.splits (says_plain (site.depth + 1) (deep z g)) (ap (λ v. only_if v Finish) (same_true (site.depth + 1)))
        (record {
          clear = λ p k. subst (λ v. WasClear s z site.table v p) (sym old_depth) (subst (WasClear s z site.table site.depth) (place_number p k.1) (h.done (number_of p) (number_low s.geometry p k)));
          none_moved = λ p b k. h.still p k b;
          child = site.child;
          is_child = is_child s c site z h.open_now;
          no_copy = λ p b k. h.bare p k b;
          locked = g.lock;
        })

    on_head : role s.geometry z (header_at site.table) ≡ HeaderWord site.table
    on_head = header_is s.geometry z (sound s z l) site.table g.table

    head_other : (t u : ℕ) → HeaderWord t ≡ HeaderWord u → t ≡ u
    head_other t u x = cc

    pub finish_done : Closing s c site 0 (change_in s.geometry c z (header_at site.table) (plain_of (site.depth + 1)) ∷ z)
    finish_done =
        let lm : Legal s (finishing ∷ z) = (l, finish_meets) in
        let b = going_born s c site z l g in
        record {
          finished = record {
            going = going_own s z finishing lm (HeaderWord site.table) on_head c site (λ x. cc) (λ x. cc) g;
            head = ap header (word_put s.geometry z finishing (header_at site.table) refl) ∙ says_plain (site.depth + 1) (deep z g);
            next = λ k. child_same s z finishing lm (HeaderWord site.table) on_head site.table (site.depth + 1) g.table k (λ x. cc) ∙ no_next z l h.open_now k;
            fills = header_same s z finishing lm (HeaderWord site.table) on_head site.child b.table (λ x. child_apart s c site z l g (sym (head_other site.child site.table x))) ∙ child_head z l h.open_now;
            fill_buckets = λ m k. bucket_same s z finishing lm (HeaderWord site.table) on_head site.child m b.table k (λ x. cc) ∙ child_bucket z l h.open_now m k;
          };
          to_close = λ m k i. bucket_same s z finishing lm (HeaderWord site.table) on_head site.table m g.table k (λ x. cc) ∙ table_bucket z l h.open_now m k;
          closed = λ m k i. absurd (omega arith);
        }

  -- Close of one bucket header
  module _ (z : Past) (l : Legal s z) (m : ℕ) (low : m < 2 * s.geometry.groups) (h : Closing s c site m z) where
    abbrev closing : Entry
    closing = change_in s.geometry c z (bucket_header_at site.table m) (plain_of (site.depth + 1))

    gf : Going s c site z
    gf = h.finished.going

    close_meets : Meets s z (change_in s.geometry c z (bucket_header_at site.table m) (plain_of (site.depth + 1)))
    close_meets = bucket_meets s c z l site.table m (plain_of (site.depth + 1)) (SplittingAt site.depth) (PlainAt (site.depth + 1)) (Some Close) gf.table low (h.to_close m low (at_least m)) (says_plain (site.depth + 1) (deep z gf)) (ap (λ v. only_if v Close) (same_true (site.depth + 1)))
        (record { deeper = ap depth h.finished.head ∙ sym (ap (λ v. v + 1) (ap depth (h.to_close m low (at_least m)))); locked = gf.lock })

    on_bucket : role s.geometry z (bucket_header_at site.table m) ≡ BucketWord site.table m
    on_bucket = bucket_is s.geometry z (sound s z l) site.table gf.table m low

    bucket_other : (t u x y : ℕ) → BucketWord t x ≡ BucketWord u y → (t ≡ u) × (x ≡ y)
    bucket_other t u x y k = (cc, cc)

    close_done : Closing s c site (m + 1) (change_in s.geometry c z (bucket_header_at site.table m) (plain_of (site.depth + 1)) ∷ z)
    close_done =
        let lm : Legal s (closing ∷ z) = (l, close_meets) in
        let b = going_born s c site z l gf in
        let f = h.finished in
        record {
          finished = record {
            going = going_own s z closing lm (BucketWord site.table m) on_bucket c site (λ x. cc) (λ x. cc) gf;
            head = header_same s z closing lm (BucketWord site.table m) on_bucket site.table gf.table (λ x. cc) ∙ f.head;
            next = λ k. child_same s z closing lm (BucketWord site.table m) on_bucket site.table (site.depth + 1) gf.table k (λ x. cc) ∙ f.next k;
            fills = header_same s z closing lm (BucketWord site.table m) on_bucket site.child b.table (λ x. cc) ∙ f.fills;
            fill_buckets = λ n k. bucket_same s z closing lm (BucketWord site.table m) on_bucket site.child n b.table k (λ x. child_apart s c site z l gf (sym (bucket_other site.child site.table n m x).0)) ∙ f.fill_buckets n k;
          };
          to_close = λ n k i. bucket_same s z closing lm (BucketWord site.table m) on_bucket site.table n gf.table k (λ x. let y = (bucket_other site.table site.table n m x).1 in omega (arith, y, i)) ∙ h.to_close n k (omega arith);
          closed = λ n k i. ⊎_elim
              (λ (x : n ≡ m). ap header (word_put s.geometry z closing (bucket_header_at site.table n) (ap (bucket_header_at site.table) x)) ∙ says_plain (site.depth + 1) (deep z gf))
              (λ (x : n ≢ m). bucket_same s z closing lm (BucketWord site.table m) on_bucket site.table n gf.table k (λ y. x (bucket_other site.table site.table n m y).1) ∙ h.closed n k (omega (arith, i, x))) (same_or_not n m);
        }

  module _ (g : Geometry) (left : ℕ) (End : Past → ResizeEnd → Type 0) (f : (z : Past) → Legal s z → Closing s c site (2 * s.geometry.groups) z → SafeBy Modestly s c z (name_child g c site left) End) where
    pub close_safe : (n m : ℕ) → m + n ≡ 2 * s.geometry.groups → (q : Past) → Legal s q → Closing s c site m q → SafeBy Modestly s c q (close g c site left n m) End
    close_safe zero m all q l h = f q l (subst (λ v. Closing s c site v q) (whole m all) h)
      where
        whole : (m : ℕ) → m + 0 ≡ 2 * s.geometry.groups → m ≡ 2 * s.geometry.groups
        whole m e = omega arith
    close_safe (suc n) m all q l h =
        let lm : m < 2 * s.geometry.groups = omega arith in
        sure_safe s c End (bucket_header_at site.table m) (splitting_of site.depth) (plain_of (site.depth + 1)) (close g c site left n (m + 1)) q (bucket_low s q l site.table h.finished.going.table m lm)
        (λ z lz sz. let hz = firm_on s c (Closing s c site m) (closing_firm m) sz lz h in let me = close_meets z lz m lm hz in (
          is_splitting (word_at s.geometry z (bucket_header_at site.table m)) site.depth (hz.to_close m lm (at_least m)),
          (me, bucket_modest s c z lz site.table m (plain_of (site.depth + 1)) hz.finished.going.table lm),
          close_safe n (m + 1) (omega arith) (change_in s.geometry c z (bucket_header_at site.table m) (plain_of (site.depth + 1)) ∷ z) (lz, me) (close_done z lz m lm hz),
        ))
