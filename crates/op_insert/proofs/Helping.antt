-- Helping a split to open.
use Rattle.std.specs.Prelude.{◌≡◌, ◌≢◌, ℕ, zero, suc, ◌+◌, ◌*◌, ◌<◌, ◌≤◌, ◌==◌, ◌&&◌, true, false, List, ◌∷◌, length, Option, Some, None, unwrap_or, refl}
use Rattle.std.proofs.Common.{sym, ◌∙◌, ap, subst, arith, ⊎_elim}
use Rattle.std.proofs.lemmas.Bool.{cases_lt}
use Rattle.std.proofs.lemmas.Bool.Decides.{nat_tests}
use Rattle.slot_word.specs.declared.heads.State.{State}
use Rattle.slot_word.specs.declared.heads.State.TheVariants.{Plain, Splitting, Filling}
use Rattle.slot_word.specs.declared.heads.Head.{Head}
use Rattle.slot_word.specs.Heads.{head_of}
use Rattle.slot_word.proofs.HeadLaws.{head_word-head_of}
use Rattle.node_words.specs.Addresses.{header_at, bucket_header_at}
use Rattle.node_words.specs.Roles.{HeaderWord, BucketWord, HeapWord}
use Rattle.verb_log.specs.declared.entry.Entry.{Entry}
use Rattle.verb_log.specs.declared.entry.Verb.TheVariants.{Swap}
use Rattle.verb_log.specs.declared.kind.Kind.TheVariants.{Begin, Open}
use Rattle.verb_log.specs.Decoded.{Header, PlainAt, SplittingAt, FillingAt, NoHeader, header, header_of}
use Rattle.verb_log.specs.Tables.{Past, Before, here, later, word_at, words_at, role}
use Rattle.verb_log.specs.Changes.{changes_by}
use Rattle.verb_log.specs.Kinds.{kind_of_role, bucket_kind, header_kind, only_if}
use Rattle.verbs.specs.Programs.{Prog}
use Rattle.race_laws.specs.Setting.{Setting}
use Rattle.race_laws.specs.Standing.{IsTable, header_in, child_in, bucket_in, depth, IsGone}
use Rattle.race_laws.specs.Legal.{Meets, Legal}
use Rattle.race_laws.proofs.Sound.{judged_is}
use Rattle.race_laws.proofs.SoundStep.{sound}
use Rattle.race_laws.proofs.Covers.{table_before}
use Rattle.race_laws.proofs.Touch.{word_put, word_kept, same_or_not}
use Rattle.race_laws.proofs.Frames.{header_is, bucket_is, child_before}
use Rattle.race_laws.proofs.Finality.{bucket_gone_before}
use Rattle.log_facts.specs.Since.{change_in, Since, same, more}
use Rattle.log_facts.specs.SlotWords.{plain_of, splitting_of}
use Rattle.log_facts.specs.Entries.{Unchanging}
use Rattle.log_facts.proofs.Growing.{since_before}
use Rattle.log_facts.proofs.Mild.{if_mild, header_mild, bucket_mild}
use Rattle.log_facts.proofs.Following.{header_meets, bucket_meets}
use Rattle.log_facts.proofs.HeadWords.{says_plain, says_splitting}
use Rattle.log_facts.proofs.Mine.{mine_others, mine_own, mine_heap}
use Rattle.log_facts.proofs.Silent.{Silent, role_silent}
use Rattle.log_facts.proofs.Written.{block_others}
use Rattle.log_facts.proofs.Buckets.{bucket_depth, linked_bucket, linked_header}
use Rattle.log_facts.proofs.Within.{header_low, bucket_low}
use Rattle.pass_text.specs.Words.{head_in}
use Rattle.pass_laws.specs.SafeIn.{MayBy, SafeIn, Calmly}
use Rattle.pass_laws.proofs.Rules.{by_cond}
use Rattle.block_taking.specs.declared.taking.Area.{Area}
use Rattle.block_taking.specs.Holdings.{Owns, KeptBlock}
use Rattle.op_insert.specs.Text.{Part, help_from, is_plain, is_plain_at, help}

-- what others keep, and own entries outside the heap that publish nothing
pub record Steady (s : Setting) (c : ℕ) (P : Past → Type 0) : Type 0 where
  pub others : (q : Past) (e : Entry) → Legal s (e ∷ q) → e.client ≢ c → P q → P (e ∷ q)
  pub elsewhere : (q : Past) (e : Entry) → Legal s (e ∷ q) → Silent s q e → (role s.geometry q e.at ≡ HeapWord → ⊥) → P q → P (e ∷ q)

pub steady_since : (s : Setting) (c : ℕ) (P : Past → Type 0) → Steady s c P → {p q : Past} → Since c p q → Legal s q → P p → P q
steady_since s c P k same l h = h
steady_since s c P k (more {q = q} e b o) l h = k.others q e l o (steady_since s c P k b l.0 h)

words_same : (s : Setting) (p q : Past) (a n : ℕ) → ((x : ℕ) → a ≤ x → x < a + n → word_at s.geometry q x ≡ word_at s.geometry p x) → words_at s.geometry q a n ≡ words_at s.geometry p a n
words_same s p q a zero h = refl
words_same s p q a (suc n) h =
    ap (λ v. v ∷ words_at s.geometry q (suc a) n) (h a (omega arith) (omega arith)) ∙ ap (λ vs. word_at s.geometry p a ∷ vs) (words_same s p q (suc a) n (λ x k l. h x (omega arith) (omega arith)))

-- the area and the block that was never placed
pub steady_own : (s : Setting) (c : ℕ) (ws : List ℕ) (kept : Option ℕ) (area : Area) → Steady s c (λ q. Owns s c area q × KeptBlock s c ws kept area q)
steady_own s c ws None area = record {
  others = λ q e l o h. (mine_others s q e l c area.at area.left o h.0, tt);
  elsewhere = λ q e l si r h. (mine_own s q e c area.at area.left (λ x y z. si x) h.0, tt);
}
steady_own s c ws (Some at) area = record {
  others = λ q e l o h. (mine_others s q e l c area.at area.left o h.0, (block_others s c at ws q e l o h.1.0, h.1.1));
  elsewhere = λ q e l si r h. (
    mine_own s q e c area.at area.left (λ x y z. si x) h.0,
    (
      record {
        mine = mine_own s q e c at (length ws) (λ x y z. si x) h.1.0.mine;
        written = words_same s q (e ∷ q) at (length ws) (λ x y z. word_kept s.geometry q e x (λ w. r (ap (role s.geometry q) (sym w) ∙ mine_heap s q l.0 c at (length ws) x h.1.0.mine y z))) ∙ h.1.0.written;
      },
      h.1.1,
    ),
  );
}

-- a plain header's word
is_plain_word : (w d : ℕ) → header w ≡ PlainAt d → w ≡ plain_of d
unfolding header
is_plain_word w d e = by (head_of w) refl e
  where
    by_state : (st : State) (x : ℕ) → head_of w ≡ Some (record { depth = x; state = st }) → header_of (Some (record { depth = x; state = st })) ≡ PlainAt d → w ≡ plain_of d
    by_state Plain x f g = let same : x ≡ d = ap depth g in sym (head_word-head_of w (record { depth = x; state = Plain }) f).1 ∙ ap plain_of same
    by_state Splitting x f g = absurd (cc)
    by_state Filling x f g = absurd (cc)

    by : (o : Option Head) → head_of w ≡ o → header_of o ≡ PlainAt d → w ≡ plain_of d
    by None f g = absurd (cc)
    by (Some x) f g = by_state x.state x.depth f g

-- where the test of a header says that it is not plain at this depth, it is not
plain_test : (w d : ℕ) → is_plain_at d (head_in w) ≡ false → header w ≡ PlainAt d → ⊥
unfolding head_in header
plain_test w d f e = by (head_of w) f e
  where
    differ : (x d : ℕ) → x ≡ d → (x == d) ≡ false → ⊥
    differ x d e h = grind (arith, nat_tests)

    by_state : (st : State) (x : ℕ) → (is_plain st && (x == d)) ≡ false → header_of (Some (record { depth = x; state = st })) ≡ PlainAt d → ⊥
    by_state Plain x f g = differ x d (ap depth g) f
    by_state Splitting x f g = cc
    by_state Filling x f g = cc

    by : (o : Option Head) → is_plain_at d (unwrap_or o (record { depth = 0; state = Plain })) ≡ false → header_of o ≡ PlainAt d → ⊥
    by None f g = cc
    by (Some x) f g = by_state x.state x.depth f g

same_true : (d : ℕ) → (d == d) ≡ true
same_true d = grind (arith, nat_tests)

-- the table whose split is helped: a child is linked at its level
module _ (s : Setting) (c : ℕ) (u d : ℕ) (low : d < s.geometry.max_depth) where
  abbrev pub Linked : Past → Type 0
  Linked q = IsTable s.geometry q u × (child_in s.geometry q u d ≢ 0)

  small : d < 16
  small = let x = s.geometry.deep in omega arith

  linked_before : {p q : Past} → Before p q → Legal s q → Linked p → Linked q
  linked_before b l h = (table_before s.geometry b u u h.0, λ z. h.1 (sym (child_before s b l u d h.0 small h.1) ∙ z))

  plain_says : header (plain_of d) ≡ PlainAt d
  plain_says = says_plain d (omega (arith, small))

  splitting_says : header (splitting_of d) ≡ SplittingAt d
  splitting_says = says_splitting d (omega (arith, small))

  old_depth : (w : ℕ) → w ≡ plain_of d → depth (header w) ≡ d
  old_depth w e = ap depth (ap header e ∙ plain_says)

  -- a begin may follow
  module _ (q : Past) (l : Legal s q) (h : Linked q) where
    module _ (m : ℕ) (k : m < 2 * s.geometry.groups) where
      begin_meets : word_at s.geometry q (bucket_header_at u m) ≡ plain_of d → Meets s q (change_in s.geometry c q (bucket_header_at u m) (splitting_of d))
      begin_meets now = bucket_meets s c q l u m (splitting_of d) (PlainAt d) (SplittingAt d) (Some Begin) h.0 k (ap header now ∙ plain_says) splitting_says (ap (λ v. only_if v Begin) (same_true d))
          (record { below = subst (λ v. v < s.geometry.max_depth) (sym (old_depth (word_at s.geometry q (bucket_header_at u m)) now)) low; linked = subst (λ v. child_in s.geometry q u v ≢ 0) (sym (old_depth (word_at s.geometry q (bucket_header_at u m)) now)) h.1 })

      begin_quiet : word_at s.geometry q (bucket_header_at u m) ≡ plain_of d → Unchanging s c q (change_in s.geometry c q (bucket_header_at u m) (splitting_of d))
      begin_quiet now = ap (changes_by s.geometry q (change_in s.geometry c q (bucket_header_at u m) (splitting_of d))) (ap (kind_of_role s.geometry q (change_in s.geometry c q (bucket_header_at u m) (splitting_of d))) (judged_is s.geometry q (sound s q l) (bucket_header_at u m) ∙ bucket_is s.geometry q (sound s q l) u h.0 m k)
          ∙ ap (λ v. bucket_kind v (header (splitting_of d))) (ap header now ∙ plain_says) ∙ ap (bucket_kind (PlainAt d)) splitting_says ∙ ap (λ v. only_if v Begin) (same_true d))

      begin_calm : word_at s.geometry q (bucket_header_at u m) ≡ plain_of d → Calmly s c q (change_in s.geometry c q (bucket_header_at u m) (splitting_of d))
      begin_calm now = (begin_quiet now, bucket_mild s c q l u m (splitting_of d) (PlainAt d) (SplittingAt d) h.0 k (ap header now ∙ plain_says) splitting_says (if_mild (d == d) Begin refl))

      begin_silent : Silent s q (change_in s.geometry c q (bucket_header_at u m) (splitting_of d))
      begin_silent = role_silent s q (change_in s.geometry c q (bucket_header_at u m) (splitting_of d)) (BucketWord u m) (bucket_is s.geometry q (sound s q l) u h.0 m k) (λ x y. cc)

      begin_role : role s.geometry q (bucket_header_at u m) ≡ HeapWord → ⊥
      begin_role r = let x = sym (bucket_is s.geometry q (sound s q l) u h.0 m k) ∙ r in cc

    -- an open may follow where each bucket header has begun
    open_meets : ((m : ℕ) → m < 2 * s.geometry.groups → IsGone (bucket_in s.geometry q u m) d) → word_at s.geometry q (header_at u) ≡ plain_of d → Meets s q (change_in s.geometry c q (header_at u) (splitting_of d))
    open_meets begun now = header_meets s c q l u (splitting_of d) (PlainAt d) (SplittingAt d) (Some Open) h.0 (ap header now ∙ plain_says) splitting_says (ap (λ v. only_if v Open) (same_true d))
        (record {
          below = subst (λ v. v < s.geometry.max_depth) (sym od) low;
          linked = subst (λ v. child_in s.geometry q u v ≢ 0) (sym od) h.1;
          buckets = λ m k. subst (λ v. bucket_in s.geometry q u m ≡ SplittingAt v) (sym od) (exactly (bucket_in s.geometry q u m) (begun m k) (let x = bucket_depth s q l u m h.0 k in let y = old_depth (word_at s.geometry q (header_at u)) now in omega arith));
        })
      where
        od : depth (header (word_at s.geometry q (header_at u))) ≡ d
        od = old_depth (word_at s.geometry q (header_at u)) now

        exactly : (x : Header) → IsGone x d → depth x ≤ d → x ≡ SplittingAt d
        exactly (PlainAt x) g k = absurd (omega arith)
        exactly (SplittingAt x) g k = let same : x ≡ d = omega arith in ap SplittingAt same
        exactly (FillingAt x) g k = absurd (omega arith)
        exactly NoHeader g k = absurd g

    open_calm : word_at s.geometry q (header_at u) ≡ plain_of d → Calmly s c q (change_in s.geometry c q (header_at u) (splitting_of d))
    open_calm now = (
      ap (changes_by s.geometry q (change_in s.geometry c q (header_at u) (splitting_of d))) (ap (kind_of_role s.geometry q (change_in s.geometry c q (header_at u) (splitting_of d))) (judged_is s.geometry q (sound s q l) (header_at u) ∙ header_is s.geometry q (sound s q l) u h.0)
          ∙ ap (λ v. header_kind v (header (splitting_of d))) (ap header now ∙ plain_says) ∙ ap (header_kind (PlainAt d)) splitting_says ∙ ap (λ v. only_if v Open) (same_true d)),
      header_mild s c q l u (splitting_of d) (PlainAt d) (SplittingAt d) h.0 (ap header now ∙ plain_says) splitting_says (if_mild (d == d) Open refl),
    )

    open_silent : Silent s q (change_in s.geometry c q (header_at u) (splitting_of d))
    open_silent = role_silent s q (change_in s.geometry c q (header_at u) (splitting_of d)) (HeaderWord u) (header_is s.geometry q (sound s q l) u h.0) (λ x y. cc)

    open_role : role s.geometry q (header_at u) ≡ HeapWord → ⊥
    open_role r = let x = sym (header_is s.geometry q (sound s q l) u h.0) ∙ r in cc

  at_least : (x : ℕ) → x ≤ x
  at_least x = omega arith

  module _ (End : Past → Part → Type 0) (P : Past → Type 0) (sp : Steady s c P) (next : Prog Part) (f : (z : Past) → Legal s z → P z → Linked z → IsGone (header_in s.geometry z u) d → SafeIn s c z next End) where
    -- the bucket headers before number m have begun
    abbrev Begun : ℕ → Past → Type 0
    Begun m q = (k : ℕ) → k < 2 * s.geometry.groups → k < m → IsGone (bucket_in s.geometry q u k) d

    begun_before : (m : ℕ) {p q : Past} → Before p q → Legal s q → Linked p → Begun m p → Begun m q
    begun_before m b l h g k low k2 = bucket_gone_before s b l u k d h.0 low (g k low k2)

    from_safe : (n m : ℕ) → n + m ≡ 2 * s.geometry.groups → (q : Past) → Legal s q → P q → Linked q → Begun m q → SafeIn s c q (help_from u d next n m) End
    from_safe zero m e q l p h g = (header_low s q l u h.0, λ z lz sz. by z lz (steady_since s c P sp sz lz p) (linked_before (since_before sz) lz h) (begun_before m (since_before sz) lz h g))
      where
        by : (z : Past) → Legal s z → P z → Linked z → Begun m z → MayBy Calmly s c z (Swap (header_at u) (plain_of d) (splitting_of d)) (λ y found. SafeIn s c y next End)
        by z lz pz hz gz = (
          (λ now.
              let me = open_meets z lz hz (λ k low. gz k low (omega arith)) now in
              let e = change_in s.geometry c z (header_at u) (splitting_of d) in
              let is : header_in s.geometry (e ∷ z) u ≡ SplittingAt d = ap header (word_put s.geometry z e (header_at u) refl) ∙ splitting_says in
              ((me, open_calm z lz hz now), f (e ∷ z) (lz, me) (sp.elsewhere z e (lz, me) (open_silent z lz hz) (open_role z lz hz) pz) (linked_before (later here) (lz, me) hz) (subst (λ v. IsGone v d) (sym is) (at_least d)))),
          (λ other. f z lz pz hz (⊎_elim (λ (x : header_in s.geometry z u ≡ PlainAt d). absurd (other (is_plain_word (word_at s.geometry z (header_at u)) d x))) (λ x. x) (linked_header s z lz u d hz.0 small hz.1))),
        )
    from_safe (suc n) m e q l p h g = (bucket_low s q l u h.0 m (omega arith), λ z lz sz. by (λ y ly py hy r. from_safe n (m + 1) (omega arith) y ly py hy r) z lz (steady_since s c P sp sz lz p) (linked_before (since_before sz) lz h) (begun_before m (since_before sz) lz h g))
      where
        more_begun : (z : Past) → Begun m z → IsGone (bucket_in s.geometry z u m) d → Begun (m + 1) z
        more_begun z gz x k low k2 = ⊎_elim (λ (y : k ≡ m). subst (λ v. IsGone (bucket_in s.geometry z u v) d) (sym y) x) (λ (y : k ≢ m). gz k low (less k m k2 y)) (same_or_not k m)
          where
            less : (k m : ℕ) → k < m + 1 → k ≢ m → k < m
            less k m h n = ⊎_elim (λ (x : k < m). x) (λ (x : m ≤ k). absurd (n (omega arith))) (cases_lt k m)

        by : ((y : Past) → Legal s y → P y → Linked y → Begun (m + 1) y → SafeIn s c y (help_from u d next n (m + 1)) End) → (z : Past) → Legal s z → P z → Linked z → Begun m z → MayBy Calmly s c z (Swap (bucket_header_at u m) (plain_of d) (splitting_of d)) (λ y found. SafeIn s c y (help_from u d next n (m + 1)) End)
        by ih z lz pz hz gz = (
          (λ now.
              let k : m < 2 * s.geometry.groups = omega arith in
              let me = begin_meets z lz hz m k now in
              let e = change_in s.geometry c z (bucket_header_at u m) (splitting_of d) in
              let is : bucket_in s.geometry (e ∷ z) u m ≡ SplittingAt d = ap header (word_put s.geometry z e (bucket_header_at u m) refl) ∙ splitting_says in (
                (me, begin_calm z lz hz m k now),
                ih (e ∷ z) (lz, me) (sp.elsewhere z e (lz, me) (begin_silent z lz hz m k) (begin_role z lz hz m k) pz) (linked_before (later here) (lz, me) hz)
                    (more_begun (e ∷ z) (begun_before m (later here) (lz, me) hz gz) (subst (λ v. IsGone v d) (sym is) (at_least d))),
              )),
          (λ other. ih z lz pz hz (more_begun z gz (⊎_elim (λ (x : bucket_in s.geometry z u m ≡ PlainAt d). absurd (other (is_plain_word (word_at s.geometry z (bucket_header_at u m)) d x))) (λ x. x) (linked_bucket s z lz u m d hz.0 (omega arith) small hz.1)))),
        )

    pub help_safe : (q : Past) → Legal s q → P q → Linked q → SafeIn s c q (help s.geometry u d next) End
    help_safe q l p h = (
      header_low s q l u h.0,
      λ z lz sz.
          let pz = steady_since s c P sp sz lz p in
          let hz = linked_before (since_before sz) lz h in
          by_cond Calmly s c End z (is_plain_at d (head_in (word_at s.geometry z (header_at u)))) _ next
          (λ v. from_safe (2 * s.geometry.groups) 0 (plus0 (2 * s.geometry.groups)) z lz pz hz (λ k low k2. absurd (omega arith)))
          (λ v. f z lz pz hz (⊎_elim (λ (x : header_in s.geometry z u ≡ PlainAt d). absurd (plain_test (word_at s.geometry z (header_at u)) d v x)) (λ x. x) (linked_header s z lz u d hz.0 small hz.1))),
    )
      where
        plus0 : (x : ℕ) → x + 0 ≡ x
        plus0 x = omega arith
