-- Begin by bucket header, and Open.
use Rattle.std.specs.Prelude.{◌≡◌, ◌≢◌, ℕ, zero, suc, ◌+◌, ◌*◌, ◌<◌, ◌≤◌, ◌==◌, true, ◌∷◌, Option, Some, None, ◌⊎◌, refl}
use Rattle.std.proofs.Common.{sym, ◌∙◌, ap, subst, inl, inr, arith, ⊎_elim}
use Rattle.std.proofs.lemmas.Bool.Decides.{nat_tests}
use Rattle.slot_word.specs.declared.slots.Mark.TheVariants.{Copied, Moved}
use Rattle.slot_word.specs.declared.heads.State.{State}
use Rattle.slot_word.specs.declared.heads.State.TheVariants.{Plain, Splitting, Filling}
use Rattle.slot_word.specs.declared.heads.Head.{Head}
use Rattle.slot_word.specs.Heads.{head_of}
use Rattle.slot_word.proofs.HeadLaws.{head_word-head_of}
use Rattle.node_words.specs.Addresses.{header_at, bucket_header_at}
use Rattle.verb_log.specs.declared.entry.Entry.{Entry}
use Rattle.verb_log.specs.declared.entry.Verb.TheVariants.{Swap}
use Rattle.verb_log.specs.declared.kind.Kind.TheVariants.{Begin, Open}
use Rattle.verb_log.specs.Decoded.{Body, Full, Header, PlainAt, SplittingAt, FillingAt, NoHeader, header, header_of}
use Rattle.verb_log.specs.Tables.{Past, Before, later, word_at}
use Rattle.verb_log.specs.Kinds.{only_if}
use Rattle.race_laws.specs.Setting.{Setting}
use Rattle.race_laws.specs.Standing.{header_in, child_in, bucket_in, place_in, depth, IsGone}
use Rattle.race_laws.specs.Rows.{IsPlace}
use Rattle.race_laws.specs.Legal.{Meets, Legal}
use Rattle.race_laws.proofs.Step.{HeaderStep, open_it, finish, ripen}
use Rattle.race_laws.proofs.Touch.{word_put, same_or_not}
use Rattle.race_laws.proofs.SoundStep.{sound}
use Rattle.race_laws.proofs.Slots.{standing_named}
use Rattle.race_laws.proofs.Frames.{header_cases}
use Rattle.race_laws.proofs.Finality.{bucket_gone_before}
use Rattle.race_laws.proofs.Opening.{splits}
use Rattle.race_laws.proofs.Candidates.{moved_splits}
use Rattle.log_facts.specs.Since.{change_in}
use Rattle.log_facts.specs.Beside.{uses_lock, Beside, Firm}
use Rattle.log_facts.proofs.Growing.{since_before}
use Rattle.log_facts.proofs.Within.{header_low, bucket_low}
use Rattle.log_facts.proofs.Buckets.{bucket_depth, linked_bucket}
use Rattle.log_facts.proofs.HeadWords.{says_plain, says_splitting}
use Rattle.log_facts.proofs.Keeps.{keeps_splitting}
use Rattle.log_facts.proofs.Mild.{header_mild, bucket_mild, firm_on}
use Rattle.log_facts.proofs.Modest.{header_modest, bucket_modest}
use Rattle.log_facts.proofs.Following.{header_meets, bucket_meets}
use Rattle.pass_laws.specs.SafeIn.{MayBy, SafeBy}
use Rattle.split_text.specs.declared.site.Site.{Site}
use Rattle.split_text.specs.declared.site.SplitJob.{SplitJob}
use Rattle.split_text.specs.declared.begun.BeginOutcome.TheVariants.{Begun}
use Rattle.split_text.specs.declared.begun.BeginEnd.{BeginEnd}
use Rattle.split_text.specs.Words.{plain_of, splitting_of}
use Rattle.split_text.specs.Begin.{ended, begins}
use Rattle.move_laws.specs.States.{Going, Still, Bare}
use Rattle.move_laws.proofs.Stable.{going_born, small, going_firm, still_firm, bare_firm}
use Rattle.begin_laws.specs.States.{Fresh, Modestly}

-- the child is linked, and the split may have opened
pub record Ready (s : Setting) (c : ℕ) (site : Site) (q : Past) : Type 0 where
  pub going : Going s c site q
  pub head : (header_in s.geometry q site.table ≡ PlainAt site.depth) ⊎ (header_in s.geometry q site.table ≡ SplittingAt site.depth)
  pub still : (r : ℕ) → IsPlace s.geometry r → Still s site.table q r
  pub bare : (r : ℕ) → IsPlace s.geometry r → Bare s site.child q r

-- a word that says a plain header is that header's word
is_plain : (w d : ℕ) → header w ≡ PlainAt d → w ≡ plain_of d
unfolding header
is_plain w d e = by (head_of w) refl e
  where
    by_state : (st : State) (x : ℕ) → head_of w ≡ Some (record { depth = x; state = st }) → header_of (Some (record { depth = x; state = st })) ≡ PlainAt d → w ≡ plain_of d
    by_state Plain x f g = let same : x ≡ d = ap depth g in sym (head_word-head_of w (record { depth = x; state = Plain }) f).1 ∙ ap plain_of same
    by_state Splitting x f g = absurd (cc)
    by_state Filling x f g = absurd (cc)

    by : (o : Option Head) → head_of w ≡ o → header_of o ≡ PlainAt d → w ≡ plain_of d
    by None f g = absurd (cc)
    by (Some x) f g = by_state x.state x.depth f g

module _ (s : Setting) (c : ℕ) (site : Site) where
  -- while the header is plain no place is moved, and none of the child is a copy
  pub plain_ready : (q : Past) → Legal s q → Going s c site q → header_in s.geometry q site.table ≡ PlainAt site.depth → Ready s c site q
  plain_ready q l g w = record { going = g; head = inl w; still = λ r k b m. no_moved r k b m; bare = λ r k b m. no_copy r k b m }
    where
      no_moved : (r : ℕ) → IsPlace s.geometry r → (b : Body) → place_in s.geometry q site.table r ≡ Full Moved b → ⊥
      no_moved r k b m =
          let nm = standing_named s.geometry q (sound s q l) site.table r Moved b g.table k m in
          let x = moved_splits s q l site.table r b nm.pair g.table k (record { stands = m; packs = nm.packs }) in
          let y = sym w ∙ x.2 in cc

      no_copy : (r : ℕ) → IsPlace s.geometry r → (b : Body) → place_in s.geometry q site.child r ≡ Full Copied b → ⊥
      no_copy r k b m =
          let born = going_born s c site q l g in
          let u = (splits s q l).copies site.child r b born.table k m in
          let y = sym w ∙ ap (header_in s.geometry q) (sym born.parent) ∙ u.splits in cc

  head_firm : (q : Past) (e : Entry) → Legal s (e ∷ q) → Going s c site q → header_in s.geometry q site.table ≡ PlainAt site.depth → (header_in s.geometry (e ∷ q) site.table ≡ PlainAt site.depth) ⊎ (header_in s.geometry (e ∷ q) site.table ≡ SplittingAt site.depth)
  head_firm q e l g w = ⊎_elim (λ (x : header_in s.geometry (e ∷ q) site.table ≡ header_in s.geometry q site.table). inl (x ∙ w)) (λ x. inr (by x.0 x.1 x.2)) (header_cases s q e l.1 (sound s q l.0) site.table g.table)
    where
      by : header_in s.geometry (e ∷ q) site.table ≡ header e.new → header_at site.table ≡ e.at → HeaderStep s q e site.table → header_in s.geometry (e ∷ q) site.table ≡ SplittingAt site.depth
      by nw a (open_it d o n r) = let same : d ≡ site.depth = ap depth (sym (ap (λ v. header (word_at s.geometry q v)) a ∙ o) ∙ w) in nw ∙ n ∙ ap SplittingAt same
      by nw a (finish d o n r) = let z = ap (λ v. header (word_at s.geometry q v)) a in absurd (cc)
      by nw a (ripen d o n r) = let z = ap (λ v. header (word_at s.geometry q v)) a in absurd (cc)

  pub ready_firm : Firm s c (Ready s c site)
  ready_firm q e l bs h =
      let g = h.going in
      record {
        going = going_firm s c site q e l bs g;
        head = ⊎_elim (λ (x : header_in s.geometry q site.table ≡ PlainAt site.depth). head_firm q e l g x) (λ x. inr (keeps_splitting s c q e l bs site.table site.depth g.table g.lock x)) h.head;
        still = λ r k. still_firm s c site q e l bs g r k (h.still r k);
        bare = λ r k. bare_firm s c site q e l bs g r k (h.bare r k);
      }

  linked : (q : Past) → (g : Going s c site q) → child_in s.geometry q site.table site.depth ≢ 0
  linked q g = λ z. g.some (sym g.link ∙ z)

  same_true : (d : ℕ) → (d == d) ≡ true
  same_true d = grind (arith, nat_tests)

  at_least : (x : ℕ) → x ≤ x
  at_least x = omega arith

  exactly : (h : Header) (d : ℕ) → IsGone h d → depth h ≤ d → h ≡ SplittingAt d
  exactly (PlainAt x) d g k = absurd (omega arith)
  exactly (SplittingAt x) d g k = let same : x ≡ d = omega arith in ap SplittingAt same
  exactly (FillingAt x) d g k = absurd (omega arith)
  exactly NoHeader d g k = absurd g

  -- a Begin and an Open may follow, and use no lock
  module _ (q : Past) (l : Legal s q) (g : Going s c site q) where
    low16 : site.depth ≤ 16
    low16 = let sm = small s c site q g in omega arith

    old_depth : (w : ℕ) → w ≡ plain_of site.depth → depth (header w) ≡ site.depth
    old_depth w e = ap depth (ap header e ∙ says_plain site.depth low16)

    begin_meets : (m : ℕ) → m < 2 * s.geometry.groups → word_at s.geometry q (bucket_header_at site.table m) ≡ plain_of site.depth → Meets s q (change_in s.geometry c q (bucket_header_at site.table m) (splitting_of site.depth))
    begin_meets m k now =
        let od = old_depth (word_at s.geometry q (bucket_header_at site.table m)) now in
        bucket_meets s c q l site.table m (splitting_of site.depth) (PlainAt site.depth) (SplittingAt site.depth) (Some Begin) g.table k (ap header now ∙ says_plain site.depth low16) (says_splitting site.depth low16) (ap (λ v. only_if v Begin) (same_true site.depth))
        (record { below = subst (λ v. v < s.geometry.max_depth) (sym od) g.below; linked = subst (λ v. child_in s.geometry q site.table v ≢ 0) (sym od) (linked q g) })

    begin_beside : (m : ℕ) → m < 2 * s.geometry.groups → word_at s.geometry q (bucket_header_at site.table m) ≡ plain_of site.depth → Beside s c q (change_in s.geometry c q (bucket_header_at site.table m) (splitting_of site.depth))
    begin_beside m k now = bucket_mild s c q l site.table m (splitting_of site.depth) (PlainAt site.depth) (SplittingAt site.depth) g.table k (ap header now ∙ says_plain site.depth low16) (says_splitting site.depth low16) (ap (λ v. uses_lock (only_if v Begin)) (same_true site.depth))

    open_meets : ((m : ℕ) → m < 2 * s.geometry.groups → IsGone (bucket_in s.geometry q site.table m) site.depth) → word_at s.geometry q (header_at site.table) ≡ plain_of site.depth → Meets s q (change_in s.geometry c q (header_at site.table) (splitting_of site.depth))
    open_meets begun now =
        let od = old_depth (word_at s.geometry q (header_at site.table)) now in
        header_meets s c q l site.table (splitting_of site.depth) (PlainAt site.depth) (SplittingAt site.depth) (Some Open) g.table (ap header now ∙ says_plain site.depth low16) (says_splitting site.depth low16) (ap (λ v. only_if v Open) (same_true site.depth))
        (record {
          below = subst (λ v. v < s.geometry.max_depth) (sym od) g.below;
          linked = subst (λ v. child_in s.geometry q site.table v ≢ 0) (sym od) (linked q g);
          buckets = λ m k. subst (λ v. bucket_in s.geometry q site.table m ≡ SplittingAt v) (sym od) (exactly (bucket_in s.geometry q site.table m) site.depth (begun m k) (let x = bucket_depth s q l site.table m g.table k in omega (arith, x, od)));
        })

    open_beside : word_at s.geometry q (header_at site.table) ≡ plain_of site.depth → Beside s c q (change_in s.geometry c q (header_at site.table) (splitting_of site.depth))
    open_beside now = header_mild s c q l site.table (splitting_of site.depth) (PlainAt site.depth) (SplittingAt site.depth) g.table (ap header now ∙ says_plain site.depth low16) (says_splitting site.depth low16) (ap (λ v. uses_lock (only_if v Open)) (same_true site.depth))

  opened_fresh : (q : Past) → Ready s c site q → header_in s.geometry q site.table ≡ SplittingAt site.depth → Fresh s c site q
  opened_fresh q h w = record { open_now = record { going = h.going; splits = w }; still = h.still; bare = h.bare }

  module _ (j : SplitJob) (left : ℕ) (End : Past → BeginEnd → Type 0) (f : (z : Past) → Legal s z → Fresh s c site z → End z (record { outcome = Begun site.child; left = left })) where
    -- the bucket headers below m are begun
    abbrev Begun0 : ℕ → Past → Type 0
    Begun0 m q = (k : ℕ) → k < 2 * s.geometry.groups → k < m → IsGone (bucket_in s.geometry q site.table k) site.depth

    gone_splits : (q : Past) → Ready s c site q → IsGone (header_in s.geometry q site.table) site.depth → header_in s.geometry q site.table ≡ SplittingAt site.depth
    gone_splits q h g = ⊎_elim (λ (x : header_in s.geometry q site.table ≡ PlainAt site.depth). absurd (never (subst (λ v. IsGone v site.depth) x g))) (λ x. x) h.head
      where
        never : site.depth < site.depth → ⊥
        never k = omega arith

    pub begins_safe : (n m : ℕ) → m + n ≡ 2 * s.geometry.groups → (q : Past) → Legal s q → Ready s c site q → Begun0 m q → SafeBy Modestly s c q (begins j site left n m) End
    begins_safe zero m all q l h bg = (header_low s q l site.table h.going.table, λ z lz sz. by z lz (since_before sz) (firm_on s c (Ready s c site) ready_firm sz lz h))
      where
        by : (z : Past) → Legal s z → Before q z → Ready s c site z → MayBy Modestly s c z (Swap (header_at site.table) (plain_of site.depth) (splitting_of site.depth)) (λ n found. SafeBy Modestly s c n (ended (Begun site.child) left) End)
        by z lz bz hz = (
          (λ now.
              let me = open_meets z lz hz.going (λ k low. bucket_gone_before s bz lz site.table k site.depth h.going.table low (bg k low (omega arith))) now in
              let e = change_in s.geometry c z (header_at site.table) (splitting_of site.depth) in
              ((me, header_modest s c z lz site.table (splitting_of site.depth) hz.going.table), f (e ∷ z) (lz, me) (opened_fresh (e ∷ z) (ready_firm z e (lz, me) (open_beside z lz hz.going now) hz) (ap header (word_put s.geometry z e (header_at site.table) refl) ∙ says_splitting site.depth (low16 z lz hz.going))))),
          (λ other. f z lz (opened_fresh z hz (⊎_elim (λ (x : header_in s.geometry z site.table ≡ PlainAt site.depth). absurd (other (is_plain (word_at s.geometry z (header_at site.table)) site.depth x))) (λ x. x) hz.head))),
        )
    begins_safe (suc n) m all q l h bg = (bucket_low s q l site.table h.going.table m (omega arith), λ z lz sz. by (omega arith) (λ y ly hy r. begins_safe n (m + 1) (omega arith) y ly hy r) z lz (since_before sz) (firm_on s c (Ready s c site) ready_firm sz lz h))
      where
        rest : (z : Past) → Before q z → Legal s z → IsGone (bucket_in s.geometry z site.table m) site.depth → Begun0 (m + 1) z
        rest z bz lz g k low u = ⊎_elim (λ (y : k ≡ m). subst (λ v. IsGone (bucket_in s.geometry z site.table v) site.depth) (sym y) g) (λ (y : k ≢ m). bucket_gone_before s bz lz site.table k site.depth h.going.table low (bg k low (omega (arith, u, y)))) (same_or_not k m)

        by : m < 2 * s.geometry.groups → ((y : Past) → Legal s y → Ready s c site y → Begun0 (m + 1) y → SafeBy Modestly s c y (begins j site left n (m + 1)) End) → (z : Past) → Legal s z → Before q z → Ready s c site z → MayBy Modestly s c z (Swap (bucket_header_at site.table m) (plain_of site.depth) (splitting_of site.depth)) (λ n2 found. SafeBy Modestly s c n2 (begins j site left n (m + 1)) End)
        by k ih z lz bz hz = (
          (λ now.
              let me = begin_meets z lz hz.going m k now in
              let e = change_in s.geometry c z (bucket_header_at site.table m) (splitting_of site.depth) in
              let is : bucket_in s.geometry (e ∷ z) site.table m ≡ SplittingAt site.depth = ap header (word_put s.geometry z e (bucket_header_at site.table m) refl) ∙ says_splitting site.depth (low16 z lz hz.going) in
              ((me, bucket_modest s c z lz site.table m (splitting_of site.depth) hz.going.table k), ih (e ∷ z) (lz, me) (ready_firm z e (lz, me) (begin_beside z lz hz.going m k now) hz) (rest (e ∷ z) (later bz) (lz, me) (subst (λ v. IsGone v site.depth) (sym is) (at_least site.depth))))),
          (λ other. ih z lz hz (rest z bz lz (⊎_elim (λ (x : bucket_in s.geometry z site.table m ≡ PlainAt site.depth). absurd (other (is_plain (word_at s.geometry z (bucket_header_at site.table m)) site.depth x))) (λ x. x) (linked_bucket s z lz site.table m site.depth hz.going.table k (small s c site z hz.going) (linked z hz.going))))),
        )
