-- A whole split, and going on with one, by the text.
use Rattle.std.specs.Prelude.{◌≡◌, ℕ, ◌+◌, ◌*◌, ◌%◌, ◌^◌, ◌<◌, ◌≤◌, min, reverse, Some, None, refl}
use Rattle.std.proofs.Common.{sym, ◌∙◌, ap, subst, arith, le_refl}
use Rattle.std.proofs.Math.Nat.{mod-eq_of_lt}
use Rattle.std.proofs.lemmas.Nat.{pow-add}
use Rattle.std.proofs.Math.Nat.{pow-le-pow_right}
use Rattle.verb_log.specs.Tables.{Past, word_at}
use Rattle.verbs.specs.Programs.{Prog}
use Rattle.race_laws.specs.Setting.{Setting}
use Rattle.race_laws.specs.Standing.{birth_in}
use Rattle.race_laws.specs.Legal.{Legal}
use Rattle.race_laws.proofs.Opening.{splits}
use Rattle.log_facts.specs.Entries.{Unchanging}
use Rattle.log_facts.proofs.Directory.{birth_small}
use Rattle.pass_laws.specs.SafeIn.{SafeBy}
use Rattle.pass_laws.proofs.Bridge.{by_quiet}
use Rattle.pass_laws.proofs.Rules.{by_end, by_bind, by_kept}
use Rattle.split_text.specs.declared.site.Site.{Site}
use Rattle.split_text.specs.declared.site.SplitJob.{SplitJob}
use Rattle.split_text.specs.declared.site.Ticket.{Ticket}
use Rattle.split_text.specs.declared.begun.BeginOutcome.{BeginOutcome}
use Rattle.split_text.specs.declared.begun.BeginOutcome.TheVariants as begin_ends
use Rattle.split_text.specs.declared.resized.ResizeOutcome.{ResizeOutcome}
use Rattle.split_text.specs.declared.resized.ResizeOutcome.TheVariants.{Split, Changed, Locked, Again, FullWords}
use Rattle.split_text.specs.declared.resized.ResizeEnd.{ResizeEnd}
use Rattle.split_text.specs.Words.{low_address, cut, site_of, slot_count}
use Rattle.split_text.specs.Begin.{begin}
use Rattle.split_text.specs.Text.{slots, resume_at, resume, after_begin, resize}
use Rattle.move_laws.specs.States.{Going}
use Rattle.move_laws.proofs.Stable.{small, going_born}
use Rattle.begin_laws.specs.States.{Fresh, Untouched}
use Rattle.begin_laws.specs.Law.{MaySplit, BegunSo, HasBegun, Fewer as BegunFewer}
use Rattle.begin_laws.proofs.Untouched.{modest_free}
use Rattle.begin_laws.proofs.Whole.{low_is, begun_safe}
use Rattle.split_laws.specs.Ticket.{Fits}
use Rattle.split_laws.specs.Law.{SplitBy, EndSo, HasSplit, ResumedSo, HasResumed, IsSafeSplit, IsSafeResume, SplitIsSafe, ResumeIsSafe, Fewer}
use Rattle.split_laws.proofs.Around.{Resting}
use Rattle.split_laws.proofs.Ending.{finish_safe}
use Rattle.split_laws.proofs.Slots.{slots_safe, resumed_safe}

-- an open split has all slots to come
fresh_resting : (s : Setting) (c : ℕ) (site : Site) (q : Past) → Fresh s c site q → Resting s c site 0 q
fresh_resting s c site q h = record { open_now = h.open_now; still = h.still; bare = h.bare; done = λ k low. absurd (omega arith) }

-- the numbers of a split that is under way fit their words
pub cut_is : (s : Setting) (c : ℕ) (q : Past) → Legal s q → (site : Site) → Going s c site q → cut site ≡ site
unfolding cut
cut_is s c q l site g =
    let b = going_born s c site q l g in
    let t = low_is s q l site.table g.table in
    let u = low_is s q l site.child b.table in
    let d : min site.depth 15 ≡ site.depth = let x = small s c site q g in omega arith in
    let up = (splits s q l).upto site.table site.depth g.table (small s c site q g) (λ z. g.some (sym g.link ∙ z)) in
    let lv : (birth_in s.geometry q site.table).depth ≤ site.depth = let x = up.0 in omega arith in
    let bs : (birth_in s.geometry q site.table).suffix < 2 ^ (birth_in s.geometry q site.table).depth = birth_small (word_at s.geometry q site.table) in
    let pw : 2 ^ (birth_in s.geometry q site.table).depth ≤ 2 ^ site.depth = pow-le-pow_right (omega arith) lv in
    let two : 2 ^ (site.depth + 1) ≡ 2 ^ site.depth * 2 = pow-add 2 site.depth 1 in
    let gs = g.suffix in
    let x : site.suffix % 2 ^ (min site.depth 15 + 1) ≡ site.suffix = ap (λ v. site.suffix % 2 ^ (v + 1)) d ∙ mod-eq_of_lt (omega arith) in
    λ i. record { table = t i; depth = d i; child = u i; suffix = x i }

module _ (s : Setting) (c : ℕ) (site : Site) (from : Past) (t d most : ℕ) (et : site.table ≡ t) (ed : site.depth ≡ d) where
  -- the end of a split under way
  abbrev Ends : Past → ResizeEnd → Type 0
  Ends q e = ResumedSo s c t d q e.left e.outcome × (e.left ≤ most)

  split_end : (left : ℕ) → 1 ≤ left → left ≤ most → (z : Past) → Legal s z → SplitBy s c site.table (site.depth + 1) z → Ends z (record { outcome = Split site.table (site.depth + 1); left = left })
  split_end left lv fw z l sb = ((et, ap (λ v. v + 1) ed, subst (λ v. SplitBy s c v (d + 1) z) et (subst (λ v. SplitBy s c site.table (v + 1) z) ed sb), lv), fw)

  again_end : (ticket : Ticket) → ticket.site ≡ site → (z : Past) → Fits s c ticket z → Ends z (record { outcome = Again (Some ticket); left = 0 })
  again_end ticket e z h = ((h, ap (λ (v : Site). v.table) e ∙ et, ap (λ (v : Site). v.depth) e ∙ ed, refl), omega arith)

-- a split under way, of which the slots are to come
under_way : (s : Setting) (c : ℕ) (site : Site) (from : Past) (t d most : ℕ) → site.table ≡ t → site.depth ≡ d → (left : ℕ) → 1 ≤ left → left ≤ most → (q : Past) → Legal s q → Fresh s c site q → Untouched s c from q → SafeBy Unchanging s c q (slots s.geometry c site (slot_count s.geometry) 0 left) (λ z e. (ResumedSo s c t d z e.left e.outcome × (e.left ≤ most)) × Untouched s c from z)
under_way s c site from t d most et ed left lv fw q l h kp =
    modest_free s c from q (slots s.geometry c site (slot_count s.geometry) 0 left) (Ends s c site from t d most et ed) kp
    (slots_safe s c site most (Ends s c site from t d most et ed)
    (λ left2 z lv2 fw2 lz hz. finish_safe s c site (Ends s c site from t d most et ed) left2 (λ y ly sb. split_end s c site from t d most et ed left2 lv2 fw2 y ly sb) z lz hz)
    (λ i word standing z lz ft. again_end s c site from t d most et ed _ refl z ft)
    (slot_count s.geometry) 0 left (zero_plus (slot_count s.geometry)) lv fw q l (fresh_resting s c site q h))
  where
    zero_plus : (x : ℕ) → 0 + x ≡ x
    zero_plus x = omega arith

-- what a call that goes on with a ticket ends with, a whole split ends with
resumed_so : (s : Setting) (c : ℕ) (from : Past) (t d : ℕ) (q : Past) (left : ℕ) (o : ResizeOutcome) → ResumedSo s c t d q left o → EndSo s c from t d q left o
resumed_so s c from t d q left (Split u e) h = h
resumed_so s c from t d q left (Again (Some ticket)) h = h
resumed_so s c from t d q left (Again None) h = absurd h
resumed_so s c from t d q left Changed h = absurd h
resumed_so s c from t d q left Locked h = absurd h
resumed_so s c from t d q left (FullWords next need) h = absurd h

-- where a split that has begun ends, no more swaps may be lost
resumed_fewer : (s : Setting) (c t d : ℕ) (q : Past) (most left : ℕ) (o : ResizeOutcome) → ResumedSo s c t d q left o → left ≤ most → Fewer most left o
resumed_fewer s c t d q most left (Split u e) so le = le
resumed_fewer s c t d q most left (Again ticket) so le = le
resumed_fewer s c t d q most left Changed so le = absurd so
resumed_fewer s c t d q most left Locked so le = absurd so
resumed_fewer s c t d q most left (FullWords next need) so le = absurd so

module _ (s : Setting) (c t d x most : ℕ) (from : Past) (known : low_address t ≡ t) where
  abbrev job : SplitJob
  job = record { geometry = s.geometry; client = c; table = t; depth = d; suffix = x }

  abbrev End : Past → ResizeEnd → Type 0
  End q e = HasSplit s c t d most from q e

  -- the first half has ended so
  begun_on : (left : ℕ) (o : BeginOutcome) (q : Past) → Legal s q → BegunFewer most left o → BegunSo s job from q left o → Untouched s c from q → SafeBy Unchanging s c q (after_begin job left o) End
  begun_on left (begin_ends.Begun child) q l fw h kp =
      by_end Unchanging s c q (slots s.geometry c (site_of job child) (slot_count s.geometry) 0 left) (λ z e. (ResumedSo s c t d z e.left e.outcome × (e.left ≤ most)) × Untouched s c from z) End
      (λ z e y. record { so = resumed_so s c from t d z e.left e.outcome y.0.0; fewer = resumed_fewer s c t d z most e.left e.outcome y.0.0 y.0.1; untouched = y.1 })
      (under_way s c (site_of job child) from t d most known refl left h.1 fw q l h.0 kp)
  begun_on left begin_ends.Changed q l fw h kp = record { so = h; fewer = fw; untouched = kp }
  begun_on left begin_ends.Locked q l fw h kp = record { so = h; fewer = fw; untouched = kp }
  begun_on left begin_ends.Spent q l fw h kp = record { so = h; fewer = fw; untouched = kp }
  begun_on left (begin_ends.FullWords next need) q l fw h kp = record { so = h; fewer = fw; untouched = kp }

  split_safe : 1 ≤ most → Legal s from → MaySplit s from (record { geometry = s.geometry; client = c; table = t; depth = d; suffix = x }) → SafeBy Unchanging s c from (resize job most) End
  split_safe lv l m = by_bind Unchanging s c from (begin job most) (λ e. after_begin job e.left e.outcome) End
      (by_end Unchanging s c from (begin job most) (λ q e. HasBegun s job most from q e × Legal s q) (λ q e. SafeBy Unchanging s c q (after_begin job e.left e.outcome) End)
      (λ q e y. begun_on e.left e.outcome q y.1 y.0.fewer y.0.so y.0.untouched)
      (by_kept Unchanging s c (Legal s) (record { others = λ q e le o h. le; own = λ q e le r h. le }) from (begin job most) (λ q e. HasBegun s job most from q e) l (begun_safe s job from l m most lv)))

-- the split of a table, by any client
pub whole_safe : (s : Setting) (j : SplitJob) (from : Past) → Legal s from → MaySplit s from j → (left : ℕ) → 1 ≤ left → SafeBy Unchanging s j.client from (resize j left) (λ q e. HasSplit s j.client j.table j.depth left from q e)
whole_safe s j from l m left lv =
    subst (λ g. SafeBy Unchanging s j.client from (resize (record { geometry = g; client = j.client; table = j.table; depth = j.depth; suffix = j.suffix }) left) (λ q e. HasSplit s j.client j.table j.depth left from q e)) (sym m.geometry)
    (split_safe s j.client j.table j.depth j.suffix left from (low_is s from l j.table m.table) lv l (record { geometry = refl; table = m.table; suffix = m.suffix; low = m.low }))

-- going on with a ticket that fits
pub resume_safe : (s : Setting) (t : Ticket) (from : Past) → Legal s from → Fits s t.client t from → (left : ℕ) → 1 ≤ left → SafeBy Unchanging s t.client from (resume t left) (λ q e. HasResumed s t.client t.site.table t.site.depth left from q e)
resume_safe s t from l h left lv =
    let e = cut_is s t.client from l t.site h.around.open_now.going in
    subst (λ v. SafeBy Unchanging s t.client from (resume_at t.geometry t.client v t.slot t.word t.copy left) (λ q e. HasResumed s t.client t.site.table t.site.depth left from q e)) (sym e)
    (subst (λ g. SafeBy Unchanging s t.client from (resume_at g t.client t.site t.slot t.word t.copy left) (λ q e. HasResumed s t.client t.site.table t.site.depth left from q e)) (sym h.geometry)
    (by_end Unchanging s t.client from (resume_at s.geometry t.client t.site t.slot t.word t.copy left) (λ z e. Ends s t.client t.site from t.site.table t.site.depth left refl refl z e × Untouched s t.client from z) (λ q e. HasResumed s t.client t.site.table t.site.depth left from q e)
    (λ z e y. record { so = y.0.0; fewer = y.0.1; untouched = y.1 })
    (modest_free s t.client from from (resume_at s.geometry t.client t.site t.slot t.word t.copy left) (Ends s t.client t.site from t.site.table t.site.depth left refl refl) (λ a n m. (m, λ x g k. refl))
    (resumed_safe s t.client t.site left (Ends s t.client t.site from t.site.table t.site.depth left refl refl)
    (λ left2 z lv2 fw2 lz hz. finish_safe s t.client t.site (Ends s t.client t.site from t.site.table t.site.depth left refl refl) left2 (λ y ly sb. split_end s t.client t.site from t.site.table t.site.depth left refl refl left2 lv2 fw2 y ly sb) z lz hz)
    (λ i word standing z lz ft. again_end s t.client t.site from t.site.table t.site.depth left refl refl _ refl z ft)
    t.slot t.word t.copy left lv (le_refl left) from l
    (record { geometry = refl; client = refl; number = h.number; around = h.around; copy = h.copy; copy_is = h.copy_is; at = h.at; judging = h.judging })))))

pub split_is_safe : SplitIsSafe
split_is_safe j left s log l m lv = by_quiet Unchanging s j.client (λ q e r. r) log (resize j left) (λ q e. HasSplit s j.client j.table j.depth left (reverse log) q e) (whole_safe s j (reverse log) l m left lv)

pub resume_is_safe : ResumeIsSafe
resume_is_safe t left s log l h lv = by_quiet Unchanging s t.client (λ q e r. r) log (resume t left) (λ q e. HasResumed s t.client t.site.table t.site.depth left (reverse log) q e) (resume_safe s t (reverse log) l h left lv)

-- a program that is the split, or goes on with the ticket, is safe as it is
pub safe_as_split : (j : SplitJob) (left : ℕ) (program : Prog ResizeEnd) → program ≡ resize j left → IsSafeSplit j left program
safe_as_split j left program e = subst (IsSafeSplit j left) (sym e) (split_is_safe j left)

pub safe_as_resume : (t : Ticket) (left : ℕ) (program : Prog ResizeEnd) → program ≡ resume t left → IsSafeResume t left program
safe_as_resume t left program e = subst (IsSafeResume t left) (sym e) (resume_is_safe t left)
