-- What is known of a split under way is kept by entries that use no lock of the client.
use Rattle.std.specs.Prelude.{◌≡◌, ℕ, ◌+◌, ◌^◌, ◌<◌, ◌∷◌, Option, Some, None}
use Rattle.std.proofs.Common.{sym, ◌∙◌, ap, arith, inr, ⊎_elim}
use Rattle.slot_word.specs.declared.slots.Mark.TheVariants.{Copied}
use Rattle.slot_word.specs.declared.births.Birth.{Birth}
use Rattle.verb_log.specs.declared.entry.Entry.{Entry}
use Rattle.verb_log.specs.Decoded.{Body, Full}
use Rattle.verb_log.specs.Tables.{Past, Before, here, later}
use Rattle.race_laws.specs.Setting.{Setting}
use Rattle.race_laws.specs.Standing.{birth_in, lock_in, place_in}
use Rattle.race_laws.specs.Splits.{WasClear}
use Rattle.race_laws.specs.Rows.{IsPlace}
use Rattle.race_laws.specs.Legal.{Legal}
use Rattle.race_laws.proofs.Touch.{table_stays}
use Rattle.race_laws.proofs.SoundStep.{sound}
use Rattle.race_laws.proofs.Frames.{birth_kept, child_stays}
use Rattle.race_laws.proofs.Splits.{Born}
use Rattle.race_laws.proofs.Opening.{splits}
use Rattle.race_laws.proofs.Candidates.{was_clear_later}
use Rattle.log_facts.specs.Beside.{Beside, Firm}
use Rattle.log_facts.proofs.Keeps.{keeps_lock, keeps_splitting, keeps_still, keeps_bare, keeps_copy, keeps_moved, keeps_settling}
use Rattle.split_text.specs.declared.site.Site.{Site}
use Rattle.move_laws.specs.States.{Going, Opened, Still, Bare, Stands, Busy, ReadAt, Judging, Turned}

each_later : (P : Past → Type 0) {x q : Past} {e : Entry} → Before x (e ∷ q) → P (e ∷ q) → (Before x q → P x) → P x
each_later P here h f = h
each_later P (later b) h f = f b

pub was_clear_on : (s : Setting) {p q : Past} → Before p q → (t d r : ℕ) → WasClear s p t d r → WasClear s q t d r
was_clear_on s here t d r w = w
was_clear_on s (later {e = e} b) t d r w = was_clear_later s e t d r (was_clear_on s b t d r w)

pub read_later : (s : Setting) (site : Site) (p word : ℕ) (at q : Past) (e : Entry) → Still s site.table (e ∷ q) p → ReadAt s site p word at q → ReadAt s site p word at (e ∷ q)
read_later s site p word at q e st w = record {
  before = later w.before;
  table = w.table;
  opened = w.opened;
  word_is = w.word_is;
  still = λ x a b. each_later (λ y. Still s site.table y p) b st (λ b2. w.still x a b2);
}

module _ (s : Setting) (c : ℕ) (site : Site) where
  pub small : (q : Past) → Going s c site q → site.depth < 16
  small q g = let g16 = s.geometry.deep in let b = g.below in omega arith

  pub going_born : (q : Past) → Legal s q → Going s c site q → Born s.geometry q site.table site.depth site.child
  going_born q l g = (splits s q l).born site.table site.depth site.child g.table (small q g) g.link g.some

  pub parent_lock : (q : Past) → Legal s q → Going s c site q → lock_in s.geometry q (birth_in s.geometry q site.child).parent ≡ c + 1
  parent_lock q l g = ap (lock_in s.geometry q) (going_born q l g).parent ∙ g.lock

  pub going_firm : Firm s c (Going s c site)
  going_firm q e l bs g =
      let b = going_born q l.0 g in
      let sm = small q g in
      record {
        table = table_stays s.geometry q e site.table site.table g.table;
        lock = keeps_lock s c q e l bs site.table g.table g.lock;
        below = g.below;
        link = child_stays s q e l.1 (sound s q l.0) site.table g.table site.depth sm (λ z. g.some (sym g.link ∙ z)) ∙ g.link;
        some = g.some;
        child_lock = keeps_lock s c q e l bs site.child b.table g.child_lock;
        suffix = g.suffix ∙ ap (λ (v : Birth). v.suffix + 2 ^ site.depth) (sym (birth_kept s q e l.1 (sound s q l.0) site.table g.table));
      }

  pub opened_firm : Firm s c (Opened s c site)
  opened_firm q e l bs o = record { going = going_firm q e l bs o.going; splits = keeps_splitting s c q e l bs site.table site.depth o.going.table o.going.lock o.splits }

  pub still_firm : (q : Past) (e : Entry) → Legal s (e ∷ q) → Beside s c q e → Going s c site q → (r : ℕ) → IsPlace s.geometry r → Still s site.table q r → Still s site.table (e ∷ q) r
  still_firm q e l bs g r k st = keeps_still s c q e l bs site.table r g.table k g.lock st

  pub bare_firm : (q : Past) (e : Entry) → Legal s (e ∷ q) → Beside s c q e → Going s c site q → (r : ℕ) → IsPlace s.geometry r → Bare s site.child q r → Bare s site.child (e ∷ q) r
  bare_firm q e l bs g r k st = keeps_bare s c q e l bs site.child r (going_born q l.0 g).table k (parent_lock q l.0 g) st

  stands_firm : (p : ℕ) (copy : Option ℕ) (q : Past) (e : Entry) → Legal s (e ∷ q) → Beside s c q e → Going s c site q → IsPlace s.geometry p → Still s site.table q p → Stands s site.child p copy q → Stands s site.child p copy (e ∷ q)
  stands_firm p None q e l bs g k st x = bare_firm q e l bs g p k x
  stands_firm p (Some w) q e l bs g k st x =
      let b = going_born q l.0 g in
      (x.0, x.1, keeps_copy s c q e l bs site.child p w x.0 b.table k (parent_lock q l.0 g) (λ d y. st d (ap (λ v. place_in s.geometry q v p) (sym b.parent) ∙ y)) x.1 x.2)

  pub busy_firm : (p : ℕ) (copy : Option ℕ) → IsPlace s.geometry p → Firm s c (Busy s c site p copy)
  busy_firm p copy pl q e l bs h = record {
    open_now = opened_firm q e l bs h.open_now;
    still = still_firm q e l bs h.open_now.going p pl h.still;
    stands = stands_firm p copy q e l bs h.open_now.going pl h.still h.stands;
  }

  pub judging_firm : (p word : ℕ) (copy : Option ℕ) (at : Past) → IsPlace s.geometry p → Firm s c (Judging s c site p word copy at)
  judging_firm p word copy at pl q e l bs h =
      let b = busy_firm p copy pl q e l bs h.0 in (b, read_later s site p word at q e b.still h.1)

  pub turned_firm : (p : ℕ) (b : Body) → IsPlace s.geometry p → Firm s c (Turned s c site p b)
  turned_firm p b pl q e l bs h =
      let g = h.open_now.going in
      let born = going_born q l.0 g in
      record {
        open_now = opened_firm q e l bs h.open_now;
        moved = keeps_moved s c q e l bs site.table p b g.table pl g.lock h.moved;
        copy = ⊎_elim (λ (x : place_in s.geometry q site.child p ≡ Full Copied b). keeps_settling s c q e l bs site.child p b born.table pl (parent_lock q l.0 g) x) (λ x. inr (bare_firm q e l bs g p pl x)) h.copy;
      }
