-- Where the home of a key goes by an entry, and which entries change the map.
use Rattle.std.specs.Prelude.{◌≡◌, ◌≢◌, ℕ, List, ◌∷◌, Option, Some}
use Rattle.std.proofs.Common.{sym, ◌∙◌, ap, subst, arith, ⊎_elim}
use Rattle.slot_word.specs.declared.slots.Mark.{Mark}
use Rattle.slot_word.specs.declared.slots.Mark.TheVariants.{Live, Copied, Moved}
use Rattle.slot_word.specs.declared.births.Birth.{Birth}
use Rattle.kv_block.specs.Packing.{Pair}
use Rattle.node_words.specs.Addresses.{slot_at}
use Rattle.verb_log.specs.declared.entry.Entry.{Entry}
use Rattle.verb_log.specs.declared.kind.Kind.TheVariants.{Replace, Remove, Flip}
use Rattle.verb_log.specs.Decoded.{Body, Empty, Full, content}
use Rattle.verb_log.specs.Tables.{Past, Before, word_at, pair_at, role}
use Rattle.verb_log.specs.Kinds.{kind}
use Rattle.race_laws.specs.Setting.{Setting}
use Rattle.race_laws.specs.Standing.{header_in, child_in, place_in, depth}
use Rattle.race_laws.specs.Chains.{Holder, live, copied}
use Rattle.race_laws.specs.Rows.{FlipRow}
use Rattle.race_laws.specs.Legal.{Legal}
use Rattle.race_laws.proofs.Step.{SlotStep, place, drop, commit, replace, remove, copy, uncopy, flip, settle, clear}
use Rattle.race_laws.proofs.Touch.{word_put, word_kept, table_stays}
use Rattle.race_laws.proofs.Sound.{Sound}
use Rattle.race_laws.proofs.SoundStep.{sound, sounds, fresh_packs}
use Rattle.race_laws.proofs.Slots.{slot_is, standing_named, full_same}
use Rattle.race_laws.proofs.RegionsStep.{packs_kept}
use Rattle.race_laws.proofs.Frames.{birth_kept, slot_cases}
use Rattle.race_laws.proofs.Opening.{splits}
use Rattle.race_laws.proofs.Homes.{parent_of, Stands, as_live, as_copy, Home, parent_table}

-- where a home is after an entry
pub data Onward (s : Setting) (q : Past) (e : Entry) (key : List ℕ) (t p : ℕ) (b : Body) (pr : Pair) : Type 0 where
  -- where it was, with its block
  stays : Home s (e ∷ q) key t p b pr → Onward s q e key t p b pr
  -- in the same slot, with another block
  renewed : (c : Body) (pc : Pair) → kind s.geometry q e ≡ Some Replace → slot_at t p ≡ e.at → content e.new ≡ Full Live c → Home s (e ∷ q) key t p c pc → Onward s q e key t p b pr
  -- in the same place of the child, by a Flip
  flips : (c : ℕ) → kind s.geometry q e ≡ Some Flip → slot_at t p ≡ e.at → parent_of s.geometry (e ∷ q) c ≡ t → Home s (e ∷ q) key c p b pr → Onward s q e key t p b pr
  -- nowhere
  removed : kind s.geometry q e ≡ Some Remove → slot_at t p ≡ e.at → content (word_at s.geometry q e.at) ≡ Full Live b → Onward s q e key t p b pr

module _ (s : Setting) (q : Past) (e : Entry) (l : Legal s (e ∷ q)) (key : List ℕ) (t p : ℕ) (b : Body) (pr : Pair) (hm : Home s q key t p b pr) where
  so : Sound s.geometry q
  so = sound s q l.0

  ss : (x : Past) → Before x q → Sound s.geometry x
  ss x b2 = sounds s x q b2 l.0

  old : slot_at t p ≡ e.at → (m : Mark) (c : Body) → content (word_at s.geometry q e.at) ≡ Full m c → place_in s.geometry q t p ≡ Full m c
  old z m c o = ap (λ v. content (word_at s.geometry q v)) z ∙ o

  now : slot_at t p ≡ e.at → place_in s.geometry (e ∷ q) t p ≡ content e.new
  now z = ap content (word_put s.geometry q e (slot_at t p) z)

  -- a block that stood packs the same pair
  packs_on : (m : Mark) → place_in s.geometry q t p ≡ Full m b → pair_at s.geometry (e ∷ q) b ≡ Some pr
  packs_on m st = packs_kept s q e l.1 so ss b (standing_named s.geometry q so t p m b hm.table hm.place st) ∙ hm.packs

  home_now : Stands s.geometry (e ∷ q) t p b → (m : Mark) → place_in s.geometry q t p ≡ Full m b → Home s (e ∷ q) key t p b pr
  home_now st m w = record { table = table_stays s.geometry q e t t hm.table; place = hm.place; packs = packs_on m w; same_key = hm.same_key; stands = st }

  holder_key : (c rb : Body) (rp : Pair) → place_in s.geometry q t p ≡ Full Live b → Holder s q rp.key t p rb rp → rp.key ≡ key
  holder_key c rb rp st (live u r y g wd ky ca ch) = one (ap (pair_at s.geometry q) (full_same Live Live b rb (sym st ∙ wd.stands)) ∙ wd.packs) hm.packs ∙ hm.same_key
    where
      one : {o : Option Pair} {x y : Pair} → o ≡ Some x → o ≡ Some y → x.key ≡ y.key
      one h k = cc
  holder_key c rb rp st (copied u r y g wd ky ca ta tp mo) = let zz = wd.stands in absurd (cc)

  flip_on : slot_at t p ≡ e.at → place_in s.geometry q t p ≡ Full Live b → kind s.geometry q e ≡ Some Flip → content e.new ≡ Full Moved b → FlipRow s q e t p → Onward s q e key t p b pr
  flip_on z st kd n row =
      let sp = splits s q l.0 in
      let same = full_same Live Live row.body b (sym row.word.stands ∙ st) in
      let level = ap depth row.splits in
      let ic = row.is_child in
      let below = ic.below in
      let g16 = s.geometry.deep in
      let born = sp.born t (depth (header_in s.geometry q t)) row.child hm.table (omega arith) ic.linked ic.some in
      let cp = row.copied ∙ ap (Full Copied) same in
      let apart : slot_at row.child p ≢ e.at = λ v. let w = ap (λ x. content (word_at s.geometry q x)) (v ∙ sym z) in cc in
      let cp2 : place_in s.geometry (e ∷ q) row.child p ≡ Full Copied b = ap content (word_kept s.geometry q e (slot_at row.child p) apart) ∙ cp in
      let par : parent_of s.geometry (e ∷ q) row.child ≡ t = ap (λ (x : Birth). x.parent) (birth_kept s q e l.1 so row.child born.table) ∙ born.parent in
      let mv : place_in s.geometry (e ∷ q) (parent_of s.geometry (e ∷ q) row.child) p ≡ Full Moved b = ap (λ v. place_in s.geometry (e ∷ q) v p) par ∙ now z ∙ n in
      flips row.child kd z par (record { table = table_stays s.geometry q e row.child row.child born.table; place = hm.place; packs = packs_on Live st; same_key = hm.same_key; stands = as_copy cp2 mv })

  live_on : place_in s.geometry q t p ≡ Full Live b → slot_at t p ≡ e.at → SlotStep s q e t p → Onward s q e key t p b pr
  live_on st z (place c i o n row) = let w = ap (λ v. content (word_at s.geometry q v)) z in absurd (cc)
  live_on st z (drop c i o n) = let w = ap (λ v. content (word_at s.geometry q v)) z in absurd (cc)
  live_on st z (commit c i o n row) = let w = ap (λ v. content (word_at s.geometry q v)) z in absurd (cc)
  live_on st z (replace c d i o n x row) =
      let on = ap (role s.geometry q) (sym z) ∙ slot_is s.geometry q so t p hm.table hm.place in
      let key2 = row.same_key ∙ holder_key c row.body row.pair st row.holder in
      renewed row.new_body row.new_pair i z row.word (record {
        table = table_stays s.geometry q e t t hm.table;
        place = hm.place;
        packs = fresh_packs s q e l.0 l.1 so ss t p e.client row.new_body row.new_pair on row.fresh;
        same_key = key2;
        stands = as_live (now z ∙ row.word);
      })
  live_on st z (remove c i o n row) = removed i z (subst (λ x. content (word_at s.geometry q e.at) ≡ Full Live x) (full_same Live Live c b (sym (old z Live c o) ∙ st)) o)
  live_on st z (copy c i o n row) = absurd (⊎_elim (λ (w : content (word_at s.geometry q e.at) ≡ Empty). let v = ap (λ v. content (word_at s.geometry q v)) z in cc) (λ w. let v = ap (λ v. content (word_at s.geometry q v)) z in let u = w.1 in cc) o)
  live_on st z (uncopy c i o n row) = let w = ap (λ v. content (word_at s.geometry q v)) z in absurd (cc)
  live_on st z (flip c i o n row) = flip_on z st i (n ∙ ap (Full Moved) (full_same Live Live c b (sym (old z Live c o) ∙ st))) row
  live_on st z (settle c i o n row) = let w = ap (λ v. content (word_at s.geometry q v)) z in absurd (cc)
  live_on st z (clear c i o n row) = let w = ap (λ v. content (word_at s.geometry q v)) z in absurd (cc)

  -- the moved word of an answering copy is not cleared
  not_cleared : place_in s.geometry q t p ≡ Full Copied b → place_in s.geometry q (parent_of s.geometry q t) p ≡ Full Moved b → slot_at (parent_of s.geometry q t) p ≡ e.at → SlotStep s q e (parent_of s.geometry q t) p → ⊥
  not_cleared st mo z (place c i o n row) = let w = ap (λ v. content (word_at s.geometry q v)) z in cc
  not_cleared st mo z (drop c i o n) = let w = ap (λ v. content (word_at s.geometry q v)) z in cc
  not_cleared st mo z (commit c i o n row) = let w = ap (λ v. content (word_at s.geometry q v)) z in cc
  not_cleared st mo z (replace c d i o n x row) = let w = ap (λ v. content (word_at s.geometry q v)) z in cc
  not_cleared st mo z (remove c i o n row) = let w = ap (λ v. content (word_at s.geometry q v)) z in cc
  not_cleared st mo z (copy c i o n row) = ⊎_elim (λ (w : content (word_at s.geometry q e.at) ≡ Empty). let v = ap (λ v. content (word_at s.geometry q v)) z in cc) (λ w. let v = ap (λ v. content (word_at s.geometry q v)) z in let u = w.1 in cc) o
  not_cleared st mo z (uncopy c i o n row) = let w = ap (λ v. content (word_at s.geometry q v)) z in cc
  not_cleared st mo z (flip c i o n row) = let w = ap (λ v. content (word_at s.geometry q v)) z in cc
  not_cleared st mo z (settle c i o n row) = let w = ap (λ v. content (word_at s.geometry q v)) z in cc
  not_cleared st mo z (clear c i o n row) =
      let u = (splits s q l.0).copies t p b hm.table hm.place st in
      let level = ap depth u.splits in
      let child : row.child ≡ t = sym row.is_child.linked ∙ ap (child_in s.geometry q (parent_of s.geometry q t)) level ∙ u.kin.is_child in
      let same = full_same Moved Moved row.body b (sym row.moved ∙ mo) in
      row.settled (ap (λ v. place_in s.geometry q v p) child ∙ st ∙ ap (Full Copied) (sym same))

  copy_on : place_in s.geometry q t p ≡ Full Copied b → place_in s.geometry q (parent_of s.geometry q t) p ≡ Full Moved b → slot_at t p ≡ e.at → SlotStep s q e t p → Onward s q e key t p b pr
  copy_on st mo z (place c i o n row) = let w = ap (λ v. content (word_at s.geometry q v)) z in absurd (cc)
  copy_on st mo z (drop c i o n) = let w = ap (λ v. content (word_at s.geometry q v)) z in absurd (cc)
  copy_on st mo z (commit c i o n row) = let w = ap (λ v. content (word_at s.geometry q v)) z in absurd (cc)
  copy_on st mo z (replace c d i o n x row) = let w = ap (λ v. content (word_at s.geometry q v)) z in absurd (cc)
  copy_on st mo z (remove c i o n row) = let w = ap (λ v. content (word_at s.geometry q v)) z in absurd (cc)
  copy_on st mo z (copy c i o n row) = absurd (row.not_moved b mo)
  copy_on st mo z (uncopy c i o n row) = absurd (row.not_moved b mo)
  copy_on st mo z (flip c i o n row) = let w = ap (λ v. content (word_at s.geometry q v)) z in absurd (cc)
  copy_on st mo z (settle c i o n row) =
      let same = full_same Copied Copied c b (sym (old z Copied c o) ∙ st) in
      stays (home_now (as_live (now z ∙ n ∙ ap (Full Live) same)) Copied st)
  copy_on st mo z (clear c i o n row) = let w = ap (λ v. content (word_at s.geometry q v)) z in absurd (cc)

  parent_now : parent_of s.geometry (e ∷ q) t ≡ parent_of s.geometry q t
  parent_now = ap (λ (x : Birth). x.parent) (birth_kept s q e l.1 so t hm.table)

  copy_stays : place_in s.geometry q t p ≡ Full Copied b → place_in s.geometry q (parent_of s.geometry q t) p ≡ Full Moved b → place_in s.geometry (e ∷ q) t p ≡ Full Copied b → Onward s q e key t p b pr
  copy_stays st mo cp =
      let par = parent_table s q l.0 t p b hm.table hm.place st in
      ⊎_elim
      (λ (x : place_in s.geometry (e ∷ q) (parent_of s.geometry q t) p ≡ place_in s.geometry q (parent_of s.geometry q t) p).
      stays (home_now (as_copy cp (ap (λ v. place_in s.geometry (e ∷ q) v p) parent_now ∙ x ∙ mo)) Copied st))
      (λ x. absurd (not_cleared st mo x.1 x.2)) (slot_cases s q e l.1 so (parent_of s.geometry q t) par p hm.place)

  onward_stands : Stands s.geometry q t p b → Onward s q e key t p b pr
  onward_stands (as_live st) = ⊎_elim (λ (x : place_in s.geometry (e ∷ q) t p ≡ place_in s.geometry q t p). stays (home_now (as_live (x ∙ st)) Live st)) (λ x. live_on st x.1 x.2)
      (slot_cases s q e l.1 so t hm.table p hm.place)
  onward_stands (as_copy st mo) = ⊎_elim (λ (x : place_in s.geometry (e ∷ q) t p ≡ place_in s.geometry q t p). copy_stays st mo (x ∙ st)) (λ x. copy_on st mo x.1 x.2)
      (slot_cases s q e l.1 so t hm.table p hm.place)

pub onward : (s : Setting) (q : Past) (e : Entry) → Legal s (e ∷ q) → (key : List ℕ) (t p : ℕ) (b : Body) (pr : Pair) → Home s q key t p b pr → Onward s q e key t p b pr
onward s q e l key t p b pr hm = onward_stands s q e l key t p b pr hm hm.stands
