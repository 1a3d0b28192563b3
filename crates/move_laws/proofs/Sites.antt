-- What the client's own entries on the slots of a place make of what is known of it.
use Rattle.std.specs.Prelude.{◌≡◌, ◌≢◌, ℕ, ◌+◌, ◌^◌, ◌≤◌, ◌∷◌, Option, None}
use Rattle.std.proofs.Common.{sym, ◌∙◌, ap, subst, inl, inr, arith}
use Rattle.slot_word.specs.declared.slots.Mark.TheVariants.{Copied, Moved}
use Rattle.slot_word.specs.declared.births.Birth.{Birth}
use Rattle.node_words.specs.Addresses.{slot_at}
use Rattle.node_words.specs.Roles.{Role, HeaderWord, LockWord, SlotWord}
use Rattle.verb_log.specs.declared.entry.Entry.{Entry}
use Rattle.verb_log.specs.Decoded.{Body, Content, Empty, Full, content}
use Rattle.verb_log.specs.Tables.{Past, here, role}
use Rattle.race_laws.specs.Setting.{Setting}
use Rattle.race_laws.specs.Standing.{header_in, birth_in, place_in, depth, IsFilling}
use Rattle.race_laws.specs.Splits.{IsOpen, WasClear}
use Rattle.race_laws.specs.Rows.{IsPlace}
use Rattle.race_laws.specs.Legal.{Legal}
use Rattle.race_laws.proofs.Touch.{table_stays, word_put}
use Rattle.race_laws.proofs.Sound.{Sound}
use Rattle.race_laws.proofs.SoundStep.{sound}
use Rattle.race_laws.proofs.Slots.{slot_is}
use Rattle.race_laws.proofs.Frames.{birth_kept, child_stays}
use Rattle.race_laws.proofs.Opening.{splits}
use Rattle.log_facts.proofs.Apart.{header_same, lock_same, slot_same, slot_role_is}
use Rattle.split_text.specs.declared.site.Site.{Site}
use Rattle.move_laws.specs.States.{Going, Opened, Bare, Stands, Busy, Turned}
use Rattle.move_laws.proofs.Stable.{going_born, small}

-- an own entry on a word that is no lock of the table and of the child
module _ (s : Setting) (q : Past) (e : Entry) (l : Legal s (e ∷ q)) (r : Role) (on : role s.geometry q e.at ≡ r) where
  pub going_own : (c : ℕ) (site : Site) → (LockWord site.table ≡ r → ⊥) → (LockWord site.child ≡ r → ⊥) → Going s c site q → Going s c site (e ∷ q)
  going_own c site n m g = record {
    table = table_stays s.geometry q e site.table site.table g.table;
    lock = lock_same s q e l r on site.table g.table n ∙ g.lock;
    below = g.below;
    link = child_stays s q e l.1 (sound s q l.0) site.table g.table site.depth (small s c site q g) (λ z. g.some (sym g.link ∙ z)) ∙ g.link;
    some = g.some;
    child_lock = lock_same s q e l r on site.child (going_born s c site q l.0 g).table m ∙ g.child_lock;
    suffix = g.suffix ∙ ap (λ (v : Birth). v.suffix + 2 ^ site.depth) (sym (birth_kept s q e l.1 (sound s q l.0) site.table g.table));
  }

  pub opened_own : (c : ℕ) (site : Site) → (LockWord site.table ≡ r → ⊥) → (LockWord site.child ≡ r → ⊥) → (HeaderWord site.table ≡ r → ⊥) → Opened s c site q → Opened s c site (e ∷ q)
  opened_own c site n m k o = record { going = going_own c site n m o.going; splits = header_same s q e l r on site.table o.going.table k ∙ o.splits }

module _ (s : Setting) (c : ℕ) (site : Site) where
  -- the child is another table
  pub child_apart : (q : Past) → Legal s q → Going s c site q → site.table ≡ site.child → ⊥
  child_apart q l g z =
      let born = going_born s c site q l g in
      let up = (splits s q l).upto site.table site.depth g.table (small s c site q g) (λ y. g.some (sym g.link ∙ y)) in
      let lv = born.level in
      let same = ap (λ v. (birth_in s.geometry q v).depth) z in
      let x = up.0 in
      omega arith

  -- it fills
  pub child_fills : (q : Past) → Legal s q → Opened s c site q → IsFilling (header_in s.geometry q site.child)
  child_fills q l o = (splits s q l).fills site.table site.depth site.child o.going.table (small s c site q o.going) o.going.link o.going.some (λ x. let y = ap depth o.splits in omega arith)

  -- a place that is empty while the split is open is clear
  pub empty_clear : (q : Past) → Opened s c site q → (p : ℕ) → place_in s.geometry q site.table p ≡ Empty → WasClear s q site.table site.depth p
  empty_clear q o p e = record {
    at = q;
    before = here;
    clear = record {
      table = o.going.table;
      opened = subst (λ v. IsOpen v site.depth) (sym o.splits) (at_least site.depth);
      clear = λ m b pr w x. let y = w.stands in absurd (cc);
    };
  }
    where
      at_least : (x : ℕ) → x ≤ x
      at_least x = omega arith

  -- an entry on the slot at a place
  module _ (z : Past) (e : Entry) (l : Legal s (e ∷ z)) (p : ℕ) (pl : IsPlace s.geometry p) where
    so : Sound s.geometry z
    so = sound s z l.0

    -- of the child
    module _ (a : e.at ≡ slot_at site.child p) (o : Opened s c site z) where
      on_child : role s.geometry z e.at ≡ SlotWord site.child p
      on_child = ap (role s.geometry z) a ∙ slot_is s.geometry z so site.child p (going_born s c site z l.0 o.going).table pl

      pub child_open : Opened s c site (e ∷ z)
      child_open = opened_own s z e l (SlotWord site.child p) on_child c site (λ x. cc) (λ x. cc) (λ x. cc) o

      pub child_table_word : (r : ℕ) → IsPlace s.geometry r → place_in s.geometry (e ∷ z) site.table r ≡ place_in s.geometry z site.table r
      child_table_word r k = ap content (slot_same s z e l (SlotWord site.child p) on_child site.table r o.going.table k (λ x. child_apart z l.0 o.going (slot_role_is site.table site.child r p x).0))

      pub child_other_word : (r : ℕ) → IsPlace s.geometry r → r ≢ p → place_in s.geometry (e ∷ z) site.child r ≡ place_in s.geometry z site.child r
      child_other_word r k n = ap content (slot_same s z e l (SlotWord site.child p) on_child site.child r (going_born s c site z l.0 o.going).table k (λ x. n (slot_role_is site.child site.child r p x).1))

    -- a copy is put there, or taken away
    pub busy_child : (copy copy2 : Option ℕ) → e.at ≡ slot_at site.child p → Busy s c site p copy z → Stands s site.child p copy2 (e ∷ z) → Busy s c site p copy2 (e ∷ z)
    busy_child copy copy2 a b st = record {
      open_now = child_open a b.open_now;
      still = λ d x. b.still d (sym (child_table_word a b.open_now p pl) ∙ x);
      stands = st;
    }

    -- a Settle
    pub turned_settled : (b : Body) → e.at ≡ slot_at site.child p → Turned s c site p b z → Bare s site.child (e ∷ z) p → Turned s c site p b (e ∷ z)
    turned_settled b a t st = record {
      open_now = child_open a t.open_now;
      moved = child_table_word a t.open_now p pl ∙ t.moved;
      copy = inr st;
    }

    -- of the table
    module _ (a : e.at ≡ slot_at site.table p) (o : Opened s c site z) where
      on_table : role s.geometry z e.at ≡ SlotWord site.table p
      on_table = ap (role s.geometry z) a ∙ slot_is s.geometry z so site.table p o.going.table pl

      pub table_open : Opened s c site (e ∷ z)
      table_open = opened_own s z e l (SlotWord site.table p) on_table c site (λ x. cc) (λ x. cc) (λ x. cc) o

      pub table_child_word : (r : ℕ) → IsPlace s.geometry r → place_in s.geometry (e ∷ z) site.child r ≡ place_in s.geometry z site.child r
      table_child_word r k = ap content (slot_same s z e l (SlotWord site.table p) on_table site.child r (going_born s c site z l.0 o.going).table k (λ x. child_apart z l.0 o.going (sym (slot_role_is site.child site.table r p x).0)))

      pub table_other_word : (r : ℕ) → IsPlace s.geometry r → r ≢ p → place_in s.geometry (e ∷ z) site.table r ≡ place_in s.geometry z site.table r
      table_other_word r k n = ap content (slot_same s z e l (SlotWord site.table p) on_table site.table r o.going.table k (λ x. n (slot_role_is site.table site.table r p x).1))

      pub table_now : (v : Content) → content e.new ≡ v → place_in s.geometry (e ∷ z) site.table p ≡ v
      table_now v h = ap content (word_put s.geometry z e (slot_at site.table p) (sym a)) ∙ h

    -- a Drop: the place is clear
    pub busy_dropped : e.at ≡ slot_at site.table p → content e.new ≡ Empty → Busy s c site p None z → Busy s c site p None (e ∷ z) × WasClear s (e ∷ z) site.table site.depth p
    busy_dropped a h b =
        let o = table_open a b.open_now in
        let now = table_now a b.open_now Empty h in (
          record {
            open_now = o;
            still = λ d x. let y = sym now ∙ x in cc;
            stands = λ d x. b.stands d (sym (table_child_word a b.open_now p pl) ∙ x);
          },
          empty_clear (e ∷ z) o p now,
        )

    -- a Flip
    pub busy_flipped : (copy : Option ℕ) (b : Body) → e.at ≡ slot_at site.table p → content e.new ≡ Full Moved b → place_in s.geometry z site.child p ≡ Full Copied b → Busy s c site p copy z → Turned s c site p b (e ∷ z)
    busy_flipped copy b a h cp y = record {
      open_now = table_open a y.open_now;
      moved = table_now a y.open_now (Full Moved b) h;
      copy = inl (table_child_word a y.open_now p pl ∙ cp);
    }
