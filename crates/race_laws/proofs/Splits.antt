-- What every position of a legal log keeps of tables, their parents and their children.
use Rattle.std.specs.Prelude.{◌≡◌, ◌≢◌, ℕ, ◌+◌, ◌-◌, ◌*◌, ◌/◌, ◌%◌, ◌^◌, ◌<◌, ◌≤◌, true, ◌&&◌, ◌==◌, ◌∷◌, None, ◌⊎◌, refl}
use Rattle.std.proofs.Common.{sym, ◌∙◌, ap, subst, inl, inr, arith, ⊎_elim}
use Rattle.std.proofs.lemmas.Bool.Decides.{nat_tests}
use Rattle.slot_word.specs.declared.slots.Mark.TheVariants.{Copied}
use Rattle.node_words.specs.declared.geometry.Geometry.{Geometry}
use Rattle.node_words.specs.Addresses.{table_words, first_table, child_at, slot_at, bucket_header_at}
use Rattle.node_words.specs.Roles.{ChildWord, SlotWord, offset_role}
use Rattle.node_words.proofs.FirstTables.{IsInFirst}
use Rattle.node_words.proofs.RoleLemmas.{child_role, slot_role, child_in as child_address}
use Rattle.verb_log.specs.declared.entry.Entry.{Entry}
use Rattle.verb_log.specs.Decoded.{Body, Empty, Full, content, SplittingAt, FillingAt, NoHeader, header, birth}
use Rattle.verb_log.specs.Tables.{Past, word_at, is_address, table_of, role, judged_role, links}
use Rattle.race_laws.specs.Setting.{Setting}
use Rattle.race_laws.specs.Standing.{IsTable, header_in, birth_in, child_in, bucket_in, place_in, depth, IsFilling, IsGone}
use Rattle.race_laws.specs.Rows.{IsPlace, IsBlank, LinkRow}
use Rattle.race_laws.specs.Legal.{Meets, Legal}
use Rattle.race_laws.proofs.Step.{StepAt, step_of}
use Rattle.race_laws.proofs.Touch.{word_kept}
use Rattle.verb_log.specs.Fits.{IsAddress}
use Rattle.verb_log.proofs.Rows.{address_test}
use Rattle.race_laws.proofs.Sound.{Sound, judged_is}
use Rattle.race_laws.proofs.SoundStep.{sound, sounds}
use Rattle.race_laws.proofs.Covers.{links_child}
use Rattle.race_laws.proofs.RegionsStep.{link_row, linked_now, table_cases}
use Rattle.race_laws.proofs.Slots.{content-0, role_by_offset}
use Rattle.race_laws.proofs.Frames.{child_is}

-- c is the child of table t at level i
pub record Born (g : Geometry) (past : Past) (t i c : ℕ) : Type 0 where
  pub table : IsTable g past c
  pub level : (birth_in g past c).depth ≡ i + 1
  pub suffix : (birth_in g past c).suffix ≡ (birth_in g past t).suffix + 2 ^ i
  pub parent : (birth_in g past c).parent ≡ t

-- a first table, with its birth
pub record IsFirst (g : Geometry) (past : Past) (c : ℕ) : Type 0 where
  pub inside : IsInFirst g c c
  pub level : (birth_in g past c).depth ≡ g.first_depth
  pub is : c ≡ first_table g (birth_in g past c).suffix
  pub parent : (birth_in g past c).parent ≡ 0

-- a table that is no first table has a parent, which names it at its level
pub record Kin (g : Geometry) (past : Past) (c : ℕ) : Type 0 where
  pub level : ℕ
  pub below : level < g.max_depth
  pub table : IsTable g past (birth_in g past c).parent
  pub born : (birth_in g past c).depth ≡ level + 1
  pub is_child : child_in g past (birth_in g past c).parent level ≡ c

-- a copy stands in a child whose parent splits at the level of the child
pub record Under (g : Geometry) (past : Past) (c : ℕ) : Type 0 where
  pub kin : Kin g past c
  pub splits : header_in g past (birth_in g past c).parent ≡ SplittingAt kin.level

pub record Splits (g : Geometry) (past : Past) : Type 0 where
  pub valid : (t : ℕ) → IsTable g past t → header_in g past t ≢ NoHeader
  pub deep : (t : ℕ) → IsTable g past t → depth (header_in g past t) ≤ g.max_depth
  pub from : (t : ℕ) → IsTable g past t → (birth_in g past t).depth ≤ depth (header_in g past t)
  pub first : (t d : ℕ) → IsTable g past t → header_in g past t ≡ FillingAt d → d ≡ (birth_in g past t).depth
  pub splitting : (t d : ℕ) → IsTable g past t → header_in g past t ≡ SplittingAt d → (d < g.max_depth) × (child_in g past t d ≢ 0)
  pub born : (t i c : ℕ) → IsTable g past t → i < 16 → child_in g past t i ≡ c → c ≢ 0 → Born g past t i c
  pub kin : (c : ℕ) → IsTable g past c → IsFirst g past c ⊎ Kin g past c
  -- where the header shows a key gone, each bucket header does
  pub heads : (t n i : ℕ) → IsTable g past t → n < 2 * g.groups → IsGone (header_in g past t) i → IsGone (bucket_in g past t n) i
  -- a child fills until its parent's split is finished
  pub fills : (t i c : ℕ) → IsTable g past t → i < 16 → child_in g past t i ≡ c → c ≢ 0 → (i < depth (header_in g past t) → ⊥) → IsFilling (header_in g past c)
  -- children are linked up to the depth, and all below it
  pub upto : (t i : ℕ) → IsTable g past t → i < 16 → child_in g past t i ≢ 0 → ((birth_in g past t).depth ≤ i) × (i ≤ depth (header_in g past t))
  pub all_below : (t i : ℕ) → IsTable g past t → (birth_in g past t).depth ≤ i → i < depth (header_in g past t) → child_in g past t i ≢ 0
  pub copies : (c p : ℕ) (b : Body) → IsTable g past c → IsPlace g p → place_in g past c p ≡ Full Copied b → Under g past c

-- an entry that links: its table, its level and its row
pub record Linked (s : Setting) (past : Past) (e : Entry) : Type 0 where
  pub table : ℕ
  pub level : ℕ
  pub is_table : IsTable s.geometry past table
  pub small : level < 16
  pub at : child_at table level ≡ e.at
  pub empty : child_in s.geometry past table level ≡ 0
  pub some : e.new ≢ 0
  pub row : LinkRow s.geometry past e table level
  pub none : (o : ℕ) → o < table_words s.geometry → table_of s.geometry past (e.new + o) ≡ None
  pub now : IsTable s.geometry (e ∷ past) e.new

module _ (s : Setting) (past : Past) (e : Entry) (l : Legal s past) (m : Meets s past e) where
  so : Sound s.geometry past
  so = sound s past l

  sn : Sound s.geometry (e ∷ past)
  sn = sound s (e ∷ past) (l, m)

  pub linked : links s.geometry e (judged_role s.geometry past e.at) ≡ true → IsTable s.geometry (e ∷ past) e.new → Linked s past e
  linked h now =
      let c = links_child s.geometry e (judged_role s.geometry past e.at) h in
      let st = subst (StepAt s past e) c.2 (step_of s past e m) in
      let a = child_address s.geometry e.at (table_of s.geometry past e.at) c.0 c.1 (sym (judged_is s.geometry past so e.at) ∙ c.2) in
      record {
        table = c.0;
        level = c.1;
        is_table = so.whole e.at c.0 a.0 c.0 (omega arith) (omega arith);
        small = a.2;
        at = sym a.1;
        empty = ap (word_at s.geometry past) (sym a.1) ∙ st.0;
        some = st.1.0;
        row = st.2;
        none = λ o k. (link_row s past e m so (λ at b. sounds s at past b l) h (e.new + o) (omega arith) (omega arith)).0;
        now = now;
      }

  -- an entry on a child word links
  pub linked_at : (t i : ℕ) → IsTable s.geometry past t → i < 16 → child_at t i ≡ e.at → child_in s.geometry past t i ≡ 0 → IsAddress s.geometry e.new → LinkRow s.geometry past e t i → (k : Linked s past e) × (k.table ≡ t) × (k.level ≡ i)
  linked_at t i h k q z n row = (
    record {
      table = t;
      level = i;
      is_table = h;
      small = k;
      at = q;
      empty = z;
      some = n.0;
      row = row;
      none = λ o x. (link_row s past e m so (λ at b. sounds s at past b l) links_it (e.new + o) (omega arith) (omega arith)).0;
      now = linked_now s past e m so (λ at b. sounds s at past b l) links_it e.new (omega arith) (omega arith);
    },
    refl,
    refl,
  )
    where
      on : role s.geometry past e.at ≡ ChildWord t i
      on = ap (role s.geometry past) (sym q) ∙ child_is s.geometry past so t h i k

      old_zero : e.old ≡ 0
      old_zero = sym m.stands ∙ ap (word_at s.geometry past) (sym q) ∙ z

      test : e.old ≡ 0 → IsAddress s.geometry e.new → ((e.old == 0) && is_address s.geometry e.new) ≡ true
      test x y = let z = address_test s.geometry e.new y in grind (arith, nat_tests)

      links_it : links s.geometry e (judged_role s.geometry past e.at) ≡ true
      links_it = ap (links s.geometry e) (judged_is s.geometry past so e.at ∙ on) ∙ test old_zero n

  -- a table of the log one longer was one, or is the one that the entry links
  pub new_table : (t : ℕ) → IsTable s.geometry (e ∷ past) t → IsTable s.geometry past t ⊎ ((t ≡ e.new) × Linked s past e)
  new_table t h = ⊎_elim (λ (x : IsTable s.geometry past t). inl x) (λ x. inr (x.3, linked x.0 (subst (IsTable s.geometry (e ∷ past)) x.3 h)))
      (table_cases s past e m so (λ at b. sounds s at past b l) t t h)

  -- the words of a new table are as they were
  pub new_word : Linked s past e → (o : ℕ) → o < table_words s.geometry → word_at s.geometry (e ∷ past) (e.new + o) ≡ word_at s.geometry past (e.new + o)
  new_word k o h = word_kept s.geometry past e (e.new + o) (λ (q : e.new + o ≡ e.at).
      let n = k.none o h in
      let inside = so.whole k.table k.table k.is_table (child_at k.table k.level) (omega arith) (room k.level k.small) in
      let r = ap (table_of s.geometry past) (q ∙ sym k.at) in
      absurd (cc))
    where
      room : (i : ℕ) → i < 16 → child_at k.table i < k.table + table_words s.geometry
      room i h = omega arith

  pub new_birth : Linked s past e → birth_in s.geometry (e ∷ past) e.new ≡ birth_in s.geometry past e.new
  new_birth k = ap birth (sym (ap (word_at s.geometry (e ∷ past)) (plus0 e.new)) ∙ new_word k 0 (omega arith) ∙ ap (word_at s.geometry past) (plus0 e.new))
    where
      plus0 : (x : ℕ) → x + 0 ≡ x
      plus0 x = omega arith

  pub new_header : Linked s past e → header_in s.geometry (e ∷ past) e.new ≡ header_in s.geometry past e.new
  new_header k = ap header (new_word k 1 (omega arith))

  pub new_bucket : Linked s past e → (n : ℕ) → n < 2 * s.geometry.groups → bucket_in s.geometry (e ∷ past) e.new n ≡ bucket_in s.geometry past e.new n
  new_bucket k n h = ap header (moved (20 + 24 * (n / 2) + 16 * (n % 2)) (within n h) (where_it_is e.new n))
    where
      within : (n : ℕ) → n < 2 * s.geometry.groups → 20 + 24 * (n / 2) + 16 * (n % 2) < table_words s.geometry
      within n h = omega arith

      where_it_is : (t n : ℕ) → t + (20 + 24 * (n / 2) + 16 * (n % 2)) ≡ bucket_header_at t n
      where_it_is t n = omega arith

      moved : (o : ℕ) → o < table_words s.geometry → e.new + o ≡ bucket_header_at e.new n → word_at s.geometry (e ∷ past) (bucket_header_at e.new n) ≡ word_at s.geometry past (bucket_header_at e.new n)
      moved o h q = sym (ap (word_at s.geometry (e ∷ past)) q) ∙ new_word k o h ∙ ap (word_at s.geometry past) q

  -- a blank word of a new table is 0
  pub new_blank : Linked s past e → (o : ℕ) → o < table_words s.geometry → IsBlank (offset_role e.new o) → word_at s.geometry (e ∷ past) (e.new + o) ≡ 0
  new_blank k o h x = new_word k o h ∙ k.row.newborn.blank o h x

  pub new_child : Linked s past e → (i : ℕ) → i < 16 → child_in s.geometry (e ∷ past) e.new i ≡ 0
  new_child k i h = sym (ap (word_at s.geometry (e ∷ past)) (there e.new i)) ∙ new_blank k (4 + i) (omega arith) (subst IsBlank (sym off) tt)
    where
      there : (t i : ℕ) → t + (4 + i) ≡ child_at t i
      there t i = omega arith

      cut : (t i : ℕ) → child_at t i - t ≡ 4 + i
      cut t i = omega arith

      off : offset_role e.new (4 + i) ≡ ChildWord e.new i
      off = sym (ap (offset_role e.new) (cut e.new i)) ∙ sym (role_by_offset s.geometry (child_at e.new i) e.new) ∙ child_role s.geometry e.new i h

  pub new_slot : Linked s past e → (p : ℕ) → IsPlace s.geometry p → place_in s.geometry (e ∷ past) e.new p ≡ Empty
  new_slot k p h = ap content (sym (ap (word_at s.geometry (e ∷ past)) (there e.new p)) ∙ new_blank k (20 + p) (within p h.0) (subst IsBlank (sym off) tt)) ∙ content-0
    where
      within : (p : ℕ) → p < 24 * s.geometry.groups → 20 + p < table_words s.geometry
      within p h = omega arith

      there : (t p : ℕ) → t + (20 + p) ≡ slot_at t p
      there t p = omega arith

      cut : (t p : ℕ) → slot_at t p - t ≡ 20 + p
      cut t p = omega arith

      off : offset_role e.new (20 + p) ≡ SlotWord e.new p
      off = sym (ap (offset_role e.new) (cut e.new p)) ∙ sym (role_by_offset s.geometry (slot_at e.new p) e.new) ∙ slot_role s.geometry e.new p h.1
