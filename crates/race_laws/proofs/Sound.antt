-- What every position of a legal log keeps of regions: what is taken, published and linked, and that a named block keeps
-- its words.
use Rattle.std.specs.Prelude.{◌≡◌, ◌≢◌, ℕ, ◌+◌, ◌<◌, ◌≤◌, Bool, true, false, Option, Some, None, ◌⊎◌, refl}
use Rattle.std.proofs.Common.{sym, ◌∙◌, ap, arith, ⊎_elim}
use Rattle.slot_word.specs.declared.slots.Mark.{Mark}
use Rattle.node_words.specs.declared.geometry.Geometry.{Geometry}
use Rattle.node_words.specs.Addresses.{node_size, node_of, node_at, table_words}
use Rattle.node_words.specs.Roles.{NextWord, SlotWord, HeapWord, role_in, first_table_of}
use Rattle.node_words.proofs.Sizes.{node_is, node_size_range, node_at-0}
use Rattle.node_words.proofs.FirstTables.{IsInFirst, first_is}
use Rattle.node_words.proofs.RoleLemmas.{next_role}
use Rattle.node_words.proofs.OpeningWords.{next_apart}
use Rattle.verb_log.specs.Decoded.{Body, Full, content}
use Rattle.verb_log.specs.Tables.{Past, word_at, table_of, role, is_taken, is_published, judged, judged_role}
use Rattle.race_laws.specs.Setting.{base}
use Rattle.race_laws.specs.Named.{Named}
use Rattle.race_laws.proofs.Regions.{base_from, heap_none, heap_word}

-- a taken word lies between its node's base and its node's next word
pub record IsTakenAt (g : Geometry) (past : Past) (a : ℕ) : Type 0 where
  pub node : node_of g a < g.nodes
  pub from : base g (node_of g a) ≤ a
  pub to : a < word_at g past (node_at g (node_of g a))

pub record Sound (g : Geometry) (past : Past) : Type 0 where
  pub next_from : (k : ℕ) → k < g.nodes → base g k ≤ word_at g past (node_at g k)
  pub next_to : (k : ℕ) → k < g.nodes → word_at g past (node_at g k) ≤ node_at g k + node_size g
  pub taken : (a : ℕ) → is_taken g past a ≡ true → IsTakenAt g past a
  pub published : (a : ℕ) → is_published g past a ≡ true → is_taken g past a ≡ true
  pub tables : (a t : ℕ) → table_of g past a ≡ Some t → (t ≤ a) × (a < t + table_words g) × (IsInFirst g a t ⊎ (is_published g past a ≡ true))
  pub whole : (a t : ℕ) → table_of g past a ≡ Some t → (x : ℕ) → t ≤ x → x < t + table_words g → table_of g past x ≡ Some t
  pub named : (a t p : ℕ) (m : Mark) (b : Body) → role g past a ≡ SlotWord t p → content (word_at g past a) ≡ Full m b → Named g past b

module _ (g : Geometry) (past : Past) (so : Sound g past) where
  -- an address in no first table and not published stands in no table
  pub table_none : (a : ℕ) → first_table_of g a ≡ None → (is_published g past a ≡ true → ⊥) → table_of g past a ≡ None
  table_none a f n = by (table_of g past a) refl
    where
      by : (o : Option ℕ) → table_of g past a ≡ o → table_of g past a ≡ None
      by None h = h
      by (Some t) h = absurd (⊎_elim (λ (x : IsInFirst g a t). let e = first_is g a t x in cc) (λ (x : is_published g past a ≡ true). n x) (so.tables a t h).2)

  -- the next word of a node stands in no table
  pub next_table : (k : ℕ) → k < g.nodes → table_of g past (node_at g k) ≡ None
  next_table k h = table_none (node_at g k) (next_apart g k) (λ x. below (so.taken (node_at g k) (so.published (node_at g k) x)))
    where
      below : IsTakenAt g past (node_at g k) → ⊥
      below t = let r = node_size_range g in let f = t.from in let n : node_of g (node_at g k) ≡ k = at_start r.0 in let b = base_from g (node_of g (node_at g k)) in let e = ap (node_at g) n in omega arith
        where
          at_start : 47 ≤ node_size g → node_of g (node_at g k) ≡ k
          at_start r = ap (node_of g) (zeroed (node_at g k)) ∙ node_is g k 0 (omega arith)
            where
              zeroed : (x : ℕ) → x ≡ x + 0
              zeroed x = omega arith

  -- a table is not at 0
  pub table_some : (t : ℕ) → table_of g past t ≡ Some t → t ≢ 0
  table_some t h z =
      let n = next_table 0 (positive g.some) in
      let a = ap (table_of g past) (node_at-0 g) in
      let b = ap (table_of g past) z in
      cc
    where
      positive : 1 ≤ g.nodes → 0 < g.nodes
      positive h = omega arith

  pub next_is : (k : ℕ) → k < g.nodes → role g past (node_at g k) ≡ NextWord k
  next_is k h = ap (role_in g (node_at g k)) (next_table k h) ∙ next_role g k

  -- a taken word in no table is a heap word
  pub taken_heap : (a : ℕ) → is_taken g past a ≡ true → table_of g past a ≡ None → role g past a ≡ HeapWord
  taken_heap a h n = ap (role_in g a) n ∙ heap_word g a (so.taken a h).from

  -- a taken word that is not published is a heap word
  pub fresh_none : (a : ℕ) → is_taken g past a ≡ true → is_published g past a ≡ false → table_of g past a ≡ None
  fresh_none a h n = table_none a (heap_none g a (so.taken a h).from) (λ x. cc)

  -- the table of kinds takes each word for what it is: words of tables, next words, the depth and the directory are never
  -- taken and unpublished
  pub judged_is : (a : ℕ) → judged_role g past a ≡ role g past a
  judged_is a = by (is_taken g past a) (is_published g past a) refl refl
    where
      by : (x y : Bool) → is_taken g past a ≡ x → is_published g past a ≡ y → judged x y (role g past a) ≡ role g past a
      by true false h n = sym (taken_heap a h (fresh_none a h n))
      by true true h n = refl
      by false y h n = refl

  -- the words of a named block are heap words
  pub named_heap : (b : Body) → Named g past b → (a : ℕ) → b.at ≤ a → a < b.at + b.length → role g past a ≡ HeapWord
  named_heap b n a h k = taken_heap a (so.published a (n.published a h k)) (n.outside a h k)
