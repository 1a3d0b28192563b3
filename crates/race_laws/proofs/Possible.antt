-- A legal log is possible: in every geometry a client takes the words of a block on a node with room, and stores it.
use Rattle.std.specs.Prelude.{◌≡◌, ℕ, suc, ◌+◌, ◌<◌, ◌≤◌, Bool, true, false, cond, not, ◌&&◌, ◌||◌, nat_le, nat_lt, ◌==◌, List, [], ◌∷◌, length, Option, Some, None, refl}
use Rattle.std.proofs.Common.{sym, ◌∙◌, ap, subst, inl, arith}
use Rattle.std.proofs.lemmas.Bool.Decides.{nat_tests}
use Rattle.node_words.specs.declared.geometry.Geometry.{Geometry}
use Rattle.node_words.specs.Addresses.{node_size, node_of, node_at}
use Rattle.node_words.specs.Roles.{NextWord, HeapWord, role_in, first_table_of}
use Rattle.node_words.proofs.Sizes.{node_ends, node_size_range, node_of-div, node_at-div}
use Rattle.node_words.proofs.RoleLemmas.{next_role}
use Rattle.node_words.proofs.OpeningWords.{opening_by_role, next_apart}
use Rattle.verb_log.specs.declared.entry.Entry.{Entry}
use Rattle.verb_log.specs.declared.kind.Kind.TheVariants.{Store, Take}
use Rattle.verb_log.specs.Tables.{Past, word_at, words_at, table_of, role, linked_by, or_else, is_taken, is_taken_by, moves_across, judged, judged_role, is_published, publishes}
use Rattle.verb_log.specs.Kinds.{kind, kind_of_role, only_if}
use Rattle.race_laws.specs.Setting.{Setting, base}
use Rattle.race_laws.specs.Legal.{Row, Meets, Legal}
use Rattle.race_laws.specs.FirstInsert.{take_first, stores}
use Rattle.race_laws.proofs.Touch.{taken_by_someone, word_kept, word_put}
use Rattle.race_laws.proofs.Regions.{heap_none, heap_word, node_between, node_end}

-- a node has its next word
own_node : (g : Geometry) (k : ℕ) → node_of g (node_at g k) ≡ k
own_node g k = node_of-div g (node_at g k) ∙ node_at-div g k

-- entries on next words and heap words alone, so far
pub record IsPlainLog (g : Geometry) (c from to : ℕ) (past : Past) : Type 0 where
  pub tables : (a : ℕ) → table_of g past a ≡ first_table_of g a
  pub published : (a : ℕ) → is_published g past a ≡ false
  pub taken : (a : ℕ) → from ≤ a → a < to → is_taken_by g past c a ≡ true

module _ (s : Setting) (c k : ℕ) (low : k < s.geometry.nodes) (n : ℕ) (room : base s.geometry k + n ≤ node_at s.geometry k + node_size s.geometry) where
  next_none : table_of s.geometry [] (node_at s.geometry k) ≡ None
  next_none = next_apart s.geometry k

  next_is : role s.geometry [] (node_at s.geometry k) ≡ NextWord k
  next_is = ap (role_in s.geometry (node_at s.geometry k)) next_none ∙ next_role s.geometry k

  take_kind : 0 < n → kind s.geometry [] (take_first s.geometry c k n) ≡ Some Take
  take_kind h = ap (kind_of_role s.geometry [] (take_first s.geometry c k n)) next_is ∙ grows (base s.geometry k) n h
    where
      grows : (b m : ℕ) → 0 < m → only_if (nat_lt b (b + m)) Take ≡ Some Take
      grows b m h = grind (arith, nat_tests)

  -- the take of a block
  pub take_legal : 2 ≤ n → n ≤ 137 → Legal s (take_first s.geometry c k n ∷ [])
  take_legal two most = (
    tt,
    record {
      within = let e = node_ends s.geometry k low in let r = node_size_range s.geometry in omega arith;
      stands = opening_by_role s.geometry (node_at s.geometry k) (NextWord k) (ap (role_in s.geometry (node_at s.geometry k)) next_none ∙ next_role s.geometry k);
      row = subst (λ r. Row s [] (take_first s.geometry c k n) r (kind s.geometry [] (take_first s.geometry c k n))) (sym next_is)
          (subst (λ o. Row s [] (take_first s.geometry c k n) (NextWord k) o) (sym (take_kind (omega arith)))
          (record { step = n; is_step = inl (two, most); goes_on = refl; within = let e = node_end s.geometry k in omega arith }));
    },
  )

  pub take_plain : IsPlainLog s.geometry c (base s.geometry k) (base s.geometry k + n) (take_first s.geometry c k n ∷ [])
  take_plain = record {
    tables = λ a. ap (λ r. or_else (first_table_of s.geometry a) (linked_by s.geometry (take_first s.geometry c k n) r a)) next_is ∙ or_none (first_table_of s.geometry a);
    published = λ a. ap (λ r. publishes s.geometry (take_first s.geometry c k n) r a || false) next_is;
    taken = λ a h l. ap (λ r. (moves_across s.geometry (take_first s.geometry c k n) r a && (c == c)) || false) next_is ∙ across a h l;
  }
    where
      or_none : (o : Option ℕ) → or_else o None ≡ o
      or_none None = refl
      or_none (Some t) = refl

      across : (a : ℕ) → base s.geometry k ≤ a → a < base s.geometry k + n → ((((nat_le (base s.geometry k) a && nat_lt a (base s.geometry k + n)) && (node_of s.geometry a == node_of s.geometry (node_at s.geometry k))) && (c == c)) || false) ≡ true
      across a h l = let same = node_between s.geometry k a h (omega arith) ∙ sym (own_node s.geometry k) in grind (arith, nat_tests)

  -- a store into the taken words
  module _ (a w : ℕ) (past : Past) (from : base s.geometry k ≤ a) (to : a < base s.geometry k + n) (l : Legal s past) (p : IsPlainLog s.geometry c (base s.geometry k) (base s.geometry k + n) past) where
    entry : Entry
    entry = record { client = c; at = a; old = word_at s.geometry past a; new = w }

    node : node_of s.geometry a ≡ k
    node = node_between s.geometry k a from (omega arith)

    heap : role s.geometry past a ≡ HeapWord
    heap =
        let b = subst (λ v. base s.geometry v ≤ a) (sym node) from in
        ap (role_in s.geometry a) (p.tables a ∙ heap_none s.geometry a b) ∙ heap_word s.geometry a b

    heap_judged : judged_role s.geometry past a ≡ HeapWord
    heap_judged = ap (judged (is_taken s.geometry past a) (is_published s.geometry past a)) heap ∙ either (is_taken s.geometry past a && not (is_published s.geometry past a))
      where
        either : (b : Bool) → cond b HeapWord HeapWord ≡ HeapWord
        either true = refl
        either false = refl

    store_kind : kind s.geometry past (record { client = c; at = a; old = word_at s.geometry past a; new = w }) ≡ Some Store
    store_kind =
        ap (kind_of_role s.geometry past (record { client = c; at = a; old = word_at s.geometry past a; new = w })) heap_judged
        ∙ ap (λ x. only_if (x && not (is_published s.geometry past a)) Store) (taken_by_someone s.geometry past c a (p.taken a from to))
        ∙ ap (λ x. only_if (true && not x) Store) (p.published a)

    store_meets : Meets s past (record { client = c; at = a; old = word_at s.geometry past a; new = w })
    store_meets = record {
      within = let e = node_ends s.geometry k low in omega arith;
      stands = refl;
      row = subst (λ r. Row s past (record { client = c; at = a; old = word_at s.geometry past a; new = w }) r (kind s.geometry past (record { client = c; at = a; old = word_at s.geometry past a; new = w }))) (sym heap_judged)
          (subst (λ o. Row s past (record { client = c; at = a; old = word_at s.geometry past a; new = w }) HeapWord o) (sym store_kind) (record { taken = p.taken a from to }));
    }

    store_plain : IsPlainLog s.geometry c (base s.geometry k) (base s.geometry k + n) (record { client = c; at = a; old = word_at s.geometry past a; new = w } ∷ past)
    store_plain = record {
      tables = λ x. ap (λ r. or_else (table_of s.geometry past x) (linked_by s.geometry (record { client = c; at = a; old = word_at s.geometry past a; new = w }) r x)) heap_judged ∙ or_none (table_of s.geometry past x) ∙ p.tables x;
      published = λ x. ap (λ r. publishes s.geometry (record { client = c; at = a; old = word_at s.geometry past a; new = w }) r x || is_published s.geometry past x) heap ∙ p.published x;
      taken = λ x h m. ap (λ r. (moves_across s.geometry (record { client = c; at = a; old = word_at s.geometry past a; new = w }) r x && (c == c)) || is_taken_by s.geometry past c x) heap_judged ∙ p.taken x h m;
    }
      where
        or_none : (o : Option ℕ) → or_else o None ≡ o
        or_none None = refl
        or_none (Some t) = refl

  pub stores_legal : (a : ℕ) (ws : List ℕ) (past : Past) → base s.geometry k ≤ a → a + length ws ≤ base s.geometry k + n → Legal s past → IsPlainLog s.geometry c (base s.geometry k) (base s.geometry k + n) past → Legal s (stores s.geometry c a ws past) × IsPlainLog s.geometry c (base s.geometry k) (base s.geometry k + n) (stores s.geometry c a ws past)
  stores_legal a [] past from to l p = (l, p)
  stores_legal a (w ∷ ws) past from to l p =
      stores_legal (a + 1) ws _ (omega arith) (omega arith) (l, store_meets a w past from (omega arith) l p) (store_plain a w past from (omega arith) l p)

-- what is stored is read back
pub stores_before : (g : Geometry) (c a : ℕ) (ws : List ℕ) (past : Past) (x : ℕ) → x < a → word_at g (stores g c a ws past) x ≡ word_at g past x
stores_before g c a [] past x h = refl
stores_before g c a (w ∷ ws) past x h = stores_before g c (a + 1) ws _ x (omega arith) ∙ word_kept g past (record { client = c; at = a; old = word_at g past a; new = w }) x (λ q. omega arith)

pub stores_read : (g : Geometry) (c a : ℕ) (ws : List ℕ) (past : Past) → words_at g (stores g c a ws past) a (length ws) ≡ ws
stores_read g c a [] past = refl
stores_read g c a (w ∷ ws) past =
    ap (λ v. v ∷ words_at g (stores g c (a + 1) ws (record { client = c; at = a; old = word_at g past a; new = w } ∷ past)) (suc a) (length ws)) (stores_before g c (a + 1) ws _ a (omega arith) ∙ word_put g past (record { client = c; at = a; old = word_at g past a; new = w }) a refl)
    ∙ ap (λ vs. w ∷ vs) (ap (λ v. words_at g (stores g c (a + 1) ws (record { client = c; at = a; old = word_at g past a; new = w } ∷ past)) v (length ws)) (one_more a) ∙ stores_read g c (a + 1) ws _)
  where
    one_more : (a : ℕ) → suc a ≡ a + 1
    one_more a = omega arith
