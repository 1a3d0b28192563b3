-- A take of free words and a store of one's own words may follow, and what they leave. On every legal log.
use Rattle.std.specs.Prelude.{[], ◌≡◌, ℕ, ◌+◌, ◌*◌, ◌<◌, ◌≤◌, Bool, true, false, not, ◌&&◌, ◌||◌, nat_le, nat_lt, ◌==◌, ◌∷◌, Some, refl}
use Rattle.std.proofs.Common.{sym, ◌∙◌, ap, subst, arith, ⊎_elim}
use Rattle.std.proofs.lemmas.Bool.Decides.{nat_tests}
use Rattle.node_words.specs.Addresses.{node_size, node_of, node_at}
use Rattle.node_words.specs.Roles.{NextWord, HeapWord}
use Rattle.node_words.proofs.Sizes.{node_ends, node_size_range, node_of-div, node_at-div}
use Rattle.verb_log.specs.declared.entry.Entry.{Entry}
use Rattle.verb_log.specs.declared.kind.Kind.TheVariants.{Store, Take}
use Rattle.verb_log.specs.Tables.{Past, word_at, role, is_taken, is_taken_by, moves_across, is_published, publishes, judged_role}
use Rattle.verb_log.specs.Changes.{changes_by}
use Rattle.verb_log.specs.Kinds.{kind, kind_of_role, only_if}
use Rattle.race_laws.specs.Setting.{Setting}
use Rattle.race_laws.specs.Rows.{IsStep}
use Rattle.race_laws.specs.Legal.{Row, Meets, Legal}
use Rattle.race_laws.proofs.Touch.{taken_by_someone, or_either}
use Rattle.race_laws.proofs.Regions.{node_between, node_end}
use Rattle.race_laws.proofs.Sound.{judged_is, Sound, next_is}
use Rattle.race_laws.proofs.SoundStep.{sound}
use Rattle.log_facts.specs.Since.{change_in}
use Rattle.log_facts.proofs.Within.{taken_within}
use Rattle.log_facts.specs.Mine.{Mine}
use Rattle.log_facts.proofs.Mine.{mine_heap}
use Rattle.log_facts.proofs.Silent.{Silent, role_silent}

pub take_low : (s : Setting) (k : ℕ) → k < s.geometry.nodes → node_at s.geometry k < s.geometry.words
take_low s k low = let e = node_ends s.geometry k low in let r = (node_size_range s.geometry).0 in omega arith

-- a take may follow, and takes
module _ (s : Setting) (c : ℕ) (q : Past) (l : Legal s q) (k n step : ℕ) (low : k < s.geometry.nodes) (now : word_at s.geometry q (node_at s.geometry k) ≡ n) (is_step : IsStep s.geometry step) (some : 0 < step) (room : n + step ≤ (k + 1) * node_size s.geometry) where
  so : Sound s.geometry q
  so = sound s q l

  abbrev taking : Entry
  taking = change_in s.geometry c q (node_at s.geometry k) (n + step)

  on_next : role s.geometry q (node_at s.geometry k) ≡ NextWord k
  on_next = next_is s.geometry q so k low

  on_next_judged : judged_role s.geometry q (node_at s.geometry k) ≡ NextWord k
  on_next_judged = judged_is s.geometry q so (node_at s.geometry k) ∙ on_next

  pub take_within : node_at s.geometry k < s.geometry.words
  take_within = let e = node_ends s.geometry k low in let r = (node_size_range s.geometry).0 in omega arith

  pub take_meets : Meets s q (change_in s.geometry c q (node_at s.geometry k) (n + step))
  take_meets = record {
    within = take_within;
    stands = refl;
    row = subst (λ v. Row s q taking v (kind_of_role s.geometry q taking v)) (sym on_next_judged)
        (subst (λ o. Row s q taking (NextWord k) o) (sym (grows (word_at s.geometry q (node_at s.geometry k)) n now))
        (record { step = step; is_step = is_step; goes_on = ap (λ v. v + step) (sym now); within = room }));
  }
    where
      grows : (w n : ℕ) → w ≡ n → only_if (nat_lt w (n + step)) Take ≡ Some Take
      grows w n e = grind (arith, nat_tests)

  pub take_quiet : changes_by s.geometry q (change_in s.geometry c q (node_at s.geometry k) (n + step)) (kind s.geometry q (change_in s.geometry c q (node_at s.geometry k) (n + step))) ≡ []
  take_quiet = ap (λ r. changes_by s.geometry q taking (kind_of_role s.geometry q taking r)) on_next_judged ∙ by (nat_lt (word_at s.geometry q (node_at s.geometry k)) (n + step))
    where
      by : (v : Bool) → changes_by s.geometry q taking (only_if v Take) ≡ []
      by true = refl
      by false = refl

  pub take_silent : Silent s q (change_in s.geometry c q (node_at s.geometry k) (n + step))
  take_silent = role_silent s q taking (NextWord k) on_next (λ x h. cc)

  pub taken_mine : Mine s.geometry (change_in s.geometry c q (node_at s.geometry k) (n + step) ∷ q) c n step
  taken_mine = record {
    taken = λ x h m. ap (λ r. (moves_across s.geometry taking r x && (c == c)) || is_taken_by s.geometry q c x) on_next_judged ∙ across x (word_at s.geometry q (node_at s.geometry k)) (node_of s.geometry x) (node_of s.geometry (node_at s.geometry k)) (is_taken_by s.geometry q c x) now (same_node x h m) h m;
    hidden = λ x h m. by x h m (is_published s.geometry (taking ∷ q) x) refl;
  }
    where
      same_node : (x : ℕ) → n ≤ x → x < n + step → node_of s.geometry x ≡ node_of s.geometry (node_at s.geometry k)
      same_node x h m =
          let from = so.next_from k low in
          let end = node_end s.geometry k in
          node_between s.geometry k x (omega arith) (omega arith) ∙ sym (node_of-div s.geometry (node_at s.geometry k) ∙ node_at-div s.geometry k)

      across : (x w i j : ℕ) (v : Bool) → w ≡ n → i ≡ j → n ≤ x → x < n + step → ((((nat_le w x && nat_lt x (n + step)) && (i == j)) && (c == c)) || v) ≡ true
      across x w i j v e f h m = grind (arith, nat_tests)

      not_before : (x : ℕ) → n ≤ x → x < n + step → is_published s.geometry q x ≡ true → ⊥
      not_before x h m y =
          let t = so.taken x (so.published x y) in
          let from = so.next_from k low in
          let end = node_end s.geometry k in
          let node = node_between s.geometry k x (omega arith) (omega arith) in
          let to = subst (λ j. x < word_at s.geometry q (node_at s.geometry j)) node t.to in
          omega arith

      by : (x : ℕ) → n ≤ x → x < n + step → (v : Bool) → is_published s.geometry (taking ∷ q) x ≡ v → is_published s.geometry (taking ∷ q) x ≡ false
      by x h m false e = e
      by x h m true e = absurd (⊎_elim (λ (z : publishes s.geometry taking (role s.geometry q taking.at) x ≡ true). take_silent x z) (λ (z : is_published s.geometry q x ≡ true). not_before x h m z) (or_either (publishes s.geometry taking (role s.geometry q taking.at) x) (is_published s.geometry q x) e))

  -- what was taken before is apart
  pub taken_apart : (a m x : ℕ) → Mine s.geometry q c a m → a ≤ x → x < a + m → n ≤ x → x < n + step → ⊥
  taken_apart a m x mine h k2 g j =
      let t = so.taken x (taken_by_someone s.geometry q c x (mine.taken x h k2)) in
      let from = so.next_from k low in
      let end = node_end s.geometry k in
      let node = node_between s.geometry k x (omega arith) (omega arith) in
      let to = subst (λ j. x < word_at s.geometry q (node_at s.geometry j)) node t.to in
      omega arith

-- a store may follow
module _ (s : Setting) (c : ℕ) (q : Past) (l : Legal s q) (a n x w : ℕ) (m : Mine s.geometry q c a n) (h : a ≤ x) (k : x < a + n) where
  abbrev storing : Entry
  storing = change_in s.geometry c q x w

  heap : role s.geometry q x ≡ HeapWord
  heap = mine_heap s q l c a n x m h k

  heap_judged : judged_role s.geometry q x ≡ HeapWord
  heap_judged = judged_is s.geometry q (sound s q l) x ∙ heap

  pub mine_within : x < s.geometry.words
  mine_within = let t = (sound s q l).taken x (taken_by_someone s.geometry q c x (m.taken x h k)) in taken_within s.geometry q (sound s q l) x (node_of s.geometry x) refl t.node t.to

  pub store_meets : Meets s q (change_in s.geometry c q x w)
  store_meets = record {
    within = mine_within;
    stands = refl;
    row = subst (λ v. Row s q storing v (kind_of_role s.geometry q storing v)) (sym heap_judged)
        (subst (λ o. Row s q storing HeapWord o) (sym (ap (λ v. only_if (v && not (is_published s.geometry q x)) Store) (taken_by_someone s.geometry q c x (m.taken x h k)) ∙ ap (λ v. only_if (true && not v) Store) (m.hidden x h k)))
        (record { taken = m.taken x h k }));
  }

  pub store_quiet : changes_by s.geometry q (change_in s.geometry c q x w) (kind s.geometry q (change_in s.geometry c q x w)) ≡ []
  store_quiet = ap (λ r. changes_by s.geometry q storing (kind_of_role s.geometry q storing r)) heap_judged ∙ by (is_taken s.geometry q x && not (is_published s.geometry q x))
    where
      by : (v : Bool) → changes_by s.geometry q storing (only_if v Store) ≡ []
      by true = refl
      by false = refl

  pub store_silent : Silent s q (change_in s.geometry c q x w)
  store_silent = role_silent s q storing HeapWord heap (λ y z. cc)
