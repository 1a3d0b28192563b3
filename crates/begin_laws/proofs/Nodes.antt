-- The nodes are tried round: each one comes before the first comes again. What was read of those that are full.
use Rattle.std.specs.Prelude.{◌≡◌, ◌≢◌, ℕ, suc, ◌+◌, ◌*◌, ◌<◌, ◌≤◌, Bool, true, false, cond, ◌==◌, List, length, slice_index, slice_set, ◌⊎◌, refl}
use Rattle.std.proofs.Common.{sym, ◌∙◌, subst, inl, inr, arith, ⊎_elim}
use Rattle.std.proofs.lemmas.Bool.Decides.{nat_tests}
use Rattle.std.proofs.lemmas.List.{get_or-set_same, get_or-set_other, length-set}
use Rattle.node_words.specs.Addresses.{node_size, node_at, table_words}
use Rattle.verb_log.specs.Tables.{Past, Before, word_at}
use Rattle.verb_log.proofs.Positions.{Before-trans}
use Rattle.race_laws.specs.Setting.{Setting}
use Rattle.race_laws.proofs.Touch.{same_or_not}
use Rattle.split_text.specs.Begin.{next_node}
use Rattle.begin_laws.specs.Law.{WasFull}

-- the next word of a node was read, or found by a lost Take
pub record WasRead (s : Setting) (from q : Past) (k next : ℕ) : Type 0 where
  pub at : Past
  pub from_then : Before from at
  pub till : Before at q
  pub read : word_at s.geometry at (node_at s.geometry k) ≡ next

-- node j is among the n nodes from k on, round
abbrev pub IsAhead : ℕ → ℕ → ℕ → ℕ → Type 0
IsAhead nodes k n j = ((k ≤ j) × (j < k + n)) ⊎ (j + nodes < k + n)

-- each node is ahead, or was full by the number that is kept of it
pub record Tried (s : Setting) (from : Past) (k n : ℕ) (nexts : List ℕ) (q : Past) : Type 0 where
  pub long : length nexts ≡ 8
  pub low : k < s.geometry.nodes
  pub each : (j : ℕ) → j < s.geometry.nodes → IsAhead s.geometry.nodes k n j ⊎ WasFull s from q j (slice_index nexts j) (table_words s.geometry)

full_on : (s : Setting) (from : Past) {q z : Past} → Before q z → (k next words : ℕ) → WasFull s from q k next words → WasFull s from z k next words
full_on s from b k next words h = record { at = h.at; from_then = h.from_then; till = Before-trans h.till b; read = h.read; past = h.past }

pub tried_on : (s : Setting) (from : Past) (k n : ℕ) (nexts : List ℕ) {q z : Past} → Before q z → Tried s from k n nexts q → Tried s from k n nexts z
tried_on s from k n nexts b h = record { long = h.long; low = h.low; each = λ j low. ⊎_elim (λ x. inl x) (λ x. inr (full_on s from b j (slice_index nexts j) (table_words s.geometry) x)) (h.each j low) }

-- node k is full, and the n nodes behind it are ahead
module _ (s : Setting) (from q : Past) (k n next : ℕ) (nexts : List ℕ) where
  equal : (x y : ℕ) → (x == y) ≡ true → x ≡ y
  equal x y h = grind (arith, nat_tests)

  turn_low : k < s.geometry.nodes → next_node s.geometry k < s.geometry.nodes
  turn_low low = by (k + 1 == s.geometry.nodes) refl
    where
      by : (v : Bool) → (k + 1 == s.geometry.nodes) ≡ v → cond v 0 (k + 1) < s.geometry.nodes
      by true e = omega arith
      by false e = grind (arith, nat_tests)

  behind : (v : Bool) → (k + 1 == s.geometry.nodes) ≡ v → (j : ℕ) → j < s.geometry.nodes → j ≢ k → IsAhead s.geometry.nodes k (suc n) j → IsAhead s.geometry.nodes (cond v 0 (k + 1)) n j
  behind true e j lj d (inl h) = absurd (let f : k + 1 ≡ s.geometry.nodes = equal (k + 1) s.geometry.nodes e in omega arith)
  behind true e j lj d (inr h) = inl (let f : k + 1 ≡ s.geometry.nodes = equal (k + 1) s.geometry.nodes e in (omega arith, omega arith))
  behind false e j lj d (inl h) = inl (omega arith, omega arith)
  behind false e j lj d (inr h) = inr (omega arith)

  pub tried_more : Tried s from k (suc n) nexts q → WasRead s from q k next → (k + 1) * node_size s.geometry < next + table_words s.geometry → Tried s from (next_node s.geometry k) n (slice_set nexts k next) q
  tried_more h r past = record {
    long = length-set nexts k next ∙ h.long;
    low = turn_low h.low;
    each = λ j lj. ⊎_elim (λ (e : j ≡ k). inr (subst (λ v. WasFull s from q v (slice_index (slice_set nexts k next) v) (table_words s.geometry)) (sym e) here_full))
        (λ (d : j ≢ k). ⊎_elim (λ x. inl (behind (k + 1 == s.geometry.nodes) refl j lj d x))
        (λ x. inr (subst (λ v. WasFull s from q j v (table_words s.geometry)) (sym (get_or-set_other nexts k j next 0 d)) x)) (h.each j lj)) (same_or_not j k);
  }
    where
      here_full : WasFull s from q k (slice_index (slice_set nexts k next) k) (table_words s.geometry)
      here_full = let few = s.geometry.few in let long = h.long in let low = h.low in
          record { at = r.at; from_then = r.from_then; till = r.till; read = r.read ∙ sym (get_or-set_same nexts k next 0 (omega arith)); past = subst (λ v. (k + 1) * node_size s.geometry < v + table_words s.geometry) (sym (get_or-set_same nexts k next 0 (omega arith))) past }
