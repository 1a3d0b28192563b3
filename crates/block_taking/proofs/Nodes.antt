-- The nodes are tried round: each one comes before the first comes again. What was read of those that are full.
use Rattle.std.specs.Prelude.{◌≡◌, ◌≢◌, ℕ, zero, suc, ◌+◌, ◌*◌, ◌<◌, ◌≤◌, Bool, true, false, cond, ◌==◌, ◌∷◌, List, length, take, slice_index, slice_set, ◌⊎◌, refl}
use Rattle.std.proofs.Common.{sym, ◌∙◌, ap, subst, inl, inr, arith, ⊎_elim}
use Rattle.std.proofs.lemmas.Bool.Decides.{nat_tests}
use Rattle.std.proofs.lemmas.List.{get_or-set_same, get_or-set_other, length-set}
use Rattle.node_words.specs.Addresses.{node_size, node_at}
use Rattle.verb_log.specs.declared.entry.Entry.{Entry}
use Rattle.verb_log.specs.Tables.{Past, Before, later, word_at}
use Rattle.race_laws.specs.Setting.{Setting}
use Rattle.race_laws.proofs.Touch.{same_or_not}
use Rattle.log_facts.proofs.Silent.{Kept}
use Rattle.block_taking.specs.declared.taking.Taking.{Taking}
use Rattle.block_taking.specs.Law.{WasFull}
use Rattle.block_taking.specs.Text.{next_node}

-- the next word of a node was read, or found by a lost Take
pub record WasRead (s : Setting) (from q : Past) (k next : ℕ) : Type 0 where
  pub at : Past
  pub from_then : Before from at
  pub till : Before at q
  pub read : word_at s.geometry at (node_at s.geometry k) ≡ next

pub kept_read : (s : Setting) (c : ℕ) (from : Past) (k next : ℕ) → Kept s c (λ q. WasRead s from q k next)
kept_read s c from k next = record {
  others = λ q e l o h. record { at = h.at; from_then = h.from_then; till = later h.till; read = h.read };
  silent = λ q e l o h. record { at = h.at; from_then = h.from_then; till = later h.till; read = h.read };
}

-- node j is among the n nodes from k on, round
abbrev pub IsAhead : ℕ → ℕ → ℕ → ℕ → Type 0
IsAhead nodes k n j = ((k ≤ j) × (j < k + n)) ⊎ (j + nodes < k + n)

-- each node is ahead, or was full by the number that is kept of it
pub record Tried (s : Setting) (from : Past) (words k n : ℕ) (nexts : List ℕ) (q : Past) : Type 0 where
  pub long : length nexts ≡ 8
  pub each : (j : ℕ) → j < s.geometry.nodes → IsAhead s.geometry.nodes k n j ⊎ WasFull s from q j (slice_index nexts j) words

full_later : (s : Setting) (from q : Past) (e : Entry) (k next words : ℕ) → WasFull s from q k next words → WasFull s from (e ∷ q) k next words
full_later s from q e k next words h = record { at = h.at; from_then = h.from_then; till = later h.till; read = h.read; past = h.past }

pub kept_tried : (s : Setting) (c : ℕ) (from : Past) (words k n : ℕ) (nexts : List ℕ) → Kept s c (Tried s from words k n nexts)
kept_tried s c from words k n nexts = record { others = λ q e l o h. by q e h; silent = λ q e l o h. by q e h }
  where
    by : (q : Past) (e : Entry) → Tried s from words k n nexts q → Tried s from words k n nexts (e ∷ q)
    by q e h = record { long = h.long; each = λ j low. ⊎_elim (λ x. inl x) (λ x. inr (full_later s from q e j (slice_index nexts j) words x)) (h.each j low) }

-- node k is full, and the n nodes behind it are ahead
module _ (s : Setting) (from q : Past) (words k n next : ℕ) (nexts : List ℕ) (t : Taking) (same : t.geometry ≡ s.geometry) (low : k < s.geometry.nodes) where
  turn : next_node t k ≡ cond (k + 1 == s.geometry.nodes) 0 (k + 1)
  turn = ap (λ (g : _). cond (k + 1 == g.nodes) 0 (k + 1)) same

  pub turn_low : next_node t k < s.geometry.nodes
  turn_low = subst (λ v. v < s.geometry.nodes) (sym turn) (by (k + 1 == s.geometry.nodes) refl)
    where
      by : (v : Bool) → (k + 1 == s.geometry.nodes) ≡ v → cond v 0 (k + 1) < s.geometry.nodes
      by true e = omega arith
      by false e = grind (arith, nat_tests)

  behind : (v : Bool) → (k + 1 == s.geometry.nodes) ≡ v → (j : ℕ) → j < s.geometry.nodes → j ≢ k → IsAhead s.geometry.nodes k (suc n) j → IsAhead s.geometry.nodes (cond v 0 (k + 1)) n j
  behind true e j lj d (inl h) = absurd (let f : k + 1 ≡ s.geometry.nodes = equal (k + 1) s.geometry.nodes e in omega arith)
    where
      equal : (x y : ℕ) → (x == y) ≡ true → x ≡ y
      equal x y h = grind (arith, nat_tests)
  behind true e j lj d (inr h) = inl (let f : k + 1 ≡ s.geometry.nodes = equal (k + 1) s.geometry.nodes e in (omega arith, omega arith))
    where
      equal : (x y : ℕ) → (x == y) ≡ true → x ≡ y
      equal x y h = grind (arith, nat_tests)
  behind false e j lj d (inl h) = inl (omega arith, omega arith)
  behind false e j lj d (inr h) = inr (omega arith)

  pub tried_more : Tried s from words k (suc n) nexts q → WasRead s from q k next → (k + 1) * node_size s.geometry < next + words → Tried s from words (next_node t k) n (slice_set nexts k next) q
  tried_more h r past = record {
    long = length-set nexts k next ∙ h.long;
    each = λ j lj. ⊎_elim (λ (e : j ≡ k). inr (subst (λ v. WasFull s from q v (slice_index (slice_set nexts k next) v) words) (sym e) here_full))
        (λ (d : j ≢ k). ⊎_elim (λ x. inl (subst (λ v. IsAhead s.geometry.nodes v n j) (sym turn) (behind (k + 1 == s.geometry.nodes) refl j lj d x)))
        (λ x. inr (subst (λ v. WasFull s from q j v words) (sym (get_or-set_other nexts k j next 0 d)) x)) (h.each j lj)) (same_or_not j k);
  }
    where
      here_full : WasFull s from q k (slice_index (slice_set nexts k next) k) words
      here_full = let few = s.geometry.few in let long = h.long in
          record { at = r.at; from_then = r.from_then; till = r.till; read = r.read ∙ sym (get_or-set_same nexts k next 0 (omega arith)); past = subst (λ v. (k + 1) * node_size s.geometry < v + words) (sym (get_or-set_same nexts k next 0 (omega arith))) past }
