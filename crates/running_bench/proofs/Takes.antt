-- Two words may be taken at a node's next word.
use Rattle.std.specs.Prelude.{◌≡◌, ℕ, ◌+◌, ◌*◌, ◌/◌, ◌<◌, ◌≤◌, reverse}
use Rattle.std.proofs.Common.{sym, ◌∙◌, ap, subst, inl, arith}
use Rattle.node_words.specs.declared.geometry.Geometry.{Geometry}
use Rattle.node_words.specs.Addresses.{node_at, node_size}
use Rattle.verb_log.specs.declared.entry.Verb.TheVariants.{Swap}
use Rattle.verb_log.proofs.InOrder.{replay_index}
use Rattle.verbs.specs.Logs.{Entries}
use Rattle.verbs.specs.Terms.{Allowed}
use Rattle.race_laws.specs.Setting.{Setting}
use Rattle.race_laws.specs.Rows.{IsStep}
use Rattle.race_laws.specs.Legal.{Meets}
use Rattle.log_facts.specs.Among.{among}
use Rattle.log_facts.proofs.Growing.{stands_legal, change_same}
use Rattle.log_facts.proofs.Taking.{take_low, take_meets}

two : (s : Setting) → IsStep s.geometry 2
two s = inl (omega arith, omega arith)

pub take_allowed : (s : Setting) (c k n at : ℕ) (l : Entries) → at ≡ node_at s.geometry k → k < s.geometry.nodes → n + 2 ≤ (k + 1) * node_size s.geometry → Allowed (among s c) l (Swap at n (n + 2))
take_allowed s c k n at l is low room = subst (λ a. Allowed (among s c) l (Swap a n (n + 2))) (sym is)
    (λ m b stood.
    let within = take_low s k low in
    subst (Meets s (reverse m)) (sym (change_same s.geometry c m (node_at s.geometry k) (n + 2) within))
    (take_meets s c (reverse m) (stands_legal s m b.0) k n 2 low (sym (replay_index s.geometry m (node_at s.geometry k) within) ∙ stood) (two s) (omega arith) room))

pub next_low : (s : Setting) (k at : ℕ) → k < s.geometry.nodes → at ≡ node_at s.geometry k → at < s.geometry.words
next_low s k at low is = subst (λ a. a < s.geometry.words) (sym is) (take_low s k low)

-- where node k starts, and where it ends
pub node_starts : (g h : Geometry) (nodes k at : ℕ) → g ≡ h → nodes ≡ g.nodes → at ≡ k * (g.words / nodes) → at ≡ node_at h k
unfolding node_at node_size
node_starts g h nodes k at e n is = is ∙ ap (λ x. k * (g.words / x)) n ∙ ap (λ (x : Geometry). k * (x.words / x.nodes)) e

pub node_ends : (g h : Geometry) (nodes k end : ℕ) → g ≡ h → nodes ≡ g.nodes → end ≡ (k + 1) * (g.words / nodes) → end ≡ (k + 1) * node_size h
unfolding node_size
node_ends g h nodes k end e n is = is ∙ ap (λ x. (k + 1) * (g.words / x)) n ∙ ap (λ (x : Geometry). (k + 1) * (x.words / x.nodes)) e
