-- A geometry is its numbers.

use Rattle.std.proofs.Common.{◌≡◌, ℕ, ◌≤◌, ◌%◌, ◌^◌, IsTrue, ap, subst}
use Rattle.std.proofs.Props.{props}
use Rattle.node_words.specs.declared.geometry.Geometry.{Geometry}
use Rattle.node_words.specs.Limits.{is_group_count, words_needed}

-- what is known of the numbers of a geometry
abbrev pub AreWithin : ℕ → ℕ → ℕ → ℕ → ℕ → Type 0
AreWithin groups max first nodes words =
    IsTrue (is_group_count groups) × (max ≤ 16) × (first ≤ max) × (1 ≤ nodes) × (nodes ≤ 8) × (words % nodes ≡ 0) × (words ≤ 2 ^ 24) × (words_needed groups max first nodes ≤ words)

pub within_once : (groups max first nodes words : ℕ) (p q : AreWithin groups max first nodes words) → p ≡ q
within_once groups max first nodes words = hlevel props

-- the geometry with these numbers
abbrev pub geometry_of : (groups max first nodes words : ℕ) → AreWithin groups max first nodes words → Geometry
geometry_of groups max first nodes words p =
    record { groups = groups; max_depth = max; first_depth = first; nodes = nodes; words = words; grouped = p.0; deep = p.1; begins = p.2; some = p.3; few = p.4; even = p.5; within = p.6; enough = p.7 }

abbrev pub within_of : (g : Geometry) → AreWithin g.groups g.max_depth g.first_depth g.nodes g.words
within_of g = (g.grouped, g.deep, g.begins, g.some, g.few, g.even, g.within, g.enough)

-- two geometries with the same numbers are the same
pub same_geometry : (g h : Geometry) → g.groups ≡ h.groups → g.max_depth ≡ h.max_depth → g.first_depth ≡ h.first_depth → g.nodes ≡ h.nodes → g.words ≡ h.words → g ≡ h
same_geometry g h a b c d e =
    subst (λ x. (q : AreWithin x h.max_depth h.first_depth h.nodes h.words) → g ≡ geometry_of x h.max_depth h.first_depth h.nodes h.words q) a
    (subst (λ x. (q : AreWithin g.groups x h.first_depth h.nodes h.words) → g ≡ geometry_of g.groups x h.first_depth h.nodes h.words q) b
    (subst (λ x. (q : AreWithin g.groups g.max_depth x h.nodes h.words) → g ≡ geometry_of g.groups g.max_depth x h.nodes h.words q) c
    (subst (λ x. (q : AreWithin g.groups g.max_depth g.first_depth x h.words) → g ≡ geometry_of g.groups g.max_depth g.first_depth x h.words q) d
    (subst (λ x. (q : AreWithin g.groups g.max_depth g.first_depth g.nodes x) → g ≡ geometry_of g.groups g.max_depth g.first_depth g.nodes x q) e
    (λ q. ap (geometry_of g.groups g.max_depth g.first_depth g.nodes g.words) (within_once g.groups g.max_depth g.first_depth g.nodes g.words (within_of g) q))))))
    (within_of h)
