-- The terms of words that no one changes let a cache be used.
use Rattle.std.specs.Prelude.{◌≡◌, ℕ, refl}
use Rattle.std.proofs.Common.{sym, ◌∙◌, subst}
use Rattle.node_words.specs.declared.geometry.Geometry.{Geometry}
use Rattle.verb_log.specs.declared.entry.Verb.TheVariants.{Read, Swap}
use Rattle.verbs.specs.Logs.{Entries, word}
use Rattle.verbs.specs.Terms.{SeenAgain, BlocksLast, Allowed, Step}
use Rattle.block_cache.specs.Still.{StandsAt, still}

pub seen_again : (g : Geometry) → SeenAgain (still g)
seen_again g = record { among_others = λ l m same. refl; by_entry = λ before l e same rule. absurd rule }

pub blocks_last : (g : Geometry) → BlocksLast (still g)
blocks_last g = record {
  shape = λ l at words p. p.shape;
  stands = λ l at words p. p.stands;
  among_others = λ l m at words same p. subst (λ x. StandsAt g x at words) same p;
  by_entry = λ before l e at words same rule p. absurd rule;
}

-- a read leaves the log
pub read_leaves : (g : Geometry) (l m : Entries) (at answer : ℕ) → Step (still g) l (Read at) m answer → m ≡ l
read_leaves g l m at answer s = s.did.0 ∙ sym s.longer

pub read_step : (g : Geometry) (l : Entries) (at answer : ℕ) → answer ≡ word g l at → Step (still g) l (Read at) l answer
read_step g l at answer is = record { seen = l; longer = refl; did = (refl, is) }

pub swap_step : (g : Geometry) (l : Entries) (at old new answer : ℕ) → Allowed (still g) l (Swap at old new) → answer ≡ word g l at → Step (still g) l (Swap at old new) l answer
swap_step g l at old new answer allowed is = record { seen = l; longer = refl; did = (is, λ e. absurd (allowed l refl e), λ n. refl) }
