-- Lists that tell for each word the oldest entries that linked its table, took it and published it.
use Rattle.std.specs.Prelude.{◌≡◌, ℕ, ◌<◌, ◌≤◌, cond, List, length, slice_index_or, Option, Some, None, option_map}
use Rattle.node_words.specs.declared.geometry.Geometry.{Geometry}
use Rattle.verb_log.specs.declared.reach.Span.{Span}
use Rattle.verb_log.specs.declared.index.Index.{Index}
use Rattle.verb_log.specs.Tables.{Past, or_else}
use Rattle.verb_log.specs.Links.{Link, link_of, take_of, publish_of}
use Rattle.verb_log.specs.Standings.{in_span}

-- a list that tells a number of each word, or none
abbrev pub TellsOf : (ℕ → Option ℕ) → List (Option ℕ) → Type 0
TellsOf number_of list = (a : ℕ) → a < length list → slice_index_or list a None ≡ number_of a

-- the number of the oldest link
abbrev pub link_number : Geometry → Past → ℕ → Option ℕ
link_number g past a = option_map (λ (link : Link). link.number) (link_of g past a)

pub record Tells (g : Geometry) (past : Past) (index : Index) : Type 0 where
  pub linked : TellsOf (link_number g past) index.linked.items
  pub taken : TellsOf (take_of g past) index.taken.items
  pub published : TellsOf (publish_of g past) index.published.items
  pub linked_long : length index.linked.items ≡ g.words
  pub taken_long : length index.taken.items ≡ g.words
  pub published_long : length index.published.items ≡ g.words

-- what is told of a word behind an entry of this number, which reaches a span
abbrev pub told_number : Span → ℕ → List (Option ℕ) → ℕ → Option ℕ
told_number span number list a = or_else (slice_index_or list a None) (cond (in_span span a) (Some number) None)

-- an entry is told for the words below an address, and not yet for the others
pub record ToldTo (span : Span) (number at : ℕ) (before after : List (Option ℕ)) : Type 0 where
  pub told : (a : ℕ) → a < length before → a < at → slice_index_or after a None ≡ told_number span number before a
  pub untold : (a : ℕ) → at ≤ a → slice_index_or after a None ≡ slice_index_or before a None
