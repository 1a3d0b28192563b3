-- What a taker leaves in the log.
use Rattle.std.specs.Prelude.{◌≡◌, ℕ, ◌+◌, List, reverse, Option, Some, None}
use Rattle.verb_log.specs.Tables.{Past, word_at}
use Rattle.verbs.specs.Logs.{Entries}
use Rattle.race_laws.specs.Setting.{Setting}
use Rattle.log_facts.specs.Mine.{Mine}

-- the client took three words and published none, and its word stands in the last
pub record Stored (s : Setting) (c word : ℕ) (q : Past) (first : ℕ) : Type 0 where
  pub mine : Mine s.geometry q c first 3
  pub stands : word_at s.geometry q (first + 2) ≡ word

-- of what it answers
abbrev pub StoredSome : Setting → ℕ → ℕ → Past → Option ℕ → Type 0
StoredSome s c word q None = Unit {0}
StoredSome s c word q (Some first) = Stored s c word q first

-- of a log in order
abbrev pub HasStored : Setting → ℕ → ℕ → Entries → ℕ → Type 0
HasStored s c word l first = Stored s c word (reverse l) first
