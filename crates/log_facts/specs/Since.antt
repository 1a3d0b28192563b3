-- What other clients add to a log, and the entry by which a client changes a word of it. Logs stand newest entry first.
use Rattle.std.specs.Prelude.{◌≢◌, ℕ, ◌∷◌}
use Rattle.node_words.specs.declared.geometry.Geometry.{Geometry}
use Rattle.verb_log.specs.declared.entry.Entry.{Entry}
use Rattle.verb_log.specs.Tables.{Past, word_at}

-- the entry by which client c puts a word at an address
abbrev pub change_in : Geometry → ℕ → Past → ℕ → ℕ → Entry
change_in g c q at new = record { client = c; at = at; old = word_at g q at; new = new }

-- others than client c have made the log of the log p
pub data Since (c : ℕ) (p : Past) : Past → Type 0 where
  same : Since c p p
  more : {q : Past} (e : Entry) → Since c p q → e.client ≢ c → Since c p (e ∷ q)
