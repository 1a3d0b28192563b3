-- The next words of the nodes after a log.
use Rattle.std.specs.Prelude.{ℕ, zero, suc, List, [], ◌∷◌, ◌++◌}
use Rattle.node_words.specs.declared.geometry.Geometry.{Geometry}
use Rattle.node_words.specs.Addresses.{node_at}
use Rattle.verbs.specs.Logs.{Entries, word}

-- those of the first nodes, so many
abbrev pub nexts_of : ℕ → Geometry → Entries → List ℕ
nexts_of zero g l = []
nexts_of (suc nodes) g l = nexts_of nodes g l ++ word g l (node_at g nodes) ∷ []

abbrev pub nexts_after : Geometry → Entries → List ℕ
nexts_after g l = nexts_of g.nodes g l
