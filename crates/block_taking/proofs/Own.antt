-- The own entries of a taking: they publish nothing, change nothing in the map and use no lock. What is kept through them.
use Rattle.std.specs.Prelude.{◌≡◌, ◌≢◌, ℕ, ◌∷◌}
use Rattle.verb_log.specs.declared.entry.Entry.{Entry}
use Rattle.verb_log.specs.Tables.{Past}
use Rattle.race_laws.specs.Setting.{Setting}
use Rattle.race_laws.specs.Legal.{Legal}
use Rattle.log_facts.proofs.Silent.{Silent, Kept}
use Rattle.pass_laws.specs.SafeIn.{Rule, Calmly}
use Rattle.pass_laws.proofs.Rules.{Holds}

abbrev pub Quietly : Rule
Quietly s c q e = Silent s q e × Calmly s c q e

-- a fact that entries of others keep, and own entries that publish nothing
pub quietly_holds : (s : Setting) (c : ℕ) (P : Past → Type 0) → Kept s c P → Holds Quietly s c P
quietly_holds s c P k = record { others = k.others; own = λ q e l r h. k.silent q e l r.0 h }
