-- A table's address stands whole in a directory word or a child word.
use Rattle.std.specs.Prelude.{◌≡◌, ℕ, ◌<◌, ◌%◌, ◌^◌}
use Rattle.std.proofs.Common.{arith}
use Rattle.node_words.specs.declared.geometry.Geometry.{Geometry}
use Rattle.verb_log.specs.Tables.{Past}
use Rattle.race_laws.specs.Standing.{IsTable}
use Rattle.race_laws.proofs.Sound.{Sound}
use Rattle.log_facts.proofs.Within.{table_small}
use Rattle.pass_text.specs.Words.{address_of}

pub table_address : (g : Geometry) (q : Past) → Sound g q → (t : ℕ) → IsTable g q t → address_of t ≡ t
unfolding address_of
table_address g q so t h = small t (table_small g q so t h)
  where
    small : (t : ℕ) → t < 2 ^ 46 → t % 2 ^ 46 ≡ t
    small t h = omega arith
