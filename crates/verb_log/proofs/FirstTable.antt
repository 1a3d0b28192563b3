-- The number of the first table in which an address stands, and what lies below an address.
use Rattle.std.proofs.Common.{◌≡◌, ℕ, ◌+◌, ◌-◌, ◌/◌, ◌^◌, ◌<◌, ◌≤◌, sym, subst, arith}
use Rattle.node_words.specs.declared.geometry.Geometry.{Geometry}
use Rattle.node_words.specs.Addresses.{table_words, first_table, first_free}
use Rattle.node_words.proofs.FirstTables.{first_table-0, cell_index}

-- an address among the first tables stands in one of them
pub cell_below : (g : Geometry) (a first : ℕ) → first ≡ first_table g 0 → first ≤ a → a < first_free g → (a - first) / table_words g < 2 ^ g.first_depth
cell_below g a first is from to =
    let e : first ≡ 2 + 2 ^ g.max_depth = (let z = first_table-0 g in omega arith) in
    subst (λ (n : ℕ). (a - n) / table_words g < 2 ^ g.first_depth) (sym e) (cell_index g a (omega arith) to)
