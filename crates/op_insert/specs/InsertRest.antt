-- What is left of an insert, by its machine; and what it was started with.
use Rattle.std.specs.Prelude.{ℕ, List}
use Rattle.kv_block.specs.Packing.{packed}
use Rattle.node_words.specs.declared.geometry.Geometry.{Geometry}
use Rattle.pass_text.specs.declared.job.PassMode.TheVariants.{Look}
use Rattle.verbs.specs.Programs.{Prog}
use Rattle.op_insert.specs.declared.end.InsertEnd.{InsertEnd}
use Rattle.op_insert.specs.declared.insert_op.InsertOp.{InsertOp}
use Rattle.op_insert.specs.Text.{Inserting}
use Rattle.op_insert.specs.Rest.{inserting, at_rest}

abbrev pub insert_rest : InsertOp → Prog InsertEnd
insert_rest op = at_rest op.work op.at

abbrev pub started : InsertOp → Inserting
started op = inserting op.work

-- an insert of the key with this hash and of its value, by a client, which may lose so many swaps
abbrev pub start_of : Geometry → ℕ → ℕ → List ℕ → List ℕ → ℕ → Inserting
start_of g client hash key value tries = record {
  job = record { geometry = g; key = key; hash = hash; mode = Look };
  taking = record { geometry = g; client = client; block = packed key value };
  tries = tries;
}
