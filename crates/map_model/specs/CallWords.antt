-- A call as words: a number for the kind, and the block of the key and the value.
use Rattle.std.specs.Prelude.{ℕ, ◌==◌, if◌then◌else◌, List, [], ◌∷◌, drop, slice_index}
use Rattle.kv_block.specs.Packing.{packed}
use Rattle.kv_block.specs.Reading.{block_key, block_value}
use Rattle.map_model.specs.declared.calls.Call.{Call}
use Rattle.map_model.specs.declared.calls.Call.TheVariants.{Insert, Search, Update, Delete, Resize}
use Rattle.map_model.specs.Machine.{key_of}

abbrev pub call_kind : Call → ℕ
call_kind (Insert key value) = 0
call_kind (Search key) = 1
call_kind (Update key value) = 2
call_kind (Delete key) = 3
call_kind (Resize key) = 4

-- the value that a call puts, and that of no byte where it puts none
abbrev pub value_put : Call → List ℕ
value_put (Insert key value) = value
value_put (Search key) = []
value_put (Update key value) = value
value_put (Delete key) = []
value_put (Resize key) = []

abbrev pub call_words : Call → List ℕ
call_words call = call_kind call ∷ packed (key_of call) (value_put call)

-- the call of this kind
abbrev pub call_of : ℕ → List ℕ → List ℕ → Call
call_of kind key value =
    if kind == 0 then Insert key value else if kind == 1 then Search key else if kind == 2 then Update key value else if kind == 3 then Delete key else Resize key

-- the call that words tell
abbrev pub call_told : List ℕ → Call
call_told words = call_of (slice_index words 0) (block_key (drop 1 words)) (block_value (drop 1 words))
