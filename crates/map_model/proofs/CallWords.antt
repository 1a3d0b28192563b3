-- A call is told by its words.
use Rattle.std.proofs.Common.{◌≡◌, refl, ◌∙◌}
use Rattle.kv_block.specs.Packing.{Pair, IsPair}
use Rattle.kv_block.proofs.ReadingLemmas.{block_key-packed, block_value-packed}
use Rattle.map_model.specs.declared.calls.Call.{Call}
use Rattle.map_model.specs.declared.calls.Call.TheVariants.{Insert, Search, Update, Delete, Resize}
use Rattle.map_model.specs.Machine.{key_of}
use Rattle.map_model.specs.CallWords.{call_kind, value_put, call_words, call_of, call_told}

call_of-kind : (c : Call) → call_of (call_kind c) (key_of c) (value_put c) ≡ c
call_of-kind (Insert key value) = refl
call_of-kind (Search key) = refl
call_of-kind (Update key value) = refl
call_of-kind (Delete key) = refl
call_of-kind (Resize key) = refl

pub told-call : (c : Call) → IsPair (record { key = key_of c; value = value_put c }) → call_told (call_words c) ≡ c
told-call c h =
    let p : Pair = record { key = key_of c; value = value_put c } in
    (λ j. call_of (call_kind c) (block_key-packed p h j) (block_value-packed p h j)) ∙ call_of-kind c

pub ruleset told_calls = (told-call)
