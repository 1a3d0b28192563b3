-- A call of a client at its beginning.
use Rattle.std.specs.Prelude.{◌≡◌, ℕ, [], None, refl}
use Rattle.std.proofs.Common.{◌∙◌}
use Rattle.kv_block.specs.Packing.{Pair}
use Rattle.map_model.specs.Machine.{key_of}
use Rattle.map_model.specs.declared.calls.Call.{Call}
use Rattle.map_model.specs.declared.calls.Call.TheVariants.{Insert, Search, Update, Delete, Resize}
use Rattle.dir_cache.specs.Cached.{entry_of}
use Rattle.call_texts.specs.State.{State, Caller, Inserting, caller_of}
use Rattle.call_texts.specs.Text.{begin_call}
use Rattle.call_machine.specs.Tasks.{value_in}
use Rattle.call_machine.specs.Rest.{Left}
use Rattle.call_machine.specs.Beginning.{begin_from}

-- from what an insert of a client with this state starts
abbrev first_of : State → ℕ → Inserting
first_of k hash = record { start = entry_of k.cache hash; kept = None; left = k.tries; full = None; forgotten = []; area = k.area; ticket = k.ticket }

by_call : (k : State) (hash : ℕ) (call : Call) → begin_from (caller_of k hash) (record { key = key_of call; value = value_in call }) (first_of k hash) call ≡ begin_call k hash call
by_call k hash (Search key) = refl
by_call k hash (Delete key) = refl
by_call k hash (Update key value) = refl
by_call k hash (Insert key value) = refl
by_call k hash (Resize key) = refl

pub begins_so : (k : State) (hash : ℕ) (call : Call) (who : Caller) (pair : Pair) (st : Inserting) (p : Left) → p ≡ begin_from who pair st call → who ≡ caller_of k hash → pair ≡ record { key = key_of call; value = value_in call }
    → st ≡ record { start = entry_of k.cache hash; kept = None; left = k.tries; full = None; forgotten = []; area = k.area; ticket = k.ticket } → p ≡ begin_call k hash call
begins_so k hash call who pair st p h ew ep es = h ∙ (λ i. begin_from (ew i) (ep i) (es i) call) ∙ by_call k hash call

pub ruleset begun = (begins_so)
