-- The keys that a script names.
use Rattle.std.specs.Prelude.{◌≡◌, ℕ, ◌<◌, true, is_some, List, [], ◌∷◌, length, slice_get, Some, ◌⊎◌}
use Rattle.std.specs.FinMap as fin
use Rattle.map_model.specs.declared.calls.Call.{Call}
use Rattle.map_model.specs.Machine.{key_of}
use Rattle.map_model.specs.Contents.{Contents}
use Rattle.script_value.specs.Content.{Content, calls_at}

-- a key is one of these
abbrev pub IsNamed : List ℕ → List (List ℕ) → Type 0
IsNamed key [] = ⊥
IsNamed key (k ∷ keys) = (k ≡ key) ⊎ IsNamed key keys

-- each key that the map has is one of these
abbrev pub AreSeen : Contents → List (List ℕ) → Type 0
AreSeen seen keys = (key : List ℕ) → is_some (fin.get seen key) ≡ true → IsNamed key keys

-- no key of the first is left out of the second
abbrev pub AreKept : List (List ℕ) → List (List ℕ) → Type 0
AreKept keys more = (key : List ℕ) → IsNamed key keys → IsNamed key more

-- the key of each of these calls is one of these
abbrev pub AreNamed : List Call → List (List ℕ) → Type 0
AreNamed calls keys = (i : ℕ) (call : Call) → slice_get calls i ≡ Some call → IsNamed (key_of call) keys

-- so is that of each call of a script
abbrev pub NamesAll : Content → List (List ℕ) → Type 0
NamesAll c keys = (client : ℕ) → client < length c.clients → AreNamed (calls_at c client) keys
