-- The places of a key's changes among all changes.
use Rattle.std.specs.Prelude.{◌≡◌, ℕ, ◌+◌, List, [], ◌∷◌, Option, Vec, slice_get, if◌then◌else◌}
use Rattle.std.specs.Global.{Global}
use Rattle.std.specs.Option.{option_map_or, option_and_then}
use Rattle.std.specs.BTreeMap as tree
use Rattle.std.specs.BTreeMap.{BTreeMap}
use Rattle.kv_block.specs.declared.changes.Change.{Change}
use Rattle.kv_block.specs.Bytes.{key_cmp, key_eq}

-- the numbers of the changes of a key, of a list whose first change has the number n
abbrev pub places_from : List ℕ → ℕ → List Change → List ℕ
places_from key n [] = []
places_from key n (c ∷ cs) = if key_eq key c.key then n ∷ places_from key (n + 1) cs else places_from key (n + 1) cs

-- the places that a map of places has for a key
abbrev pub places_at : BTreeMap (List ℕ) (Vec ℕ Global) → List ℕ → List ℕ
places_at m key = option_map_or (λ v. v.items) (tree.get key_cmp m key) []

-- the map has the places of each key's changes
abbrev pub IsPlaced : BTreeMap (List ℕ) (Vec ℕ Global) → List Change → Type 0
IsPlaced m changes = (key : List ℕ) → places_at m key ≡ places_from key 0 changes

-- what a change by its number leaves of its key
abbrev pub value_of : List Change → ℕ → Option (List ℕ)
value_of changes p = option_and_then (λ c. c.value) (slice_get changes p)

-- what a key has after its changes at these places, where it had `value` before
abbrev pub latest : List Change → Option (List ℕ) → List ℕ → Option (List ℕ)
latest changes value [] = value
latest changes value (p ∷ ps) = latest changes (value_of changes p) ps
