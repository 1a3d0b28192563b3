-- The number of each key.

use Rattle.std.specs.Prelude.{◌≡◌, ℕ, Bool, List, is_some, unwrap_or, Option}
use Rattle.std.specs.List.{IsDistinct}
use Rattle.std.specs.Map.{lookup, keys_of}
use Rattle.std.specs.BTreeMap as tree
use Rattle.std.specs.BTreeMap.{BTreeMap}
use Rattle.kv_block.specs.Bytes.{key_cmp, key_eq}
use Rattle.key_hash.specs.Mixing.{mixed}

-- keys with their numbers, in order
abbrev pub Pairs : Type 0
Pairs = List (List ℕ × ℕ)

-- no key stands twice
abbrev pub AreDistinct : Pairs → Type 0
AreDistinct pairs = IsDistinct key_eq (keys_of pairs)

-- the number that is listed for a key
abbrev pub listed_for : Pairs → List ℕ → Option ℕ
listed_for pairs key = lookup (key_eq key) pairs

abbrev pub is_listed : Pairs → List ℕ → Bool
is_listed pairs key = is_some (listed_for pairs key)

-- the number of a key: the one that is listed for it, else `mixed` of it
abbrev pub placed : Pairs → List ℕ → ℕ
placed pairs key = unwrap_or (listed_for pairs key) (mixed key)

-- an ordered map has for each key the number that is listed for it
abbrev pub Finds : BTreeMap (List ℕ) ℕ → Pairs → Type 0
Finds numbers pairs = (key : List ℕ) → tree.get key_cmp numbers key ≡ listed_for pairs key
