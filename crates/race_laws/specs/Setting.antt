-- What a log is judged by besides its entries: the geometry and the hashes of keys, which never change.
use Rattle.std.specs.Prelude.{ℕ, List}
use Rattle.node_words.specs.declared.geometry.Geometry.{Geometry}
use Rattle.node_words.specs.Roles.{NextWord}
use Rattle.node_words.specs.Opening.{role_word}
use Rattle.key_hash.specs.Placing.{Pairs, placed}
use Rattle.bucket_group.specs.Buckets.{candidates, first_bucket, fingerprint_of}

pub record Setting : Type 0 where
  pub geometry : Geometry
  -- the keys whose hashes are stated, each with its hash
  pub listed : Pairs

-- the hash of a key
unfoldable pub hash : Setting → List ℕ → ℕ
hash s key = placed s.listed key

-- the places of a key's candidate slots, in order, the same in every table
abbrev pub places : Setting → List ℕ → List ℕ
places s key = candidates s.geometry.groups (hash s key)

-- the first main bucket of a key, whose header is the key's header
abbrev pub main_of : Setting → List ℕ → ℕ
main_of s key = first_bucket s.geometry.groups (hash s key)

abbrev pub print_of : Setting → List ℕ → ℕ
print_of s key = fingerprint_of (hash s key)

-- the first word of a node that may be taken
abbrev pub base : Geometry → ℕ → ℕ
base g k = role_word g (NextWord k)
