-- Well formed images.
use Rattle.std.specs.Prelude.{◌≡◌, ℕ, ◌<◌, ◌≤◌, ◌^◌, List, length}
use Rattle.kv_block.specs.Packing.{bytes_of}
use Rattle.key_hash.specs.Placing.{Pairs}
use Rattle.node_words.specs.declared.geometry.Geometry.{Geometry}
use Rattle.race_laws.specs.Standing.{IsIn}
use Rattle.image_audit.specs.Kept.{setting_of}
use Rattle.image_audit.specs.Outcome.{IsAudit}
use Rattle.image_audit.specs.Shape.{word_in}
use Rattle.image_audit.specs.declared.audit.Audit.{Audit}
use Rattle.node_image.specs.Numbers.{AreNumbers}

-- the bytes are a well formed image: numbers below 2^64 of a geometry, of distinct keys with their hashes, and of each node's words up
-- to the one before its next word, each as eight bytes, the lowest first; and there are at most 16,777,216 of them
pub record IsImage (bytes : List ℕ) (g : Geometry) (listed : Pairs) (nodes : List (List ℕ)) : Type 0 where
  pub few : length bytes ≤ 16777216
  pub numbers : List ℕ
  pub are : AreNumbers numbers g listed nodes
  pub small : (x : ℕ) → IsIn x numbers → x < 2 ^ 64
  pub spell : bytes ≡ bytes_of numbers

-- the bytes are an image, and this is the audit of its words
pub record IsAudited (bytes : List ℕ) (audit : Audit) : Type 0 where
  pub geometry : Geometry
  pub listed : Pairs
  pub nodes : List (List ℕ)
  pub is_image : IsImage bytes geometry listed nodes
  pub is_audit : IsAudit (setting_of geometry listed) (word_in geometry nodes) audit

abbrev pub IsMalformed : List ℕ → Type 0
IsMalformed bytes = (g : Geometry) (listed : Pairs) (nodes : List (List ℕ)) → IsImage bytes g listed nodes → ⊥

-- bytes are the image of one geometry, one list of keys and one list of nodes' words
abbrev pub OneImage : Type 0
OneImage = (bytes : List ℕ) (g h : Geometry) (listed others : Pairs) (nodes words : List (List ℕ)) → IsImage bytes g listed nodes → IsImage bytes h others words → (g ≡ h) × (listed ≡ others) × (nodes ≡ words)
