-- The tables in which a key may stand, and the slot that holds it.
use Rattle.std.specs.Prelude.{◌≡◌, ◌≢◌, ℕ, ◌<◌, ◌*◌, ◌^◌, ◌%◌, List, Some}
use Rattle.slot_word.specs.declared.slots.Mark.TheVariants.{Live, Copied, Moved}
use Rattle.kv_block.specs.Packing.{Pair}
use Rattle.bucket_group.specs.ExitLevel.{exit_level}
use Rattle.node_words.specs.declared.geometry.Geometry.{Geometry}
use Rattle.node_words.specs.Addresses.{first_table}
use Rattle.verb_log.specs.Decoded.{Body, Full, PlainAt, SplittingAt}
use Rattle.verb_log.specs.Tables.{Past}
use Rattle.race_laws.specs.Setting.{Setting, hash, places}
use Rattle.race_laws.specs.Standing.{IsTable, header_in, birth_in, child_in, bucket_in, place_in, IsGone, Word, IsIn}

-- the tables on the chain of a hash: first table `hash mod 2^f`, and behind a table that the key is leaving or has
-- left by its header, the child of the key's exit level there
pub data OnChain (g : Geometry) (past : Past) (h : ℕ) : ℕ → Type 0 where
  starts : OnChain g past h (first_table g (h % 2 ^ g.first_depth))
  goes_on : (t i c : ℕ) → OnChain g past h t → exit_level h (birth_in g past t).depth ≡ Some i → IsGone (header_in g past t) i → child_in g past t i ≡ c → c ≢ 0 → OnChain g past h c

-- the split of table t at depth d has begun and is not yet open
pub record IsOpening (g : Geometry) (past : Past) (t d : ℕ) : Type 0 where
  pub plain : header_in g past t ≡ PlainAt d
  pub below : d < g.max_depth
  pub linked : child_in g past t d ≢ 0
  pub bucket : ℕ
  pub is_bucket : bucket < 2 * g.groups
  pub begun : bucket_in g past t bucket ≡ SplittingAt d

-- a pass for the hash may begin here: on its chain, or at the child of an opening split of a table on its chain
pub data IsStart (g : Geometry) (past : Past) (h : ℕ) : ℕ → Type 0 where
  on_chain : (t : ℕ) → OnChain g past h t → IsStart g past h t
  opening : (t d c : ℕ) → OnChain g past h t → IsOpening g past t d → child_in g past t d ≡ c → IsStart g past h c

-- the slot at place p of table t is one that looks for the key read: a candidate of the key, in a table on its chain
pub record IsCandidate (s : Setting) (past : Past) (t p : ℕ) (key : List ℕ) : Type 0 where
  pub candidate : IsIn p (places s key)
  pub chain : OnChain s.geometry past (hash s key) t

-- the slot at place p of table t holds the key of the pair, in this block: a live word in a candidate slot of a table on
-- the chain, or in a candidate slot a copy of a block that the same place of the parent has as moved
pub data Holder (s : Setting) (past : Past) (key : List ℕ) : ℕ → ℕ → Body → Pair → Type 0 where
  live : (t p : ℕ) (b : Body) (q : Pair) → Word s.geometry past Live t p b q → q.key ≡ key → IsIn p (places s key) → OnChain s.geometry past (hash s key) t → Holder s past key t p b q
  copied : (t p : ℕ) (b : Body) (q : Pair) → Word s.geometry past Copied t p b q → q.key ≡ key → IsIn p (places s key) → IsTable s.geometry past t → IsTable s.geometry past (birth_in s.geometry past t).parent → place_in s.geometry past (birth_in s.geometry past t).parent p ≡ Full Moved b → Holder s past key t p b q
