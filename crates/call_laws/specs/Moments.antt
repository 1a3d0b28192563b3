-- The map at a moment of a log: after so many of the changes of a later position as an earlier one has.
use Rattle.std.specs.Prelude.{◌≡◌, ℕ, List, length, reverse, Some, None}
use Rattle.std.specs.FinMap.{get}
use Rattle.kv_block.specs.Packing.{Pair}
use Rattle.map_model.specs.Contents.{Contents}
use Rattle.map_model.specs.Machine.{map_at}
use Rattle.node_words.specs.declared.geometry.Geometry.{Geometry}
use Rattle.verb_log.specs.declared.entry.Entry.{Entry}
use Rattle.verb_log.specs.Decoded.{Body}
use Rattle.verb_log.specs.Tables.{Past, Before}
use Rattle.verb_log.specs.Changes.{changes}
use Rattle.race_laws.specs.Setting.{Setting}
use Rattle.race_laws.specs.Chains.{Holder}
use Rattle.race_laws.specs.Looks.{Looked}
use Rattle.race_laws.specs.Legal.{IsLegal}

-- the map as it was at the position x, by the changes of the position q
abbrev pub map_then : Geometry → Past → Past → Contents
map_then g q x = map_at (changes g q) (length (changes g x))

-- at some position from one up to another the map lacked the key
pub record Lacked (s : Setting) (key : List ℕ) (from q : Past) : Type 0 where
  pub at : Past
  pub from_then : Before from at
  pub till : Before at q
  pub lacks : get (map_then s.geometry q at) key ≡ None

-- where a slot holds a key, the map has it then, with the value of the slot's block
abbrev pub HoldsAtMoments : Type 0
HoldsAtMoments = (s : Setting) (log : List Entry) → IsLegal s log → (x : Past) → Before x (reverse log) → (key : List ℕ) (t p : ℕ) (b : Body) (pr : Pair) → Holder s x key t p b pr → get (map_then s.geometry (reverse log) x) key ≡ Some pr.value

-- where a key was looked for in vain, the map lacked it at some position meanwhile
abbrev pub LacksAtMoments : Type 0
LacksAtMoments = (s : Setting) (log : List Entry) → IsLegal s log → (from : Past) → Before from (reverse log) → (key : List ℕ) → Looked s (reverse log) from key → Lacked s key from (reverse log)
