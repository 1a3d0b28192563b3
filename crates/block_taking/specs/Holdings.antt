-- The words that a client has taken: its area, and a block that it has written and not placed.
use Rattle.std.specs.Prelude.{ℕ, ◌+◌, ◌<◌, ◌≤◌, List, length, Option, Some, None}
use Rattle.verb_log.specs.Tables.{Past}
use Rattle.race_laws.specs.Setting.{Setting}
use Rattle.log_facts.specs.Mine.{Mine, Block}
use Rattle.block_taking.specs.declared.taking.Area.{Area}

-- n words from an address on are none of the area's
abbrev pub Apart : ℕ → ℕ → Area → Type 0
Apart at n area = (x : ℕ) → at ≤ x → x < at + n → area.at ≤ x → x < area.at + area.left → ⊥

-- the area is the client's
abbrev pub Owns : Setting → ℕ → Area → Past → Type 0
Owns s c area q = Mine s.geometry q c area.at area.left

-- the block that was never placed, where there is one
abbrev pub KeptBlock : Setting → ℕ → List ℕ → Option ℕ → Area → Past → Type 0
KeptBlock s c ws None area q = Unit {0}
KeptBlock s c ws (Some at) area q = Block s c at ws q × Apart at (length ws) area
