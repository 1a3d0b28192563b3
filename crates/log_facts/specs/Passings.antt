-- What a pass has come through.
use Rattle.std.specs.Prelude.{◌≡◌, ◌≢◌, ℕ, List, Option, Some, None}
use Rattle.bucket_group.specs.ExitLevel.{exit_level}
use Rattle.verb_log.specs.Tables.{Past}
use Rattle.race_laws.specs.Setting.{Setting, hash}
use Rattle.race_laws.specs.Standing.{birth_in, child_in}
use Rattle.race_laws.specs.Chains.{OnChain}
use Rattle.race_laws.specs.Looks.{Searched}

-- the table that was searched before
abbrev pub searched_before : Option Searched → Option ℕ
searched_before None = None
searched_before (Some x) = Some x.table

-- a table to which a pass has come from another one: it is the child of that one, which is on the chain, at the exit level
pub record Under (s : Setting) (key : List ℕ) (q : Past) (u t : ℕ) : Type 0 where
  pub chain : OnChain s.geometry q (hash s key) u
  pub level : ℕ
  pub exits : exit_level (hash s key) ((birth_in s.geometry q u).depth) ≡ Some level
  pub child : child_in s.geometry q u level ≡ t
  pub some : t ≢ 0
