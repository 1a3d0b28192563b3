-- When a client may begin a call.
use Rattle.std.specs.Prelude.{ℕ, ◌≤◌, reverse}
use Rattle.verbs.specs.Logs.{Entries}
use Rattle.race_laws.specs.Setting.{Setting}
use Rattle.call_texts.specs.State.{State}
use Rattle.whole_calls.specs.Fits.{StateFits}

-- what the client keeps fits the log, and a call may lose one swap to 64
pub record Fits (s : Setting) (l : Entries) (c : ℕ) (k : State) : Type 0 where
  pub state : StateFits s c (reverse l) k
  pub some : 1 ≤ k.tries
  pub few : k.tries ≤ 64
