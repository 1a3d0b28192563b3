-- The statuses of a command that tells of a play, and whether a log is told.
use Rattle.std.specs.Prelude.{◌≡◌, ℕ, Option, Some, None, ◌⊎◌}
use Rattle.client_seat.specs.Fronts.{Fronted}

-- the statuses where nothing was played: the bytes are no script, the source failed, there was no memory
abbrev pub IsUnplayed : ℕ → Type 0
IsUnplayed n = (n ≡ 3) ⊎ (n ≡ 4) ⊎ (n ≡ 6)

-- the statuses of a command that tells of a play
abbrev pub IsPlayStatus : ℕ → Type 0
IsPlayStatus n = (n ≡ 0) ⊎ (n ≡ 3) ⊎ (n ≡ 4) ⊎ (n ≡ 5) ⊎ (n ≡ 6)

-- the log is told exactly where a script was played
abbrev pub TellsPlay : ℕ → Option Fronted → Type 0
TellsPlay status None = IsUnplayed status
TellsPlay status (Some front) = (status ≡ 0) ⊎ (status ≡ 5) ⊎ (status ≡ 7)
