-- The texts of the commands `audit` and `image`.
use Rattle.std.specs.Prelude.{ℕ, List, [], ◌∷◌, ◌++◌, length, codes, Option, ◌⊎◌}
use Rattle.std.specs.List.{flat_map}
use Rattle.std.specs.Fmt.{decimal}
use Rattle.std.specs.Io.KnownBytes.{Appends}
use Rattle.race_io.specs.Counts.{Rose}
use Rattle.race_io.specs.Transfer.{AppendsPart}
use Rattle.play_report.specs.Report.{map_line}

-- `race audit`, a line for each pair, and their number
abbrev pub audit_report : List (List ℕ × List ℕ) → List ℕ
audit_report pairs = codes "race audit\n" ++ flat_map map_line pairs ++ codes "keys " ++ decimal (length pairs) ++ 10 ∷ []

-- a word with its space, a number and a line end
abbrev pub number_line : List ℕ → ℕ → List ℕ
number_line word n = word ++ decimal n ++ 10 ∷ []

-- a line was written, whole where the sink did not fail
abbrev pub TellsLine : Option (List ℕ) → Option (List ℕ) → ℕ → ℕ → List ℕ → Type 0
TellsLine taken_old taken_new faults_old faults_new line = Appends taken_old taken_new line ⊎ (Rose faults_old faults_new × AppendsPart taken_old taken_new line)
