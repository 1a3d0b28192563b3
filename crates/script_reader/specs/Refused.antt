-- The line that tells a refusal.
use Rattle.std.specs.Prelude.{ℕ, List, [], ◌∷◌, ◌++◌, codes}
use Rattle.std.specs.Fmt.{decimal}
use Rattle.script_reader.specs.declared.fault.ScriptKind.{ScriptKind}
use Rattle.script_reader.specs.declared.fault.ScriptKind.TheVariants as kind
use Rattle.script_reader.specs.Rules.{Refusal}

-- the word of a kind
abbrev pub kind_word : ScriptKind → List ℕ
kind_word kind.Header = codes "header"
kind_word kind.Table = codes "table"
kind_word kind.Word = codes "word"
kind_word kind.Key = codes "key"
kind_word kind.Value = codes "value"
kind_word kind.Number = codes "number"
kind_word kind.Client = codes "client"
kind_word kind.Schedule = codes "schedule"
kind_word kind.TooLong = codes "too-long"
kind_word kind.End = codes "end"

-- `refused line N KIND`
abbrev pub refusal_line : Refusal → List ℕ
refusal_line refusal = codes "refused line " ++ decimal refusal.0 ++ 32 ∷ kind_word refusal.1 ++ 10 ∷ []
