-- By what the log of a play is judged.
use Rattle.race_laws.specs.Setting.{Setting}
use Rattle.script_value.specs.Content.{ScriptValue}

-- the sizes and the listed hashes of a script
abbrev pub setting_of : ScriptValue → Setting
setting_of script = record { geometry = script.geometry; listed = script.content.hashes }
