-- The text of a report.
use Rattle.std.specs.Prelude.{ℕ, ◌-◌, ◌<◌, ◌≤◌, Bool, false, List, [], ◌∷◌, ◌++◌, length, codes, count_by, is_some, is_none, Option, Some, None, slice_get}
use Rattle.std.specs.List.{flat_map}
use Rattle.std.specs.Option.{option_map_or}
use Rattle.std.specs.Fmt.{decimal}
use Rattle.map_model.specs.declared.calls.Call.{Call}
use Rattle.map_model.specs.declared.calls.Reply.{Reply}
use Rattle.map_model.specs.declared.calls.Reply.TheVariants.{Found, Missing, Inserted, Exists, Updated, Deleted, Split, Again, FullDepth, FullWords, NoBlock}
use Rattle.map_model.specs.Machine.{is_change}
use Rattle.play_report.specs.declared.report.Line.{Line}
use Rattle.play_report.specs.declared.report.Tag.{Tag}
use Rattle.play_report.specs.declared.report.Tag.TheVariants as tag
use Rattle.play_report.specs.declared.report.Mode.{Mode}
use Rattle.play_report.specs.declared.report.Mode.TheVariants as mode
use Rattle.spelling.specs.Spelling.{spelled}
use Rattle.script_value.specs.Content.{Content, ScriptValue, calls_at, names_of}
use Rattle.script_value.specs.ScriptText.{call_line, name_at}

-- the next words of the nodes, with commas between
abbrev pub nexts_text : List ℕ → List ℕ
nexts_text [] = []
nexts_text (n ∷ ns) = decimal n ++ flat_map (λ m. 44 ∷ decimal m) ns

-- a reply, as the report has it
abbrev pub reply_line : Reply → List ℕ
reply_line (Found value) = codes "found " ++ spelled value
reply_line Missing = codes "missing"
reply_line Inserted = codes "inserted"
reply_line (Exists value) = codes "exists " ++ spelled value
reply_line (Updated old) = codes "updated " ++ spelled old
reply_line (Deleted old) = codes "deleted " ++ spelled old
reply_line (Split table depth) = codes "split " ++ decimal table ++ 32 ∷ decimal depth
reply_line (Again lost) = codes "again " ++ decimal lost
reply_line (FullDepth depth) = codes "full-depth " ++ decimal depth
reply_line (FullWords next need) = codes "full-words " ++ nexts_text next ++ 32 ∷ decimal need
reply_line (NoBlock next need) = codes "no-block " ++ nexts_text next ++ 32 ∷ decimal need

-- a tag, with the space before it
abbrev pub tag_text : Tag → List ℕ
tag_text (tag.Point point) = codes " @" ++ decimal point
tag_text (tag.Changed from to) = codes " " ++ decimal from ++ 62 ∷ decimal to
tag_text (tag.Read block) = codes " =" ++ decimal block
tag_text tag.Nothing = []

-- the reply, or that the call is open
abbrev pub outcome_text : Option Reply → List ℕ
outcome_text (Some reply) = reply_line reply
outcome_text None = codes "open"

-- the call of a line of the report
abbrev pub call_of : Content → Line → Option Call
call_of c line = slice_get (calls_at c line.client) (line.number - 1)

-- a client's name, the number of its call, and the call
abbrev pub numbered_call : Content → Line → List ℕ
numbered_call c line =
    name_at (names_of c) line.client ++ 32 ∷ decimal line.number ++ 32 ∷ option_map_or call_line (call_of c line) []

-- a client's call with its outcome: `NAME NUMBER CALL REPLY TAG`
abbrev pub outcome_line : Content → Line → List ℕ
outcome_line c line = numbered_call c line ++ 32 ∷ outcome_text line.reply ++ tag_text line.tag ++ 10 ∷ []

-- `map KEY VALUE`
abbrev pub map_line : List ℕ × List ℕ → List ℕ
map_line pair = codes "map" ++ 32 ∷ spelled pair.0 ++ 32 ∷ spelled pair.1 ++ 10 ∷ []

abbrev pub mode_text : Mode → List ℕ
mode_text mode.Replay = codes " replay\n"
mode_text mode.Run = codes " run\n"
mode_text mode.Batch = codes " batch\n"

-- the first line
abbrev pub head_line : Mode → ℕ → List ℕ
head_line m version = codes "race " ++ decimal version ++ mode_text m

-- whether a call was answered, is open, or changed the map
abbrev pub is_answered : Line → Bool
is_answered line = is_some line.reply

abbrev pub is_open : Line → Bool
is_open line = is_none line.reply

abbrev pub is_changed : Line → Bool
is_changed line = option_map_or is_change line.reply false

-- the last line: answered calls, unfinished calls, changes, the next free words
abbrev pub end_line : List Line → List ℕ → List ℕ
end_line lines next =
    codes "end calls=" ++ decimal (count_by is_answered lines) ++ codes " open=" ++ decimal (count_by is_open lines)
    ++ codes " changes=" ++ decimal (count_by is_changed lines) ++ codes " next=" ++ nexts_text next ++ 10 ∷ []

-- the whole report
abbrev pub report : Mode → ScriptValue → List Line → List (List ℕ × List ℕ) → List ℕ → List ℕ
report m s lines pairs next =
    head_line m s.version ++ flat_map (outcome_line s.content) lines ++ flat_map map_line pairs ++ end_line lines next

-- a line of the report is of a call of the script
pub record IsOfCall (c : Content) (line : Line) : Type 0 where
  pub client : line.client < length c.clients
  pub least : 1 ≤ line.number
  pub most : line.number ≤ length (calls_at c line.client)
