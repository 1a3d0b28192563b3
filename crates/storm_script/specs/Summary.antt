-- The summary of a storm.
use Rattle.std.specs.Prelude.{ℕ, ◌==◌, Bool, List, [], ◌∷◌, ◌++◌, length, codes, count_by, Option, Some, None}
use Rattle.std.specs.Fmt.{decimal}
use Rattle.map_model.specs.declared.calls.Reply.{Reply}
use Rattle.map_model.specs.declared.calls.Reply.TheVariants.{Found, Missing, Inserted, Exists, Updated, Deleted, Split, Again, FullDepth, FullWords, NoBlock}
use Rattle.play_report.specs.declared.report.Line.{Line}
use Rattle.play_report.specs.Report.{end_line}

-- the place of a reply's count among those of the summary; a split and an open call have none there
abbrev pub reply_place : Option Reply → ℕ
reply_place (Some Inserted) = 0
reply_place (Some (Exists value)) = 1
reply_place (Some (Found value)) = 2
reply_place (Some Missing) = 3
reply_place (Some (Updated old)) = 4
reply_place (Some (Deleted old)) = 5
reply_place (Some (Again lost)) = 6
reply_place (Some (FullDepth depth)) = 7
reply_place (Some (FullWords next need)) = 8
reply_place (Some (NoBlock next need)) = 9
reply_place (Some (Split table depth)) = 10
reply_place None = 11

-- whether a call has the reply of this place
abbrev pub has_place : ℕ → Line → Bool
has_place place line = reply_place line.reply == place

-- how many calls have the reply of this place
abbrev pub replies_at : List Line → ℕ → ℕ
replies_at lines place = count_by (has_place place) lines

-- a name and a count
abbrev pub count_line : List ℕ → ℕ → List ℕ
count_line name count = name ++ 32 ∷ decimal count ++ 10 ∷ []

-- the names of replies with these counts, each by its place
abbrev pub count_lines : (ℕ → ℕ) → List ℕ
count_lines count =
    count_line (codes "inserted") (count 0) ++ count_line (codes "exists") (count 1) ++ count_line (codes "found") (count 2)
    ++ count_line (codes "missing") (count 3) ++ count_line (codes "updated") (count 4) ++ count_line (codes "deleted") (count 5)
    ++ count_line (codes "again") (count 6) ++ count_line (codes "full-depth") (count 7) ++ count_line (codes "full-words") (count 8)
    ++ count_line (codes "no-block") (count 9)

-- the first line
abbrev pub storm_line : ℕ → ℕ → ℕ → List ℕ
storm_line seed clients calls = codes "race 1 storm " ++ decimal seed ++ 32 ∷ decimal clients ++ 32 ∷ decimal calls ++ 10 ∷ []

-- the whole summary
abbrev pub storm_summary : ℕ → ℕ → ℕ → List Line → List (List ℕ × List ℕ) → List ℕ → List ℕ
storm_summary seed clients calls lines pairs next =
    storm_line seed clients calls ++ count_lines (replies_at lines) ++ count_line (codes "keys") (length pairs) ++ end_line lines next
