-- A line of the report as words: the numbers, the tag, and the reply's words.
use Rattle.std.specs.Prelude.{ℕ, ◌==◌, if◌then◌else◌, List, [], ◌∷◌, ◌++◌, drop, slice_index, Option, Some, None}
use Rattle.item_list.specs.Numbers.{number_at}
use Rattle.map_model.specs.declared.calls.Reply.{Reply}
use Rattle.map_model.specs.ReplyWords.{reply_words, reply_told}
use Rattle.play_report.specs.declared.report.Line.{Line}
use Rattle.play_report.specs.declared.report.Tag.{Tag}
use Rattle.play_report.specs.declared.report.Tag.TheVariants.{Point, Changed, Read, Nothing}

-- a number for the kind, and the two numbers that the tag has, 0 for one that it has not
abbrev pub tag_words : Tag → List ℕ
tag_words (Point point) = 0 ∷ point ∷ 0 ∷ []
tag_words (Changed from to) = 1 ∷ from ∷ to ∷ []
tag_words (Read block) = 2 ∷ block ∷ 0 ∷ []
tag_words Nothing = 3 ∷ 0 ∷ 0 ∷ []

abbrev pub tag_of : ℕ → ℕ → ℕ → Tag
tag_of kind from to = if kind == 0 then Point from else if kind == 1 then Changed from to else if kind == 2 then Read from else Nothing

-- the reply's words; an open call has a kind that no reply has
abbrev pub outcome_words : Option Reply → List ℕ
outcome_words None = 11 ∷ []
outcome_words (Some reply) = reply_words reply

-- the reply that words tell, or that the call is open
abbrev pub outcome_told : List ℕ → Option Reply
outcome_told words = if slice_index words 0 == 11 then None else Some (reply_told words)

abbrev pub line_words : Line → List ℕ
line_words line = line.client ∷ line.number ∷ tag_words line.tag ++ outcome_words line.reply

-- the line that words tell
abbrev pub line_told : List ℕ → Line
line_told words = record {
  client = number_at words 0;
  number = number_at words 1;
  reply = outcome_told (drop 5 words);
  tag = tag_of (slice_index words 2) (slice_index words 3) (slice_index words 4);
}
