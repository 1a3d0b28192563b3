-- A line of the report is told by its words.
use Rattle.std.proofs.Common.{◌≡◌, ℕ, ◌<◌, ◌^◌, ◌++◌, ◌∷◌, Some, List, drop, slice_index, refl, ap, ◌∙◌}
use Rattle.map_model.specs.declared.calls.Reply.{Reply}
use Rattle.map_model.specs.declared.calls.Reply.TheVariants.{Found, Missing, Inserted, Exists, Updated, Deleted, Split, Again, FullDepth, FullWords, NoBlock}
use Rattle.map_model.specs.ReplyWords.{reply_words, reply_told}
use Rattle.map_model.proofs.ReplyWords.{number-told}
use Rattle.play_report.specs.declared.report.Line.{Line}
use Rattle.play_report.specs.declared.report.Tag.{Tag}
use Rattle.play_report.specs.declared.report.Tag.TheVariants.{Point, Changed, Read, Nothing}
use Rattle.play_report.specs.LineWords.{tag_words, tag_of, outcome_words, outcome_told, line_words, line_told}

-- no reply is without words
outcome_told-reply_words : (reply : Reply) → outcome_told (reply_words reply) ≡ Some (reply_told (reply_words reply))
outcome_told-reply_words (Found value) = refl
outcome_told-reply_words Missing = refl
outcome_told-reply_words Inserted = refl
outcome_told-reply_words (Exists value) = refl
outcome_told-reply_words (Updated old) = refl
outcome_told-reply_words (Deleted old) = refl
outcome_told-reply_words (Split table depth) = refl
outcome_told-reply_words (Again lost) = refl
outcome_told-reply_words (FullDepth depth) = refl
outcome_told-reply_words (FullWords next need) = refl
outcome_told-reply_words (NoBlock next need) = refl

pub told-outcome : (reply : Reply) → reply_told (reply_words reply) ≡ reply → outcome_told (reply_words reply) ≡ Some reply
told-outcome reply h = outcome_told-reply_words reply ∙ ap Some h

-- behind any two words stand a tag's words, and then the others
tag-told : (a b : ℕ) (tag : Tag) (rest : List ℕ)
    → let words : List ℕ = a ∷ b ∷ tag_words tag ++ rest in tag_of (slice_index words 2) (slice_index words 3) (slice_index words 4) ≡ tag
tag-told a b (Point point) rest = refl
tag-told a b (Changed from to) rest = refl
tag-told a b (Read block) rest = refl
tag-told a b Nothing rest = refl

rest-told : (a b : ℕ) (tag : Tag) (rest : List ℕ) → let words : List ℕ = a ∷ b ∷ tag_words tag ++ rest in drop 5 words ≡ rest
rest-told a b (Point point) rest = refl
rest-told a b (Changed from to) rest = refl
rest-told a b (Read block) rest = refl
rest-told a b Nothing rest = refl

pub told-line : (line : Line) → line.client < 2 ^ 32 → line.number < 2 ^ 32 → outcome_told (outcome_words line.reply) ≡ line.reply → line_told (line_words line) ≡ line
told-line line client number reply =
    let tag = tag-told line.client line.number line.tag (outcome_words line.reply) in
    let rest = ap outcome_told (rest-told line.client line.number line.tag (outcome_words line.reply)) ∙ reply in
    λ j. record { client = number-told line.client client j; number = number-told line.number number j; reply = rest j; tag = tag j }

pub ruleset told_outcomes = (told-outcome)

pub ruleset told_lines = (told-line)
