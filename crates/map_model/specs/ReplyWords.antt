-- A reply as words: a number for the kind, and what the reply tells.
use Rattle.std.specs.Prelude.{ℕ, ◌==◌, ◌&&◌, nat_le, if◌then◌else◌, List, [], ◌∷◌, length, drop, slice_index}
use Rattle.item_list.specs.Numbers.{number_at}
use Rattle.kv_block.specs.ValueWords.{value_words, value_told}
use Rattle.map_model.specs.declared.calls.Reply.{Reply}
use Rattle.map_model.specs.declared.calls.Reply.TheVariants.{Found, Missing, Inserted, Exists, Updated, Deleted, Split, Again, FullDepth, FullWords, NoBlock}

abbrev pub reply_words : Reply → List ℕ
reply_words (Found value) = 0 ∷ value_words value
reply_words Missing = 1 ∷ []
reply_words Inserted = 2 ∷ []
reply_words (Exists value) = 3 ∷ value_words value
reply_words (Updated old) = 4 ∷ value_words old
reply_words (Deleted old) = 5 ∷ value_words old
reply_words (Split table depth) = 6 ∷ table ∷ depth ∷ []
reply_words (Again lost) = 7 ∷ lost ∷ []
reply_words (FullDepth depth) = 8 ∷ depth ∷ []
reply_words (FullWords next need) = 9 ∷ need ∷ next
reply_words (NoBlock next need) = 10 ∷ need ∷ next

-- the next free words that words tell: the words, where they are 1 to 8, else one 0
abbrev pub nexts_told : List ℕ → List ℕ
nexts_told words = if nat_le 1 (length words) && nat_le (length words) 8 then words else 0 ∷ []

-- the reply of this kind, by the words behind it, where it is not the map's
abbrev pub other_reply : ℕ → List ℕ → Reply
other_reply kind words =
    if kind == 6 then Split (slice_index words 0) (number_at words 1)
    else if kind == 7 then Again (number_at words 0)
    else if kind == 8 then FullDepth (number_at words 0)
    else if kind == 9 then FullWords (nexts_told (drop 1 words)) (slice_index words 0)
    else NoBlock (nexts_told (drop 1 words)) (slice_index words 0)

-- and of any
abbrev pub reply_of : ℕ → List ℕ → Reply
reply_of kind words =
    if kind == 0 then Found (value_told words)
    else if kind == 1 then Missing
    else if kind == 2 then Inserted
    else if kind == 3 then Exists (value_told words)
    else if kind == 4 then Updated (value_told words)
    else if kind == 5 then Deleted (value_told words)
    else other_reply kind words

-- the reply that words tell
abbrev pub reply_told : List ℕ → Reply
reply_told words = reply_of (slice_index words 0) (drop 1 words)
