-- The text of a script: each of its lines, word by word.
use Rattle.std.specs.Prelude.{ℕ, ◌==◌, if◌then◌else◌, List, [], ◌∷◌, ◌++◌, map, codes, slice_index_or}
use Rattle.std.specs.List.{flat_map, join_with_byte}
use Rattle.std.specs.Fmt.{decimal}
use Rattle.map_model.specs.declared.calls.Call.{Call}
use Rattle.map_model.specs.declared.calls.Call.TheVariants.{Insert, Search, Update, Delete, Resize}
use Rattle.map_model.specs.declared.plans.Item.{Item}
use Rattle.map_model.specs.declared.plans.Item.TheVariants as item
use Rattle.spelling.specs.Spelling.{spelled, hex_number}
use Rattle.script_value.specs.Content.{Content, ScriptValue, Sizes, sizes_of, names_of}

-- line 1
abbrev pub header_words : ℕ → List (List ℕ)
header_words version = codes "race" ∷ decimal version ∷ []

-- line 2
abbrev pub table_words : ℕ → Sizes → List (List ℕ)
table_words version s =
    codes "table" ∷ (codes "groups=" ++ decimal s.groups) ∷ (codes "depth=" ++ decimal s.max_depth)
    ∷ ((if version == 1 then [] else (codes "first=" ++ decimal s.first_depth) ∷ (codes "nodes=" ++ decimal s.nodes) ∷ [])
    ++ (codes "words=" ++ decimal s.words) ∷ (codes "tries=" ++ decimal s.tries) ∷ [])

-- line 2 with its line feed, as it is written
abbrev pub table_text_1 : Sizes → List ℕ
table_text_1 s =
    (codes "table groups=" ++ decimal s.groups) ++ (codes " depth=" ++ decimal s.max_depth)
    ++ (codes " words=" ++ decimal s.words) ++ (codes " tries=" ++ decimal s.tries) ++ 10 ∷ []

abbrev pub table_text_2 : Sizes → List ℕ
table_text_2 s =
    (codes "table groups=" ++ decimal s.groups) ++ (codes " depth=" ++ decimal s.max_depth)
    ++ (codes " first=" ++ decimal s.first_depth) ++ (codes " nodes=" ++ decimal s.nodes)
    ++ (codes " words=" ++ decimal s.words) ++ (codes " tries=" ++ decimal s.tries) ++ 10 ∷ []

abbrev pub hash_words : List ℕ × ℕ → List (List ℕ)
hash_words e = codes "hash" ∷ spelled e.0 ∷ hex_number e.1 ∷ []

-- the line of a call
abbrev pub call_words : Call → List (List ℕ)
call_words (Insert key value) = codes "insert" ∷ spelled key ∷ spelled value ∷ []
call_words (Search key) = codes "search" ∷ spelled key ∷ []
call_words (Update key value) = codes "update" ∷ spelled key ∷ spelled value ∷ []
call_words (Delete key) = codes "delete" ∷ spelled key ∷ []
call_words (Resize key) = codes "resize" ∷ spelled key ∷ []

-- a client's line, and those of its calls
abbrev pub client_words : List ℕ × List Call → List (List (List ℕ))
client_words e = (codes "client" ∷ e.0 ∷ []) ∷ map call_words e.1

-- the name of the client at a place
abbrev pub name_at : List (List ℕ) → ℕ → List ℕ
name_at names client = slice_index_or names client []

abbrev pub stop_words : List (List ℕ) → ℕ × ℕ → List (List ℕ)
stop_words names e = codes "stop" ∷ name_at names e.0 ∷ decimal e.1 ∷ []

-- an item: `NAME`, `NAME*N` or `NAME!`
abbrev pub item_word : List (List ℕ) → Item → List ℕ
item_word names (item.Verbs client count) = if count == 1 then name_at names client else name_at names client ++ 42 ∷ decimal count
item_word names (item.Call client) = name_at names client ++ 33 ∷ []

-- the client of an item
abbrev pub item_client : Item → ℕ
item_client (item.Verbs client count) = client
item_client (item.Call client) = client

-- items, each behind a space
abbrev pub spaced_items : List (List ℕ) → List Item → List ℕ
spaced_items names items = flat_map (λ i. 32 ∷ item_word names i) items

abbrev pub schedule_words : List (List ℕ) → List Item → List (List ℕ)
schedule_words names items = codes "schedule" ∷ map (item_word names) items

-- the lines behind the first two, but for `end`
abbrev pub content_words : Content → List (List (List ℕ))
content_words c =
    map hash_words c.hashes ++ flat_map client_words c.clients
    ++ map (stop_words (names_of c)) c.stops ++ map (schedule_words (names_of c)) c.schedules

-- a line: its words, with single spaces between
abbrev pub line_of : List (List ℕ) → List ℕ
line_of words = join_with_byte 32 words

-- a line with its line feed
abbrev pub line_text : List (List ℕ) → List ℕ
line_text words = line_of words ++ 10 ∷ []

-- the text of lines
abbrev pub text_of : List (List (List ℕ)) → List ℕ
text_of lines = flat_map line_text lines

-- all lines of a script, word by word
abbrev pub script_words : ScriptValue → List (List (List ℕ))
script_words s =
    header_words s.version ∷ table_words s.version (sizes_of s.geometry s.tries) ∷ content_words s.content ++ (codes "end" ∷ []) ∷ []

-- the text of a script
abbrev pub text_of_script : ScriptValue → List ℕ
text_of_script s = text_of (script_words s)

-- the line of a call, as in the script
abbrev pub call_line : Call → List ℕ
call_line call = line_of (call_words call)
