-- Reading a script line by line: what a line adds, or the first rule that it breaks.
use Rattle.std.specs.Prelude.{ℕ, ◌+◌, ◌==◌, ◌&&◌, nat_lt, Bool, true, false, not, if◌then◌else◌, List, [], ◌∷◌, length, codes, Option, Some, None, is_some, is_none, Result, Ok, Err}
use Rattle.std.specs.List.{list_all}
use Rattle.std.specs.Option.{option_and_then}
use Rattle.map_model.specs.declared.calls.Call.{Call}
use Rattle.map_model.specs.declared.calls.Call.TheVariants.{Insert, Search, Update, Delete, Resize}
use Rattle.map_model.specs.declared.plans.Item.{Item}
use Rattle.map_model.specs.declared.plans.Item.TheVariants as item
use Rattle.kv_block.specs.Bytes.{key_eq}
use Rattle.key_hash.specs.Placing.{is_listed}
use Rattle.script_reader.specs.declared.fault.ScriptKind.{ScriptKind}
use Rattle.script_reader.specs.declared.fault.ScriptKind.TheVariants as kind
use Rattle.script_reader.specs.declared.command.Command.{Command}
use Rattle.script_reader.specs.declared.command.Command.TheVariants as command
use Rattle.spelling.specs.Spelling.{is_within, is_name_byte}
use Rattle.spelling.specs.Words.{parts_at, number_of, key_of, value_of, hex_number_of, is_name, one_of, two_of, is_empty}
use Rattle.script_value.specs.Content.{Content, Sizes, no_content, client_at, stop_at, with_hash, with_client, with_call, with_stop, with_schedule}
use Rattle.script_value.specs.Valid.{most_clients, are_sizes}

infixl 10 ◌>>=◌
abbrev pub ◌>>=◌ : {E A B : Type 0} → Result A E → (A → Result B E) → Result B E
(Ok x) >>= f = f x
(Err e) >>= f = Err e

-- what there is, or else this kind of refusal
abbrev pub or_else : {A : Type 0} → ScriptKind → Option A → Result A ScriptKind
or_else k (Some x) = Ok x
or_else k None = Err k

-- what has been read: how many call lines, and what the lines have
pub record Reading : Type 0 where
  pub calls : ℕ
  pub content : Content

-- the first word of a line
abbrev pub command_of : List ℕ → Option Command
command_of word =
    if key_eq word (codes "hash") then Some command.Hash
    else if key_eq word (codes "client") then Some command.Client
    else if key_eq word (codes "insert") then Some command.Insert
    else if key_eq word (codes "search") then Some command.Search
    else if key_eq word (codes "update") then Some command.Update
    else if key_eq word (codes "delete") then Some command.Delete
    else if key_eq word (codes "resize") then Some command.Resize
    else if key_eq word (codes "stop") then Some command.Stop
    else if key_eq word (codes "schedule") then Some command.Schedule
    else if key_eq word (codes "end") then Some command.End
    else None

-- a line stands where the order forbids it, or wants a client before there is one
abbrev pub misplaced : Content → Command → Option ScriptKind
misplaced c command.Hash = if is_empty c.clients then None else Some kind.Word
misplaced c command.Client = if is_empty c.stops && is_empty c.schedules then None else Some kind.Word
misplaced c command.Insert = if not (is_empty c.clients) && is_empty c.stops && is_empty c.schedules then None else Some kind.Word
misplaced c command.Search = if not (is_empty c.clients) && is_empty c.stops && is_empty c.schedules then None else Some kind.Word
misplaced c command.Update = if not (is_empty c.clients) && is_empty c.stops && is_empty c.schedules then None else Some kind.Word
misplaced c command.Delete = if not (is_empty c.clients) && is_empty c.stops && is_empty c.schedules then None else Some kind.Word
misplaced c command.Resize = if not (is_empty c.clients) && is_empty c.stops && is_empty c.schedules then None else Some kind.Word
misplaced c command.Stop = if is_empty c.clients then Some kind.Client else if is_empty c.schedules then None else Some kind.Word
misplaced c command.Schedule = if is_empty c.clients then Some kind.Client else None
misplaced c command.End = if is_empty c.clients then Some kind.Client else None

-- `hash KEY HEX`
abbrev pub hash_step : Content → List (List ℕ) → Result Content ScriptKind
hash_step c words = do
  pair ← or_else kind.Word (two_of words)
  key ← or_else kind.Key (key_of pair.0)
  if is_listed c.hashes key then Err kind.Key else (do
    hash ← or_else kind.Number (hex_number_of pair.1)
    Ok (with_hash c key hash))

-- `client NAME`, of at most this many clients
abbrev pub client_step : ℕ → Content → List (List ℕ) → Result Content ScriptKind
client_step most c words = do
  name ← or_else kind.Word (one_of words)
  if is_name name && is_none (client_at c name) && nat_lt (length c.clients) most
      then Ok (with_client c name [])
      else Err kind.Client

-- the client of a name, where the name is not misspelt
abbrev pub client_of : Content → List ℕ → Option ℕ
client_of c word = if is_name word then client_at c word else None

-- a number that is at least low and at most high
abbrev pub number_within : ℕ → ℕ → List ℕ → Option ℕ
number_within low high word = option_and_then (λ n. if is_within low high n then Some n else None) (number_of word)

-- `stop NAME N`
abbrev pub stop_step : Content → List (List ℕ) → Result Content ScriptKind
stop_step c words = do
  pair ← or_else kind.Word (two_of words)
  client ← or_else kind.Client (client_of c pair.0)
  if is_some (stop_at c client) then Err kind.Client else (do
    stop ← or_else kind.Number (number_within 0 1000000000 pair.1)
    Ok (with_stop c client stop))

-- the name at the front of an item, and what is behind it
abbrev pub item_name : List ℕ → List ℕ
item_name [] = []
item_name (b ∷ bs) = if is_name_byte b then b ∷ item_name bs else []

abbrev pub item_rest : List ℕ → List ℕ
item_rest [] = []
item_rest (b ∷ bs) = if is_name_byte b then item_rest bs else b ∷ bs

-- an item of a client, by what stands behind its name
abbrev pub item_with : ℕ → List ℕ → Option Item
item_with client [] = Some (item.Verbs client 1)
item_with client (b ∷ bs) =
    if (b == 33) && is_empty bs then Some (item.Call client)
    else if b == 42 then option_and_then (λ count. Some (item.Verbs client count)) (number_within 2 1000000 bs)
    else None

abbrev pub item_of : Content → List ℕ → Option Item
item_of c word = option_and_then (λ client. item_with client (item_rest word)) (client_of c (item_name word))

-- an item in front of those that may be there
abbrev pub item_first : Option Item → Option (List Item) → Option (List Item)
item_first (Some i) (Some is) = Some (i ∷ is)
item_first (Some i) None = None
item_first None is = None

abbrev pub items_of : Content → List (List ℕ) → Option (List Item)
items_of c [] = Some []
items_of c (w ∷ ws) = item_first (item_of c w) (items_of c ws)

-- `schedule ITEM ITEM ..`
abbrev pub schedule_step : Content → List (List ℕ) → Result Content ScriptKind
schedule_step c words =
    if is_empty words then Err kind.Word else (do
      items ← or_else kind.Schedule (items_of c words)
      Ok (with_schedule c items))

-- the key of a call line, of which there is room for one more
abbrev pub call_key : ℕ → List (List ℕ) → Result (List ℕ) ScriptKind
call_key calls words = do
  word ← or_else kind.Word (one_of words)
  if nat_lt calls 65536 then or_else kind.Key (key_of word) else Err kind.TooLong

-- the key and the value of a call line
abbrev pub call_pair : ℕ → List (List ℕ) → Result (List ℕ × List ℕ) ScriptKind
call_pair calls words = do
  pair ← or_else kind.Word (two_of words)
  if nat_lt calls 65536 then (do
    key ← or_else kind.Key (key_of pair.0)
    value ← or_else kind.Value (value_of pair.1)
    Ok (key, value)) else Err kind.TooLong

-- what is read, with one call more
abbrev pub after_call : Reading → Call → Reading
after_call r call = record { calls = r.calls + 1; content = with_call r.content call }

-- `insert KEY VALUE`, `search KEY`, `update KEY VALUE`, `delete KEY` and `resize KEY`
abbrev pub insert_step : Reading → List (List ℕ) → Result Reading ScriptKind
insert_step r words = do
  pair ← call_pair r.calls words
  Ok (after_call r (Insert pair.0 pair.1))

abbrev pub search_step : Reading → List (List ℕ) → Result Reading ScriptKind
search_step r words = do
  key ← call_key r.calls words
  Ok (after_call r (Search key))

abbrev pub update_step : Reading → List (List ℕ) → Result Reading ScriptKind
update_step r words = do
  pair ← call_pair r.calls words
  Ok (after_call r (Update pair.0 pair.1))

abbrev pub delete_step : Reading → List (List ℕ) → Result Reading ScriptKind
delete_step r words = do
  key ← call_key r.calls words
  Ok (after_call r (Delete key))

abbrev pub resize_step : Reading → List (List ℕ) → Result Reading ScriptKind
resize_step r words = do
  key ← call_key r.calls words
  Ok (after_call r (Resize key))

-- what is read, with other lines than calls added
abbrev pub content_step : Reading → Result Content ScriptKind → Result Reading ScriptKind
content_step r read = do
  c ← read
  Ok (record r { content = c })

-- something is added, and more lines follow
abbrev pub going_on : Result Reading ScriptKind → Result (Option Reading) ScriptKind
going_on read = do
  r ← read
  Ok (Some r)

-- what a line adds whose first word is the command; `end` adds nothing, and ends the script
abbrev pub command_step : ℕ → Reading → Command → List (List ℕ) → Result (Option Reading) ScriptKind
command_step most r command.Hash words = going_on (content_step r (hash_step r.content words))
command_step most r command.Client words = going_on (content_step r (client_step most r.content words))
command_step most r command.Insert words = going_on (insert_step r words)
command_step most r command.Search words = going_on (search_step r words)
command_step most r command.Update words = going_on (update_step r words)
command_step most r command.Delete words = going_on (delete_step r words)
command_step most r command.Resize words = going_on (resize_step r words)
command_step most r command.Stop words = going_on (content_step r (stop_step r.content words))
command_step most r command.Schedule words = going_on (content_step r (schedule_step r.content words))
command_step most r command.End words = if is_empty words then Ok None else Err kind.Word

-- no fault, or this one
abbrev pub unless_fault : {A : Type 0} → Option ScriptKind → Result A ScriptKind → Result A ScriptKind
unless_fault None read = read
unless_fault (Some k) read = Err k

abbrev pub words_step : ℕ → Reading → List (List ℕ) → Result (Option Reading) ScriptKind
words_step most r [] = Err kind.Word
words_step most r (first ∷ words) = do
  command ← or_else kind.Word (command_of first)
  unless_fault (misplaced r.content command) (command_step most r command words)

-- a byte that a line may have
abbrev pub is_printable : ℕ → Bool
is_printable b = is_within 32 126 b

-- what a line behind line 2 adds, None where it is `end`, or the first rule that it breaks
abbrev pub line_step : ℕ → Reading → List ℕ → Result (Option Reading) ScriptKind
line_step most r line =
    if list_all is_printable line && list_all (λ w. not (is_empty w)) (parts_at 32 line)
    then words_step most r (parts_at 32 line)
    else Err kind.Word

-- line 1
abbrev pub version_of : List ℕ → Result ℕ ScriptKind
version_of line = if key_eq line (codes "race 1") then Ok 1 else if key_eq line (codes "race 2") then Ok 2 else Err kind.Header

-- what stands behind a label at the front of a word
abbrev pub behind_label : List ℕ → List ℕ → Option (List ℕ)
behind_label [] word = Some word
behind_label (l ∷ ls) [] = None
behind_label (l ∷ ls) (b ∷ bs) = if b == l then behind_label ls bs else None

-- the number words of line 2, as they are spelled
pub record SizeWords : Type 0 where
  pub groups : List ℕ
  pub max_depth : List ℕ
  pub first_depth : List ℕ
  pub nodes : List ℕ
  pub words : List ℕ
  pub tries : List ℕ

-- the first word, by what stands behind its label, and the words behind it
abbrev pub field : List ℕ → List (List ℕ) → Result (List ℕ × List (List ℕ)) ScriptKind
field label [] = Err kind.Table
field label (w ∷ ws) = or_else kind.Table (option_and_then (λ text. Some (text, ws)) (behind_label label w))

-- no words are left
abbrev pub no_more : {A : Type 0} → List (List ℕ) → A → Result A ScriptKind
no_more words x = if is_empty words then Ok x else Err kind.Table

-- the words behind `table`
abbrev pub behind_table : List (List ℕ) → Result (List (List ℕ)) ScriptKind
behind_table [] = Err kind.Table
behind_table (w ∷ ws) = if key_eq w (codes "table") then Ok ws else Err kind.Table

-- line 2 of version 1, which has first depth 0 and one node
abbrev pub size_words_1 : List (List ℕ) → Result SizeWords ScriptKind
size_words_1 words = do
  rest ← behind_table words
  groups ← field (codes "groups=") rest
  depth ← field (codes "depth=") groups.1
  all ← field (codes "words=") depth.1
  tries ← field (codes "tries=") all.1
  no_more tries.1 (record { groups = groups.0; max_depth = depth.0; first_depth = codes "0"; nodes = codes "1"; words = all.0; tries = tries.0 })

-- line 2 of version 2
abbrev pub size_words_2 : List (List ℕ) → Result SizeWords ScriptKind
size_words_2 words = do
  rest ← behind_table words
  groups ← field (codes "groups=") rest
  depth ← field (codes "depth=") groups.1
  first ← field (codes "first=") depth.1
  nodes ← field (codes "nodes=") first.1
  all ← field (codes "words=") nodes.1
  tries ← field (codes "tries=") all.1
  no_more tries.1 (record { groups = groups.0; max_depth = depth.0; first_depth = first.0; nodes = nodes.0; words = all.0; tries = tries.0 })

abbrev pub size_words : ℕ → List (List ℕ) → Result SizeWords ScriptKind
size_words version words = if version == 1 then size_words_1 words else size_words_2 words

-- the numbers that they spell
abbrev pub sizes_told : SizeWords → Result Sizes ScriptKind
sizes_told w = do
  groups ← or_else kind.Number (number_of w.groups)
  depth ← or_else kind.Number (number_of w.max_depth)
  first ← or_else kind.Number (number_of w.first_depth)
  nodes ← or_else kind.Number (number_of w.nodes)
  all ← or_else kind.Number (number_of w.words)
  tries ← or_else kind.Number (number_of w.tries)
  Ok (record { groups = groups; max_depth = depth; first_depth = first; nodes = nodes; words = all; tries = tries })

-- line 2
abbrev pub table_of : ℕ → List ℕ → Result Sizes ScriptKind
table_of version line = do
  words ← size_words version (parts_at 32 line)
  sizes ← sizes_told words
  if are_sizes version sizes then Ok sizes else Err kind.Table

-- The first of the parts of a text at its line feeds, which is a line where another part follows it; and the others
abbrev pub next_line : List (List ℕ) → Result (List ℕ × List (List ℕ)) ScriptKind
next_line [] = Err kind.End
next_line (tail ∷ []) = Err kind.End
next_line (line ∷ more ∷ parts) = if nat_lt 4096 (length line) then Err kind.TooLong else Ok (line, more ∷ parts)

-- a refusal: the line, and the first rule that it breaks
abbrev pub Refusal : Type 0
Refusal = ℕ × ScriptKind

abbrev pub on_line : {A : Type 0} → ℕ → Result A ScriptKind → Result A Refusal
on_line n (Ok x) = Ok x
on_line n (Err k) = Err (n, k)

-- no byte stands behind the last line feed
abbrev pub is_all : List (List ℕ) → Bool
is_all [] = true
is_all (tail ∷ []) = is_empty tail
is_all (line ∷ more ∷ parts) = false

-- what there is where `end` stands on line n, and these parts behind it
abbrev pub ending : ℕ → Content → List (List ℕ) → Result Content Refusal
ending n c parts = if is_all parts then Ok c else Err (n + 1, kind.End)

-- what the lines give, by what one of them gave
abbrev pub goes_on : ℕ → Content → List (List ℕ) → (Reading → Result Content Refusal) → Result (Option Reading) ScriptKind → Result Content Refusal
goes_on n c parts others (Err k) = Err (n, k)
goes_on n c parts others (Ok (Some r)) = others r
goes_on n c parts others (Ok None) = ending n c parts

-- what the lines from the n-th on make of what has been read
abbrev pub read_lines : ℕ → ℕ → Reading → List (List ℕ) → Result Content Refusal
read_lines most n r [] = Err (n, kind.End)
read_lines most n r (tail ∷ []) = Err (n, kind.End)
read_lines most n r (line ∷ more ∷ parts) =
    if nat_lt 4096 (length line) then Err (n, kind.TooLong)
    else goes_on n r.content (more ∷ parts) (λ s. read_lines most (n + 1) s (more ∷ parts)) (line_step most r line)

-- what a script says, its geometry by its numbers
pub record Told : Type 0 where
  pub version : ℕ
  pub sizes : Sizes
  pub content : Content

-- the first two lines, and the parts behind them
pub record Head : Type 0 where
  pub version : ℕ
  pub sizes : Sizes
  pub others : List (List ℕ)

abbrev pub version_line : List (List ℕ) → Result (ℕ × List (List ℕ)) Refusal
version_line parts = do
  line ← on_line 1 (next_line parts)
  version ← on_line 1 (version_of line.0)
  Ok (version, line.1)

abbrev pub table_line : ℕ → List (List ℕ) → Result (Sizes × List (List ℕ)) Refusal
table_line version parts = do
  line ← on_line 2 (next_line parts)
  sizes ← on_line 2 (table_of version line.0)
  Ok (sizes, line.1)

abbrev pub head_of : List ℕ → Result Head Refusal
head_of bytes = do
  first ← version_line (parts_at 10 bytes)
  second ← table_line first.0 first.1
  Ok (record { version = first.0; sizes = second.0; others = second.1 })

-- The script that bytes spell, or their refusal
abbrev pub script_of : List ℕ → Result Told Refusal
script_of bytes = if nat_lt 4194304 (length bytes) then Err (0, kind.TooLong) else (do
  head ← head_of bytes
  content ← read_lines (most_clients head.version) 3 (record { calls = 0; content = no_content }) head.others
  Ok (record { version = head.version; sizes = head.sizes; content = content }))
