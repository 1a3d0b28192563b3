-- How long the text of a storm is at most.
use Rattle.std.proofs.Common.{◌≡◌, ℕ, zero, suc, ◌+◌, ◌-◌, ◌*◌, ◌/◌, ◌%◌, ◌^◌, ◌<◌, ◌≤◌, ◌==◌, ◌||◌, Bool, true, false, if◌then◌else◌, List, [], ◌∷◌, ◌++◌, length, map, take, drop, codes, refl, sym, ap, subst, ◌∙◌, arith, min}
use Rattle.std.proofs.lemmas.Fmt.{length-decimal-le}
use Rattle.std.proofs.lemmas.List.{length-append, length-drop, length-take, length-map}
use Rattle.std.proofs.lemmas.Nat.{mod_below}
use Rattle.std.proofs.Math.Nat.{mul-le-mul_left}
use Rattle.std.specs.Fmt.{decimal}
use Rattle.std.specs.List.{AllByRecursion, flat_map}
use Rattle.map_model.specs.declared.calls.Call.{Call}
use Rattle.map_model.specs.declared.calls.Call.TheVariants.{Insert, Search, Update, Delete}
use Rattle.map_model.specs.declared.plans.Item.{Item}
use Rattle.map_model.specs.declared.plans.Plan.{Plan}
use Rattle.spelling.specs.Spelling.{spelled}
use Rattle.spelling.specs.Words.{made_name}
use Rattle.node_words.specs.declared.geometry.Geometry.{Geometry}
use Rattle.script_value.specs.Content.{ScriptValue, names_of, no_content}
use Rattle.script_value.specs.ScriptText.{call_words, client_words, name_at, item_word, schedule_words, table_words, header_words, content_words, line_of, line_text, text_of, text_of_script}
use Rattle.script_value.specs.Content.{sizes_of}
use Rattle.script_value.specs.Valid.{IsItem, call_count}
use Rattle.script_value.specs.Made.{made_clients, made_content, made_schedules, made_script, lines_of_items}
use Rattle.script_value.proofs.OfCalls.{all-take, all-drop}
use Rattle.script_value.proofs.OfCallsScript.{widths, line-width, spelled-width, table-line, header-line}
use Rattle.storm_script.specs.Draws.{drawn_numbers, state_after}
use Rattle.storm_script.specs.Storm.{key_of, value_of, storm_call, storm_item, storm_clients, storm_geometry, storm_value}

-- the digits of a number below 1,000
digits-few : (n : ℕ) → n < 1000 → length (decimal n) ≤ 3
digits-few n h = length-decimal-le 3 n (omega arith) (omega (arith, h)) (omega (arith, h))

pub key-length : (x : ℕ) → length (key_of x) ≤ 4
key-length x = let low = mod_below (x / 2 ^ 8) 200 (omega arith) in let few = digits-few (x / 2 ^ 8 % 200) (omega (arith, low)) in omega (arith, few)

pub value-length : (x : ℕ) → length (value_of x) ≤ 4
value-length x = let low = mod_below (x / 2 ^ 32) 1000 (omega arith) in let few = digits-few (x / 2 ^ 32 % 1000) low in omega (arith, few)

-- the text of a line
line-length : (ws : List (List ℕ)) → length (line_text ws) ≤ widths ws + 1
line-length ws =
    let wide = line-width ws in
    let fed = length-append (line_of ws) (10 ∷ []) in
    omega (arith, wide, fed)

-- the text of lines and then others
texts : (ls ms : List (List (List ℕ))) → length (text_of (ls ++ ms)) ≡ length (text_of ls) + length (text_of ms)
texts [] ms = omega arith
texts (l ∷ ls) ms =
    let others = texts ls ms in
    let joined = length-append (line_text l) (text_of (ls ++ ms)) in
    let own = length-append (line_text l) (text_of ls) in
    omega (arith, others, joined, own)

-- the line of a call
call-text : (s u d : Bool) (key value : List ℕ) → length key ≤ 4 → length value ≤ 4
    → length (line_text (call_words (if s then Search key else if u then Update key value else if d then Delete key else Insert key value))) ≤ 28
call-text true u d key value a b =
    let line = line-length (codes "search" ∷ spelled key ∷ []) in let wide = spelled-width key in omega (arith, line, wide, a)
call-text false true d key value a b =
    let line = line-length (codes "update" ∷ spelled key ∷ spelled value ∷ []) in let wide = spelled-width key in let wider = spelled-width value in omega (arith, line, wide, wider, a, b)
call-text false false true key value a b =
    let line = line-length (codes "delete" ∷ spelled key ∷ []) in let wide = spelled-width key in omega (arith, line, wide, a)
call-text false false false key value a b =
    let line = line-length (codes "insert" ∷ spelled key ∷ spelled value ∷ []) in let wide = spelled-width key in let wider = spelled-width value in omega (arith, line, wide, wider, a, b)

calls-text : (xs : List ℕ) → length (text_of (map call_words (map storm_call xs))) ≤ 28 * length xs
calls-text [] = omega arith
calls-text (x ∷ xs) =
    let kind = x % 8 in
    let own = call-text ((kind == 3) || (kind == 4)) (kind == 5) (kind == 6) (key_of x) (value_of x) (key-length x) (value-length x) in
    let others = calls-text xs in
    let joined = length-append (line_text (call_words (storm_call x))) (text_of (map call_words (map storm_call xs))) in
    omega (arith, own, others, joined)

pub length-numbers : (count state : ℕ) → length (drawn_numbers count state) ≡ count
length-numbers zero state = refl
length-numbers (suc count) state = ap suc (length-numbers count _)

-- the name of a client
name-length : (place : ℕ) → place < 16 → length (made_name place) ≤ 3
name-length place h = let few = length-decimal-le 2 place (omega arith) (omega (arith, h)) (omega (arith, h)) in omega (arith, few)

-- the lines of the clients
clients-text : (clients place calls state : ℕ) → place + clients ≤ 16 → calls ≤ 1024 → length (text_of (flat_map client_words (storm_clients clients place calls state))) ≤ 28684 * clients
clients-text zero place calls state few most = omega arith
clients-text (suc clients) place calls state few most =
    let numbers = drawn_numbers calls state in
    let head = line-length (codes "client" ∷ made_name place ∷ []) in
    let name = name-length place (omega (arith, few)) in
    let own = calls-text numbers in
    let count = length-numbers calls state in
    let others = clients-text clients (place + 1) calls (state_after calls state) (omega (arith, few)) most in
    let whole = texts (client_words (made_name place, map storm_call numbers)) (flat_map client_words (storm_clients clients (place + 1) calls (state_after calls state))) in
    let joined = length-append (line_text (codes "client" ∷ made_name place ∷ [])) (text_of (map call_words (map storm_call numbers))) in
    omega (arith, head, name, own, count, others, whole, joined, most)

-- the names of the clients
pub names-length : (clients place calls state client : ℕ) → place + clients ≤ 16 → length (name_at (map (λ (e : List ℕ × List Call). e.0) (storm_clients clients place calls state)) client) ≤ 3
names-length zero place calls state client few = omega arith
names-length (suc clients) place calls state zero few = name-length place (omega (arith, few))
names-length (suc clients) place calls state (suc client) few = names-length clients (place + 1) calls (state_after calls state) client (omega (arith, few))

-- an item
item-text : (names : List (List ℕ)) (clients y : ℕ) → ((client : ℕ) → length (name_at names client) ≤ 3) → length (item_word names (storm_item clients y)) ≤ 6
item-text names clients y short = by (count == 1)
  where
    count : ℕ
    count = 1 + y / 2 ^ 32 % 16

    by : (t : Bool) → length (if t then name_at names (y % clients) else name_at names (y % clients) ++ 42 ∷ decimal count) ≤ 6
    by true = let name = short (y % clients) in omega (arith, name)
    by false =
        let name = short (y % clients) in
        let low = mod_below (y / 2 ^ 32) 16 (omega arith) in
        let digits = length-decimal-le 2 count (omega arith) (omega (arith, low)) (omega (arith, low)) in
        let joined = length-append (name_at names (y % clients)) (42 ∷ decimal count) in
        omega (arith, name, digits, joined)

-- items of six bytes at most
abbrev AreShort : List (List ℕ) → List Item → Type 0
AreShort names items = AllByRecursion (λ i. length (item_word names i) ≤ 6) items

items-short : (names : List (List ℕ)) (clients : ℕ) (ys : List ℕ) → ((client : ℕ) → length (name_at names client) ≤ 3) → AreShort names (map (storm_item clients) ys)
items-short names clients [] short = tt
items-short names clients (y ∷ ys) short = (item-text names clients y short, items-short names clients ys short)

words-width : (names : List (List ℕ)) (items : List Item) → AreShort names items → widths (map (item_word names) items) ≤ 7 * length items
words-width names [] h = omega arith
words-width names (i ∷ is) h =
    let own = h.0 in
    let others = words-width names is h.1 in
    omega (arith, own, others)

-- the schedule lines
schedules-text : (names : List (List ℕ)) (lines : ℕ) (items : List Item) → AreShort names items → length (text_of (map (schedule_words names) (lines_of_items lines items))) ≤ 17 * length items
schedules-text names zero items h = omega arith
schedules-text names (suc lines) [] h = omega arith
schedules-text names (suc lines) (i ∷ is) h =
    let line : List Item = take 64 (i ∷ is) in
    let rest : List Item = drop 64 (i ∷ is) in
    let wide = words-width names line (all-take (λ (i : Item). length (item_word names i) ≤ 6) 64 (i ∷ is) h) in
    let own = line-length (schedule_words names line) in
    let others = schedules-text names lines rest (all-drop (λ (i : Item). length (item_word names i) ≤ 6) 64 (i ∷ is) h) in
    let joined = length-append (line_text (schedule_words names line)) (text_of (map (schedule_words names) (lines_of_items lines rest))) in
    let front : length line ≡ min 64 (suc (length is)) = length-take 64 (i ∷ is) in
    let back : length rest ≡ suc (length is) - 64 = length-drop 64 (i ∷ is) in
    omega (arith, wide, own, others, joined, front, back)

-- the whole text
pub storm-short : (plans : List Plan) (items : List Item) (clients calls state count later : ℕ) → clients ≤ 16 → calls ≤ 1024 → count ≤ 131072
    → made_clients 0 plans ≡ storm_clients clients 0 calls state → items ≡ map (storm_item clients) (drawn_numbers count later)
    → length (text_of_script (made_script storm_geometry 16 plans items)) ≤ 4194304
storm-short plans items clients calls state count later few most short made drawn =
    let content = made_content plans items in
    let names = names_of content in
    let named : (client : ℕ) → length (name_at names client) ≤ 3 = λ client. subst (λ (es : List (List ℕ × List Call)). length (name_at (map (λ (e : List ℕ × List Call). e.0) es) client) ≤ 3) (sym made) (names-length clients 0 calls state client (omega (arith, few))) in
    let known : AreShort names items = subst (AreShort names) (sym drawn) (items-short names clients (drawn_numbers count later) named) in
    let own : length (text_of (flat_map client_words (made_clients 0 plans))) ≤ 28684 * clients = subst (λ (es : List (List ℕ × List Call)). length (text_of (flat_map client_words es)) ≤ 28684 * clients) (sym made) (clients-text clients 0 calls state (omega (arith, few)) most) in
    let schedules = schedules-text names (length items) items known in
    let long : length items ≡ count = ap length drawn ∙ length-map (drawn_numbers count later) (storm_item clients) ∙ length-numbers count later in
    let header = header-line in
    let table = table-line storm_geometry 16 (omega arith) in
    let nothing = texts (flat_map client_words (made_clients 0 plans)) [] in
    let both = texts (flat_map client_words (made_clients 0 plans) ++ []) (map (schedule_words names) (made_schedules items)) in
    let whole = texts (content_words content) ((codes "end" ∷ []) ∷ []) in
    let first = length-append (line_of (header_words 1)) (10 ∷ []) in
    let second = length-append (line_of (table_words 1 (sizes_of storm_geometry 16))) (10 ∷ []) in
    let behind = text_of (content_words content ++ (codes "end" ∷ []) ∷ []) in
    let tables = length-append (line_text (table_words 1 (sizes_of storm_geometry 16))) behind in
    let headers = length-append (line_text (header_words 1)) (line_text (table_words 1 (sizes_of storm_geometry 16)) ++ behind) in
    omega (arith, few, short, own, schedules, long, header, table, nothing, both, whole, first, second, tables, headers)

-- the items are those of a script
pub items-known : (clients : ℕ) (ys : List ℕ) → 1 ≤ clients → AllByRecursion (IsItem clients) (map (storm_item clients) ys)
items-known clients [] least = tt
items-known clients (y ∷ ys) least =
    let low = mod_below (y / 2 ^ 32) 16 (omega arith) in
    ((mod_below y clients least, omega arith, omega (arith, low)), items-known clients ys least)

-- how many calls there are
pub storm-calls : (clients place calls state : ℕ) → calls ≤ 1024 → call_count (storm_clients clients place calls state) ≤ 1024 * clients
storm-calls zero place calls state most = omega arith
storm-calls (suc clients) place calls state most =
    let others = storm-calls clients (place + 1) calls (state_after calls state) most in
    let own : length (map storm_call (drawn_numbers calls state)) ≡ calls = length-map (drawn_numbers calls state) storm_call ∙ length-numbers calls state in
    omega (arith, others, own, most)

pub length-clients : (clients place calls state : ℕ) → length (storm_clients clients place calls state) ≡ clients
length-clients zero place calls state = refl
length-clients (suc clients) place calls state = ap suc (length-clients clients (place + 1) calls (state_after calls state))

-- the parts of the script make the whole
pub script-made : (script : ScriptValue) (geometry : Geometry) (plans : List Plan) (items : List Item) (seed clients calls later count : ℕ)
    → script ≡ made_script geometry 16 plans items → geometry ≡ storm_geometry → made_clients 0 plans ≡ storm_clients clients 0 calls seed
    → items ≡ map (storm_item clients) (drawn_numbers count later) → later ≡ state_after (clients * calls) seed → count ≡ 8 * clients * calls
    → script ≡ storm_value seed clients calls
script-made script geometry plans items seed clients calls later count is sizes made drawn moved number =
    is ∙ (λ i. (let whole : ScriptValue = record {
      version = 1;
      geometry = sizes i;
      tries = 16;
      content = record no_content { clients = made i; schedules = made_schedules ((drawn ∙ (λ j. map (storm_item clients) (drawn_numbers (number j) (moved j)))) i) };
    } in whole))

-- how many items there are at most
pub few-items : (clients calls : ℕ) → clients ≤ 16 → calls ≤ 1024 → 8 * clients * calls ≤ 131072
few-items clients calls few most = let wide : 8 * clients * calls ≤ 8 * clients * 1024 = mul-le-mul_left (8 * clients) most in omega (arith, wide, few)
