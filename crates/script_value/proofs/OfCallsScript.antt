-- What is made of plans and items is a script.
use Rattle.std.proofs.Common.{◌≡◌, ℕ, zero, suc, ◌+◌, ◌*◌, ◌%◌, ◌^◌, ◌<◌, ◌≤◌, Bool, true, false, not, ◌||◌, ◌==◌, nat_lt, List, [], ◌∷◌, ◌++◌, length, map, Option, Some, None, is_none, refl, sym, ap, subst, ◌∙◌, arith, codes, if◌then◌else◌}
use Rattle.std.proofs.lemmas.Bool.{and_from, cond-false, le-leb, le-ltb, eq-eqb, ne_eqb}
use Rattle.std.proofs.lemmas.Fmt.{length-decimal-le}
use Rattle.std.proofs.lemmas.List.{length-append}
use Rattle.std.specs.List.{AllByRecursion, flat_map}
use Rattle.std.specs.Fmt.{decimal}
use Rattle.map_model.specs.declared.calls.Call.{Call}
use Rattle.map_model.specs.declared.calls.Call.TheVariants.{Insert, Search, Update, Delete, Resize}
use Rattle.map_model.specs.declared.plans.Item.{Item}
use Rattle.map_model.specs.declared.plans.Item.TheVariants as item
use Rattle.map_model.specs.declared.plans.Plan.{Plan}
use Rattle.map_model.proofs.Filtered.{append_all}
use Rattle.node_words.specs.declared.geometry.Geometry.{Geometry}
use Rattle.node_words.specs.Limits.{words_needed}
use Rattle.node_words.specs.Faults.{first_fault}
use Rattle.node_words.proofs.Sizes.{group_range}
use Rattle.spelling.specs.Spelling.{spelled, hex_text, is_plain_text}
use Rattle.script_value.specs.Content.{Content, sizes_of, names_of}
use Rattle.script_value.specs.ScriptText.{call_words, client_words, name_at, item_word, schedule_words, table_words, header_words, content_words, script_words, line_of, text_of_script}
use Rattle.script_value.specs.Valid.{are_sizes, Each, IsCall, IsClient, IsItem, IsSchedule, IsScript}
use Rattle.script_value.specs.Made.{made_clients, made_schedules, made_content, made_script, planned_calls}
use Rattle.spelling.proofs.Names.{length-name}
use Rattle.script_value.proofs.OfCalls.{length-made, made-calls, lines-made}

-- a test that fails lets the others decide
passed : {X : Type 0} (b : Bool) (x : X) (rest : Option X) → b ≡ false → rest ≡ None → (if b then Some x else rest) ≡ None
passed b x rest h others = cond-false _ _ _ h ∙ others

-- the numbers of a geometry have no fault
no-fault : (g : Geometry) → first_fault g.groups g.max_depth g.first_depth g.nodes g.words ≡ None
no-fault g =
    passed _ _ _ (ap not g.grouped)
    (passed _ _ _ (le-ltb 16 g.max_depth g.deep)
    (passed _ _ _ (le-ltb g.max_depth g.first_depth g.begins)
    (passed _ _ _ nodes
    (passed _ _ _ (le-ltb (2 ^ 24) g.words g.within)
    (passed _ _ _ (le-ltb g.words (words_needed g.groups g.max_depth g.first_depth g.nodes) g.enough) refl)))))
  where
    some : (g.nodes == 0) ≡ false
    some = let least = g.some in ne_eqb g.nodes 0 (λ e. omega (arith, e, least))

    few : nat_lt 8 g.nodes ≡ false
    few = le-ltb 8 g.nodes g.few

    even : not (g.words % g.nodes == 0) ≡ false
    even = ap not (eq-eqb (g.words % g.nodes) 0 g.even)

    nodes : ((g.nodes == 0) || nat_lt 8 g.nodes || not (g.words % g.nodes == 0)) ≡ false
    nodes = λ i. some i || few i || even i

-- a geometry that a `race 1` script can give, and tries
made-sizes : (g : Geometry) (tries : ℕ) → g.max_depth ≤ 12 → 1 ≤ tries → tries ≤ 64 → are_sizes 1 (sizes_of g tries) ≡ true
made-sizes g tries deep least most =
    let first = g.begins in
    and_from _ _ (and_from _ _ (and_from _ _ (and_from _ _ (and_from _ _
    (le-leb g.groups 64 ((group_range g.groups g.grouped).1))
    (le-leb g.max_depth 12 deep))
    (le-leb g.first_depth 16 (omega (arith, first, deep))))
    (le-leb g.nodes 8 g.few))
    (and_from _ _ (le-leb 1 tries least) (le-leb tries 64 most)))
    (ap is_none (no-fault g))

-- how wide a line is, with a byte behind each word
abbrev pub widths : List (List ℕ) → ℕ
widths [] = 0
widths (w ∷ ws) = suc (length w + widths ws)

pub line-width : (ws : List (List ℕ)) → length (line_of ws) ≤ widths ws
line-width [] = omega arith
line-width (w ∷ []) = omega arith
line-width (w ∷ v ∷ ws) =
    let others = line-width (v ∷ ws) in
    let joined = length-append w (32 ∷ line_of (v ∷ ws)) in
    omega (arith, others, joined)

-- a key or a value has two digits a byte at most, behind a `%`
hex-width : (bytes : List ℕ) → length (hex_text bytes) ≡ 2 * length bytes
hex-width [] = refl
hex-width (b ∷ bs) = let others = hex-width bs in omega (arith, others)

pub spelled-width : (bytes : List ℕ) → length (spelled bytes) ≤ 1 + 2 * length bytes
unfolding spelled
spelled-width bytes = by (is_plain_text bytes)
  where
    by : (t : Bool) → length (if t then bytes else 37 ∷ hex_text bytes) ≤ 1 + 2 * length bytes
    by true = omega arith
    by false = let hex = hex-width bytes in omega (arith, hex)

-- the line of a call
key-line : (word key : List ℕ) → length word ≤ 6 → length key ≤ 64 → length (line_of (word ∷ spelled key ∷ [])) ≤ 4096
key-line word key a b =
    let line = line-width (word ∷ spelled key ∷ []) in
    let wide = spelled-width key in
    omega (arith, line, wide)

pair-line : (word key value : List ℕ) → length word ≤ 6 → length key ≤ 64 → length value ≤ 1024 → length (line_of (word ∷ spelled key ∷ spelled value ∷ [])) ≤ 4096
pair-line word key value a b c =
    let line = line-width (word ∷ spelled key ∷ spelled value ∷ []) in
    let wide = spelled-width key in
    let wider = spelled-width value in
    omega (arith, line, wide, wider)

abbrev pub IsShort : List (List ℕ) → Type 0
IsShort words = length (line_of words) ≤ 4096

call-line : (call : Call) → IsCall call → IsShort (call_words call)
call-line (Insert key value) h = pair-line (codes "insert") key value (omega arith) h.0.0.most h.1.0
call-line (Search key) h = key-line (codes "search") key (omega arith) h.0.most
call-line (Update key value) h = pair-line (codes "update") key value (omega arith) h.0.0.most h.1.0
call-line (Delete key) h = key-line (codes "delete") key (omega arith) h.0.most
call-line (Resize key) h = key-line (codes "resize") key (omega arith) h.0.most

call-lines : (calls : List Call) → AllByRecursion IsCall calls → AllByRecursion IsShort (map call_words calls)
call-lines [] h = tt
call-lines (call ∷ calls) h = (call-line call h.0, call-lines calls h.1)

-- the lines of the clients
client-lines : (front es : List (List ℕ × List Call)) → Each (IsClient 16) front es → AllByRecursion IsShort (flat_map client_words es)
client-lines front [] h = tt
client-lines front (e ∷ es) h =
    let name = length-name e.0 h.0.0 in
    let line = line-width (codes "client" ∷ e.0 ∷ []) in
    append_all IsShort (client_words e) (flat_map client_words es) (omega (arith, name, line), call-lines e.1 h.0.3) (client-lines (front ++ e ∷ []) es h.1)

-- a name has 16 bytes at most
name-width : (front es : List (List ℕ × List Call)) (client : ℕ) → Each (IsClient 16) front es → length (name_at (map (λ (e : List ℕ × List Call). e.0) es) client) ≤ 16
name-width front [] client h = omega arith
name-width front (e ∷ es) zero h = length-name e.0 h.0.0
name-width front (e ∷ es) (suc client) h = name-width (front ++ e ∷ []) es client h.1

item-width : (names : List (List ℕ)) (clients : ℕ) (i : Item) → ((client : ℕ) → length (name_at names client) ≤ 16) → IsItem clients i → length (item_word names i) ≤ 24
item-width names clients (item.Verbs client count) short h = by (count == 1)
  where
    by : (t : Bool) → length (if t then name_at names client else name_at names client ++ 42 ∷ decimal count) ≤ 24
    by true = let name = short client in omega (arith, name)
    by false =
        let name = short client in
        let most = h.2 in
        let digits = length-decimal-le 7 count (omega arith) (omega (arith, most)) (omega (arith, most)) in
        let joined = length-append (name_at names client) (42 ∷ decimal count) in
        omega (arith, name, digits, joined)
item-width names clients (item.Call client) short h =
    let name = short client in
    let joined = length-append (name_at names client) (33 ∷ []) in
    omega (arith, name, joined)

items-width : (names : List (List ℕ)) (clients : ℕ) (items : List Item) → ((client : ℕ) → length (name_at names client) ≤ 16) → AllByRecursion (IsItem clients) items
    → widths (map (item_word names) items) ≤ 25 * length items
items-width names clients [] short h = omega arith
items-width names clients (i ∷ is) short h =
    let own = item-width names clients i short h.0 in
    let others = items-width names clients is short h.1 in
    omega (arith, own, others)

-- the schedule lines
schedule-lines : (names : List (List ℕ)) (clients : ℕ) (lines : List (List Item)) → ((client : ℕ) → length (name_at names client) ≤ 16)
    → AllByRecursion (λ line. IsSchedule clients line × (length line ≤ 64)) lines → AllByRecursion IsShort (map (schedule_words names) lines)
schedule-lines names clients [] short h = tt
schedule-lines names clients (line ∷ lines) short h =
    let items = items-width names clients line short h.0.0.1 in
    let whole = line-width (schedule_words names line) in
    let few = h.0.1 in
    (omega (arith, items, whole, few), schedule-lines names clients lines short h.1)

-- line 2
number-width : (n : ℕ) → n < 2 ^ 64 → length (decimal n) ≤ 20
number-width n h = length-decimal-le 20 n (omega arith) (omega arith) h

pub table-line : (g : Geometry) (tries : ℕ) → tries ≤ 64 → IsShort (table_words 1 (sizes_of g tries))
table-line g tries most =
    let groups = number-width g.groups (let few = (group_range g.groups g.grouped).1 in omega (arith, few)) in
    let depth = number-width g.max_depth (let deep = g.deep in omega (arith, deep)) in
    let words = number-width g.words (let within = g.within in omega (arith, within)) in
    let tried = number-width tries (omega (arith, most)) in
    let line = line-width (table_words 1 (sizes_of g tries)) in
    let a = length-append (codes "groups=") (decimal g.groups) in
    let b = length-append (codes "depth=") (decimal g.max_depth) in
    let c = length-append (codes "words=") (decimal g.words) in
    let d = length-append (codes "tries=") (decimal tries) in
    omega (arith, groups, depth, words, tried, line, a, b, c, d)

pub header-line : IsShort (header_words 1)
header-line =
    let one = number-width 1 (omega arith) in
    let line = line-width (header_words 1) in
    omega (arith, one, line)

without-lengths : (clients : ℕ) (lines : List (List Item)) → AllByRecursion (λ line. IsSchedule clients line × (length line ≤ 64)) lines → AllByRecursion (IsSchedule clients) lines
without-lengths clients [] h = tt
without-lengths clients (line ∷ lines) h = (h.0.0, without-lengths clients lines h.1)

-- each line of what is made is short
pub made-lines : (g : Geometry) (tries : ℕ) (plans : List Plan) (items : List Item) → tries ≤ 64 → AllByRecursion (IsItem (length plans)) items → Each (IsClient 16) [] (made_clients 0 plans)
    → AllByRecursion IsShort (script_words (made_script g tries plans items))
made-lines g tries plans items most known clients =
    let content = made_content plans items in
    let lines = lines-made (length plans) (length items) items known in
    let front = append_all IsShort (flat_map client_words content.clients) [] (client-lines [] content.clients clients) tt in
    let behind = schedule-lines (names_of content) (length plans) (made_schedules items) (λ client. name-width [] content.clients client clients) lines in
    (header-line, (table-line g tries most, append_all IsShort (content_words content) ((codes "end" ∷ []) ∷ []) (append_all IsShort _ _ front behind) (omega arith, tt)))

-- what is made is a script
pub made-is-script : (g : Geometry) (tries : ℕ) (plans : List Plan) (items : List Item) → g.max_depth ≤ 12 → g.first_depth ≡ 0 → g.nodes ≡ 1 → 1 ≤ tries → tries ≤ 64 → 1 ≤ length plans
    → planned_calls plans ≤ 65536 → AllByRecursion (IsItem (length plans)) items → Each (IsClient 16) [] (made_clients 0 plans)
    → length (text_of_script (made_script g tries plans items)) ≤ 4194304 → IsScript (made_script g tries plans items)
made-is-script g tries plans items deep first nodes least most some calls known clients short =
    let long = length-made 0 plans in
    let lines = lines-made (length plans) (length items) items known in
    let within = subst (λ n. AllByRecursion (IsSchedule n) (made_schedules items)) (sym long) (without-lengths (length plans) (made_schedules items) lines) in
    record {
      version_least = omega arith;
      version_most = omega arith;
      sizes = made-sizes g tries deep least most;
      first = λ _. first;
      nodes = λ _. nodes;
      content = record { hashes = tt; clients = clients; calls = subst (λ n. n ≤ 65536) (sym (made-calls 0 plans)) calls; stops = tt; schedules = within };
      some = omega (arith, long, some);
      short_lines = made-lines g tries plans items most known clients;
      short = short;
    }

-- clients and then schedule lines make the content
pub content-made : (clients content : Content) (plans : List Plan) (items : List Item) (all_plans : List Plan) (all_items : List Item)
    → content ≡ record clients { schedules = clients.schedules ++ made_schedules items } → clients ≡ made_content plans [] → plans ≡ all_plans → items ≡ all_items → content ≡ made_content all_plans all_items
content-made clients content plans items all_plans all_items content-is clients-are plans-are items-are =
    content-is ∙ ap (λ (c : Content). record c { schedules = c.schedules ++ made_schedules items }) clients-are
    ∙ ap (λ ps. made_content ps items) plans-are ∙ ap (λ is. made_content all_plans is) items-are
