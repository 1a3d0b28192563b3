-- How long the text of a script is at most that is made of plans and items.
use Rattle.std.proofs.Common.{◌≡◌, ℕ, zero, suc, ◌+◌, ◌-◌, ◌*◌, ◌≤◌, List, [], ◌∷◌, ◌++◌, length, map, drop, codes, refl, sym, ap, subst, ◌∙◌, arith}
use Rattle.std.proofs.lemmas.List.{length-append, length-drop, length-map}
use Rattle.std.specs.List.{AllByRecursion, flat_map}
use Rattle.map_model.specs.declared.calls.Call.{Call}
use Rattle.map_model.specs.declared.calls.Call.TheVariants.{Search}
use Rattle.map_model.specs.declared.plans.Item.{Item}
use Rattle.map_model.specs.declared.plans.Plan.{Plan}
use Rattle.node_words.specs.declared.geometry.Geometry.{Geometry}
use Rattle.script_value.specs.Content.{names_of}
use Rattle.script_value.specs.ScriptText.{call_words, client_words, schedule_words, content_words, script_words, line_of, line_text, text_of, text_of_script}
use Rattle.script_value.specs.Valid.{Each, IsCall, IsClient, IsItem, call_count}
use Rattle.spelling.specs.Words.{IsKey}
use Rattle.script_value.specs.Made.{made_clients, lines_of_items, made_schedules, made_content, made_script, planned_calls}
use Rattle.script_value.proofs.OfCalls.{length-made, made-calls, client-known}
use Rattle.script_value.proofs.OfCallsScript.{IsShort, made-lines}

-- short lines make a text of 4,097 bytes for each at most
text-width : (lines : List (List (List ℕ))) → AllByRecursion IsShort lines → length (text_of lines) ≤ 4097 * length lines
text-width [] h = omega arith
text-width (l ∷ ls) h =
    let own = h.0 in
    let others = text-width ls h.1 in
    let fed = length-append (line_of l) (10 ∷ []) in
    let joined = length-append (line_text l) (text_of ls) in
    omega (arith, own, others, fed, joined)

-- a line for each client and each call
client-count : (es : List (List ℕ × List Call)) → length (flat_map client_words es) ≡ length es + call_count es
client-count [] = omega arith
client-count (e ∷ es) =
    let others = client-count es in
    let calls = length-map e.1 call_words in
    let joined = length-append (client_words e) (flat_map client_words es) in
    omega (arith, others, calls, joined)

-- at most a line for each item
schedule-count : (lines : ℕ) (items : List Item) → length (lines_of_items lines items) ≤ length items
schedule-count zero items = omega arith
schedule-count (suc lines) [] = omega arith
schedule-count (suc lines) (i ∷ is) =
    let others = schedule-count lines (drop 64 (i ∷ is)) in
    let fewer : length (drop 64 (i ∷ is)) ≡ suc (length is) - 64 = length-drop 64 (i ∷ is) in
    omega (arith, others, fewer)

-- so many lines at most
pub made-short : (g : Geometry) (tries : ℕ) (plans : List Plan) (items : List Item) → tries ≤ 64 → AllByRecursion (IsItem (length plans)) items → Each (IsClient 16) [] (made_clients 0 plans)
    → 3 + length plans + planned_calls plans + length items ≤ 1023 → length (text_of_script (made_script g tries plans items)) ≤ 4194304
made-short g tries plans items most known clients few =
    let content = made_content plans items in
    let wide = text-width (script_words (made_script g tries plans items)) (made-lines g tries plans items most known clients) in
    let front = client-count content.clients in
    let named = length-made 0 plans in
    let calls = made-calls 0 plans in
    let schedules = schedule-count (length items) items in
    let behind = length-map (made_schedules items) (schedule_words (names_of content)) in
    let nothing = length-append (flat_map client_words content.clients) [] in
    let both = length-append (flat_map client_words content.clients ++ []) (map (schedule_words (names_of content)) (made_schedules items)) in
    let whole = length-append (content_words content) ((codes "end" ∷ []) ∷ []) in
    omega (arith, wide, front, named, calls, schedules, behind, nothing, both, whole, few)

-- one client that searches once
pub one-search : (g : Geometry) (tries : ℕ) (key : List ℕ) (plan : Plan) (items : List Item) → tries ≤ 64 → plan.calls.items ≡ Search key ∷ [] → IsKey key → AllByRecursion (IsItem 1) items → length items ≤ 100
    → length (text_of_script (made_script g tries (plan ∷ []) items)) ≤ 4194304
one-search g tries key plan items most calls known items-known few =
    let calls-known = subst (AllByRecursion IsCall) (sym calls) (known, tt) in
    let clients = client-known [] plan 0 refl (omega arith) calls-known tt in
    let one = ap length calls in
    made-short g tries (plan ∷ []) items most items-known clients (omega (arith, one, few))

-- the first item of a list
pub first-item : {X : Type 0} (none items : List X) (x : X) → items ≡ none ++ x ∷ [] → none ≡ [] → items ≡ x ∷ []
first-item none items x pushed empty = pushed ∙ ap (λ others. others ++ x ∷ []) empty
