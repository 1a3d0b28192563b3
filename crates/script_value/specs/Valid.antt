-- Which values are scripts.
use Rattle.std.specs.Prelude.{◌≡◌, ◌&&◌, ◌==◌, if◌then◌else◌, nat_le, Bool, is_none, ℕ, ◌+◌, ◌<◌, ◌≤◌, ◌^◌, IsTrue, true, false, List, [], ◌∷◌, ◌++◌, length, map, position, nat_eq, None}
use Rattle.std.specs.List.{AllByRecursion}
use Rattle.std.specs.Map.{lookup}
use Rattle.kv_block.specs.Bytes.{key_eq}
use Rattle.key_hash.specs.Placing.{is_listed}
use Rattle.map_model.specs.declared.calls.Call.{Call}
use Rattle.map_model.specs.declared.calls.Call.TheVariants.{Insert, Search, Update, Delete, Resize}
use Rattle.map_model.specs.declared.plans.Item.{Item}
use Rattle.map_model.specs.declared.plans.Item.TheVariants as item
use Rattle.node_words.specs.Faults.{first_fault}
use Rattle.spelling.specs.Spelling.{is_within}
use Rattle.spelling.specs.Words.{is_name, IsKey, IsValue}
use Rattle.script_value.specs.Content.{Content, ScriptValue, Sizes, sizes_of}
use Rattle.script_value.specs.ScriptText.{line_of, script_words, text_of_script}

-- P holds of each item and those before it, where these stand in front of all
abbrev pub Each : {X : Type 0} → (List X → X → Type 0) → List X → List X → Type 0
Each P front [] = Unit {0}
Each P front (x ∷ xs) = P front x × Each P (front ++ x ∷ []) xs

abbrev pub IsCall : Call → Type 0
IsCall (Insert key value) = IsKey key × IsValue value
IsCall (Search key) = IsKey key
IsCall (Update key value) = IsKey key × IsValue value
IsCall (Delete key) = IsKey key
IsCall (Resize key) = IsKey key

-- a key with its number, which is not listed before
abbrev pub IsHash : List (List ℕ × ℕ) → List ℕ × ℕ → Type 0
IsHash front e = IsKey e.0 × (e.1 < 2 ^ 64) × (is_listed front e.0 ≡ false)

-- a client with its calls, whose name no other has before, of so many clients at most
abbrev pub IsClient : ℕ → List (List ℕ × List Call) → List ℕ × List Call → Type 0
IsClient most front e =
    IsTrue (is_name e.0) × (position (key_eq e.0) (map (λ d. d.0) front) ≡ None) × (length front < most) × AllByRecursion IsCall e.1

-- the stop of a client, which has none before
abbrev pub IsStop : ℕ → List (ℕ × ℕ) → ℕ × ℕ → Type 0
IsStop clients front e = (e.0 < clients) × (e.1 ≤ 1000000000) × (lookup (nat_eq e.0) front ≡ None)

-- verbs of a client, 1 to 1,000,000 of them, or its call
abbrev pub IsItem : ℕ → Item → Type 0
IsItem clients (item.Verbs client count) = (client < clients) × (1 ≤ count) × (count ≤ 1000000)
IsItem clients (item.Call client) = client < clients

-- a schedule line: one item at least
abbrev pub IsSchedule : ℕ → List Item → Type 0
IsSchedule clients items = (1 ≤ length items) × AllByRecursion (IsItem clients) items

-- how many calls there are
abbrev pub call_count : List (List ℕ × List Call) → ℕ
call_count [] = 0
call_count (e ∷ es) = length e.1 + call_count es

-- the lines behind the first two, but for their length
pub record IsContent (most : ℕ) (c : Content) : Type 0 where
  pub hashes : Each IsHash [] c.hashes
  pub clients : Each (IsClient most) [] c.clients
  pub calls : call_count c.clients ≤ 65536
  pub stops : Each (IsStop (length c.clients)) [] c.stops
  pub schedules : AllByRecursion (IsSchedule (length c.clients)) c.schedules

-- the greatest depth of a version
abbrev pub most_depth : ℕ → ℕ
most_depth version = if version == 1 then 12 else 16

-- the most clients of a version
abbrev pub most_clients : ℕ → ℕ
most_clients version = if version == 1 then 16 else 64

-- numbers within the limits
abbrev pub are_sizes : ℕ → Sizes → Bool
are_sizes version s =
    nat_le s.groups 64 && nat_le s.max_depth (most_depth version) && nat_le s.first_depth 16 && nat_le s.nodes 8
    && is_within 1 64 s.tries && is_none (first_fault s.groups s.max_depth s.first_depth s.nodes s.words)

-- a script
pub record IsScript (s : ScriptValue) : Type 0 where
  pub version_least : 1 ≤ s.version
  pub version_most : s.version ≤ 2
  pub sizes : are_sizes s.version (sizes_of s.geometry s.tries) ≡ true
  pub first : s.version ≡ 1 → s.geometry.first_depth ≡ 0
  pub nodes : s.version ≡ 1 → s.geometry.nodes ≡ 1
  pub content : IsContent (most_clients s.version) s.content
  pub some : 1 ≤ length s.content.clients
  pub short_lines : AllByRecursion (λ words. length (line_of words) ≤ 4096) (script_words s)
  pub short : length (text_of_script s) ≤ 4194304
