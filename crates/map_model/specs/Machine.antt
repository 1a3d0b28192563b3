-- The map machine: what each call is answered, and the map that it leaves.
use Rattle.std.specs.Prelude.{ℕ, Bool, true, false, List, [], ◌∷◌, take, Option, Some, None, is_some, if◌then◌else◌}
use Rattle.std.specs.FinMap as map
use Rattle.kv_block.specs.declared.changes.Change.{Change}
use Rattle.map_model.specs.declared.calls.Call.{Call}
use Rattle.map_model.specs.declared.calls.Call.TheVariants.{Insert, Search, Update, Delete, Resize}
use Rattle.map_model.specs.declared.calls.Reply.{Reply}
use Rattle.map_model.specs.declared.calls.Reply.TheVariants.{Found, Missing, Inserted, Exists, Updated, Deleted, Split, Again, FullDepth, FullWords, NoBlock}
use Rattle.map_model.specs.Contents.{Contents}

-- the replies, by what the map has at the key
abbrev pub search_reply : Option (List ℕ) → Reply
search_reply (Some value) = Found value
search_reply None = Missing

abbrev pub insert_reply : Option (List ℕ) → Reply
insert_reply (Some value) = Exists value
insert_reply None = Inserted

abbrev pub update_reply : Option (List ℕ) → Reply
update_reply (Some old) = Updated old
update_reply None = Missing

abbrev pub delete_reply : Option (List ℕ) → Reply
delete_reply (Some old) = Deleted old
delete_reply None = Missing

-- the key that a call is about
abbrev pub key_of : Call → List ℕ
key_of (Insert key value) = key
key_of (Search key) = key
key_of (Update key value) = key
key_of (Delete key) = key
key_of (Resize key) = key

-- the map's reply to a call, by what it has at the call's key; a resize has none
abbrev pub reply_at : Call → Option (List ℕ) → Option Reply
reply_at (Insert key value) old = Some (insert_reply old)
reply_at (Search key) old = Some (search_reply old)
reply_at (Update key value) old = Some (update_reply old)
reply_at (Delete key) old = Some (delete_reply old)
reply_at (Resize key) old = None

-- the map's reply to a call
abbrev pub reply_of : Contents → Call → Option Reply
reply_of m call = reply_at call (map.get m (key_of call))

-- the map that a call leaves
abbrev pub after : Contents → Call → Contents
after m (Insert key value) = if is_some (map.get m key) then m else map.insert m key value
after m (Search key) = m
after m (Update key value) = if is_some (map.get m key) then map.insert m key value else m
after m (Delete key) = if is_some (map.get m key) then map.remove m key else m
after m (Resize key) = m

-- what a key has after a call of it, by what it had
abbrev pub value_after : Call → Option (List ℕ) → Option (List ℕ)
value_after (Insert key value) (Some old) = Some old
value_after (Insert key value) None = Some value
value_after (Search key) old = old
value_after (Update key value) (Some old) = Some value
value_after (Update key value) None = None
value_after (Delete key) old = None
value_after (Resize key) old = old

-- the map with a key set to a value, or gone
abbrev pub with_value : Contents → List ℕ → Option (List ℕ) → Contents
with_value m key (Some value) = map.insert m key value
with_value m key None = map.remove m key

-- the map after a change
abbrev pub changed : Contents → Change → Contents
changed m change = with_value m change.key change.value

-- the map after changes, in order
abbrev pub map_after : Contents → List Change → Contents
map_after m [] = m
map_after m (change ∷ changes) = map_after (changed m change) changes

-- the empty map after the first n changes
abbrev pub map_at : List Change → ℕ → Contents
map_at changes n = map_after map.empty (take n changes)

-- the change that a call makes where it changes the map
abbrev pub change_of : Call → Option Change
change_of (Insert key value) = Some (record { key = key; value = Some value })
change_of (Search key) = None
change_of (Update key value) = Some (record { key = key; value = Some value })
change_of (Delete key) = Some (record { key = key; value = None })
change_of (Resize key) = None

-- replies of a call that changed the map
abbrev pub is_change : Reply → Bool
is_change (Found value) = false
is_change Missing = false
is_change Inserted = true
is_change (Exists value) = false
is_change (Updated old) = true
is_change (Deleted old) = true
is_change (Split table depth) = false
is_change (Again lost) = false
is_change (FullDepth depth) = false
is_change (FullWords next need) = false
is_change (NoBlock next need) = false

-- replies of a call that the map answered and that left it as it was
abbrev pub is_quiet : Reply → Bool
is_quiet (Found value) = true
is_quiet Missing = true
is_quiet Inserted = false
is_quiet (Exists value) = true
is_quiet (Updated old) = false
is_quiet (Deleted old) = false
is_quiet (Split table depth) = false
is_quiet (Again lost) = false
is_quiet (FullDepth depth) = false
is_quiet (FullWords next need) = false
is_quiet (NoBlock next need) = false
