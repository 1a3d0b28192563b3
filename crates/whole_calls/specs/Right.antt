-- When a call is answered rightly.
use Rattle.std.specs.Prelude.{◌≡◌, ℕ, ◌<◌, ◌≤◌, true, false, List, [], ◌∷◌, ◌++◌, length, reverse, slice_index, None, Some, ◌⊎◌}
use Rattle.slot_word.specs.declared.slots.Mark.TheVariants.{Live}
use Rattle.kv_block.specs.declared.changes.Change.{Change}
use Rattle.kv_block.specs.Packing.{Pair, packed}
use Rattle.map_model.specs.declared.calls.Call.{Call}
use Rattle.map_model.specs.declared.calls.Call.TheVariants.{Insert, Update, Resize}
use Rattle.map_model.specs.declared.calls.Reply.{Reply}
use Rattle.map_model.specs.declared.calls.Reply.TheVariants.{Found, Inserted, Exists, Updated, Deleted, Split, Again, FullDepth, FullWords, NoBlock}
use Rattle.map_model.specs.Machine.{key_of, reply_of, map_at, change_of, is_change, is_quiet}
use Rattle.node_words.specs.Addresses.{table_words}
use Rattle.verb_log.specs.declared.entry.Entry.{Entry}
use Rattle.verb_log.specs.Decoded.{Body, Full, PlainAt, content}
use Rattle.verb_log.specs.Tables.{Past, Before}
use Rattle.verbs.specs.Logs.{Entries}
use Rattle.race_laws.specs.Setting.{Setting, hash}
use Rattle.race_laws.specs.Standing.{header_in, key_header}
use Rattle.race_laws.specs.Chains.{Holder}
use Rattle.log_facts.specs.Start.{Start}
use Rattle.log_facts.specs.Among.{changes_of}
use Rattle.pass_text.specs.declared.passed.Passed.{Passed}
use Rattle.block_taking.specs.Holdings.{Owns}
use Rattle.block_taking.specs.Law.{WasFull}
use Rattle.begin_laws.specs.Law.{WasFull as TableWasFull}
use Rattle.op_insert.specs.Text.{live_word}
use Rattle.op_insert.specs.Law.{inserting_of, NoRoom}
use Rattle.split_laws.specs.Law.{SplitBy}
use Rattle.call_texts.specs.State.{State, CallEnd}
use Rattle.whole_calls.specs.Fits.{TicketFits}

-- the live word of the block that an insert has written
abbrev pub stored : Setting → ℕ → Call → ℕ → ℕ
stored s c (Insert key value) at = live_word (inserting_of s c (record { key = key; value = value }) 0) at
stored s c _ at = 0

-- the blocks of a change: of the word that stood before it, and of the one that it stored
abbrev pub Blocks : Setting → ℕ → Call → Entry → Reply → ℕ → ℕ → Type 0
Blocks s c call e Inserted source target = (source ≡ 0) × (e.new ≡ stored s c call target)
Blocks s c call e (Updated old) source target = ((body : Body) × (content e.old ≡ Full Live body) × (body.at ≡ source)) × ((new : Body) × (content e.new ≡ Full Live new) × (new.at ≡ target))
Blocks s c call e (Deleted old) source target = ((body : Body) × (content e.old ≡ Full Live body) × (body.at ≡ source)) × (target ≡ 0) × (e.new ≡ 0)
Blocks s c call e _ source target = Unit {0}

-- the call changed the map: by the last entry of the log, which is the client's; the change is the call's, of its key, and on the map
-- just before it the call is answered so
pub record OneChange (s : Setting) (c : ℕ) (call : Call) (before : List Change) (l : Entries) (e : CallEnd) : Type 0 where
  pub change : Change
  pub is : change_of call ≡ Some change
  pub made : changes_of s l ≡ before ++ change ∷ []
  pub answers : reply_of (map_at before (length before)) call ≡ Some e.reply
  pub entry : Entry
  pub past : Past
  pub last : reverse l ≡ entry ∷ past
  pub client : entry.client ≡ c
  pub blocks : Blocks s c call entry e.reply e.source e.target

-- there is a point between the changes in the log `first` and those in the log l at which a single map gives this reply
pub record AtPoint (s : Setting) (call : Call) (first l : Entries) (reply : Reply) : Type 0 where
  pub point : ℕ
  pub least : length (changes_of s first) ≤ point
  pub most : point ≤ length (changes_of s l)
  pub answers : reply_of (map_at (changes_of s l) point) call ≡ Some reply

-- at a position of the call the key's holder named this block, which held the key and this value
pub record HolderRead (s : Setting) (key value : List ℕ) (from q : Past) (block : ℕ) : Type 0 where
  pub at : Past
  pub from_then : Before from at
  pub till : Before at q
  pub table : ℕ
  pub place : ℕ
  pub body : Body
  pub pair : Pair
  pub holder : Holder s at key table place body pair
  pub named : body.at ≡ block
  pub value_is : pair.value ≡ value

-- Found and Exists tell the block that was read, on both sides
abbrev pub WasRead : Setting → Call → Past → Past → Reply → ℕ → ℕ → Type 0
WasRead s call from q (Found value) source target = HolderRead s (key_of call) value from q source × (target ≡ source)
WasRead s call from q (Exists value) source target = HolderRead s (key_of call) value from q source × (target ≡ source)
WasRead s call from q _ source target = Unit {0}

-- the last part of an insert found each candidate of a table occupied
pub record NoPlace (s : Setting) (c : ℕ) (call : Call) (from q : Past) : Type 0 where
  pub pair : Pair
  pub is : call ≡ Insert pair.key pair.value
  pub since : Past
  pub from_then : Before from since
  pub till : Past
  pub till_then : Before till q
  pub passed : Passed
  pub tries : ℕ
  pub none : NoRoom s (inserting_of s c pair tries) since till passed

-- at a position a table was plain at the greatest depth, by its header or by the key's
pub record FullTable (s : Setting) (key : List ℕ) (from q : Past) : Type 0 where
  pub at : Past
  pub from_then : Before from at
  pub till : Before at q
  pub table : ℕ
  pub plain : (header_in s.geometry at table ≡ PlainAt s.geometry.max_depth) ⊎ (key_header s at table key ≡ PlainAt s.geometry.max_depth)

-- .. before the candidates of that table were read, each of which is occupied
pub record FullPlace (s : Setting) (c : ℕ) (call : Call) (from q : Past) : Type 0 where
  pub no_place : NoPlace s c call from q
  pub full : FullTable s (key_of call) from no_place.none.look.opened
  pub there : full.table ≡ no_place.passed.table

-- the words of the block that a call writes
abbrev pub block_words : Call → ℕ
block_words (Insert key value) = length (packed key value)
block_words (Update key value) = length (packed key value)
block_words _ = 0

-- Inserts alone have no place for a key, and resizes want none; no other call wants room.
abbrev pub HadNoPlace : Setting → ℕ → Call → Past → Past → Type 0
HadNoPlace s c (Insert key value) from q = NoPlace s c (Insert key value) from q
HadNoPlace s c (Resize key) from q = Unit {0}
HadNoPlace s c _ from q = ⊥

abbrev pub WasFullDepth : Setting → ℕ → Call → State → Past → Past → Type 0
WasFullDepth s c (Insert key value) k from q = FullPlace s c (Insert key value) from q
WasFullDepth s c (Resize key) k from q = FullTable s key from q × (k.ticket ≡ None)
WasFullDepth s c _ k from q = ⊥

-- what is known of why a call was refused, or which split it did. Again: the number told is that of the swaps that might be lost.
-- FullDepth: a table was plain at the greatest depth; for an insert it was read so before its candidates were, each of which is
-- occupied, and for a resize the client has no ticket. NoBlock, FullWords: at positions of the call the next word of each node was the
-- listed number, and so many words more go past that node's end; for FullWords of an insert each candidate of a table is occupied.
abbrev pub Cause : Setting → ℕ → Call → State → Past → Past → Reply → Type 0
Cause s c call k from q (Again lost) = lost ≡ k.tries
Cause s c call k from q (FullDepth depth) = (depth ≡ s.geometry.max_depth) × WasFullDepth s c call k from q
Cause s c call k from q (NoBlock next need) =
    (need ≡ block_words call) × (length next ≡ s.geometry.nodes) × ((n : ℕ) → n < s.geometry.nodes → WasFull s from q n (slice_index next n) need)
Cause s c call k from q (FullWords next need) =
    (need ≡ table_words s.geometry) × (length next ≡ s.geometry.nodes)
    × ((n : ℕ) → n < s.geometry.nodes → TableWasFull s from q n (slice_index next n) (table_words s.geometry)) × HadNoPlace s c call from q
Cause s c call k from q (Split table depth) = SplitBy s c table depth q
Cause s c call k from q _ = Unit {0}

-- a call of client c with this state, which saw the log `first` before its first verb, is answered so, where `before` were the changes
-- when its last verb was done, which left the log l
pub record Right (s : Setting) (c : ℕ) (call : Call) (k : State) (first : Entries) (before : List Change) (l : Entries) (e : CallEnd) : Type 0 where
  -- a reply of a change: exactly one change, the last entry, of the call's key
  pub changing : is_change e.reply ≡ true → OneChange s c call before l e
  -- any other reply: no verb of the call changed the map
  pub staying : is_change e.reply ≡ false → changes_of s l ≡ before
  -- any other reply of the map is the map's at a point of the call
  pub quiet : is_quiet e.reply ≡ true → AtPoint s call first l e.reply
  -- what was found was read in the block that is told
  pub read : WasRead s call (reverse first) (reverse l) e.reply e.source e.target
  -- a refusal has its cause
  pub cause : Cause s c call k (reverse first) (reverse l) e.reply
  -- what the client keeps: a pass of the call's hash may start at the table that is told, the area is the client's, and the ticket
  -- fits
  pub of_key : e.hash ≡ hash s (key_of call)
  pub start : (t : ℕ) → e.table ≡ Some t → Start s.geometry (reverse l) (hash s (key_of call)) t
  pub owns : Owns s c e.area (reverse l)
  pub ticket : TicketFits s c e.ticket (reverse l)
