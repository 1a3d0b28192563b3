-- What must hold of an entry that follows a legal log, one record for each kind that asks for more than its kind.
-- In each record the rights (who took the words, who has the lock, who placed the word) stand last, apart from what the
-- laws of the index need.
use Rattle.std.specs.Prelude.{◌≡◌, ◌≢◌, ℕ, ◌+◌, ◌-◌, ◌*◌, ◌^◌, ◌%◌, ◌<◌, ◌≤◌, true, false, ◌∷◌, Some, ◌⊎◌}
use Rattle.slot_word.specs.declared.slots.Mark.TheVariants.{Live, Pending, Copied, Moved}
use Rattle.kv_block.specs.Packing.{Pair}
use Rattle.node_words.specs.declared.geometry.Geometry.{Geometry}
use Rattle.node_words.specs.Addresses.{node_size, table_words, first_free, directory_at}
use Rattle.node_words.specs.Roles.{Role, BirthWord, HeaderWord, LockWord, BucketWord, offset_role}
use Rattle.verb_log.specs.declared.entry.Entry.{Entry}
use Rattle.verb_log.specs.declared.kind.Kind.TheVariants.{Place}
use Rattle.verb_log.specs.Decoded.{Body, Full, content, PlainAt, SplittingAt, FillingAt, header}
use Rattle.verb_log.specs.Tables.{Past, Before, word_at, pair_at, is_taken_by, is_published}
use Rattle.verb_log.specs.Kinds.{kind}
use Rattle.race_laws.specs.Setting.{Setting, print_of}
use Rattle.race_laws.specs.Standing.{IsTable, header_in, birth_in, lock_in, child_in, bucket_in, place_in, depth, IsFilling, IsPlain, Exits, Word}
use Rattle.race_laws.specs.Chains.{IsCandidate, Holder}
use Rattle.race_laws.specs.Splits.{IsOpen, WasClear, IsQuiet, IsChild}
use Rattle.race_laws.specs.Looks.{Swept}

-- each of the n words from a on was taken by the client
abbrev pub IsTakenBy : Geometry → Past → ℕ → ℕ → ℕ → Type 0
IsTakenBy g past c a n = (x : ℕ) → a ≤ x → x < a + n → is_taken_by g past c x ≡ true

-- no one of the n words from a on was published
abbrev pub IsUnpublished : Geometry → Past → ℕ → ℕ → Type 0
IsUnpublished g past a n = (x : ℕ) → a ≤ x → x < a + n → is_published g past x ≡ false

-- the client has the table's lock
abbrev pub HasLock : Geometry → Past → ℕ → ℕ → Type 0
HasLock g past c t = lock_in g past t ≡ c + 1

-- the steps of a take: a block, a table, or an area
abbrev pub IsStep : Geometry → ℕ → Type 0
IsStep g n = ((2 ≤ n) × (n ≤ 137)) ⊎ (n ≡ table_words g) ⊎ (n ≡ 1024)

-- Take: the next word of node k goes on by a step, and not past the node
pub record TakeRow (g : Geometry) (past : Past) (e : Entry) (k : ℕ) : Type 0 where
  pub step : ℕ
  pub is_step : IsStep g step
  pub goes_on : e.new ≡ e.old + step
  pub within : e.new ≤ (k + 1) * node_size g

-- a block that a slot may name for the first time: the packed form of a pair, of the stated length and fingerprint, taken by
-- the client, and no word of it was published
pub record IsFresh (s : Setting) (past : Past) (c : ℕ) (b : Body) (q : Pair) : Type 0 where
  pub packs : pair_at s.geometry past b ≡ Some q
  pub print : b.print ≡ print_of s q.key
  pub unpublished : IsUnpublished s.geometry past b.at b.length
  pub taken : IsTakenBy s.geometry past c b.at b.length

-- Place: the new word names a fresh block, and the slot is a candidate of its key in a table on the chain; where that table
-- is filling, the same place of its parent was clear for the split that made the table
pub record PlaceRow (s : Setting) (past : Past) (e : Entry) (t p : ℕ) : Type 0 where
  pub body : Body
  pub pair : Pair
  pub word : content e.new ≡ Full Pending body
  pub slot : IsCandidate s past t p pair.key
  pub filling : IsFilling (header_in s.geometry past t) → WasClear s past (birth_in s.geometry past t).parent ((birth_in s.geometry past t).depth - 1) p
  pub fresh : IsFresh s past e.client body pair

-- the Place of the word that stands in the slot, and the sweep since then that found no word of its key
pub record IsPlacedSwept (s : Setting) (past : Past) (e : Entry) (q : Pair) : Type 0 where
  pub placed : Entry
  pub before : Past
  pub kept : Before (placed ∷ before) past
  pub is_place : kind s.geometry before placed ≡ Some Place
  pub slot : placed.at ≡ e.at
  pub word : placed.new ≡ e.old
  pub swept : Swept s past (placed ∷ before) q.key e.at
  pub client : placed.client ≡ e.client

-- Commit: this client placed the word, and swept from that Place on
pub record CommitRow (s : Setting) (past : Past) (e : Entry) (t p : ℕ) : Type 0 where
  pub body : Body
  pub pair : Pair
  pub word : content e.new ≡ Full Live body
  pub packs : pair_at s.geometry past body ≡ Some pair
  pub swept : IsPlacedSwept s past e pair

-- Replace: the slot is the key's holder, and the new word names a fresh block of the same key. Nothing more is asked of the
-- slot: it may stand in a filling table whose parent's place is still moved, and so was never clear
pub record ReplaceRow (s : Setting) (past : Past) (e : Entry) (t p : ℕ) : Type 0 where
  pub body : Body
  pub pair : Pair
  pub holder : Holder s past pair.key t p body pair
  pub new_body : Body
  pub new_pair : Pair
  pub word : content e.new ≡ Full Live new_body
  pub same_key : new_pair.key ≡ pair.key
  pub fresh : IsFresh s past e.client new_body new_pair

-- Remove: the slot is the key's holder
pub record RemoveRow (s : Setting) (past : Past) (e : Entry) (t p : ℕ) : Type 0 where
  pub body : Body
  pub pair : Pair
  pub holder : Holder s past pair.key t p body pair

-- Unlock: no split touches the table
pub record UnlockRow (g : Geometry) (past : Past) (t : ℕ) : Type 0 where
  pub quiet : IsQuiet g past t

-- a word of a new table that has to be 0: no birth, header, lock or bucket header
abbrev pub IsBlank : Role → Type 0
IsBlank (BirthWord t) = ⊥
IsBlank (HeaderWord t) = ⊥
IsBlank (LockWord t) = ⊥
IsBlank (BucketWord t m) = ⊥
IsBlank _ = Unit {0}

-- the words of a table that is linked as child of table t at level i
pub record IsNewborn (g : Geometry) (past : Past) (t i c : ℕ) : Type 0 where
  pub birth_depth : (birth_in g past c).depth ≡ i + 1
  pub birth_suffix : (birth_in g past c).suffix ≡ (birth_in g past t).suffix + 2 ^ i
  pub birth_parent : (birth_in g past c).parent ≡ t
  pub head : header_in g past c ≡ FillingAt (i + 1)
  pub buckets : (m : ℕ) → m < 2 * g.groups → bucket_in g past c m ≡ FillingAt (i + 1)
  pub blank : (o : ℕ) → o < table_words g → IsBlank (offset_role c o) → word_at g past (c + o) ≡ 0

-- Link: no split touches the table, the level is its depth, which is below the greatest, and the new address is a table's
-- region with the words of its child, no one of them published
pub record LinkRow (g : Geometry) (past : Past) (e : Entry) (t i : ℕ) : Type 0 where
  pub quiet : IsQuiet g past t
  pub level : header_in g past t ≡ PlainAt i
  pub below : i < g.max_depth
  pub newborn : IsNewborn g past t i e.new
  pub unpublished : IsUnpublished g past e.new (table_words g)
  pub taken : IsTakenBy g past e.client e.new (table_words g)
  pub own_lock : HasLock g past e.client e.new
  pub locked : HasLock g past e.client t

-- Begin: the depth is below the greatest, and a child is linked at it
pub record BeginRow (g : Geometry) (past : Past) (e : Entry) (t : ℕ) : Type 0 where
  pub below : depth (header e.old) < g.max_depth
  pub linked : child_in g past t (depth (header e.old)) ≢ 0

-- Open: the same, and each bucket header has begun
pub record OpenRow (g : Geometry) (past : Past) (e : Entry) (t : ℕ) : Type 0 where
  pub below : depth (header e.old) < g.max_depth
  pub linked : child_in g past t (depth (header e.old)) ≢ 0
  pub buckets : (m : ℕ) → m < 2 * g.groups → bucket_in g past t m ≡ SplittingAt (depth (header e.old))

-- the place had this block live, of a key that leaves with the split at depth d, at a position at or after its Open
pub record WasLive (s : Setting) (past : Past) (t d p : ℕ) (b : Body) : Type 0 where
  pub at : Past
  pub before : Before at past
  pub table : IsTable s.geometry at t
  pub opened : IsOpen (header_in s.geometry at t) d
  pub pair : Pair
  pub live : Word s.geometry at Live t p b pair
  pub leaving : Exits s at t pair.key d

-- Copy, in place p of table c: the parent splits at the depth that made c; its place is not moved, was moved of this block
-- at no position at or after Open, and was live with it, of a leaving key, at one; the new word names that block
pub record CopyRow (s : Setting) (past : Past) (e : Entry) (c p : ℕ) : Type 0 where
  pub level : ℕ
  pub born : (birth_in s.geometry past c).depth ≡ level + 1
  pub below : level < s.geometry.max_depth
  pub splits : header_in s.geometry past (birth_in s.geometry past c).parent ≡ SplittingAt level
  pub body : Body
  pub word : content e.new ≡ Full Copied body
  pub not_moved : (b : Body) → place_in s.geometry past (birth_in s.geometry past c).parent p ≢ Full Moved b
  pub never_moved : (at : Past) → Before at past → IsTable s.geometry at (birth_in s.geometry past c).parent → IsOpen (header_in s.geometry at (birth_in s.geometry past c).parent) level → place_in s.geometry at (birth_in s.geometry past c).parent p ≢ Full Moved body
  pub live : WasLive s past (birth_in s.geometry past c).parent level p body
  pub locked : HasLock s.geometry past e.client (birth_in s.geometry past c).parent

-- Uncopy: the parent's place is not moved
pub record UncopyRow (g : Geometry) (past : Past) (e : Entry) (c p : ℕ) : Type 0 where
  pub not_moved : (b : Body) → place_in g past (birth_in g past c).parent p ≢ Full Moved b
  pub locked : HasLock g past e.client (birth_in g past c).parent

-- Flip, in place p of table t: the table splits, the key is leaving, and the same place of its child is a copy of the block
pub record FlipRow (s : Setting) (past : Past) (e : Entry) (t p : ℕ) : Type 0 where
  pub level : ℕ
  pub splits : header_in s.geometry past t ≡ SplittingAt level
  pub body : Body
  pub pair : Pair
  pub word : Word s.geometry past Live t p body pair
  pub leaving : Exits s past t pair.key level
  pub child : ℕ
  pub is_child : IsChild s.geometry past t child
  pub copied : place_in s.geometry past child p ≡ Full Copied body
  pub locked : HasLock s.geometry past e.client t

-- Settle: the parent's place is moved of the block
pub record SettleRow (g : Geometry) (past : Past) (e : Entry) (c p : ℕ) : Type 0 where
  pub body : Body
  pub word : content e.new ≡ Full Live body
  pub moved : place_in g past (birth_in g past c).parent p ≡ Full Moved body

-- Clear: the same place of the child is no copy of the block
pub record ClearRow (g : Geometry) (past : Past) (e : Entry) (t p : ℕ) : Type 0 where
  pub body : Body
  pub moved : place_in g past t p ≡ Full Moved body
  pub child : ℕ
  pub is_child : IsChild g past t child
  pub settled : place_in g past child p ≢ Full Copied body
  pub locked : HasLock g past e.client t

-- a slot's place
abbrev pub IsPlace : Geometry → ℕ → Type 0
IsPlace g p = (p < 24 * g.groups) × (p % 8 ≢ 0)

-- Finish: each place was clear for this split, none is moved, and no place of the child is a copy
pub record FinishRow (s : Setting) (past : Past) (e : Entry) (t : ℕ) : Type 0 where
  pub clear : (p : ℕ) → IsPlace s.geometry p → WasClear s past t (depth (header e.old)) p
  pub none_moved : (p : ℕ) (b : Body) → IsPlace s.geometry p → place_in s.geometry past t p ≢ Full Moved b
  pub child : ℕ
  pub is_child : IsChild s.geometry past t child
  pub no_copy : (p : ℕ) (b : Body) → IsPlace s.geometry p → place_in s.geometry past child p ≢ Full Copied b
  pub locked : HasLock s.geometry past e.client t

-- Close: the table's header is a depth ahead
pub record CloseRow (g : Geometry) (past : Past) (e : Entry) (t : ℕ) : Type 0 where
  pub deeper : depth (header_in g past t) ≡ depth (header e.old) + 1
  pub locked : HasLock g past e.client t

-- Ripen: the parent's header has at least the depth
pub record RipenRow (g : Geometry) (past : Past) (e : Entry) (t : ℕ) : Type 0 where
  pub parent : depth (header e.old) ≤ depth (header_in g past (birth_in g past t).parent)
  pub locked : HasLock g past e.client t

-- Ripen of the header: each bucket header is plain
pub record RipenHeaderRow (g : Geometry) (past : Past) (e : Entry) (t : ℕ) : Type 0 where
  pub ripens : RipenRow g past e t
  pub buckets : (m : ℕ) → m < 2 * g.groups → IsPlain (bucket_in g past t m)

-- Name, of directory word j: the address is a table with the suffix of j, and a first table or one whose split has finished
-- (its parent has at least its birth depth); the old word is 0 or a table of smaller birth depth
pub record NameRow (g : Geometry) (past : Past) (e : Entry) (j : ℕ) : Type 0 where
  pub is_table : IsTable g past e.new
  pub suffix : (birth_in g past e.new).suffix ≡ j % 2 ^ (birth_in g past e.new).depth
  pub ready : (e.new < first_free g) ⊎ ((birth_in g past e.new).depth ≤ depth (header_in g past (birth_in g past e.new).parent))
  pub shallower : (e.old ≡ 0) ⊎ (IsTable g past e.old × ((birth_in g past e.old).depth < (birth_in g past e.new).depth))

-- Deepen: the new depth is at most the greatest, and no directory word below 2^(new depth) is 0
pub record DeepenRow (g : Geometry) (past : Past) (e : Entry) : Type 0 where
  pub below : e.new ≤ g.max_depth
  pub named : (j : ℕ) → j < 2 ^ e.new → word_at g past (directory_at j) ≢ 0

-- Store: the client took the word
pub record StoreRow (g : Geometry) (past : Past) (e : Entry) : Type 0 where
  pub taken : is_taken_by g past e.client e.at ≡ true
