-- The kind of an entry, by the role of its word in the log before it and by its old and new word. The row Store stands first: it
-- asks for no role, and a word that it fits is taken for one of the heap.
use Rattle.std.specs.Prelude.{◌+◌, Bool, cond, not, ◌&&◌, nat_lt, ◌==◌, Option, Some, None}
use Rattle.node_words.specs.declared.geometry.Geometry.{Geometry}
use Rattle.node_words.specs.Roles.{Role, NextWord, DepthWord, DirectoryWord, BirthWord, HeaderWord, LockWord, ReservedWord, ChildWord, BucketWord, SlotWord, HeapWord}
use Rattle.slot_word.specs.declared.slots.Mark.TheVariants.{Live, Pending, Copied, Moved}
use Rattle.verb_log.specs.declared.entry.Entry.{Entry}
use Rattle.verb_log.specs.declared.kind.Kind.{Kind}
use Rattle.verb_log.specs.declared.kind.Kind.TheVariants.{Store, Take, Place, Drop, Commit, Replace, Remove, Lock, Unlock, Link, Begin, Open, Copy, Uncopy, Flip, Settle, Clear, Finish, Close, Ripen, Name, Deepen}
use Rattle.verb_log.specs.Decoded.{Body, Content, Empty, Full, content, Header, PlainAt, SplittingAt, FillingAt, header}
use Rattle.verb_log.specs.Tables.{Past, is_address, may_store, judged_role}

-- two slot words name the same block in the same way
abbrev pub same_body : Body → Body → Bool
same_body b c = (b.print == c.print) && (b.length == c.length) && (b.at == c.at)

-- a slot word of another block
abbrev pub other_block : Body → Body → Bool
other_block b c = not (b.at == c.at)

abbrev pub only_if : Bool → Kind → Option Kind
only_if fits k = cond fits (Some k) None

abbrev pub slot_kind : Content → Content → Option Kind
slot_kind Empty (Full Pending b) = Some Place
slot_kind Empty (Full Copied b) = Some Copy
slot_kind (Full Pending b) Empty = Some Drop
slot_kind (Full Pending b) (Full Live c) = only_if (same_body b c) Commit
slot_kind (Full Live b) (Full Live c) = only_if (other_block b c) Replace
slot_kind (Full Live b) (Full Moved c) = only_if (same_body b c) Flip
slot_kind (Full Live b) Empty = Some Remove
slot_kind (Full Copied b) (Full Copied c) = Some Copy
slot_kind (Full Copied b) (Full Live c) = only_if (same_body b c) Settle
slot_kind (Full Copied b) Empty = Some Uncopy
slot_kind (Full Moved b) Empty = Some Clear
slot_kind _ _ = None

-- of a table's header
abbrev pub header_kind : Header → Header → Option Kind
header_kind (PlainAt d) (SplittingAt e) = only_if (e == d) Open
header_kind (SplittingAt d) (PlainAt e) = only_if (e == d + 1) Finish
header_kind (FillingAt d) (PlainAt e) = only_if (e == d) Ripen
header_kind _ _ = None

abbrev pub bucket_kind : Header → Header → Option Kind
bucket_kind (PlainAt d) (SplittingAt e) = only_if (e == d) Begin
bucket_kind (SplittingAt d) (PlainAt e) = only_if (e == d + 1) Close
bucket_kind (FillingAt d) (PlainAt e) = only_if (e == d) Ripen
bucket_kind _ _ = None

abbrev pub lock_kind : Entry → Option Kind
lock_kind e = cond ((e.old == 0) && (e.new == e.client + 1)) (Some Lock) (only_if ((e.old == e.client + 1) && (e.new == 0)) Unlock)

-- the table of kinds, by what it takes the entry's word for
abbrev pub kind_of_role : Geometry → Past → Entry → Role → Option Kind
kind_of_role g past e (NextWord k) = only_if (nat_lt e.old e.new) Take
kind_of_role g past e DepthWord = only_if (e.new == e.old + 1) Deepen
kind_of_role g past e (DirectoryWord j) = only_if (is_address g e.new) Name
kind_of_role g past e (BirthWord t) = None
kind_of_role g past e (HeaderWord t) = header_kind (header e.old) (header e.new)
kind_of_role g past e (LockWord t) = lock_kind e
kind_of_role g past e ReservedWord = None
kind_of_role g past e (ChildWord t i) = only_if ((e.old == 0) && is_address g e.new) Link
kind_of_role g past e (BucketWord t m) = bucket_kind (header e.old) (header e.new)
kind_of_role g past e (SlotWord t p) = slot_kind (content e.old) (content e.new)
kind_of_role g past e HeapWord = only_if (may_store g past e.at) Store

-- the kind of an entry that follows a log
abbrev pub kind : Geometry → Past → Entry → Option Kind
kind g past e = kind_of_role g past e (judged_role g past e.at)
