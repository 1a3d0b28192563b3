-- Which kinds of entries are on slots.
use Rattle.std.specs.Prelude.{not, nat_lt, ◌≡◌, ◌≢◌, ℕ, ◌+◌, Bool, true, false, cond, ◌&&◌, ◌==◌, Some, refl}
use Rattle.std.proofs.Common.{ap}
use Rattle.node_words.specs.declared.geometry.Geometry.{Geometry}
use Rattle.node_words.specs.Roles.{Role, NextWord, DepthWord, DirectoryWord, BirthWord, HeaderWord, LockWord, ReservedWord, ChildWord, BucketWord, SlotWord, HeapWord}
use Rattle.verb_log.specs.declared.entry.Entry.{Entry}
use Rattle.verb_log.specs.declared.kind.Kind.{Kind}
use Rattle.verb_log.specs.declared.kind.Kind.TheVariants.{Store, Take, Place, Drop, Commit, Replace, Remove, Lock, Unlock, Link, Begin, Open, Copy, Uncopy, Flip, Settle, Clear, Finish, Close, Ripen, Name, Deepen}
use Rattle.verb_log.specs.Decoded.{Header, PlainAt, SplittingAt, FillingAt, NoHeader, header}
use Rattle.verb_log.specs.Tables.{Past, is_address, is_taken, is_published}
use Rattle.verb_log.specs.Kinds.{kind_of_role, only_if, header_kind, bucket_kind, lock_kind}

-- the kinds of entries on slots
abbrev pub is_slot_kind : Kind → Bool
is_slot_kind Place = true
is_slot_kind Drop = true
is_slot_kind Commit = true
is_slot_kind Replace = true
is_slot_kind Remove = true
is_slot_kind Copy = true
is_slot_kind Uncopy = true
is_slot_kind Flip = true
is_slot_kind Settle = true
is_slot_kind Clear = true
is_slot_kind Store = false
is_slot_kind Take = false
is_slot_kind Lock = false
is_slot_kind Unlock = false
is_slot_kind Link = false
is_slot_kind Begin = false
is_slot_kind Open = false
is_slot_kind Finish = false
is_slot_kind Close = false
is_slot_kind Ripen = false
is_slot_kind Name = false
is_slot_kind Deepen = false

only_no : (f : Bool) (k j : Kind) → is_slot_kind k ≡ false → is_slot_kind j ≡ true → only_if f k ≢ Some j
only_no true k j n y h = let z = ap is_slot_kind (same h) in cc
  where
    same : Some k ≡ Some j → k ≡ j
    same h = cc
only_no false k j n y h = cc

header_no_slot : (x y : Header) (j : Kind) → is_slot_kind j ≡ true → header_kind x y ≢ Some j
header_no_slot (PlainAt d) (PlainAt e) j k h = cc
header_no_slot (PlainAt d) (SplittingAt e) j k h = only_no (e == d) Open j refl k h
header_no_slot (PlainAt d) (FillingAt e) j k h = cc
header_no_slot (PlainAt d) NoHeader j k h = cc
header_no_slot (SplittingAt d) (PlainAt e) j k h = only_no (e == d + 1) Finish j refl k h
header_no_slot (SplittingAt d) (SplittingAt e) j k h = cc
header_no_slot (SplittingAt d) (FillingAt e) j k h = cc
header_no_slot (SplittingAt d) NoHeader j k h = cc
header_no_slot (FillingAt d) (PlainAt e) j k h = only_no (e == d) Ripen j refl k h
header_no_slot (FillingAt d) (SplittingAt e) j k h = cc
header_no_slot (FillingAt d) (FillingAt e) j k h = cc
header_no_slot (FillingAt d) NoHeader j k h = cc
header_no_slot NoHeader y j k h = cc

bucket_no_slot : (x y : Header) (j : Kind) → is_slot_kind j ≡ true → bucket_kind x y ≢ Some j
bucket_no_slot (PlainAt d) (PlainAt e) j k h = cc
bucket_no_slot (PlainAt d) (SplittingAt e) j k h = only_no (e == d) Begin j refl k h
bucket_no_slot (PlainAt d) (FillingAt e) j k h = cc
bucket_no_slot (PlainAt d) NoHeader j k h = cc
bucket_no_slot (SplittingAt d) (PlainAt e) j k h = only_no (e == d + 1) Close j refl k h
bucket_no_slot (SplittingAt d) (SplittingAt e) j k h = cc
bucket_no_slot (SplittingAt d) (FillingAt e) j k h = cc
bucket_no_slot (SplittingAt d) NoHeader j k h = cc
bucket_no_slot (FillingAt d) (PlainAt e) j k h = only_no (e == d) Ripen j refl k h
bucket_no_slot (FillingAt d) (SplittingAt e) j k h = cc
bucket_no_slot (FillingAt d) (FillingAt e) j k h = cc
bucket_no_slot (FillingAt d) NoHeader j k h = cc
bucket_no_slot NoHeader y j k h = cc

lock_no_slot : (e : Entry) (j : Kind) → is_slot_kind j ≡ true → lock_kind e ≢ Some j
lock_no_slot e j k h = by ((e.old == 0) && (e.new == e.client + 1)) h
  where
    lock_is : Some Lock ≡ Some j → Lock ≡ j
    lock_is h = cc

    by : (f : Bool) → cond f (Some Lock) (only_if ((e.old == e.client + 1) && (e.new == 0)) Unlock) ≢ Some j
    by true h = let z = ap is_slot_kind (lock_is h) in cc
    by false h = only_no ((e.old == e.client + 1) && (e.new == 0)) Unlock j refl k h

-- an entry of such a kind is on a slot
pub on_slot : (g : Geometry) (past : Past) (e : Entry) (r : Role) (j : Kind) → is_slot_kind j ≡ true → kind_of_role g past e r ≡ Some j → (t : ℕ) × (p : ℕ) × (r ≡ SlotWord t p)
on_slot g past e (NextWord k) j y h = absurd (only_no (nat_lt e.old e.new) Take j refl y h)
on_slot g past e DepthWord j y h = absurd (only_no (e.new == e.old + 1) Deepen j refl y h)
on_slot g past e (DirectoryWord i) j y h = absurd (only_no (is_address g e.new) Name j refl y h)
on_slot g past e (BirthWord t) j y h = absurd (cc)
on_slot g past e (HeaderWord t) j y h = absurd (header_no_slot (header e.old) (header e.new) j y h)
on_slot g past e (LockWord t) j y h = absurd (lock_no_slot e j y h)
on_slot g past e ReservedWord j y h = absurd (cc)
on_slot g past e (ChildWord t i) j y h = absurd (only_no ((e.old == 0) && is_address g e.new) Link j refl y h)
on_slot g past e (BucketWord t n) j y h = absurd (bucket_no_slot (header e.old) (header e.new) j y h)
on_slot g past e (SlotWord t p) j y h = (t, p, refl)
on_slot g past e HeapWord j y h = absurd (only_no (is_taken g past e.at && not (is_published g past e.at)) Store j refl y h)
