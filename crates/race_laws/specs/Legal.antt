-- Legal logs, newest entry first: each entry has a kind and meets its row.
use Rattle.std.specs.Prelude.{◌≡◌, ℕ, ◌<◌, List, [], ◌∷◌, reverse, Option, Some, None}
use Rattle.node_words.specs.Roles.{Role, NextWord, DepthWord, DirectoryWord, BirthWord, HeaderWord, LockWord, ReservedWord, ChildWord, BucketWord, SlotWord, HeapWord}
use Rattle.verb_log.specs.declared.entry.Entry.{Entry}
use Rattle.verb_log.specs.declared.kind.Kind.{Kind}
use Rattle.verb_log.specs.declared.kind.Kind.TheVariants.{Place, Drop, Commit, Replace, Remove, Lock, Unlock, Begin, Open, Copy, Uncopy, Flip, Settle, Clear, Finish, Close, Ripen}
use Rattle.verb_log.specs.Tables.{Past, word_at, judged_role}
use Rattle.verb_log.specs.Kinds.{kind}
use Rattle.race_laws.specs.Setting.{Setting}
use Rattle.race_laws.specs.Rows.{TakeRow, PlaceRow, CommitRow, ReplaceRow, RemoveRow, UnlockRow, LinkRow, BeginRow, OpenRow, CopyRow, UncopyRow, FlipRow, SettleRow, ClearRow, FinishRow, CloseRow, RipenRow, RipenHeaderRow, NameRow, DeepenRow, StoreRow}

-- an entry on the slot at place p of table t
abbrev pub SlotRow : Setting → Past → Entry → ℕ → ℕ → Option Kind → Type 0
SlotRow s past e t p (Some Place) = PlaceRow s past e t p
SlotRow s past e t p (Some Drop) = Unit {0}
SlotRow s past e t p (Some Commit) = CommitRow s past e t p
SlotRow s past e t p (Some Replace) = ReplaceRow s past e t p
SlotRow s past e t p (Some Remove) = RemoveRow s past e t p
SlotRow s past e t p (Some Copy) = CopyRow s past e t p
SlotRow s past e t p (Some Uncopy) = UncopyRow s.geometry past e t p
SlotRow s past e t p (Some Flip) = FlipRow s past e t p
SlotRow s past e t p (Some Settle) = SettleRow s.geometry past e t p
SlotRow s past e t p (Some Clear) = ClearRow s.geometry past e t p
SlotRow s past e t p _ = ⊥

abbrev pub HeaderRow : Setting → Past → Entry → ℕ → Option Kind → Type 0
HeaderRow s past e t (Some Open) = OpenRow s.geometry past e t
HeaderRow s past e t (Some Finish) = FinishRow s past e t
HeaderRow s past e t (Some Ripen) = RipenHeaderRow s.geometry past e t
HeaderRow s past e t _ = ⊥

abbrev pub BucketRow : Setting → Past → Entry → ℕ → Option Kind → Type 0
BucketRow s past e t (Some Begin) = BeginRow s.geometry past e t
BucketRow s past e t (Some Close) = CloseRow s.geometry past e t
BucketRow s past e t (Some Ripen) = RipenRow s.geometry past e t
BucketRow s past e t _ = ⊥

abbrev pub LockRow : Setting → Past → ℕ → Option Kind → Type 0
LockRow s past t (Some Lock) = Unit {0}
LockRow s past t (Some Unlock) = UnlockRow s.geometry past t
LockRow s past t _ = ⊥

-- the kind is known, and this must hold
abbrev pub IfKind : Option Kind → Type 0 → Type 0
IfKind (Some k) P = P
IfKind None P = ⊥

-- what must hold of an entry, by what the table of kinds takes its word for and by its kind
abbrev pub Row : Setting → Past → Entry → Role → Option Kind → Type 0
Row s past e (NextWord n) k = IfKind k (TakeRow s.geometry past e n)
Row s past e DepthWord k = IfKind k (DeepenRow s.geometry past e)
Row s past e (DirectoryWord j) k = IfKind k (NameRow s.geometry past e j)
Row s past e (BirthWord t) k = ⊥
Row s past e (HeaderWord t) k = HeaderRow s past e t k
Row s past e (LockWord t) k = LockRow s past t k
Row s past e ReservedWord k = ⊥
Row s past e (ChildWord t i) k = IfKind k (LinkRow s.geometry past e t i)
Row s past e (BucketWord t m) k = BucketRow s past e t k
Row s past e (SlotWord t p) k = SlotRow s past e t p k
Row s past e HeapWord k = IfKind k (StoreRow s.geometry past e)

-- the entry may follow the log: its address is one of the words, its old word stands there, and it meets the row of its kind
pub record Meets (s : Setting) (past : Past) (e : Entry) : Type 0 where
  pub within : e.at < s.geometry.words
  pub stands : word_at s.geometry past e.at ≡ e.old
  pub row : Row s past e (judged_role s.geometry past e.at) (kind s.geometry past e)

abbrev pub Legal : Setting → Past → Type 0
Legal s [] = Unit {0}
Legal s (e ∷ past) = Legal s past × Meets s past e

-- of logs in order: the entry may follow the log, and the log is legal
abbrev pub MayFollow : Setting → List Entry → Entry → Type 0
MayFollow s log e = Meets s (reverse log) e

abbrev pub IsLegal : Setting → List Entry → Type 0
IsLegal s log = Legal s (reverse log)
