-- Which replies each call may have, and of which blocks its answer tells.
use Rattle.std.specs.Prelude.{◌≡◌, ℕ}
use Rattle.map_model.specs.declared.calls.Call.{Call}
use Rattle.map_model.specs.declared.calls.Call.TheVariants.{Insert, Search, Update, Delete, Resize}
use Rattle.map_model.specs.declared.calls.Reply.{Reply}
use Rattle.map_model.specs.declared.calls.Reply.TheVariants.{Found, Missing, Inserted, Exists, Updated, Deleted, Split, Again, FullDepth, FullWords, NoBlock}

-- of no block: both addresses are 0
abbrev pub OfNone : ℕ → ℕ → Type 0
OfNone source target = (source ≡ 0) × (target ≡ 0)

abbrev pub SearchReply : Reply → ℕ → ℕ → Type 0
SearchReply (Found value) source target = source ≡ target
SearchReply Missing source target = OfNone source target
SearchReply _ source target = ⊥

abbrev pub InsertReply : Reply → ℕ → ℕ → Type 0
InsertReply Inserted source target = source ≡ 0
InsertReply (Exists value) source target = source ≡ target
InsertReply (Again lost) source target = OfNone source target
InsertReply (FullDepth depth) source target = OfNone source target
InsertReply (FullWords next need) source target = OfNone source target
InsertReply (NoBlock next need) source target = OfNone source target
InsertReply _ source target = ⊥

abbrev pub UpdateReply : Reply → ℕ → ℕ → Type 0
UpdateReply (Updated old) source target = Unit {0}
UpdateReply Missing source target = OfNone source target
UpdateReply (Again lost) source target = OfNone source target
UpdateReply (NoBlock next need) source target = OfNone source target
UpdateReply _ source target = ⊥

abbrev pub DeleteReply : Reply → ℕ → ℕ → Type 0
DeleteReply (Deleted old) source target = target ≡ 0
DeleteReply Missing source target = OfNone source target
DeleteReply (Again lost) source target = OfNone source target
DeleteReply _ source target = ⊥

abbrev pub ResizeReply : Reply → ℕ → ℕ → Type 0
ResizeReply (Split table depth) source target = OfNone source target
ResizeReply (Again lost) source target = OfNone source target
ResizeReply (FullDepth depth) source target = OfNone source target
ResizeReply (FullWords next need) source target = OfNone source target
ResizeReply _ source target = ⊥

-- the call may have this reply, with these addresses of blocks beside it
abbrev pub MayReply : Call → Reply → ℕ → ℕ → Type 0
MayReply (Search key) reply source target = SearchReply reply source target
MayReply (Insert key value) reply source target = InsertReply reply source target
MayReply (Update key value) reply source target = UpdateReply reply source target
MayReply (Delete key) reply source target = DeleteReply reply source target
MayReply (Resize key) reply source target = ResizeReply reply source target
