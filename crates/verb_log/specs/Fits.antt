-- The table of kinds, row by row: the role of the word, its old word and its new word.
use Rattle.std.specs.Prelude.{◌≡◌, ◌≢◌, ℕ, ◌+◌, ◌<◌, ◌≤◌, ◌⊎◌, true, false}
use Rattle.node_words.specs.declared.geometry.Geometry.{Geometry}
use Rattle.node_words.specs.Roles.{Role as WordRole}
use Rattle.slot_word.specs.declared.slots.Mark.{Mark}
use Rattle.slot_word.specs.declared.slots.Mark.TheVariants.{Live, Pending, Copied, Moved}
use Rattle.verb_log.specs.declared.entry.Entry.{Entry}
use Rattle.verb_log.specs.declared.kind.Kind.{Kind}
use Rattle.verb_log.specs.declared.kind.Kind.TheVariants.{Store, Take, Place, Drop, Commit, Replace, Remove, Lock, Unlock, Link, Begin, Open, Copy, Uncopy, Flip, Settle, Clear, Finish, Close, Ripen, Name, Deepen}
use Rattle.verb_log.specs.declared.role.Role.TheVariants.{Next, Depth, Directory, Header as HeaderRole, Lock as LockRole, Child, Bucket, Slot}
use Rattle.verb_log.specs.Decoded.{Body, Full, content, PlainAt, SplittingAt, FillingAt, header}
use Rattle.verb_log.specs.Tables.{Past, is_taken, is_published}
use Rattle.verb_log.specs.PlainRoles.{plain_role}

-- a slot word of this mark, of any block
abbrev pub Marked : Mark → ℕ → Type 0
Marked m w = (b : Body) × (content w ≡ Full m b)

-- two slot words of these marks, of one block and else equal
abbrev pub Remarked : Mark → Mark → Entry → Type 0
Remarked m n e = (b : Body) × (content e.old ≡ Full m b) × (content e.new ≡ Full n b)

-- an address that a word may name: 1 to words - 1
abbrev pub IsAddress : Geometry → ℕ → Type 0
IsAddress g w = (w ≢ 0) × (w < g.words)

-- a row fits an entry on a word of a role
abbrev pub Fits : Geometry → Past → Entry → WordRole → Kind → Type 0
Fits g past e r Store = (is_taken g past e.at ≡ true) × (is_published g past e.at ≡ false)
Fits g past e r Take = (plain_role r ≡ Next) × (e.old < e.new)
Fits g past e r Place = (plain_role r ≡ Slot) × (e.old ≡ 0) × Marked Pending e.new
Fits g past e r Drop = (plain_role r ≡ Slot) × Marked Pending e.old × (e.new ≡ 0)
Fits g past e r Commit = (plain_role r ≡ Slot) × Remarked Pending Live e
Fits g past e r Replace = (plain_role r ≡ Slot) × ((b : Body) × (c : Body) × (content e.old ≡ Full Live b) × (content e.new ≡ Full Live c) × (b.at ≢ c.at))
Fits g past e r Remove = (plain_role r ≡ Slot) × Marked Live e.old × (e.new ≡ 0)
Fits g past e r Lock = (plain_role r ≡ LockRole) × (e.old ≡ 0) × (e.new ≡ e.client + 1)
Fits g past e r Unlock = (plain_role r ≡ LockRole) × (e.old ≡ e.client + 1) × (e.new ≡ 0)
Fits g past e r Link = (plain_role r ≡ Child) × (e.old ≡ 0) × IsAddress g e.new
Fits g past e r Begin = (plain_role r ≡ Bucket) × ((d : ℕ) × (header e.old ≡ PlainAt d) × (header e.new ≡ SplittingAt d))
Fits g past e r Open = (plain_role r ≡ HeaderRole) × ((d : ℕ) × (header e.old ≡ PlainAt d) × (header e.new ≡ SplittingAt d))
Fits g past e r Copy = (plain_role r ≡ Slot) × ((e.old ≡ 0) ⊎ Marked Copied e.old) × Marked Copied e.new
Fits g past e r Uncopy = (plain_role r ≡ Slot) × Marked Copied e.old × (e.new ≡ 0)
Fits g past e r Flip = (plain_role r ≡ Slot) × Remarked Live Moved e
Fits g past e r Settle = (plain_role r ≡ Slot) × Remarked Copied Live e
Fits g past e r Clear = (plain_role r ≡ Slot) × Marked Moved e.old × (e.new ≡ 0)
Fits g past e r Finish = (plain_role r ≡ HeaderRole) × ((d : ℕ) × (header e.old ≡ SplittingAt d) × (header e.new ≡ PlainAt (d + 1)))
Fits g past e r Close = (plain_role r ≡ Bucket) × ((d : ℕ) × (header e.old ≡ SplittingAt d) × (header e.new ≡ PlainAt (d + 1)))
Fits g past e r Ripen = ((plain_role r ≡ HeaderRole) ⊎ (plain_role r ≡ Bucket)) × ((d : ℕ) × (header e.old ≡ FillingAt d) × (header e.new ≡ PlainAt d))
Fits g past e r Name = (plain_role r ≡ Directory) × IsAddress g e.new
Fits g past e r Deepen = (plain_role r ≡ Depth) × (e.new ≡ e.old + 1)

-- the number of a row in the table, from the top
abbrev pub row_number : Kind → ℕ
row_number Store = 0
row_number Take = 1
row_number Place = 2
row_number Drop = 3
row_number Commit = 4
row_number Replace = 5
row_number Remove = 6
row_number Lock = 7
row_number Unlock = 8
row_number Link = 9
row_number Begin = 10
row_number Open = 11
row_number Copy = 12
row_number Uncopy = 13
row_number Flip = 14
row_number Settle = 15
row_number Clear = 16
row_number Finish = 17
row_number Close = 18
row_number Ripen = 19
row_number Name = 20
row_number Deepen = 21

-- the row fits, and no row above it
abbrev pub IsFirstRow : Geometry → Past → Entry → WordRole → Kind → Type 0
IsFirstRow g past e r k = Fits g past e r k × ((j : Kind) → Fits g past e r j → row_number k ≤ row_number j)
