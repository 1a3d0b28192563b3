-- What the laws of legal logs say. A log stands in order here; its position n is the log of its first n entries.
use Rattle.std.specs.Prelude.{◌≡◌, ◌≢◌, ℕ, ◌*◌, ◌<◌, ◌≤◌, List, [], ◌∷◌, ◌++◌, length, take, reverse, Some, None, IsSome}
use Rattle.std.specs.FinMap.{get}
use Rattle.slot_word.specs.declared.slots.Mark.{Mark}
use Rattle.slot_word.specs.declared.slots.Mark.TheVariants.{Live, Copied, Moved}
use Rattle.kv_block.specs.Packing.{Pair}
use Rattle.map_model.specs.Contents.{Contents}
use Rattle.map_model.specs.Machine.{map_at}
use Rattle.node_words.specs.declared.geometry.Geometry.{Geometry}
use Rattle.node_words.specs.Addresses.{slot_at}
use Rattle.verb_log.specs.declared.entry.Entry.{Entry}
use Rattle.verb_log.specs.declared.kind.Kind.TheVariants.{Commit, Flip}
use Rattle.verb_log.specs.Decoded.{Body, Full, content, Header, PlainAt, SplittingAt, FillingAt, NoHeader}
use Rattle.verb_log.specs.Tables.{Past, pair_at}
use Rattle.verb_log.specs.Kinds.{kind}
use Rattle.verb_log.specs.Changes.{changes}
use Rattle.race_laws.specs.Setting.{Setting, hash, places}
use Rattle.race_laws.specs.Standing.{IsTable, header_in, birth_in, bucket_in, place_in, IsFilling, IsGone, Exits, Word, IsIn}
use Rattle.race_laws.specs.Chains.{OnChain, Holder}
use Rattle.race_laws.specs.Splits.{IsClear}
use Rattle.race_laws.specs.Looks.{Looked, SpreadLooked}
use Rattle.race_laws.specs.Rows.{IsPlace}
use Rattle.race_laws.specs.Legal.{IsLegal}

-- position n of a log
abbrev pub position : List Entry → ℕ → Past
position log n = reverse (take n log)

-- the map after all changes of a position
abbrev pub map_in : Geometry → Past → Contents
map_in g past = map_at (changes g past) (length (changes g past))

-- one holder: a key has at most one holder; it has one exactly where the map has the key, and the value is its block's
pub record HasOneHolder (s : Setting) (past : Past) (key : List ℕ) : Type 0 where
  pub one : (t u p r : ℕ) (b c : Body) (pb pc : Pair) → Holder s past key t p b pb → Holder s past key u r c pc → (t ≡ u) × (p ≡ r) × (b ≡ c)
  pub held : (t p : ℕ) (b : Body) (pr : Pair) → Holder s past key t p b pr → get (map_in s.geometry past) key ≡ Some pr.value
  pub found : (value : List ℕ) → get (map_in s.geometry past) key ≡ Some value → (t : ℕ) × (p : ℕ) × (b : Body) × (pr : Pair) × Holder s past key t p b pr × (pr.value ≡ value)

abbrev pub OneHolder : Type 0
OneHolder = (s : Setting) (log : List Entry) → IsLegal s log → (n : ℕ) → n ≤ length log → (key : List ℕ) → HasOneHolder s (position log n) key

-- the holder's place: while the map has the key, its holder keeps its slot, or goes at a Flip to the same place of the child
pub data KeepsPlace (s : Setting) (past : Past) (e : Entry) (key : List ℕ) (t p : ℕ) : Type 0 where
  keeps : (b : Body) (pr : Pair) → Holder s (e ∷ past) key t p b pr → KeepsPlace s past e key t p
  goes_down : (c : ℕ) (b : Body) (pr : Pair) → kind s.geometry past e ≡ Some Flip → e.at ≡ slot_at t p → (birth_in s.geometry (e ∷ past) c).parent ≡ t → Holder s (e ∷ past) key c p b pr → KeepsPlace s past e key t p

abbrev pub HolderPlace : Type 0
HolderPlace = (s : Setting) (log : List Entry) (e : Entry) → IsLegal s (log ++ e ∷ []) → (key : List ℕ) (t p : ℕ) (b : Body) (pr : Pair) → Holder s (reverse log) key t p b pr → IsSome (get (map_in s.geometry (e ∷ reverse log)) key) → KeepsPlace s (reverse log) e key t p

-- by this header of its table a key with exit level i has left
abbrev pub HasLeft : Header → ℕ → Type 0
HasLeft (PlainAt d) i = i < d
HasLeft (SplittingAt d) i = i < d
HasLeft (FillingAt d) i = i < d
HasLeft NoHeader i = ⊥

-- from one header to a later one: what has left has left, what is leaving is leaving or has left, and nothing fills again
pub record IsFinal (h k : Header) : Type 0 where
  pub left : (i : ℕ) → HasLeft h i → HasLeft k i
  pub gone : (i : ℕ) → IsGone h i → IsGone k i
  pub ripe : (IsFilling h → ⊥) → IsFilling k → ⊥

-- finality, of the header of a table and of each bucket header
abbrev pub Finality : Type 0
Finality = (s : Setting) (log : List Entry) → IsLegal s log → (n m : ℕ) → n ≤ m → m ≤ length log → (t : ℕ) → IsTable s.geometry (position log n) t → IsFinal (header_in s.geometry (position log n) t) (header_in s.geometry (position log m) t) × ((bucket : ℕ) → bucket < 2 * s.geometry.groups → IsFinal (bucket_in s.geometry (position log n) t bucket) (bucket_in s.geometry (position log m) t bucket))

-- clear places: after a clear position a place never again has a live or moved word of a leaving key
abbrev pub ClearPlaces : Type 0
ClearPlaces = (s : Setting) (log : List Entry) → IsLegal s log → (n m : ℕ) → n ≤ m → m ≤ length log → (t d p : ℕ) → IsPlace s.geometry p → IsClear s (position log n) t d p → (mark : Mark) (b : Body) (pr : Pair) → Word s.geometry (position log m) mark t p b pr → Exits s (position log m) t pr.key d → (mark ≢ Live) × (mark ≢ Moved)

-- commit: at a legal Commit the map has no such key
abbrev pub CommitLaw : Type 0
CommitLaw = (s : Setting) (log : List Entry) (e : Entry) → IsLegal s (log ++ e ∷ []) → kind s.geometry (reverse log) e ≡ Some Commit → (b : Body) (pr : Pair) → content e.new ≡ Full Live b → pair_at s.geometry (reverse log) b ≡ Some pr → get (map_in s.geometry (reverse log)) pr.key ≡ None

-- the map lacks the key at some position between two
pub record LacksBetween (s : Setting) (log : List Entry) (n m : ℕ) (key : List ℕ) : Type 0 where
  pub at : ℕ
  pub from : n ≤ at
  pub to : at ≤ m
  pub lacks : get (map_in s.geometry (position log at)) key ≡ None

-- absence: where looked holds between two positions, the map lacks the key at some position between them; and so it is
-- where the readings of each table stand in any order
abbrev pub Absence : Type 0
Absence = (s : Setting) (log : List Entry) → IsLegal s log → (n m : ℕ) → n ≤ m → m ≤ length log → (key : List ℕ) → (Looked s (position log m) (position log n) key → LacksBetween s log n m key) × (SpreadLooked s (position log m) (position log n) key → LacksBetween s log n m key)

-- presence: a live word of a key in a candidate slot of a table on its chain is the key's holder; and so is a copy in the
-- child after a position at which the same place of the parent was moved of its block
pub record IsPresent (s : Setting) (log : List Entry) (m : ℕ) : Type 0 where
  pub live : (t p : ℕ) (b : Body) (pr : Pair) → Word s.geometry (position log m) Live t p b pr → IsIn p (places s pr.key) → OnChain s.geometry (position log m) (hash s pr.key) t → Holder s (position log m) pr.key t p b pr
  pub copy : (n : ℕ) → n ≤ m → (t c p : ℕ) (b : Body) (pr : Pair) → IsTable s.geometry (position log n) t → IsPlace s.geometry p → place_in s.geometry (position log n) t p ≡ Full Moved b → IsTable s.geometry (position log m) c → (birth_in s.geometry (position log m) c).parent ≡ t → Word s.geometry (position log m) Copied c p b pr → Holder s (position log m) pr.key c p b pr

abbrev pub Presence : Type 0
Presence = (s : Setting) (log : List Entry) → IsLegal s log → (m : ℕ) → m ≤ length log → IsPresent s log m
