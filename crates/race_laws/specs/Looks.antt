-- What a pass down the chain of a key has read: a look, and a sweep that leaves out the call's own slot.
use Rattle.std.specs.Prelude.{◌≡◌, ◌≢◌, ℕ, Bool, true, not, ◌==◌, List, [], ◌∷◌, filter, map, Option, Some, None}
use Rattle.slot_word.specs.declared.slots.Mark.TheVariants.{Live, Pending, Copied, Moved}
use Rattle.kv_block.specs.Packing.{Pair}
use Rattle.node_words.specs.Addresses.{slot_at}
use Rattle.verb_log.specs.Decoded.{Body, Full}
use Rattle.verb_log.specs.Tables.{Past, Before, table_of}
use Rattle.race_laws.specs.Setting.{Setting, hash, places}
use Rattle.race_laws.specs.Standing.{header_in, child_in, place_in, key_header, IsFilling, IsGone, Exits, Stays, Word, IsIn}
use Rattle.race_laws.specs.Chains.{OnChain}

-- a slot's place, and the position at which it was read
pub record Reading : Type 0 where
  pub place : ℕ
  pub at : Past

-- a table, and the readings of its slots
pub record Searched : Type 0 where
  pub table : ℕ
  pub seen : List Reading

-- the positions of the readings do not fall, from one position up to another
abbrev pub InOrder : Past → List Reading → Past → Type 0
InOrder from [] to = Before from to
InOrder from (r ∷ rs) to = Before from r.at × InOrder r.at rs to

-- the positions of the readings stand between two positions, in any order
abbrev pub Between : Past → List Reading → Past → Type 0
Between from [] to = Before from to
Between from (r ∷ rs) to = Before from r.at × Before r.at to × Between from rs to

-- a copy of this block at this place answers: the reading of the same place in the table before showed it moved
abbrev pub Answers : Setting → Option Searched → ℕ → Body → Type 0
Answers s None p b = ⊥
Answers s (Some before) p b = (r : Reading) × IsIn r before.seen × (r.place ≡ p) × (place_in s.geometry r.at before.table p ≡ Full Moved b)

-- what a reading may not show: a live word of the key, an answering copy of the key, and in a sweep a pending word of it
pub record IsMiss (s : Setting) (key : List ℕ) (own : Option ℕ) (prev : Option Searched) (t : ℕ) (r : Reading) : Type 0 where
  pub live : (b : Body) (q : Pair) → Word s.geometry r.at Live t r.place b q → q.key ≡ key → ⊥
  pub copied : (b : Body) (q : Pair) → Word s.geometry r.at Copied t r.place b q → q.key ≡ key → Answers s prev r.place b → ⊥
  pub pending : (a : ℕ) → own ≡ Some a → (b : Body) (q : Pair) → Word s.geometry r.at Pending t r.place b q → q.key ≡ key → ⊥

-- none of the readings shows the key
abbrev pub AllMiss : Setting → List ℕ → Option ℕ → Option Searched → ℕ → List Reading → Type 0
AllMiss s key own prev t [] = Unit {0}
AllMiss s key own prev t (r ∷ rs) = IsMiss s key own prev t r × AllMiss s key own prev t rs

-- the slot at place p of table t is not the own slot
abbrev pub is_other : Option ℕ → ℕ → ℕ → Bool
is_other None t p = true
is_other (Some a) t p = not (slot_at t p == a)

-- the places that are read in a table: the key's candidates, in order, without the own slot
abbrev pub read_places : Setting → List ℕ → Option ℕ → ℕ → List ℕ
read_places s key own t = filter (is_other own t) (places s key)

-- the slots of one table are read from one position up to another, and none shows the key
pub record Misses (Stand : Past → List Reading → Past → Type 0) (s : Setting) (key : List ℕ) (own : Option ℕ) (prev : Option Searched) (t : ℕ) (seen : List Reading) (from to : Past) : Type 0 where
  pub stand : Stand from seen to
  pub whole : map (λ (r : Reading). r.place) seen ≡ read_places s key own t
  pub miss : AllMiss s key own prev t seen

-- a pass as far as a table: the table read before it, the table, and the position from which its slots are read
pub data Passing (Stand : Past → List Reading → Past → Type 0) (s : Setting) (key : List ℕ) (own : Option ℕ) (from : Past) : Option Searched → ℕ → Past → Type 0 where
  begins : (t : ℕ) (at : Past) → Before from at → OnChain s.geometry at (hash s key) t → (IsFilling (header_in s.geometry at t) → ⊥) → Passing Stand s key own from None t at
  goes_on : (prev : Option Searched) (t : ℕ) (since end : Past) (seen : List Reading) (i c : ℕ) → Passing Stand s key own from prev t since → Misses Stand s key own prev t seen since end → Exits s end t key i → IsGone (key_header s end t key) i → child_in s.geometry end t i ≡ c → c ≢ 0 → Passing Stand s key own from (Some (record { table = t; seen = seen })) c end

-- the last table of a sweep is the one that has the own slot
abbrev pub HasOwn : Setting → Past → Option ℕ → ℕ → Type 0
HasOwn s end None t = Unit {0}
HasOwn s end (Some a) t = table_of s.geometry end a ≡ Some t

-- a whole pass that shows no word of the key, down to a table in which the key stays
pub record PassedBy (Stand : Past → List Reading → Past → Type 0) (s : Setting) (log from : Past) (key : List ℕ) (own : Option ℕ) : Type 0 where
  pub prev : Option Searched
  pub table : ℕ
  pub since : Past
  pub passing : Passing Stand s key own from prev table since
  pub seen : List Reading
  pub end : Past
  pub misses : Misses Stand s key own prev table seen since end
  pub up_to : Before end log
  pub stays : Stays s end table key (key_header s end table key)
  pub has_own : HasOwn s end own table

-- looked: a pass whose readings stand in order
abbrev pub Looked : Setting → Past → Past → List ℕ → Type 0
Looked s log from key = PassedBy InOrder s log from key None

-- spread looked: in each table the readings stand in any order
abbrev pub SpreadLooked : Setting → Past → Past → List ℕ → Type 0
SpreadLooked s log from key = PassedBy Between s log from key None

-- swept: the same without the own slot, and with no pending word of the key either
abbrev pub Swept : Setting → Past → Past → List ℕ → ℕ → Type 0
Swept s log from key own = PassedBy InOrder s log from key (Some own)
