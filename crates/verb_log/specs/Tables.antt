-- The words after a log, newest entry first, and what was taken, linked and published by it.
use Rattle.std.specs.Prelude.{ℕ, zero, suc, ◌+◌, Bool, false, cond, not, ◌&&◌, ◌||◌, nat_le, nat_lt, ◌==◌, List, [], ◌∷◌, Option, Some, None}
use Rattle.node_words.specs.declared.geometry.Geometry.{Geometry}
use Rattle.node_words.specs.Roles.{Role, NextWord, ChildWord, SlotWord, HeapWord, role_in, first_table_of}
use Rattle.node_words.specs.Addresses.{node_of, table_words}
use Rattle.node_words.specs.Opening.{opening_word}
use Rattle.kv_block.specs.Packing.{Pair, unpacked}
use Rattle.verb_log.specs.declared.entry.Entry.{Entry}
use Rattle.verb_log.specs.Decoded.{Body, Content, Empty, Full, NoSlot, content}

-- a position of a log: the entries up to it, newest first
abbrev pub Past : Type 0
Past = List Entry

-- the address stands among n words from t on
abbrev pub is_among : ℕ → ℕ → ℕ → Bool
is_among t n a = nat_le t a && nat_lt a (t + n)

-- the word that stands at an address: the newest that was put there, else the opening's
abbrev pub word_at : Geometry → Past → ℕ → ℕ
word_at g [] a = opening_word g a
word_at g (e ∷ past) a = cond (a == e.at) e.new (word_at g past a)

-- the n words from a on
abbrev pub words_at : Geometry → Past → ℕ → ℕ → List ℕ
words_at g past a zero = []
words_at g past a (suc n) = word_at g past a ∷ words_at g past (suc a) n

-- the pair of the block that a slot word names, where the memory has all its words
abbrev pub pair_at : Geometry → Past → Body → Option Pair
pair_at g past b = cond (nat_le (b.at + b.length) g.words) (unpacked (words_at g past b.at b.length)) None

-- the older of two answers
abbrev pub or_else : Option ℕ → Option ℕ → Option ℕ
or_else None o = o
or_else (Some t) o = Some t

-- the address of a word that another word may name: 0 names nothing
abbrev pub is_address : Geometry → ℕ → Bool
is_address g w = not (w == 0) && nat_lt w g.words

-- an entry that puts an address into an empty child word makes it a table of the log
abbrev pub links : Geometry → Entry → Role → Bool
links g e (ChildWord t i) = (e.old == 0) && is_address g e.new
links g e _ = false

abbrev pub linked_by : Geometry → Entry → Role → ℕ → Option ℕ
linked_by g e r a = cond (links g e r && is_among e.new (table_words g) a) (Some e.new) None

-- an entry moved the next word of a node across an address of this node
abbrev pub moves_across : Geometry → Entry → Role → ℕ → Bool
moves_across g e (NextWord k) a = nat_le e.old a && nat_lt a e.new && (node_of g a == node_of g e.at)
moves_across g e _ a = false

-- the block that stands in a slot covers the address
abbrev pub covers : Content → ℕ → Bool
covers Empty a = false
covers (Full m b) a = is_among b.at b.length a
covers NoSlot a = false

-- an entry publishes the block of a slot word and the region of a child word
abbrev pub publishes : Geometry → Entry → Role → ℕ → Bool
publishes g e (SlotWord t p) a = covers (content e.new) a
publishes g e (ChildWord t i) a = is_address g e.new && is_among e.new (table_words g) a
publishes g e _ a = false

-- what the table of kinds takes a word for: one that was taken and is not published is a word of the heap, whatever its role
abbrev pub judged : Bool → Bool → Role → Role
judged taken published r = cond (taken && not published) HeapWord r

-- Links and Takes are entries of these kinds, so all three are read together, each in the log before the entry
abbrev mutual
  -- the table of the log in which an address stands; where several have it, the oldest
  pub table_of : Geometry → Past → ℕ → Option ℕ
  table_of g [] a = first_table_of g a
  table_of g (e ∷ past) a = or_else (table_of g past a) (linked_by g e (judged (is_taken g past e.at) (is_published g past e.at) (role_in g e.at (table_of g past e.at))) a)

  -- a Take moved the next word of its node across the address
  pub is_taken : Geometry → Past → ℕ → Bool
  is_taken g [] a = false
  is_taken g (e ∷ past) a = moves_across g e (judged (is_taken g past e.at) (is_published g past e.at) (role_in g e.at (table_of g past e.at))) a || is_taken g past a

  -- a slot word with its length, or a child word with a table's size, has covered the address
  pub is_published : Geometry → Past → ℕ → Bool
  is_published g [] a = false
  is_published g (e ∷ past) a = publishes g e (role_in g e.at (table_of g past e.at)) a || is_published g past a

-- the role of an address
abbrev pub role : Geometry → Past → ℕ → Role
role g past a = role_in g a (table_of g past a)

-- the word at an address was taken and is not published
abbrev pub may_store : Geometry → Past → ℕ → Bool
may_store g past a = is_taken g past a && not (is_published g past a)

-- what the table of kinds takes the word at an address for
abbrev pub judged_role : Geometry → Past → ℕ → Role
judged_role g past a = judged (is_taken g past a) (is_published g past a) (role g past a)

-- taken by a client
abbrev pub is_taken_by : Geometry → Past → ℕ → ℕ → Bool
is_taken_by g [] c a = false
is_taken_by g (e ∷ past) c a = (moves_across g e (judged_role g past e.at) a && (e.client == c)) || is_taken_by g past c a

-- a position is no later than another one of the same log
pub data Before (p : Past) : Past → Type 0 where
  here : Before p p
  later : {q : Past} {e : Entry} → Before p q → Before p (e ∷ q)
