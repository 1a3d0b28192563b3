-- What the end of the pass over lists says of the log.
use Rattle.std.specs.Prelude.{◌≡◌, ◌≢◌, ℕ, ◌≤◌, List, [], ◌∷◌, Option, Some, None}
use Rattle.kv_block.specs.Packing.{Pair}
use Rattle.node_words.specs.declared.geometry.Geometry.{Geometry}
use Rattle.node_words.specs.Addresses.{slot_at}
use Rattle.verb_log.specs.Decoded.{Body, Header, NoHeader}
use Rattle.verb_log.specs.Tables.{Past, Before, word_at}
use Rattle.race_laws.specs.Setting.{Setting, hash}
use Rattle.race_laws.specs.Standing.{key_header, IsGone, Exits, Stays}
use Rattle.race_laws.specs.Chains.{Holder}
use Rattle.race_laws.specs.Looks.{Reading, InOrder, PassedBy}
use Rattle.verb_log.specs.declared.kind.Kind.TheVariants.{Drop}
use Rattle.verb_log.specs.Kinds.{kind}
use Rattle.verbs.specs.Programs.{Prog}
use Rattle.pass_laws.specs.SafeIn.{Rule, SafeBy}
use Rattle.pass_laws.proofs.ListPass.{Mode, look, sweep, walk, Shown, How, held, clear, gone, spent, Ended}
use Rattle.log_facts.specs.Passings.{searched_before}
use Rattle.log_facts.specs.Start.{Start}

-- readings, and the words that they showed
abbrev pub Saw : Geometry → ℕ → List Reading → List Shown → Type 0
Saw g t [] [] = Unit {0}
Saw g t [] (x ∷ xs) = ⊥
Saw g t (r ∷ rs) [] = ⊥
Saw g t (r ∷ rs) (x ∷ xs) = (r.place ≡ x.place) × (word_at g r.at (slot_at t r.place) ≡ x.word) × Saw g t rs xs

-- a mode in which candidates are read
abbrev pub Reads : Mode → Type 0
Reads look = Unit {0}
Reads (sweep t p) = Unit {0}
Reads walk = ⊥

-- the word at this place held the key, at a position of the pass
pub record HeldAt (s : Setting) (key : List ℕ) (mode : Mode) (from q : Past) (t p word : ℕ) (value : List ℕ) : Type 0 where
  pub at : Past
  pub from_then : Before from at
  pub till : Before at q
  pub reads : Reads mode
  pub body : Body
  pub pair : Pair
  pub holder : Holder s at key t p body pair
  pub value_is : pair.value ≡ value
  pub word_is : word_at s.geometry at (slot_at t p) ≡ word

-- no candidate of the chain had the key: looked, or swept; with the words read in the last table, and the last header
pub record ClearAt (s : Setting) (key : List ℕ) (own : Option ℕ) (from q : Past) (t : ℕ) (parent : Option ℕ) (shown : List Shown) (h : Header) : Type 0 where
  pub passed : PassedBy InOrder s q from key own
  pub table : passed.table ≡ t
  pub parent_is : searched_before passed.prev ≡ parent
  pub saw : Saw s.geometry t passed.seen shown
  pub last : key_header s passed.end t key ≡ h
  pub valid : h ≢ NoHeader

-- the last header was read at a position of the pass, and by it the key stays
pub record HeaderAt (s : Setting) (key : List ℕ) (from q : Past) (t : ℕ) (h : Header) : Type 0 where
  pub at : Past
  pub from_then : Before from at
  pub till : Before at q
  pub start : Start s.geometry at (hash s key) t
  pub last : key_header s at t key ≡ h
  pub stays : Stays s at t key h
  pub valid : h ≢ NoHeader

abbrev pub IsSweep : Mode → Type 0
IsSweep look = ⊥
IsSweep (sweep t p) = Unit {0}
IsSweep walk = ⊥

abbrev pub IsOwn : Mode → ℕ → Type 0
IsOwn look t = ⊥
IsOwn (sweep u p) t = t ≡ u
IsOwn walk t = ⊥

-- in the table of the own slot the key's header was read as leaving or left, at a position of the pass
pub record GoneAt (s : Setting) (key : List ℕ) (mode : Mode) (from q : Past) (t : ℕ) (h : Header) : Type 0 where
  pub sweeps : IsSweep mode
  pub own : IsOwn mode t
  pub at : Past
  pub from_then : Before from at
  pub till : Before at q
  pub level : ℕ
  pub exits : Exits s at t key level
  pub gone : IsGone (key_header s at t key) level
  pub last : key_header s at t key ≡ h
  pub valid : h ≢ NoHeader

abbrev pub ClearsSo : Setting → List ℕ → Mode → Past → Past → ℕ → Option ℕ → List Shown → Header → Type 0
ClearsSo s key look from q t parent shown h = ClearAt s key None from q t parent shown h
ClearsSo s key (sweep u p) from q t parent shown h = ClearAt s key (Some (slot_at u p)) from q t parent shown h
ClearsSo s key walk from q t parent shown h = HeaderAt s key from q t h

abbrev pub EndsSo : Setting → List ℕ → Mode → Past → Past → ℕ → How → Type 0
EndsSo s key mode from q t (held p word value) = HeldAt s key mode from q t p word value
EndsSo s key mode from q t (clear parent shown h) = ClearsSo s key mode from q t parent shown h
EndsSo s key mode from q t (gone h) = GoneAt s key mode from q t h
EndsSo s key mode from q t spent = IsSweep mode

-- some swaps may still be lost, unless they are spent
abbrev pub HasLeft : How → ℕ → Type 0
HasLeft spent left = left ≡ 0
HasLeft (held p word value) left = 1 ≤ left
HasLeft (clear parent shown h) left = 1 ≤ left
HasLeft (gone h) left = 1 ≤ left

-- the table where it ended may be cached, and so it ended
pub record PassEnd (s : Setting) (key : List ℕ) (mode : Mode) (from q : Past) (e : Ended) : Type 0 where
  pub start : Start s.geometry q (hash s key) e.table
  pub so : EndsSo s key mode from q e.table e.how
  pub some : HasLeft e.how e.left

-- own entries in this mode: the drops of a sweep
abbrev pub Dropping : Mode → Rule
Dropping mode s c q e = IsSweep mode × ((kind s.geometry q e ≡ Some Drop) × (e.new ≡ 0))

-- safe with no other entries of one's own
abbrev pub SafeDrops : {A : Type 0} → Mode → Setting → ℕ → Past → Prog A → (Past → A → Type 0) → Type 0
SafeDrops mode s c p prog End = SafeBy (Dropping mode) s c p prog End
