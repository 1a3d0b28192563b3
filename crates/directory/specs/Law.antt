-- What is proved of a naming.
use Rattle.std.specs.Prelude.{◌≡◌, ◌≢◌, ℕ, ◌<◌, ◌≤◌, ◌%◌, ◌^◌, List, reverse, Some, ◌⊎◌}
use Rattle.node_words.specs.declared.geometry.Geometry.{Geometry}
use Rattle.node_words.specs.Addresses.{directory_at}
use Rattle.verb_log.specs.declared.entry.Entry.{Entry}
use Rattle.verb_log.specs.declared.kind.Kind.TheVariants.{Name, Deepen}
use Rattle.verb_log.specs.Kinds.{kind}
use Rattle.verb_log.specs.Tables.{Past, Before, word_at}
use Rattle.verbs.specs.Programs.{Prog}
use Rattle.verbs.specs.Safe.{Safe}
use Rattle.race_laws.specs.Setting.{Setting, hash}
use Rattle.race_laws.specs.Standing.{IsTable, header_in, birth_in, child_in, depth}
use Rattle.race_laws.specs.Legal.{IsLegal}
use Rattle.log_facts.specs.Among.{quiet_among}
use Rattle.pass_laws.specs.SafeIn.{Rule}
use Rattle.directory.specs.declared.naming.Naming.{Naming}
use Rattle.directory.specs.declared.naming.Named.{Named}
use Rattle.directory.specs.Text.{naming}

-- the own entries of a naming
abbrev pub Names : Rule
Names s c q e = (kind s.geometry q e ≡ Some Name) ⊎ (kind s.geometry q e ≡ Some Deepen)

-- a naming may begin: the child is a table of the log with this birth, and its parent is at least as deep as it was born
pub record MayName (s : Setting) (q : Past) (t : Naming) : Type 0 where
  pub geometry : t.geometry ≡ s.geometry
  pub table : IsTable s.geometry q t.child
  pub birth : birth_in s.geometry q t.child ≡ t.birth
  pub ready : t.birth.depth ≤ depth (header_in s.geometry q t.birth.parent)

-- the tables below table u: child words lead to them
pub data IsBelow (g : Geometry) (q : Past) : ℕ → ℕ → Type 0 where
  child : (u i c : ℕ) → i < 16 → child_in g q u i ≡ c → c ≢ 0 → IsBelow g q u c
  further : (u i c t : ℕ) → i < 16 → child_in g q u i ≡ c → c ≢ 0 → IsBelow g q c t → IsBelow g q u t

-- at a position from one on, up to another, directory word j named this table, or one below it
pub record WasNamed (g : Geometry) (from q : Past) (j child : ℕ) : Type 0 where
  pub at : Past
  pub from_then : Before from at
  pub till : Before at q
  pub named : (word_at g at (directory_at j) ≡ child) ⊎ IsBelow g at child (word_at g at (directory_at j))

-- A naming has ended. At a position of it the global depth was the one that is told; it was read last, found or set. At each
-- index below 2 ^ depth with the child's suffix the directory named the child, or a table below it.
pub record HasNamed (s : Setting) (t : Naming) (from q : Past) (n : Named) : Type 0 where
  pub deep : Past
  pub from_then : Before from deep
  pub till : Before deep q
  pub depth : word_at s.geometry deep 1 ≡ n.depth
  pub each : (j : ℕ) → j < 2 ^ n.depth → j % 2 ^ t.birth.depth ≡ t.birth.suffix → WasNamed s.geometry from q j t.child

-- a program that plays a naming is safe for each client on each legal log on which the naming may begin: whatever others add
-- between its verbs, each of its entries may follow and changes nothing in the map, and it ends so
abbrev pub IsSafeNaming : Naming → Prog Named → Type 0
IsSafeNaming t program =
    (s : Setting) (c : ℕ) (log : List Entry) → IsLegal s log → MayName s (reverse log) t
    → Safe (quiet_among s c) (hash s) log program (λ log2 n. HasNamed s t (reverse log) (reverse log2) n)

-- each naming is safe
abbrev pub NamingIsSafe : Type 0
NamingIsSafe = (t : Naming) → IsSafeNaming t (naming t)
