-- What is asked of a client's own entries besides legal.
use Rattle.std.specs.Prelude.{◌≡◌, ℕ, Bool, true, false, [], Option, Some, None}
use Rattle.verb_log.specs.declared.entry.Entry.{Entry}
use Rattle.verb_log.specs.declared.kind.Kind.{Kind}
use Rattle.verb_log.specs.declared.kind.Kind.TheVariants.{Place, Replace, Link, Store, Commit, Remove}
use Rattle.verb_log.specs.Tables.{Past}
use Rattle.verb_log.specs.Kinds.{kind}
use Rattle.verb_log.specs.Changes.{changes_by}
use Rattle.race_laws.specs.Setting.{Setting}

-- it changes nothing in the map: each entry of a call but its last, and each of a split
abbrev pub Unchanging : Setting → ℕ → Past → Entry → Type 0
Unchanging s c q e = changes_by s.geometry q e (kind s.geometry q e) ≡ []

-- the kinds of entries that name a new block, link a table, store a word or change the map
abbrev pub is_fresh : Kind → Bool
is_fresh Place = true
is_fresh Replace = true
is_fresh Link = true
is_fresh Store = true
is_fresh Commit = true
is_fresh Remove = true
is_fresh _ = false

abbrev pub uses_fresh : Option Kind → Bool
uses_fresh None = false
uses_fresh (Some k) = is_fresh k

-- it is of none of these kinds: so it leaves alone what the client has taken and not yet published
abbrev pub Modest : Setting → Past → Entry → Type 0
Modest s q e = uses_fresh (kind s.geometry q e) ≡ false
