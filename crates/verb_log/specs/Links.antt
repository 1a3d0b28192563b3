-- Which entries of a log linked the table in which an address stands, took the address and published it: the oldest of each.
use Rattle.std.specs.Prelude.{ℕ, Bool, false, ◌&&◌, cond, [], ◌∷◌, length, nat_lt, Option, Some, None}
use Rattle.node_words.specs.declared.geometry.Geometry.{Geometry}
use Rattle.node_words.specs.Addresses.{table_words}
use Rattle.verb_log.specs.declared.entry.Entry.{Entry}
use Rattle.verb_log.specs.Tables.{Past, is_among, or_else, links, moves_across, publishes, role, judged_role}

-- the number of an entry that links a table, and the table's address
pub record Link : Type 0 where
  pub number : ℕ
  pub table : ℕ

-- the older of two links
abbrev pub older : Option Link → Option Link → Option Link
older None link = link
older (Some link) _ = Some link

-- the link that an entry makes, which follows so many others, where the address stands in its table
abbrev pub link_by : Geometry → Past → Entry → ℕ → Option Link
link_by g past e a = cond (links g e (judged_role g past e.at) && is_among e.new (table_words g) a) (Some (record { number = length past; table = e.new })) None

-- the oldest link of a table in which an address stands
abbrev pub link_of : Geometry → Past → ℕ → Option Link
link_of g [] a = None
link_of g (e ∷ past) a = older (link_of g past a) (link_by g past e a)

-- the table of a link, at a position of so many entries
abbrev pub table_then : ℕ → Option Link → Option ℕ
table_then n None = None
table_then n (Some link) = cond (nat_lt link.number n) (Some link.table) None

-- the number of the oldest entry that took an address
abbrev pub take_of : Geometry → Past → ℕ → Option ℕ
take_of g [] a = None
take_of g (e ∷ past) a = or_else (take_of g past a) (cond (moves_across g e (judged_role g past e.at) a) (Some (length past)) None)

-- the number of the oldest entry that published it
abbrev pub publish_of : Geometry → Past → ℕ → Option ℕ
publish_of g [] a = None
publish_of g (e ∷ past) a = or_else (publish_of g past a) (cond (publishes g e (role g past e.at) a) (Some (length past)) None)

-- the entry of such a number is one of the first n
abbrev pub was_before : ℕ → Option ℕ → Bool
was_before n None = false
was_before n (Some number) = nat_lt number n
