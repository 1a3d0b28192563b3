-- What a log says of one address, in one record; and what one entry more says of it.
use Rattle.std.specs.Prelude.{◌≡◌, ℕ, Bool, ◌%◌, ◌&&◌, ◌||◌, cond, nat_le, nat_lt, ◌==◌, false, Some, None}
use Rattle.node_words.specs.declared.geometry.Geometry.{Geometry}
use Rattle.node_words.specs.Addresses.{node_size, node_of, table_words}
use Rattle.node_words.specs.Roles.{role_in}
use Rattle.verb_log.specs.declared.entry.Entry.{Entry}
use Rattle.verb_log.specs.declared.role.Role.{Role}
use Rattle.verb_log.specs.declared.role.Role.TheVariants.{Next, Child, Slot}
use Rattle.verb_log.specs.declared.standing.Standing.{Standing}
use Rattle.verb_log.specs.declared.reach.Span.{Span}
use Rattle.verb_log.specs.declared.reach.Reach.{Reach}
use Rattle.verb_log.specs.Decoded.{content}
use Rattle.verb_log.specs.Tables.{Past, is_among, is_address, or_else, covers, judged, table_of, is_taken, is_published}
use Rattle.verb_log.specs.PlainRoles.{plain_role}

abbrev pub standing_of : Geometry → Past → ℕ → Standing
standing_of g past a = record { table = table_of g past a; taken = is_taken g past a; published = is_published g past a }

-- the role of the address, and what the table of kinds takes it for
abbrev pub role_there : Geometry → Standing → ℕ → Role
role_there g s a = plain_role (role_in g a s.table)

abbrev pub judged_there : Geometry → Standing → ℕ → Role
judged_there g s a = plain_role (judged s.taken s.published (role_in g a s.table))

-- the addresses that an entry links, takes and publishes, by roles without numbers
abbrev pub plain_links : Geometry → Entry → Role → ℕ → Bool
plain_links g e Child a = ((e.old == 0) && is_address g e.new) && is_among e.new (table_words g) a
plain_links g e _ a = false

abbrev pub plain_moves : Geometry → Entry → Role → ℕ → Bool
plain_moves g e Next a = nat_le e.old a && nat_lt a e.new && (node_of g a == node_of g e.at)
plain_moves g e _ a = false

abbrev pub plain_publishes : Geometry → Entry → Role → ℕ → Bool
plain_publishes g e Slot a = covers (content e.new) a
plain_publishes g e Child a = is_address g e.new && is_among e.new (table_words g) a
plain_publishes g e _ a = false

-- what is said of an address behind an entry, by what was said of the address and of the entry's word
abbrev pub next_standing : Geometry → Entry → Standing → Standing → ℕ → Standing
next_standing g e there s a = record {
  table = or_else s.table (cond (plain_links g e (judged_there g there e.at) a) (Some e.new) None);
  taken = plain_moves g e (judged_there g there e.at) a || s.taken;
  published = plain_publishes g e (role_there g there e.at) a || s.published;
}

-- an entry may change what is said of the address, if its word has the role for it
abbrev pub may_reach : Geometry → Entry → ℕ → Bool
may_reach g e a = (is_address g e.new && is_among e.new (table_words g) a) || ((e.at % node_size g == 0) && nat_le e.old a && nat_lt a e.new) || covers (content e.new) a

-- the address stands in a span
abbrev pub in_span : Span → ℕ → Bool
in_span span a = is_among span.from span.count a

-- the spans of the addresses that an entry links, takes and publishes
pub record Reaches (g : Geometry) (e : Entry) (there : Standing) (reach : Reach) : Type 0 where
  pub linked : (a : ℕ) → in_span reach.linked a ≡ plain_links g e (judged_there g there e.at) a
  pub taken : (a : ℕ) → in_span reach.taken a ≡ plain_moves g e (judged_there g there e.at) a
  pub published : (a : ℕ) → in_span reach.published a ≡ plain_publishes g e (role_there g there e.at) a
