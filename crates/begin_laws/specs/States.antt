-- What a split finds when it has opened, and what it leaves alone.
use Rattle.std.specs.Prelude.{◌≡◌, ℕ, ◌+◌, ◌<◌, ◌≤◌}
use Rattle.verb_log.specs.Tables.{Past, word_at}
use Rattle.race_laws.specs.Setting.{Setting}
use Rattle.race_laws.specs.Rows.{IsPlace}
use Rattle.log_facts.specs.Mine.{Mine}
use Rattle.log_facts.specs.Entries.{Modest}
use Rattle.pass_laws.specs.SafeIn.{Rule}
use Rattle.split_text.specs.declared.site.Site.{Site}
use Rattle.move_laws.specs.States.{Opened, Still, Bare}

-- the split has opened; no place of the table is moved, and none of the child is a copy
pub record Fresh (s : Setting) (c : ℕ) (site : Site) (q : Past) : Type 0 where
  pub open_now : Opened s c site q
  pub still : (r : ℕ) → IsPlace s.geometry r → Still s site.table q r
  pub bare : (r : ℕ) → IsPlace s.geometry r → Bare s site.child q r

-- the words that the client had taken and not published at a position are so at a later one, and are as they were
abbrev pub Untouched : Setting → ℕ → Past → Past → Type 0
Untouched s c p q =
    (a n : ℕ) → Mine s.geometry p c a n → Mine s.geometry q c a n × ((x : ℕ) → a ≤ x → x < a + n → word_at s.geometry q x ≡ word_at s.geometry p x)

-- own entries of kinds that name no new block, link no table, store nothing and change nothing in the map
abbrev pub Modestly : Rule
Modestly s c q e = Modest s q e
