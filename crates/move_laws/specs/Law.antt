-- What is proved of moving one place.
use Rattle.std.specs.Prelude.{◌≡◌, ℕ, ◌-◌, ◌≤◌, List, reverse, Option, None, ◌⊎◌}
use Rattle.node_words.specs.Addresses.{slot_at}
use Rattle.slot_word.specs.declared.slots.Mark.TheVariants.{Moved as MovedMark}
use Rattle.verb_log.specs.declared.entry.Entry.{Entry}
use Rattle.verb_log.specs.Decoded.{Body, Full, content}
use Rattle.verb_log.specs.Tables.{Past}
use Rattle.verbs.specs.Programs.{Prog}
use Rattle.verbs.specs.Safe.{Safe}
use Rattle.race_laws.specs.Setting.{Setting, hash}
use Rattle.race_laws.specs.Splits.{WasClear}
use Rattle.race_laws.specs.Rows.{IsPlace}
use Rattle.race_laws.specs.Legal.{IsLegal}
use Rattle.log_facts.specs.Among.{quiet_among}
use Rattle.log_facts.specs.Entries.{Modest}
use Rattle.pass_laws.specs.SafeIn.{Rule}
use Rattle.split_text.specs.declared.site.Site.{Site}
use Rattle.split_text.specs.declared.moved.MoveOutcome.{MoveOutcome}
use Rattle.split_text.specs.declared.moved.MoveOutcome.TheVariants.{Done, Moved, Spent}
use Rattle.split_text.specs.declared.moved.MoveEnd.{MoveEnd}
use Rattle.split_text.specs.Move.{judge, move}
use Rattle.move_laws.specs.States.{Bare, or_zero, Busy, Judging, Turned}

-- the own entries of moving a place: on its two slots, and of kinds that name no new block, link, store or change nothing
abbrev pub Moves : Site → ℕ → Rule
Moves site p s c q e = Modest s q e × ((e.at ≡ slot_at site.table p) ⊎ (e.at ≡ slot_at site.child p))

-- Done: the place was clear at a position since the split opened, and neither it is moved nor a copy stands beside it. Moved: the
-- moved word that is told stands, and its copy is settled. Spent: the word that is told was read or found, and is to be judged
-- beside the copy that is told.
abbrev pub LeftSo : Setting → ℕ → Site → ℕ → Past → MoveEnd → MoveOutcome → Type 0
LeftSo s c site p q e Done = Busy s c site p None q × WasClear s q site.table site.depth p × (e.standing ≡ 0) × (1 ≤ e.left)
LeftSo s c site p q e Moved =
    (b : Body) × Turned s c site p b q × Bare s site.child q p × (content e.word ≡ Full MovedMark b) × (e.standing ≡ 0) × (1 ≤ e.left)
LeftSo s c site p q e Spent = (copy : Option ℕ) × (or_zero copy ≡ e.standing) × (at : Past) × Judging s c site p e.word copy at q × (e.left ≡ 0)

-- A place has been judged by a call that might lose so many swaps.
pub record HasLeft (s : Setting) (c : ℕ) (site : Site) (p left : ℕ) (q : Past) (e : MoveEnd) : Type 0 where
  pub so : LeftSo s c site p q e e.outcome
  pub fewer : e.left ≤ left

-- A program that plays the moving of a place that may lose so many swaps, at least one, beside a copy that stands where the number
-- is not 0, is safe for each client on each legal log on which its split is open and the place is not moved: whatever others add
-- between its verbs, each of its entries may follow and changes nothing in the map, and it ends so.
abbrev pub IsSafeMove : Site → ℕ → ℕ → ℕ → Prog MoveEnd → Type 0
IsSafeMove site p standing left program =
    (s : Setting) (c : ℕ) (copy : Option ℕ) (log : List Entry) → IsLegal s log → IsPlace s.geometry p → 1 ≤ left
    → or_zero copy ≡ standing → Busy s c site p copy (reverse log)
    → Safe (quiet_among s c) (hash s) log program (λ log2 e. HasLeft s c site p left (reverse log2) e)

-- .. and so is one that goes on with a word that was read or found before
abbrev pub IsSafeJudging : Site → ℕ → ℕ → ℕ → ℕ → Prog MoveEnd → Type 0
IsSafeJudging site p word standing left program =
    (s : Setting) (c : ℕ) (copy : Option ℕ) (at : Past) (log : List Entry) → IsLegal s log → IsPlace s.geometry p → 1 ≤ left
    → or_zero copy ≡ standing → Judging s c site p word copy at (reverse log)
    → Safe (quiet_among s c) (hash s) log program (λ log2 e. HasLeft s c site p left (reverse log2) e)

-- each move is safe
abbrev pub MoveIsSafe : Type 0
MoveIsSafe =
    ((site : Site) (p standing left : ℕ) → IsSafeMove site p standing left (move site p standing left))
    × ((site : Site) (p word standing left : ℕ) → IsSafeJudging site p word standing left (judge site p (left - 1) word standing))
