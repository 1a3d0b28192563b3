-- Quiet words: those that no call is at work on.
use Rattle.std.specs.Prelude.{◌≡◌, ℕ, ◌+◌}
use Rattle.slot_word.specs.declared.slots.Mark.{Mark}
use Rattle.slot_word.specs.declared.slots.Mark.TheVariants.{Live}
use Rattle.node_words.specs.declared.geometry.Geometry.{Geometry}
use Rattle.node_words.specs.Roles.{Role, HeaderWord, LockWord, BucketWord, SlotWord, offset_role}
use Rattle.verb_log.specs.Decoded.{Body, Full, content, header}
use Rattle.race_laws.specs.Standing.{IsIn, IsPlain}
use Rattle.image_laws.specs.Walk.{Words, WalkWord, TableWord, FirstBreak, walk}

-- no slot with a mark other than live, no header or bucket header that is not plain, no lock that is not 0
abbrev pub QuietAs : Words → ℕ → Role → Type 0
QuietAs w a (HeaderWord u) = IsPlain (header (w a))
QuietAs w a (BucketWord u m) = IsPlain (header (w a))
QuietAs w a (LockWord u) = w a ≡ 0
QuietAs w a (SlotWord u p) = (m : Mark) (b : Body) → content (w a) ≡ Full m b → m ≡ Live
QuietAs w a _ = Unit {0}

abbrev pub QuietAt : Words → WalkWord → Type 0
QuietAt w (TableWord t o) = QuietAs w (t.at + o) (offset_role t.at o)
QuietAt w _ = Unit {0}

abbrev pub AreQuiet : Geometry → Words → Type 0
AreQuiet g w = (x : WalkWord) → IsIn x (walk g w) → QuietAt w x

-- the first word of the walk that is not quiet
abbrev pub FirstLoud : Geometry → Words → WalkWord → Type 0
FirstLoud g w x = FirstBreak (λ before y. QuietAt w y) (walk g w) x
