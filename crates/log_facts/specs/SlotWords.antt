-- Slot words of a block, and header words of a depth.
use Rattle.std.specs.Prelude.{ℕ}
use Rattle.slot_word.specs.declared.slots.Mark.{Mark}
use Rattle.slot_word.specs.declared.heads.State.TheVariants.{Plain, Splitting, Filling}
use Rattle.slot_word.specs.Slots.{slot_word}
use Rattle.slot_word.specs.Heads.{head_word}
use Rattle.verb_log.specs.Decoded.{Body}

-- the slot word of a block with a mark
abbrev pub marked : Mark → Body → ℕ
marked m b = slot_word (record { mark = m; fp = b.print; len = b.length; at = b.at })

-- the header words of a depth
abbrev pub plain_of : ℕ → ℕ
plain_of d = head_word (record { depth = d; state = Plain })

abbrev pub splitting_of : ℕ → ℕ
splitting_of d = head_word (record { depth = d; state = Splitting })

abbrev pub filling_of : ℕ → ℕ
filling_of d = head_word (record { depth = d; state = Filling })
