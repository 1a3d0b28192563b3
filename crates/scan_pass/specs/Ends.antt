-- How a pass has ended, by where it stands.
use Rattle.std.specs.Prelude.{◌≡◌, Bool, true, false, IsSome, refl}
use Rattle.verbs.specs.Programs.{next_act}
use Rattle.kv_block.specs.Reading.{block_value}
use Rattle.pass_text.specs.declared.job.Job.{Job}
use Rattle.pass_text.specs.declared.passed.Held.{Held as HeldWord}
use Rattle.pass_text.specs.Words.{candidate_at}
use Rattle.scan_pass.specs.declared.scan.Scan.{Scan}
use Rattle.scan_pass.specs.declared.at.At.{At}
use Rattle.scan_pass.specs.declared.at.At.TheVariants.{Depth, Directory, Header, Parent, Birth, Slot, Block, Drop, KeyHeader, Child, Held as HeldAt, Clear as ClearAt, Gone as GoneAt, Spent as SpentAt}
use Rattle.scan_pass.specs.declared.pass.Pass.{Pass}
use Rattle.scan_pass.specs.BlockWords.{words_of}
use Rattle.scan_pass.specs.Seen.{IsRead}
use Rattle.scan_pass.specs.AtFits.{AtFits}
use Rattle.scan_pass.specs.Rest.{at_rest}

-- the word that holds the key
abbrev pub held_of : Pass → HeldWord
held_of p = record { at = candidate_at p.task.job p.scan.table p.scan.index; word = p.scan.word; value = block_value (words_of p.scan.block) }

abbrev pub is_held : At → Bool
is_held HeldAt = true
is_held _ = false

abbrev pub is_gone : At → Bool
is_gone GoneAt = true
is_gone _ = false

abbrev pub is_spent : At → Bool
is_spent SpentAt = true
is_spent _ = false

abbrev pub has_ended : At → Bool
has_ended HeldAt = true
has_ended ClearAt = true
has_ended GoneAt = true
has_ended SpentAt = true
has_ended _ = false

-- a pass that has not ended has a verb
pub waits : (j : Job) (s : Scan) (at : At) → has_ended at ≡ false → IsSome (next_act (at_rest j s at))
waits j s Depth e = refl
waits j s Directory e = refl
waits j s Header e = refl
waits j s Parent e = refl
waits j s Birth e = refl
waits j s Slot e = refl
waits j s Block e = refl
waits j s Drop e = refl
waits j s KeyHeader e = refl
waits j s Child e = refl
waits j s HeldAt e = absurd (cc)
waits j s ClearAt e = absurd (cc)
waits j s GoneAt e = absurd (cc)
waits j s SpentAt e = absurd (cc)

-- the word that holds the key stands in a candidate
pub held_fits : (j : Job) (s : Scan) (at : At) → is_held at ≡ true → AtFits j s at → IsRead j s.index
held_fits j s Depth e h = absurd (cc)
held_fits j s Directory e h = absurd (cc)
held_fits j s Header e h = absurd (cc)
held_fits j s Parent e h = absurd (cc)
held_fits j s Birth e h = absurd (cc)
held_fits j s Slot e h = absurd (cc)
held_fits j s Block e h = absurd (cc)
held_fits j s Drop e h = absurd (cc)
held_fits j s KeyHeader e h = absurd (cc)
held_fits j s Child e h = absurd (cc)
held_fits j s HeldAt e h = h
held_fits j s ClearAt e h = absurd (cc)
held_fits j s GoneAt e h = absurd (cc)
held_fits j s SpentAt e h = absurd (cc)

pub ruleset ends = (waits, held_fits)
