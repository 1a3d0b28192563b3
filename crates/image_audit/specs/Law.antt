-- What the law of audits says. A log stands in order here.
use Rattle.std.specs.Prelude.{◌≡◌, ℕ, List, reverse}
use Rattle.verb_log.specs.declared.entry.Entry.{Entry}
use Rattle.race_laws.specs.Setting.{Setting}
use Rattle.race_laws.specs.Legal.{IsLegal}
use Rattle.race_laws.specs.Laws.{map_in}
use Rattle.image_laws.specs.Walk.{Words}
use Rattle.image_laws.specs.Quiet.{AreQuiet}
use Rattle.image_laws.specs.Laws.{words_after}
use Rattle.image_audit.specs.declared.audit.Audit.{Audit}
use Rattle.image_audit.specs.declared.audit.Audit.TheVariants.{Sound}
use Rattle.image_audit.specs.Outcome.{IsAudit}

-- an audit of the words after a legal log, where they are quiet, says Sound, with the map of all changes of the log
abbrev pub AuditOfLog : Type 0
AuditOfLog = (s : Setting) (log : List Entry) → IsLegal s log → AreQuiet s.geometry (words_after s.geometry log) → (w : Words) → ((a : ℕ) → w a ≡ words_after s.geometry log a) → (audit : Audit) → IsAudit s w audit → audit ≡ Sound (map_in s.geometry (reverse log))
