-- The audit of the words of a legal log.
use Rattle.std.specs.Prelude.{◌≡◌, reverse}
use Rattle.std.proofs.Common.{sym, ◌∙◌, ap, subst}
use Rattle.std.proofs.Math.Path.{fun_ext}
use Rattle.race_laws.specs.Setting.{Setting}
use Rattle.race_laws.specs.Laws.{map_in}
use Rattle.image_laws.specs.Walk.{Words, WalkWord}
use Rattle.image_laws.specs.Sound.{IsSound, FirstBad}
use Rattle.image_laws.specs.Answers.{map_held}
use Rattle.image_laws.specs.Laws.{words_after}
use Rattle.image_laws.proofs.Holders.{quiet_is_sound}
use Rattle.image_audit.specs.declared.audit.Audit.{Audit}
use Rattle.image_audit.specs.declared.audit.Audit.TheVariants.{Sound, Bad}
use Rattle.image_audit.specs.Outcome.{IsAudit}
use Rattle.image_audit.specs.Law.{AuditOfLog}

never_bad : (s : Setting) (w : Words) (x : WalkWord) → IsSound s w → FirstBad s w x → ⊥
never_bad s w x h b = b.breaks (h.meets b.before b.after x b.is)

pub audit_of_log : AuditOfLog
audit_of_log s log l qu w e audit h = by audit h
  where
    same : words_after s.geometry log ≡ w
    same = fun_ext (λ a. sym (e a))

    sound : IsSound s w
    sound = subst (IsSound s) same (quiet_is_sound s log l qu).0

    by : (audit : Audit) → IsAudit s w audit → audit ≡ Sound (map_in s.geometry (reverse log))
    by (Sound pairs) k = ap Sound (k.1 ∙ ap (map_held s) (sym same) ∙ (quiet_is_sound s log l qu).1)
    by (Bad at) k = absurd (never_bad s w k.0 sound k.1)
