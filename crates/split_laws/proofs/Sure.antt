-- A swap that is never lost.
use Rattle.std.specs.Prelude.{◌≡◌, ℕ, ◌<◌, ◌∷◌}
use Rattle.verb_log.specs.Tables.{Past, word_at}
use Rattle.verbs.specs.Programs.{Prog}
use Rattle.race_laws.specs.Setting.{Setting}
use Rattle.race_laws.specs.Legal.{Meets, Legal}
use Rattle.log_facts.specs.Entries.{Modest}
use Rattle.log_facts.specs.Since.{change_in, Since}
use Rattle.pass_laws.specs.SafeIn.{SafeBy}
use Rattle.split_text.specs.Begin.{sure}
use Rattle.begin_laws.specs.States.{Modestly}

-- the expected word stands on every log that others may have made
pub sure_safe : {A : Type 0} (s : Setting) (c : ℕ) (End : Past → A → Type 0) (at old new : ℕ) (go_on : Prog A) (q : Past) → at < s.geometry.words → ((z : Past) → Legal s z → Since c q z → (word_at s.geometry z at ≡ old) × (Meets s z (change_in s.geometry c z at new) × Modest s z (change_in s.geometry c z at new)) × SafeBy Modestly s c (change_in s.geometry c z at new ∷ z) go_on End) → SafeBy Modestly s c q (sure at old new go_on) End
sure_safe s c End at old new go_on q low f = (low, λ z lz sz. let x = f z lz sz in ((λ now. (x.1, x.2)), (λ other. absurd (other x.0))))
