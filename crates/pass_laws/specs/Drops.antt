-- The entries of a pass: the drops of a sweep, each of a pending word that it swaps to 0.
use Rattle.std.specs.Prelude.{◌≡◌, Some}
use Rattle.verb_log.specs.declared.kind.Kind.TheVariants.{Drop}
use Rattle.verb_log.specs.Kinds.{kind}
use Rattle.pass_text.specs.declared.job.PassMode.{PassMode}
use Rattle.pass_text.specs.declared.job.PassMode.TheVariants.{Look, Sweep, Walk}
use Rattle.pass_laws.specs.SafeIn.{Rule}

-- what the own entries of a pass are in each mode: a look and a walk make none
abbrev pub Drops : PassMode → Rule
Drops Look s c q e = ⊥
Drops (Sweep own left) s c q e = (kind s.geometry q e ≡ Some Drop) × (e.new ≡ 0)
Drops Walk s c q e = ⊥
