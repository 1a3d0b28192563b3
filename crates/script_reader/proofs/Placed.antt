-- What stands before a line of a call.
use Rattle.std.proofs.Common.{◌≡◌, Bool, true, false, not, ◌&&◌, Some, None, refl, if◌then◌else◌}
use Rattle.script_reader.specs.declared.fault.ScriptKind.{ScriptKind}

-- a call line stands behind a client's
pub some_client : (empty a b : Bool) (k : ScriptKind) → (if not empty && a && b then None else Some k) ≡ None → empty ≡ false
some_client false a b k h = refl
some_client true a b k h = absurd (by h)
  where
    by : Some k ≡ None → ⊥
    by e = cc
