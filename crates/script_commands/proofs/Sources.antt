-- The bytes that were read, and the text that was written.
use Rattle.std.proofs.Common.{◌≡◌, ℕ, ◌≤◌, ◌⊎◌, inl, inr, List, length, Option, sym, subst, arith}
use Rattle.std.specs.Prelude.{Result, Ok, Err, OnOk, OnErr}
use Rattle.std.specs.Io.KnownBytes.{IsAtEnd}
use Rattle.race_io.specs.Transfer.{TakesAll}
use Rattle.script_value.specs.Content.{ScriptValue}
use Rattle.script_reader.specs.Gives.{Refuses}
use Rattle.script_reader.specs.Rules.{script_of}
use Rattle.script_reader.specs.declared.fault.ScriptFault.{ScriptFault}
use Rattle.script_reader.specs.declared.fault.ScriptFault.TheVariants.{Refused}
use Rattle.script_reader.specs.declared.fault.ScriptKind.{ScriptKind}
use Rattle.script_commands.specs.Reading.{ReadsScript, Spells}

-- a text was put whole, or in part where the sink failed
pub put_or_failed : {A B C E U : Type 0} (put : Result U E) → OnOk put A → OnErr put B → OnErr put C → A ⊎ (C × B)
put_or_failed (Ok u) whole part failed = inl whole
put_or_failed (Err e) whole part failed = inr (failed, part)

-- the bytes of a script are fewer than are read at most, so the source was read to its end
pub read-whole : (old new : Option (List ℕ)) (bytes : List ℕ) (script : ScriptValue) → TakesAll old new 4194305 bytes → Spells bytes script → ReadsScript old new script
read-whole old new bytes script taken spells = record { bytes = bytes; taken = taken; whole = by taken.whole; spells = spells }
  where
    short : length bytes ≤ 4194304
    short = subst (λ bs. length bs ≤ 4194304) (sym spells.spelled) spells.is.short

    by : (length bytes ≡ 4194305) ⊎ IsAtEnd new → IsAtEnd new
    by (inl e) = absurd (let few = short in omega (arith, e, few))
    by (inr end) = end

-- bytes that are refused
pub refused-bytes : (bytes : List ℕ) (fault : ScriptFault) (line : ℕ) (kind : ScriptKind) → fault ≡ Refused line kind → Refuses fault (script_of bytes) → script_of bytes ≡ Err (line, kind)
refused-bytes bytes fault line kind is refuses = subst (λ (f : ScriptFault). Refuses f (script_of bytes)) is refuses
