-- What the code answers is what reading gives, unless memory runs out.
use Rattle.std.specs.Prelude.{◌≡◌, ℕ, Result, Ok, Err}
use Rattle.script_reader.specs.declared.fault.ScriptKind.{ScriptKind}
use Rattle.script_reader.specs.declared.fault.ScriptFault.{ScriptFault}
use Rattle.script_reader.specs.declared.fault.ScriptFault.TheVariants as fault
use Rattle.script_value.specs.Content.{ScriptValue, sizes_of}
use Rattle.script_reader.specs.Rules.{Refusal, Told}
use Rattle.script_reader.specs.declared.fault.Halt.{Halt}
use Rattle.script_reader.specs.declared.fault.Halt.TheVariants as halt

abbrev pub Fails : {Y : Type 0} → Halt → Result Y ScriptKind → Type 0
Fails halt.OutOfMemory read = Unit {0}
Fails (halt.Refused k) read = read ≡ Err k

-- an answer, seen by view
abbrev pub Gives : {X Y : Type 0} → (X → Y) → Result X Halt → Result Y ScriptKind → Type 0
Gives view (Ok x) read = read ≡ Ok (view x)
Gives view (Err e) read = Fails e read

-- a refusal is the one that reading gives
abbrev pub Refuses : {Y : Type 0} → ScriptFault → Result Y Refusal → Type 0
Refuses (fault.Refused line kind) read = read ≡ Err (line, kind)
Refuses fault.OutOfMemory read = Unit {0}

-- a whole script, or a part of it with the lines counted
abbrev pub Reads : {X Y : Type 0} → (X → Y) → Result X ScriptFault → Result Y Refusal → Type 0
Reads view (Ok x) read = read ≡ Ok (view x)
Reads view (Err e) read = Refuses e read

-- what takes no memory
abbrev pub Tells : {X Y : Type 0} → (X → Y) → Result X ScriptKind → Result Y ScriptKind → Type 0
Tells view (Ok x) read = read ≡ Ok (view x)
Tells view (Err k) read = read ≡ Err k

-- a script, its geometry by its numbers
abbrev pub told_of : ScriptValue → Told
told_of s = record { version = s.version; sizes = sizes_of s.geometry s.tries; content = s.content }

-- the fault of a line that halted
abbrev pub fault_at : ℕ → Halt → ScriptFault
fault_at line (halt.Refused kind) = fault.Refused line kind
fault_at line halt.OutOfMemory = fault.OutOfMemory
