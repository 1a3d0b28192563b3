-- How a look has ended as Clear.
use Rattle.std.specs.Prelude.{◌≡◌, true, false}
use Rattle.scan_pass.specs.declared.at.At.{At}
use Rattle.scan_pass.specs.Ends.{is_held, is_gone, is_spent, has_ended}

abbrev pub IsClear : At → Type 0
IsClear at = (has_ended at ≡ true) × (is_held at ≡ false) × (is_gone at ≡ false) × (is_spent at ≡ false)
