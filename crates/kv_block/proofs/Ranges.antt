-- The range of the numbers that a slice of bytes holds.
use Rattle.std.proofs.Common.{ℕ, ◌<◌, ◌^◌, List, get_or, Fits, w8, rules}
use Rattle.std.proofs.lemmas.List.Elements.{All-from_get_or}
use Rattle.kv_block.specs.Bytes.{AreBytes}

pub AreBytes-from_fits : (bytes : List ℕ) → ((k : ℕ) → Fits w8 (get_or bytes k 0)) → AreBytes bytes
AreBytes-from_fits bytes fits = All-from_get_or (λ b. b < 2 ^ 8) bytes 0 (λ i h. let f = fits i in search rules)
