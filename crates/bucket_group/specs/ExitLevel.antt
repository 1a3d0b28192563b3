-- The level at which a key leaves a table.

use Rattle.std.specs.Prelude.{◌≡◌, ◌<◌, ◌≤◌, ℕ, zero, suc, ◌-◌, ◌/◌, ◌%◌, ◌^◌, ◌==◌, if◌then◌else◌, Option, Some, None}

-- bit i of a hash, as 0 or 1
abbrev pub bit_of : ℕ → ℕ → ℕ
bit_of hash i = hash / 2 ^ i % 2

-- the least level of the n from b on whose bit is set
abbrev pub exit_from : ℕ → ℕ → ℕ → Option ℕ
exit_from zero b hash = None
exit_from (suc n) b hash = if bit_of hash b == 1 then Some b else exit_from n (suc b) hash

-- the exit level of a hash in a table of this birth depth, of the levels below 16
unfoldable pub exit_level : ℕ → ℕ → Option ℕ
exit_level hash birth = exit_from (16 - birth) birth hash

-- a level is the least of those from the birth depth to 15 whose bit of the hash is set
pub record IsLeastSet (birth hash i : ℕ) : Type 0 where
  pub from : birth ≤ i
  pub below : i < 16
  pub set : bit_of hash i ≡ 1
  pub least : (j : ℕ) → birth ≤ j → j < i → bit_of hash j ≡ 0
