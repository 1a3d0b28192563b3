-- A directory word below 2 ^ d names a table that was born no deeper than d. Of every legal log.
use Rattle.std.specs.Prelude.{◌≢◌, ℕ, ◌%◌, ◌^◌, ◌<◌, ◌≤◌, ◌⊎◌}
use Rattle.std.proofs.Common.{arith, ⊎_elim, inl, inr}
use Rattle.std.proofs.lemmas.Bool.{cases_lt}
use Rattle.std.proofs.Math.Nat.{mod-le}
use Rattle.node_words.specs.Addresses.{directory_at}
use Rattle.verb_log.specs.Tables.{Past, word_at}
use Rattle.race_laws.specs.Setting.{Setting}
use Rattle.race_laws.specs.Standing.{birth_in}
use Rattle.race_laws.specs.Legal.{Legal}
use Rattle.race_laws.proofs.Sound.{table_some}
use Rattle.race_laws.proofs.SoundStep.{sound}
use Rattle.race_laws.proofs.Splits.{IsFirst, Kin}
use Rattle.race_laws.proofs.Opening.{splits}
use Rattle.race_laws.proofs.Chain.{born_at}
use Rattle.log_facts.proofs.Directory.{Pointed, directs, pow_up}

pub pointed_shallow : (s : Setting) (q : Past) → Legal s q → (j d t : ℕ) → s.geometry.first_depth ≤ d → j < 2 ^ d → Pointed s.geometry q j t → born_at s.geometry q t ≤ d
pointed_shallow s q l j d t from low pt = by ((splits s q l).kin t pt.table)
  where
    by : IsFirst s.geometry q t ⊎ Kin s.geometry q t → born_at s.geometry q t ≤ d
    by (inl x) = let y = x.level in omega arith
    by (inr x) =
        let g16 = s.geometry.deep in
        let small = x.below in
        let born = (splits s q l).born (birth_in s.geometry q t).parent x.level t x.table (omega arith) x.is_child (table_some s.geometry q (sound s q l) t pt.table) in
        let sx = born.suffix in
        let sf = pt.suffix in
        let md = mod_le j (2 ^ born_at s.geometry q t) in
        ⊎_elim (λ (y : x.level < d). let z = x.born in omega arith) (λ (y : d ≤ x.level). let z = pow_up d x.level y in absurd (omega arith)) (cases_lt x.level d)
      where
        mod_le : (x n : ℕ) → x % n ≤ x
        mod_le x n = mod-le x n

pub named_shallow : (s : Setting) (q : Past) → Legal s q → (j d : ℕ) → s.geometry.first_depth ≤ d → d ≤ s.geometry.max_depth → j < 2 ^ d → word_at s.geometry q (directory_at j) ≢ 0 → born_at s.geometry q (word_at s.geometry q (directory_at j)) ≤ d
named_shallow s q l j d from to low some = let y = pow_up d s.geometry.max_depth to in pointed_shallow s q l j d (word_at s.geometry q (directory_at j)) from low ((directs s q l).points j (omega arith) some)
