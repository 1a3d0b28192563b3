-- A whole first half, by the text.
use Rattle.std.specs.Prelude.{◌≡◌, ℕ, ◌%◌, ◌^◌, ◌≤◌, reverse}
use Rattle.std.proofs.Common.{sym, ◌∙◌, ap, subst, arith, le_refl}
use Rattle.std.proofs.Math.Nat.{mod-eq_of_lt}
use Rattle.verb_log.specs.Tables.{Past}
use Rattle.verbs.specs.Programs.{Prog}
use Rattle.race_laws.specs.Setting.{Setting}
use Rattle.race_laws.specs.Standing.{IsTable, birth_in}
use Rattle.race_laws.specs.Legal.{Legal}
use Rattle.race_laws.proofs.SoundStep.{sound}
use Rattle.log_facts.specs.Entries.{Unchanging}
use Rattle.log_facts.proofs.Within.{table_within}
use Rattle.pass_laws.specs.SafeIn.{SafeBy}
use Rattle.pass_laws.proofs.Bridge.{by_quiet}
use Rattle.pass_laws.proofs.Rules.{by_end}
use Rattle.split_text.specs.declared.site.SplitJob.{SplitJob}
use Rattle.split_text.specs.declared.begun.BeginEnd.{BeginEnd}
use Rattle.split_text.specs.Words.{low_address}
use Rattle.split_text.specs.Begin.{begin}
use Rattle.begin_laws.specs.Law.{MaySplit, HasBegun, IsSafeBegin, BeginIsSafe}
use Rattle.begin_laws.proofs.Starting.{begin_safe, End}

-- the address of a table fits a birth word
pub low_is : (s : Setting) (q : Past) → Legal s q → (t : ℕ) → IsTable s.geometry q t → low_address t ≡ t
unfolding low_address
low_is s q l t h = let w = table_within s.geometry q (sound s q l) t 2 h (omega arith) in let g = s.geometry.within in mod-eq_of_lt (omega arith)

-- of a job with the sizes of the setting
sized : (s : Setting) (j : SplitJob) → j.geometry ≡ s.geometry → (from : Past) → Legal s from → MaySplit s from j → (left most : ℕ) → 1 ≤ left → left ≤ most → SafeBy Unchanging s j.client from (begin j left) (λ q e. HasBegun s j most from q e)
sized s j same from l m left most lv fw =
    let known = low_is s from l j.table m.table in
    let low : j.suffix % 2 ^ j.depth ≡ j.suffix = mod-eq_of_lt m.low in
    let tb = subst (IsTable s.geometry from) (sym known) m.table in
    let sf : (birth_in s.geometry from (low_address j.table)).suffix ≡ j.suffix % 2 ^ j.depth = ap (λ v. (birth_in s.geometry from v).suffix) known ∙ m.suffix ∙ sym low in
    subst (λ g. SafeBy Unchanging s j.client from (begin (record { geometry = g; client = j.client; table = j.table; depth = j.depth; suffix = j.suffix }) left) (λ q e. HasBegun s (record { geometry = g; client = j.client; table = j.table; depth = j.depth; suffix = j.suffix }) most from q e)) (sym same)
    (by_end Unchanging s j.client from (begin (record { geometry = s.geometry; client = j.client; table = j.table; depth = j.depth; suffix = j.suffix }) left) (End s j.client j.table j.depth j.suffix most known from) (λ q e. HasBegun s (record { geometry = s.geometry; client = j.client; table = j.table; depth = j.depth; suffix = j.suffix }) most from q e)
    (λ q e h. record { so = h.0.0; fewer = h.0.1; untouched = h.1 })
    (begin_safe s j.client j.table j.depth j.suffix most known from left lv fw l tb sf))

-- the first half of a split of any client
pub begun_safe : (s : Setting) (j : SplitJob) (from : Past) → Legal s from → MaySplit s from j → (left : ℕ) → 1 ≤ left → SafeBy Unchanging s j.client from (begin j left) (λ q e. HasBegun s j left from q e)
begun_safe s j from l m left lv = sized s j m.geometry from l m left left lv (le_refl left)

pub begin_is_safe : BeginIsSafe
begin_is_safe j left s log l m lv = by_quiet Unchanging s j.client (λ q e r. r) log (begin j left) (λ q e. HasBegun s j left (reverse log) q e) (begun_safe s j (reverse log) l m left lv)

-- a program that is the first half is safe as it is
pub safe_as_begin : (j : SplitJob) (left : ℕ) (program : Prog BeginEnd) → program ≡ begin j left → IsSafeBegin j left program
safe_as_begin j left program e = subst (IsSafeBegin j left) (sym e) (begin_is_safe j left)
