-- In a legal log at most one row of the table of kinds fits an entry.
use Rattle.std.specs.Prelude.{◌≡◌, Bool, true, false, refl}
use Rattle.std.proofs.Common.{sym, ◌∙◌, ap}
use Rattle.verb_log.specs.declared.entry.Entry.{Entry}
use Rattle.verb_log.specs.declared.kind.Kind.{Kind}
use Rattle.verb_log.specs.Tables.{Past, role, is_taken, is_published}
use Rattle.verb_log.specs.PlainRoles.{plain_role}
use Rattle.verb_log.specs.Fits.{Fits}
use Rattle.verb_log.proofs.Rows.{heap_row, one_row}
use Rattle.race_laws.specs.Setting.{Setting}
use Rattle.race_laws.specs.Legal.{Legal}
use Rattle.race_laws.proofs.Sound.{fresh_none, taken_heap}
use Rattle.race_laws.proofs.SoundStep.{sound}

pub one_row_fits : (s : Setting) (q : Past) → Legal s q → (e : Entry) (j k : Kind) → Fits s.geometry q e (role s.geometry q e.at) j → Fits s.geometry q e (role s.geometry q e.at) k → j ≡ k
one_row_fits s q l e j k f h = by (is_taken s.geometry q e.at) (is_published s.geometry q e.at) refl refl
  where
    by : (x y : Bool) → is_taken s.geometry q e.at ≡ x → is_published s.geometry q e.at ≡ y → j ≡ k
    by true false t p =
        let so = sound s q l in
        let heap = ap plain_role (taken_heap s.geometry q so e.at t (fresh_none s.geometry q so e.at t p)) in
        heap_row s.geometry q e (role s.geometry q e.at) j heap f ∙ sym (heap_row s.geometry q e (role s.geometry q e.at) k heap h)
    by true true t p = one_row s.geometry q e j k (λ x. let z = x.1 in cc) f h
    by false y t p = one_row s.geometry q e j k (λ x. let z = x.0 in cc) f h
