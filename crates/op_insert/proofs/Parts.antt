-- One part of an insert.
use Rattle.std.specs.Prelude.{◌≡◌, ℕ, ◌≤◌, Option, Some}
use Rattle.std.proofs.Common.{le_refl}
use Rattle.kv_block.specs.Packing.{Pair, IsPair, packed}
use Rattle.slot_word.specs.declared.heads.Head.{Head}
use Rattle.verb_log.specs.Decoded.{header_of}
use Rattle.verb_log.specs.Tables.{Past, Before, here, later}
use Rattle.verb_log.proofs.Positions.{Before-trans}
use Rattle.race_laws.specs.Setting.{Setting, hash}
use Rattle.race_laws.specs.Standing.{header_in}
use Rattle.race_laws.specs.Legal.{Legal}
use Rattle.log_facts.specs.Start.{Start}
use Rattle.log_facts.proofs.Places.{EachPlace, None_placed, none_placed}
use Rattle.pass_text.specs.declared.job.PassMode.TheVariants.{Look}
use Rattle.pass_text.specs.declared.passed.Passed.{Passed}
use Rattle.pass_text.specs.declared.passed.PassEnd.{PassEnd}
use Rattle.pass_text.specs.declared.passed.PassEnd.TheVariants.{Held, Clear, Gone, Spent}
use Rattle.pass_text.specs.Pass.{pass}
use Rattle.pass_laws.specs.SafeIn.{SafeIn, Calmly}
use Rattle.pass_laws.specs.Drops.{Drops}
use Rattle.pass_laws.specs.HasPassed.{HasPassed, EndsSo}
use Rattle.pass_laws.specs.Law.{MayBegin}
use Rattle.pass_laws.proofs.Rules.{by_weaker, by_bind, by_kept}
use Rattle.pass_laws.proofs.Keeping.{drop_calmly, look_holds}
use Rattle.pass_laws.proofs.Whole.{pass_safe}
use Rattle.block_taking.specs.declared.taking.Area.{Area}
use Rattle.block_taking.specs.Holdings.{Owns, KeptBlock}
use Rattle.op_insert.specs.Text.{Inserting, look_of, on_looked, after_look, insert_part}
use Rattle.op_insert.specs.Law.{inserting_of}
use Rattle.op_insert.proofs.PartEnds.{PartEnd, none_pending}
use Rattle.op_insert.proofs.Words.{job_is}
use Rattle.op_insert.proofs.Filling.{steady_with, looked_later, choose_safe}

-- one part of an insert, from a cached table
module _ (s : Setting) (c client : ℕ) (pair : Pair) (ip : IsPair pair) (tries : ℕ) (kept : Option ℕ) (area : Area) (left : ℕ) (lv : 1 ≤ left) (q : Past) (l : Legal s q) where
  abbrev i : Inserting
  i = inserting_of s client pair tries

  abbrev Then : Past → Type 0
  Then z = Legal s z × (Before q z × (Owns s c area z × KeptBlock s c (packed pair.key pair.value) kept area z × EachPlace s c q None_placed z))

  look_end : (r : Passed) (e : PassEnd) (z : Past) → Start s.geometry z (hash s pair.key) r.table → (opened : Past) → Before q opened → Before opened z → ((h : Head) → r.opened ≡ Some h → header_in s.geometry opened r.table ≡ header_of (Some h)) → EndsSo s pair.key Look opened z r e → Then z → SafeIn s c z (on_looked i kept area left r e) (PartEnd s c i pair left q)
  look_end r (Held h) z st op bo bz oh so g = record {
    start = st;
    owns = g.1.1.0;
    kept = g.1.1.1;
    so = record { at = so.at; from_then = Before-trans bo so.from_then; till = so.till; place = so.place; body = so.body; pair = so.pair; holder = so.holder; slot = so.slot; word = so.word; value = so.value };
    leaves = none_pending s c q z g.1.1.2;
    falls = le_refl left;
  }
  look_end r Gone z st op bo bz oh so g = absurd so
  look_end r Spent z st op bo bz oh so g = absurd so
  look_end r Clear z st op bo bz oh so g = choose_safe s c client pair ip tries left q kept area r left lv (le_refl left) z g.0 g.1.0 g.1.1 st (record { opened = op; from_then = bo; till = bz; opened_head = oh; looked = so }) (looked_later s pair.key r bo here so)

  pub part_safe : (start : Option ℕ) → MayBegin s pair.key Look q start → Owns s c area q → KeptBlock s c (packed pair.key pair.value) kept area q → SafeIn s c q (insert_part i start kept area left) (PartEnd s c i pair left q)
  part_safe start st ow kb =
      let own = steady_with s c q (packed pair.key pair.value) kept area in
      by_bind Calmly s c q (pass (look_of i) start) (after_look i kept area left) (PartEnd s c i pair left q)
      (by_weaker (Drops Look) s c Calmly (λ x e d. drop_calmly s c Look x e d) q (pass (look_of i) start) (λ y r. HasPassed s pair.key Look q y r × Then y) (λ y r. SafeIn s c y (after_look i kept area left r) (PartEnd s c i pair left q))
      (λ y r x. look_end r r.end y x.0.start x.0.opened x.0.from_then x.0.till x.0.opened_head x.0.so x.1)
      (by_kept (Drops Look) s c Then (look_holds s c Then (λ y e ly o h. (ly, (later h.1.0, own.others y e ly o h.1.1)))) q (pass (look_of i) start) (λ y r. HasPassed s pair.key Look q y r)
      (l, (here, (ow, kb, none_placed s c q))) (pass_safe s c (look_of i) (job_is s pair ip Look) start q l st)))
