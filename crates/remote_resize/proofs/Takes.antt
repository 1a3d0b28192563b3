-- Taking at a node, by whether the words of a table are there.
use Rattle.std.specs.Prelude.{◌≡◌, ℕ, zero, suc, ◌+◌, ◌-◌, ◌*◌, ◌<◌, ◌≤◌, ◌==◌, nat_le, if◌then◌else◌, Bool, true, false, cond, None}
use Rattle.std.proofs.Common.{◌∙◌, ap, arith}
use Rattle.std.proofs.lemmas.Bool.Decides.{nat_tests}
use Rattle.node_words.specs.Addresses.{node_size, node_at, table_words}
use Rattle.verb_log.specs.declared.entry.Verb.TheVariants.{Swap}
use Rattle.verbs.specs.Programs.{Prog, ask, do_verb}
use Rattle.split_text.specs.declared.site.SplitJob.{SplitJob}
use Rattle.split_text.specs.declared.begun.BeginEnd.{BeginEnd}
use Rattle.split_text.specs.Words.{site_of}
use Rattle.split_text.specs.Begin.{write_child, take_at}

module _ (j : SplitJob) (k n : ℕ) (full : ℕ → ℕ → Prog BeginEnd) where
  by_test : (left : ℕ) (v : Bool) → nat_le (n + table_words j.geometry) ((k + 1) * node_size j.geometry) ≡ v → take_at j (suc left) k n full ≡ cond v (ask (do_verb None (Swap (node_at j.geometry k) n (n + table_words j.geometry))) (λ found. if found == n then write_child j (site_of j n) (suc left) else take_at j left k found full)) (full n (suc left))
  by_test left v e = ap (λ b. cond b (ask (do_verb None (Swap (node_at j.geometry k) n (n + table_words j.geometry))) (λ found. if found == n then write_child j (site_of j n) (suc left) else take_at j left k found full)) (full n (suc left))) e

  pub take_full : (left : ℕ) → 1 ≤ left → (k + 1) * node_size j.geometry < n + table_words j.geometry → take_at j left k n full ≡ full n left
  take_full zero h e = absurd (omega arith)
  take_full (suc left) h e = by_test left false (below (n + table_words j.geometry) ((k + 1) * node_size j.geometry) e)
    where
      below : (x y : ℕ) → y < x → nat_le x y ≡ false
      below x y h = grind (arith, nat_tests)

  pub take_room : (left : ℕ) → 1 ≤ left → n + table_words j.geometry ≤ (k + 1) * node_size j.geometry → take_at j left k n full ≡ ask (do_verb None (Swap (node_at j.geometry k) n (n + table_words j.geometry))) (λ found. if found == n then write_child j (site_of j n) left else take_at j (left - 1) k found full)
  take_room zero h e = absurd (omega arith)
  take_room (suc left) h e = by_test left true (above (n + table_words j.geometry) ((k + 1) * node_size j.geometry) e) ∙ ap (λ m. ask (do_verb None (Swap (node_at j.geometry k) n (n + table_words j.geometry))) (λ found. if found == n then write_child j (site_of j n) (suc left) else take_at j m k found full)) (minus left)
    where
      above : (x y : ℕ) → x ≤ y → nat_le x y ≡ true
      above x y h = grind (arith, nat_tests)

      minus : (left : ℕ) → left ≡ suc left - 1
      minus left = omega arith

pub ruleset takes = (take_full, take_room)
