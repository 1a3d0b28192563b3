use Rattle.std.proofs.Common.{◌≡◌, ◌≤◌, ℕ, ◌+◌, ◌<◌, take, length, get_or, slice_set, sym, ap, subst, ◌∙◌, arith}
use Rattle.std.proofs.lemmas.List.{length-set}
use Rattle.storm_script.specs.Summary.{reply_place, replies_at}
use Rattle.storm_script.proofs.Counts.{counts-step, counts-few}
use Rattle.storm_script.proofs.summary.counts_of.Goals as goal

pub loop-i-preserved : goal.loop-i-preserved
loop-i-preserved c =
    let lines = c.args.lines.now.items in
    let line = c.get-line.result in
    let i = c.loop-i.i in
    let counts = c.loop-i.counts in
    let long = c.loop-i.invariant.places in
    let low : i < length lines = omega (arith, c.loop-i-test.true, c.len-i-end.ensures.value) in
    let own = c.place_of.ensures.place in
    let below : reply_place line.reply < length counts = subst (λ n. n < length counts) own (subst (λ n. c.place_of.result < n) (sym long) c.place_of.ensures.below) in
    let after = λ (j : ℕ). slice_set counts j (get_or counts j 0 + 1) in
    let step : (place : ℕ) → place < 12 → get_or (after c.place_of.result) place 0 ≡ replies_at (take (i + 1) lines) place = λ place placed.
    ap (λ j. get_or (after j) place 0) own
    ∙ counts-step counts lines line i place low c.get-line.ensures below (λ p within. c.loop-i.invariant.counts p (subst (λ n. p < n) long within)) (subst (λ n. place < n) (sym long) placed) in
    record {
      places = length-set counts c.place_of.result (get_or counts c.place_of.result 0 + 1) ∙ long;
      counts = step;
      few = λ place placed. subst (λ n. n ≤ i + 1) (sym (step place placed)) (counts-few lines (i + 1) place);
    }
