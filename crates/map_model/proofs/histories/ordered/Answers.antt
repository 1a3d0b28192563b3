use Rattle.std.proofs.Common.{◌≡◌, List, Ok, rules, tests, sym, length, subst, filter}
use Rattle.std.specs.declared.alloc.AllocError.{AllocError}
use Rattle.std.specs.List.Sorted.{IsStableByKey}
use Rattle.std.specs.Ordering.{nat_cmp}
use Rattle.std.proofs.lemmas.Fn.{always_returns_same}
use Rattle.std.proofs.lemmas.Iterator.{YieldsList-from_slice, items_from_collect}
use Rattle.std.proofs.lemmas.Iterator.Consumers.{YieldsList-at, YieldsList-from_copied, YieldsList-from_filter}
use Rattle.std.proofs.lemmas.List.Sorted.{IsNonDecreasingBy-from_sort_by_key}
use Rattle.map_model.specs.declared.records.Record.{Record}
use Rattle.map_model.specs.History.{is_answer}
use Rattle.map_model.specs.Sorting.{place_of}
use Rattle.map_model.proofs.Order.{history_from_sort}
use Rattle.map_model.proofs.histories.ordered.Goals as goal

pub returns : goal.returns
returns c =
    let count = length c.args.changes.now in
    let ys = c.sort_by_cached_key.new.self.items in
    let answers : c.in_ok-answers.answers.items ≡ filter is_answer c.args.records.now =
    items_from_collect {E = AllocError} (Ok c.in_ok-answers.answers) c.in_ok-answers.ensures.ran
    (YieldsList-from_copied (YieldsList-at c.copied.ensures.source (YieldsList-from_filter _ is_answer (YieldsList-at c.filter.ensures.source (YieldsList-from_slice c.args.records.now c.iter.ensures.rest)) c.filter.ensures.closure (λ x r q k. search (rules, tests))))) in
    let sorted = IsNonDecreasingBy-from_sort_by_key (place_of count) ys c.in_ok-sort_by_cached_key.ensures.sorted (λ a r q k. search rules) in
    let stable = c.in_ok-sort_by_cached_key.ensures.stable (place_of count) (always_returns_same _ (λ a r. r ≡ place_of count a.0.now) _ (λ a r q k. search rules)) in
    sym (history_from_sort c.args.changes.now c.args.records.now ys sorted (subst (λ (xs : List Record). IsStableByKey (place_of count) nat_cmp xs ys) answers stable))
