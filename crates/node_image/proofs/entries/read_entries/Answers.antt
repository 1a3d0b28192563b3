use Rattle.std.proofs.Common.{◌≤◌, ◌++◌, length, drop, arith, ap, sym, ◌∙◌, subst}
use Rattle.node_image.specs.Numbers.{entry_of}
use Rattle.node_image.proofs.ListedKeys.{entry_there, entry_twice, entries_more, kept_if, not_false, not_true, rest_is}
use Rattle.node_image.proofs.entries.read_entries.Goals as goal

pub returns-in_default-clause-none : goal.returns-in_default-clause-none
returns-in_default-clause-none c = λ listed rest size keys dis e. entry_there c.args.numbers.now c.loop.listed c.loop.counter c.loop.at c.loop.invariant listed rest keys e (let t = c.loop-test.true in omega arith) (λ p behind k q. c.in_default.ensures.none p behind k (rest_is c.args.numbers.now c.loop.at ∙ q))

pub returns-then-not-fresh-clause-none : goal.returns-then-not-fresh-clause-none
returns-then-not-fresh-clause-none c = λ listed rest size keys dis e. entry_twice c.args.numbers.now c.loop.listed c.loop.counter c.loop.at c.loop.invariant listed rest keys e (let t = c.loop-test.true in omega arith) dis c.in-Some.entry.key c.in-Some.entry.hash _ c.in-Some.ensures.some.2 (sym (rest_is c.args.numbers.now c.loop.at) ∙ c.in-Some.ensures.some.0) (not_false c.in_ok-fresh.fresh _ c.in_ok-fresh.ensures.0 c.if-not-fresh.true)

pub loop-preserved : goal.loop-preserved
loop-preserved c =
    let r = rest_is c.args.numbers.now c.loop.at in
    entries_more c.args.numbers.now c.loop.listed c.add.new.self c.loop.counter c.loop.at c.in-Some.entry.key c.in-Some.entry.hash c.in-Some.entry.numbers c.loop.invariant (sym r ∙ c.in-Some.ensures.some.0 ∙ ap (λ v. entry_of (c.in-Some.entry.key, c.in-Some.entry.hash) ++ drop c.in-Some.entry.numbers v) r) (subst (λ v. c.in-Some.entry.numbers ≤ length v) r c.in-Some.ensures.some.1) c.in-Some.ensures.some.2 (not_true c.in_ok-fresh.fresh _ c.in_ok-fresh.ensures.0 c.if-not-fresh.false) (kept_if c.in_ok-fresh.fresh c.add.new.self _ _ c.in_ok-fresh.ensures.1 c.if-not-fresh.false)
