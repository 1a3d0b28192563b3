use Rattle.std.proofs.Common.{◌≡◌, ℕ, ◌+◌, [], ◌∷◌, sym, ap, subst, ◌∙◌, length, length-append, arith}
use Rattle.client_seat.specs.Seated.{Home}
use Rattle.thread_play.specs.Seen.{ReadNexts, read_none, read_more}
use Rattle.thread_play.proofs.seen.read_nexts.Goals as goal

pub next_of-requires-in-loop-number-clause-sizes : goal.next_of-requires-in-loop-number-clause-sizes
next_of-requires-in-loop-number-clause-sizes c = c.requires ∙ ap (λ (h : Home). h.setting.geometry) (sym c.loop-number.invariant.home)

pub loop-number-init : goal.loop-number-init
loop-number-init c = record {
  reads = subst (ReadNexts c.args.node.now 1 c.next_of.new.node) (sym c.one-next.ensures) (read_more c.next_of.new.node c.next_of.result read_none c.next_of.ensures);
  many = ap length c.one-next.ensures;
  home = c.next_of.ensures.home;
}

pub loop-number-preserved : goal.loop-number-preserved
loop-number-preserved c =
    let l = c.loop-number in
    let read = c.next_of-in-loop-number in
    record {
      reads = subst (ReadNexts c.args.node.now (l.number + 1) read.new.node) (sym c.with-next.ensures) (read_more read.new.node read.result l.invariant.reads read.ensures);
      many = ap length c.with-next.ensures ∙ length-append l.next (read.result ∷ []) ∙ ap (λ (n : ℕ). n + 1) l.invariant.many;
      home = read.ensures.home ∙ l.invariant.home;
    }

pub returns : goal.returns
returns c =
    let l = c.loop-number in
    let past = c.loop-number-test.false in
    let low = l.auto.number-end in
    let some = c.args.geometry.now.some in
    let all : l.number ≡ c.args.geometry.now.nodes = omega arith in
    subst (λ (n : ℕ). ReadNexts c.args.node.now n l.node l.next) all l.invariant.reads
