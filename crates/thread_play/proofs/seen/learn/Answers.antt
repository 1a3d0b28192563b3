use Rattle.std.proofs.Common.{◌≡◌, length, arith}
use Rattle.thread_play.proofs.Learning.{learning_none, learning_more, learning_all, key_at}
use Rattle.thread_play.proofs.seen.learn.Goals as goal

pub loop-i-init : goal.loop-i-init
loop-i-init c = record { none = c.requires.none; learning = learning_none c.args.keys.now c.args.client.now.seat c.args.client.now.state c.args.map.now c.requires.empty }

pub loop-i-preserved : goal.loop-i-preserved
loop-i-preserved c =
    let l = c.loop-i in
    let key = c.index-keys-i.result in
    record {
      none = c.search-answer.ensures.none l.invariant.none;
      learning = learning_more c.args.keys.now c.args.client.now.seat c.args.client.now.state l.i l.client.seat c.search-answer.new.self.seat l.client.state c.search-answer.new.self.state l.map c.put_found.new.map key c.search-answer.result c.value_found.result
          l.invariant.learning (key_at c.args.keys.now l.i key c.loop-i-test.true c.index-keys-i.is) (c.search-answer.ensures.called l.invariant.none) c.value_found.ensures c.in_ok-put_found.ensures;
    }

pub returns : goal.returns
returns c =
    let l = c.loop-i in
    let past = c.loop-i-test.false in
    let low = l.auto.i-end in
    let all : l.i ≡ length c.args.keys.now = omega arith in
    learning_all c.args.keys.now c.args.client.now.seat c.args.client.now.state l.i l.client.seat l.client.state l.map all l.invariant.learning
