use Rattle.std.proofs.Common.{◌≡◌, ℕ, ◌+◌, ◌++◌, [], ◌∷◌, List, length, Some, None, refl, sym, ap, subst, ◌∙◌, arith}
use Rattle.verbs.specs.Logs.{MayStand}
use Rattle.race_laws.specs.Legal.{MayFollow}
use Rattle.play_report.specs.declared.report.Line.{Line}
use Rattle.client_seat.specs.Seated.{Home}
use Rattle.world_texts.specs.Fits.{Fits}
use Rattle.running_client.specs.Called.{CameTo}
use Rattle.running_play.specs.Worked.{line_of}
use Rattle.running_play.proofs.Working.{Living, living_none, living_more, done_stopped, done_open, done_all, most_left, came_none, line_none, an_answer, came_few}
use Rattle.running_play.proofs.worker.do_calls.Goals as goal

pub loop-i-init : goal.loop-i-init
loop-i-init g c = record {
  home = refl;
  legal = c.requires.legal;
  fits = c.requires.fits;
  living = living_none c.args.calls.now.items c.args.stop c.args.node.now c.args.state.now c.args.lines.now.items c.requires.fresh c.requires.none;
}

pub returns-then-is_spent-clause-done : goal.returns-then-is_spent-clause-done
returns-then-is_spent-clause-done g c =
    let l = c.loop-i in
    done_stopped c.args.calls.now.items c.args.stop c.args.node.now c.args.state.now l.i l.node l.state l.lines.items
    (subst (λ left. Living c.args.calls.now.items c.args.stop left c.args.node.now c.args.state.now l.i l.node l.state l.lines.items) (c.is_spent.ensures.spent c.if-is_spent.true) l.invariant.living)

pub returns-then-is_none-clause-done : goal.returns-then-is_none-clause-done
returns-then-is_none-clause-done g c =
    let l = c.loop-i in
    let went = c.call_within-answer in
    let begin = c.args.node.now in
    let none = c.if-is_none.ensures in
    let line : c.line_of.result ≡ line_of begin.client (l.i + 1) None =
    c.line_of.ensures ∙ line_none c.args.client (l.i + 1) went.result.answer none ∙ ap (λ (n : ℕ). line_of n (l.i + 1) None) c.requires.client in
    done_open c.args.calls.now.items c.args.stop begin c.args.state.now l.left l.i l.node went.new.node l.state went.new.state c.get.result c.most_of.result went.result.verbs (l.i + 1) l.lines.items c.push.new.self.items
    l.invariant.fits.few l.invariant.living c.get.ensures c.most_of.ensures
    (λ n e. c.is_spent.ensures.some n c.if-is_spent.false e)
    (came_none went.result.answer l.node l.state c.get.result c.most_of.result went.result.verbs went.new.node went.new.state none went.ensures.came)
    refl
    (c.in_ok-push.ensures.appended ∙ ap (λ (x : List Line). x ++ c.line_of.result ∷ []) c.in_ok-reserve.ensures.items ∙ ap (λ (x : Line). l.lines.items ++ x ∷ []) line)

pub less_by-left-requires : goal.less_by-left-requires
less_by-left-requires g c =
    let l = c.loop-i in
    let went = c.call_within-answer in
    λ n e. most_left l.left c.most_of.result went.result.verbs n c.most_of.ensures
    (came_few went.result.answer l.node l.state c.get.result c.most_of.result went.result.verbs went.new.node went.new.state c.if-is_none.ensures went.ensures.came) e

pub loop-i-preserved : goal.loop-i-preserved
loop-i-preserved g c =
    let l = c.loop-i in
    let went = c.call_within-answer in
    let begin = c.args.node.now in
    let some = an_answer went.result.answer c.if-is_none.ensures in
    let came = subst (λ o. CameTo l.node l.state c.get.result c.most_of.result went.new.node went.new.state o went.result.verbs) some.1 went.ensures.came in
    let line : c.line_of.result ≡ line_of begin.client (l.i + 1) (Some some.0) =
    c.line_of.ensures ∙ ap (line_of c.args.client (l.i + 1)) some.1 ∙ ap (λ (n : ℕ). line_of n (l.i + 1) (Some some.0)) c.requires.client in
    record {
      home = came.0.home ∙ l.invariant.home;
      legal = subst (λ (h : Home). MayStand (MayFollow h.setting) went.new.node.front) (sym came.0.home) went.ensures.legal;
      fits = subst (λ (h : Home). Fits h.setting went.new.node.front went.new.node.client went.new.state) (sym came.0.home)
          (subst (λ (n : ℕ). Fits l.node.home.setting went.new.node.front n went.new.state) (sym came.0.client) came.0.fits);
      living = subst (λ left. Living c.args.calls.now.items c.args.stop left begin c.args.state.now (l.i + 1) went.new.node went.new.state c.push.new.self.items) (sym c.less_by-left.ensures)
          (living_more c.args.calls.now.items c.args.stop begin c.args.state.now l.left l.i l.node went.new.node l.state went.new.state c.get.result some.0 c.most_of.result went.result.verbs (l.i + 1) l.lines.items c.push.new.self.items
          l.invariant.living c.get.ensures c.most_of.ensures came refl
          (c.in_ok-push.ensures.appended ∙ ap (λ (x : List Line). x ++ c.line_of.result ∷ []) c.in_ok-reserve.ensures.items ∙ ap (λ (x : Line). l.lines.items ++ x ∷ []) line));
    }

pub returns-clause-done : goal.returns-clause-done
returns-clause-done g c =
    let l = c.loop-i in
    let past = c.loop-i-test.false in
    let low = l.auto.i-end in
    let long = c.len-i-end.ensures.value in
    let all : l.i ≡ length c.args.calls.now.items = omega arith in
    done_all c.args.calls.now.items c.args.stop c.args.node.now c.args.state.now l.left l.i l.node l.state l.lines.items all l.invariant.living
