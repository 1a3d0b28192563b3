use Rattle.std.proofs.Common.{◌-◌, ◌+◌, ℕ, ◌≡◌, length, sym, ap, subst, refl, ◌∙◌, arith}
use Rattle.std.specs.Prelude.{Some, slice_get, if◌then◌else◌}
use Rattle.map_model.specs.declared.calls.Reply.{Reply}
use Rattle.map_model.specs.Machine.{is_change, is_quiet}
use Rattle.verb_core.proofs.Stages.{answer_there}
use Rattle.verb_core.proofs.Played.{first_same}
use Rattle.verb_core.proofs.any_world.conclude.Goals as goal

pub close-told-requires-clause-ended : goal.close-told-requires-clause-ended
close-told-requires-clause-ended g c = c.requires.ended

pub get-call-requires : goal.get-call-requires
get-call-requires g c = let a = c.close-told.ensures.answered in let b = c.requires.some in omega arith

pub tell-answered-requires : goal.tell-answered-requires
tell-answered-requires g c =
    let x = c.requires.ended in
    let e = answer_there x.4 in
    let told = c.close-told.ensures.told x.0 x.1 e.0 x.2 e.1 in
    let low = c.requires.lo x.1 x.2 in
    let same = told.2 in
    omega arith

pub returns : goal.returns
returns g c = λ h o e under ended.
    let told = c.close-told.ensures.told h o e under ended in
    let t = c.tell-answered.ensures in
    let count = length c.args.timeline.now in
    let back : c.close-told.new.self.answered - 1 ≡ c.args.player.now.answered = let a = c.close-told.ensures.answered in omega arith in
    record {
      state = told.0;
      answered = c.close-told.ensures.answered;
      verbs = c.close-told.ensures.verbs;
      none = c.close-told.ensures.none;
      call = c.get-call.result;
      which = sym (ap (slice_get c.args.calls.now.items) back) ∙ c.get-call.ensures;
      told = c.tell-answered.result;
      pushed = c.in-Ok.ensures.appended;
      asked = (t.asked.0, t.asked.1 ∙ c.close-told.ensures.answered, t.asked.2);
      reply = (t.reply.0 ∙ told.1, t.reply.1 ∙ told.2);
      hi = t.hi ∙ ap (λ (r : Reply). if is_change r then count + 1 else count) told.1;
      changing = λ a. t.changing (ap is_change told.1 ∙ a);
      quiet = λ a b. first_same c.args.timeline.now c.args.timeline.now c.close-told.result.lo o.lo c.get-call.result c.get-call.result c.close-told.result.reply e.reply c.tell-answered.result.point refl told.2 refl told.1 (t.quiet (ap is_change told.1 ∙ a) (ap is_quiet told.1 ∙ b));
      refused = λ a b. t.refused (ap is_change told.1 ∙ a) (ap is_quiet told.1 ∙ b) ∙ told.2;
      change = λ a. c.made_by.ensures.changing (ap is_change told.1 ∙ a);
      no_change = λ a. c.made_by.ensures.staying (ap is_change told.1 ∙ a);
    }
