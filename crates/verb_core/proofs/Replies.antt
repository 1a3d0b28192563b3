-- What a machine tells of its answer.
use Rattle.std.specs.Prelude.{◌≡◌, ◌||◌, Bool, true, false, Option, Some, None, IsSome, is_some, is_none, option_map, refl}
use Rattle.std.proofs.Common.{sym, ◌∙◌, ap}
use Rattle.verbs.specs.Programs.{Act, do_verb, ask_hash, verb_of, key_of}
use Rattle.call_texts.specs.State.{CallEnd}
use Rattle.call_machine.specs.declared.answer.Answer.{Answer}
use Rattle.call_machine.specs.Tasks.{answer_in}

-- where no act is left it has answered
pub acts_on : {A B : Type 0} (answer : Option A) (act : Option B) (b : Bool) → b ≡ is_some answer → b ≡ is_none act → answer ≡ None → IsSome act
acts_on answer (Some x) b e f n = refl
acts_on answer None b e f n = absurd (no (sym e ∙ f))
  where
    no : is_some answer ≡ true → ⊥
    no h = cc

same_some : {X : Type 0} (a b : X) → Some a ≡ Some b → a ≡ b
same_some a b e = cc

pub reply_in : (o : Option CallEnd) (a : Answer) (e : CallEnd) → Some a ≡ option_map answer_in o → o ≡ Some e → a.reply ≡ e.reply
reply_in o a e h is = ap (λ (x : Answer). x.reply) (same_some a (answer_in e) (h ∙ ap (λ (y : Option CallEnd). option_map answer_in y) is))

pub no_reply : (o : Option CallEnd) → None ≡ option_map answer_in o → IsSome o → ⊥
no_reply None h some = absurd (cc)
no_reply (Some e) h some = absurd (cc)

-- no hash is wanted where a verb is, or where no act is left
pub settled_by : (act : Option Act) (has_verb has_answered : Bool) → has_verb ≡ is_some (verb_of act) → has_answered ≡ is_none act → (has_verb || has_answered) ≡ is_none (key_of act)
settled_by None true b v a = absurd (cc)
settled_by None false b v a = a
settled_by (Some (do_verb block verb)) v b e a = ap (λ x. x || b) e
settled_by (Some (ask_hash key)) true b v a = absurd (cc)
settled_by (Some (ask_hash key)) false b v a = a
