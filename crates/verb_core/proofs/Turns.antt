-- What a turn does to its client.
use Rattle.std.specs.Prelude.{◌≡◌, ℕ, ◌+◌, ◌-◌, ◌<◌, Bool, true, false, List, length, slice_get, Option, Some, refl, take, ◌++◌, [], ◌∷◌, Result, Ok, Err, IfOk}
use Rattle.std.proofs.Common.{sym, ◌∙◌, ap, subst, arith, get_or}
use Rattle.std.proofs.lemmas.Option.{slice_get_within, slice_get-get_or}
use Rattle.verb_log.proofs.Positions.{take_get}
use Rattle.key_hash.specs.Placing.{placed}
use Rattle.map_model.specs.declared.plans.Plan.{Plan}
use Rattle.verb_core.specs.declared.player.Player.{Player}
use Rattle.call_texts.specs.State.{CallEnd}
use Rattle.world_texts.specs.Sorts.{Kind, onward}
use Rattle.verb_core.specs.Play.{Stage, stage, Play, Event, Turn, Adds}
use Rattle.verb_core.specs.Schedules.{calls_of, calls_in, IsIdle, Does, does_idle, does_verb}
use Rattle.std.specs.declared.alloc.AllocError.{AllocError}
use Rattle.verb_core.specs.declared.any_world.Stepped.{Stepped}
use Rattle.verb_core.specs.declared.any_world.Stepped.TheVariants.{Idle, Went, Answered}
use Rattle.verb_core.specs.Drawn.{Drawn}
use Rattle.verb_core.proofs.Draws.{drawn_then, drawn_left}
use Rattle.verb_core.proofs.Stages.{moved_done, moved_on, none_answer, an_answer}
use Rattle.verb_core.proofs.Worlds.{get_set_same}

next_there : {M : Type 0} (kind : Kind M) (w : Play M) (c : ℕ) (e : Event) (b : Bool) (v : Play M) (t : Turn kind w c e b v) → slice_get v.players c ≡ Some t.next
next_there {M} kind w c e b v t = ap (λ (xs : List (Player M)). slice_get xs c) t.players ∙ get_set_same w.players c t.next (slice_get_within w.players c t.player t.there)

calls_next : {M : Type 0} (kind : Kind M) (w : Play M) (c : ℕ) (e : Event) (b : Bool) (v : Play M) (t : Turn kind w c e b v) → calls_in v c ≡ length t.plan.calls.items - t.next.answered
calls_next {M} kind w c e b v t =
    ap (λ (o : Option (Player M)). calls_of (slice_get v.plans c) o) (next_there kind w c e b v t)
    ∙ ap (λ (xs : List Plan). calls_of (slice_get xs c) (Some t.next)) t.plans
    ∙ ap (λ (o : Option Plan). calls_of o (Some t.next)) t.planned

calls_now : {M : Type 0} (kind : Kind M) (w : Play M) (c : ℕ) (e : Event) (b : Bool) (v : Play M) (t : Turn kind w c e b v) → calls_in w c ≡ length t.plan.calls.items - t.player.answered
calls_now {M} kind w c e b v t = ap (λ (o : Option (Player M)). calls_of (slice_get w.plans c) o) t.there ∙ ap (λ (o : Option Plan). calls_of o (Some t.player)) t.planned

-- a verb without an answer leaves as many calls
pub calls_on : {M : Type 0} (kind : Kind M) (w : Play M) (c : ℕ) (e : Event) (v : Play M) → Turn kind w c e false v → calls_in v c ≡ calls_in w c
calls_on {M} kind w c e v t =
    let hash = placed w.setting.listed in
    let none = none_answer (kind.sort.answer (onward kind.sort hash t.going.left e.choice e.answer)) t.tells in
    let same : t.next.answered ≡ t.player.answered = ap (λ (x : Stage kind.sort.Text). x.answered) (t.moves ∙ moved_on kind (stage kind hash t.player) t.going (onward kind.sort hash t.going.left e.choice e.answer) none) in
    calls_next kind w c e false v t ∙ ap (λ (n : ℕ). length t.plan.calls.items - n) same ∙ sym (calls_now kind w c e false v t)

-- and one with an answer leaves fewer
pub calls_done : {M : Type 0} (kind : Kind M) (w : Play M) (c : ℕ) (e : Event) (v : Play M) → Turn kind w c e true v → calls_in v c < calls_in w c
calls_done {M} kind w c e v t =
    let hash = placed w.setting.listed in
    let some = an_answer (kind.sort.answer (onward kind.sort hash t.going.left e.choice e.answer)) t.tells in
    let more : t.next.answered ≡ t.player.answered + 1 = ap (λ (x : Stage kind.sort.Text). x.answered) (t.moves ∙ moved_done kind (stage kind hash t.player) t.going (onward kind.sort hash t.going.left e.choice e.answer) some.0 some.1) in
    let told = subst (λ (o : Option CallEnd). Adds w.setting c t.player.answered t.going.lo t.plan.calls.items w.entries v.entries o w.records v.records) some.1 t.records in
    let within = slice_get_within t.plan.calls.items t.player.answered told.0.call told.2.call in
    let a = calls_next kind w c e true v t in
    let b = calls_now kind w c e true v t in
    omega arith

pub less_than : (a b d : ℕ) → a < b → b ≡ d → a < d
less_than a b d h e = omega arith

-- what an Ok says may be weakened
pub IfOk_weaker : {A E : Type 0} (r : Result A E) (P Q : A → Type 0) → ((x : A) → P x → Q x) → IfOk r P → IfOk r Q
IfOk_weaker (Ok x) P Q f h = f x h
IfOk_weaker (Err e) P Q f h = h

pub take_next : {X : Type 0} (xs : List X) (n : ℕ) (d : X) → n < length xs → take (n + 1) xs ≡ take n xs ++ get_or xs n d ∷ []
take_next xs n d low = take_get xs n (get_or xs n d) (slice_get-get_or xs n d low)

-- one more of the verbs that a client is to do
pub does_more : {M : Type 0} (kind : Kind M) (a b next : ℕ → ℕ) (w u v : Play M) (c n : ℕ) (k : Stepped) → (◌≡◌ {A = Result Stepped AllocError} (Ok k) (Ok Idle) → IsIdle u c × (v ≡ u) × Drawn b [] next) → (◌≡◌ {A = Result Stepped AllocError} (Ok k) (Ok Went) → (e : Event) × Turn kind u c e false v × Drawn b (e ∷ []) next)
    → (◌≡◌ {A = Result Stepped AllocError} (Ok k) (Ok Answered) → (e : Event) × Turn kind u c e true v × Drawn b (e ∷ []) next) → (es : List Event) × Does kind w c n es u × Drawn a es b → (es : List Event) × Does kind w c (n + 1) es v × Drawn a es next
does_more {M} kind a b next w u v c n Idle idle went answered d =
    let i = idle refl in
    (d.0, does_idle (subst (λ (x : Play M). Does kind w c n d.0 x) (sym i.1) d.1) (subst (λ (x : Play M). IsIdle x c) (sym i.1) i.0), drawn_left a d.0 b next d.2 i.2)
does_more {M} kind a b next w u v c n Went idle went answered d = let t = went refl in (d.0 ++ t.0 ∷ [], does_verb t.0 false d.1 t.1, drawn_then a d.0 b (t.0 ∷ []) next d.2 t.2)
does_more {M} kind a b next w u v c n Answered idle went answered d = let t = answered refl in (d.0 ++ t.0 ∷ [], does_verb t.0 true d.1 t.1, drawn_then a d.0 b (t.0 ∷ []) next d.2 t.2)
