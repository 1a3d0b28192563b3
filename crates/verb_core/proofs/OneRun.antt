-- The events of a client up to an answer are one list.
use Rattle.std.specs.Prelude.{◌≡◌, ℕ, ◌<◌, List, [], ◌∷◌, ◌++◌, Bool, true, false, ◌||◌, ◌&&◌, nat_le, length, slice_get, Option, Some, None, is_none, option_map, refl}
use Rattle.std.proofs.Common.{sym, ◌∙◌, ap, subst, arith, inl, inr, length-append, append_assoc}
use Rattle.std.proofs.lemmas.Bool.{cases_lt}
use Rattle.key_hash.specs.Placing.{placed}
use Rattle.map_model.specs.declared.plans.Plan.{Plan}
use Rattle.verb_core.specs.declared.player.Open.{Open}
use Rattle.verb_core.specs.declared.player.Player.{Player}
use Rattle.verb_core.specs.Play.{Stage, stage, going_of, is_stopped, is_idle, Play, Event, Turn}
use Rattle.world_texts.specs.Sorts.{Kind}
use Rattle.verb_core.specs.One.{Same}
use Rattle.verb_core.specs.Drawn.{Alike}
use Rattle.verb_core.proofs.Draws.{alike_front, alike_left, alike_last, alike_sym}
use Rattle.race_laws.specs.Setting.{Setting}
use Rattle.verb_core.specs.Schedules.{IsIdle, Does, does_none, does_idle, does_verb, Goes, goes_none, goes_more, Finishes, finishes_idle, finishes_answered}
use Rattle.verb_core.proofs.One.{turn_one}

some_same : {X : Type 0} (a b : X) → Some a ≡ Some b → a ≡ b
some_same a b e = cc

-- whether a client is idle is a fact of its stage
idle_at : {M : Type 0} (kind : Kind M) → Plan → Stage kind.sort.Text → Bool
idle_at {M} kind plan st = is_stopped plan.stop st.verbs || (is_none st.going && nat_le (length plan.calls.items) st.answered)

idle_is : {M : Type 0} (kind : Kind M) (hash : List ℕ → ℕ) (plan : Plan) (p : Player M) → is_idle plan p ≡ idle_at kind plan (stage kind hash p)
unfolding idle_at
idle_is {M} kind hash plan p = by p.under_way refl
  where
    by : (u : Option (Open M)) → p.under_way ≡ u → is_idle plan p ≡ (is_stopped plan.stop p.verbs || (is_none (option_map (going_of kind hash) p.under_way) && nat_le (length plan.calls.items) p.answered))
    by None e = ap (λ (u : Option (Open M)). is_stopped plan.stop p.verbs || (is_none u && nat_le (length plan.calls.items) p.answered)) e ∙ sym (ap (λ (u : Option (Open M)). is_stopped plan.stop p.verbs || (is_none (option_map (going_of kind hash) u) && nat_le (length plan.calls.items) p.answered)) e)
    by (Some o) e = ap (λ (u : Option (Open M)). is_stopped plan.stop p.verbs || (is_none u && nat_le (length plan.calls.items) p.answered)) e ∙ sym (ap (λ (u : Option (Open M)). is_stopped plan.stop p.verbs || (is_none (option_map (going_of kind hash) u) && nat_le (length plan.calls.items) p.answered)) e)

-- an idle client has no turn
pub idle_no_turn : {M : Type 0} (kind : Kind M) (w x : Play M) (c : ℕ) (f : Event) (b : Bool) (y : Play M) → Same kind w x → IsIdle w c → Turn kind x c f b y → ⊥
idle_no_turn {M} kind w x c f b y h i t =
    let hash = placed w.setting.listed in
    let plan : i.plan ≡ t.plan = some_same i.plan t.plan (sym i.planned ∙ ap (λ (ps : List Plan). slice_get ps c) (sym h.plans) ∙ t.planned) in
    let st = h.stages c i.player t.player i.there t.there in
    let no : true ≡ false =
    sym i.idle ∙ idle_is kind hash i.plan i.player ∙ ap (λ (k : Plan). idle_at kind k (stage kind hash i.player)) plan ∙ ap (idle_at kind t.plan) (sym st) ∙ sym (idle_is kind hash t.plan t.player) ∙ t.active in
    absurd (cc)

same_idle : {M : Type 0} (kind : Kind M) (w x : Play M) (c : ℕ) (f : Event) (b : Bool) (y : Play M) → Same kind x w → IsIdle x c → Turn kind w c f b y → ⊥
same_idle {M} kind w x c f b y h i t = idle_no_turn kind x w c f b y h i t

-- as many verbs without an answer are the same verbs
goes_same : {M : Type 0} (kind : Kind M) (c : ℕ) (w x : Play M) → Same kind w x → (v y : Play M) (es fs : List Event) → Goes kind w c es v → Goes kind x c fs y → length es ≡ length fs → Alike es fs → (es ≡ fs) × Same kind v y
goes_same {M} kind c w x h v y es fs goes_none goes_none n al = (refl, h)
goes_same {M} kind c w x h v y es fs2 goes_none (goes_more {es = fs} f g t) n al = absurd (let k = length-append fs (f ∷ []) in omega arith)
goes_same {M} kind c w x h v y es2 fs (goes_more {es = es} e g t) goes_none n al = absurd (let k = length-append es (e ∷ []) in omega arith)
goes_same {M} kind c w x h v y es2 fs2 (goes_more {es = es} {u = u} e g t) (goes_more {es = fs} {u = z} f k s) n al =
    let a = length-append es (e ∷ []) in
    let b = length-append fs (f ∷ []) in
    let i = goes_same kind c w x h u z es fs g k (omega arith) (alike_front es (e ∷ []) fs (f ∷ []) al) in
    let o = turn_one kind u z c e f false false v y i.1 (alike_last es [] fs [] e f (omega arith) al) t s in
    (ap (λ xs. xs ++ e ∷ []) i.0 ∙ ap (λ q. fs ++ q ∷ []) o.event, o.same)

-- fewer of them are a beginning, and a turn without an answer follows
pub record Front {M : Type 0} (kind : Kind M) (x : Play M) (c k : ℕ) (fs : List Event) : Type 0 where
  pub es : List Event
  pub at : Play M
  pub goes : Goes kind x c es at
  pub count : length es ≡ k
  pub event : Event
  pub then : Play M
  pub turn : Turn kind at c event false then
  pub more : List Event
  pub whole : fs ≡ es ++ event ∷ more

goes_front : {M : Type 0} (kind : Kind M) (c : ℕ) (x y : Play M) (fs : List Event) (k : ℕ) → Goes kind x c fs y → k < length fs → Front kind x c k fs
goes_front {M} kind c x y fs k goes_none n = absurd (omega arith)
goes_front {M} kind c x y fs2 k (goes_more {es = fs} {u = u} f g t) n = elim (cases_lt k (length fs)) [
  | inl less ↦ let r = goes_front kind c x u fs k g less in record { es = r.es; at = r.at; goes = r.goes; count = r.count; event = r.event; then = r.then; turn = r.turn; more = r.more ++ f ∷ []; whole = ap (λ xs. xs ++ f ∷ []) r.whole ∙ append_assoc r.es (r.event ∷ r.more) (f ∷ []) }
  | inr most ↦ let a = length-append fs (f ∷ []) in record { es = fs; at = u; goes = g; count = omega arith; event = f; then = y; turn = t; more = []; whole = refl }
]

pub same_sym : {M : Type 0} (kind : Kind M) (w x : Play M) → Same kind w x → Same kind x w
same_sym {M} kind w x h = record {
  setting = sym h.setting;
  plans = sym h.plans;
  entries = sym h.entries;
  records = sym h.records;
  stages = λ c p q tp tq. sym (subst (λ (s : Setting). stage kind (placed s.listed) p ≡ stage kind (placed s.listed) q) (sym h.setting) (h.stages c q p tq tp));
}

-- a turn with an answer is none without one
not_both : {M : Type 0} (kind : Kind M) (w x : Play M) (c : ℕ) (e f : Event) (v y : Play M) → Same kind w x → e.choice ≡ f.choice → Turn kind w c e true v → Turn kind x c f false y → ⊥
not_both {M} kind w x c e f v y h ch t u = let no : true ≡ false = (turn_one kind w x c e f true false v y h ch t u).answered in absurd (cc)

-- where one is idle or answers, the other kind has not gone on
idle_last : {M : Type 0} (kind : Kind M) (c : ℕ) (w x : Play M) → Same kind w x → (v y : Play M) (es fs : List Event) → Goes kind w c es v → IsIdle v c → Goes kind x c fs y → length es < length fs → Alike es fs → ⊥
idle_last {M} kind c w x h v y es fs g i k n al =
    let r = goes_front kind c x y fs (length es) k n in
    idle_no_turn kind v r.at c r.event false r.then (goes_same kind c w x h v r.at es r.es g r.goes (sym r.count) (alike_left es r.es (r.event ∷ r.more) (subst (Alike es) r.whole al))).1 i r.turn

answer_last : {M : Type 0} (kind : Kind M) (c : ℕ) (w x : Play M) → Same kind w x → (u v y : Play M) (es fs : List Event) (e : Event) → Goes kind w c es u → Turn kind u c e true v → Goes kind x c fs y → length es < length fs → Alike (es ++ e ∷ []) fs → ⊥
answer_last {M} kind c w x h u v y es fs e g t k n al =
    let r = goes_front kind c x y fs (length es) k n in
    let al2 = subst (Alike (es ++ e ∷ [])) r.whole al in
    not_both kind u r.at c e r.event v r.then (goes_same kind c w x h u r.at es r.es g r.goes (sym r.count) (alike_front es (e ∷ []) r.es (r.event ∷ r.more) al2)).1 (alike_last es [] r.es r.more e r.event (sym r.count) al2) t r.turn

pub finishes_one : {M : Type 0} (kind : Kind M) (c : ℕ) (w x : Play M) → Same kind w x → (v y : Play M) (es fs : List Event) → Finishes kind w c es v → Finishes kind x c fs y → Alike es fs → (es ≡ fs) × Same kind v y
finishes_one {M} kind c w x h v y es fs (finishes_idle g i) (finishes_idle k j) al = elim (cases_lt (length es) (length fs)) [
  | inl less ↦ absurd (idle_last kind c w x h v y es fs g i k less al)
  | inr most ↦ elim (cases_lt (length fs) (length es)) [
    | inl less ↦ absurd (idle_last kind c x w (same_sym kind w x h) y v fs es k j g less (alike_sym es fs al))
    | inr least ↦ goes_same kind c w x h v y es fs g k (omega arith) al
  ]
]
finishes_one {M} kind c w x h v y es fs2 (finishes_idle g i) (finishes_answered {es = fs} {u = z} f k s) al = elim (cases_lt (length es) (length fs)) [
  | inl less ↦ absurd (idle_last kind c w x h v z es fs g i k less (alike_left es fs (f ∷ []) al))
  | inr most ↦ elim (cases_lt (length fs) (length es)) [
    | inl less ↦ absurd (answer_last kind c x w (same_sym kind w x h) z y v fs es f k s g less (alike_sym es (fs ++ f ∷ []) al))
    | inr least ↦ absurd (idle_no_turn kind v z c f true y (goes_same kind c w x h v z es fs g k (omega arith) (alike_left es fs (f ∷ []) al)).1 i s)
  ]
]
finishes_one {M} kind c w x h v y es2 fs (finishes_answered {es = es} {u = u} e g t) (finishes_idle k j) al = elim (cases_lt (length es) (length fs)) [
  | inl less ↦ absurd (answer_last kind c w x h u v y es fs e g t k less al)
  | inr most ↦ elim (cases_lt (length fs) (length es)) [
    | inl less ↦ absurd (idle_last kind c x w (same_sym kind w x h) y u fs es k j g less (alike_left fs es (e ∷ []) (alike_sym (es ++ e ∷ []) fs al)))
    | inr least ↦ absurd (idle_no_turn kind y u c e true v (same_sym kind u y (goes_same kind c w x h u y es fs g k (omega arith) (alike_sym fs es (alike_left fs es (e ∷ []) (alike_sym (es ++ e ∷ []) fs al)))).1) j t)
  ]
]
finishes_one {M} kind c w x h v y es2 fs2 (finishes_answered {es = es} {u = u} e g t) (finishes_answered {es = fs} {u = z} f k s) al = elim (cases_lt (length es) (length fs)) [
  | inl less ↦ absurd (answer_last kind c w x h u v z es fs e g t k less (alike_left (es ++ e ∷ []) fs (f ∷ []) al))
  | inr most ↦ elim (cases_lt (length fs) (length es)) [
    | inl less ↦ absurd (answer_last kind c x w (same_sym kind w x h) z y u fs es f k s g less (alike_left (fs ++ f ∷ []) es (e ∷ []) (alike_sym (es ++ e ∷ []) (fs ++ f ∷ []) al)))
    | inr least ↦
        let i = goes_same kind c w x h u z es fs g k (omega arith) (alike_front es (e ∷ []) fs (f ∷ []) al) in
        let o = turn_one kind u z c e f true true v y i.1 (alike_last es [] fs [] e f (omega arith) al) t s in
        (ap (λ xs. xs ++ e ∷ []) i.0 ∙ ap (λ q. fs ++ q ∷ []) o.event, o.same)
  ]
]

pub does_one : {M : Type 0} (kind : Kind M) (c : ℕ) (w x : Play M) → Same kind w x → (n : ℕ) (v : Play M) (es : List Event) → Does kind w c n es v → (k : ℕ) (y : Play M) (fs : List Event) → n ≡ k → Does kind x c k fs y → Alike es fs → (es ≡ fs) × Same kind v y
does_one {M} kind c w x h n v es does_none k y fs e does_none al = (refl, h)
does_one {M} kind c w x h n v es does_none k y fs e (does_idle d i) al = absurd (omega arith)
does_one {M} kind c w x h n v es does_none k y fs e (does_verb f b d t) al = absurd (omega arith)
does_one {M} kind c w x h n v es (does_idle d i) k y fs e does_none al = absurd (omega arith)
does_one {M} kind c w x h n2 v es (does_idle {n = n} d i) k2 y fs e (does_idle {n = k} q j) al = does_one kind c w x h n v es d k y fs (omega arith) q al
does_one {M} kind c w x h n2 v es (does_idle {n = n} d i) k2 y fs2 e (does_verb {n = k} {es = fs} {u = z} f b q s) al =
    let o = does_one kind c w x h n v es d k z fs (omega arith) q (alike_left es fs (f ∷ []) al) in
    absurd (idle_no_turn kind v z c f b y o.1 i s)
does_one {M} kind c w x h n v es (does_verb g a d t) k y fs e does_none al = absurd (omega arith)
does_one {M} kind c w x h n2 v es2 (does_verb {n = n} {es = es} {u = u} g a d t) k2 y fs e (does_idle {n = k} q j) al =
    let o = does_one kind c w x h n u es d k y fs (omega arith) q (alike_sym fs es (alike_left fs es (g ∷ []) (alike_sym (es ++ g ∷ []) fs al))) in
    absurd (idle_no_turn kind y u c g a v (same_sym kind u y o.1) j t)
does_one {M} kind c w x h n2 v es2 (does_verb {n = n} {es = es} {u = u} g a d t) k2 y fs2 e (does_verb {n = k} {es = fs} {u = z} f b q s) al =
    let o = does_one kind c w x h n u es d k z fs (omega arith) q (alike_front es (g ∷ []) fs (f ∷ []) al) in
    let r = turn_one kind u z c g f a b v y o.1 (alike_last es [] fs [] g f (ap (length {A = Event}) o.0) al) t s in
    (ap (λ xs. xs ++ g ∷ []) o.0 ∙ ap (λ p. fs ++ p ∷ []) r.event, r.same)
