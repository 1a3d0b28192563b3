-- Each client's events are the traces of its calls, in order.
use Rattle.std.specs.Prelude.{◌≡◌, ◌≢◌, ℕ, List, [], ◌∷◌, ◌++◌, Bool, true, false, filter, length, slice_get, slice_set, Option, Some, None, refl, Result, Ok, Err, OnErr}
use Rattle.std.proofs.Common.{sym, ◌∙◌, ap, subst, arith, inl, inr, cond, eqb, append-nil, append_assoc}
use Rattle.std.proofs.lemmas.Bool.{cases_eq}
use Rattle.std.proofs.lemmas.Bool.Decides.{nat_tests}
use Rattle.std.proofs.lemmas.Option.{slice_get_within}
use Rattle.std.proofs.lemmas.List.Elements.{filter-append}
use Rattle.key_hash.specs.Placing.{placed}
use Rattle.map_model.specs.declared.calls.Call.{Call as Asked}
use Rattle.map_model.specs.declared.plans.Plan.{Plan}
use Rattle.race_laws.specs.Setting.{Setting}
use Rattle.verb_core.specs.declared.player.Player.{Player}
use Rattle.call_texts.specs.State.{State, CallEnd}
use Rattle.call_machine.specs.Fresh.{fresh_state}
use Rattle.world_texts.specs.Sorts.{Kind, chosen, onward}
use Rattle.log_facts.specs.Among.{changes_of}
use Rattle.verb_core.specs.Play.{Going, Stage, stage, or_next, ready, moved_to, AreFresh, Play, Event}
use Rattle.map_model.specs.declared.plans.Item.{Item}
use Rattle.map_model.specs.declared.plans.Item.TheVariants.{Verbs, Call}
use Rattle.verb_core.specs.Schedules.{Does, does_none, does_idle, does_verb, Goes, goes_none, goes_more, Finishes, finishes_idle, finishes_answered, DoesItem, DoesItems, items_none, items_more, Calls, calls_none, calls_more, Tail, tail_none, tail_more, Plays}
use Rattle.verb_core.specs.Traces.{ClientTraces, Turns, turns_none, turns_more, events_of, RanCall, ran_none, ran_more, answered_none, answered_more, Opened, Lived}
use Rattle.verb_core.proofs.Stages.{moved_done, moved_on}
use Rattle.verb_core.proofs.Worlds.{get_set_same, get_set_other}

some_same : {X : Type 0} (a b : X) → Some a ≡ Some b → a ≡ b
some_same a b e = cc

-- the call that a client goes on with, or begins
readied : {M : Type 0} (kind : Kind M) (hash : List ℕ → ℕ) (count : ℕ) (calls : List Asked) (st : Stage kind.sort.Text) (going : Going kind.sort.Text) (t : List Event) → ready kind hash count calls st ≡ Some going → Opened kind hash calls st.answered st.state st.going t → (call : Asked) × (slice_get calls st.answered ≡ Some call) × RanCall kind hash (kind.sort.begun hash st.state call) t going.left
readied {M} kind hash count calls st going t e o = by st.going refl o (slice_get calls st.answered) refl
  where
    by : (g : Option (Going kind.sort.Text)) → st.going ≡ g → Opened kind hash calls st.answered st.state g t → (k : Option Asked) → slice_get calls st.answered ≡ k → (call : Asked) × (slice_get calls st.answered ≡ Some call) × RanCall kind hash (kind.sort.begun hash st.state call) t going.left
    by (Some g) n h k m = let same : g ≡ going = some_same g going (subst (λ x. or_next kind hash count st.state x (slice_get calls st.answered) ≡ Some going) n e) in subst (λ (x : Going kind.sort.Text). (call : Asked) × (slice_get calls st.answered ≡ Some call) × RanCall kind hash (kind.sort.begun hash st.state call) t x.left) same h
    by None n h None m = let no : None ≡ Some going = subst (λ x. or_next kind hash count st.state None x ≡ Some going) m (subst (λ x. or_next kind hash count st.state x (slice_get calls st.answered) ≡ Some going) n e) in absurd (cc)
    by None n h (Some call) m =
        let is : record { left = kind.sort.begun hash st.state call; lo = count; verbs = 0 } ≡ going = some_same _ going (subst (λ x. or_next kind hash count st.state None x ≡ Some going) m (subst (λ x. or_next kind hash count st.state x (slice_get calls st.answered) ≡ Some going) n e)) in
        (call, m, subst (λ (x : Going kind.sort.Text). RanCall kind hash (kind.sort.begun hash st.state call) t x.left) is (subst (λ x. RanCall kind hash (kind.sort.begun hash st.state call) x (kind.sort.begun hash st.state call)) (sym h) ran_none))

-- one verb more of a client
lived_more : {M : Type 0} (kind : Kind M) (hash : List ℕ → ℕ) (count : ℕ) (calls : List Asked) (first : State) (trace : List Event) (st : Stage kind.sort.Text) (going : Going kind.sort.Text) (e0 : Event) → Lived kind hash calls first trace st → ready kind hash count calls st ≡ Some going → chosen (kind.sort.outstanding going.left) e0.choice ≡ Some e0.verb → Lived kind hash calls first (trace ++ e0 ∷ []) (moved_to kind st going (onward kind.sort hash going.left e0.choice e0.answer))
lived_more {M} kind hash count calls first trace st going e0 h e asks = by (kind.sort.answer (onward kind.sort hash going.left e0.choice e0.answer)) refl
  where
    by : (o : Option CallEnd) → kind.sort.answer (onward kind.sort hash going.left e0.choice e0.answer) ≡ o → Lived kind hash calls first (trace ++ e0 ∷ []) (moved_to kind st going (onward kind.sort hash going.left e0.choice e0.answer))
    by None n =
        let r = readied kind hash count calls st going h.open_part e h.opened in
        subst (Lived kind hash calls first (trace ++ e0 ∷ [])) (sym (moved_on kind st going (onward kind.sort hash going.left e0.choice e0.answer) n)) (record {
          before = h.before;
          open_part = h.open_part ++ e0 ∷ [];
          all = ap (λ xs. xs ++ e0 ∷ []) h.all ∙ append_assoc h.before h.open_part (e0 ∷ []);
          answered = h.answered;
          opened = (r.0, r.1, ran_more e0 r.2 asks);
        })
    by (Some d) n =
        let r = readied kind hash count calls st going h.open_part e h.opened in
        subst (Lived kind hash calls first (trace ++ e0 ∷ [])) (sym (moved_done kind st going (onward kind.sort hash going.left e0.choice e0.answer) d n)) (record {
          before = h.before ++ (h.open_part ++ e0 ∷ []);
          open_part = [];
          all = ap (λ xs. xs ++ e0 ∷ []) h.all ∙ append_assoc h.before h.open_part (e0 ∷ []) ∙ sym (append-nil _);
          answered = answered_more r.0 (h.open_part ++ e0 ∷ []) (onward kind.sort hash going.left e0.choice e0.answer) d h.answered r.1 (ran_more e0 r.2 asks) n;
          opened = refl;
        })

-- the verbs of a client with an event more
own_test : (a c : ℕ) → a ≡ c → eqb a c ≡ true
own_test a c e = grind (arith, nat_tests)

other_test : (a c i : ℕ) → a ≡ c → i ≢ c → eqb a i ≡ false
other_test a c i e n = grind (arith, nat_tests)

verbs_more : (t : Bool) (es : List Event) (e : Event) (i : ℕ) → eqb e.client i ≡ t → events_of i (es ++ e ∷ []) ≡ events_of i es ++ cond t (e ∷ []) []
verbs_more t es e i h =
    filter-append (λ (x : Event). eqb x.client i) es (e ∷ []) ∙ ap (λ (b : Bool). filter (λ (x : Event). eqb x.client i) es ++ cond b (e ∷ []) []) h

-- what is known of each client after any verbs
pub record AllLived {M : Type 0} (kind : Kind M) (tries : ℕ) (w : Play M) (es : List Event) (v : Play M) : Type 0 where
  pub setting : v.setting ≡ w.setting
  pub plans : v.plans ≡ w.plans
  pub lived : (i : ℕ) (plan : Plan) (p : Player M) → slice_get w.plans i ≡ Some plan → slice_get v.players i ≡ Some p → Lived kind (placed w.setting.listed) plan.calls.items (fresh_state w.setting.geometry i tries) (events_of i es) (stage kind (placed w.setting.listed) p)

pub all_lived : {M : Type 0} (kind : Kind M) (tries n : ℕ) (w : Play M) (es : List Event) (v : Play M) → AreFresh w.setting.geometry tries n w.players → Turns kind w es v → AllLived kind tries w es v
all_lived {M} kind tries n w es v f turns_none = record {
  setting = refl;
  plans = refl;
  lived = λ i plan p pl th. subst (λ x. Lived kind (placed w.setting.listed) plan.calls.items (fresh_state w.setting.geometry i tries) [] (stage kind (placed w.setting.listed) x)) (sym (f.each i p th))
      (record { before = []; open_part = []; all = refl; answered = answered_none; opened = refl });
}
all_lived {M} kind tries n w es2 v f (turns_more {es = es} {u = u} c e answered ts t) =
    let h = all_lived kind tries n w es u f ts in
    let hash = placed w.setting.listed in
    let low = slice_get_within u.players c t.player t.there in
    record {
      setting = t.setting ∙ h.setting;
      plans = t.plans ∙ h.plans;
      lived = λ i plan p pl th. elim (cases_eq i c) [
        | inl same ↦
            let is_next : t.next ≡ p = some_same t.next p (sym (get_set_same u.players c t.next low) ∙ ap (slice_get (slice_set u.players c t.next)) (sym same) ∙ ap (λ xs. slice_get xs i) (sym t.players) ∙ th) in
            let is_plan : plan ≡ t.plan = some_same plan t.plan (sym pl ∙ ap (slice_get w.plans) same ∙ ap (λ xs. slice_get xs c) (sym h.plans) ∙ t.planned) in
            let before = h.lived i plan t.player pl (ap (slice_get u.players) same ∙ t.there) in
            let begins = subst (λ (x : Plan). ready kind hash (length (changes_of u.setting u.entries)) x.calls.items (stage kind hash t.player) ≡ Some t.going) (sym is_plan) (subst (λ (s : Setting). ready kind (placed s.listed) (length (changes_of u.setting u.entries)) t.plan.calls.items (stage kind (placed s.listed) t.player) ≡ Some t.going) h.setting t.begins) in
            let moves = subst (λ (s : Setting). stage kind (placed s.listed) t.next ≡ moved_to kind (stage kind (placed s.listed) t.player) t.going (onward kind.sort (placed s.listed) t.going.left e.choice e.answer)) h.setting t.moves in
            subst (λ x. Lived kind hash plan.calls.items (fresh_state w.setting.geometry i tries) x (stage kind hash p)) (sym (verbs_more true es e i (own_test e.client i (t.client ∙ sym same))))
            (subst (λ x. Lived kind hash plan.calls.items (fresh_state w.setting.geometry i tries) (events_of i es ++ e ∷ []) (stage kind hash x)) is_next
            (subst (Lived kind hash plan.calls.items (fresh_state w.setting.geometry i tries) (events_of i es ++ e ∷ [])) (sym moves)
            (lived_more kind hash (length (changes_of u.setting u.entries)) plan.calls.items (fresh_state w.setting.geometry i tries) (events_of i es) (stage kind hash t.player) t.going e before begins t.asks)))
        | inr other ↦
            subst (λ x. Lived kind hash plan.calls.items (fresh_state w.setting.geometry i tries) x (stage kind hash p)) (sym (verbs_more false es e i (other_test e.client c i t.client other) ∙ append-nil (events_of i es)))
            (h.lived i plan p pl (sym (get_set_other u.players c i t.next other) ∙ ap (λ xs. slice_get xs i) (sym t.players) ∙ th))
      ];
    }

-- any verbs, and then any more
pub turns_then : {M : Type 0} (kind : Kind M) (w u v : Play M) (es fs : List Event) → Turns kind w es u → Turns kind u fs v → Turns kind w (es ++ fs) v
turns_then {M} kind w u v es fs h turns_none = subst (λ xs. Turns kind w xs u) (sym (append-nil es)) h
turns_then {M} kind w u v es fs2 h (turns_more {es = fs} {u = x} c e answered ts t) = subst (λ xs. Turns kind w xs v) (append_assoc es fs (e ∷ [])) (turns_more c e answered (turns_then kind w u x es fs h ts) t)

pub does_turns : {M : Type 0} (kind : Kind M) (w : Play M) (c : ℕ) (v : Play M) (n : ℕ) (es : List Event) → Does kind w c n es v → Turns kind w es v
does_turns {M} kind w c v n es does_none = turns_none
does_turns {M} kind w c v n es (does_idle d i) = does_turns kind w c v _ es d
does_turns {M} kind w c v n es2 (does_verb {es = es} {u = u} e answered d t) = turns_more c e answered (does_turns kind w c u _ es d) t

pub goes_turns : {M : Type 0} (kind : Kind M) (w : Play M) (c : ℕ) (v : Play M) (es : List Event) → Goes kind w c es v → Turns kind w es v
goes_turns {M} kind w c v es goes_none = turns_none
goes_turns {M} kind w c v es2 (goes_more {es = es} {u = u} e d t) = turns_more c e false (goes_turns kind w c u es d) t

pub finishes_turns : {M : Type 0} (kind : Kind M) (w : Play M) (c : ℕ) (v : Play M) (es : List Event) → Finishes kind w c es v → Turns kind w es v
finishes_turns {M} kind w c v es (finishes_idle d i) = goes_turns kind w c v es d
finishes_turns {M} kind w c v es2 (finishes_answered {es = es} {u = u} e d t) = turns_more c e true (goes_turns kind w c u es d) t

item_turns : {M : Type 0} (kind : Kind M) (w v : Play M) (item : Item) (es : List Event) → DoesItem kind w item es v → Turns kind w es v
item_turns {M} kind w v (Verbs client count) es d = does_turns kind w client v count es d
item_turns {M} kind w v (Call client) es d = finishes_turns kind w client v es d

pub items_turns : {M : Type 0} (kind : Kind M) (w v : Play M) (items : List Item) (es : List Event) → DoesItems kind w items es v → Turns kind w es v
items_turns {M} kind w v items es items_none = turns_none
items_turns {M} kind w v items2 es2 (items_more {items = items} {es = es} {u = u} item fs v2 d i) = turns_then kind w u v es fs (items_turns kind w u items es d) (item_turns kind u v item fs i)

pub calls_turns : {M : Type 0} (kind : Kind M) (w : Play M) (c : ℕ) (v : Play M) (es : List Event) → Calls kind w c es v → Turns kind w es v
calls_turns {M} kind w c v es calls_none = turns_none
calls_turns {M} kind w c v es2 (calls_more {es = es} {fs = fs} {u = u} d f) = turns_then kind w u v es fs (calls_turns kind w c u es d) (finishes_turns kind u c v fs f)

pub tail_turns : {M : Type 0} (kind : Kind M) (w v : Play M) (n : ℕ) (es : List Event) → Tail kind w n es v → Turns kind w es v
tail_turns {M} kind w v n es tail_none = turns_none
tail_turns {M} kind w v n2 es2 (tail_more {n = n} {es = es} {fs = fs} {u = u} d f i) = turns_then kind w u v es fs (tail_turns kind w u n es d) (calls_turns kind u n v fs f)

pub plays_turns : {M : Type 0} (kind : Kind M) (w v : Play M) (items : List Item) (es : List Event) → Plays kind w items es v → Turns kind w es v
plays_turns {M} kind w v items es p = subst (λ xs. Turns kind w xs v) (sym p.all) (turns_then kind w p.between v p.before p.after (items_turns kind w p.between items p.before p.scheduled) (tail_turns kind p.between v _ p.after p.tail))

pub client_traces : {M : Type 0} (kind : Kind M) → ClientTraces kind
client_traces {M} kind tries n w v es f ts i plan p pl th = (all_lived kind tries n w es v f ts).lived i plan p pl th

pub OnErr_weaker : {A E : Type 0} (r : Result A E) (P Q : Type 0) → (P → Q) → OnErr r P → OnErr r Q
OnErr_weaker (Ok x) P Q f h = h
OnErr_weaker (Err e) P Q f h = f h
