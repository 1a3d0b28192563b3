-- The events of a script are one list.
use Rattle.std.specs.Prelude.{◌≡◌, ℕ, ◌<◌, List, [], ◌∷◌, ◌++◌, Bool, true, false, length, refl}
use Rattle.std.proofs.Common.{sym, ◌∙◌, ap, subst, arith, inl, inr, length-append, append-nil, append_assoc}
use Rattle.std.proofs.lemmas.Bool.{cases_lt}
use Rattle.map_model.specs.declared.plans.Plan.{Plan}
use Rattle.map_model.specs.declared.plans.Item.{Item}
use Rattle.map_model.specs.declared.plans.Item.TheVariants.{Verbs, Call}
use Rattle.verb_core.specs.Play.{Play, Event, Turn}
use Rattle.world_texts.specs.Sorts.{Kind}
use Rattle.verb_core.specs.One.{Same, OneRun}
use Rattle.verb_core.specs.Drawn.{Alike}
use Rattle.verb_core.proofs.Draws.{alike_front, alike_left, alike_last, alike_rest, alike_sym}
use Rattle.verb_core.specs.Schedules.{IsIdle, Goes, goes_none, goes_more, Finishes, finishes_idle, finishes_answered, DoesItem, DoesItems, items_none, items_more, Calls, calls_none, calls_more, Tail, tail_none, tail_more}
use Rattle.verb_core.proofs.One.{turn_one}
use Rattle.verb_core.proofs.OneRun.{idle_no_turn, same_sym, finishes_one, does_one}

-- verbs of one client
data Only {M : Type 0} (kind : Kind M) (w : Play M) (c : ℕ) : List Event → Play M → Type 0 where
  only_none : Only kind w c [] w
  only_more : {es : List Event} {u v : Play M} (e : Event) (a : Bool) → Only kind w c es u → Turn kind u c e a v → Only kind w c (es ++ e ∷ []) v

goes_only : {M : Type 0} (kind : Kind M) (w : Play M) (c : ℕ) (v : Play M) (es : List Event) → Goes kind w c es v → Only kind w c es v
goes_only {M} kind w c v es goes_none = only_none
goes_only {M} kind w c v es2 (goes_more {es = es} {u = u} e g t) = only_more e false (goes_only kind w c u es g) t

finishes_only : {M : Type 0} (kind : Kind M) (w : Play M) (c : ℕ) (v : Play M) (es : List Event) → Finishes kind w c es v → Only kind w c es v
finishes_only {M} kind w c v es (finishes_idle g i) = goes_only kind w c v es g
finishes_only {M} kind w c v es2 (finishes_answered {es = es} {u = u} e g t) = only_more e true (goes_only kind w c u es g) t

only_then : {M : Type 0} (kind : Kind M) (w : Play M) (c : ℕ) (u : Play M) (es : List Event) → Only kind w c es u → (v : Play M) (fs : List Event) → Only kind u c fs v → Only kind w c (es ++ fs) v
only_then {M} kind w c u es h v fs only_none = subst (λ xs. Only kind w c xs u) (sym (append-nil es)) h
only_then {M} kind w c u es h v fs2 (only_more {es = fs} {u = x} e a o t) = subst (λ xs. Only kind w c xs v) (append_assoc es fs (e ∷ [])) (only_more e a (only_then kind w c u es h x fs o) t)

calls_only : {M : Type 0} (kind : Kind M) (w : Play M) (c : ℕ) (v : Play M) (es : List Event) → Calls kind w c es v → Only kind w c es v
calls_only {M} kind w c v es calls_none = only_none
calls_only {M} kind w c v es2 (calls_more {es = es} {fs = fs} {u = u} d f) = only_then kind w c u es (calls_only kind w c u es d) v fs (finishes_only kind u c v fs f)

only_same : {M : Type 0} (kind : Kind M) (c : ℕ) (w x : Play M) → Same kind w x → (v y : Play M) (es fs : List Event) → Only kind w c es v → Only kind x c fs y → length es ≡ length fs → Alike es fs → (es ≡ fs) × Same kind v y
only_same {M} kind c w x h v y es fs only_none only_none n al = (refl, h)
only_same {M} kind c w x h v y es fs2 only_none (only_more {es = fs} f b g t) n al = absurd (let k = length-append fs (f ∷ []) in omega arith)
only_same {M} kind c w x h v y es2 fs (only_more {es = es} e a g t) only_none n al = absurd (let k = length-append es (e ∷ []) in omega arith)
only_same {M} kind c w x h v y es2 fs2 (only_more {es = es} {u = u} e a g t) (only_more {es = fs} {u = z} f b k s) n al =
    let l = length-append es (e ∷ []) in
    let m = length-append fs (f ∷ []) in
    let i = only_same kind c w x h u z es fs g k (omega arith) (alike_front es (e ∷ []) fs (f ∷ []) al) in
    let o = turn_one kind u z c e f a b v y i.1 (alike_last es [] fs [] e f (omega arith) al) t s in
    (ap (λ xs. xs ++ e ∷ []) i.0 ∙ ap (λ q. fs ++ q ∷ []) o.event, o.same)

record Front {M : Type 0} (kind : Kind M) (x : Play M) (c k : ℕ) (fs : List Event) : Type 0 where
  es : List Event
  at : Play M
  goes : Only kind x c es at
  count : length es ≡ k
  event : Event
  answered : Bool
  then : Play M
  turn : Turn kind at c event answered then
  more : List Event
  whole : fs ≡ es ++ event ∷ more

only_front : {M : Type 0} (kind : Kind M) (c : ℕ) (x y : Play M) (fs : List Event) (k : ℕ) → Only kind x c fs y → k < length fs → Front kind x c k fs
only_front {M} kind c x y fs k only_none n = absurd (omega arith)
only_front {M} kind c x y fs2 k (only_more {es = fs} {u = u} f b g t) n = elim (cases_lt k (length fs)) [
  | inl less ↦ let r = only_front kind c x u fs k g less in record { es = r.es; at = r.at; goes = r.goes; count = r.count; event = r.event; answered = r.answered; then = r.then; turn = r.turn; more = r.more ++ f ∷ []; whole = ap (λ xs. xs ++ f ∷ []) r.whole ∙ append_assoc r.es (r.event ∷ r.more) (f ∷ []) }
  | inr most ↦ let a = length-append fs (f ∷ []) in record { es = fs; at = u; goes = g; count = omega arith; event = f; answered = b; then = y; turn = t; more = []; whole = refl }
]

only_last : {M : Type 0} (kind : Kind M) (c : ℕ) (w x : Play M) → Same kind w x → (v y : Play M) (es fs : List Event) → Only kind w c es v → IsIdle v c → Only kind x c fs y → length es < length fs → Alike es fs → ⊥
only_last {M} kind c w x h v y es fs g i k n al =
    let r = only_front kind c x y fs (length es) k n in
    idle_no_turn kind v r.at c r.event r.answered r.then (only_same kind c w x h v r.at es r.es g r.goes (sym r.count) (alike_left es r.es (r.event ∷ r.more) (subst (Alike es) r.whole al))).1 i r.turn

calls_one : {M : Type 0} (kind : Kind M) (c : ℕ) (w x : Play M) → Same kind w x → (v y : Play M) (es fs : List Event) → Calls kind w c es v → IsIdle v c → Calls kind x c fs y → IsIdle y c → Alike es fs → (es ≡ fs) × Same kind v y
calls_one {M} kind c w x h v y es fs d i e j al =
    let g = calls_only kind w c v es d in
    let k = calls_only kind x c y fs e in
    elim (cases_lt (length es) (length fs)) [
      | inl less ↦ absurd (only_last kind c w x h v y es fs g i k less al)
      | inr most ↦ elim (cases_lt (length fs) (length es)) [
        | inl less ↦ absurd (only_last kind c x w (same_sym kind w x h) y v fs es k j g less (alike_sym es fs al))
        | inr least ↦ only_same kind c w x h v y es fs g k (omega arith) al
      ]
    ]

snoc_one : {X : Type 0} (xs ys : List X) (a b : X) → xs ++ a ∷ [] ≡ ys ++ b ∷ [] → (xs ≡ ys) × (a ≡ b)
snoc_one [] [] a b e = (refl, (cc))
snoc_one [] (y ∷ ys) a b e = absurd (let n = ap length e in let m = length-append ys (b ∷ []) in omega arith)
snoc_one (x ∷ xs) [] a b e = absurd (let n = ap length e in let m = length-append xs (a ∷ []) in omega arith)
snoc_one (x ∷ xs) (y ∷ ys) a b e = by (tail_of x y (xs ++ a ∷ []) (ys ++ b ∷ []) e) (snoc_one xs ys a b (tail_of x y (xs ++ a ∷ []) (ys ++ b ∷ []) e).1)
  where
    tail_of : {X : Type 0} (p q : X) (ps qs : List X) → p ∷ ps ≡ q ∷ qs → (p ≡ q) × (ps ≡ qs)
    tail_of p q ps qs h = ((cc), (cc))

    by : (x ≡ y) × (xs ++ a ∷ [] ≡ ys ++ b ∷ []) → (xs ≡ ys) × (a ≡ b) → (x ∷ xs ≡ y ∷ ys) × (a ≡ b)
    by h r = (ap (λ z. z ∷ xs) h.0 ∙ ap (λ zs. y ∷ zs) r.0, r.1)

item_one : {M : Type 0} (kind : Kind M) (item : Item) (w x : Play M) → Same kind w x → (v y : Play M) (es fs : List Event) → DoesItem kind w item es v → DoesItem kind x item fs y → Alike es fs → (es ≡ fs) × Same kind v y
item_one {M} kind (Verbs client count) w x h v y es fs d e al = does_one kind client w x h count v es d count y fs refl e al
item_one {M} kind (Call client) w x h v y es fs d e al = finishes_one kind client w x h v y es fs d e al

items_one : {M : Type 0} (kind : Kind M) (w x : Play M) → Same kind w x → (items : List Item) (v : Play M) (es : List Event) → DoesItems kind w items es v → (others : List Item) (y : Play M) (fs : List Event) → items ≡ others → DoesItems kind x others fs y → Alike es fs → (es ≡ fs) × Same kind v y
items_one {M} kind w x h items v es items_none others y fs e items_none al = (refl, h)
items_one {M} kind w x h items v es items_none others2 y fs2 e (items_more {items = others} {es = fs} {u = z} item gs y2 d i) al = absurd (let n = ap length e in let m = length-append others (item ∷ []) in omega arith)
items_one {M} kind w x h items2 v es2 (items_more {items = items} {es = es} {u = u} item gs v2 d i) others y fs e items_none al = absurd (let n = ap length e in let m = length-append items (item ∷ []) in omega arith)
items_one {M} kind w x h items2 v es2 (items_more {items = items} {es = es} {u = u} item gs v2 d i) others2 y fs2 e (items_more {items = others} {es = fs} {u = z} thing hs y2 q j) al =
    let k = snoc_one items others item thing e in
    let o = items_one kind w x h items u es d others z fs k.0 q (alike_front es gs fs hs al) in
    let r = item_one kind item u z o.1 v y gs hs i (subst (λ t. DoesItem kind z t hs y) (sym k.1) j) (alike_rest fs gs hs (subst (λ xs. Alike (xs ++ gs) (fs ++ hs)) o.0 al)) in
    (ap (λ xs. xs ++ gs) o.0 ∙ ap (λ xs. fs ++ xs) r.0, r.1)

tail_one : {M : Type 0} (kind : Kind M) (w x : Play M) → Same kind w x → (n : ℕ) (v : Play M) (es : List Event) → Tail kind w n es v → (k : ℕ) (y : Play M) (fs : List Event) → n ≡ k → Tail kind x k fs y → Alike es fs → (es ≡ fs) × Same kind v y
tail_one {M} kind w x h n v es tail_none k y fs e tail_none al = (refl, h)
tail_one {M} kind w x h n v es tail_none k y fs e (tail_more t d i) al = absurd (omega arith)
tail_one {M} kind w x h n v es (tail_more t d i) k y fs e tail_none al = absurd (omega arith)
tail_one {M} kind w x h n2 v es2 (tail_more {n = n} {es = es} {fs = gs} {u = u} t d i) k2 y fs2 e (tail_more {n = k} {es = fs} {fs = hs} {u = z} s q j) al =
    let same : n ≡ k = omega arith in
    let o = tail_one kind w x h n u es t k z fs same s (alike_front es gs fs hs al) in
    let r = calls_one kind n u z o.1 v y gs hs d i (subst (λ m. Calls kind z m hs y) (sym same) q) (subst (IsIdle y) (sym same) j) (alike_rest fs gs hs (subst (λ xs. Alike (xs ++ gs) (fs ++ hs)) o.0 al)) in
    (ap (λ xs. xs ++ gs) o.0 ∙ ap (λ xs. fs ++ xs) r.0, r.1)

pub one_run : {M : Type 0} (kind : Kind M) → OneRun kind
one_run {M} kind w x items es fs v y h p q al =
    let both : Alike (p.before ++ p.after) (q.before ++ q.after) = subst (λ xs. Alike (p.before ++ p.after) xs) q.all (subst (λ xs. Alike xs fs) p.all al) in
    let o = items_one kind w x h items p.between p.before p.scheduled items q.between q.before refl q.scheduled (alike_front p.before p.after q.before q.after both) in
    let r = tail_one kind p.between q.between o.1 (length p.between.plans) v p.after p.tail (length q.between.plans) y q.after (sym (ap (length {A = Plan}) o.1.plans)) q.tail (alike_rest q.before p.after q.after (subst (λ xs. Alike (xs ++ p.after) (q.before ++ q.after)) o.0 both)) in
    (p.all ∙ ap (λ xs. xs ++ p.after) o.0 ∙ ap (λ xs. q.before ++ xs) r.0 ∙ sym q.all, r.1)
