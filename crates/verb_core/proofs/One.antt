-- A turn is determined by what a clause may say of the play before it.
use Rattle.std.specs.Prelude.{◌≡◌, ℕ, List, [], ◌∷◌, ◌++◌, Bool, true, false, length, slice_get, slice_set, Option, Some, None, is_some, refl}
use Rattle.std.proofs.Common.{sym, ◌∙◌, ap, subst, arith, inl, inr}
use Rattle.std.proofs.lemmas.Bool.{cases_eq, cases_lt}
use Rattle.node_words.specs.declared.geometry.Geometry.{Geometry}
use Rattle.map_model.specs.declared.calls.Call.{Call}
use Rattle.map_model.specs.declared.calls.Reply.{Reply}
use Rattle.kv_block.specs.declared.changes.Change.{Change}
use Rattle.map_model.specs.Moments.{IsFirst}
use Rattle.std.proofs.lemmas.Option.{slice_get_within}
use Rattle.key_hash.specs.Placing.{placed}
use Rattle.map_model.specs.declared.plans.Plan.{Plan}
use Rattle.map_model.specs.declared.records.Record.{Record}
use Rattle.map_model.specs.Machine.{is_change, is_quiet}
use Rattle.race_laws.specs.Setting.{Setting}
use Rattle.verb_core.specs.declared.player.Player.{Player}
use Rattle.call_texts.specs.State.{CallEnd}
use Rattle.world_texts.specs.Sorts.{Kind, chosen, onward}
use Rattle.log_facts.specs.Among.{changes_of}
use Rattle.verb_core.specs.Play.{Going, Stage, stage, ready, moved_to, Tells, Adds, Play, Event, Turn}
use Rattle.verb_core.specs.One.{Same}
use Rattle.verb_core.proofs.Worlds.{get_set_same, get_set_other}
use Rattle.verb_log.specs.declared.entry.Verb.{Verb}
use Rattle.verb_log.specs.declared.entry.Verb.TheVariants.{Read, Write, Swap}
use Rattle.verbs.specs.Logs.{Entries, word, Did}

-- a verb of a client on a log answers one thing and leaves one log
pub did_one : (g : Geometry) (c : ℕ) (l m n : Entries) (v : Verb) (a b : ℕ) → Did g c l v m a → Did g c l v n b → (m ≡ n) × (a ≡ b)
did_one g c l m n (Read at) a b h k = (h.0 ∙ sym k.0, h.1 ∙ sym k.1)
did_one g c l m n (Write at new) a b h k = (h.0 ∙ sym k.0, h.1 ∙ sym k.1)
did_one g c l m n (Swap at old new) a b h k = (
  elim (cases_eq (word g l at) old) [ inl e ↦ h.1 e ∙ sym (k.1 e) | inr o ↦ h.2 o ∙ sym (k.2 o) ],
  h.0 ∙ sym k.0,
)

-- the least moment is one
pub first_one : (C : List Change) (lo : ℕ) (call : Call) (reply : Reply) (p q : ℕ) → IsFirst C lo call reply p → IsFirst C lo call reply q → p ≡ q
first_one C lo call reply p q h k = elim (cases_lt p q) [
  | inl less ↦ let a = k.upto in absurd (k.earlier p h.from less (h.gives (omega arith)))
  | inr most ↦ elim (cases_lt q p) [
    | inl less ↦ let a = h.upto in absurd (h.earlier q k.from less (k.gives (omega arith)))
    | inr least ↦ omega arith
  ]
]

some_same : {X : Type 0} (a b : X) → Some a ≡ Some b → a ≡ b
some_same a b e = cc

event_one : (e f : Event) → e.client ≡ f.client → e.choice ≡ f.choice → e.verb ≡ f.verb → e.answer ≡ f.answer → e ≡ f
event_one e f a n b d =
    ap (λ x. let r : Event = record { client = x; choice = e.choice; verb = e.verb; answer = e.answer } in r) a
    ∙ ap (λ x. let r : Event = record { client = f.client; choice = x; verb = e.verb; answer = e.answer } in r) n
    ∙ ap (λ x. let r : Event = record { client = f.client; choice = f.choice; verb = x; answer = e.answer } in r) b
    ∙ ap (λ x. let r : Event = record { client = f.client; choice = f.choice; verb = f.verb; answer = x } in r) d

record_one : (r x : Record) → r.client ≡ x.client → r.number ≡ x.number → r.call ≡ x.call → r.reply ≡ x.reply → r.lo ≡ x.lo → r.hi ≡ x.hi → r.point ≡ x.point → r ≡ x
record_one r x a b d e f g h =
    ap (λ y. let z : Record = record { client = y; number = r.number; call = r.call; reply = r.reply; lo = r.lo; hi = r.hi; point = r.point } in z) a
    ∙ ap (λ y. let z : Record = record { client = x.client; number = y; call = r.call; reply = r.reply; lo = r.lo; hi = r.hi; point = r.point } in z) b
    ∙ ap (λ y. let z : Record = record { client = x.client; number = x.number; call = y; reply = r.reply; lo = r.lo; hi = r.hi; point = r.point } in z) d
    ∙ ap (λ y. let z : Record = record { client = x.client; number = x.number; call = x.call; reply = y; lo = r.lo; hi = r.hi; point = r.point } in z) e
    ∙ ap (λ y. let z : Record = record { client = x.client; number = x.number; call = x.call; reply = x.reply; lo = y; hi = r.hi; point = r.point } in z) f
    ∙ ap (λ y. let z : Record = record { client = x.client; number = x.number; call = x.call; reply = x.reply; lo = x.lo; hi = y; point = r.point } in z) g
    ∙ ap (λ y. let z : Record = record { client = x.client; number = x.number; call = x.call; reply = x.reply; lo = x.lo; hi = x.hi; point = y } in z) h

tells_one : (s : Setting) (c answered began : ℕ) (calls : List Call) (m l : Entries) (d : CallEnd) (r x : Record) → Tells s c answered began calls m l d r → Tells s c answered began calls m l d x → r ≡ x
tells_one s c answered began calls m l d r x h k =
    let call = some_same r.call x.call (sym h.call ∙ k.call) in
    let reply = h.reply ∙ sym k.reply in
    let lo = h.lo ∙ sym k.lo in
    record_one r x (h.client ∙ sym k.client) (h.number ∙ sym k.number) call reply lo (h.hi ∙ sym k.hi) (by call reply lo (is_change r.reply) refl (is_quiet r.reply) refl)
  where
    by : r.call ≡ x.call → r.reply ≡ x.reply → r.lo ≡ x.lo → (b : Bool) → is_change r.reply ≡ b → (q : Bool) → is_quiet r.reply ≡ q → r.point ≡ x.point
    by call reply lo true e q f = h.changing e ∙ sym (k.changing (ap is_change (sym reply) ∙ e))
    by call reply lo false e true f =
        first_one (changes_of s l) r.lo r.call r.reply r.point x.point (h.quiet f)
        (subst (λ y. IsFirst (changes_of s l) r.lo r.call y x.point) (sym reply) (subst (λ y. IsFirst (changes_of s l) r.lo y x.reply x.point) (sym call) (subst (λ y. IsFirst (changes_of s l) y x.call x.reply x.point) (sym lo) (k.quiet (ap is_quiet (sym reply) ∙ f)))))
    by call reply lo false e false f = h.refused e f ∙ lo ∙ sym (k.refused (ap is_change (sym reply) ∙ e) (ap is_quiet (sym reply) ∙ f))

adds_one : (s : Setting) (c answered began : ℕ) (calls : List Call) (m l : Entries) (o : Option CallEnd) (before next after : List Record) → Adds s c answered began calls m l o before next → Adds s c answered began calls m l o before after → next ≡ after
adds_one s c answered began calls m l None before next after h k = h ∙ sym k
adds_one s c answered began calls m l (Some d) before next after h k = h.1 ∙ ap (λ (r : Record). before ++ r ∷ []) (tells_one s c answered began calls m l d h.0 k.0 h.2 k.2) ∙ sym k.1

pub record OneTurn {M : Type 0} (kind : Kind M) (e f : Event) (a b : Bool) (v y : Play M) : Type 0 where
  pub event : e ≡ f
  pub answered : a ≡ b
  pub same : Same kind v y

-- from one base
turn_base : {M : Type 0} (kind : Kind M) (w : Play M) (players : List (Player M)) (c : ℕ) (e f : Event) (a b : Bool) (v y : Play M) → ((i : ℕ) (p q : Player M) → slice_get w.players i ≡ Some p → slice_get players i ≡ Some q → stage kind (placed w.setting.listed) q ≡ stage kind (placed w.setting.listed) p)
    → e.choice ≡ f.choice → Turn kind w c e a v → Turn kind (record { setting = w.setting; plans = w.plans; entries = w.entries; players = players; records = w.records }) c f b y → OneTurn kind e f a b v y
turn_base {M} kind w players c e f a b v y stages ch t u =
    let hash = placed w.setting.listed in
    let n = length (changes_of w.setting w.entries) in
    let plan : t.plan ≡ u.plan = some_same t.plan u.plan (sym t.planned ∙ u.planned) in
    let st : stage kind hash t.player ≡ stage kind hash u.player = sym (stages c t.player u.player t.there u.there) in
    let going : t.going ≡ u.going = some_same t.going u.going (sym t.begins ∙ ap (λ (x : Stage kind.sort.Text). ready kind hash n t.plan.calls.items x) st ∙ ap (λ (x : Plan). ready kind hash n x.calls.items (stage kind hash u.player)) plan ∙ u.begins) in
    let verb : e.verb ≡ f.verb = some_same e.verb f.verb (sym t.asks ∙ ap (λ (x : Going kind.sort.Text). chosen (kind.sort.outstanding x.left) e.choice) going ∙ ap (chosen (kind.sort.outstanding u.going.left)) ch ∙ u.asks) in
    let did = did_one w.setting.geometry c w.entries v.entries y.entries e.verb e.answer f.answer t.did (subst (λ x. Did w.setting.geometry c w.entries x y.entries f.answer) (sym verb) u.did) in
    let left : onward kind.sort hash t.going.left e.choice e.answer ≡ onward kind.sort hash u.going.left f.choice f.answer = ap (λ (x : Going kind.sort.Text). onward kind.sort hash x.left e.choice e.answer) going ∙ ap (λ n. onward kind.sort hash u.going.left n e.answer) ch ∙ ap (onward kind.sort hash u.going.left f.choice) did.1 in
    let next : stage kind hash u.next ≡ stage kind hash t.next =
    u.moves ∙ sym (t.moves ∙ ap (λ (x : Stage kind.sort.Text). moved_to kind x t.going (onward kind.sort hash t.going.left e.choice e.answer)) st ∙ ap (λ (x : Going kind.sort.Text). moved_to kind (stage kind hash u.player) x (onward kind.sort hash t.going.left e.choice e.answer)) going ∙ ap (moved_to kind (stage kind hash u.player) u.going) left) in
    let answered : t.player.answered ≡ u.player.answered = ap (λ (x : Stage kind.sort.Text). x.answered) st in
    let added =
    subst (λ x. Adds w.setting c t.player.answered t.going.lo t.plan.calls.items w.entries x (kind.sort.answer (onward kind.sort hash t.going.left e.choice e.answer)) w.records y.records) (sym did.0)
    (subst (λ (x : kind.sort.Text). Adds w.setting c t.player.answered t.going.lo t.plan.calls.items w.entries y.entries (kind.sort.answer x) w.records y.records) (sym left)
    (subst (λ (x : Plan). Adds w.setting c t.player.answered t.going.lo x.calls.items w.entries y.entries (kind.sort.answer (onward kind.sort hash u.going.left f.choice f.answer)) w.records y.records) (sym plan)
    (subst (λ (x : Going kind.sort.Text). Adds w.setting c t.player.answered x.lo u.plan.calls.items w.entries y.entries (kind.sort.answer (onward kind.sort hash u.going.left f.choice f.answer)) w.records y.records) (sym going)
    (subst (λ k. Adds w.setting c k u.going.lo u.plan.calls.items w.entries y.entries (kind.sort.answer (onward kind.sort hash u.going.left f.choice f.answer)) w.records y.records) (sym answered) u.records)))) in
    let low = slice_get_within w.players c t.player t.there in
    let low2 = slice_get_within players c u.player u.there in
    record {
      event = event_one e f (t.client ∙ sym u.client) ch verb did.1;
      answered = t.tells ∙ ap (λ (x : kind.sort.Text). is_some (kind.sort.answer x)) left ∙ sym u.tells;
      same = record {
        setting = u.setting ∙ sym t.setting;
        plans = u.plans ∙ sym t.plans;
        entries = sym did.0;
        records = sym (adds_one w.setting c t.player.answered t.going.lo t.plan.calls.items w.entries v.entries (kind.sort.answer (onward kind.sort hash t.going.left e.choice e.answer)) w.records v.records y.records t.records added);
        stages = λ i p q th tq. subst (λ (s : Setting). stage kind (placed s.listed) q ≡ stage kind (placed s.listed) p) (sym t.setting) (elim (cases_eq i c) [
          | inl is ↦
              let is_p : t.next ≡ p = some_same t.next p (sym (get_set_same w.players c t.next low) ∙ ap (slice_get (slice_set w.players c t.next)) (sym is) ∙ ap (λ (xs : List (Player M)). slice_get xs i) (sym t.players) ∙ th) in
              let is_q : u.next ≡ q = some_same u.next q (sym (get_set_same players c u.next low2) ∙ ap (slice_get (slice_set players c u.next)) (sym is) ∙ ap (λ (xs : List (Player M)). slice_get xs i) (sym u.players) ∙ tq) in
              ap (stage kind hash) (sym is_q) ∙ next ∙ ap (stage kind hash) is_p
          | inr other ↦
              stages i p q (sym (get_set_other w.players c i t.next other) ∙ ap (λ (xs : List (Player M)). slice_get xs i) (sym t.players) ∙ th) (sym (get_set_other players c i u.next other) ∙ ap (λ (xs : List (Player M)). slice_get xs i) (sym u.players) ∙ tq)
        ]);
      };
    }

play_base : {M : Type 0} (kind : Kind M) (w x : Play M) → Same kind w x → x ≡ record { setting = w.setting; plans = w.plans; entries = w.entries; players = x.players; records = w.records }
play_base {M} kind w x h =
    ap (λ k. let r : Play M = record { setting = k; plans = x.plans; entries = x.entries; players = x.players; records = x.records } in r) h.setting
    ∙ ap (λ k. let r : Play M = record { setting = w.setting; plans = k; entries = x.entries; players = x.players; records = x.records } in r) h.plans
    ∙ ap (λ k. let r : Play M = record { setting = w.setting; plans = w.plans; entries = k; players = x.players; records = x.records } in r) h.entries
    ∙ ap (λ k. let r : Play M = record { setting = w.setting; plans = w.plans; entries = w.entries; players = x.players; records = k } in r) h.records

-- a turn of a client is one
pub turn_one : {M : Type 0} (kind : Kind M) (w x : Play M) (c : ℕ) (e f : Event) (a b : Bool) (v y : Play M) → Same kind w x → e.choice ≡ f.choice → Turn kind w c e a v → Turn kind x c f b y → OneTurn kind e f a b v y
turn_one {M} kind w x c e f a b v y h ch t u = turn_base kind w x.players c e f a b v y h.stages ch t (subst (λ (k : Play M). Turn kind k c f b y) (play_base kind w x h) u)
