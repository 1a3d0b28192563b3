-- A verb of a client, as a world does it: what it keeps, and the turn that it is.
use Rattle.std.specs.Prelude.{◌≡◌, ℕ, ◌+◌, ◌<◌, ◌≤◌, Bool, true, false, List, [], ◌∷◌, ◌++◌, length, slice_get, slice_set, Option, Some, None, is_some, refl, option_map, if◌then◌else◌}
use Rattle.std.specs.Option.{option_to_list}
use Rattle.std.proofs.Common.{sym, ◌∙◌, ap, subst, arith, inl, inr}
use Rattle.std.proofs.lemmas.Bool.{cases_eq}
use Rattle.std.proofs.lemmas.Option.{slice_get_within}
use Rattle.node_words.specs.declared.geometry.Geometry.{Geometry}
use Rattle.std.proofs.lemmas.List.{length-set, length-append, append-nil}
use Rattle.key_hash.specs.Placing.{placed}
use Rattle.kv_block.specs.declared.changes.Change.{Change}
use Rattle.map_model.specs.declared.calls.Call.{Call}
use Rattle.map_model.specs.declared.calls.Reply.{Reply}
use Rattle.map_model.specs.declared.plans.Plan.{Plan}
use Rattle.map_model.proofs.Bridge.{quiet_no_change}
use Rattle.map_model.specs.declared.records.Record.{Record}
use Rattle.map_model.specs.Machine.{change_of, is_change, is_quiet}
use Rattle.map_model.specs.History.{IsFounded}
use Rattle.map_model.specs.Moments.{IsFirst}
use Rattle.verbs.specs.Logs.{Entries}
use Rattle.race_laws.specs.Setting.{Setting}
use Rattle.verb_core.specs.declared.player.Open.{Open}
use Rattle.verb_core.specs.declared.player.Player.{Player}
use Rattle.verb_core.specs.declared.player.Told.{Told}
use Rattle.call_texts.specs.State.{CallEnd}
use Rattle.whole_calls.specs.Right.{Right}
use Rattle.world_texts.specs.Sorts.{Kind, onward}
use Rattle.log_facts.specs.Among.{changes_of}
use Rattle.world_texts.specs.Safety.{EndsWell, AreSafe}
use Rattle.verb_core.specs.Play.{Going, going_of, or_next, is_idle, Tells, Adds, Event, Turn}
use Rattle.verb_core.specs.Schedules.{left_of}
use Rattle.verb_core.specs.Kept.{IsPlaying, IsKept}
use Rattle.verb_core.proofs.Stages.{Turned, none_answer}
use Rattle.world_texts.proofs.Steps.{Stepped, safe_step, safe_end, safe_on}
use Rattle.verb_core.proofs.Worlds.{IsWithinLimits, get_set_same, get_set_other, Current, current, own_on, own_done, other, other_told, founded_next, fewer_left}

-- what a world knows of a verb that its client did
pub record Verbed {M : Type 0} (kind : Kind M) (s : Setting) (plans : List Plan) (l m : Entries) (players : List (Player M)) (records : List Record) (timeline : List Change) (c : ℕ) (plan : Plan) (p next : Player M) (call : Call) (choice : ℕ) (answered : Bool) (going : Going kind.sort.Text) (word : ℕ) : Type 0 where
  pub kept : IsKept kind s plans l players records
  pub timed : timeline ≡ changes_of s l
  pub planned : slice_get plans c ≡ Some plan
  pub there : slice_get players c ≡ Some p
  pub active : is_idle plan p ≡ false
  pub which : slice_get plan.calls.items p.answered ≡ Some call
  pub limits : IsWithinLimits s call p.under_way
  pub turned : Turned kind (placed s.listed) s.geometry c l m (length timeline) call p next choice answered going word
  pub settled : (o : Open M) → next.under_way ≡ Some o → kind.wants o.machine ≡ None

-- what is told of the call that the verb has ended
pub record IsTold {M : Type 0} (kind : Kind M) (s : Setting) (q : kind.sort.Text) (lo : ℕ) (t : Told) : Type 0 where
  pub d : CallEnd
  pub ended : kind.sort.answer q ≡ Some d
  pub reply : t.reply ≡ d.reply
  pub lo_is : t.lo ≡ lo

some_same : {X : Type 0} (a b : X) → Some a ≡ Some b → a ≡ b
some_same a b e = cc

none_some : (d : CallEnd) → None ≡ Some d → ⊥
none_some d e = cc

-- where the client stands in the new lists
own_at : {M : Type 0} (kind : Kind M) (s : Setting) (m : Entries) (records : List Record) (plans : List Plan) (players : List (Player M)) (c i : ℕ) (plan plan2 : Plan) (next p2 : Player M) → i ≡ c → slice_get plans c ≡ Some plan → slice_get plans i ≡ Some plan2 → c < length players → slice_get (slice_set players c next) i ≡ Some p2 → IsPlaying kind s m records c plan next → IsPlaying kind s m records i plan2 p2
own_at {M} kind s m records plans players c i plan plan2 next p2 e planned planned2 low there2 h =
    let same : next ≡ p2 = some_same next p2 (sym (get_set_same players c next low) ∙ ap (slice_get (slice_set players c next)) (sym e) ∙ there2) in
    let same_plan : plan ≡ plan2 = some_same plan plan2 (sym planned ∙ ap (slice_get plans) (sym e) ∙ planned2) in
    subst (λ x. IsPlaying kind s m records x plan2 p2) (sym e) (subst (λ x. IsPlaying kind s m records c x p2) same_plan (subst (IsPlaying kind s m records c plan) same h))

pub first_same : (C D : List Change) (lo lo2 : ℕ) (call call2 : Call) (reply reply2 : Reply) (point : ℕ) → C ≡ D → lo ≡ lo2 → call ≡ call2 → reply ≡ reply2 → IsFirst C lo call reply point → IsFirst D lo2 call2 reply2 point
first_same C D lo lo2 call call2 reply reply2 point a b e f h =
    subst (λ x. IsFirst D lo2 call2 x point) f (subst (λ x. IsFirst D lo2 x reply point) e (subst (λ x. IsFirst D x call reply point) b (subst (λ x. IsFirst x lo call reply point) a h)))

module _ (M : Type 0) (kind : Kind M) (calls : AreSafe kind.sort) (s : Setting) (plans : List Plan) (l m : Entries) (players : List (Player M)) (records : List Record) (timeline : List Change) (c : ℕ) (plan : Plan) (p next : Player M) (call : Call) (choice : ℕ) (going : Going kind.sort.Text) (word : ℕ) where
  abbrev VerbDone : Bool → Type 0
  VerbDone answered = Verbed kind s plans l m players records timeline c plan p next call choice answered going word

  mine : {answered : Bool} → VerbDone answered → IsPlaying kind s l records c plan p
  mine v = v.kept.playing c plan p v.planned v.there

  -- what is left of the call after the verb
  abbrev left_of_it : kind.sort.Text
  left_of_it = onward kind.sort (placed s.listed) going.left choice word

  now : {answered : Bool} (v : VerbDone answered) → Current kind s l c plan.calls.items p call going
  now v = current kind calls s l records c plan p call going v.kept.legal (mine v) v.which (subst (λ (C : List Change). or_next kind (placed s.listed) (length C) p.state (option_map (going_of kind (placed s.listed)) p.under_way) (Some call) ≡ Some going) v.timed v.turned.begins) v.limits

  stepped : {answered : Bool} (v : VerbDone answered) → Stepped kind.sort s c (EndsWell s c call p.state (now v).first) (now v).left l m left_of_it
  stepped v = safe_step kind.sort s c (EndsWell s c call p.state (now v).first) (now v).left (changes_of s l) l m going.left choice v.turned.verb word v.kept.legal (now v).safe (now v).goes v.turned.asks v.turned.did

  pub record Went : Type 0 where
    pub kept : IsKept kind s plans m (slice_set players c next) records
    pub timed : timeline ≡ changes_of s m
    pub fewer : left_of (slice_get plans c) (slice_get (slice_set players c next) c) < left_of (slice_get plans c) (slice_get players c)
    pub turn : (e : Event) × Turn kind (record { setting = s; plans = plans; entries = l; players = players; records = records }) c e false (record { setting = s; plans = plans; entries = m; players = slice_set players c next; records = records }) × (e.choice ≡ choice)

  pub went : VerbDone false → Went
  went v =
      let cur = now v in
      let st = stepped v in
      let q = left_of_it in
      let none = none_answer (kind.sort.answer q) v.turned.tells in
      let on = safe_on kind.sort s c (EndsWell s c call p.state cur.first) st.left (changes_of s l) m q none st.safe in
      let low = slice_get_within players c p v.there in
      let more : length (changes_of s l) ≤ length (changes_of s m) = let x = ap (length {A = Change}) on.quiet in omega arith in
      record {
        kept = record {
          legal = st.grew.stands;
          founded = subst (λ (C : List Change). IsFounded C records) (sym on.quiet) v.kept.founded;
          sized = length-set players c next ∙ v.kept.sized;
          crowd = v.kept.crowd;
          playing = λ i plan2 p2 pl th. elim (cases_eq i c) [
            | inl e ↦ own_at kind s m records plans players c i plan plan2 next p2 e v.planned pl low th (own_on kind s l m records c plan p next call going q (mine v) cur v.which st.left st.count on none v.turned.moves v.settled)
            | inr n ↦ other kind calls s l m records c i plan2 p2 (v.kept.playing i plan2 p2 pl (sym (get_set_other players c i next n) ∙ th)) (st.grew.others i n) more
          ];
        };
        timed = v.timed ∙ sym on.quiet;
        fewer = subst (λ o. left_of (slice_get plans c) o < left_of (slice_get plans c) (slice_get players c)) (sym (get_set_same players c next low)) (subst (λ o. left_of (slice_get plans c) (Some next) < left_of (slice_get plans c) o) (sym v.there) (subst (λ (o : Option Plan). left_of o (Some next) < left_of o (Some p)) (sym v.planned)
            (fewer_left kind s m c plan records p next call going q v.which (own_on kind s l m records c plan p next call going q (mine v) cur v.which st.left st.count on none v.turned.moves v.settled) cur.so_far none v.turned.moves)));
        turn = (
          record { client = c; choice = choice; verb = v.turned.verb; answer = word },
          record {
            client = refl;
            plan = plan;
            planned = v.planned;
            player = p;
            there = v.there;
            active = v.active;
            call = call;
            which = v.which;
            going = going;
            within = let x = cur.bounded in let y = st.count in omega arith;
            begins = subst (λ (o : Option Call). or_next kind (placed s.listed) (length (changes_of s l)) p.state (option_map (going_of kind (placed s.listed)) p.under_way) o ≡ Some going) (sym v.which)
                (subst (λ (C : List Change). or_next kind (placed s.listed) (length C) p.state (option_map (going_of kind (placed s.listed)) p.under_way) (Some call) ≡ Some going) v.timed v.turned.begins);
            asks = v.turned.asks;
            did = v.turned.did;
            next = next;
            moves = v.turned.moves;
            players = refl;
            tells = sym (ap (λ (o : Option CallEnd). is_some o) none);
            records = subst (λ (o : Option CallEnd). Adds s c p.answered going.lo plan.calls.items l m o records records) (sym none) refl;
            ended = λ d e. absurd (none_some d (sym none ∙ e));
            setting = refl;
            plans = refl;
          },
          refl,
        );
      }

  -- what the record of an answered call says
  pub record IsRecord (t : Told) (r : Record) : Type 0 where
    pub asked : (r.client ≡ c) × (r.number ≡ p.answered + 1) × (r.call ≡ call)
    pub reply : (r.reply ≡ t.reply) × (r.lo ≡ t.lo)
    pub hi : r.hi ≡ (if is_change t.reply then length timeline + 1 else length timeline)
    pub changing : is_change t.reply ≡ true → r.point ≡ length timeline
    pub quiet : is_change t.reply ≡ false → is_quiet t.reply ≡ true → IsFirst timeline t.lo call t.reply r.point
    pub refused : is_change t.reply ≡ false → is_quiet t.reply ≡ false → r.point ≡ t.lo

  pub record Ended (r : Record) (pending : Option Change) : Type 0 where
    pub kept : IsKept kind s plans m (slice_set players c next) (records ++ r ∷ [])
    pub timed : timeline ++ option_to_list pending ≡ changes_of s m
    pub turn : (e : Event) × Turn kind (record { setting = s; plans = plans; entries = l; players = players; records = records }) c e true (record { setting = s; plans = plans; entries = m; players = slice_set players c next; records = records ++ r ∷ [] }) × (e.choice ≡ choice)

  -- the changes after the verb
  after_changes : (d : CallEnd) (first : Entries) (pending : Option Change) → timeline ≡ changes_of s l → Right s c call p.state first (changes_of s l) m d → (is_change d.reply ≡ true → pending ≡ change_of call) → (is_change d.reply ≡ false → pending ≡ None)
      → (timeline ++ option_to_list pending ≡ changes_of s m) × (length (changes_of s m) ≡ (if is_change d.reply then length timeline + 1 else length timeline)) × (is_change d.reply ≡ false → changes_of s m ≡ timeline)
  after_changes d first pending timed right changed stayed = by (is_change d.reply) refl
    where
      by : (b : Bool) → is_change d.reply ≡ b → (timeline ++ option_to_list pending ≡ changes_of s m) × (length (changes_of s m) ≡ (if b then length timeline + 1 else length timeline)) × (b ≡ false → changes_of s m ≡ timeline)
      by true e =
          let ch = right.changing e in
          let is : pending ≡ Some ch.change = changed e ∙ ch.is in
          let all : timeline ++ option_to_list pending ≡ changes_of s m = ap (λ (o : Option Change). timeline ++ option_to_list o) is ∙ ap (λ (C : List Change). C ++ ch.change ∷ []) timed ∙ sym ch.made in
          (all, ap (length {A = Change}) ch.made ∙ length-append (changes_of s l) (ch.change ∷ []) ∙ ap (λ (C : List Change). length C + 1) (sym timed), λ h. absurd (cc))
      by false e =
          let same = right.staying e in
          (ap (λ (o : Option Change). timeline ++ option_to_list o) (stayed e) ∙ append-nil timeline ∙ timed ∙ sym same, ap (length {A = Change}) (same ∙ sym timed), λ h. same ∙ sym timed)

  pub ended : (t : Told) (r : Record) (pending : Option Change) (v : VerbDone true) → IsTold kind s left_of_it going.lo t → IsRecord t r → (is_change t.reply ≡ true → pending ≡ change_of call) → (is_change t.reply ≡ false → pending ≡ None) → Ended r pending
  ended t r pending v told is changed stayed =
      let cur = now v in
      let st = stepped v in
      let q = left_of_it in
      let d = told.d in
      let some = told.ended in
      let same = told.reply in
      let ends = safe_end kind.sort s c (EndsWell s c call p.state cur.first) st.left (changes_of s l) m q d some st.safe in
      let right = ends.right in
      let reply = ap is_change same in
      let ch = after_changes d cur.first pending v.timed right (λ e. changed (reply ∙ e)) (λ e. stayed (reply ∙ e)) in
      let long = ch.1 in
      let low = slice_get_within players c p v.there in
      let more : length (changes_of s l) ≤ length (changes_of s m) = (let x = length-append timeline (option_to_list pending) in let y = ap (length {A = Change}) ch.0 in let z = ap (length {A = Change}) v.timed in omega arith) in
      let tells : Tells s c p.answered going.lo plan.calls.items l m d r = record {
        client = is.asked.0;
        number = is.asked.1;
        call = v.which ∙ ap (λ x. Some x) (sym is.asked.2);
        reply = is.reply.0 ∙ same;
        lo = is.reply.1 ∙ told.lo_is;
        hi = is.hi ∙ ap (λ (b : Bool). if b then length timeline + 1 else length timeline) reply ∙ sym long;
        changing = λ e. is.changing (ap is_change (sym is.reply.0) ∙ e) ∙ ap (length {A = Change}) v.timed;
        quiet = λ e.
            let quiet = ap is_quiet (sym is.reply.0) ∙ e in
            let none = quiet_no_change t.reply quiet in
            first_same timeline (changes_of s m) t.lo r.lo call r.call t.reply r.reply r.point (sym (ch.2 (sym reply ∙ none))) (sym is.reply.1) (sym is.asked.2) (sym is.reply.0) (is.quiet none quiet);
        refused = λ e f. is.refused (ap is_change (sym is.reply.0) ∙ e) (ap is_quiet (sym is.reply.0) ∙ f) ∙ sym is.reply.1;
      } in
      record {
        kept = record {
          legal = st.grew.stands;
          founded = founded_next kind s l m records c plan p call going d r v.kept.founded (mine v) cur v.which ends tells;
          sized = length-set players c next ∙ v.kept.sized;
          crowd = v.kept.crowd;
          playing = λ i plan2 p2 pl th. elim (cases_eq i c) [
            | inl e ↦ own_at kind s m (records ++ r ∷ []) plans players c i plan plan2 next p2 e v.planned pl low th (own_done kind s l m records c plan p next call going q d r (mine v) cur v.which st.left st.count ends more some v.turned.moves tells)
            | inr n ↦ other_told kind s m records c i plan2 p2 r n is.asked.0 (other kind calls s l m records c i plan2 p2 (v.kept.playing i plan2 p2 pl (sym (get_set_other players c i next n) ∙ th)) (st.grew.others i n) more)
          ];
        };
        timed = ch.0;
        turn = (
          record { client = c; choice = choice; verb = v.turned.verb; answer = word },
          record {
            client = refl;
            plan = plan;
            planned = v.planned;
            player = p;
            there = v.there;
            active = v.active;
            call = call;
            which = v.which;
            going = going;
            within = let x = cur.bounded in let y = st.count in omega arith;
            begins = subst (λ (o : Option Call). or_next kind (placed s.listed) (length (changes_of s l)) p.state (option_map (going_of kind (placed s.listed)) p.under_way) o ≡ Some going) (sym v.which)
                (subst (λ (C : List Change). or_next kind (placed s.listed) (length C) p.state (option_map (going_of kind (placed s.listed)) p.under_way) (Some call) ≡ Some going) v.timed v.turned.begins);
            asks = v.turned.asks;
            did = v.turned.did;
            next = next;
            moves = v.turned.moves;
            players = refl;
            tells = sym (ap (λ (o : Option CallEnd). is_some o) some);
            records = subst (λ (o : Option CallEnd). Adds s c p.answered going.lo plan.calls.items l m o records (records ++ r ∷ [])) (sym some) (r, refl, tells);
            ended = λ x e. let same_end : d ≡ x = some_same d x (sym some ∙ e) in (cur.first, cur.began, subst (λ y. EndsWell s c call p.state cur.first (changes_of s l) m y) same_end ends);
            setting = refl;
            plans = refl;
          },
          refl,
        );
      }

-- the same verb, told over what the code knows of the words
pub verbed_from : {M : Type 0} (kind : Kind M) (s : Setting) (plans : List Plan) (l m : Entries) (players : List (Player M)) (records : List Record) (timeline : List Change) (c : ℕ) (plan : Plan) (p next : Player M) (call : Call) (choice : ℕ) (answered : Bool)
    → IsKept kind s plans l players records → timeline ≡ changes_of s l → slice_get plans c ≡ Some plan → slice_get players c ≡ Some p → is_idle plan p ≡ false → slice_get plan.calls.items p.answered ≡ Some call → IsWithinLimits s call p.under_way
    → (g2 : Geometry) (c2 : ℕ) (l2 : Entries) (lo : ℕ) → g2 ≡ s.geometry → c2 ≡ c → l2 ≡ l → lo ≡ length timeline
    → (going : Going kind.sort.Text) (word : ℕ) → Turned kind (placed s.listed) g2 c2 l2 m lo call p next choice answered going word
    → ((o : Open M) → next.under_way ≡ Some o → kind.wants o.machine ≡ None)
    → Verbed kind s plans l m players records timeline c plan p next call choice answered going word
verbed_from {M} kind s plans l m players records timeline c plan p next call choice answered kept timed planned there active which limits g2 c2 l2 lo eg ec el elo going word t steady = record {
  kept = kept;
  timed = timed;
  planned = planned;
  there = there;
  active = active;
  which = which;
  limits = limits;
  turned = subst (λ n. Turned kind (placed s.listed) s.geometry c l m n call p next choice answered going word) elo
      (subst (λ x. Turned kind (placed s.listed) s.geometry c x m lo call p next choice answered going word) el
      (subst (λ x. Turned kind (placed s.listed) s.geometry x l2 m lo call p next choice answered going word) ec
      (subst (λ (x : Geometry). Turned kind (placed s.listed) x c2 l2 m lo call p next choice answered going word) eg t)));
  settled = steady;
}

-- the call under way waits for no hash
pub only_open : {M : Type 0} (kind : Kind M) (n : Player M) (q : Open M) → n.under_way ≡ Some q → kind.wants q.machine ≡ None → (o : Open M) → n.under_way ≡ Some o → kind.wants o.machine ≡ None
only_open {M} kind n q e none o f = subst (λ (x : Open M). kind.wants x.machine ≡ None) (some_same q o (sym e ∙ f)) none

pub none_open : {M : Type 0} (kind : Kind M) (n : Player M) → n.under_way ≡ None → (o : Open M) → n.under_way ≡ Some o → kind.wants o.machine ≡ None
none_open {M} kind n e o f = absurd (no (sym e ∙ f))
  where
    no : {x : Open M} → None ≡ Some x → ⊥
    no h = cc

-- the call at a place, told twice
pub same_call : (calls : List Call) (i j : ℕ) (call other : Call) → i ≡ j → slice_get calls i ≡ Some call → slice_get calls j ≡ Some other → call ≡ other
same_call calls i j call other e f h = some_same call other (sym f ∙ ap (slice_get calls) e ∙ h)

pub told_quiet : (timeline : List Change) (lo : ℕ) (call other : Call) (reply : Reply) (point : ℕ) → call ≡ other → IsFirst timeline lo call reply point → IsFirst timeline lo other reply point
told_quiet timeline lo call other reply point e h = subst (λ x. IsFirst timeline lo x reply point) e h
