-- One verb of a client keeps a world.
use Rattle.std.specs.Prelude.{◌≡◌, ◌≢◌, ◌⊎◌, ℕ, suc, ◌+◌, ◌-◌, ◌^◌, ◌%◌, replicate, slice_index_or, ◌<◌, ◌≤◌, Bool, true, false, ◌||◌, ◌&&◌, nat_le, List, [], ◌∷◌, ◌++◌, length, take, map, filter, slice_get, slice_set, Option, Some, None, is_none, refl, option_map}
use Rattle.std.specs.List.{AllByRecursion}
use Rattle.std.proofs.Common.{sym, ◌∙◌, ap, subst, arith, inl, inr, cond, eqb}
use Rattle.verb_log.proofs.Positions.{take_get, get_left, get_last, item_there}
use Rattle.std.proofs.lemmas.Bool.{cases_lt}
use Rattle.std.proofs.lemmas.Bool.Decides.{nat_tests}
use Rattle.std.proofs.lemmas.Option.{slice_get_within, slice_get-get_or, slice_get_past}
use Rattle.std.proofs.lemmas.List.{get_or-replicate, length-replicate, get_or_past, get_or-set_same, get_or-set_other, length-set, length-take-le, length-append, append-nil, map-append}
use Rattle.std.proofs.lemmas.List.Elements.{filter-append}
use Rattle.key_hash.specs.Placing.{placed}
use Rattle.kv_block.specs.declared.changes.Change.{Change}
use Rattle.map_model.specs.declared.calls.Call.{Call}
use Rattle.map_model.specs.declared.plans.Plan.{Plan}
use Rattle.map_model.specs.declared.records.Record.{Record}
use Rattle.map_model.specs.Machine.{key_of, reply_of, map_at, change_of, is_change, is_quiet}
use Rattle.map_model.specs.History.{IsFounded, IsAfter, IsRight}
use Rattle.map_model.proofs.Filtered.{weaker, append_all}
use Rattle.map_model.proofs.Added.{map_at-append, founded_none, founded_quiet, founded_change}
use Rattle.map_model.proofs.Bridge.{answer_quiet, legal_from_founded}
use Rattle.map_model.proofs.Points.{right_from_first}
use Rattle.verbs.specs.Logs.{Entries, MayStand, Lengthened}
use Rattle.race_laws.specs.Setting.{Setting}
use Rattle.race_laws.specs.Legal.{MayFollow}
use Rattle.verbs.proofs.Growth.{may_stand-nil}
use Rattle.log_facts.proofs.Growing.{stands_legal}
use Rattle.verb_core.specs.Play.{IsLegalPlay, fresh, AreFresh, counted, asked_by}
use Rattle.verb_core.specs.declared.player.Open.{Open}
use Rattle.verb_core.specs.declared.player.Player.{Player}
use Rattle.node_words.specs.declared.geometry.Geometry.{Geometry}
use Rattle.whole_calls.specs.Law.{IsCall}
use Rattle.call_texts.specs.State.{State, CallEnd, state_after}
use Rattle.call_machine.specs.Fresh.{fresh_state}
use Rattle.world_texts.specs.Bound.{most_acts}
use Rattle.world_texts.specs.Fits.{Fits}
use Rattle.world_texts.proofs.Bounds.{acts_few}
use Rattle.world_texts.specs.Sorts.{Kind}
use Rattle.log_facts.specs.Among.{changes_of}
use Rattle.world_texts.specs.Safety.{SafeCall, EndsWell, AreSafe}
use Rattle.verb_core.specs.Play.{Going, Stage, going_of, stage, or_next, moved_to, is_stopped, is_idle, Tells}
use Rattle.verb_core.specs.Kept.{since, verbs_under_way, IsUnderWay, IsPlaying, IsKept, IsWorld}
use Rattle.verb_core.proofs.Stages.{moved_done, moved_on, none_open, some_open}
use Rattle.world_texts.proofs.Steps.{Asked, safe_longer, safe_on, GoesOn}
use Rattle.verb_core.specs.Schedules.{left_by, left_of}

-- an element after a write
pub get_set_same : {X : Type 0} (xs : List X) (i : ℕ) (x : X) → i < length xs → slice_get (slice_set xs i x) i ≡ Some x
get_set_same xs i x h = slice_get-get_or (slice_set xs i x) i x (let n = length-set xs i x in omega arith) ∙ ap (λ y. Some y) (get_or-set_same xs i x x h)

pub get_set_other : {X : Type 0} (xs : List X) (i j : ℕ) (x : X) → j ≢ i → slice_get (slice_set xs i x) j ≡ slice_get xs j
get_set_other xs i j x n =
    let long = length-set xs i x in
    elim (cases_lt j (length xs)) [
      | inl h ↦ slice_get-get_or (slice_set xs i x) j x (omega arith) ∙ ap (λ y. Some y) (get_or-set_other xs i j x x n) ∙ sym (slice_get-get_or xs j x h)
      | inr h ↦ slice_get_past (slice_set xs i x) j (omega arith) ∙ sym (slice_get_past xs j h)
    ]

some_same : {X : Type 0} (a b : X) → Some a ≡ Some b → a ≡ b
some_same a b e = cc

-- what is known of the call of which the client does its next verb
pub record Current {M : Type 0} (kind : Kind M) (s : Setting) (l : Entries) (c : ℕ) (calls : List Call) (p : Player M) (call : Call) (going : Going kind.sort.Text) : Type 0 where
  pub first : Entries
  pub began : going.lo ≡ length (changes_of s first)
  pub seen : going.lo ≤ length (changes_of s l)
  pub from : since s l p.under_way ≡ going.lo
  pub so_far : going.verbs ≡ verbs_under_way p.under_way
  pub left : ℕ
  pub bounded : going.verbs + left ≤ most_acts p.state call
  pub few : p.state.tries ≤ 64
  pub goes : kind.sort.answer going.left ≡ None
  pub safe : SafeCall kind.sort s c left (changes_of s l) l going.left (EndsWell s c call p.state first)

-- a call that is to begin has a key and a value within their limits, and its key's hash is a word
abbrev pub IsWithinLimits : {M : Type 0} → Setting → Call → Option (Open M) → Type 0
IsWithinLimits s call u = u ≡ None → IsCall call × (placed s.listed (key_of call) < 2 ^ 64)

pub current : {M : Type 0} (kind : Kind M) → AreSafe kind.sort → (s : Setting) (l : Entries) (records : List Record) (c : ℕ) (plan : Plan) (p : Player M) (call : Call) (going : Going kind.sort.Text) → MayStand (MayFollow s) l → IsPlaying kind s l records c plan p → slice_get plan.calls.items p.answered ≡ Some call
    → or_next kind (placed s.listed) (length (changes_of s l)) p.state (option_map (going_of kind (placed s.listed)) p.under_way) (Some call) ≡ Some going → IsWithinLimits s call p.under_way → Current kind s l c plan.calls.items p call going
current {M} kind safe s l records c plan p call going st h which e limits = by p.under_way refl h.under_way
  where
    by : (u : Option (Open M)) → p.under_way ≡ u → IsUnderWay kind s l c plan.calls.items p u → Current kind s l c plan.calls.items p call going
    by None n fits =
        let is : record { left = kind.sort.begun (placed s.listed) p.state call; lo = length (changes_of s l); verbs = 0 } ≡ going = some_same _ going (subst (λ x. or_next kind (placed s.listed) (length (changes_of s l)) p.state (option_map (going_of kind (placed s.listed)) x) (Some call) ≡ Some going) n e) in
        subst (λ x. Current kind s l c plan.calls.items p call x) is (record {
          first = l;
          began = refl;
          seen = omega arith;
          from = ap (since s l) n;
          so_far = sym (ap verbs_under_way n);
          left = most_acts p.state call;
          bounded = omega arith;
          few = fits.few;
          goes = (safe.calls s l c p.state call st (limits n).0 (limits n).1 fits).0;
          safe = (safe.calls s l c p.state call st (limits n).0 (limits n).1 fits).1;
        })
    by (Some o) n u =
        let is : going_of kind (placed s.listed) o ≡ going = some_same _ going (subst (λ x. or_next kind (placed s.listed) (length (changes_of s l)) p.state (option_map (going_of kind (placed s.listed)) x) (Some call) ≡ Some going) n e) in
        let asked : u.call ≡ call = some_same u.call call (sym u.which ∙ which) in
        subst (λ x. Current kind s l c plan.calls.items p call x) is (record {
          first = u.first;
          began = u.began;
          seen = u.seen;
          from = ap (since s l) n;
          so_far = sym (ap verbs_under_way n);
          left = u.left;
          bounded = subst (λ x. o.verbs + u.left ≤ most_acts p.state x) asked u.bounded;
          few = u.few;
          goes = u.goes;
          safe = subst (λ x. SafeCall kind.sort s c u.left (changes_of s l) l (kind.text (placed s.listed) o.machine) (EndsWell s c x p.state u.first)) asked u.safe;
        })

-- a client that is not idle has a call
first_false : (a b : Bool) → (a || b) ≡ false → b ≡ false
first_false true b e = absurd (cc)
first_false false b e = e

pub has_call : {M : Type 0} (kind : Kind M) (s : Setting) (l : Entries) (records : List Record) (c : ℕ) (plan : Plan) (p : Player M) → IsPlaying kind s l records c plan p → is_idle plan p ≡ false → p.answered < length plan.calls.items
has_call {M} kind s l records c plan p h e = by p.under_way refl h.under_way
  where
    by : (u : Option (Open M)) → p.under_way ≡ u → IsUnderWay kind s l c plan.calls.items p u → p.answered < length plan.calls.items
    by None n fits =
        let off : nat_le (length plan.calls.items) p.answered ≡ false = subst (λ (x : Option (Open M)). (is_none x && nat_le (length plan.calls.items) p.answered) ≡ false) n (first_false (is_stopped plan.stop p.verbs) _ e) in
        grind (arith, nat_tests)
    by (Some o) n u = slice_get_within plan.calls.items p.answered u.call u.which

-- the call under way asks for a verb
pub steady : {M : Type 0} (kind : Kind M) (s : Setting) (l : Entries) (records : List Record) (c : ℕ) (plan : Plan) (p : Player M) → IsPlaying kind s l records c plan p → (o : Open M) → p.under_way ≡ Some o → (kind.wants o.machine ≡ None) × (o.verbs < 2 ^ 63)
steady {M} kind s l records c plan p h o e = let u = subst (IsUnderWay kind s l c plan.calls.items p) e h.under_way in (u.settled, let a = u.bounded in let b = acts_few p.state u.call u.few in omega arith)

verbs_bound : {M : Type 0} (kind : Kind M) (s : Setting) (l : Entries) (c : ℕ) (calls : List Call) (p : Player M) (u : Option (Open M)) → IsUnderWay kind s l c calls p u → verbs_under_way u ≤ 2 ^ 40
verbs_bound {M} kind s l c calls p None h = omega arith
verbs_bound {M} kind s l c calls p (Some o) h = let a = h.bounded in let b = acts_few p.state h.call h.few in omega arith

pub spent_few : {M : Type 0} (kind : Kind M) (s : Setting) (l : Entries) (records : List Record) (c : ℕ) (plan : Plan) (p : Player M) → IsPlaying kind s l records c plan p → (p.verbs < 2 ^ 63) × (p.answered < 2 ^ 31)
spent_few {M} kind s l records c plan p h =
    let a = h.few in
    let b = h.short in
    let d = h.spent in
    let e = verbs_bound kind s l c plan.calls.items p p.under_way h.under_way in
    ((omega arith), (omega arith))

-- others' verbs leave a client playing
pub since_more : {M : Type 0} (kind : Kind M) (s : Setting) (l m : Entries) (u : Option (Open M)) → length (changes_of s l) ≤ length (changes_of s m) → since s l u ≤ since s m u
since_more {M} kind s l m None h = h
since_more {M} kind s l m (Some o) h = omega arith

pub under_way_longer : {M : Type 0} (kind : Kind M) → AreSafe kind.sort → (s : Setting) (l m : Entries) (c : ℕ) (calls : List Call) (p : Player M) (u : Option (Open M)) → Lengthened (MayFollow s) c l m → length (changes_of s l) ≤ length (changes_of s m) → IsUnderWay kind s l c calls p u → IsUnderWay kind s m c calls p u
under_way_longer {M} kind safe s l m c calls p None b more h = safe.longer s l m c p.state b h
under_way_longer {M} kind safe s l m c calls p (Some o) b more h = record {
  call = h.call;
  which = h.which;
  first = h.first;
  began = h.began;
  seen = let x = h.seen in omega arith;
  left = h.left;
  bounded = h.bounded;
  few = h.few;
  settled = h.settled;
  goes = h.goes;
  safe = safe_longer kind.sort s c (EndsWell s c h.call p.state h.first) h.left l m (kind.text (placed s.listed) o.machine) b h.goes h.safe;
}

seen_longer : {M : Type 0} (kind : Kind M) (s : Setting) (l m : Entries) (c : ℕ) (p : Player M) (records : List Record) → length (changes_of s l) ≤ length (changes_of s m) → AllByRecursion (λ r. r.client ≡ c → (r.number ≤ p.answered) × (r.hi ≤ since s l p.under_way)) records → AllByRecursion (λ r. r.client ≡ c → (r.number ≤ p.answered) × (r.hi ≤ since s m p.under_way)) records
seen_longer {M} kind s l m c p records more h = weaker _ _ (λ r f e. let x = f e in (x.0, (let y = x.1 in let z = since_more kind s l m p.under_way more in omega arith))) records h

-- the records of a client with one more
own_test : (r : Record) (c : ℕ) → r.client ≡ c → eqb r.client c ≡ true
own_test r c e = grind (arith, nat_tests)

other_test : (r : Record) (c i : ℕ) → r.client ≡ c → i ≢ c → eqb r.client i ≡ false
other_test r c i e n = grind (arith, nat_tests)

told_more : (t : Bool) (records : List Record) (r : Record) (i : ℕ) → eqb r.client i ≡ t → asked_by i (records ++ r ∷ []) ≡ asked_by i records ++ map (λ (x : Record). (x.number, x.call)) (cond t (r ∷ []) [])
told_more t records r i e =
    ap (map (λ (x : Record). (x.number, x.call))) (filter-append (λ x. eqb x.client i) records (r ∷ []) ∙ ap (λ (b : Bool). filter (λ x. eqb x.client i) records ++ cond b (r ∷ []) []) e)
    ∙ map-append (λ (x : Record). (x.number, x.call)) (filter (λ x. eqb x.client i) records) (cond t (r ∷ []) [])

pub asked_own : (records : List Record) (r : Record) (c : ℕ) → r.client ≡ c → asked_by c (records ++ r ∷ []) ≡ asked_by c records ++ (r.number, r.call) ∷ []
asked_own records r c e = told_more true records r c (own_test r c e)

pub asked_other : (records : List Record) (r : Record) (c i : ℕ) → r.client ≡ c → i ≢ c → asked_by i (records ++ r ∷ []) ≡ asked_by i records
asked_other records r c i e n = told_more false records r i (other_test r c i e n) ∙ append-nil (asked_by i records)

counted_push : (n : ℕ) (calls : List Call) (call : Call) → counted n (calls ++ call ∷ []) ≡ counted n calls ++ (n + length calls, call) ∷ []
counted_push n [] call = ap (λ (k : ℕ). (k, call) ∷ []) (omega arith)
counted_push n (x ∷ calls) call = ap (λ xs. (n, x) ∷ xs) (counted_push (n + 1) calls call ∙ ap (λ (k : ℕ). counted (n + 1) calls ++ (k, call) ∷ []) (omega arith))

take_one : {X : Type 0} (xs : List X) (n : ℕ) (x : X) → slice_get xs n ≡ Some x → take (n + 1) xs ≡ take n xs ++ x ∷ []
take_one xs n x e = take_get xs n x e

counted_more : (calls : List Call) (n : ℕ) (call : Call) → slice_get calls n ≡ Some call → counted 1 (take (n + 1) calls) ≡ counted 1 (take n calls) ++ (n + 1, call) ∷ []
counted_more calls n call e =
    let within = slice_get_within calls n call e in
    let long = length-take-le n calls (omega arith) in
    ap (counted 1) (take_one calls n call e) ∙ counted_push 1 (take n calls) call ∙ ap (λ (k : ℕ). counted 1 (take n calls) ++ (k, call) ∷ []) (omega arith)

-- the client itself, where its call goes on
pub own_on : {M : Type 0} (kind : Kind M) (s : Setting) (l m : Entries) (records : List Record) (c : ℕ) (plan : Plan) (p next : Player M) (call : Call) (going : Going kind.sort.Text) (q : kind.sort.Text) → IsPlaying kind s l records c plan p → (h : Current kind s l c plan.calls.items p call going) → slice_get plan.calls.items p.answered ≡ Some call
    → (left : ℕ) → h.left ≡ suc left → GoesOn kind.sort s c (EndsWell s c call p.state h.first) left (changes_of s l) m q → kind.sort.answer q ≡ None → stage kind (placed s.listed) next ≡ moved_to kind (stage kind (placed s.listed) p) going q → ((o : Open M) → next.under_way ≡ Some o → kind.wants o.machine ≡ None) → IsPlaying kind s m records c plan next
own_on {M} kind s l m records c plan p next call going q k h which left count on none moves asks =
    let e = moves ∙ moved_on kind (stage kind (placed s.listed) p) going q none in
    let o = some_open kind (placed s.listed) next.under_way (record { left = q; lo = going.lo; verbs = going.verbs + 1 }) (ap (λ (x : Stage kind.sort.Text). x.going) e) in
    let state : next.state ≡ p.state = ap (λ (x : Stage kind.sort.Text). x.state) e in
    let answered : next.answered ≡ p.answered = ap (λ (x : Stage kind.sort.Text). x.answered) e in
    let verbs : next.verbs ≡ p.verbs + 1 = ap (λ (x : Stage kind.sort.Text). x.verbs) e in
    let lo : o.0.lo ≡ going.lo = ap (λ (x : Going kind.sort.Text). x.lo) o.2 in
    let done : o.0.verbs ≡ going.verbs + 1 = ap (λ (x : Going kind.sort.Text). x.verbs) o.2 in
    let same = on.quiet in
    let now : verbs_under_way next.under_way ≡ o.0.verbs = ap verbs_under_way o.1 in
    let begun_at : since s m next.under_way ≡ o.0.lo = ap (since s m) o.1 in
    record {
      few = let x = k.few in omega arith;
      short = k.short;
      spent = let x = k.spent in let y = h.so_far in omega arith;
      asked = k.asked ∙ ap (λ (n : ℕ). counted 1 (take n plan.calls.items)) (sym answered);
      before = weaker _ _ (λ r f own. let x = f own in let y = h.from in let z = x.0 in let w = x.1 in ((omega arith), (omega arith))) records k.before;
      under_way = subst (IsUnderWay kind s m c plan.calls.items next) (sym o.1) (record {
        call = call;
        which = ap (slice_get plan.calls.items) answered ∙ which;
        first = h.first;
        began = lo ∙ h.began;
        seen = let x = h.seen in let y = ap (length {A = Change}) same in omega arith;
        left = left;
        bounded = subst (λ x. o.0.verbs + left ≤ most_acts x call) (sym state) (let x = h.bounded in omega arith);
        few = subst (λ (x : State). x.tries ≤ 64) (sym state) h.few;
        settled = asks o.0 o.1;
        goes = subst (λ t. kind.sort.answer t ≡ None) (sym (ap (λ (x : Going kind.sort.Text). x.left) o.2)) none;
        safe = subst (λ st. SafeCall kind.sort s c left (changes_of s m) m (kind.text (placed s.listed) o.0.machine) (EndsWell s c call st h.first)) (sym state)
            (subst (λ t. SafeCall kind.sort s c left (changes_of s m) m t (EndsWell s c call p.state h.first)) (sym (ap (λ (x : Going kind.sort.Text). x.left) o.2)) on.safe);
      });
    }

-- the client itself, where its call is answered
pub own_done : {M : Type 0} (kind : Kind M) (s : Setting) (l m : Entries) (records : List Record) (c : ℕ) (plan : Plan) (p next : Player M) (call : Call) (going : Going kind.sort.Text) (q : kind.sort.Text) (d : CallEnd) (r : Record) → IsPlaying kind s l records c plan p → (h : Current kind s l c plan.calls.items p call going) → slice_get plan.calls.items p.answered ≡ Some call
    → (left : ℕ) → h.left ≡ suc left → EndsWell s c call p.state h.first (changes_of s l) m d → length (changes_of s l) ≤ length (changes_of s m) → kind.sort.answer q ≡ Some d → stage kind (placed s.listed) next ≡ moved_to kind (stage kind (placed s.listed) p) going q → Tells s c p.answered going.lo plan.calls.items l m d r → IsPlaying kind s m (records ++ r ∷ []) c plan next
own_done {M} kind s l m records c plan p next call going q d r k h which left count ends grew some moves t =
    let e = moves ∙ moved_done kind (stage kind (placed s.listed) p) going q d some in
    let none = none_open kind (placed s.listed) next.under_way (ap (λ (x : Stage kind.sort.Text). x.going) e) in
    let state : next.state ≡ state_after p.state d = ap (λ (x : Stage kind.sort.Text). x.state) e in
    let answered : next.answered ≡ p.answered + 1 = ap (λ (x : Stage kind.sort.Text). x.answered) e in
    let verbs : next.verbs ≡ p.verbs + 1 = ap (λ (x : Stage kind.sort.Text). x.verbs) e in
    let within = slice_get_within plan.calls.items p.answered call which in
    let now : verbs_under_way next.under_way ≡ 0 = ap verbs_under_way none in
    let begun_at : since s m next.under_way ≡ length (changes_of s m) = ap (since s m) none in
    let number = t.number in
    let hi = t.hi in
    let same : r.call ≡ call = some_same r.call call (sym t.call ∙ which) in
    record {
      few = omega arith;
      short = k.short;
      spent = let x = k.spent in let y = h.so_far in let z = h.bounded in let w = acts_few p.state call h.few in omega arith;
      asked = asked_own records r c t.client ∙ ap (λ xs. xs ++ (r.number, r.call) ∷ []) k.asked
          ∙ ap (λ (n : ℕ). counted 1 (take p.answered plan.calls.items) ++ (n, r.call) ∷ []) number
          ∙ ap (λ (x : Call). counted 1 (take p.answered plan.calls.items) ++ (p.answered + 1, x) ∷ []) same
          ∙ sym (counted_more plan.calls.items p.answered call which)
          ∙ ap (λ (n : ℕ). counted 1 (take n plan.calls.items)) (sym answered);
      before = append_all _ records (r ∷ [])
          (weaker _ _ (λ x f own. let y = f own in let z = y.0 in let w = y.1 in let v = h.from in let u = h.seen in ((omega arith), (omega arith))) records k.before)
          ((λ own. ((omega arith), (omega arith))), tt);
      under_way = subst (IsUnderWay kind s m c plan.calls.items next) (sym none) (subst (Fits s m c) (sym state) ends.fits);
    }

-- another client
pub other : {M : Type 0} (kind : Kind M) → AreSafe kind.sort → (s : Setting) (l m : Entries) (records : List Record) (c i : ℕ) (plan : Plan) (p : Player M) → IsPlaying kind s l records i plan p → Lengthened (MayFollow s) i l m → length (changes_of s l) ≤ length (changes_of s m) → IsPlaying kind s m records i plan p
other {M} kind safe s l m records c i plan p k b more = record {
  few = k.few;
  short = k.short;
  spent = k.spent;
  asked = k.asked;
  before = seen_longer kind s l m i p records more k.before;
  under_way = under_way_longer kind safe s l m i plan.calls.items p p.under_way b more k.under_way;
}

pub other_told : {M : Type 0} (kind : Kind M) (s : Setting) (m : Entries) (records : List Record) (c i : ℕ) (plan : Plan) (p : Player M) (r : Record) → i ≢ c → r.client ≡ c → IsPlaying kind s m records i plan p → IsPlaying kind s m (records ++ r ∷ []) i plan p
other_told {M} kind s m records c i plan p r n e k = record {
  few = k.few;
  short = k.short;
  spent = k.spent;
  asked = asked_other records r c i e n ∙ k.asked;
  before = append_all _ records (r ∷ []) k.before ((λ own. absurd (n (sym own ∙ e))), tt);
  under_way = k.under_way;
}

-- the records stay founded
after_all : {M : Type 0} (kind : Kind M) (s : Setting) (l : Entries) (records : List Record) (c : ℕ) (plan : Plan) (p : Player M) (r : Record) (lo : ℕ) → IsPlaying kind s l records c plan p → r.client ≡ c → r.number ≡ p.answered + 1 → r.lo ≡ lo → since s l p.under_way ≡ lo → AllByRecursion (IsAfter r) records
after_all {M} kind s l records c plan p r lo k own number at from =
    weaker _ _ (λ x f e. let y = f (e ∙ own) in let z = y.0 in let w = y.1 in ((omega arith), (omega arith))) records k.before

pub founded_next : {M : Type 0} (kind : Kind M) (s : Setting) (l m : Entries) (records : List Record) (c : ℕ) (plan : Plan) (p : Player M) (call : Call) (going : Going kind.sort.Text) (d : CallEnd) (r : Record) → IsFounded (changes_of s l) records → IsPlaying kind s l records c plan p → (h : Current kind s l c plan.calls.items p call going) → slice_get plan.calls.items p.answered ≡ Some call
    → EndsWell s c call p.state h.first (changes_of s l) m d → Tells s c p.answered going.lo plan.calls.items l m d r → IsFounded (changes_of s m) (records ++ r ∷ [])
founded_next {M} kind s l m records c plan p call going d r f k h which ends t = by (is_change r.reply) refl
  where
    same : r.call ≡ call
    same = some_same r.call call (sym t.call ∙ which)

    later : AllByRecursion (IsAfter r) records
    later = after_all kind s l records c plan p r going.lo k t.client t.number t.lo h.from

    by : (b : Bool) → is_change r.reply ≡ b → IsFounded (changes_of s m) (records ++ r ∷ [])
    by true e =
        let ch = ends.right.changing (ap is_change (sym t.reply) ∙ e) in
        let point = t.changing e in
        let long = ap (length {A = Change}) ch.made ∙ length-append (changes_of s l) (ch.change ∷ []) in
        let lo = t.lo in
        let seen = h.seen in
        let hi = t.hi in
        subst (λ (C : List Change). IsFounded C (records ++ r ∷ [])) (sym ch.made)
        (founded_change (changes_of s l) ch.change records r f e (ap change_of same ∙ ch.is) point
        (λ _. record {
          reply = ap (λ (n : ℕ). reply_of (map_at (changes_of s l ++ ch.change ∷ []) n) r.call) point
              ∙ ap (λ mm. reply_of mm r.call) (map_at-append (changes_of s l) (ch.change ∷ []) (length (changes_of s l)) (omega arith))
              ∙ ap (reply_of (map_at (changes_of s l) (length (changes_of s l)))) same
              ∙ ch.answers ∙ ap (λ x. Some x) (sym t.reply);
          within = record { least = omega arith; most = omega arith; seen = subst (λ (C : List Change). r.hi ≤ length C) ch.made (omega arith) };
        })
        later)
    by false e =
        let stays = ends.right.staying (ap is_change (sym t.reply) ∙ e) in
        subst (λ (C : List Change). IsFounded C (records ++ r ∷ [])) (sym stays)
        (founded_quiet (changes_of s l) records r f e
        (λ answer.
        let quiet = answer_quiet r answer e in
        let at = ends.right.quiet (ap is_quiet (sym t.reply) ∙ quiet) in
        let lo = t.lo in
        let began = h.began in
        let hi = t.hi in
        let low = at.least in
        let high = at.most in
        subst (λ (C : List Change). IsRight C r) stays
        (right_from_first (changes_of s m) r at.point (t.quiet quiet) (omega arith) (omega arith) (omega arith)
        (ap (reply_of (map_at (changes_of s m) at.point)) same ∙ at.answers ∙ ap (λ x. Some x) (sym t.reply))))
        later)

pub legal_play : {M : Type 0} (kind : Kind M) (s : Setting) (plans : List Plan) (l : Entries) (players : List (Player M)) (records : List Record) → IsKept kind s plans l players records → IsLegalPlay (record { setting = s; plans = plans; entries = l; players = players; records = records })
legal_play {M} kind s plans l players records k = record { log = stands_legal s l k.legal; history = legal_from_founded (changes_of s l) records k.founded; told = λ c plan p pl th. (k.playing c plan p pl th).asked }

-- a call that goes on has verbs left
safe_left : {M : Type 0} (kind : Kind M) (s : Setting) (m : Entries) (c left : ℕ) (q : kind.sort.Text) (End : Asked) → kind.sort.answer q ≡ None → SafeCall kind.sort s c left (changes_of s m) m q End → 1 ≤ left
safe_left kind s m c left q End none h = let on = safe_on kind.sort s c End left (changes_of s m) m q none h in on.some

-- so fewer than before
pub fewer_left : {M : Type 0} (kind : Kind M) (s : Setting) (m : Entries) (c : ℕ) (plan : Plan) (records : List Record) (p next : Player M) (call : Call) (going : Going kind.sort.Text) (q : kind.sort.Text) → slice_get plan.calls.items p.answered ≡ Some call → IsPlaying kind s m records c plan next → going.verbs ≡ verbs_under_way p.under_way → kind.sort.answer q ≡ None
    → stage kind (placed s.listed) next ≡ moved_to kind (stage kind (placed s.listed) p) going q → left_of (Some plan) (Some next) < left_of (Some plan) (Some p)
fewer_left {M} kind s m c plan records p next call going q which k so_far none moves =
    let e = moves ∙ moved_on kind (stage kind (placed s.listed) p) going q none in
    let o = some_open kind (placed s.listed) next.under_way (record { left = q; lo = going.lo; verbs = going.verbs + 1 }) (ap (λ (x : Stage kind.sort.Text). x.going) e) in
    let state : next.state ≡ p.state = ap (λ (x : Stage kind.sort.Text). x.state) e in
    let answered : next.answered ≡ p.answered = ap (λ (x : Stage kind.sort.Text). x.answered) e in
    let u = subst (IsUnderWay kind s m c plan.calls.items next) o.1 k.under_way in
    let done : o.0.verbs ≡ going.verbs + 1 = ap (λ (x : Going kind.sort.Text). x.verbs) o.2 in
    let now : verbs_under_way next.under_way ≡ o.0.verbs = ap verbs_under_way o.1 in
    let same : u.call ≡ call = some_same u.call call (sym u.which ∙ ap (slice_get plan.calls.items) answered ∙ which) in
    let most = subst (λ x. o.0.verbs + u.left ≤ most_acts p.state x) same (subst (λ x. o.0.verbs + u.left ≤ most_acts x u.call) state u.bounded) in
    let some = safe_left kind s m c u.left (kind.text (placed s.listed) o.0.machine) (EndsWell s c u.call next.state u.first) u.goes u.safe in
    let before : left_of (Some plan) (Some p) ≡ most_acts p.state call - verbs_under_way p.under_way = ap (left_by p.state (verbs_under_way p.under_way)) which in
    let after : left_of (Some plan) (Some next) ≡ most_acts p.state call - verbs_under_way next.under_way = ap (left_by next.state (verbs_under_way next.under_way)) (ap (slice_get plan.calls.items) answered ∙ which) ∙ ap (λ (x : State). most_acts x call - verbs_under_way next.under_way) state in
    omega arith

-- clients at the beginning, with one more
pub fresh_more : {M : Type 0} (g : Geometry) (tries n : ℕ) (players : List (Player M)) (q : Player M) → q ≡ fresh g tries n → AreFresh g tries n players → AreFresh g tries (n + 1) (players ++ q ∷ [])
fresh_more {M} g tries n players q e f = record {
  many = length-append players (q ∷ []) ∙ ap (λ k. k + 1) f.many;
  each = λ c p th. by c p th (cases_lt c (length players));
}
  where
    by : (c : ℕ) (p : Player M) → slice_get (players ++ q ∷ []) c ≡ Some p → (c < length players) ⊎ (length players ≤ c) → p ≡ fresh g tries c
    by c p th (inl h) =
        let x = item_there players c h in
        let same : x.0 ≡ p = some_same x.0 p (sym (get_left players (q ∷ []) c x.0 x.1) ∙ th) in
        sym same ∙ f.each c x.0 x.1
    by c p th (inr h) =
        let low = slice_get_within (players ++ q ∷ []) c p th in
        let long = length-append players (q ∷ []) in
        let many = f.many in
        let at : c ≡ length players = omega arith in
        let same : q ≡ p = some_same q p (sym (get_last players q) ∙ ap (slice_get (players ++ q ∷ [])) (sym at) ∙ th) in
        sym same ∙ e ∙ ap (fresh g tries) (omega arith)

-- a world at its beginning
changes_none : (s : Setting) → changes_of s [] ≡ []
changes_none s = refl

abbrev none_table : Option ℕ
none_table = None

entry_none : (n i : ℕ) → slice_index_or (replicate n none_table) i none_table ≡ none_table
entry_none n i = elim (cases_lt i n) [
  | inl h ↦ get_or-replicate n i none_table none_table h
  | inr h ↦ get_or_past (replicate n none_table) i none_table (let k = length-replicate n none_table in omega arith)
]

pub fresh_world : {M : Type 0} (kind : Kind M) → AreSafe kind.sort → (s : Setting) (tries n : ℕ) (plans : List Plan) (players : List (Player M)) → AreFresh s.geometry tries n players → n ≡ length plans → length plans ≤ 64 → 1 ≤ tries → tries ≤ 64
    → ((c : ℕ) (plan : Plan) → slice_get plans c ≡ Some plan → length plan.calls.items ≤ 65536) → IsWorld kind s plans [] players [] [] None
fresh_world {M} kind safe s tries n plans players f same few some most short = record {
  kept = record {
    legal = may_stand-nil (MayFollow s);
    founded = subst (λ (C : List Change). IsFounded C []) (sym (changes_none s)) founded_none;
    sized = f.many ∙ same;
    crowd = few;
    playing = λ c plan p pl th. subst (IsPlaying kind s [] [] c plan) (sym (f.each c p th)) (record {
      few = omega arith;
      short = short c plan pl;
      spent = omega arith;
      asked = refl;
      before = tt;
      under_way = safe.first s c (fresh_state s.geometry c tries) refl refl refl (λ h. entry_none (2 ^ s.geometry.max_depth) (h % 2 ^ s.geometry.max_depth)) refl refl some most;
    });
  };
  timed = sym (changes_none s);
}
