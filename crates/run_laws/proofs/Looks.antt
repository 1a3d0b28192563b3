-- Calls of a client that has met all others.
use Rattle.std.specs.Prelude.{◌≡◌, ◌≢◌, ◌⊎◌, ℕ, zero, suc, ◌<◌, true, false, List, [], ◌∷◌, ◌++◌, length, slice_get, Some, None, refl}
use Rattle.std.proofs.Common.{inl, inr, sym, ◌∙◌, ap, subst, ⊎_elim, arith, append_assoc, append-nil, length-append}
use Rattle.std.proofs.lemmas.Bool.{cases_eq, cases_Bool}
use Rattle.map_model.specs.declared.calls.Call.{Call}
use Rattle.map_model.specs.Machine.{reply_of, map_at, change_of, is_change, is_quiet}
use Rattle.verb_log.specs.declared.entry.Entry.{Entry}
use Rattle.verbs.specs.Logs as logs
use Rattle.verbs.specs.Logs.{Entries, Begins, Others, Longer, Lengthened}
use Rattle.verbs.proofs.Growth.{begins-then, longer-begins}
use Rattle.race_laws.specs.Setting.{Setting}
use Rattle.race_laws.specs.Legal.{MayFollow}
use Rattle.log_facts.specs.Among.{changes_of}
use Rattle.client_seat.specs.Rule.{OfSeats}
use Rattle.client_seat.specs.Seated.{Seated}
use Rattle.call_texts.specs.State.{State}
use Rattle.call_machine.specs.declared.answer.Answer.{Answer}
use Rattle.running_client.specs.Points.{MadeNone, none_yet, by_another, by_itself, Replied}
use Rattle.running_client.proofs.Fronts.{none_begins}
use Rattle.run_laws.specs.Lives.{Lives, lives_none, lives_more}
use Rattle.run_laws.specs.Whole.{HasMet, LastLooks}
use Rattle.run_laws.proofs.Fronts.{others_longer, same_front, met_all}
use Rattle.run_laws.proofs.Living.{lives_seat, lives_begins, replied_as}

others_at : (c : ℕ) (l more : Entries) (e : Entry) → Others c (l ++ e ∷ more) → e.client ≢ c
others_at c [] more e h = h.0
others_at c (x ∷ l) more e h = others_at c l more e h.1

known_at : (n : ℕ) (l more : Entries) (e : Entry) → OfSeats n (l ++ e ∷ more) → e.client < n
known_at n [] more e h = h.0
known_at n (x ∷ l) more e h = known_at n l more e h.1

-- a call that can change nothing has changed nothing
pub looks_alone : (s : Setting) (c : ℕ) (state : State) (call : Call) (before front : Entries) (a : Answer) → Replied s c state call before front a → change_of call ≡ None → is_change a.reply ≡ false
looks_alone s c state call before front a replied look = ⊎_elim
    (λ changing. let x = replied.changed changing in let bad : None ≡ Some x.change = sym look ∙ x.is in absurd (cc))
    (λ quiet. quiet)
    (cases_Bool (is_change a.reply))

module _ (s : Setting) (n own : ℕ) (log met : Entries) (known : OfSeats n log) (others : HasMet s (λ c. (c < n) × (c ≢ own)) log met) where
  -- an entry behind what has met all others is its own
  own_entry : (m more : Entries) (e : Entry) → Begins met m → log ≡ m ++ e ∷ more → e.client ≡ own
  own_entry m more e begins at = ⊎_elim
      (λ is. is)
      (λ not.
      let x = others e.client (known_at n m more e (subst (OfSeats n) at known), not) in
      let o = others_longer s e.client x.0 log x.1.0.1 in
      let mid = x.1.1.0 in
      let to_m : m ≡ x.0 ++ (mid ++ begins.0) = begins.1 ∙ ap (λ y. y ++ begins.0) x.1.1.1 ∙ append_assoc x.0 mid begins.0 in
      let split : x.0 ++ o.0 ≡ x.0 ++ ((mid ++ begins.0) ++ e ∷ more) = sym o.1.0 ∙ at ∙ ap (λ y. y ++ e ∷ more) to_m ∙ append_assoc x.0 (mid ++ begins.0) (e ∷ more) in
      absurd (others_at e.client (mid ++ begins.0) more e (subst (Others e.client) (same_front x.0 o.0 ((mid ++ begins.0) ++ e ∷ more) split) o.1.1) refl))
      (cases_eq e.client own)

  -- then its calls without a change leave all changes as they are
  same_changes : (f m : Entries) → Begins met f → MadeNone s own f m → Begins m log → changes_of s m ≡ changes_of s f
  same_changes f m begins none_yet end = refl
  same_changes f m2 begins (by_another {m = m} e h apart) end =
      absurd (apart (own_entry m end.0 e (begins-then met f m begins (none_begins s own f m h)) (end.1 ∙ append_assoc m (e ∷ []) end.0)))
  same_changes f m2 begins (by_itself {m = m} e h quiet) end =
      quiet ∙ same_changes f m begins h (e ∷ end.0, end.1 ∙ append_assoc m (e ∷ []) end.0)

  -- .. and its reply is that of the map after all of them
  record LooksOnce (f0 f1 : Entries) (call : Call) (a : Answer) : Type 0 where
    pub same : changes_of s f1 ≡ changes_of s f0
    pub right : is_quiet a.reply ≡ true → reply_of (map_at (changes_of s f0) (length (changes_of s f0))) call ≡ Some a.reply

  looks_once : (state : State) (f0 f1 : Entries) (call : Call) (a : Answer) → Begins met f0 → Begins f1 log → Replied s own state call f0 f1 a → is_change a.reply ≡ false → LooksOnce f0 f1 call a
  looks_once state f0 f1 call a begins end replied made =
      let same = same_changes f0 f1 begins (replied.left made) end in
      record {
        same = same;
        right = λ quiet.
            let x = replied.quiet quiet in
            let low = x.least in
            let high = x.most in
            let long = ap length same in
            let at : x.point ≡ length (changes_of s f0) = omega arith in
            ap (λ k. reply_of (map_at (changes_of s f0) k) call) (sym at) ∙ ap (λ l. reply_of (map_at l x.point) call) (sym same) ∙ x.answers;
      }

-- a place of a list with one more
pub at_end : {A : Type 0} (l : List A) (a b : A) (j : ℕ) → slice_get (l ++ a ∷ []) j ≡ Some b → (slice_get l j ≡ Some b) ⊎ ((j ≡ length l) × (a ≡ b))
at_end [] a b zero h = inr (refl, cc)
at_end [] a b (suc j) h = absurd (cc)
at_end (x ∷ l) a b zero h = inl h
at_end (x ∷ l) a b (suc j) h = ⊎_elim (λ y. inl y) (λ y. inr (ap suc y.0, y.1)) (at_end l a b j h)

none_at : {A : Type 0} (i : ℕ) (a : A) → slice_get [] i ≡ Some a → ⊥
none_at zero a h = cc
none_at (suc i) a h = cc

same_call : (x y : Call) → Some x ≡ Some y → x ≡ y
same_call x y e = cc

-- a client that has met all others has only looked
record Looked (s : Setting) (met f : Entries) (n : ℕ) (calls : List Call) (answers : List Answer) : Type 0 where
  pub same : changes_of s f ≡ changes_of s met
  pub many : length answers ≡ n
  pub right : (i : ℕ) (call : Call) (a : Answer) → slice_get calls i ≡ Some call → slice_get answers i ≡ Some a → is_quiet a.reply ≡ true → reply_of (map_at (changes_of s met) (length (changes_of s met))) call ≡ Some a.reply

module _ (seats : ℕ) (log : Entries) (begin : Seated) (calls : List Call) (first : State) (known : OfSeats seats log) (others : HasMet begin.home.setting (λ c. (c < seats) × (c ≢ begin.client)) log begin.front)
    (look : (i : ℕ) (call : Call) → slice_get calls i ≡ Some call → change_of call ≡ None) where
  looked : (n : ℕ) (seat : Seated) (state : State) (answers : List Answer) → Begins seat.front log → Lives calls begin first n seat state answers → Looked begin.home.setting begin.front seat.front n calls answers
  looked n seat state answers end lives_none = record { same = refl; many = refl; right = λ i call a ci ai q. absurd (none_at i a ai) }
  looked n2 seat2 state2 answers2 end (lives_more {n = n} {seat = seat} {state = state} {answers = answers} call next kept a lives at called) =
      let s = begin.home.setting in
      let is = lives_seat calls begin first n seat state answers lives in
      let replied = replied_as begin seat state call next.front a is.0 is.1 called.replied in
      let r = looked n seat state answers (begins-then seat.front next.front log replied.begins end) lives in
      let one = looks_once s seats begin.client log begin.front known others state seat.front next.front call a (lives_begins calls begin first n seat state answers lives) end replied (looks_alone s begin.client state call seat.front next.front a replied (look n call at)) in
      record {
        same = one.same ∙ r.same;
        many = (let e = length-append answers (a ∷ []) in let m = r.many in omega arith);
        right = λ i other b ci ai quiet. ⊎_elim
            (λ old. r.right i other b ci old quiet)
            (λ new.
            let here = one.right (subst (λ (x : Answer). is_quiet x.reply ≡ true) (sym new.1) quiet) in
            let moved = subst (λ l. reply_of (map_at l (length l)) call ≡ Some a.reply) r.same here in
            subst (λ o. reply_of (map_at (changes_of s begin.front) (length (changes_of s begin.front))) o ≡ Some b.reply)
            (same_call call other (sym at ∙ ap (slice_get calls) (sym (new.0 ∙ r.many)) ∙ ci)) (moved ∙ ap (λ (x : Answer). Some x.reply) new.1))
            (at_end answers a b i ai);
      }

  last_by : (last : Seated) (kept : State) (n : ℕ) (answers : List Answer) → Lengthened (MayFollow begin.home.setting) begin.client last.front log → Lives calls begin first n last kept answers
      → (log ≡ last.front) × ((i : ℕ) (call : Call) (a : Answer) → slice_get calls i ≡ Some call → slice_get answers i ≡ Some a → is_quiet a.reply ≡ true
      → reply_of (map_at (changes_of begin.home.setting log) (length (changes_of begin.home.setting log))) call ≡ Some a.reply)
  last_by last kept n answers own lives =
      let s = begin.home.setting in
      let o = others_longer s begin.client last.front log own.1 in
      let end : Begins last.front log = (o.0, o.1.0) in
      let r = looked n last kept answers end lives in
      let whole : log ≡ last.front = met_all s seats log last.front known end (λ c low. ⊎_elim
      (λ is. (last.front, (subst (λ x. Lengthened (MayFollow s) x last.front log) (sym is) own, ([], sym (append-nil last.front)))))
      (λ not. let x = others c (low, not) in (x.0, (x.1.0, begins-then x.0 begin.front last.front x.1.1 (lives_begins calls begin first n last kept answers lives))))
      (cases_eq c begin.client)) in
      let same = ap (changes_of s) whole ∙ r.same in
      (whole, λ i call a ci ai quiet. subst (λ l. reply_of (map_at l (length l)) call ≡ Some a.reply) (sym same) (r.right i call a ci ai quiet))

pub last_looks : LastLooks
last_looks s seats log begin last calls first kept n answers known is others own lives look =
    subst (λ (t : Setting). (log ≡ last.front) × ((i : ℕ) (call : Call) (a : Answer) → slice_get calls i ≡ Some call → slice_get answers i ≡ Some a → is_quiet a.reply ≡ true
    → reply_of (map_at (changes_of t log) (length (changes_of t log))) call ≡ Some a.reply)) is
    (last_by seats log begin calls first known
    (subst (λ (t : Setting). HasMet t (λ c. (c < seats) × (c ≢ begin.client)) log begin.front) (sym is) others)
    look last kept n answers (subst (λ (t : Setting). Lengthened (MayFollow t) begin.client last.front log) (sym is) own) lives)

-- what was made none of up to a log and from it on was made none of at all
none_then : (s : Setting) (c : ℕ) (f l m : Entries) → MadeNone s c f l → MadeNone s c l m → MadeNone s c f m
none_then s c f l m h none_yet = h
none_then s c f l m2 h (by_another {m = m} e g apart) = by_another e (none_then s c f l m h g) apart
none_then s c f l m2 h (by_itself {m = m} e g quiet) = by_itself e (none_then s c f l m h g) quiet

-- a client whose calls are all looks has made no change
pub none_looked : (calls : List Call) (begin : Seated) (first : State) (f : Entries) → ((i : ℕ) (call : Call) → slice_get calls i ≡ Some call → change_of call ≡ None) → MadeNone begin.home.setting begin.client f begin.front
    → (n : ℕ) (seat : Seated) (state : State) (answers : List Answer) → Lives calls begin first n seat state answers → MadeNone begin.home.setting begin.client f seat.front
none_looked calls begin first f look none n seat state answers lives_none = none
none_looked calls begin first f look none n2 seat2 state2 answers2 (lives_more {n = n} {seat = seat} {state = state} {answers = answers} call next kept a lives at called) =
    let s = begin.home.setting in
    let is = lives_seat calls begin first n seat state answers lives in
    let replied = replied_as begin seat state call next.front a is.0 is.1 called.replied in
    none_then s begin.client f seat.front next.front (none_looked calls begin first f look none n seat state answers lives)
    (replied.left (looks_alone s begin.client state call seat.front next.front a replied (look n call at)))

-- behind what has met all others no other has an entry
pub still : (s : Setting) (n own : ℕ) (log met f m : Entries) → OfSeats n log → HasMet s (λ c. (c < n) × (c ≢ own)) log met → Begins met f → Longer (MayFollow s) own f m → Begins m log → m ≡ f
still s n own log met f m known others begins logs.same end = refl
still s n own log met f m2 known others begins (logs.more {m = m} e b rule apart) end =
    absurd (apart (own_entry s n own log met known others m end.0 e (begins-then met f m begins (longer-begins (MayFollow s) own f m b)) (end.1 ∙ append_assoc m (e ∷ []) end.0)))
