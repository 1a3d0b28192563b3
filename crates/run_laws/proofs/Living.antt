-- Calls of a client, one after another.
use Rattle.std.specs.Prelude.{◌≡◌, ℕ, ◌+◌, List, [], ◌∷◌, ◌++◌, length, slice_get, Some, refl}
use Rattle.std.proofs.Common.{sym, ◌∙◌, ap, subst, arith, append-nil, append_assoc, length-append}
use Rattle.kv_block.specs.declared.changes.Change.{Change}
use Rattle.map_model.specs.declared.calls.Call.{Call}
use Rattle.map_model.specs.Machine.{reply_of}
use Rattle.verbs.specs.Logs.{Entries, Begins}
use Rattle.verbs.proofs.Growth.{begins-then}
use Rattle.race_laws.specs.Setting.{Setting}
use Rattle.log_facts.specs.Among.{changes_of}
use Rattle.client_seat.specs.Seated.{Home, Seated}
use Rattle.call_texts.specs.State.{State}
use Rattle.call_machine.specs.declared.answer.Answer.{Answer}
use Rattle.running_client.specs.Points.{Replied}
use Rattle.running_client.proofs.Fronts.{changes_begin}
use Rattle.run_laws.specs.Lives.{Lives, lives_none, lives_more}
use Rattle.run_laws.specs.Whole.{RightOverAll}
use Rattle.run_laws.proofs.Fronts.{changes_since, map_front}

get_at : (done : List Change) (c : Change) (cs : List Change) → slice_get (done ++ c ∷ cs) (length done) ≡ Some c
get_at [] c cs = refl
get_at (d ∷ done) c cs = get_at done c cs

-- the change of a call is that of its number
pub change_at : (s : Setting) (until front log : Entries) (change : Change) → Begins front log → changes_of s front ≡ changes_of s until ++ change ∷ [] → slice_get (changes_of s log) (length (changes_of s until)) ≡ Some change
change_at s until front log change b made =
    let more = changes_since s front b.0 in
    ap (λ l. slice_get l (length (changes_of s until))) (ap (changes_of s) b.1 ∙ more.1 ∙ ap (λ y. y ++ more.0) made ∙ append_assoc (changes_of s until) (change ∷ []) more.0) ∙ get_at (changes_of s until) change more.0

pub one_longer : (s : Setting) (until front : Entries) (change : Change) → changes_of s front ≡ changes_of s until ++ change ∷ [] → length (changes_of s front) ≡ length (changes_of s until) + 1
one_longer s until front change made = ap (length {A = Change}) made ∙ length-append (changes_of s until) (change ∷ [])

pub right_over_all : RightOverAll
right_over_all s c state call before front log a b r = record {
  order = changes_begin s before front r.begins;
  within = changes_begin s front log b;
  quiet = λ h. let q = r.quiet h in (q.point, q.least, q.most, ap (λ m. reply_of m call) (map_front s front log q.point b q.most) ∙ q.answers);
  changed = λ h.
      let x = r.changed h in
      let point = length (changes_of s x.until) in
      let long = one_longer s x.until front x.change x.made in
      (point, x.since, sym long, change_at s x.until front log x.change b x.made ∙ sym x.is, ap (λ m. reply_of m call) (map_front s front log point b (omega arith)) ∙ x.answers);
}

module _ (calls : List Call) (begin : Seated) (first : State) where
  -- the seat is that of the same client
  pub lives_seat : (n : ℕ) (seat : Seated) (state : State) (answers : List Answer) → Lives calls begin first n seat state answers → (seat.home ≡ begin.home) × (seat.client ≡ begin.client)
  lives_seat n seat state answers lives_none = (refl, refl)
  lives_seat n2 seat2 state2 answers2 (lives_more {n = n} {seat = seat} {state = state} {answers = answers} call next kept a lives at called) =
      let x = lives_seat n seat state answers lives in (called.home ∙ x.0, called.client ∙ x.1)

  -- as many answers as calls
  pub lives_many : (n : ℕ) (seat : Seated) (state : State) (answers : List Answer) → Lives calls begin first n seat state answers → length answers ≡ n
  lives_many n seat state answers lives_none = refl
  lives_many n2 seat2 state2 answers2 (lives_more {n = n} {seat = seat} {state = state} {answers = answers} call next kept a lives at called) =
      let e = length-append answers (a ∷ []) in let m = lives_many n seat state answers lives in omega arith

  -- the first front begins the last
  pub lives_begins : (n : ℕ) (seat : Seated) (state : State) (answers : List Answer) → Lives calls begin first n seat state answers → Begins begin.front seat.front
  lives_begins n seat state answers lives_none = ([], sym (append-nil begin.front))
  lives_begins n2 seat2 state2 answers2 (lives_more {n = n} {seat = seat} {state = state} {answers = answers} call next kept a lives at called) =
      begins-then begin.front seat.front next.front (lives_begins n seat state answers lives) called.replied.begins

-- a call is of the client that begins
pub replied_as : (begin seat : Seated) (state : State) (call : Call) (front : Entries) (a : Answer) → seat.home ≡ begin.home → seat.client ≡ begin.client → Replied seat.home.setting seat.client state call seat.front front a
    → Replied begin.home.setting begin.client state call seat.front front a
replied_as begin seat state call front a home client r =
    subst (λ (c : ℕ). Replied begin.home.setting c state call seat.front front a) client
    (subst (λ (h : Home). Replied h.setting seat.client state call seat.front front a) home r)
