-- Where a client stands before and after its verb.
use Rattle.std.specs.Prelude.{◌≡◌, ℕ, ◌+◌, Bool, true, false, List, Option, Some, None, is_some, IsSome, refl, option_map}
use Rattle.std.proofs.Common.{sym, ◌∙◌, ap}
use Rattle.map_model.specs.declared.calls.Call.{Call}
use Rattle.verb_log.specs.declared.entry.Verb.{Verb}
use Rattle.verbs.specs.Logs.{Entries, Did}
use Rattle.node_words.specs.declared.geometry.Geometry.{Geometry}
use Rattle.call_texts.specs.State.{State, CallEnd, state_after}
use Rattle.world_texts.specs.Sorts.{Kind, chosen, onward}
use Rattle.verb_core.specs.declared.player.Open.{Open}
use Rattle.verb_core.specs.declared.player.Player.{Player}
use Rattle.verb_core.specs.Going.{Went}
use Rattle.verb_core.specs.Play.{Going, Stage, going_of, stage, or_next, moved_by, moved_to}

pub moved_done : {M : Type 0} (kind : Kind M) (st : Stage kind.sort.Text) (going : Going kind.sort.Text) (q : kind.sort.Text) (d : CallEnd) → kind.sort.answer q ≡ Some d → moved_to kind st going q ≡ record { state = state_after st.state d; answered = st.answered + 1; verbs = st.verbs + 1; going = None }
moved_done kind st going q d e = ap (λ (o : Option CallEnd). moved_by st going q o) e

pub moved_on : {M : Type 0} (kind : Kind M) (st : Stage kind.sort.Text) (going : Going kind.sort.Text) (q : kind.sort.Text) → kind.sort.answer q ≡ None → moved_to kind st going q ≡ record { state = st.state; answered = st.answered; verbs = st.verbs + 1; going = Some (record { left = q; lo = going.lo; verbs = going.verbs + 1 }) }
moved_on kind st going q e = ap (λ (o : Option CallEnd). moved_by st going q o) e

pub none_open : {M : Type 0} (kind : Kind M) (hash : List ℕ → ℕ) (u : Option (Open M)) → option_map (going_of kind hash) u ≡ None → u ≡ None
none_open {M} kind hash None e = refl
none_open {M} kind hash (Some o) e = absurd (cc)

pub some_open : {M : Type 0} (kind : Kind M) (hash : List ℕ → ℕ) (u : Option (Open M)) (going : Going kind.sort.Text) → option_map (going_of kind hash) u ≡ Some going → (o : Open M) × (u ≡ Some o) × (going_of kind hash o ≡ going)
some_open {M} kind hash None going e = absurd (cc)
some_open {M} kind hash (Some o) going e = (o, refl, is (going_of kind hash o) e)
  where
    is : (x : Going kind.sort.Text) → Some x ≡ Some going → x ≡ going
    is x e = cc

pub none_answer : {X : Type 0} (o : Option X) → false ≡ is_some o → o ≡ None
none_answer None e = refl
none_answer (Some d) e = absurd (cc)

pub answer_there : {X : Type 0} {o : Option X} → IsSome o → (x : X) × (o ≡ Some x)
answer_there {o = Some x} h = (x, refl)
answer_there {o = None} h = absurd (cc)

pub an_answer : {X : Type 0} (o : Option X) → true ≡ is_some o → (d : X) × (o ≡ Some d)
an_answer None e = absurd (cc)
an_answer (Some d) e = (d, refl)

-- a client that is about to do a verb of its call under way, or of the next one, which has begun
pub record Begun {M : Type 0} (kind : Kind M) (hash : List ℕ → ℕ) (lo : ℕ) (call : Call) (p b : Player M) (o : Open M) : Type 0 where
  pub state : b.state ≡ p.state
  pub answered : b.answered ≡ p.answered
  pub verbs : b.verbs ≡ p.verbs
  pub under : b.under_way ≡ Some o
  pub is : or_next kind hash lo p.state (option_map (going_of kind hash) p.under_way) (Some call) ≡ Some (going_of kind hash o)

-- .. and once it has done it
pub record Gone {M : Type 0} (b n : Player M) (q : Open M) : Type 0 where
  pub state : n.state ≡ b.state
  pub answered : n.answered ≡ b.answered
  pub verbs : n.verbs ≡ b.verbs + 1
  pub under : n.under_way ≡ Some q

-- .. and once what the call leaves is kept
pub record Closed {M : Type 0} (n x : Player M) (d : CallEnd) : Type 0 where
  pub state : x.state ≡ state_after n.state d
  pub answered : x.answered ≡ n.answered + 1
  pub verbs : x.verbs ≡ n.verbs
  pub none : x.under_way ≡ None

player_is : {M : Type 0} (kind : Kind M) (hash : List ℕ → ℕ) (x : Player M) (state : State) (answered verbs : ℕ) (u : Option (Open M)) → x.state ≡ state → x.answered ≡ answered → x.verbs ≡ verbs → x.under_way ≡ u → stage kind hash x ≡ record { state = state; answered = answered; verbs = verbs; going = option_map (going_of kind hash) u }
player_is {M} kind hash x state answered verbs u a b d e =
    ap (λ (y : State). let r : Stage kind.sort.Text = record { state = y; answered = x.answered; verbs = x.verbs; going = option_map (going_of kind hash) x.under_way } in r) a
    ∙ ap (λ (n : ℕ). let r : Stage kind.sort.Text = record { state = state; answered = n; verbs = x.verbs; going = option_map (going_of kind hash) x.under_way } in r) b
    ∙ ap (λ (n : ℕ). let r : Stage kind.sort.Text = record { state = state; answered = answered; verbs = n; going = option_map (going_of kind hash) x.under_way } in r) d
    ∙ ap (λ (o : Option (Open M)). let r : Stage kind.sort.Text = record { state = state; answered = answered; verbs = verbs; going = option_map (going_of kind hash) o } in r) e

going_is : {M : Type 0} (kind : Kind M) (hash : List ℕ → ℕ) (o q : Open M) (t : kind.sort.Text) → kind.text hash q.machine ≡ t → q.lo ≡ o.lo → q.verbs ≡ o.verbs + 1 → going_of kind hash q ≡ record { left = t; lo = o.lo; verbs = o.verbs + 1 }
going_is kind hash o q t a b d =
    ap (λ (x : kind.sort.Text). let r : Going kind.sort.Text = record { left = x; lo = q.lo; verbs = q.verbs } in r) a
    ∙ ap (λ (n : ℕ). let r : Going kind.sort.Text = record { left = t; lo = n; verbs = q.verbs } in r) b
    ∙ ap (λ (n : ℕ). let r : Going kind.sort.Text = record { left = t; lo = o.lo; verbs = n } in r) d

-- what a verb made of a client, whose call was so, and which was answered with this word
pub record Turned {M : Type 0} (kind : Kind M) (hash : List ℕ → ℕ) (g : Geometry) (c : ℕ) (l m : Entries) (lo : ℕ) (call : Call) (p next : Player M) (choice : ℕ) (answered : Bool) (going : Going kind.sort.Text) (word : ℕ) : Type 0 where
  pub verb : Verb
  pub begins : or_next kind hash lo p.state (option_map (going_of kind hash) p.under_way) (Some call) ≡ Some going
  pub asks : chosen (kind.sort.outstanding going.left) choice ≡ Some verb
  pub did : Did g c l verb m word
  pub moves : stage kind hash next ≡ moved_to kind (stage kind hash p) going (onward kind.sort hash going.left choice word)
  pub tells : answered ≡ is_some (kind.sort.answer (onward kind.sort hash going.left choice word))

module _ {M : Type 0} (kind : Kind M) (hash : List ℕ → ℕ) (g : Geometry) (c : ℕ) (l m : Entries) (lo : ℕ) (call : Call) (p b n : Player M) (o q : Open M) (choice : ℕ) where
  -- a call that goes on
  pub turned_on : Begun kind hash lo call p b o → (went : Went kind hash g c l choice o m q false) → Gone b n q → Turned kind hash g c l m lo call p n choice false (going_of kind hash o) went.word
  turned_on begun went gone =
      let t = onward kind.sort hash (kind.text hash o.machine) choice went.word in
      let none = none_answer (kind.sort.answer t) (went.tells ∙ ap (λ (x : kind.sort.Text). is_some (kind.sort.answer x)) went.left) in
      record {
        verb = went.verb;
        begins = begun.is;
        asks = went.asks;
        did = went.did;
        moves = player_is kind hash n p.state p.answered (p.verbs + 1) (Some q) (gone.state ∙ begun.state) (gone.answered ∙ begun.answered) (gone.verbs ∙ ap (λ (v : ℕ). v + 1) begun.verbs) gone.under
            ∙ ap (λ (x : Going kind.sort.Text). let r : Stage kind.sort.Text = record { state = p.state; answered = p.answered; verbs = p.verbs + 1; going = Some x } in r) (going_is kind hash o q t went.left went.lo went.more)
            ∙ sym (moved_on kind (stage kind hash p) (going_of kind hash o) t none);
        tells = went.tells ∙ ap (λ (x : kind.sort.Text). is_some (kind.sort.answer x)) went.left;
      }

  -- what the call that has ended came to
  pub ended_with : Went kind hash g c l choice o m q true → (d : CallEnd) × (kind.sort.answer (kind.text hash q.machine) ≡ Some d)
  ended_with went = an_answer (kind.sort.answer (kind.text hash q.machine)) went.tells

  -- a call that has ended
  pub turned_done : (x : Player M) (d : CallEnd) → Begun kind hash lo call p b o → (went : Went kind hash g c l choice o m q true) → Gone b n q → kind.sort.answer (kind.text hash q.machine) ≡ Some d → Closed n x d → Turned kind hash g c l m lo call p x choice true (going_of kind hash o) went.word
  turned_done x d begun went gone is closed =
      let t = onward kind.sort hash (kind.text hash o.machine) choice went.word in
      let some = ap kind.sort.answer (sym went.left) ∙ is in
      record {
        verb = went.verb;
        begins = begun.is;
        asks = went.asks;
        did = went.did;
        moves = player_is kind hash x (state_after p.state d) (p.answered + 1) (p.verbs + 1) None (closed.state ∙ ap (λ (y : State). state_after y d) (gone.state ∙ begun.state)) (closed.answered ∙ ap (λ (v : ℕ). v + 1) (gone.answered ∙ begun.answered)) (closed.verbs ∙ gone.verbs ∙ ap (λ (v : ℕ). v + 1) begun.verbs) closed.none
            ∙ sym (moved_done kind (stage kind hash p) (going_of kind hash o) t d some);
        tells = went.tells ∙ ap (λ (y : kind.sort.Text). is_some (kind.sort.answer y)) went.left;
      }

-- the next call, where none was under way
pub next_begun : {M : Type 0} (kind : Kind M) (hash : List ℕ → ℕ) (lo : ℕ) (state : State) (u : Option (Open M)) (next : Option Call) (call : Call) (o : Open M) → u ≡ None → next ≡ Some call → going_of kind hash o ≡ record { left = kind.sort.begun hash state call; lo = lo; verbs = 0 } → or_next kind hash lo state (option_map (going_of kind hash) u) next ≡ Some (going_of kind hash o)
next_begun {M} kind hash lo state u next call o n e g =
    ap (λ (x : Option (Open M)). or_next kind hash lo state (option_map (going_of kind hash) x) next) n
    ∙ ap (λ (x : Option Call). or_next kind hash lo state None x) e
    ∙ ap (λ (x : Going kind.sort.Text). Some x) (sym g)

-- and the one that was
pub same_begun : {M : Type 0} (kind : Kind M) (hash : List ℕ → ℕ) (lo : ℕ) (state : State) (u : Option (Open M)) (next : Option Call) (o : Open M) → u ≡ Some o → or_next kind hash lo state (option_map (going_of kind hash) u) next ≡ Some (going_of kind hash o)
same_begun {M} kind hash lo state u next o e = ap (λ (x : Option (Open M)). or_next kind hash lo state (option_map (going_of kind hash) x) next) e
