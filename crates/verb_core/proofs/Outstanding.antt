-- How many verbs of a client are outstanding.
use Rattle.std.specs.Prelude.{◌≡◌, ℕ, ◌+◌, ◌^◌, option_map, ◌<◌, Bool, true, false, nat_lt, if◌then◌else◌, List, length, slice_get, Option, Some, None, refl}
use Rattle.std.proofs.Common.{sym, ◌∙◌, ap, arith}
use Rattle.std.proofs.lemmas.Bool.Decides.{nat_tests}
use Rattle.std.proofs.lemmas.Option.{slice_get_within}
use Rattle.verb_log.proofs.Positions.{item_there}
use Rattle.map_model.specs.declared.plans.Plan.{Plan}
use Rattle.map_model.specs.declared.records.Record.{Record}
use Rattle.verbs.specs.Logs.{Entries}
use Rattle.race_laws.specs.Setting.{Setting}
use Rattle.verb_core.specs.declared.player.Open.{Open}
use Rattle.verb_core.specs.declared.player.Player.{Player}
use Rattle.world_texts.specs.Sorts.{Kind}
use Rattle.verb_core.specs.Kept.{IsKept}
use Rattle.verb_core.specs.Play.{unfinished_of, outstanding_by, outstanding_of}
use Rattle.verb_core.proofs.Worlds.{steady, spent_few}
use Rattle.verb_core.proofs.Ready.{one_player}

pub settled_at : {M : Type 0} (kind : Kind M) (s : Setting) (plans : List Plan) (l : Entries) (players : List (Player M)) (records : List Record) (c : ℕ) (p : Player M) (o : Open M) → IsKept kind s plans l players records → slice_get players c ≡ Some p → p.under_way ≡ Some o → kind.wants o.machine ≡ None
settled_at kind s plans l players records c p o k th e =
    let low = slice_get_within players c p th in
    let same = k.sized in
    let plan = item_there plans c (omega arith) in
    (steady kind s l records c plan.0 p (k.playing c plan.0 p plan.1 th) o e).0

pub outstanding_some : {M : Type 0} (kind : Kind M) (hash : List ℕ → ℕ) (plan : Plan) (p : Player M) (o : Open M) (n : ℕ) → p.under_way ≡ Some o → n ≡ length (kind.sort.outstanding (kind.text hash o.machine)) → n ≡ outstanding_of kind hash plan p
outstanding_some {M} kind hash plan p o n e h = h ∙ ap (λ (u : Option (Open M)). outstanding_by kind hash plan p.answered u) (sym e)

pub outstanding_one : {M : Type 0} (kind : Kind M) (hash : List ℕ → ℕ) (plan : Plan) (p : Player M) → p.under_way ≡ None → p.answered < length plan.calls.items → 1 ≡ outstanding_of kind hash plan p
outstanding_one {M} kind hash plan p e h = let t : nat_lt p.answered (length plan.calls.items) ≡ true = grind (arith, nat_tests) in ap (λ (b : Bool). if b then 1 else 0) (sym t) ∙ ap (λ (u : Option (Open M)). outstanding_by kind hash plan p.answered u) (sym e)

pub outstanding_none : {M : Type 0} (kind : Kind M) (hash : List ℕ → ℕ) (plan : Plan) (p : Player M) → p.under_way ≡ None → (p.answered < length plan.calls.items → ⊥) → 0 ≡ outstanding_of kind hash plan p
outstanding_none {M} kind hash plan p e h = let t : nat_lt p.answered (length plan.calls.items) ≡ false = off p.answered (length plan.calls.items) h in ap (λ (b : Bool). if b then 1 else 0) (sym t) ∙ ap (λ (u : Option (Open M)). outstanding_by kind hash plan p.answered u) (sym e)
  where
    off : (a b : ℕ) → (a < b → ⊥) → nat_lt a b ≡ false
    off a b h = by (nat_lt a b) refl
      where
        by : (v : Bool) → nat_lt a b ≡ v → nat_lt a b ≡ false
        by true e = absurd (h (let x : a < b = grind (arith, nat_tests, e) in x))
        by false e = e

-- the number of the call under way
pub answered_few : {M : Type 0} (kind : Kind M) (s : Setting) (plans : List Plan) (l : Entries) (players : List (Player M)) (records : List Record) (c : ℕ) (p : Player M) → IsKept kind s plans l players records → slice_get players c ≡ Some p → p.answered < 2 ^ 31
answered_few kind s plans l players records c p k th =
    let low = slice_get_within players c p th in
    let same = k.sized in
    let plan = item_there plans c (omega arith) in
    (spent_few kind s l records c plan.0 p (k.playing c plan.0 p plan.1 th)).1

pub unfinished_some : {M : Type 0} (q p : Player M) (o : Open M) → Some q ≡ Some p → q.under_way ≡ Some o → Some (q.answered + 1) ≡ unfinished_of p
unfinished_some {M} q p o same e = ap (λ (u : Option (Open M)). option_map (λ x. q.answered + 1) u) (sym e) ∙ ap (λ (x : Player M). unfinished_of x) (one_player q p same)

pub unfinished_none : {M : Type 0} (q p : Player M) → Some q ≡ Some p → q.under_way ≡ None → None ≡ unfinished_of p
unfinished_none {M} q p same e = ap (λ (u : Option (Open M)). option_map (λ x. q.answered + 1) u) (sym e) ∙ ap (λ (x : Player M). unfinished_of x) (one_player q p same)
