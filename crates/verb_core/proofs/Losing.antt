-- The lost swaps of a call's trace.
use Rattle.std.specs.Prelude.{◌≡◌, ℕ, List, [], ◌∷◌, ◌++◌, refl}
use Rattle.std.proofs.Common.{sym, subst}
use Rattle.loss_laws.specs.Loses.{lost_by}
use Rattle.world_texts.specs.Sorts.{Kind, onward}
use Rattle.world_texts.specs.Losses.{Left, left_none, left_more, AgainIsLost}
use Rattle.verb_core.specs.Play.{Event}
use Rattle.verb_core.specs.Traces.{RanCall, ran_none, ran_more, lost_from, lost_in, AgainTraces}

lost-last : (n : ℕ) (t : List Event) (e : Event) → lost_from n (t ++ e ∷ []) ≡ lost_by e.verb e.answer (lost_from n t)
lost-last n [] e = refl
lost-last n (x ∷ t) e = lost-last (lost_by x.verb x.answer n) t e

ran-left : {M : Type 0} (kind : Kind M) (hash : List ℕ → ℕ) (p : kind.sort.Text) (t : List Event) (q : kind.sort.Text) → RanCall kind hash p t q → Left kind.sort hash p (lost_in t) q
ran-left {M} kind hash p t q ran_none = left_none
ran-left {M} kind hash p t2 q2 (ran_more {t = t} {q = q} e r asks) =
    subst (λ n. Left kind.sort hash p n (onward kind.sort hash q e.choice e.answer)) (sym (lost-last 0 t e)) (left_more e.choice e.answer e.verb (ran-left kind hash p t q r) asks)

pub again_traces : {M : Type 0} (kind : Kind M) → AgainIsLost kind.sort → AgainTraces kind
again_traces {M} kind law hash state call t q d r e = law hash state call (lost_in t) q d (ran-left kind hash (kind.sort.begun hash state call) t q r) e
