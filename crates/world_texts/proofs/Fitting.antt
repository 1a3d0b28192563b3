-- What a client keeps, as the log grows.
use Rattle.std.specs.Prelude.{ℕ, List, [], ◌∷◌, ◌++◌, reverse}
use Rattle.std.proofs.Common.{sym, subst, append-nil, append_assoc}
use Rattle.verb_log.specs.Tables.{Past, Before, here, later}
use Rattle.verb_log.proofs.InOrder.{reverse_push}
use Rattle.verbs.specs.Logs.{Entries, Begins, MayStand}
use Rattle.race_laws.specs.Setting.{Setting}
use Rattle.race_laws.specs.Legal.{MayFollow}
use Rattle.log_facts.proofs.Growing.{stands_legal, longer_since}
use Rattle.map_model.specs.declared.calls.Call.{Call}
use Rattle.kv_block.specs.declared.changes.Change.{Change}
use Rattle.call_texts.specs.State.{State, CallEnd}
use Rattle.whole_calls.specs.Right.{Right}
use Rattle.whole_calls.specs.Fits.{FreshFits, StaysFitting}
use Rattle.whole_calls.specs.Law.{LeavesFitting}
use Rattle.world_texts.specs.Fits.{Fits}
use Rattle.world_texts.specs.Safety.{EndsWell, StayFit, FirstFit}

-- a log that begins another has it behind
before_on : (l rest : Entries) → Before (reverse l) (reverse (l ++ rest))
before_on l [] = subst (λ x. Before (reverse l) (reverse x)) (sym (append-nil l)) here
before_on l (e ∷ rest) = by (subst (λ x. Before (reverse (l ++ e ∷ [])) (reverse x)) (append_assoc l (e ∷ []) rest) (before_on (l ++ e ∷ []) rest))
  where
    back : {q : Past} → Before (e ∷ reverse l) q → Before (reverse l) q
    back here = later here
    back (later b) = later (back b)

    by : Before (reverse (l ++ e ∷ [])) (reverse (l ++ e ∷ rest)) → Before (reverse l) (reverse (l ++ e ∷ rest))
    by b = back (subst (λ x. Before x (reverse (l ++ e ∷ rest))) (reverse_push l e) b)

begins_before : (l m : Entries) → Begins l m → Before (reverse l) (reverse m)
begins_before l m b = subst (λ x. Before (reverse l) (reverse x)) (sym b.1) (before_on l b.0)

module _ (fresh : FreshFits) (stay : StaysFitting) (leave : LeavesFitting) where
  -- others' entries leave it fitting
  pub fits_longer : StayFit
  fits_longer s l m c k b f = record { state = stay s c k (reverse l) (reverse m) (longer_since s c l m b.1) (stands_legal s m b.0) f.state; some = f.some; few = f.few }

  -- a state of no call fits the empty log
  pub fits_first : FirstFit
  fits_first s c k g cl d none left ticket some few = record { state = fresh s c k [] g cl d none left ticket; some = some; few = few }

  -- a call that is answered rightly ends well
  pub ends_well : (s : Setting) (c : ℕ) (call : Call) (k : State) (first : Entries) → Fits s first c k → (before : List Change) (l : Entries) (e : CallEnd) → MayStand (MayFollow s) l → Begins first l → Right s c call k first before l e → EndsWell s c call k first before l e
  ends_well s c call k first f before l e st b r = record {
    right = r;
    fits = record { state = leave s c k call first l before e (stands_legal s l st) (begins_before first l b) f.state r; some = f.some; few = f.few };
  }
