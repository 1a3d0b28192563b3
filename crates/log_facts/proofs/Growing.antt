-- Logs in order that may stand and that others lengthen, as logs newest entry first. Of every log.
use Rattle.std.specs.Prelude.{◌≡◌, ℕ, ◌<◌, [], ◌∷◌, ◌++◌, reverse}
use Rattle.std.proofs.Common.{sym, ap, subst, append-nil, append_assoc}
use Rattle.node_words.specs.declared.geometry.Geometry.{Geometry}
use Rattle.verb_log.specs.declared.entry.Entry.{Entry}
use Rattle.verb_log.specs.Tables.{Past, Before, here, later}
use Rattle.verb_log.proofs.InOrder.{reverse_push, replay_index}
use Rattle.verbs.specs.Logs as logs
use Rattle.verbs.specs.Logs.{Entries, change, GoesOn, MayStand, Longer}
use Rattle.race_laws.specs.Setting.{Setting}
use Rattle.race_laws.specs.Legal.{Legal, MayFollow}
use Rattle.log_facts.specs.Since.{change_in, Since, same, more}

goes_legal : (s : Setting) (l rest : Entries) → Legal s (reverse l) → GoesOn (MayFollow s) l rest → Legal s (reverse (l ++ rest))
goes_legal s l [] h g = subst (λ x. Legal s (reverse x)) (sym (append-nil l)) h
goes_legal s l (e ∷ rest) h g = subst (λ x. Legal s (reverse x)) (append_assoc l (e ∷ []) rest) (goes_legal s (l ++ e ∷ []) rest (subst (Legal s) (sym (reverse_push l e)) (h, g.0)) g.1)

-- a log that may stand is legal
pub stands_legal : (s : Setting) (l : Entries) → MayStand (MayFollow s) l → Legal s (reverse l)
unfolding MayStand
stands_legal s l g = goes_legal s [] l tt g

-- others' entries, newest first
pub longer_since : (s : Setting) (c : ℕ) (l m : Entries) → Longer (MayFollow s) c l m → Since c (reverse l) (reverse m)
longer_since s c l m logs.same = same
longer_since s c l m (logs.more {m = n} e b r o) = subst (Since c (reverse l)) (sym (reverse_push n e)) (more e (longer_since s c l n b) o)

-- what others have made of a log has it behind
pub since_before : {c : ℕ} {p q : Past} → Since c p q → Before p q
since_before same = here
since_before (more e b o) = later (since_before b)

pub since_trans : {c : ℕ} {p q r : Past} → Since c p q → Since c q r → Since c p r
since_trans a same = a
since_trans a (more e b o) = more e (since_trans a b) o

-- a client's entry is the same in both orders
pub change_same : (g : Geometry) (c : ℕ) (l : Entries) (at new : ℕ) → at < g.words → change g c l at new ≡ change_in g c (reverse l) at new
change_same g c l at new h = ap (λ (w : ℕ). let e : Entry = record { client = c; at = at; old = w; new = new } in e) (replay_index g l at h)
