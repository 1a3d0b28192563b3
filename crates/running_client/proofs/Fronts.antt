-- Fronts as they grow, and the changes of the map in them.
use Rattle.std.specs.Prelude.{◌≡◌, ℕ, ◌≤◌, [], ◌∷◌, ◌++◌, length, reverse}
use Rattle.std.proofs.Common.{sym, ◌∙◌, ap, subst, inl, inr, arith, append_assoc, append-nil}
use Rattle.verb_log.specs.Tables.{Past, Before, here, later}
use Rattle.verb_log.proofs.InOrder.{reverse_push}
use Rattle.verbs.specs.Logs as logs
use Rattle.verbs.specs.Logs.{Entries, Begins, Longer}
use Rattle.race_laws.specs.Setting.{Setting}
use Rattle.race_laws.specs.Legal.{MayFollow}
use Rattle.log_facts.specs.Among.{changes_of}
use Rattle.call_laws.proofs.Moments.{fewer_changes}
use Rattle.running_client.specs.Points.{MadeNone, none_yet, by_another, by_itself, MetIsSeen}
use Rattle.running_client.specs.Running.{IsNext}

-- a log that begins another has it behind
before_on : (l rest : Entries) → Before (reverse l) (reverse (l ++ rest))
before_on l [] = subst (λ x. Before (reverse l) (reverse x)) (sym (append-nil l)) here
before_on l (e ∷ rest) = by (subst (λ x. Before (reverse (l ++ e ∷ [])) (reverse x)) (append_assoc l (e ∷ []) rest) (before_on (l ++ e ∷ []) rest))
  where
    back : {q : Past} → Before (e ∷ reverse l) q → Before (reverse l) q
    back here = later here
    back (later b) = later (back b)

    by : Before (reverse (l ++ e ∷ [])) (reverse (l ++ e ∷ rest)) → Before (reverse l) (reverse (l ++ e ∷ rest))
    by b = back (subst (λ x. Before x (reverse (l ++ e ∷ rest))) (reverse_push l e) b)

-- .. and has no more changes
pub changes_begin : (s : Setting) (l m : Entries) → Begins l m → length (changes_of s l) ≤ length (changes_of s m)
changes_begin s l m b = fewer_changes s.geometry (subst (λ x. Before (reverse l) (reverse x)) (sym b.1) (before_on l b.0))

-- a log that the client made no change since is begun by the one then
pub none_begins : (s : Setting) (c : ℕ) (l m : Entries) → MadeNone s c l m → Begins l m
none_begins s c l m none_yet = ([], sym (append-nil l))
none_begins s c l m2 (by_another {m = m} e h apart) = let x = none_begins s c l m h in (x.0 ++ e ∷ [], ap (λ y. y ++ e ∷ []) x.1 ∙ append_assoc l x.0 (e ∷ []))
none_begins s c l m2 (by_itself {m = m} e h quiet) = let x = none_begins s c l m h in (x.0 ++ e ∷ [], ap (λ y. y ++ e ∷ []) x.1 ∙ append_assoc l x.0 (e ∷ []))

-- others' entries are none of the client's
pub none_longer : (s : Setting) (c : ℕ) (f l m : Entries) → Longer (MayFollow s) c l m → MadeNone s c f l → MadeNone s c f m
none_longer s c f l m logs.same h = h
none_longer s c f l m2 (logs.more {m = m} e b rule apart) h = by_another e (none_longer s c f l m b h) apart

-- nor is an entry of the client that changed nothing
pub none_next : (s : Setting) (c : ℕ) (f m l : Entries) → IsNext c m l → changes_of s l ≡ changes_of s m → MadeNone s c f m → MadeNone s c f l
none_next s c f m l (inl e) quiet h = subst (MadeNone s c f) (sym e) h
none_next s c f m l (inr x) quiet h = subst (MadeNone s c f) (sym x.1) (by_itself x.0 h (ap (changes_of s) (sym x.1) ∙ quiet))

pub next_begins : (c : ℕ) (f m l : Entries) → Begins f m → IsNext c m l → Begins f l
next_begins c f m l b (inl e) = (b.0, e ∙ b.1)
next_begins c f m l b (inr x) = (b.0 ++ x.0 ∷ [], x.1 ∙ ap (λ y. y ++ x.0 ∷ []) b.1 ∙ append_assoc f b.0 (x.0 ∷ []))

-- what was met was seen
pub met_is_seen : MetIsSeen
met_is_seen s c call note before front a b =
    let few = changes_begin s note before b in
    ((λ x. let since = x.since in omega arith), (λ x. let least = x.least in omega arith))
