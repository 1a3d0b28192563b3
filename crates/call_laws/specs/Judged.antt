-- By what the calls of a client are judged.
use Rattle.std.specs.Prelude.{◌≡◌, ℕ, List, ◌∷◌, reverse, Some}
use Rattle.kv_block.specs.declared.changes.Change.{Change}
use Rattle.verb_log.specs.declared.entry.Entry.{Entry}
use Rattle.verb_log.specs.declared.kind.Kind.TheVariants.{Place}
use Rattle.verb_log.specs.Tables.{Past, Before}
use Rattle.verb_log.specs.Kinds.{kind}
use Rattle.verbs.specs.Programs.{Prog, ret, ask, Go, done}
use Rattle.verbs.specs.Logs.{Entries, Lengthened}
use Rattle.verbs.specs.Terms.{Terms}
use Rattle.verbs.specs.Calls.{CallTerms, SafeCall}
use Rattle.race_laws.specs.Setting.{Setting, hash}
use Rattle.race_laws.specs.Legal.{MayFollow}
use Rattle.race_laws.specs.Named.{PublishedIn}
use Rattle.log_facts.specs.Among.{among, changes_of}
use Rattle.log_facts.specs.Beside.{Beside}

-- calls are judged by the rule of legal logs, among others who keep it, and a log tells its changes of the map
abbrev pub judged : {S A : Type 0} → Setting → ℕ → (S → Prog (Go S A)) → CallTerms S A (List Change)
judged s c part = record { terms = among s c; hash = hash s; tells = changes_of s; part = part }

-- the same terms, where no entry of the client uses a lock of its own
abbrev pub mild_among : Setting → ℕ → Terms
mild_among s c = record {
  geometry = s.geometry;
  rule = λ l e. MayFollow s l e × Beside s c (reverse l) e;
  grows = Lengthened (MayFollow s) c;
  client = c;
  published = λ l at words. PublishedIn s.geometry (reverse l) at words;
}

-- calls without a split are judged by these
abbrev pub judged_mildly : {S A : Type 0} → Setting → ℕ → (S → Prog (Go S A)) → CallTerms S A (List Change)
judged_mildly s c part = record { terms = mild_among s c; hash = hash s; tells = changes_of s; part = part }

-- a program as a call of one part, which is done where the program ends
abbrev pub as_call : {S A : Type 0} → Prog A → Prog (Go S A)
as_call (ret a) = ret (done a)
as_call (ask act k) = ask act (λ answer. as_call (k answer))

-- no part starts again
abbrev pub no_part : {A : Type 0} → ⊥ → Prog (Go ⊥ A)
no_part s = absurd s

-- a program is safe as a call of one part: on a log that the client has seen, whatever others add before each of its verbs, it ends
-- within n acts, each verb may be done where it is and uses no lock of the client, no verb but the last changes the map, and `End`
-- holds of the changes before the last verb, of the log and of the outcome
abbrev pub SafeOnce : {A : Type 0} → Setting → ℕ → ℕ → List Change → Entries → Prog A → (List Change → Entries → A → Type 0) → Type 0
SafeOnce s c n before l p End = SafeCall (judged_mildly s c no_part) n before l (as_call p) End

-- since a position a client has placed no word: so no pending word of its own stands
abbrev pub PlacedNone : Setting → ℕ → Past → Past → Type 0
PlacedNone s c from q = (e : Entry) (x : Past) → Before (e ∷ x) q → Before from x → e.client ≡ c → kind s.geometry x e ≡ Some Place → ⊥
