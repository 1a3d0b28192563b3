-- Programs that change nothing in the map, inside a call.
use Rattle.std.specs.Prelude.{◌≡◌, ℕ, ◌+◌, List, reverse}
use Rattle.kv_block.specs.declared.changes.Change.{Change}
use Rattle.verb_log.specs.Tables.{Past}
use Rattle.verbs.specs.Programs.{Prog, bind, Go, goes_on, Within, Costs}
use Rattle.verbs.specs.Logs.{Entries}
use Rattle.verbs.specs.Calls.{SafeCall}
use Rattle.verbs.proofs.Safes.{Safe-end}
use Rattle.verbs.proofs.Calls.{SafeCall-bind, SafeCall-bind_costs}
use Rattle.race_laws.specs.Setting.{Setting, hash}
use Rattle.log_facts.specs.Among.{changes_of, quiet_among}
use Rattle.log_facts.specs.Entries.{Unchanging}
use Rattle.pass_laws.specs.SafeIn.{SafeBy, Calmly, SafeIn}
use Rattle.pass_laws.proofs.Bridge.{by_quiet, safe_in_order}
use Rattle.pass_laws.proofs.Rules.{by_weaker}
use Rattle.call_laws.specs.Judged.{judged}

module _ {S A X : Type 0} (s : Setting) (c : ℕ) (part : S → Prog (Go S A)) (p : Prog X) (f : X → Prog (Go S A)) (EndIn : Past → X → Type 0) (End : List Change → Entries → A → Type 0) where
  -- a program that is safe newest first and changes nothing in the map, and then what follows its outcome
  pub quiet_bind : (k n : ℕ) (b : List Change) (l : Entries) → Within k p → changes_of s l ≡ b → SafeBy Unchanging s c (reverse l) p EndIn
      → ((m : Entries) (x : X) (d : List Change) → EndIn (reverse m) x → changes_of s m ≡ d → SafeCall (judged s c part) n d m (goes_on part (f x)) End)
      → SafeCall (judged s c part) (k + n) b l (goes_on part (bind p f)) End
  quiet_bind k n b l w same h go =
      SafeCall-bind (judged s c part) End p f k n b l w same
      (Safe-end (quiet_among s c) (hash s) l p (λ m x. EndIn (reverse m) x) (λ m x. (d : List Change) → changes_of s m ≡ d → SafeCall (judged s c part) n d m (goes_on part (f x)) End)
      (λ m x e d q. go m x d e q) (by_quiet Unchanging s c (λ q e r. r) l p EndIn h))

  -- .. by calm entries
  pub call_bind : (k n : ℕ) (b : List Change) (l : Entries) → Within k p → changes_of s l ≡ b → SafeIn s c (reverse l) p EndIn
      → ((m : Entries) (x : X) (d : List Change) → EndIn (reverse m) x → changes_of s m ≡ d → SafeCall (judged s c part) n d m (goes_on part (f x)) End)
      → SafeCall (judged s c part) (k + n) b l (goes_on part (bind p f)) End
  call_bind k n b l w same h go = quiet_bind k n b l w same (by_weaker Calmly s c Unchanging (λ q e r. r.0) (reverse l) p EndIn EndIn (λ q x e. e) h) go

  -- .. where what follows each outcome may cost so many acts
  pub call_costs : (cost : X → ℕ) (k n : ℕ) (b : List Change) (l : Entries) → Costs cost k p → changes_of s l ≡ b → SafeIn s c (reverse l) p EndIn
      → ((m : Entries) (x : X) (d : List Change) → EndIn (reverse m) x → changes_of s m ≡ d → SafeCall (judged s c part) (cost x + n) d m (goes_on part (f x)) End)
      → SafeCall (judged s c part) (k + n) b l (goes_on part (bind p f)) End
  call_costs cost k n b l w same h go =
      SafeCall-bind_costs (judged s c part) End p f cost k n b l w same
      (Safe-end (quiet_among s c) (hash s) l p (λ m x. EndIn (reverse m) x) (λ m x. (d : List Change) → changes_of s m ≡ d → SafeCall (judged s c part) (cost x + n) d m (goes_on part (f x)) End)
      (λ m x e d q. go m x d e q) (safe_in_order s c l p EndIn h))
