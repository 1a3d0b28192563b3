-- A program inside a whole call: one that is safe as a call of one part, and one that changes nothing in the map, and then what follows
-- its outcome.
use Rattle.std.specs.Prelude.{◌≡◌, ℕ, zero, suc, ◌+◌, List, reverse}
use Rattle.std.proofs.Common.{subst, arith}
use Rattle.kv_block.specs.declared.changes.Change.{Change}
use Rattle.verb_log.specs.Tables.{Past}
use Rattle.verbs.specs.Programs.{do_verb, ask_hash, Prog, ret, ask, bind, Go, goes_on, Costs}
use Rattle.verbs.specs.Logs.{Entries}
use Rattle.verbs.specs.Calls.{SafeCall}
use Rattle.verbs.proofs.Calls.{SafeCall-more, SafeCall-bind_costs}
use Rattle.verbs.proofs.Safes.{MayDo-map, Safe-end}
use Rattle.race_laws.specs.Setting.{Setting, hash}
use Rattle.log_facts.specs.Among.{among, changes_of, quiet_among}
use Rattle.log_facts.specs.Beside.{Firm}
use Rattle.log_facts.specs.Entries.{Unchanging}
use Rattle.pass_laws.specs.SafeIn.{SafeBy}
use Rattle.pass_laws.proofs.Bridge.{by_quiet}
use Rattle.call_laws.specs.Judged.{judged, as_call, no_part, SafeOnce}
use Rattle.call_laws.proofs.Mildly.{kept_call}
use Rattle.call_laws.proofs.Once.{goes_as_call}

module _ {S A X : Type 0} (s : Setting) (c : ℕ) (part : S → Prog (Go S A)) (f : X → Prog (Go S A)) (Mid : List Change → Entries → X → Type 0) (End : List Change → Entries → A → Type 0) (n : ℕ)
    (follows : (b : List Change) (m : Entries) (x : X) → Mid b m x → SafeCall (judged s c part) n b m (goes_on part (f x)) End) where
  call_inside : (k : ℕ) (b : List Change) (l : Entries) (p : Prog X) → SafeCall (judged s c no_part) k b l (as_call p) Mid → SafeCall (judged s c part) (k + n) b l (goes_on part (bind p f)) End
  call_inside k b l (ret x) h = SafeCall-more (judged s c part) End n (k + n) b l (goes_on part (f x)) (omega arith) (follows b l x h)
  call_inside zero b l (ask act g) h = absurd h
  call_inside (suc k) b l (ask (ask_hash key) g) h =
      SafeCall-more (judged s c part) End (suc (k + n)) (suc k + n) b l (ask (ask_hash key) (λ a. bind (g a) f)) (omega arith)
      (call_inside k b l (g (hash s key)) (subst (λ v. SafeCall (judged s c no_part) k b l v Mid) (goes_as_call no_part (g (hash s key))) h))
  call_inside (suc k) b l (ask (do_verb block verb) g) h =
      SafeCall-more (judged s c part) End (suc (k + n)) (suc k + n) b l (ask (do_verb block verb) (λ a. bind (g a) f)) (omega arith) (
        h.0,
        h.1,
        λ m grown. MayDo-map (among s c) m block verb (λ q w. SafeCall (judged s c no_part) k (changes_of s m) q (goes_on no_part (as_call (g w))) Mid) (λ q w. SafeCall (judged s c part) (k + n) (changes_of s m) q (goes_on part (bind (g w) f)) End)
            (λ q w x. call_inside k (changes_of s m) q (g w) (subst (λ v. SafeCall (judged s c no_part) k (changes_of s m) q v Mid) (goes_as_call no_part (g w)) x)) (h.2 m grown),
      )

-- an operation that is safe by itself keeps each firm fact, and the call goes on with its outcome
pub op_inside : {S A X : Type 0} (s : Setting) (c : ℕ) (part : S → Prog (Go S A)) (f : X → Prog (Go S A)) (Mid : List Change → Entries → X → Type 0) (End : List Change → Entries → A → Type 0) (P : Past → Type 0) → Firm s c P
    → (k n : ℕ) (b : List Change) (l : Entries) (p : Prog X) → P (reverse l) → SafeOnce s c k b l p Mid
    → ((b : List Change) (m : Entries) (x : X) → Mid b m x → P (reverse m) → SafeCall (judged s c part) n b m (goes_on part (f x)) End)
    → SafeCall (judged s c part) (k + n) b l (goes_on part (bind p f)) End
op_inside s c part f Mid End P firm k n b l p now h follows =
    call_inside s c part f (λ b2 m x. Mid b2 m x × P (reverse m)) End n (λ b2 m x y. follows b2 m x y.0 y.1) k b l p
    (kept_call s c P firm no_part Mid k b l (as_call p) now h)

-- a program that is safe newest first and changes nothing in the map, and then what follows each outcome, which may cost so many acts
pub quiet_costs : {S A X : Type 0} (s : Setting) (c : ℕ) (part : S → Prog (Go S A)) (p : Prog X) (f : X → Prog (Go S A)) (EndIn : Past → X → Type 0) (End : List Change → Entries → A → Type 0) (cost : X → ℕ)
    → (k n : ℕ) (b : List Change) (l : Entries) → Costs cost k p → changes_of s l ≡ b → SafeBy Unchanging s c (reverse l) p EndIn
    → ((m : Entries) (x : X) (d : List Change) → EndIn (reverse m) x → changes_of s m ≡ d → SafeCall (judged s c part) (cost x + n) d m (goes_on part (f x)) End)
    → SafeCall (judged s c part) (k + n) b l (goes_on part (bind p f)) End
quiet_costs s c part p f EndIn End cost k n b l w same h go =
    SafeCall-bind_costs (judged s c part) End p f cost k n b l w same
    (Safe-end (quiet_among s c) (hash s) l p (λ m x. EndIn (reverse m) x) (λ m x. (d : List Change) → changes_of s m ≡ d → SafeCall (judged s c part) (cost x + n) d m (goes_on part (f x)) End)
    (λ m x e d q. go m x d e q) (by_quiet Unchanging s c (λ q e r. r) l p EndIn h))
