-- A program as a call of one part: one that changes nothing in the map and then another, its swap that may change the map, choices
-- and ends. And what a client has placed.
use Rattle.std.specs.Prelude.{◌≡◌, ◌≢◌, ℕ, zero, suc, ◌+◌, ◌<◌, ◌≤◌, ◌==◌, Bool, true, false, cond, List, [], ◌∷◌, ◌++◌, reverse, Option, Some, None, refl}
use Rattle.std.proofs.Common.{sym, subst, arith}
use Rattle.std.proofs.lemmas.Bool.Decides.{nat_tests}
use Rattle.kv_block.specs.declared.changes.Change.{Change}
use Rattle.verb_log.specs.declared.entry.Entry.{Entry}
use Rattle.verb_log.specs.declared.entry.Verb.{Verb}
use Rattle.verb_log.specs.declared.entry.Verb.TheVariants.{Read, Write, Swap}
use Rattle.verb_log.specs.declared.kind.Kind.TheVariants.{Place}
use Rattle.verb_log.specs.Tables.{Past, here, later, word_at}
use Rattle.verb_log.specs.Kinds.{kind}
use Rattle.verb_log.proofs.Positions.{Before-trans}
use Rattle.verbs.specs.Programs.{do_verb, ask_hash, Prog, ret, ask, bind, Go, goes_on, Within}
use Rattle.verbs.specs.Logs.{Entries}
use Rattle.verbs.specs.Terms.{Terms, May, MayDo, entry_of}
use Rattle.verbs.specs.Logs as logs
use Rattle.verbs.specs.Calls.{SafeCall, quiet}
use Rattle.verbs.specs.Safe.{Safe}
use Rattle.verbs.proofs.Safes.{Safe-end}
use Rattle.verbs.proofs.Calls.{SafeCall-more}
use Rattle.race_laws.specs.Setting.{Setting, hash}
use Rattle.race_laws.specs.Legal.{Meets, Legal}
use Rattle.race_laws.proofs.Positions.{before_never}
use Rattle.log_facts.specs.Since.{change_in, Since, same, more}
use Rattle.log_facts.specs.Among.{changes_of}
use Rattle.log_facts.specs.Beside.{Beside}
use Rattle.pass_laws.specs.SafeIn.{SafeIn}
use Rattle.call_laws.specs.Judged.{mild_among, judged_mildly, as_call, no_part, SafeOnce, PlacedNone}
use Rattle.call_laws.proofs.Mildly.{calm_among, safe_calmly, mild_swap}

-- a call of one part goes on as the program does
pub goes_as_call : {S A : Type 0} (part : S → Prog (Go S A)) (p : Prog A) → goes_on part (as_call p) ≡ as_call p
goes_as_call part (ret a) = refl
goes_as_call part (ask act k) = refl

-- what may be done with no change of the map may be done, and the map stays
may_quietly : {B : Type 0} (t : Terms) (tells : Entries → B) (l : Entries) (verb : Verb) (P Q : Entries → ℕ → Type 0) → ((m : Entries) (answer : ℕ) → tells m ≡ tells l → P m answer → Q m answer) → May (quiet t tells) l verb P → May t l verb Q
may_quietly t tells l (Read at) P Q f h = f l (logs.word t.geometry l at) refl h
may_quietly t tells l (Write at new) P Q f h = (h.0.0, f (l ++ entry_of t l at new ∷ []) 0 h.0.1 h.1)
may_quietly t tells l (Swap at old new) P Q f h = (
  (λ e. let x = h.0 e in (x.0.0, f (l ++ entry_of t l at new ∷ []) (logs.word t.geometry l at) x.0.1 x.1)),
  (λ n. f l (logs.word t.geometry l at) refl (h.1 n)),
)

may_do_quietly : {B : Type 0} (t : Terms) (tells : Entries → B) (l : Entries) (block : Option ℕ) (verb : Verb) (P Q : Entries → ℕ → Type 0) → ((m : Entries) (answer : ℕ) → tells m ≡ tells l → P m answer → Q m answer) → MayDo (quiet t tells) l block verb P → MayDo t l block verb Q
may_do_quietly t tells l None verb P Q f h = may_quietly t tells l verb P Q f h
may_do_quietly t tells l (Some block) verb P Q f h = (h.0, may_quietly t tells l verb P Q f h.1)

module _ {A : Type 0} (s : Setting) (c : ℕ) (End : List Change → Entries → A → Type 0) where
  abbrev Goes : ℕ → List Change → Entries → Prog A → Type 0
  Goes n b l p = SafeOnce s c n b l p End

  goes : (n : ℕ) (b : List Change) (l : Entries) (p : Prog A) → Goes n b l p → SafeCall (judged_mildly s c no_part) n b l (goes_on no_part (as_call p)) End
  goes n b l p h = subst (λ v. SafeCall (judged_mildly s c no_part) n b l v End) (sym (goes_as_call no_part p)) h

  pub once_more : (n most : ℕ) (b : List Change) (l : Entries) (p : Prog A) → n ≤ most → Goes n b l p → Goes most b l p
  once_more n most b l p le h = SafeCall-more (judged_mildly s c no_part) End n most b l (as_call p) le h

  -- a program that changes nothing in the map, and then what follows its outcome
  pub once_then : {X : Type 0} (p : Prog X) (f : X → Prog A) (k n : ℕ) (b : List Change) (l : Entries) → Within k p → changes_of s l ≡ b
      → Safe (calm_among s c) (hash s) l p (λ m x. (d : List Change) → changes_of s m ≡ d → Goes n d m (f x))
      → Goes (k + n) b l (bind p f)
  once_then (ret x) f k n b l few unchanged h = once_more n (k + n) b l (f x) (omega arith) (h b unchanged)
  once_then (ask act g) f zero n b l few unchanged h = absurd few
  once_then (ask (ask_hash key) g) f (suc k) n b l few unchanged h =
      SafeCall-more (judged_mildly s c no_part) End (suc (k + n)) (suc k + n) b l (ask (ask_hash key) (λ a. as_call (bind (g a) f))) (omega arith)
      (goes (k + n) b l (bind (g (hash s key)) f) (once_then (g (hash s key)) f k n b l (few (hash s key)) unchanged h))
  once_then (ask (do_verb block verb) g) f (suc k) n b l few unchanged h =
      SafeCall-more (judged_mildly s c no_part) End (suc (k + n)) (suc k + n) b l (ask (do_verb block verb) (λ a. as_call (bind (g a) f))) (omega arith) (
        unchanged,
        h.0,
        λ m grown. may_do_quietly (mild_among s c) (changes_of s) m block verb _ (λ q word. SafeCall (judged_mildly s c no_part) (k + n) (changes_of s m) q (goes_on no_part (as_call (bind (g word) f))) End)
            (λ q word still x. goes (k + n) (changes_of s m) q (bind (g word) f) (once_then (g word) f k n (changes_of s m) q (few word) still x)) (h.1 m grown),
      )

  -- .. that is safe newest first
  pub once_bind : {X : Type 0} (p : Prog X) (f : X → Prog A) (EndIn : Past → X → Type 0) (k n : ℕ) (b : List Change) (l : Entries) → Within k p → changes_of s l ≡ b → SafeIn s c (reverse l) p EndIn
      → ((m : Entries) (x : X) (d : List Change) → EndIn (reverse m) x → changes_of s m ≡ d → Goes n d m (f x))
      → Goes (k + n) b l (bind p f)
  once_bind p f EndIn k n b l few unchanged h go =
      once_then p f k n b l few unchanged
      (Safe-end (calm_among s c) (hash s) l p (λ m x. EndIn (reverse m) x) (λ m x. (d : List Change) → changes_of s m ≡ d → Goes n d m (f x)) (λ m x e d q. go m x d e q) (safe_calmly s c l p EndIn h))

  -- a swap, whose won entry may change the map where the program ends then
  pub once_swap : (at old new n : ℕ) (k : ℕ → Prog A) (b : List Change) (l : Entries) → changes_of s l ≡ b → at < s.geometry.words
      → ((m : Entries) → Legal s (reverse m) → Since c (reverse l) (reverse m)
      → (word_at s.geometry (reverse m) at ≡ old → (Meets s (reverse m) (change_in s.geometry c (reverse m) at new) × Beside s c (reverse m) (change_in s.geometry c (reverse m) at new))
      × ((r : Entries) → reverse r ≡ change_in s.geometry c (reverse m) at new ∷ reverse m → Goes n (changes_of s m) r (k (word_at s.geometry (reverse m) at))))
      × (word_at s.geometry (reverse m) at ≢ old → Goes n (changes_of s m) m (k (word_at s.geometry (reverse m) at))))
      → Goes (suc n) b l (ask (do_verb None (Swap at old new)) k)
  once_swap at old new n k b l unchanged low h =
      mild_swap s c no_part at old new n (λ word. as_call (k word)) End b l unchanged low (λ m lm since.
      let x = h m lm since in (
        (λ e. let y = x.0 e in (y.0, λ r z. goes n (changes_of s m) r (k (word_at s.geometry (reverse m) at)) (y.1 r z))),
        (λ e. goes n (changes_of s m) m (k (word_at s.geometry (reverse m) at)) (x.1 e)),
      ))

  -- a choice by whether a word was found
  pub once_found : (found word n : ℕ) (b : List Change) (l : Entries) (p r : Prog A) → found ≡ word → Goes n b l p → Goes n b l (cond (found == word) p r)
  once_found found word n b l p r e h = by (found == word) (equal found word e)
    where
      equal : (x y : ℕ) → x ≡ y → (x == y) ≡ true
      equal x y e = grind (arith, nat_tests)

      by : (v : Bool) → v ≡ true → Goes n b l (cond v p r)
      by true e = h
      by false e = absurd (cc)

  pub once_lost : (found word n : ℕ) (b : List Change) (l : Entries) (p r : Prog A) → found ≢ word → Goes n b l r → Goes n b l (cond (found == word) p r)
  once_lost found word n b l p r e h = by (found == word) (differ found word e)
    where
      differ : (x y : ℕ) → x ≢ y → (x == y) ≡ false
      differ x y e = grind (arith, nat_tests)

      by : (v : Bool) → v ≡ false → Goes n b l (cond v p r)
      by true e = absurd (cc)
      by false e = h

-- a client has placed nothing since now
pub placed_none : (s : Setting) (c : ℕ) (q : Past) → PlacedNone s c q q
placed_none s c q e x b d o k = before_never (Before-trans b d)

-- one entry more, which is no Place of its own
pub placed_more : (s : Setting) (c : ℕ) (from q : Past) (e : Entry) → (e.client ≡ c → kind s.geometry q e ≡ Some Place → ⊥) → PlacedNone s c from q → PlacedNone s c from (e ∷ q)
placed_more s c from q e f h e2 x here d o k = f o k
placed_more s c from q e f h e2 x (later b) d o k = h e2 x b d o k

pub placed_since : (s : Setting) (c : ℕ) (from : Past) {p q : Past} → Since c p q → PlacedNone s c from p → PlacedNone s c from q
placed_since s c from same h = h
placed_since s c from (more {q = q} e b o) h = placed_more s c from q e (λ x k. o x) (placed_since s c from b h)
