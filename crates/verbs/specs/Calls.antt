-- Calls are made of parts that start again, and judged as one, from the first act to the answer. The same form serves a world,
-- which does the verbs of many clients on one log, and a client on a handle.
use Rattle.std.specs.Prelude.{◌≡◌, ℕ, zero, suc, ◌<◌, List, [], ◌∷◌, ◌++◌, Some}
use Rattle.verb_log.specs.declared.entry.Entry.{Entry}
use Rattle.verbs.specs.Programs.{Act, do_verb, ask_hash, Prog, ret, ask, next_act, after, Go, again, done, goes_on}
use Rattle.verbs.specs.Logs.{Entries, place_of}
use Rattle.verbs.specs.Terms.{Terms, MayDo, Acted}

-- what a call is judged by. S are the states from which its parts start, A its answers, B what logs tell
pub record CallTerms (S A B : Type 0) : Type 1 where
  -- the terms of its verbs
  pub terms : Terms
  -- the hash of a key
  pub hash : List ℕ → ℕ
  -- what a log tells, as the changes of the map that its entries make: only the last verb of a call may change it
  pub tells : Entries → B
  -- the part that starts from a state
  pub part : S → Prog (Go S A)

-- a call is safe. The client has seen the log l, which its last verb made of one that told `before`, and p is left of the call.
-- Whatever others add before each of its verbs, the call answers within n acts (a hash asked is one), each verb may be done where
-- it is, no verb but the last changes what a log tells, and `End` holds of what was told before the last verb, of the log and of
-- the answer
abbrev pub SafeCall : {S A B : Type 0} → CallTerms S A B → ℕ → B → Entries → Prog (Go S A) → (B → Entries → A → Type 0) → Type 0
SafeCall c n before l (ret (done a)) End = End before l a
SafeCall c n before l (ret (again s)) End = ⊥
SafeCall c zero before l (ask act k) End = ⊥
SafeCall c (suc n) before l (ask (ask_hash key) k) End = SafeCall c n before l (goes_on c.part (k (c.hash key))) End
SafeCall c (suc n) before l (ask (do_verb block verb) k) End =
    (c.tells l ≡ before) × (place_of verb < c.terms.geometry.words)
    × ((m : Entries) → c.terms.grows l m → MayDo c.terms m block verb (λ q word. SafeCall c n (c.tells m) q (goes_on c.part (k word)) End))

-- the end of which nothing is asked
abbrev pub AnyEnd : {A B : Type 0} → B → Entries → A → Type 0
AnyEnd before l a = Unit {0}

-- what a call on a handle is judged by, where a log tells nothing
abbrev pub on_handle : {S A : Type 0} → Terms → (List ℕ → ℕ) → (S → Prog (Go S A)) → CallTerms S A (Unit {0})
on_handle t hash part = record { terms = t; hash = hash; tells = λ l. tt; part = part }

-- on a log that a handle has seen a call is safe, and answers within n acts
abbrev pub SafeWithin : {S A : Type 0} → ℕ → Terms → (List ℕ → ℕ) → (S → Prog (Go S A)) → Entries → Prog (Go S A) → Type 0
SafeWithin n t hash part l p = SafeCall (on_handle t hash part) n tt l p AnyEnd

-- from the log l and the call p these acts with these answers led to the log m and what is left, q
abbrev pub RanCall : {S A : Type 0} → Terms → (List ℕ → ℕ) → (S → Prog (Go S A)) → Entries → Prog (Go S A) → List (Act × ℕ) → Entries → Prog (Go S A) → Type 0
RanCall t hash part l p [] m q = (l ≡ m) × (p ≡ q)
RanCall t hash part l p (x ∷ acts) m q = (next_act p ≡ Some x.0) × ((n : Entries) × Acted t hash l x.0 n x.1 × RanCall t hash part n (goes_on part (after p x.1)) acts m q)

-- an entry may follow, and changes nothing that a log tells
abbrev pub follows_quietly : {B : Type 0} → Terms → (Entries → B) → Entries → Entry → Type 0
follows_quietly t tells l e = t.rule l e × (tells (l ++ e ∷ []) ≡ tells l)

-- the same terms, with no entry of the client that changes what a log tells
abbrev pub quiet : {B : Type 0} → Terms → (Entries → B) → Terms
quiet t tells = record { geometry = t.geometry; rule = follows_quietly t tells; grows = t.grows; client = t.client; published = t.published }
