-- Two programs that do the same acts whatever is answered; and how the ends of the text and of the pass over lists agree.
use Rattle.std.specs.Prelude.{◌≡◌, ℕ, ◌+◌, ◌≤◌, ◌==◌, Bool, false, List, [], ◌∷◌, get_or, Some, ◌⊎◌}
use Rattle.std.proofs.Common.{sym, subst}
use Rattle.bucket_group.specs.Buckets.{candidates}
use Rattle.node_words.specs.Addresses.{slot_at}
use Rattle.verb_log.specs.Decoded.{Header, NoHeader, header_of}
use Rattle.verb_log.specs.Tables.{Past}
use Rattle.verbs.specs.Programs.{Act, do_verb, ask_hash, Prog, ret, ask}
use Rattle.race_laws.specs.Setting.{Setting, hash}
use Rattle.pass_text.specs.declared.job.Job.{Job}
use Rattle.pass_text.specs.declared.job.Opened.{Opened}
use Rattle.pass_text.specs.declared.job.PassMode.{PassMode}
use Rattle.pass_text.specs.declared.job.PassMode.TheVariants.{Look, Sweep, Walk}
use Rattle.pass_text.specs.declared.passed.Passed.{Passed}
use Rattle.pass_text.specs.declared.passed.PassEnd.TheVariants.{Held, Clear, Gone, Spent}
use Rattle.pass_text.specs.Pass.{opened_at}
use Rattle.pass_laws.specs.SafeIn.{Rule, SafeBy}
use Rattle.pass_laws.proofs.Rules.{by_do_map}
use Rattle.pass_laws.proofs.ListPass.{Aim, Mode, look, sweep, walk, Shown, How, held, clear, gone, spent, Ended}

abbrev pub Sim : {A B : Type 0} → (A → B → Type 0) → Prog A → Prog B → Type 0
Sim R (ret a) (ret b) = R a b
Sim R (ask act k) (ask act2 k2) = (act ≡ act2) × ((w : ℕ) → Sim R (k w) (k2 w))
Sim R (ret a) (ask act k) = ⊥
Sim R (ask act k) (ret b) = ⊥

-- a program that does the acts of a safe one is safe
pub safe_sim : {A B : Type 0} (T : Rule) (s : Setting) (c : ℕ) (R : A → B → Type 0) (q : Past) (p : Prog A) (o : Prog B) (End : Past → B → Type 0) → Sim R p o → SafeBy T s c q o End → SafeBy T s c q p (λ y a. (b : B) × R a b × End y b)
safe_sim T s c R q (ret a) (ret b) End r h = (b, r, h)
safe_sim T s c R q (ret a) (ask act k) End r h = absurd r
safe_sim T s c R q (ask act k) (ret b) End r h = absurd r
safe_sim {A = A} {B = B} T s c R q (ask act k) (ask act2 k2) End r h = by act (subst (λ a. SafeBy T s c q (ask a k2) End) (sym r.0) h) (λ y w x. safe_sim T s c R y (k w) (k2 w) End (r.1 w) x)
  where
    by : (a : Act) → SafeBy T s c q (ask a k2) End → ((y : Past) (w : ℕ) → SafeBy T s c y (k2 w) End → SafeBy T s c y (k w) (λ y a. (b : B) × R a b × End y b)) → SafeBy T s c q (ask a k) (λ y a. (b : B) × R a b × End y b)
    by (do_verb block verb) h ih = (h.0, λ n l b. by_do_map T s c T (λ z e x. x) n block verb (λ y w. SafeBy T s c y (k2 w) End) (λ y w. SafeBy T s c y (k w) (λ y a. (b : B) × R a b × End y b)) (λ y w x. ih y w x) (h.1 n l b))
    by (ask_hash key) h ih = ih q (hash s key) h

-- the same mode, with so many swaps that may be lost
abbrev pub SameMode : PassMode → Mode → ℕ → Type 0
SameMode Look look left = 1 ≤ left
SameMode (Sweep own n) (sweep u p) left = (own ≡ slot_at u p) × (left ≡ n) × (1 ≤ n)
SameMode Walk walk left = 1 ≤ left
SameMode Look _ left = ⊥
SameMode (Sweep own n) _ left = ⊥
SameMode Walk _ left = ⊥

-- so many were lost
abbrev pub LostSo : PassMode → ℕ → ℕ → Type 0
LostSo (Sweep own n) lost left = lost + left ≡ n
LostSo Look lost left = Unit {0}
LostSo Walk lost left = Unit {0}

-- the header told is the one read, or that was none
abbrev pub HeadSo : Passed → Header → Type 0
HeadSo p h = (header_of (Some p.head) ≡ h) ⊎ (h ≡ NoHeader)

abbrev pub EndsAlike : Passed → How → Type 0
EndsAlike p (held place word value) = p.end ≡ Held (record { at = slot_at p.table place; word = word; value = value })
EndsAlike p (clear parent shown h) = (p.end ≡ Clear) × (p.parent ≡ parent) × HeadSo p h
EndsAlike p (gone h) = (p.end ≡ Gone) × HeadSo p h
EndsAlike p spent = p.end ≡ Spent

-- an array tells which of the words were 0
abbrev pub FreeFrom : List Bool → ℕ → List Shown → Type 0
FreeFrom free i [] = Unit {0}
FreeFrom free i (x ∷ xs) = (get_or free i false ≡ (x.word == 0)) × FreeFrom free (i + 1) xs

-- after a look
abbrev pub FreeSo : PassMode → List Bool → How → Type 0
FreeSo Look free (clear parent shown h) = FreeFrom free 0 shown
FreeSo Look free _ = Unit {0}
FreeSo (Sweep own n) free how = Unit {0}
FreeSo Walk free how = Unit {0}

-- the text's end and that of the pass over lists, of a pass for this job that opened so
pub record Alike (j : Job) (o : Opened) (p : Passed) (e : Ended) : Type 0 where
  pub table : p.table ≡ e.table
  pub opened : p.opened ≡ opened_at o p.table
  pub places : p.places ≡ candidates j.geometry.groups j.hash
  pub end : EndsAlike p e.how
  pub lost : LostSo j.mode p.lost e.left
  pub free : FreeSo j.mode p.free e.how

abbrev pub aim_of : Job → Aim
aim_of j = record { key = j.key; hash = j.hash }
