-- Logs, their changes, and fronts that have met others.
use Rattle.std.specs.Prelude.{◌≡◌, ℕ, ◌<◌, ◌≤◌, List, [], ◌∷◌, ◌++◌, length, reverse, refl}
use Rattle.std.proofs.Common.{sym, ◌∙◌, ap, subst, append_assoc, append-nil}
use Rattle.kv_block.specs.declared.changes.Change.{Change}
use Rattle.map_model.specs.Machine.{map_at}
use Rattle.map_model.proofs.Added.{map_at-append}
use Rattle.verb_log.specs.declared.entry.Entry.{Entry}
use Rattle.verb_log.specs.Changes.{changes, changes_by}
use Rattle.verb_log.specs.Kinds.{kind}
use Rattle.verb_log.proofs.InOrder.{reverse_push}
use Rattle.verbs.specs.Logs as logs
use Rattle.verbs.specs.Logs.{Entries, Begins, Others, Longer, Lengthened}
use Rattle.race_laws.specs.Setting.{Setting}
use Rattle.race_laws.specs.Legal.{MayFollow}
use Rattle.log_facts.specs.Among.{changes_of}
use Rattle.client_seat.specs.Rule.{OfSeats}
use Rattle.run_laws.specs.Whole.{MetAll}

pub changes_push : (s : Setting) (l : Entries) (e : Entry) → changes_of s (l ++ e ∷ []) ≡ changes_of s l ++ changes_by s.geometry (reverse l) e (kind s.geometry (reverse l) e)
changes_push s l e = ap (changes s.geometry) (reverse_push l e)

-- the changes of a longer log begin with these
pub changes_since : (s : Setting) (l m : Entries) → (more : List Change) × (changes_of s (l ++ m) ≡ changes_of s l ++ more)
changes_since s l [] = ([], ap (changes_of s) (append-nil l) ∙ sym (append-nil (changes_of s l)))
changes_since s l (e ∷ m) =
    let x = changes_since s (l ++ e ∷ []) m in
    let own = changes_by s.geometry (reverse l) e (kind s.geometry (reverse l) e) in
    (own ++ x.0, ap (changes_of s) (sym (append_assoc l (e ∷ []) m)) ∙ x.1 ∙ ap (λ y. y ++ x.0) (changes_push s l e) ∙ append_assoc (changes_of s l) own x.0)

pub map_front : (s : Setting) (l m : Entries) (n : ℕ) → Begins l m → n ≤ length (changes_of s l) → map_at (changes_of s m) n ≡ map_at (changes_of s l) n
map_front s l m n b low =
    let x = changes_since s l b.0 in
    ap (λ cs. map_at cs n) (ap (changes_of s) b.1 ∙ x.1) ∙ map_at-append (changes_of s l) x.0 n low

-- what follows a front is of others
pub others_longer : (s : Setting) (c : ℕ) (l m : Entries) → Longer (MayFollow s) c l m → (rest : Entries) × ((m ≡ l ++ rest) × Others c rest)
others_longer s c l m logs.same = ([], (sym (append-nil l), tt))
others_longer s c l m2 (logs.more {m = m} e b rule apart) =
    let x = others_longer s c l m b in
    (x.0 ++ e ∷ [], (ap (λ y. y ++ e ∷ []) x.1.0 ∙ append_assoc l x.0 (e ∷ []), both x.0 x.1.1))
  where
    both : (rest : Entries) → Others c rest → Others c (rest ++ e ∷ [])
    both [] h = (apart, tt)
    both (x ∷ rest) h = (h.0, both rest h.1)

others_end : (c : ℕ) (l m : Entries) → Others c (l ++ m) → Others c m
others_end c [] m h = h
others_end c (e ∷ l) m h = others_end c l m h.1

pub of_seats_end : (n : ℕ) (l m : Entries) → OfSeats n (l ++ m) → OfSeats n m
of_seats_end n [] m h = h
of_seats_end n (e ∷ l) m h = of_seats_end n l m h.1

pub same_front : {A : Type 0} (l a b : List A) → l ++ a ≡ l ++ b → a ≡ b
same_front [] a b e = e
same_front (x ∷ l) a b e = same_front l a b (tails e)
  where
    tails : x ∷ (l ++ a) ≡ x ∷ (l ++ b) → l ++ a ≡ l ++ b
    tails e = cc

none_left : (n : ℕ) (rest : Entries) → OfSeats n rest → ((c : ℕ) → c < n → Others c rest) → rest ≡ []
none_left n [] known h = refl
none_left n (e ∷ rest) known h = absurd ((h e.client known.0).0 refl)

-- who has met all has seen the whole log
pub met_all : MetAll
met_all s n log seen known begins each =
    let rest = begins.0 in
    begins.1 ∙ ap (λ x. seen ++ x) (none_left n rest (of_seats_end n seen rest (subst (OfSeats n) begins.1 known)) (λ c low.
    let x = each c low in
    let o = others_longer s c x.0 log x.1.0.1 in
    let mid = x.1.1 in
    let split : x.0 ++ o.0 ≡ x.0 ++ (mid.0 ++ rest) = sym o.1.0 ∙ begins.1 ∙ ap (λ y. y ++ rest) mid.1 ∙ append_assoc x.0 mid.0 rest in
    others_end c mid.0 rest (subst (Others c) (same_front x.0 o.0 (mid.0 ++ rest) split) o.1.1))) ∙ append-nil seen
