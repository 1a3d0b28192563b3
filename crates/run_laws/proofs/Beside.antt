-- Clients beside whom one more has run, which made no change.
use Rattle.std.specs.Prelude.{◌≡◌, ◌≢◌, ◌⊎◌, ℕ, zero, suc, ◌+◌, ◌<◌, ◌≤◌, List, [], ◌∷◌, ◌++◌, length, map, slice_get, Some, refl}
use Rattle.std.specs.List.{AllByRecursion}
use Rattle.std.proofs.Common.{sym, ◌∙◌, ap, subst, inl, inr, ⊎_elim, arith, append-nil}
use Rattle.std.proofs.lemmas.Bool.{cases_lt, cases_eq, cases_Bool}
use Rattle.std.proofs.lemmas.List.{length-map}
use Rattle.kv_block.specs.declared.changes.Change.{Change}
use Rattle.map_model.specs.declared.calls.Call.{Call}
use Rattle.map_model.specs.Machine.{change_of, is_change}
use Rattle.verbs.specs.Logs.{Entries}
use Rattle.race_laws.specs.Setting.{Setting}
use Rattle.log_facts.specs.Among.{changes_of}
use Rattle.client_seat.specs.Seated.{Home, Seated}
use Rattle.client_seat.specs.Fronts.{Fronted, IsClosed, Keeps}
use Rattle.call_machine.specs.declared.answer.Answer.{Answer}
use Rattle.running_client.specs.Points.{MadeNone}
use Rattle.running_client.proofs.Fronts.{none_longer}
use Rattle.run_records.specs.Lines.{Line, Went, EachWent}
use Rattle.run_records.proofs.Together.{records_stand}
use Rattle.run_records.proofs.Exist.{records_exist}
use Rattle.run_laws.specs.Headline.{owners_of, told_by, Ran, all_told, HasRun, AreCounted, HeadlineBeside, IsAsked, ChangesAreAsked}
use Rattle.run_laws.proofs.Headline.{owners_long, owners_known, get_past, made_none, each_went}

-- all but the last, and the last
but_last : {A : Type 0} (P : A → Type 0) (xs : List A) (x : A) → AllByRecursion P (xs ++ x ∷ []) → AllByRecursion P xs × P x
but_last P [] x h = (tt, h.0)
but_last P (y ∷ xs) x h = let r = but_last P xs x h.1 in ((h.0, r.0), r.1)

-- who made none owns none
owns_none : (s : Setting) (log : Entries) (seat : Seated) → Keeps s log seat → MadeNone s seat.client [] seat.front → (p : ℕ) → slice_get (owners_of s log) p ≢ Some seat.client
owns_none s log seat keeps none p is =
    let c = seat.client in
    let many = owners_long s log in
    elim (cases_lt p (length (changes_of s log))) [
      | inl less ↦ made_none s c [] log log (none_longer s c [] seat.front log keeps.longer.1 none) ([], sym (append-nil log)) p (omega arith) less is
      | inr upto ↦ get_past (owners_of s log) p c (omega arith) is
    ]

-- all owners are of the others
owned_by : (n own : ℕ) (owners : List ℕ) → own ≡ n → AllByRecursion (λ c. c < n + 1) owners → ((p : ℕ) → slice_get owners p ≢ Some own) → AllByRecursion (λ c. c < n) owners
owned_by n own [] is h none = tt
owned_by n own (c ∷ owners) is h none =
    let low = h.0 in
    (elim (cases_lt c n) [ inl less ↦ less | inr upto ↦ (let same : c ≡ own = omega arith in absurd (none 0 (ap (λ (k : ℕ). Some k) same))) ], owned_by n own owners is h.1 (λ p. none (suc p)))

-- what is known of the owners and the calls of such clients
record Known (home : Home) (log : Entries) (all : List Ran) : Type 0 where
  owned : AllByRecursion (λ c. c < length all) (owners_of home.setting log)
  each : EachWent (changes_of home.setting log) (owners_of home.setting log) 0 (all_told all)

known : (home : Home) (front : Fronted) (all : List Ran) (last : Seated) → IsClosed home (map (λ (r : Ran). r.seat) all ++ last ∷ []) front → home.seats ≡ length all + 1 → last.client ≡ length all → AreCounted 0 all → AllByRecursion (HasRun home) all
    → MadeNone home.setting last.client [] last.front → Known home front.entries all
known home front all last closed many number counted ran none =
    let s = home.setting in
    let log = front.entries in
    let keeps = but_last (Keeps s log) (map (λ (r : Ran). r.seat) all) last closed.each in
    record {
      owned = owned_by (length all) last.client (owners_of s log) number (subst (λ (n : ℕ). AllByRecursion (λ c. c < n) (owners_of s log)) many (owners_known s home.seats [] log tt closed.known)) (owns_none s log last keeps.1 none);
      each = each_went home log 0 all counted keeps.0 ran;
    }

pub headline_beside : HeadlineBeside
headline_beside home front all last closed many number counted ran none =
    let s = home.setting in
    let log = front.entries in
    let lines = length-map all (λ r. told_by r.calls r.answers) in
    let k = known home front all last closed many number counted ran none in (
      records_exist (changes_of s log) (owners_of s log) (all_told all) (owners_long s log) k.each,
      λ records recorded. records_stand (changes_of s log) (owners_of s log) (all_told all) records (owners_long s log)
          (subst (λ (n : ℕ). AllByRecursion (λ c. c < n) (owners_of s log)) (sym lines) k.owned)
          k.each recorded,
    )

-- a line of a call that makes the change
abbrev HasLine : List Line → Change → Type 0
HasLine [] change = ⊥
HasLine (line ∷ lines) change = (change_of line.call ≡ Some change) ⊎ HasLine lines change

-- a client's change is that of one of its lines
went_has : (changes : List Change) (owners : List ℕ) (c since p : ℕ) (change : Change) (lines : List Line) → Went changes owners c since lines → since ≤ p → slice_get owners p ≡ Some c → slice_get changes p ≡ Some change → HasLine lines change
went_has changes owners c since p change [] went low is at = went p low is
went_has changes owners c since p change (line ∷ lines) went low is at =
    let call = went.2 in
    elim (cases_lt p went.0) [
      | inl idle ↦ absurd (call.idle p low idle is)
      | inr begun ↦ elim (cases_lt p went.1) [
        | inl within ↦ inl (⊎_elim
            (λ changing.
            let x = call.changed changing in
            let end = x.2 in
            elim (cases_lt p x.0) [
              | inl before ↦ absurd (x.3 p begun before is)
              | inr upto ↦ (let same : x.0 ≡ p = omega arith in sym x.5 ∙ ap (slice_get changes) same ∙ at)
            ])
            (λ quiet. absurd (call.left quiet p begun within is))
            (cases_Bool (is_change line.reply)))
        | inr after ↦ inr (went_has changes owners c went.1 p change lines went.3 after is at)
      ]
    ]

-- a line's call is one of the calls
told_line : (calls : List Call) (answers : List Answer) (change : Change) → HasLine (told_by calls answers) change → (i : ℕ) × (call : Call) × (slice_get calls i ≡ Some call) × (change_of call ≡ Some change)
told_line calls [] change h = absurd h
told_line [] (a ∷ answers) change h = absurd h
told_line (call ∷ calls) (a ∷ answers) change (inl h) = (0, call, refl, h)
told_line (call ∷ calls) (a ∷ answers) change (inr h) = let x = told_line calls answers change h in (suc x.0, x.1, x.2, x.3)

each_has : (changes : List Change) (owners : List ℕ) (from c p : ℕ) (change : Change) (all : List Ran) → EachWent changes owners from (all_told all) → from ≤ c → c < from + length all → slice_get owners p ≡ Some c → slice_get changes p ≡ Some change → IsAsked all change
each_has changes owners from c p change [] each low high is at = absurd (omega arith)
each_has changes owners from c p change (r ∷ all) each low high is at = ⊎_elim
    (λ same. inl (told_line r.calls r.answers change (went_has changes owners c 0 p change (told_by r.calls r.answers) (subst (λ (n : ℕ). Went changes owners n 0 (told_by r.calls r.answers)) (sym same) each.0) (omega arith) is at)))
    (λ other. inr (each_has changes owners (from + 1) c p change all each.1 (omega arith) (omega arith) is at))
    (cases_eq c from)

-- an owner of each change
owner_of : (n : ℕ) (owners : List ℕ) (p : ℕ) → AllByRecursion (λ c. c < n) owners → p < length owners → (c : ℕ) × (slice_get owners p ≡ Some c) × (c < n)
owner_of n [] p h low = absurd (omega arith)
owner_of n (c ∷ owners) zero h low = (c, refl, h.0)
owner_of n (c ∷ owners) (suc p) h low = owner_of n owners p h.1 (omega arith)

at_each : {A : Type 0} (P : A → Type 0) (xs : List A) → ((p : ℕ) (x : A) → p < length xs → slice_get xs p ≡ Some x → P x) → AllByRecursion P xs
at_each P [] h = tt
at_each P (x ∷ xs) h = (h 0 x (omega arith) refl, at_each P xs (λ p y low at. h (suc p) y (omega arith) at))

pub changes_are_asked : ChangesAreAsked
changes_are_asked home front all last closed many number counted ran none =
    let s = home.setting in
    let log = front.entries in
    let k = known home front all last closed many number counted ran none in
    let same = owners_long s log in
    at_each (IsAsked all) (changes_of s log) (λ p change low at.
    let x = owner_of (length all) (owners_of s log) p k.owned (omega arith) in
    let few = x.2 in
    each_has (changes_of s log) (owners_of s log) 0 x.0 p change all k.each (omega arith) (omega arith) x.1 at)
