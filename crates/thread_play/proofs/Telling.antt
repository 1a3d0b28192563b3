-- What workers have told.
use Rattle.std.specs.Prelude.{◌≡◌, ℕ, zero, suc, ◌+◌, ◌<◌, ◌≤◌, List, [], ◌∷◌, length, slice_index_or, Option, Result, Ok, IfOk, refl}
use Rattle.std.proofs.Common.{sym, ◌∙◌, ap, subst, arith}
use Rattle.std.proofs.lemmas.Option.{slice_get_within}
use Rattle.std.proofs.lemmas.List.{length-map}
use Rattle.std.specs.List.{AllByRecursion}
use Rattle.map_model.specs.declared.calls.Call.{Call}
use Rattle.map_model.proofs.Filtered.{append_all}
use Rattle.play_report.specs.declared.report.Line.{Line}
use Rattle.play_report.specs.Report.{IsOfCall}
use Rattle.script_value.specs.Content.{Content, ScriptValue, calls_at}
use Rattle.client_seat.specs.Seated.{Home, Seated, fresh_seat}
use Rattle.call_texts.specs.State.{State}
use Rattle.call_machine.specs.declared.answer.Answer.{Answer}
use Rattle.run_laws.specs.Lives.{Lives, lives_none, lives_more}
use Rattle.run_laws.proofs.Living.{lives_seat, lives_many}
use Rattle.running_play.specs.declared.worker.Worked.{Worked}
use Rattle.running_play.specs.Dealt.{fresh_seats}
use Rattle.running_play.specs.Gathered.{all_ok}
use Rattle.running_play.specs.Worked.{lines_of, Tells, all_told, one_open, HasDone, MayWork, HasWorked}
use Rattle.thread_play.specs.Played.{HaveWorked, lines_by}

-- no more calls are answered than there are
lives_few : (calls : List Call) (begin : Seated) (first : State) (n : ℕ) (seat : Seated) (state : State) (answers : List Answer) → Lives calls begin first n seat state answers → n ≤ length calls
lives_few calls begin first n seat state answers lives_none = omega arith
lives_few calls begin first n2 seat2 state2 answers2 (lives_more {n = n} {seat = seat} {state = state} {answers = answers} call next kept a lives at called) =
    let low = slice_get_within calls n call at in omega arith

-- the lines of answered calls are of these calls
answered_known : (c : Content) (client n : ℕ) (answers : List Answer) → client < length c.clients → 1 ≤ n → n + length answers ≤ length (calls_at c client) + 1 → AllByRecursion (IsOfCall c) (lines_of client n answers)
answered_known c client n [] low least most = tt
answered_known c client n (a ∷ answers) low least most = (record { client = low; least = least; most = omega arith }, answered_known c client (n + 1) answers low (omega arith) (omega arith))

more_known : (c : Content) (client answered : ℕ) (last next : Seated) (kept : State) (more : List Line) → client < length c.clients → last.client ≡ client → Tells (calls_at c client) answered last kept next more → AllByRecursion (IsOfCall c) more
more_known c client answered last next kept more low own all_told = tt
more_known c client answered last next kept more low own (one_open call next2 at stopped longer) =
    let within = slice_get_within (calls_at c client) answered call at in
    (record { client = subst (λ n. n < length c.clients) (sym own) low; least = omega arith; most = subst (λ n. answered + 1 ≤ length (calls_at c n)) (sym own) (omega arith) }, tt)

done_known : (c : Content) (client : ℕ) (stop : Option ℕ) (begin : Seated) (first : State) (next : Seated) (lines : List Line) → client < length c.clients → begin.client ≡ client → HasDone (calls_at c client) stop begin first next lines → AllByRecursion (IsOfCall c) lines
done_known c client stop begin first next lines low own h =
    let few = lives_few (calls_at c client) begin first h.answered h.last h.kept h.answers h.lives in
    let many = lives_many (calls_at c client) begin first h.answered h.last h.kept h.answers h.lives in
    let seat = lives_seat (calls_at c client) begin first h.answered h.last h.kept h.answers h.lives in
    let answered = answered_known c client 1 h.answers low (omega arith) (omega arith) in
    subst (AllByRecursion (IsOfCall c)) (sym h.told)
    (append_all (IsOfCall c) (lines_of begin.client 1 h.answers) h.more
    (subst (λ (n : ℕ). AllByRecursion (IsOfCall c) (lines_of n 1 h.answers)) (sym own) answered)
    (more_known c client h.answered h.last next h.kept h.more low (seat.1 ∙ own) h.tells))

-- each line of a play is of a call of the script
pub lines_known : (home : Home) (script : ScriptValue) (c : ℕ) (all : List Worked) → HaveWorked home script c all → c + length all ≤ length script.content.clients → AllByRecursion (IsOfCall script.content) (lines_by all)
lines_known home script c [] h few = tt
lines_known home script c (w ∷ all) h few =
    append_all (IsOfCall script.content) w.lines.items (lines_by all)
    (done_known script.content c _ (fresh_seat home c) _ w.seat w.lines.items (omega arith) refl h.0.done)
    (lines_known home script (c + 1) all h.1 (omega arith))

-- the seat of a number
pub seat_at : (home : Home) (from n i : ℕ) (d : Seated) → i < n → slice_index_or (fresh_seats home from n) i d ≡ fresh_seat home (from + i)
seat_at home from zero i d low = absurd (omega arith)
seat_at home from (suc n) zero d low = ap (fresh_seat home) (plus from)
  where
    plus : (k : ℕ) → k ≡ k + 0
    plus k = omega arith
seat_at home from (suc n) (suc i) d low = seat_at home (from + 1) n i d (omega arith) ∙ ap (fresh_seat home) (shift from i)
  where
    shift : (k j : ℕ) → k + 1 + j ≡ k + suc j
    shift k j = omega arith

-- the workers of all seats
pub have_worked : {E : Type 0} (home : Home) (script : ScriptValue) (c : ℕ) (all : List Worked)
    → ((i : ℕ) (d : Result Worked E) → i < length all → IfOk (slice_index_or (all_ok all) i d) (λ (w : Worked). HasWorked home script (fresh_seat home (c + i)) w.seat w.lines.items)) → HaveWorked home script c all
have_worked home script c [] h = tt
have_worked {E = E} home script c (w ∷ all) h = (
  subst (λ n. HasWorked home script (fresh_seat home n) w.seat w.lines.items) (plus c) (h 0 (Ok w) (omega arith)),
  have_worked {E = E} home script (c + 1) all (λ i d low. subst (λ n. IfOk (slice_index_or (all_ok all) i d) (λ (x : Worked). HasWorked home script (fresh_seat home n) x.seat x.lines.items)) (shift c i) (h (suc i) d (omega arith))),
)
  where
    plus : (k : ℕ) → k + 0 ≡ k
    plus k = omega arith

    shift : (k j : ℕ) → k + suc j ≡ k + 1 + j
    shift k j = omega arith

fresh_many : (home : Home) (from n : ℕ) → length (fresh_seats home from n) ≡ n
fresh_many home from zero = refl
fresh_many home from (suc n) = ap suc (fresh_many home (from + 1) n)

-- a seat of the memory may be worked at
pub may_work : (home : Home) (script : ScriptValue) (items : List Seated) (many i : ℕ) (seat : Seated) → items ≡ fresh_seats home 0 (length script.content.clients) → many ≡ length items → i < many → seat ≡ slice_index_or items i seat → MayWork home script seat
may_work home script items many i seat are counted low at =
    let n = length script.content.clients in
    let all = ap length are ∙ fresh_many home 0 n in
    let is : seat ≡ fresh_seat home (0 + i) = at ∙ ap (λ l. slice_index_or l i seat) are ∙ seat_at home 0 n i seat (omega (arith, all, counted, low)) in
    let number : seat.client ≡ i = ap (λ (s : Seated). s.client) is ∙ none i in
    record {
      home_is = ap (λ (s : Seated). s.home) is;
      fresh = ap (λ (s : Seated). s.trace) is;
      client = omega (arith, number, all, counted, low);
    }
  where
    none : (k : ℕ) → 0 + k ≡ k
    none k = omega arith

-- what the workers of all seats have left
pub all_many : {E : Type 0} (home : Home) (items : List Seated) (n many left : ℕ) (results : List (Result Worked E)) (all : List Worked) → items ≡ fresh_seats home 0 n → many ≡ length items → left ≡ many → left ≡ length results → results ≡ all_ok all → length all ≡ n
all_many {E = E} home items n many left results all are counted same long gathered =
    let a = ap length are ∙ fresh_many home 0 n in
    let b = ap length gathered ∙ length-map all (λ (w : Worked). as_ok w) in
    omega (arith, a, b, counted, same, long)
  where
    as_ok : Worked → Result Worked E
    as_ok w = Ok w

pub all_worked : {E : Type 0} (home : Home) (script : ScriptValue) (items : List Seated) (many left : ℕ) (results : List (Result Worked E)) (all : List Worked) → items ≡ fresh_seats home 0 (length script.content.clients) → many ≡ length items → left ≡ many → left ≡ length results → results ≡ all_ok all
    → ((i : ℕ) (d : Result Worked E) → i < many → (seat : Seated) × (seat ≡ slice_index_or items i seat) × IfOk (slice_index_or results i d) (λ (w : Worked). HasWorked home script seat w.seat w.lines.items)) → HaveWorked home script 0 all
all_worked {E = E} home script items many left results all are counted same long gathered each =
    let n = length script.content.clients in
    let a = ap length are ∙ fresh_many home 0 n in
    let b = all_many {E = E} home items n many left results all are counted same long gathered in
    have_worked {E = E} home script 0 all (λ i d low.
    let x = each i d (omega (arith, a, b, counted, low)) in
    let is : x.0 ≡ fresh_seat home (0 + i) = x.1 ∙ ap (λ l. slice_index_or l i x.0) are ∙ seat_at home 0 n i x.0 (omega (arith, b, low)) in
    subst (λ (s : Seated). IfOk (slice_index_or (all_ok all) i d) (λ (w : Worked). HasWorked home script s w.seat w.lines.items)) is
    (subst (λ l. IfOk (slice_index_or l i d) (λ (w : Worked). HasWorked home script x.0 w.seat w.lines.items)) gathered x.2))
