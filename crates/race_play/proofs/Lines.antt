-- The lines of a play are of calls of the script.
use Rattle.std.proofs.Common.{◌≡◌, ℕ, zero, suc, ◌+◌, ◌<◌, ◌≤◌, Bool, true, false, cond, List, [], ◌∷◌, ◌++◌, length, map, filter, take, drop, Option, Some, None, slice_get, slice_index_or, refl, sym, ap, subst, ◌∙◌, arith, append_assoc}
use Rattle.item_list.proofs.Pieces.{drop-step}
use Rattle.std.proofs.lemmas.Bool.{eqb-true}
use Rattle.std.proofs.lemmas.List.{length-map, length-set}
use Rattle.std.proofs.lemmas.Option.{slice_get_within}
use Rattle.std.specs.List.{AllByRecursion}
use Rattle.std.specs.Option.{option_map}
use Rattle.map_model.specs.declared.calls.Call.{Call}
use Rattle.map_model.specs.declared.plans.Plan.{Plan}
use Rattle.map_model.specs.declared.records.Record.{Record}
use Rattle.map_model.proofs.Filtered.{append_all}
use Rattle.call_machine.specs.declared.call.CallMachine.{CallMachine}
use Rattle.verb_core.specs.Machine.{call_kind}
use Rattle.verb_core.specs.declared.player.Player.{Player}
use Rattle.race_laws.specs.Setting.{Setting}
use Rattle.verb_core.specs.Play.{Play, Event, AreFresh, Going, counted, unfinished_of, going_of}
use Rattle.verb_core.specs.Traces.{Turns, turns_none, turns_more, Opened}
use Rattle.verb_core.proofs.Traces.{plays_turns, all_lived}
use Rattle.script_value.specs.Content.{Content, ScriptValue, calls_at}
use Rattle.play_report.specs.Report.{IsOfCall}
use Rattle.play_lines.specs.PlayLines.{answered_line, open_lines, is_of, lines_from, lines_of}
use Rattle.play_lines.proofs.Listing.{element-there}
use Rattle.race_play.specs.Planned.{plan_view, planned_from, planned}
use Rattle.race_play.specs.Plays.{IsPlayed}

-- verbs leave as many clients as there were
turns-many : (w v : Play CallMachine) (es : List Event) → Turns call_kind w es v → length v.players ≡ length w.players
turns-many w v es turns_none = refl
turns-many w v es2 (turns_more {es = es} {u = u} c e answered ts t) = ap length t.players ∙ length-set u.players c t.next ∙ turns-many w u es ts

-- a plan of a script has the client's calls
abbrev nobody : List ℕ × List Call
nobody = ([], [])

-- the calls of a client are those of its plan
plan-calls : (c : Content) (es : List (List ℕ × List Call)) (client : ℕ) (plans : List Plan) (i : ℕ) (plan : Plan) → map plan_view plans ≡ planned_from client c es → slice_get plans i ≡ Some plan
    → (i < length es) × (plan.calls.items ≡ (slice_index_or es i nobody).1)
plan-calls c es client [] i plan same there = absurd (cc)
plan-calls c [] client (p ∷ plans) i plan same there = absurd (cc)
plan-calls c (e ∷ es) client (p ∷ plans) zero plan same there = (omega arith, ap (λ (q : Plan). q.calls.items) is ∙ ap first same)
  where
    is : plan ≡ p
    is = cc

    first : List (List Call × Option ℕ) → List Call
    first [] = []
    first (v ∷ vs) = v.0
plan-calls c (e ∷ es) client (p ∷ plans) (suc i) plan same there = let others = plan-calls c es (client + 1) plans i plan (ap behind same) there in let low = others.0 in (omega (arith, low), others.1)
  where
    behind : List (List Call × Option ℕ) → List (List Call × Option ℕ)
    behind [] = []
    behind (v ∷ vs) = vs

length-planned : (c : Content) (es : List (List ℕ × List Call)) (client : ℕ) → length (planned_from client c es) ≡ length es
length-planned c [] client = refl
length-planned c (e ∷ es) client = ap suc (length-planned c es (client + 1))

pub plans-many : (c : Content) (plans : List Plan) → map plan_view plans ≡ planned c → length plans ≡ length c.clients
plans-many c plans same = sym (length-map plans plan_view) ∙ ap length same ∙ length-planned c c.clients 0

-- a record of a call of the client
abbrev IsCallOf : Content → ℕ → Record → Type 0
IsCallOf c client r = (r.client ≡ client) × (1 ≤ r.number) × (r.number ≤ length (calls_at c client))

-- numbers in a row
abbrev IsNumbered : ℕ → ℕ → Record → Type 0
IsNumbered least past r = (least ≤ r.number) × (r.number < past)

numbered-more : (least past : ℕ) (rs : List Record) → AllByRecursion (IsNumbered (least + 1) past) rs → AllByRecursion (IsNumbered least past) rs
numbered-more least past [] h = tt
numbered-more least past (r ∷ rs) h = let low = h.0.0 in ((omega (arith, low), h.0.1), numbered-more least past rs h.1)

numbers-known : (n : ℕ) (rs : List Record) (calls : List Call) → map (λ (r : Record). (r.number, r.call)) rs ≡ counted n calls → AllByRecursion (IsNumbered n (n + length calls)) rs
numbers-known n [] calls same = tt
numbers-known n (r ∷ rs) [] same = absurd (cc)
numbers-known n (r ∷ rs) (call ∷ calls) same =
    let own : r.number ≡ n = ap first same in
    let past : (n + 1) + length calls ≡ n + suc (length calls) = omega arith in
    let others = subst (λ m. AllByRecursion (IsNumbered (n + 1) m) rs) past (numbers-known (n + 1) rs calls (ap behind same)) in
    ((omega (arith, own), omega (arith, own)), numbered-more n (n + suc (length calls)) rs others)
  where
    first : List (ℕ × Call) → ℕ
    first [] = 0
    first (x ∷ xs) = x.0

    behind : List (ℕ × Call) → List (ℕ × Call)
    behind [] = []
    behind (x ∷ xs) = xs

-- the records of a client are of it
own-records : (client : ℕ) (rs : List Record) → AllByRecursion (λ r. is_of client r ≡ true) (filter (is_of client) rs)
own-records client [] = tt
own-records client (r ∷ rs) = by (own-records client rs) (is_of client r) refl
  where
    by : AllByRecursion (λ r. is_of client r ≡ true) (filter (is_of client) rs) → (t : Bool) → is_of client r ≡ t → AllByRecursion (λ r. is_of client r ≡ true) (cond t (r ∷ filter (is_of client) rs) (filter (is_of client) rs))
    by others true e = (e, others)
    by others false e = others

-- both
calls-known : (c : Content) (client past : ℕ) (rs : List Record) → past ≤ length (calls_at c client) + 1 → AllByRecursion (λ r. is_of client r ≡ true) rs → AllByRecursion (IsNumbered 1 past) rs → AllByRecursion (IsCallOf c client) rs
calls-known c client past [] few own numbers = tt
calls-known c client past (r ∷ rs) few own numbers =
    let most = numbers.0.1 in
    ((eqb-true r.client client own.0, numbers.0.0, omega (arith, most, few)), calls-known c client past rs few own.1 numbers.1)

-- the lines of a client
answered-lines : (c : Content) (client : ℕ) (rs : List Record) → client < length c.clients → AllByRecursion (IsCallOf c client) rs → AllByRecursion (IsOfCall c) (map answered_line rs)
answered-lines c client [] low h = tt
answered-lines c client (r ∷ rs) low h =
    let own = h.0.0 in
    let of-call : IsOfCall c (answered_line r) = record {
      client = subst (λ n. n < length c.clients) (sym own) low;
      least = h.0.1;
      most = subst (λ n. r.number ≤ length (calls_at c n)) (sym own) h.0.2;
    } in
    (of-call, answered-lines c client rs low h.1)

open-line : (c : Content) (client : ℕ) (number : Option ℕ) → client < length c.clients → ((n : ℕ) → number ≡ Some n → (1 ≤ n) × (n ≤ length (calls_at c client))) → AllByRecursion (IsOfCall c) (open_lines client number)
open-line c client None low h = tt
open-line c client (Some n) low h = let within = h n refl in (record { client = low; least = within.0; most = within.1 }, tt)

-- what is known of a client
record IsClientOf (c : Content) (records : List Record) (client : ℕ) (p : Player CallMachine) : Type 0 where
  low : client < length c.clients
  answered : AllByRecursion (IsCallOf c client) (filter (is_of client) records)
  unfinished : (n : ℕ) → unfinished_of p ≡ Some n → (1 ≤ n) × (n ≤ length (calls_at c client))

client-lines : (c : Content) (records : List Record) (client : ℕ) (players : List (Player CallMachine)) → ((i : ℕ) (p : Player CallMachine) → slice_get players i ≡ Some p → IsClientOf c records (client + i) p)
    → AllByRecursion (IsOfCall c) (lines_from client (map unfinished_of players) records)
client-lines c records client [] h = tt
client-lines c records client (p ∷ players) h =
    let here : client + 0 ≡ client = omega arith in
    let own = subst (λ n. IsClientOf c records n p) here (h 0 p refl) in
    append_all (IsOfCall c) (map answered_line (filter (is_of client) records) ++ open_lines client (unfinished_of p)) (lines_from (client + 1) (map unfinished_of players) records)
    (append_all (IsOfCall c) (map answered_line (filter (is_of client) records)) (open_lines client (unfinished_of p)) (answered-lines c client (filter (is_of client) records) own.low own.answered) (open-line c client (unfinished_of p) own.low own.unfinished))
    (client-lines c records (client + 1) players (λ i q there. let next : client + suc i ≡ (client + 1) + i = omega arith in subst (λ n. IsClientOf c records n q) next (h (suc i) q there)))

-- an unfinished call is one of the client's
open-call : (p : Player CallMachine) (hash : List ℕ → ℕ) (calls : List Call) (part : List Event) → Opened call_kind hash calls p.answered p.state (option_map (going_of call_kind hash) p.under_way) part
    → (n : ℕ) → unfinished_of p ≡ Some n → (1 ≤ n) × (n ≤ length calls)
open-call p hash calls part opened n is = by (going_of call_kind hash) p.under_way opened is
  where
    by : {O : Type 0} (f : O → Going call_kind.sort.Text) (u : Option O) → Opened call_kind hash calls p.answered p.state (option_map f u) part → option_map (λ (o : O). p.answered + 1) u ≡ Some n → (1 ≤ n) × (n ≤ length calls)
    by f None h e = absurd (cc)
    by f (Some o) h e =
        let number : p.answered + 1 ≡ n = cc in
        let low = slice_get_within calls p.answered h.0 h.1 in
        (omega (arith, number), omega (arith, number, low))

-- what a play leaves of a client
client-known : (script : ScriptValue) (v : Play CallMachine) → IsPlayed script v → (i : ℕ) (p : Player CallMachine) → slice_get v.players i ≡ Some p → IsClientOf script.content v.records i p
client-known script v h i p there =
    let c = script.content in
    let turns = plays_turns call_kind h.begun v _ h.events h.plays in
    let lived = all_lived call_kind script.tries (length c.clients) h.begun h.events v fresh turns in
    let within = slice_get_within v.players i p there in
    let many = turns-many h.begun v h.events turns in
    let begun-many = h.begins.players.many in
    let plans-many-begun = plans-many c h.begun.plans h.begins.plans in
    let found = element-there h.begun.plans i (omega (arith, within, many, begun-many, plans-many-begun)) in
    let plan = found.0 in
    let planned-i = found.1 in
    let calls = plan-calls c c.clients 0 h.begun.plans i plan h.begins.plans planned-i in
    let told = h.legal.told i plan p (ap (λ ps. slice_get ps i) lived.plans ∙ planned-i) there in
    let most = length-take-min plan.calls.items p.answered in
    let same : length plan.calls.items ≡ length (calls_at c i) = ap length calls.1 in
    record {
      low = calls.0;
      answered = calls-known c i (1 + length (take p.answered plan.calls.items)) (filter (is_of i) v.records) (omega (arith, most, same)) (own-records i v.records)
          (numbers-known 1 (filter (is_of i) v.records) (take p.answered plan.calls.items) told);
      unfinished = λ n is. let within-call = open-call p _ plan.calls.items _ (lived.lived i plan p planned-i there).opened n is in let few = within-call.1 in (within-call.0, omega (arith, few, same));
    }
  where
    fresh : AreFresh h.begun.setting.geometry script.tries (length script.content.clients) h.begun.players
    fresh = subst (λ g. AreFresh g script.tries (length script.content.clients) h.begun.players) (ap (λ (s : Setting). s.geometry) (sym h.begins.setting)) h.begins.players

    length-take-min : (xs : List Call) (n : ℕ) → length (take n xs) ≤ length xs
    length-take-min xs zero = omega arith
    length-take-min [] (suc n) = omega arith
    length-take-min (x ∷ xs) (suc n) = let rest = length-take-min xs n in omega (arith, rest)

-- each line of a play is of a call of the script
pub lines-known : (script : ScriptValue) (v : Play CallMachine) → IsPlayed script v → AllByRecursion (IsOfCall script.content) (lines_of v.records (map unfinished_of v.players))
lines-known script v h = client-lines script.content v.records 0 v.players (λ i p there. let here : i ≡ 0 + i = omega arith in subst (λ n. IsClientOf script.content v.records n p) here (client-known script v h i p there))

-- a play has the script's clients
pub players-many : (script : ScriptValue) (v : Play CallMachine) → IsPlayed script v → length v.players ≡ length script.content.clients
players-many script v h = turns-many h.begun v h.events (plays_turns call_kind h.begun v _ h.events h.plays) ∙ h.begins.players.many

-- the number of one client more
pub numbers-step : (players : List (Player CallMachine)) (client : ℕ) (p : Player CallMachine) (before after all : List (Option ℕ)) (number : Option ℕ) → slice_get players client ≡ Some p → number ≡ unfinished_of p
    → after ≡ before ++ number ∷ [] → before ++ map unfinished_of (drop client players) ≡ all → after ++ map unfinished_of (drop (client + 1) players) ≡ all
numbers-step players client p before after all number there is pushed so-far =
    let rest : List (Option ℕ) = map unfinished_of (drop (client + 1) players) in
    ap (λ ns. ns ++ rest) pushed
    ∙ append_assoc before (number ∷ []) rest
    ∙ ap (λ n. before ++ n ∷ rest) is
    ∙ ap (λ ps. before ++ map unfinished_of ps) (sym (drop-step players client p there))
    ∙ so-far
