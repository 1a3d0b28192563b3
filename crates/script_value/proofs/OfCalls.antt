-- Clients and schedule lines that are made from plans and items.
use Rattle.std.proofs.Common.{◌≡◌, ℕ, zero, suc, ◌+◌, ◌-◌, ◌^◌, ◌<◌, ◌≤◌, List, [], ◌∷◌, ◌++◌, length, map, take, drop, get_or, position, Option, Some, None, min, refl, sym, ap, subst, ◌∙◌, arith, append-nil, append_assoc}
use Rattle.std.proofs.lemmas.Fmt.{decimal_injective}
use Rattle.std.proofs.lemmas.List.{length-drop, length-take, take_min, drop_min}
use Rattle.std.proofs.lemmas.List.Quantifiers.{position-Some}
use Rattle.std.specs.List.{AllByRecursion}
use Rattle.kv_block.specs.Bytes.{key_eq}
use Rattle.kv_block.proofs.Keys.{key_eq-is}
use Rattle.map_model.specs.declared.calls.Call.{Call}
use Rattle.map_model.specs.declared.plans.Item.{Item}
use Rattle.map_model.specs.declared.plans.Plan.{Plan}
use Rattle.spelling.specs.Words.{made_name}
use Rattle.script_value.specs.Content.{Content, no_content, client_at, with_client, with_schedule}
use Rattle.script_value.specs.Valid.{IsCall, IsClient, IsItem, IsSchedule, call_count, Each}
use Rattle.script_value.specs.Made.{made_clients, made_content, lines_of_items, made_schedules, planned_calls}
use Rattle.script_value.proofs.Each.{Each-push}
use Rattle.spelling.proofs.Names.{made-is-name}

-- two places have two names
made-differ : (m n : ℕ) → m < 2 ^ 64 → n < 2 ^ 64 → made_name m ≡ made_name n → m ≡ n
made-differ m n a b same = decimal_injective m n a b (ap (drop 1) same)

-- the name of a client that was made
named-at : (place : ℕ) (plans : List Plan) (i : ℕ) → i < length plans → get_or (map (λ (e : List ℕ × List Call). e.0) (made_clients place plans)) i [] ≡ made_name (place + i)
named-at place [] i h = absurd (omega arith)
named-at place (plan ∷ plans) zero h = ap made_name (omega arith)
named-at place (plan ∷ plans) (suc i) h = let next : (place + 1) + i ≡ place + suc i = omega arith in named-at (place + 1) plans i (omega arith) ∙ ap made_name next

pub length-made : (place : ℕ) (plans : List Plan) → length (made_clients place plans) ≡ length plans
length-made place [] = refl
length-made place (plan ∷ plans) = ap suc (length-made (place + 1) plans)

length-names : (es : List (List ℕ × List Call)) → length (map (λ (e : List ℕ × List Call). e.0) es) ≡ length es
length-names [] = refl
length-names (e ∷ es) = ap suc (length-names es)

-- a name is new behind those of the places before it
pub made-fresh : (place : ℕ) (plans : List Plan) → length plans ≤ place → place < 2 ^ 64
    → position (key_eq (made_name place)) (map (λ (e : List ℕ × List Call). e.0) (made_clients 0 plans)) ≡ None
made-fresh place plans few small = by (position (key_eq (made_name place)) names) refl
  where
    names : List (List ℕ)
    names = map (λ (e : List ℕ × List Call). e.0) (made_clients 0 plans)

    by : (o : Option ℕ) → position (key_eq (made_name place)) names ≡ o → o ≡ None
    by None e = refl
    by (Some i) e =
        let found = position-Some (key_eq (made_name place)) names i [] e in
        let within : i < length plans = subst (λ n. i < n) (length-names (made_clients 0 plans) ∙ length-made 0 plans) found.0 in
        let same = key_eq-is (made_name place) (get_or names i []) found.1 ∙ named-at 0 plans i within in
        let one = made-differ place (0 + i) small (omega arith) same in
        absurd (omega arith)

-- one plan more
pub made-push : (place : ℕ) (plans : List Plan) (plan : Plan) → made_clients place (plans ++ plan ∷ []) ≡ made_clients place plans ++ (made_name (place + length plans), plan.calls.items) ∷ []
made-push place [] plan = let same : place ≡ place + 0 = omega arith in ap (λ n. (let e : List ℕ × List Call = (made_name n, plan.calls.items) in e) ∷ []) same
made-push place (p ∷ plans) plan =
    let next : (place + 1) + length plans ≡ place + suc (length plans) = omega arith in
    ap (λ r. (let e : List ℕ × List Call = (made_name place, p.calls.items) in e) ∷ r)
    (made-push (place + 1) plans plan ∙ ap (λ n. made_clients (place + 1) plans ++ (let e : List ℕ × List Call = (made_name n, plan.calls.items) in e) ∷ []) next)

pub made-last : (plans : List Plan) (plan : Plan) → made_clients 0 (plans ++ plan ∷ []) ≡ made_clients 0 plans ++ (made_name (length plans), plan.calls.items) ∷ []
made-last plans plan =
    let place : 0 + length plans ≡ length plans = omega arith in
    made-push 0 plans plan ∙ ap (λ n. made_clients 0 plans ++ (let e : List ℕ × List Call = (made_name n, plan.calls.items) in e) ∷ []) place

-- the calls of the clients are those of the plans
pub made-calls : (place : ℕ) (plans : List Plan) → call_count (made_clients place plans) ≡ planned_calls plans
made-calls place [] = refl
made-calls place (plan ∷ plans) = ap (λ n. length plan.calls.items + n) (made-calls (place + 1) plans)

-- so many lines are enough
enough : (m n : ℕ) (items : List Item) → length items ≤ m → length items ≤ n → lines_of_items m items ≡ lines_of_items n items
enough zero zero items a b = refl
enough zero (suc n) [] a b = refl
enough zero (suc n) (i ∷ is) a b = absurd (omega arith)
enough (suc m) zero [] a b = refl
enough (suc m) zero (i ∷ is) a b = absurd (omega arith)
enough (suc m) (suc n) [] a b = refl
enough (suc m) (suc n) (i ∷ is) a b =
    let short : length (drop 64 (i ∷ is)) ≡ suc (length is) - 64 = length-drop 64 (i ∷ is) in
    ap (λ r. take 64 (i ∷ is) ∷ r) (enough m n (drop 64 (i ∷ is)) (omega (arith, short)) (omega (arith, short)))

-- the first line, and the others
pub first-line : (items : List Item) → 0 < length items → made_schedules items ≡ take 64 items ∷ made_schedules (drop 64 items)
first-line [] h = absurd (omega arith)
first-line (i ∷ is) h =
    let short : length (drop 64 (i ∷ is)) ≡ suc (length is) - 64 = length-drop 64 (i ∷ is) in
    ap (λ r. take 64 (i ∷ is) ∷ r) (enough (length is) (length (drop 64 (i ∷ is))) (drop 64 (i ∷ is)) (omega (arith, short)) (omega arith))

pub all-take : {X : Type 0} (P : X → Type 0) (n : ℕ) (xs : List X) → AllByRecursion P xs → AllByRecursion P (take n xs)
all-take P zero xs h = tt
all-take P (suc n) [] h = tt
all-take P (suc n) (x ∷ xs) h = (h.0, all-take P n xs h.1)

pub all-drop : {X : Type 0} (P : X → Type 0) (n : ℕ) (xs : List X) → AllByRecursion P xs → AllByRecursion P (drop n xs)
all-drop P zero xs h = h
all-drop P (suc n) [] h = tt
all-drop P (suc n) (x ∷ xs) h = all-drop P n xs h.1

-- schedule lines of 64 items at most
pub lines-made : (clients lines : ℕ) (items : List Item) → AllByRecursion (IsItem clients) items
    → AllByRecursion (λ line. IsSchedule clients line × (length line ≤ 64)) (lines_of_items lines items)
lines-made clients zero items h = tt
lines-made clients (suc lines) [] h = tt
lines-made clients (suc lines) (i ∷ is) h =
    let length-line : length (take 64 (i ∷ is)) ≡ min 64 (suc (length is)) = length-take 64 (i ∷ is) in
    (((omega (arith, length-line), all-take (IsItem clients) 64 (i ∷ is) h), omega (arith, length-line)), lines-made clients lines (drop 64 (i ∷ is)) (all-drop (IsItem clients) 64 (i ∷ is) h))

-- one line more
pub next-line : (c : Content) (rest line others : List Item) (n : ℕ) → 0 < length rest → n ≡ min 64 (length rest) → line ≡ take n rest → others ≡ drop n rest
    → record (with_schedule c line) { schedules = (with_schedule c line).schedules ++ made_schedules others } ≡ record c { schedules = c.schedules ++ made_schedules rest }
next-line c rest line others n some is front back =
    let front-is : line ≡ take 64 rest = front ∙ ap (λ m. take m rest) is ∙ take_min 64 rest in
    let back-is : others ≡ drop 64 rest = back ∙ ap (λ m. drop m rest) is ∙ drop_min 64 rest in
    let lines : line ∷ made_schedules others ≡ made_schedules rest = ap (λ l. l ∷ made_schedules others) front-is ∙ ap (λ o. take 64 rest ∷ made_schedules o) back-is ∙ sym (first-line rest some) in
    ap (λ (s : List (List Item)). record c { schedules = s }) (append_assoc c.schedules (line ∷ []) (made_schedules others) ∙ ap (λ l. c.schedules ++ l) lines)

-- with no item left there is no line more
pub no-line : (c : Content) (rest : List Item) → length rest ≡ 0 → record c { schedules = c.schedules ++ made_schedules rest } ≡ c
no-line c [] h = ap (λ (s : List (List Item)). record c { schedules = s }) (append-nil c.schedules)
no-line c (i ∷ is) h = absurd (omega arith)

-- no client before this place has its name
pub fresh-name : (c : Content) (name : List ℕ) (place : ℕ) (plans : List Plan) → c ≡ made_content plans [] → name ≡ made_name place → length plans ≤ place → place < 16 → client_at c name ≡ None
fresh-name c name place plans c-is name-is few small =
    subst (λ c. client_at c name ≡ None) (sym c-is) (subst (λ n. client_at (made_content plans []) n ≡ None) (sym name-is) (made-fresh place plans few (omega arith)))

pub few-clients : (c : Content) (place : ℕ) (plans : List Plan) → c ≡ made_content plans [] → length plans ≤ place → place < 16 → length c.clients < 64
few-clients c place plans c-is few small = let long : length c.clients ≡ length plans = ap (λ (c : Content). length c.clients) c-is ∙ length-made 0 plans in omega arith

-- one client more
pub client-added : (c : Content) (name : List ℕ) (calls : List Call) (plans : List Plan) (plan : Plan) (place : ℕ) → c ≡ made_content plans [] → name ≡ made_name place → calls ≡ plan.calls.items → length plans ≡ place
    → with_client c name calls ≡ made_content (plans ++ plan ∷ []) []
client-added c name calls plans plan place c-is name-is calls-are long =
    ap (λ c. with_client c name calls) c-is ∙ ap (λ n. with_client (made_content plans []) n calls) (name-is ∙ ap made_name (sym long)) ∙ ap (λ cs. with_client (made_content plans []) (made_name (length plans)) cs) calls-are
    ∙ ap (λ (es : List (List ℕ × List Call)). record no_content { clients = es; schedules = made_schedules [] }) (sym (made-last plans plan))

pub client-known : (plans : List Plan) (plan : Plan) (place : ℕ) → length plans ≡ place → place < 16 → AllByRecursion IsCall plan.calls.items
    → Each (IsClient 16) [] (made_clients 0 plans) → Each (IsClient 16) [] (made_clients 0 (plans ++ plan ∷ []))
client-known plans plan place long small calls known =
    let e : List ℕ × List Call = (made_name (length plans), plan.calls.items) in
    let name = made-is-name (length plans) (omega arith) in
    let fresh = made-fresh (length plans) plans (omega arith) (omega arith) in
    let few = length-made 0 plans in
    subst (Each (IsClient 16) []) (sym (made-last plans plan)) (Each-push (IsClient 16) [] (made_clients 0 plans) e known (name, fresh, omega (arith, few), calls))
