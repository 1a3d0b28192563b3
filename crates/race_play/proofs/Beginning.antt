-- A script's clients are those that a world can begin with.
use Rattle.std.proofs.Common.{◌≡◌, ℕ, zero, suc, ◌+◌, ◌<◌, ◌≤◌, List, [], ◌∷◌, length, map, Option, Some, slice_get, sym, ap, subst, ◌∙◌, arith}
use Rattle.std.proofs.lemmas.List.Elements.{All-from_recursion}
use Rattle.std.specs.List.{AllByRecursion, All, flat_map}
use Rattle.map_model.specs.declared.calls.Call.{Call}
use Rattle.map_model.specs.declared.plans.Item.{Item}
use Rattle.map_model.specs.declared.plans.Item.TheVariants as item
use Rattle.map_model.specs.declared.plans.Plan.{Plan}
use Rattle.map_model.proofs.Filtered.{append_all}
use Rattle.verb_core.specs.Schedules.{IsFor}
use Rattle.script_value.specs.Content.{Content}
use Rattle.script_value.specs.ScriptText.{item_client}
use Rattle.script_value.specs.Valid.{call_count}
use Rattle.race_play.specs.Planned.{plan_view, planned_from}

-- each plan has no more calls than all
pub plan-short : (c : Content) (es : List (List ℕ × List Call)) (client : ℕ) (plans : List Plan) (i : ℕ) (plan : Plan) → map plan_view plans ≡ planned_from client c es → slice_get plans i ≡ Some plan
    → length plan.calls.items ≤ call_count es
plan-short c es client [] i plan same there = absurd (cc)
plan-short c [] client (p ∷ plans) i plan same there = absurd (cc)
plan-short c (e ∷ es) client (p ∷ plans) zero plan same there = let own : length plan.calls.items ≡ length e.1 = ap (λ (q : Plan). length q.calls.items) is ∙ ap first same in omega (arith, own)
  where
    is : plan ≡ p
    is = cc

    first : List (List Call × Option ℕ) → ℕ
    first [] = 0
    first (v ∷ vs) = length v.0
plan-short c (e ∷ es) client (p ∷ plans) (suc i) plan same there = let others = plan-short c es (client + 1) plans i plan (ap behind same) there in omega (arith, others)
  where
    behind : List (List Call × Option ℕ) → List (List Call × Option ℕ)
    behind [] = []
    behind (v ∷ vs) = vs

-- an item that names a client below the number of clients
for-client : (n : ℕ) (i : Item) → item_client i < n → IsFor n i
for-client n (item.Verbs client count) h = h
for-client n (item.Call client) h = h

for-line : (n : ℕ) (items : List Item) → AllByRecursion (λ i. item_client i < n) items → AllByRecursion (IsFor n) items
for-line n [] h = tt
for-line n (i ∷ is) h = (for-client n i h.0, for-line n is h.1)

for-lines : (n : ℕ) (lines : List (List Item)) → AllByRecursion (AllByRecursion (λ i. item_client i < n)) lines → AllByRecursion (IsFor n) (flat_map (λ line. line) lines)
for-lines n [] h = tt
for-lines n (line ∷ lines) h = append_all (IsFor n) line (flat_map (λ line. line) lines) (for-line n line h.0) (for-lines n lines h.1)

-- the items of a script name its clients
pub items-for : (n m : ℕ) (lines : List (List Item)) (items : List Item) → n ≡ m → items ≡ flat_map (λ line. line) lines → AllByRecursion (AllByRecursion (λ i. item_client i < n)) lines → All (IsFor m) items
items-for n m lines items same are h = All-from_recursion (IsFor m) items (subst (AllByRecursion (IsFor m)) (sym are) (subst (λ k. AllByRecursion (IsFor k) (flat_map (λ line. line) lines)) same (for-lines n lines h)))
