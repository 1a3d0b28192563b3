-- What is drawn, number by number.
use Rattle.std.proofs.Common.{◌≡◌, ℕ, zero, suc, ◌+◌, ◌-◌, ◌*◌, ◌<◌, List, [], ◌∷◌, ◌++◌, map, sym, ap, ◌∙◌, arith, append_assoc}
use Rattle.map_model.specs.declared.calls.Call.{Call}
use Rattle.storm_script.specs.Draws.{drawn, stepped, drawn_numbers, state_after}
use Rattle.storm_script.specs.Storm.{storm_call, storm_clients}
use Rattle.spelling.specs.Words.{made_name}

-- the next number, and those behind it
numbers-left : (count i state : ℕ) → i < count → drawn_numbers (count - i) state ≡ drawn state ∷ drawn_numbers (count - (i + 1)) (stepped state)
numbers-left count i state h = let more : count - i ≡ suc (count - (i + 1)) = omega arith in ap (λ n. drawn_numbers n state) more

-- one item more
pub items-drawn : {X : Type 0} (f : ℕ → X) (front items all : List X) (x : X) (count i state next : ℕ) → i < count → items ≡ front ++ x ∷ [] → x ≡ f (drawn state) → next ≡ stepped state
    → front ++ map f (drawn_numbers (count - i) state) ≡ all → items ++ map f (drawn_numbers (count - (i + 1)) next) ≡ all
items-drawn f front items all x count i state next low pushed is moved before =
    ap (λ xs. xs ++ map f (drawn_numbers (count - (i + 1)) next)) pushed
    ∙ ap (λ s. (front ++ x ∷ []) ++ map f (drawn_numbers (count - (i + 1)) s)) moved
    ∙ append_assoc front (x ∷ []) (map f (drawn_numbers (count - (i + 1)) (stepped state)))
    ∙ ap (λ y. front ++ y ∷ map f (drawn_numbers (count - (i + 1)) (stepped state))) is
    ∙ ap (λ ns. front ++ map f ns) (sym (numbers-left count i state low))
    ∙ before

-- the state goes on
pub state-drawn : (count i state next all : ℕ) → i < count → next ≡ stepped state → state_after (count - i) state ≡ all → state_after (count - (i + 1)) next ≡ all
state-drawn count i state next all low moved before =
    let more : count - i ≡ suc (count - (i + 1)) = omega arith in
    ap (λ s. state_after (count - (i + 1)) s) moved ∙ ap (λ n. state_after n state) (sym more) ∙ before

-- draws after draws
pub state-after : (front back state : ℕ) → state_after back (state_after front state) ≡ state_after (front + back) state
state-after zero back state = let none : back ≡ 0 + back = omega arith in ap (λ n. state_after n state) none
state-after (suc front) back state = let more : suc (front + back) ≡ suc front + back = omega arith in state-after front back (stepped state) ∙ ap (λ n. state_after n state) more

-- one client more
pub clients-drawn : (front clients all : List (List ℕ × List Call)) (own : List Call) (most i count state next : ℕ) → i < most
    → clients ≡ front ++ (made_name i, own) ∷ [] → own ≡ map storm_call (drawn_numbers count state) → next ≡ state_after count state
    → front ++ storm_clients (most - i) i count state ≡ all → clients ++ storm_clients (most - (i + 1)) (i + 1) count next ≡ all
clients-drawn front clients all own most i count state next low pushed is moved before =
    let more : most - i ≡ suc (most - (i + 1)) = omega arith in
    let behind : List (List ℕ × List Call) = storm_clients (most - (i + 1)) (i + 1) count (state_after count state) in
    ap (λ s. clients ++ storm_clients (most - (i + 1)) (i + 1) count s) moved
    ∙ ap (λ cs. cs ++ behind) pushed
    ∙ append_assoc front ((made_name i, own) ∷ []) behind
    ∙ ap (λ (cs : List Call). front ++ (let e : List ℕ × List Call = (made_name i, cs) in e) ∷ behind) is
    ∙ ap (λ n. front ++ storm_clients n i count state) (sym more)
    ∙ before

-- one more of so many each
sum-next : (n m count : ℕ) → m ≡ n + 1 → count + n * count ≡ m * count
sum-next n m count is = let next : count + n * count ≡ (n + 1) * count = grind arith in next ∙ ap (λ k. k * count) (sym is)

-- and the state, after so many draws for each client
pub state-client : (most i count state next all : ℕ) → i < most → next ≡ state_after count state → state_after ((most - i) * count) state ≡ all → state_after ((most - (i + 1)) * count) next ≡ all
state-client most i count state next all low moved before =
    let more : count + (most - (i + 1)) * count ≡ (most - i) * count = sum-next (most - (i + 1)) (most - i) count (omega arith) in
    ap (state_after ((most - (i + 1)) * count)) moved
    ∙ state-after count ((most - (i + 1)) * count) state
    ∙ ap (λ n. state_after n state) more
    ∙ before
