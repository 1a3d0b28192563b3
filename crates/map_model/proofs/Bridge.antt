-- From facts of each record and each change alone to a legal history.
use Rattle.std.proofs.Common.{◌≡◌, ℕ, ◌+◌, ◌≤◌, Bool, true, false, cond, ◌&&◌, ◌||◌, leb, eqb, List, [], ◌∷◌, ◌++◌, length, map, filter, Option, Some, None, is_some, refl, sym, ap, ◌∙◌, subst, append_assoc, arith}
use Rattle.std.proofs.lemmas.Bool.Decides.{nat_tests}
use Rattle.std.proofs.lemmas.List.{append-nil, length_push, take_at, take_all, map-append}
use Rattle.std.proofs.lemmas.List.Elements.{filter-append, All-from_recursion}
use Rattle.std.specs.List.{AllByRecursion}
use Rattle.std.specs.FinMap as fin
use Rattle.kv_block.specs.declared.changes.Change.{Change}
use Rattle.map_model.specs.declared.calls.Call.{Call}
use Rattle.map_model.specs.declared.calls.Call.TheVariants.{Insert, Search, Update, Delete, Resize}
use Rattle.map_model.specs.declared.calls.Reply.{Reply}
use Rattle.map_model.specs.declared.calls.Reply.TheVariants.{Found, Missing, Inserted, Exists, Updated, Deleted, Split, Again, FullDepth, FullWords, NoBlock}
use Rattle.map_model.specs.declared.records.Record.{Record}
use Rattle.map_model.specs.Contents.{Contents}
use Rattle.map_model.specs.Machine.{insert_reply, update_reply, delete_reply, reply_of, after, changed, map_after, map_at, change_of, is_change, is_quiet}
use Rattle.map_model.specs.History.{is_answer, is_quiet_at, is_change_at, is_late, is_change_late, history_from, Replays, told, made, numbered, IsAnswerWithin, IsAnsweredRight, Matches, IsFounded, IsLegal}
use Rattle.map_model.proofs.Filtered.{weaker, both, kept, filter_none, filter_all}

-- a quiet reply is no change
pub quiet_no_change : (reply : Reply) → is_quiet reply ≡ true → is_change reply ≡ false
quiet_no_change (Found value) e = refl
quiet_no_change Missing e = refl
quiet_no_change Inserted e = (cc)
quiet_no_change (Exists value) e = refl
quiet_no_change (Updated old) e = (cc)
quiet_no_change (Deleted old) e = (cc)
quiet_no_change (Split table depth) e = refl
quiet_no_change (Again lost) e = refl
quiet_no_change (FullDepth depth) e = refl
quiet_no_change (FullWords next need) e = refl
quiet_no_change (NoBlock next need) e = refl

-- a call that gets a quiet reply leaves the map
pub quiet_stays : (m : Contents) (call : Call) (reply : Reply) → is_quiet reply ≡ true → reply_of m call ≡ Some reply → after m call ≡ m
quiet_stays m (Insert key value) reply q e =
    elim (fin.get m key) as (λ o. Some (insert_reply o) ≡ Some reply → cond (is_some o) m (fin.insert m key value) ≡ m) [
      | Some old ↦ λ f. refl
      | None ↦ λ f. absurd (cc)
    ] e
quiet_stays m (Search key) reply q e = refl
quiet_stays m (Update key value) reply q e =
    elim (fin.get m key) as (λ o. Some (update_reply o) ≡ Some reply → cond (is_some o) (fin.insert m key value) m ≡ m) [
      | Some old ↦ λ f. absurd (cc)
      | None ↦ λ f. refl
    ] e
quiet_stays m (Delete key) reply q e =
    elim (fin.get m key) as (λ o. Some (delete_reply o) ≡ Some reply → cond (is_some o) (fin.remove m key) m ≡ m) [
      | Some old ↦ λ f. absurd (cc)
      | None ↦ λ f. refl
    ] e
quiet_stays m (Resize key) reply q e = absurd (cc)

-- a call that gets a changing reply makes its change
pub change_applies : (m : Contents) (call : Call) (reply : Reply) (change : Change) → is_change reply ≡ true → reply_of m call ≡ Some reply
    → change_of call ≡ Some change → after m call ≡ changed m change
change_applies m (Insert key value) reply change q e is =
    let one : Change = record { key = key; value = Some value } in
    let same : one ≡ change = (cc) in
    subst (λ (c : Change). cond (is_some (fin.get m key)) m (fin.insert m key value) ≡ changed m c) same
    (elim (fin.get m key) as (λ o. Some (insert_reply o) ≡ Some reply → cond (is_some o) m (fin.insert m key value) ≡ fin.insert m key value) [
      | Some old ↦ λ f. absurd (cc)
      | None ↦ λ f. refl
    ] e)
change_applies m (Search key) reply change q e is = absurd (cc)
change_applies m (Update key value) reply change q e is =
    let one : Change = record { key = key; value = Some value } in
    let same : one ≡ change = (cc) in
    subst (λ (c : Change). cond (is_some (fin.get m key)) (fin.insert m key value) m ≡ changed m c) same
    (elim (fin.get m key) as (λ o. Some (update_reply o) ≡ Some reply → cond (is_some o) (fin.insert m key value) m ≡ fin.insert m key value) [
      | Some old ↦ λ f. refl
      | None ↦ λ f. absurd (cc)
    ] e)
change_applies m (Delete key) reply change q e is =
    let one : Change = record { key = key; value = None } in
    let same : one ≡ change = (cc) in
    subst (λ (c : Change). cond (is_some (fin.get m key)) (fin.remove m key) m ≡ changed m c) same
    (elim (fin.get m key) as (λ o. Some (delete_reply o) ≡ Some reply → cond (is_some o) (fin.remove m key) m ≡ fin.remove m key) [
      | Some old ↦ λ f. refl
      | None ↦ λ f. absurd (cc)
    ] e)
change_applies m (Resize key) reply change q e is = absurd (cc)

pub map_after-push : (m : Contents) (xs : List Change) (c : Change) → map_after m (xs ++ c ∷ []) ≡ changed (map_after m xs) c
map_after-push m [] c = refl
map_after-push m (x ∷ xs) c = map_after-push (changed m x) xs c

-- the first changes are the first of a longer list
pub map_at_front : (done more : List Change) → map_at (done ++ more) (length done) ≡ map_after fin.empty done
map_at_front done more = ap (map_after fin.empty) (take_at done more (length done) refl)

-- a quiet record that the map m answers
abbrev IsQuietRight : Contents → Record → Type 0
IsQuietRight m r = (is_quiet r.reply ≡ true) × (reply_of m r.call ≡ Some r.reply)

-- quiet records replay, and leave the map to those after them
replays_quiet : (m : Contents) (xs ys : List Record) → AllByRecursion (IsQuietRight m) xs → Replays m ys → Replays m (xs ++ ys)
replays_quiet m [] ys h g = g
replays_quiet m (x ∷ xs) ys h g =
    (h.0.1, subst (λ (n : Contents). Replays n (xs ++ ys)) (sym (quiet_stays m x.call x.reply h.0.0 h.0.1)) (replays_quiet m xs ys h.1 g))

first_true : (a b : Bool) → (a && b) ≡ true → (a ≡ true) × (b ≡ true)
first_true true b e = (refl, e)
first_true false b e = absurd (cc)

-- the tests, as facts
pub quiet_at : (n : ℕ) (r : Record) → is_quiet_at n r ≡ true → (is_quiet r.reply ≡ true) × (r.point ≡ n)
quiet_at n r e = let p = first_true (is_quiet r.reply) (eqb r.point n) e in (p.0, let q = p.1 in grind (arith, nat_tests))

pub change_at : (n : ℕ) (r : Record) → is_change_at n r ≡ true → (is_change r.reply ≡ true) × (r.point ≡ n)
change_at n r e = let p = first_true (is_change r.reply) (eqb r.point n) e in (p.0, let q = p.1 in grind (arith, nat_tests))

pub late_at : (n : ℕ) (r : Record) → is_late n r ≡ true → (is_answer r ≡ true) × (n ≤ r.point)
late_at n r e = let p = first_true (is_answer r) (leb n r.point) e in (p.0, let q = p.1 in grind (arith, nat_tests))

-- an answer is quiet where it is no change
pub answer_quiet : (r : Record) → is_answer r ≡ true → is_change r.reply ≡ false → is_quiet r.reply ≡ true
answer_quiet r = by (is_quiet r.reply) (is_change r.reply)
  where
    by : (q c : Bool) → (q || c) ≡ true → c ≡ false → q ≡ true
    by true c e f = refl
    by false c e f = absurd (cc)

pub quiet_answer : (r : Record) → is_quiet r.reply ≡ true → is_answer r ≡ true
quiet_answer r e = ap (λ (b : Bool). b || is_change r.reply) e

pub change_answer : (r : Record) → is_change r.reply ≡ true → is_answer r ≡ true
change_answer r = by (is_quiet r.reply) (is_change r.reply)
  where
    by : (q c : Bool) → c ≡ true → (q || c) ≡ true
    by true c e = refl
    by false c e = e

-- of a late record that is no late change: no change
not_late_change : (n : ℕ) (r : Record) → is_change_late n r ≡ false → n ≤ r.point → is_change r.reply ≡ false
not_late_change n r e h = by (is_change r.reply) refl
  where
    by : (c : Bool) → is_change r.reply ≡ c → c ≡ false
    by false f = refl
    by true f = absurd (let g : leb n r.point ≡ false = ap (λ (b : Bool). b && leb n r.point) (sym f) ∙ e in grind (arith, nat_tests))

-- the records after all changes are quiet, and the map after all changes answers them
last_quiet : (C : List Change) (rs : List Record) → AllByRecursion (IsAnsweredRight C) rs → AllByRecursion (λ r. is_change_late (length C) r ≡ false) rs
    → AllByRecursion (IsQuietRight (map_after fin.empty C)) (filter (is_late (length C)) rs)
last_quiet C rs right matched =
    weaker _ (IsQuietRight (map_after fin.empty C)) one (filter (is_late (length C)) rs)
    (kept (λ r. IsAnsweredRight C r × (is_change_late (length C) r ≡ false)) (is_late (length C)) rs
    (both (IsAnsweredRight C) (λ r. is_change_late (length C) r ≡ false) rs right matched))
  where
    one : (r : Record) → (IsAnsweredRight C r × (is_change_late (length C) r ≡ false)) × (is_late (length C) r ≡ true) → IsQuietRight (map_after fin.empty C) r
    one r h =
        let late = late_at (length C) r h.1 in
        let is_right = h.0.0 late.0 in
        let w = is_right.within in
        let point : r.point ≡ length C = omega (arith, w.most, w.seen, late.1) in
        let same : map_at C r.point ≡ map_after fin.empty C = ap (map_after fin.empty) (take_all r.point C (omega arith)) in (
          answer_quiet r late.0 (not_late_change (length C) r h.0.1 late.1),
          subst (λ (m : Contents). reply_of m r.call ≡ Some r.reply) same is_right.reply,
        )

-- the records before change number n
quiet_part : (C done : List Change) (rs : List Record) → map_at C (length done) ≡ map_after fin.empty done → AllByRecursion (IsAnsweredRight C) rs
    → AllByRecursion (IsQuietRight (map_after fin.empty done)) (filter (is_quiet_at (length done)) rs)
quiet_part C done rs same right =
    weaker _ (IsQuietRight (map_after fin.empty done)) one (filter (is_quiet_at (length done)) rs) (kept (IsAnsweredRight C) (is_quiet_at (length done)) rs right)
  where
    one : (r : Record) → IsAnsweredRight C r × (is_quiet_at (length done) r ≡ true) → IsQuietRight (map_after fin.empty done) r
    one r h =
        let q = quiet_at (length done) r h.1 in
        let is_right = h.0 (quiet_answer r q.0) in
        (q.0, subst (λ (m : Contents). reply_of m r.call ≡ Some r.reply) (ap (map_at C) q.1 ∙ same) is_right.reply)

-- the one record of change number n, and the records after it
change_part : (C done : List Change) (change : Change) (xs rest : List Record) → map_at C (length done) ≡ map_after fin.empty done
    → AllByRecursion (λ r. IsAnsweredRight C r × (is_change_at (length done) r ≡ true)) xs
    → map told xs ≡ (length done, Some change) ∷ []
    → Replays (map_after fin.empty (done ++ change ∷ [])) rest → Replays (map_after fin.empty done) (xs ++ rest)
change_part C done change [] rest same right one h = absurd (cc)
change_part C done change (x ∷ y ∷ ys) rest same right one h = absurd (cc)
change_part C done change (x ∷ []) rest same right one h =
    let c = change_at (length done) x right.0.1 in
    let is_right = right.0.0 (change_answer x c.0) in
    let told_is : told x ≡ (length done, Some change) = (cc) in
    let made_is : change_of x.call ≡ Some change = ap (λ (p : ℕ × Option Change). p.1) told_is in
    let reply = subst (λ (m : Contents). reply_of m x.call ≡ Some x.reply) (ap (map_at C) c.1 ∙ same) is_right.reply in
    (reply, subst (λ (m : Contents). Replays m rest) (map_after-push fin.empty done change ∙ sym (change_applies (map_after fin.empty done) x.call x.reply change c.0 reply made_is)) h)

-- the history of what is left replays from the map after what is done
replays_from : (C : List Change) (rs : List Record) → AllByRecursion (IsAnsweredRight C) rs → (cs done : List Change) → done ++ cs ≡ C
    → Matches (length done) cs rs → Replays (map_after fin.empty done) (history_from (length done) cs rs)
replays_from C rs right [] done e matched =
    let all : done ≡ C = sym (append-nil done) ∙ e in
    subst (λ (d : List Change). Matches (length d) [] rs → Replays (map_after fin.empty d) (history_from (length d) [] rs)) (sym all)
    (λ m. subst (Replays (map_after fin.empty C)) (append-nil (filter (is_late (length C)) rs)) (replays_quiet (map_after fin.empty C) (filter (is_late (length C)) rs) [] (last_quiet C rs right m) tt)) matched
replays_from C rs right (change ∷ cs) done e matched =
    let same : map_at C (length done) ≡ map_after fin.empty done = ap (λ (d : List Change). map_at d (length done)) (sym e) ∙ map_at_front done (change ∷ cs) in
    let more = length_push done change in
    let later = replays_from C rs right cs (done ++ change ∷ []) (append_assoc done (change ∷ []) cs ∙ e) (subst (λ (n : ℕ). Matches n cs rs) (sym more) matched.1) in
    replays_quiet (map_after fin.empty done) (filter (is_quiet_at (length done)) rs) _ (quiet_part C done rs same right)
    (change_part C done change (filter (is_change_at (length done)) rs) _ same (kept (IsAnsweredRight C) (is_change_at (length done)) rs right) matched.0
    (subst (λ (n : ℕ). Replays (map_after fin.empty (done ++ change ∷ [])) (history_from n cs rs)) more later))

made-append : (xs ys : List Record) → made (xs ++ ys) ≡ made xs ++ made ys
made-append xs ys = ap (map told) (filter-append (λ r. is_change r.reply) xs ys) ∙ map-append told (filter (λ r. is_change r.reply) xs) (filter (λ r. is_change r.reply) ys)

-- no record at all: the facts that hold of any
anything : (rs : List Record) → AllByRecursion (λ r. Unit {0}) rs
anything [] = tt
anything (r ∷ rs) = (tt, anything rs)

made_quiet : (n : ℕ) (rs : List Record) → made (filter (is_quiet_at n) rs) ≡ []
made_quiet n rs = ap (map told) (filter_none (λ r. is_change r.reply) (filter (is_quiet_at n) rs)
    (weaker _ (λ r. is_change r.reply ≡ false) (λ r h. quiet_no_change r.reply (quiet_at n r h.1).0) (filter (is_quiet_at n) rs) (kept (λ r. Unit {0}) (is_quiet_at n) rs (anything rs))))

made_change : (n : ℕ) (rs : List Record) → made (filter (is_change_at n) rs) ≡ map told (filter (is_change_at n) rs)
made_change n rs = ap (map told) (filter_all (λ r. is_change r.reply) (filter (is_change_at n) rs)
    (weaker _ (λ r. is_change r.reply ≡ true) (λ r h. (change_at n r h.1).0) (filter (is_change_at n) rs) (kept (λ r. Unit {0}) (is_change_at n) rs (anything rs))))

made_last : (n : ℕ) (rs : List Record) → AllByRecursion (λ r. is_change_late n r ≡ false) rs → made (filter (is_late n) rs) ≡ []
made_last n rs h = ap (map told) (filter_none (λ r. is_change r.reply) (filter (is_late n) rs)
    (weaker _ (λ r. is_change r.reply ≡ false) (λ r g. not_late_change n r g.0 (late_at n r g.1).1) (filter (is_late n) rs) (kept (λ r. is_change_late n r ≡ false) (is_late n) rs h)))

-- the changing records of the history are the changes
made_numbered : (cs : List Change) (n : ℕ) (rs : List Record) → Matches n cs rs → made (history_from n cs rs) ≡ numbered n cs
made_numbered [] n rs h = made_last n rs h
made_numbered (change ∷ cs) n rs h =
    made-append (filter (is_quiet_at n) rs) (filter (is_change_at n) rs ++ history_from (n + 1) cs rs)
    ∙ (λ i. made_quiet n rs i ++ made-append (filter (is_change_at n) rs) (history_from (n + 1) cs rs) i)
    ∙ (λ i. (made_change n rs ∙ h.0) i ++ made_numbered cs (n + 1) rs h.1 i)

pub legal_from_founded : (C : List Change) (rs : List Record) → IsFounded C rs → IsLegal C rs
legal_from_founded C rs h = record {
  replies = replays_from C rs h.right C [] refl h.matched;
  one_to_one = made_numbered C 0 rs h.matched;
  bounds = All-from_recursion (IsAnswerWithin (length C)) rs (weaker (IsAnsweredRight C) (IsAnswerWithin (length C)) (λ r f a. (f a).within) rs h.right);
  clients = h.clients;
}
