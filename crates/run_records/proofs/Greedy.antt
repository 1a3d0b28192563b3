-- The records of one client: their bounds are at or below the real ones.
use Rattle.std.proofs.Common.{◌≡◌, ℕ, ◌+◌, ◌<◌, ◌≤◌, Bool, true, false, cond, ◌&&◌, leb, ltb, eqb, List, [], ◌∷◌, length, find, Some, refl, sym, ap, ◌∙◌, subst, inl, inr, arith}
use Rattle.std.proofs.lemmas.Bool.{cases_lt}
use Rattle.std.proofs.lemmas.Bool.Decides.{nat_tests}
use Rattle.std.specs.List.{AllByRecursion, slice_get}
use Rattle.kv_block.specs.declared.changes.Change.{Change}
use Rattle.map_model.specs.declared.records.Record.{Record}
use Rattle.map_model.specs.Machine.{reply_of, map_at, change_of, is_change, is_quiet}
use Rattle.map_model.specs.History.{is_change_at, in_order, precedes, IsAnsweredRight, IsMade, AreApart, EachPair, Has}
use Rattle.map_model.proofs.Filtered.{weaker}
use Rattle.map_model.proofs.Points.{first_at_most}
use Rattle.map_model.proofs.Bridge.{answer_quiet}
use Rattle.run_records.specs.Lines.{Line, NoneOf, AreOwn, next_own, rest_own, IsRecord, AreRecords, IsCall, Went}

-- the client's next change is the one before which it has none
pub own_next : (owners : List ℕ) (c t p count : ℕ) (own : List ℕ) → AreOwn owners c t own → t ≤ p → NoneOf owners c t p → slice_get owners p ≡ Some c
    → (next_own count own ≡ p) × AreOwn owners c (p + 1) (rest_own true own)
own_next owners c t p count [] are low none is = absurd (are p low is)
own_next owners c t p count (q ∷ own) are low none is = elim (cases_lt q p) [
  | inl less ↦ absurd (none q are.0 less are.1)
  | inr more ↦ elim (cases_lt p q) [
    | inl less ↦ absurd (are.2 p low less is)
    | inr upto ↦ let same : q ≡ p = omega arith in (same, subst (λ (n : ℕ). AreOwn owners c (n + 1) own) same are.3)
  ]
]

-- where it has none up to a number, its changes from there on are the same
pub own_later : (owners : List ℕ) (c t v : ℕ) (own : List ℕ) → AreOwn owners c t own → t ≤ v → NoneOf owners c t v → AreOwn owners c v own
own_later owners c t v [] are low none = λ p above is. are p (omega arith) is
own_later owners c t v (q ∷ own) are low none = elim (cases_lt q v) [
  | inl less ↦ absurd (none q are.0 less are.1)
  | inr upto ↦ (upto, are.1, λ p above less is. are.2 p (omega arith) less is, are.3)
]

pub none_joined : (owners : List ℕ) (c t u v : ℕ) → NoneOf owners c t u → NoneOf owners c u v → NoneOf owners c t v
none_joined owners c t u v a b = λ p low high is. elim (cases_lt p u) [
  | inl less ↦ a p low less is
  | inr upto ↦ b p upto high is
]

-- a record of one line, where its lo is at most what the client had seen after the line before
pub record OneStands (C : List Change) (owners : List ℕ) (c t v : ℕ) (own : List ℕ) (r : Record) : Type 0 where
  pub right : IsAnsweredRight C r
  pub made : IsMade C r
  pub owned : is_change r.reply ≡ true → slice_get owners r.point ≡ Some c
  pub after : is_change r.reply ≡ true → t ≤ r.point
  pub before : is_change r.reply ≡ true → r.point < v
  pub high : r.hi ≤ v
  pub since : t ≤ v
  pub rest : AreOwn owners c v own
  pub each : (n : ℕ) → t ≤ n → n < v → slice_get owners n ≡ Some c → is_change_at n r ≡ true

no_truth : (b : Bool) → b ≡ false → b ≡ true → ⊥
no_truth b e f = cc

pub one_changed : (C : List Change) (owners : List ℕ) (c k t lo u v : ℕ) (own : List ℕ) (line : Line) (r : Record) → is_change line.reply ≡ true → lo ≤ t → AreOwn owners c t own
    → IsCall C owners c t u v line → IsRecord C c k lo own line r → OneStands C owners c t v (rest_own true own) r
one_changed C owners c k t lo u v own line r changing low are call is =
    let x = call.changed changing in
    let p = x.0 in
    let up = x.1 in
    let end = x.2 in
    let since = call.after in
    let within = call.within in
    let none : NoneOf owners c t p = none_joined owners c t u p call.idle x.3 in
    let next = own_next owners c t p (length C) own are (omega arith) none x.4 in
    let at : r.point ≡ p = (is.changed changing).0 ∙ next.0 in
    let hi = (is.changed changing).1 in
    let least = is.low in
    let own_change : is_change r.reply ≡ true = ap is_change is.reply ∙ changing in
    record {
      right = λ a. record {
        reply = (λ i. reply_of (map_at C (at i)) (is.call i)) ∙ x.6 ∙ (λ i. Some (sym is.reply i));
        within = record { least = omega arith; most = omega arith; seen = omega arith };
      };
      made = λ a. (omega arith, ap (slice_get C) at ∙ x.5 ∙ ap change_of (sym is.call));
      owned = λ a. ap (slice_get owners) at ∙ x.4;
      after = λ a. omega arith;
      before = λ a. omega arith;
      high = omega arith;
      since = omega arith;
      rest = subst (λ (n : ℕ). AreOwn owners c n (rest_own true own)) end next.1;
      each = λ n from less mine. elim (cases_lt n p) [
        | inl less' ↦ absurd (none n from less' mine)
        | inr upto ↦ ap (λ (b : Bool). b && eqb r.point n) own_change ∙ grind (arith, nat_tests)
      ];
    }

pub one_left : (C : List Change) (owners : List ℕ) (c k t lo u v : ℕ) (own : List ℕ) (line : Line) (r : Record) → is_change line.reply ≡ false → lo ≤ t → AreOwn owners c t own
    → IsCall C owners c t u v line → IsRecord C c k lo own line r → OneStands C owners c t v own r
one_left C owners c k t lo u v own line r staying low are call is =
    let since = call.after in
    let order = call.order in
    let within = call.within in
    let none : NoneOf owners c t v = none_joined owners c t u v call.idle (call.left staying) in
    let hi = is.left staying in
    let least = is.low in
    let no_change : is_change r.reply ≡ false = ap is_change is.reply ∙ staying in
    record {
      right = λ a.
          let quiet : is_quiet line.reply ≡ true = sym (ap is_quiet is.reply) ∙ answer_quiet r a no_change in
          let x = call.quiet quiet in
          let first = is.quiet quiet in
          let from = first.from in
          let up = x.1 in
          let high = x.2 in
          let most = first_at_most C lo line.call line.reply r.point x.0 first (omega arith) x.3 in
          record {
            reply = (λ i. reply_of (map_at C r.point) (is.call i)) ∙ first.gives (omega arith) ∙ (λ i. Some (sym is.reply i));
            within = record { least = omega arith; most = omega arith; seen = omega arith };
          };
      made = λ a. absurd (no_truth (is_change r.reply) no_change a);
      owned = λ a. absurd (no_truth (is_change r.reply) no_change a);
      after = λ a. absurd (no_truth (is_change r.reply) no_change a);
      before = λ a. absurd (no_truth (is_change r.reply) no_change a);
      high = elim (is_quiet line.reply) as (λ b. is_quiet line.reply ≡ b → r.hi ≤ v) [
        | true ↦ λ quiet.
            let x = call.quiet quiet in
            let up = x.1 in
            let upto = x.2 in
            let most = first_at_most C lo line.call line.reply r.point x.0 (is.quiet quiet) (omega arith) x.3 in
            omega arith
        | false ↦ λ other. let at = is.other staying other in omega arith
      ] refl;
      since = omega arith;
      rest = own_later owners c t v own are (omega arith) none;
      each = λ n from less mine. absurd (none n from less mine);
    }

-- the first of these has this number and lo
abbrev pub Starts : ℕ → ℕ → ℕ → List Record → Type 0
Starts c k lo [] = Unit {0}
Starts c k lo (r ∷ rs) = (r.client ≡ c) × (r.number ≡ k) × (r.lo ≡ lo)

pub record ClientStands (C : List Change) (owners : List ℕ) (c k t lo : ℕ) (rs : List Record) : Type 0 where
  pub right : AllByRecursion (IsAnsweredRight C) rs
  pub made : AllByRecursion (IsMade C) rs
  pub owned : AllByRecursion (λ r. is_change r.reply ≡ true → slice_get owners r.point ≡ Some c) rs
  pub after : AllByRecursion (λ r. is_change r.reply ≡ true → t ≤ r.point) rs
  pub client : AllByRecursion (λ r. r.client ≡ c) rs
  pub apart : EachPair AreApart rs
  pub clients : in_order rs ≡ true
  pub starts : Starts c k lo rs
  pub each : (n : ℕ) → t ≤ n → slice_get owners n ≡ Some c → (r : Record) × Has rs r × (is_change_at n r ≡ true)

pub one_more : (C : List Change) (owners : List ℕ) (c k t lo v : ℕ) (own : List ℕ) (r : Record) (rs : List Record) → r.client ≡ c → r.number ≡ k → r.lo ≡ lo → OneStands C owners c t v own r
    → ClientStands C owners c (k + 1) v r.hi rs → ClientStands C owners c k t lo (r ∷ rs)
one_more C owners c k t lo v own r rs client number low one more = record {
  right = (one.right, more.right);
  made = (one.made, more.made);
  owned = (one.owned, more.owned);
  after = (one.after, weaker _ (λ (s : Record). is_change s.reply ≡ true → t ≤ s.point) (λ s h e. let a = h e in let b = one.since in omega arith) rs more.after);
  client = (client, more.client);
  apart = (weaker _ (AreApart r) (λ s h e f same. let a = h f in let b = one.before e in omega arith) rs more.after, more.apart);
  clients = order rs more.clients more.starts;
  starts = (client, number, low);
  each = λ n from mine. elim (cases_lt n v) [
    | inl less ↦ (r, inl refl, one.each n from less mine)
    | inr upto ↦ let x = more.each n upto mine in (x.0, inr x.1, x.2)
  ];
}
  where
    order : (rs : List Record) → in_order rs ≡ true → Starts c (k + 1) r.hi rs → in_order (r ∷ rs) ≡ true
    order [] e s = refl
    order (x ∷ xs) e s =
        let own : x.client ≡ c = s.0 in
        let after : x.number ≡ k + 1 = s.1 in
        let seen : x.lo ≡ r.hi = s.2 in
        let found : eqb x.client r.client ≡ true = grind (arith, nat_tests) in
        let less : ltb r.number x.number ≡ true = grind (arith, nat_tests) in
        let most : leb r.hi x.lo ≡ true = grind (arith, nat_tests) in
        ap (λ (b : Bool). precedes r (cond b (Some x) (find (λ s. eqb s.client r.client) xs)) && in_order (x ∷ xs)) found
        ∙ ap (λ (b : Bool). (b && leb r.hi x.lo) && in_order (x ∷ xs)) less ∙ ap (λ (b : Bool). b && in_order (x ∷ xs)) most ∙ e

pub client_stands : (C : List Change) (owners : List ℕ) (c : ℕ) (lines : List Line) (rs : List Record) (k t lo : ℕ) (own : List ℕ) → lo ≤ t → AreOwn owners c t own
    → Went C owners c t lines → AreRecords C c k lo own lines rs → ClientStands C owners c k t lo rs
client_stands C owners c [] [] k t lo own low are went recorded = record {
  right = tt;
  made = tt;
  owned = tt;
  after = tt;
  client = tt;
  apart = tt;
  clients = refl;
  starts = tt;
  each = λ n from mine. absurd (went n from mine);
}
client_stands C owners c [] (r ∷ rs) k t lo own low are went recorded = absurd recorded
client_stands C owners c (line ∷ lines) [] k t lo own low are went recorded = absurd recorded
client_stands C owners c (line ∷ lines) (r ∷ rs) k t lo own low are went recorded =
    let v = went.1 in
    let call = went.2 in
    let is = recorded.0 in
    elim (is_change line.reply) as (λ b. is_change line.reply ≡ b → AreRecords C c (k + 1) r.hi (rest_own b own) lines rs → ClientStands C owners c k t lo (r ∷ rs)) [
      | true ↦ λ changing rest.
          let one = one_changed C owners c k t lo went.0 v own line r changing low are call is in
          one_more C owners c k t lo v (rest_own true own) r rs is.client is.counted is.low one
          (client_stands C owners c lines rs (k + 1) v r.hi (rest_own true own) one.high one.rest went.3 rest)
      | false ↦ λ staying rest.
          let one = one_left C owners c k t lo went.0 v own line r staying low are call is in
          one_more C owners c k t lo v own r rs is.client is.counted is.low one
          (client_stands C owners c lines rs (k + 1) v r.hi own one.high one.rest went.3 rest)
    ] refl recorded.1
