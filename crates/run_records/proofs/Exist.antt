-- Records of a run exist.
use Rattle.std.proofs.Common.{◌≡◌, ◌≢◌, ℕ, zero, suc, ◌+◌, ◌-◌, ◌≤◌, Bool, true, false, List, [], ◌∷◌, length, Option, Some, None, ◌⊎◌, refl, ap, subst, inl, inr, arith}
use Rattle.std.proofs.lemmas.Bool.{cases_lt, cases_eq}
use Rattle.std.proofs.lemmas.Slice.Eq.{bytes_eq-Decides}
use Rattle.std.specs.Str.{bytes_eq}
use Rattle.std.specs.List.{slice_get}
use Rattle.kv_block.specs.declared.changes.Change.{Change}
use Rattle.map_model.specs.declared.calls.Call.{Call}
use Rattle.map_model.specs.declared.calls.Reply.{Reply}
use Rattle.map_model.specs.declared.calls.Reply.TheVariants.{Found, Missing, Exists}
use Rattle.map_model.specs.declared.records.Record.{Record}
use Rattle.map_model.specs.Machine.{reply_of, map_at, is_change, is_quiet}
use Rattle.map_model.specs.Moments.{IsFirst}
use Rattle.map_model.proofs.Bridge.{quiet_no_change}
use Rattle.run_records.specs.Lines.{Line, AreOwn, next_own, rest_own, IsRecord, AreRecords, Went, EachWent, EachRecorded, RecordsExist}
use Rattle.run_records.proofs.Greedy.{one_changed, one_left}

lists : (v w : List ℕ) → (v ≡ w) ⊎ (v ≢ w)
lists v w = elim (bytes_eq v w) as (λ b. bytes_eq v w ≡ b → (v ≡ w) ⊎ (v ≢ w)) [
  | true ↦ λ e. inl ((bytes_eq-Decides v w).0 e)
  | false ↦ λ e. inr (λ same. let f = (bytes_eq-Decides v w).1 same in (cc))
] refl

decided : (o : Option Reply) (reply : Reply) → is_quiet reply ≡ true → (o ≡ Some reply) ⊎ (o ≢ Some reply)
decided None reply q = inr (λ e. cc)
decided (Some (Found v)) (Found w) q = elim (lists v w) [ inl same ↦ inl (ap (λ (x : List ℕ). Some (Found x)) same) | inr other ↦ inr (λ e. other (cc)) ]
decided (Some (Exists v)) (Exists w) q = elim (lists v w) [ inl same ↦ inl (ap (λ (x : List ℕ). Some (Exists x)) same) | inr other ↦ inr (λ e. other (cc)) ]
decided (Some Missing) Missing q = inl refl
decided (Some a) b q = inr (λ e. cc)

first_by : (C : List Change) (call : Call) (reply : Reply) → is_quiet reply ≡ true → (k lo : ℕ) → lo + k ≡ length C + 1 → (point : ℕ) × IsFirst C lo call reply point
first_by C call reply q zero lo e = (lo, record { from = omega arith; upto = omega arith; gives = λ h. absurd (omega arith); earlier = λ n low less is. omega arith })
first_by C call reply q (suc k) lo e = elim (decided (reply_of (map_at C lo) call) reply q) [
  | inl is ↦ (lo, record { from = omega arith; upto = omega arith; gives = λ h. is; earlier = λ n low less f. omega arith })
  | inr not ↦
      let x = first_by C call reply q k (lo + 1) (omega arith) in
      let h = x.1 in
      let from = h.from in (
        x.0,
        record {
          from = omega arith;
          upto = h.upto;
          gives = h.gives;
          earlier = λ n low less f. elim (cases_lt lo n) [
            | inl more ↦ h.earlier n (omega arith) less f
            | inr upto ↦ let same : n ≡ lo = omega arith in not (subst (λ (m : ℕ). reply_of (map_at C m) call ≡ Some reply) same f)
          ];
        },
      )
]

pub first_exists : (C : List Change) (call : Call) (reply : Reply) (lo : ℕ) → is_quiet reply ≡ true → lo ≤ length C → (point : ℕ) × IsFirst C lo call reply point
first_exists C call reply lo q low = first_by C call reply q ((length C - lo) + 1) lo (omega arith)

owner_is : (o : Option ℕ) (c : ℕ) → (o ≡ Some c) ⊎ (o ≢ Some c)
owner_is None c = inr (λ e. cc)
owner_is (Some d) c = elim (cases_eq d c) [ inl same ↦ inl (ap (λ (x : ℕ). Some x) same) | inr other ↦ inr (λ e. other (cc)) ]

past : (xs : List ℕ) (p c : ℕ) → length xs ≤ p → slice_get xs p ≡ Some c → ⊥
past [] zero c low is = cc
past [] (suc p) c low is = cc
past (x ∷ xs) zero c low is = omega arith
past (x ∷ xs) (suc p) c low is = past xs p c (omega arith) is

own_earlier : (owners : List ℕ) (c low : ℕ) (own : List ℕ) → slice_get owners low ≢ Some c → AreOwn owners c (low + 1) own → AreOwn owners c low own
own_earlier owners c low [] not are = λ p from is. elim (cases_lt low p) [
  | inl more ↦ are p (omega arith) is
  | inr upto ↦ let same : p ≡ low = omega arith in not (subst (λ (n : ℕ). slice_get owners n ≡ Some c) same is)
]
own_earlier owners c low (q ∷ own) not are =
    let from = are.0 in (
      omega arith,
      are.1,
      λ p above less is. elim (cases_lt low p) [
        | inl more ↦ are.2 p (omega arith) less is
        | inr upto ↦ let same : p ≡ low = omega arith in not (subst (λ (n : ℕ). slice_get owners n ≡ Some c) same is)
      ],
      are.3,
    )

own_by : (owners : List ℕ) (c k low : ℕ) → low + k ≡ length owners → (own : List ℕ) × AreOwn owners c low own
own_by owners c zero low e = ([], λ p from is. past owners p c (omega arith) is)
own_by owners c (suc k) low e =
    let x = own_by owners c k (low + 1) (omega arith) in
    elim (owner_is (slice_get owners low) c) [
      | inl is ↦ (low ∷ x.0, (omega arith, is, λ p from less h. omega arith, x.1))
      | inr not ↦ (x.0, own_earlier owners c low x.0 not x.1)
    ]

-- a record of one line
one_exists : (C : List Change) (owners : List ℕ) (c k t lo u v : ℕ) (own : List ℕ) (line : Line) → lo ≤ length C → (r : Record) × IsRecord C c k lo own line r
one_exists C owners c k t lo u v own line low =
    elim (is_change line.reply) as (λ b. is_change line.reply ≡ b → (r : Record) × IsRecord C c k lo own line r) [
      | true ↦ λ change.
          let p = next_own (length C) own in (
            record { client = c; number = k; call = line.call; reply = line.reply; lo = lo; hi = p + 1; point = p },
            record { client = refl; counted = refl; call = refl; reply = refl; low = refl; changed = λ h. (refl, refl); left = λ h. absurd (two _ change h); quiet = λ h. absurd (quiet_not line.reply h change); other = λ h q. absurd (two _ change h) },
          )
      | false ↦ λ stays. elim (is_quiet line.reply) as (λ b. is_quiet line.reply ≡ b → (r : Record) × IsRecord C c k lo own line r) [
        | true ↦ λ q.
            let x = first_exists C line.call line.reply lo q low in (
              record { client = c; number = k; call = line.call; reply = line.reply; lo = lo; hi = x.0; point = x.0 },
              record { client = refl; counted = refl; call = refl; reply = refl; low = refl; changed = λ h. absurd (two _ h stays); left = λ h. refl; quiet = λ h. x.1; other = λ h o. absurd (two _ q o) },
            )
        | false ↦ λ q. (
          record { client = c; number = k; call = line.call; reply = line.reply; lo = lo; hi = lo; point = lo },
          record { client = refl; counted = refl; call = refl; reply = refl; low = refl; changed = λ h. absurd (two _ h stays); left = λ h. refl; quiet = λ h. absurd (two _ h q); other = λ h o. refl },
        )
      ] refl
    ] refl
  where
    two : (b : Bool) → b ≡ true → b ≡ false → ⊥
    two b e f = cc

    quiet_not : (reply : Reply) → is_quiet reply ≡ true → is_change reply ≡ true → ⊥
    quiet_not reply q e = two (is_change reply) e (quiet_no_change reply q)

client_exists : (C : List Change) (owners : List ℕ) (c : ℕ) (lines : List Line) (k t lo : ℕ) (own : List ℕ) → lo ≤ t → t ≤ length C → AreOwn owners c t own → Went C owners c t lines
    → (rs : List Record) × AreRecords C c k lo own lines rs
client_exists C owners c [] k t lo own low most are went = ([], tt)
client_exists C owners c (line ∷ lines) k t lo own low most are went =
    let u = went.0 in
    let v = went.1 in
    let call = went.2 in
    let within = call.within in
    let made = one_exists C owners c k t lo u v own line (omega arith) in
    let r = made.0 in
    let more = elim (is_change line.reply) as (λ b. is_change line.reply ≡ b → (rest : List Record) × AreRecords C c (k + 1) r.hi (rest_own b own) lines rest) [
      | true ↦ λ change.
          let one = one_changed C owners c k t lo u v own line r change low are call made.1 in
          client_exists C owners c lines (k + 1) v r.hi (rest_own true own) one.high call.within one.rest went.3
      | false ↦ λ stays.
          let one = one_left C owners c k t lo u v own line r stays low are call made.1 in
          client_exists C owners c lines (k + 1) v r.hi own one.high call.within one.rest went.3
    ] refl in
    (r ∷ more.0, (made.1, more.1))

each_exists : (C : List Change) (owners : List ℕ) → length owners ≡ length C → (c : ℕ) (lines : List (List Line)) → EachWent C owners c lines → (records : List (List Record)) × EachRecorded C owners c lines records
each_exists C owners long c [] went = ([], tt)
each_exists C owners long c (l ∷ lines) went =
    let own = own_by owners c (length owners) 0 (omega arith) in
    let rs = client_exists C owners c l 1 0 0 own.0 (omega arith) (omega arith) own.1 went.0 in
    let more = each_exists C owners long (c + 1) lines went.1 in
    (rs.0 ∷ more.0, ((own.0, own.1, rs.1), more.1))

pub records_exist : RecordsExist
records_exist C owners lines long went = each_exists C owners long 0 lines went
