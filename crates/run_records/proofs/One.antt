-- The records of a run are determined by its lines and its log.
use Rattle.std.proofs.Common.{◌≡◌, ℕ, ◌+◌, ◌<◌, true, false, List, [], ◌∷◌, refl, sym, ap, ◌∙◌, subst, inl, inr, arith}
use Rattle.std.proofs.lemmas.Bool.{cases_lt}
use Rattle.kv_block.specs.declared.changes.Change.{Change}
use Rattle.map_model.specs.declared.calls.Call.{Call}
use Rattle.map_model.specs.declared.calls.Reply.{Reply}
use Rattle.map_model.specs.declared.records.Record.{Record}
use Rattle.map_model.specs.Machine.{is_change, is_quiet}
use Rattle.map_model.specs.Moments.{IsFirst}
use Rattle.run_records.specs.Lines.{Line, AreOwn, rest_own, IsRecord, AreRecords, EachRecorded, RecordsOne}

own_one : (owners : List ℕ) (c low : ℕ) (xs ys : List ℕ) → AreOwn owners c low xs → AreOwn owners c low ys → xs ≡ ys
own_one owners c low [] [] a b = refl
own_one owners c low [] (q ∷ ys) a b = absurd (a q b.0 b.1)
own_one owners c low (p ∷ xs) [] a b = absurd (b p a.0 a.1)
own_one owners c low (p ∷ xs) (q ∷ ys) a b = elim (cases_lt p q) [
  | inl less ↦ absurd (b.2 p a.0 less a.1)
  | inr upto ↦ elim (cases_lt q p) [
    | inl less ↦ absurd (a.2 q b.0 less b.1)
    | inr above ↦
        let same : q ≡ p = omega arith in
        let rest = own_one owners c (p + 1) xs ys a.3 (subst (λ (n : ℕ). AreOwn owners c (n + 1) ys) same b.3) in
        λ i. sym same i ∷ rest i
  ]
]

first_less : (C : List Change) (lo : ℕ) (call : Call) (reply : Reply) (p q : ℕ) → IsFirst C lo call reply p → IsFirst C lo call reply q → p < q → ⊥
first_less C lo call reply p q a b less = let up = b.upto in b.earlier p a.from less (a.gives (omega arith))

first_one : (C : List Change) (lo : ℕ) (call : Call) (reply : Reply) (p q : ℕ) → IsFirst C lo call reply p → IsFirst C lo call reply q → p ≡ q
first_one C lo call reply p q a b = elim (cases_lt p q) [
  | inl less ↦ absurd (first_less C lo call reply p q a b less)
  | inr upto ↦ elim (cases_lt q p) [
    | inl less ↦ absurd (first_less C lo call reply q p b a less)
    | inr above ↦ omega arith
  ]
]

same_point : (C : List Change) (c k lo : ℕ) (own : List ℕ) (line : Line) (r s : Record) → IsRecord C c k lo own line r → IsRecord C c k lo own line s → (r.point ≡ s.point) × (r.hi ≡ s.hi)
same_point C c k lo own line r s a b =
    elim (is_change line.reply) as (λ t. is_change line.reply ≡ t → (r.point ≡ s.point) × (r.hi ≡ s.hi)) [
      | true ↦ λ change.
          let x = a.changed change in
          let y = b.changed change in
          let p : r.point ≡ s.point = x.0 ∙ sym y.0 in
          (p, x.1 ∙ ap (λ (n : ℕ). n + 1) p ∙ sym y.1)
      | false ↦ λ stays.
          let p = elim (is_quiet line.reply) as (λ t. is_quiet line.reply ≡ t → r.point ≡ s.point) [
            | true ↦ λ q. first_one C lo line.call line.reply r.point s.point (a.quiet q) (b.quiet q)
            | false ↦ λ q. a.other stays q ∙ sym (b.other stays q)
          ] refl in
          (p, a.left stays ∙ p ∙ sym (b.left stays))
    ] refl

record_one : (C : List Change) (c k lo : ℕ) (own : List ℕ) (line : Line) (r s : Record) → IsRecord C c k lo own line r → IsRecord C c k lo own line s → r ≡ s
record_one C c k lo own line r s a b =
    let p = same_point C c k lo own line r s a b in
    λ i. record {
      client = (a.client ∙ sym b.client) i;
      number = (a.counted ∙ sym b.counted) i;
      call = (a.call ∙ sym b.call) i;
      reply = (a.reply ∙ sym b.reply) i;
      lo = (a.low ∙ sym b.low) i;
      hi = p.1 i;
      point = p.0 i;
    }

records_one : (C : List Change) (c : ℕ) (lines : List Line) (k lo : ℕ) (own : List ℕ) (rs ss : List Record) → AreRecords C c k lo own lines rs → AreRecords C c k lo own lines ss → rs ≡ ss
records_one C c [] k lo own [] [] a b = refl
records_one C c [] k lo own [] (s ∷ ss) a b = absurd b
records_one C c [] k lo own (r ∷ rs) ss a b = absurd a
records_one C c (line ∷ lines) k lo own [] ss a b = absurd a
records_one C c (line ∷ lines) k lo own (r ∷ rs) [] a b = absurd b
records_one C c (line ∷ lines) k lo own (r ∷ rs) (s ∷ ss) a b =
    let same = record_one C c k lo own line r s a.0 b.0 in
    let rest = records_one C c lines (k + 1) r.hi (rest_own (is_change line.reply) own) rs ss a.1
    (subst (λ (x : Record). AreRecords C c (k + 1) x.hi (rest_own (is_change line.reply) own) lines ss) (sym same) b.1) in
    λ i. same i ∷ rest i

each_one : (C : List Change) (owners : List ℕ) (c : ℕ) (lines : List (List Line)) (all more : List (List Record)) → EachRecorded C owners c lines all → EachRecorded C owners c lines more → all ≡ more
each_one C owners c [] [] [] a b = refl
each_one C owners c [] [] (s ∷ more) a b = absurd b
each_one C owners c [] (r ∷ all) more a b = absurd a
each_one C owners c (l ∷ lines) [] more a b = absurd a
each_one C owners c (l ∷ lines) (r ∷ all) [] a b = absurd b
each_one C owners c (l ∷ lines) (r ∷ all) (s ∷ more) a b =
    let x = a.0 in
    let y = b.0 in
    let own = own_one owners c 0 y.0 x.0 y.1 x.1 in
    let one = records_one C c l 1 0 x.0 r s x.2 (subst (λ (o : List ℕ). AreRecords C c 1 0 o l s) own y.2) in
    let rest = each_one C owners (c + 1) lines all more a.1 b.1 in
    λ i. one i ∷ rest i

pub records_are_one : RecordsOne
records_are_one C owners lines all more a b = each_one C owners 0 lines all more a b
