-- Positions of a legal log: of two one is no later than the other, each is legal, and what each entry keeps is kept.
use Rattle.std.specs.Prelude.{◌≡◌, ℕ, ◌≤◌, List, ◌∷◌, length, take, reverse, ◌⊎◌, refl}
use Rattle.std.proofs.Common.{◌∙◌, ap, inl, inr, arith}
use Rattle.std.proofs.lemmas.List.{length-take-le, take-take}
use Rattle.verb_log.specs.declared.entry.Entry.{Entry}
use Rattle.verb_log.specs.Tables.{Past, Before, here, later}
use Rattle.verb_log.proofs.Positions.{position_take, Before-is, Before-prefix}
use Rattle.race_laws.specs.Setting.{Setting}
use Rattle.race_laws.specs.Legal.{Meets, Legal, IsLegal}
use Rattle.race_laws.specs.Laws.{position}

-- what was legal before is legal
pub legal_before : (s : Setting) {p q : Past} → Before p q → Legal s q → Legal s p
legal_before s here l = l
legal_before s (later h) l = legal_before s h l.0

-- a position of a legal log is legal
pub position_legal : (s : Setting) (log : List Entry) (n : ℕ) → IsLegal s log → Legal s (position log n)
position_legal s log n l = legal_before s (Before-prefix log n) l

-- what each entry keeps is kept
pub kept : (s : Setting) (P : Past → Type 0) → ((e : Entry) (past : Past) → Legal s past → Meets s past e → P past → P (e ∷ past)) → {p q : Past} → Before p q → Legal s q → P p → P q
kept s P step here l h = h
kept s P step (later {q = q} {e = e} b) l h = step e q l.0 l.1 (kept s P step b l.0 h)

-- of two positions of one log one is no later than the other
pub before_total : {p q r : Past} → Before p r → Before q r → Before p q ⊎ Before q p
before_total here k = inr k
before_total (later h) here = inl (later h)
before_total (later h) (later k) = before_total h k

-- a position is no longer than a later one
pub before_length : {p q : Past} → Before p q → length p ≤ length q
before_length {p = p} {q = q} b = (position_take p q b).0

-- so positions one way are not the other way
pub before_same : {p z : Past} → Before p z → Before z p → p ≡ z
before_same here k = refl
before_same (later b) k = let x = before_length b in let y = before_length k in absurd (omega arith)

pub before_never : {q : Past} {e : Entry} → Before (e ∷ q) q → ⊥
before_never b = let x = before_length b in omega arith

-- each position of a position of a log in order is one of the log
pub position_of : (log : List Entry) (m : ℕ) → m ≤ length log → (z : Past) → Before z (position log m) → (k : ℕ) × (k ≤ m) × (z ≡ position log k)
position_of log m h z b =
    let x = Before-is z (take m log) b in
    let n = length-take-le m log h in
    let short : x.0 ≤ m = let y = x.1 in omega arith in
    (x.0, short, x.2 ∙ ap reverse (take-take x.0 m log short))
