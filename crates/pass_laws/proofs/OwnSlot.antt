-- A sweep comes to the table of its own slot, and does not go past it.
use Rattle.std.specs.Prelude.{◌≡◌, ◌≢◌, ℕ, ◌+◌, ◌*◌, ◌<◌, ◌≤◌, Bool, true, false, nat_lt, nat_le, ◌&&◌, List, Option, Some, refl}
use Rattle.std.proofs.Common.{sym, ◌∙◌, ap, subst, arith, ⊎_elim}
use Rattle.std.proofs.lemmas.Bool.{cases_lt}
use Rattle.std.proofs.lemmas.Bool.Decides.{nat_tests}
use Rattle.node_words.specs.Addresses.{table_words, slot_at}
use Rattle.verb_log.specs.Tables.{Past, Before, here, table_of}
use Rattle.race_laws.specs.Setting.{Setting, hash}
use Rattle.race_laws.specs.Standing.{IsTable, child_in, key_header, Exits, Stays}
use Rattle.race_laws.specs.Chains.{OnChain}
use Rattle.race_laws.specs.Looks.{HasOwn}
use Rattle.race_laws.specs.Rows.{IsPlace}
use Rattle.race_laws.specs.Legal.{Legal}
use Rattle.race_laws.proofs.Positions.{legal_before}
use Rattle.race_laws.proofs.Touch.{same_or_not}
use Rattle.race_laws.proofs.SoundStep.{sound}
use Rattle.race_laws.proofs.Slots.{slot_is, slot_place_of}
use Rattle.race_laws.proofs.Chain.{born_at, born_before, chain_table, chain_before, chain_same, way_down}
use Rattle.race_laws.proofs.Passes.{key_gone}
use Rattle.pass_laws.proofs.ListPass.{Mode, look, sweep, walk, own_of, has_own}
use Rattle.pass_laws.proofs.ListEnd.{IsOwn}

-- a sweep has not gone past the table of the own slot
abbrev pub Ahead : Setting → List ℕ → Mode → Past → ℕ → Type 0
Ahead s key look q t = Unit {0}
Ahead s key (sweep u p) q t = OnChain s.geometry q (hash s key) t × OnChain s.geometry q (hash s key) u × (born_at s.geometry q t ≤ born_at s.geometry q u) × IsPlace s.geometry p
Ahead s key walk q t = Unit {0}

pub ahead_before : (s : Setting) (key : List ℕ) (mode : Mode) {p q : Past} → Before p q → Legal s q → (t : ℕ) → Ahead s key mode p t → Ahead s key mode q t
ahead_before s key look b l t a = tt
ahead_before s key walk b l t a = tt
ahead_before s key (sweep u r) {p = p} b l t a =
    let lp = legal_before s b l in
    let bt = born_before s b l t (chain_table s p lp (hash s key) t a.0) in
    let bu = born_before s b l u (chain_table s p lp (hash s key) u a.1) in
    (chain_before s b l (hash s key) t a.0, chain_before s b l (hash s key) u a.1, (let x = a.2 in omega arith), a.3)

test_lt : (x y : ℕ) → nat_lt x y ≡ false → x < y → ⊥
test_lt x y f h = grind (arith, nat_tests)

test_le : (x y : ℕ) → nat_le x y ≡ false → x ≤ y → ⊥
test_le x y f h = grind (arith, nat_tests)

false_true : {A : Type 0} → false ≡ true → A
false_true h = absurd (cc)

module _ (s : Setting) (key : List ℕ) (q : Past) (l : Legal s q) where
  abbrev H : ℕ
  H = hash s key

  deeper : (t u : ℕ) → OnChain s.geometry q H t → OnChain s.geometry q H u → born_at s.geometry q t ≤ born_at s.geometry q u → t ≢ u → born_at s.geometry q t < born_at s.geometry q u
  deeper t u a b le n = ⊎_elim (λ (x : born_at s.geometry q t < born_at s.geometry q u). x)
      (λ (x : born_at s.geometry q u ≤ born_at s.geometry q t). absurd (n (chain_same s q l H t u a b (between (born_at s.geometry q t) (born_at s.geometry q u) le x)))) (cases_lt (born_at s.geometry q t) (born_at s.geometry q u))
    where
      between : (x y : ℕ) → x ≤ y → y ≤ x → x ≡ y
      between x y h k = omega arith

  -- where the key stays the sweep has come to the own table
  pub own_last : (mode : Mode) (t : ℕ) → Ahead s key mode q t → Stays s q t key (key_header s q t key) → HasOwn s q (own_of mode) t
  own_last look t a st = tt
  own_last walk t a st = tt
  own_last (sweep u p) t a st = ⊎_elim (λ (x : t ≡ u). subst (λ v. table_of s.geometry q (slot_at v p) ≡ Some t) x (at_table t (chain_table s q l H t a.0)))
      (λ (n : t ≢ u). let w = way_down s q l H t u a.0 a.1 (deeper t u a.0 a.1 a.2 n) in
      let f = w.1 in absurd (st f.level f.exits (key_gone s here l t f.level key (chain_table s q l H t a.0) f.gone))) (same_or_not t u)
    where
      at_table : (t : ℕ) → IsTable s.geometry q t → table_of s.geometry q (slot_at t p) ≡ Some t
      at_table t h = let so = sound s q l in (slot_place_of s.geometry q so (slot_at t p) t p (slot_is s.geometry q so t p h a.3)).2

  -- the table of the own slot is its own
  pub own_is : (mode : Mode) (t : ℕ) → Ahead s key mode q t → has_own s.geometry mode t ≡ true → IsOwn mode t
  own_is look t a h = false_true h
  own_is walk t a h = false_true h
  own_is (sweep u p) t a h =
      let so = sound s q l in
      let r = region t (slot_at u p) h in
      let mine = so.whole t t (chain_table s q l H t a.0) (slot_at u p) r.0 r.1 in
      same (sym mine ∙ (slot_place_of s.geometry q so (slot_at u p) u p (slot_is s.geometry q so u p (chain_table s q l H u a.1) a.3)).2)
    where
      same : {x y : ℕ} → Some x ≡ Some y → x ≡ y
      same h = cc

      region : (t x : ℕ) → (nat_le t x && nat_lt x (t + table_words s.geometry)) ≡ true → (t ≤ x) × (x < t + table_words s.geometry)
      region t x h = by (nat_le t x) refl (nat_lt x (t + table_words s.geometry)) refl h
        where
          by : (v : Bool) → nat_le t x ≡ v → (w : Bool) → nat_lt x (t + table_words s.geometry) ≡ w → (v && w) ≡ true → (t ≤ x) × (x < t + table_words s.geometry)
          by true e true f g = (grind (arith, nat_tests, e), grind (arith, nat_tests, f))
          by true e false f g = absurd (cc)
          by false e w f g = absurd (cc)

  -- where it has not, the next table is not past it either
  pub own_next : (mode : Mode) (t i c : ℕ) → Ahead s key mode q t → has_own s.geometry mode t ≡ false → Exits s q t key i → child_in s.geometry q t i ≡ c → Ahead s key mode q c
  own_next look t i c a h ex ch = tt
  own_next walk t i c a h ex ch = tt
  own_next (sweep u p) t i c a h ex ch =
      let n : t ≢ u = λ (x : t ≡ u). differ x h in
      let w = way_down s q l H t u a.0 a.1 (deeper t u a.0 a.1 a.2 n) in
      let f = w.1 in
      let same : w.0 ≡ c = sym f.child ∙ ap (child_in s.geometry q t) (levels f.exits ex) ∙ ch in
      (subst (OnChain s.geometry q H) same w.2, a.1, subst (λ v. born_at s.geometry q v ≤ born_at s.geometry q u) same w.3, a.3)
    where
      differ : t ≡ u → has_own s.geometry (sweep u p) t ≡ false → ⊥
      differ x k = apart t u x (a.3).0 k
        where
          apart : (t u : ℕ) → t ≡ u → p < 24 * s.geometry.groups → (nat_le t (slot_at u p) && nat_lt (slot_at u p) (t + table_words s.geometry)) ≡ false → ⊥
          apart t u x low k = by (nat_le t (slot_at u p)) refl (nat_lt (slot_at u p) (t + table_words s.geometry)) refl k
            where
              by : (v : Bool) → nat_le t (slot_at u p) ≡ v → (w : Bool) → nat_lt (slot_at u p) (t + table_words s.geometry) ≡ w → (v && w) ≡ false → ⊥
              by true e true f g = cc
              by true e false f g = test_lt (slot_at u p) (t + table_words s.geometry) f (omega arith)
              by false e w f g = test_le t (slot_at u p) e (omega arith)

      levels : {o : Option ℕ} {i j : ℕ} → o ≡ Some i → o ≡ Some j → i ≡ j
      levels h k = cc
