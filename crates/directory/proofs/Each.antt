-- Naming the child at each index with its suffix is safe.
use Rattle.std.specs.Prelude.{◌≡◌, ℕ, zero, suc, ◌+◌, ◌-◌, ◌*◌, ◌/◌, ◌%◌, ◌^◌, ◌<◌, ◌≤◌, Bool, true, false, cond, nat_lt, min, ◌⊎◌, refl}
use Rattle.std.proofs.Common.{sym, ◌∙◌, ap, subst, arith, ⊎_elim}
use Rattle.std.proofs.lemmas.Bool.Decides.{nat_tests}
use Rattle.std.proofs.lemmas.Nat.{pow_pos, div-add-mod', div_below, mul-le, mod-mul-add}
use Rattle.std.proofs.Math.Nat.{mod-eq_of_lt}
use Rattle.slot_word.specs.declared.births.Birth.{Birth}
use Rattle.node_words.specs.declared.geometry.Geometry.{Geometry}
use Rattle.node_words.specs.Addresses.{directory_at}
use Rattle.verb_log.specs.Tables.{Past, Before, here, word_at}
use Rattle.verb_log.proofs.Positions.{Before-trans}
use Rattle.race_laws.specs.Setting.{Setting}
use Rattle.race_laws.specs.Legal.{Legal}
use Rattle.race_laws.proofs.Positions.{legal_before}
use Rattle.log_facts.proofs.Growing.{since_before}
use Rattle.log_facts.proofs.Following.{directory_low}
use Rattle.log_facts.proofs.Directory.{directs, directory_set, pow_up}
use Rattle.log_facts.proofs.Shallow.{pointed_shallow}
use Rattle.pass_laws.specs.SafeIn.{SafeBy}
use Rattle.directory.specs.declared.naming.Naming.{Naming}
use Rattle.directory.specs.Text.{step, first_index, indices, name_each, name_below}
use Rattle.directory.specs.Law.{Names, WasNamed, HasNamed}
use Rattle.directory.proofs.Indices.{all_steps}
use Rattle.directory.proofs.Child.{Child, child_since, child_low, Mine, pointed_at, named_later}
use Rattle.directory.proofs.Looking.{look_safe}

-- n indices are all those below 2 ^ depth with the child's suffix: from the least one on, by steps
record Covers (t : Naming) (depth n : ℕ) : Type 0 where
  inside : (x : ℕ) → x < n → first_index t + x * step t < 2 ^ depth
  all : (j : ℕ) → j < 2 ^ depth → j % 2 ^ t.birth.depth ≡ t.birth.suffix → (x : ℕ) × (x < n) × (j ≡ first_index t + x * step t)

module _ (s : Setting) (c : ℕ) (t : Naming) (same : t.geometry ≡ s.geometry) (from : Past) where
  first_is : (q : Past) → Child s t from q → first_index t ≡ t.birth.suffix
  first_is q h = small t.birth.suffix (2 ^ t.birth.depth) (child_low s t from q h)
    where
      small : (x n : ℕ) → x < n → x % n ≡ x
      small x n h = mod-eq_of_lt h

  step_suffix : (q : Past) → Child s t from q → (x : ℕ) → (first_index t + x * step t) % 2 ^ t.birth.depth ≡ t.birth.suffix
  step_suffix q h x = place (first_index t) x (2 ^ t.birth.depth) (let f = first_is q h in let l = child_low s t from q h in omega arith) ∙ first_is q h
    where
      place : (a x n : ℕ) → a < n → (a + x * n) % n ≡ a
      place a x n h = ap (λ v. v % n) (turn a (x * n)) ∙ mod-mul-add x n a h
        where
          turn : (a b : ℕ) → a + b ≡ b + a
          turn a b = omega arith

  -- all indices below a global depth that stood at a position
  covers : (q : Past) → Legal s q → Child s t from q → (depth : ℕ) → s.geometry.first_depth ≤ depth → (v : Bool) → nat_lt depth t.birth.depth ≡ v → Covers t depth (cond v 0 (2 ^ (depth - t.birth.depth)))
  covers q l h depth deep true e = record {
    inside = λ x k. absurd (omega arith);
    all = λ j k m.
        let b = pointed_shallow s q l j depth t.child deep k (pointed_at s t from q h j m) in
        let d = ap (λ (v : Birth). v.depth) h.birth in
        let n = less depth t.birth.depth e in
        absurd (omega arith);
  }
    where
      less : (x y : ℕ) → nat_lt x y ≡ true → x < y
      less x y h = grind (arith, nat_tests)
  covers q l h depth deep false e = record {
    inside = λ x k.
        let a = all_steps t.birth.depth depth le in
        let m = mul-le (suc x) (step t) (2 ^ (depth - t.birth.depth)) (step t) k (omega arith) in
        let f = first_is q h in
        let low = child_low s t from q h in
        omega arith;
    all = λ j k m. (j / step t, div_below j (step t) (2 ^ (depth - t.birth.depth)) (pow_pos t.birth.depth) (let a = all_steps t.birth.depth depth le in omega arith), let d = div-add-mod' j (2 ^ t.birth.depth) in let f = first_is q h in omega arith);
  }
    where
      le : t.birth.depth ≤ depth
      le = not_less depth t.birth.depth e
        where
          not_less : (x y : ℕ) → nat_lt x y ≡ false → y ≤ x
          not_less x y h = grind (arith, nat_tests)

  -- the global depth stood at the position `deep`
  module _ (deep : Past) (begun : Before from deep) (depth count : ℕ) (stood : word_at s.geometry deep 1 ≡ depth) (cover : Covers t depth count) where
    mine : (q : Past) → Legal s q → Before deep q → Child s t from q → (x : ℕ) → x < count → Mine s t from (first_index t + x * step t) q
    mine q l b h x k =
        let d = directs s deep (legal_before s b l) in
        let i = cover.inside x k in
        let p = pow_up (word_at s.geometry deep 1) s.geometry.max_depth d.depth_low in
        let i2 : first_index t + x * step t < 2 ^ word_at s.geometry deep 1 = subst (λ v. first_index t + x * step t < 2 ^ v) (sym stood) i in
        let low : first_index t + x * step t < 2 ^ s.geometry.max_depth = omega arith in
        record { low = low; suffix = step_suffix q h x; some = directory_set s b l (first_index t + x * step t) low (d.some (first_index t + x * step t) i2) }

    each_safe : (n k : ℕ) → k + n ≡ count → (q : Past) → Legal s q → Child s t from q → Before deep q → ((x : ℕ) → x < k → WasNamed s.geometry from q (first_index t + x * step t) t.child) → SafeBy Names s c q (name_each t depth n (first_index t + k * step t)) (λ z m. HasNamed s t from z m)
    each_safe zero k e q l h b done = record {
      deep = deep;
      from_then = begun;
      till = b;
      depth = stood;
      each = λ j low m. let x = cover.all j low m in subst (λ v. WasNamed s.geometry from q v t.child) (sym x.2) (done x.0 (omega arith));
    }
    each_safe (suc n) k e q l h b done =
        let low : k < count = omega arith in (
          directory_low s c q l (first_index t + k * step t) (mine q l b h k low).low,
          λ z lz sz.
              let hz = child_since s t from sz lz h in
              let bz = Before-trans b (since_before sz) in
              look_safe s c t from (λ z m. HasNamed s t from z m) (first_index t + k * step t) (name_each t depth n (first_index t + k * step t + step t)) z
              (λ y ly hy by w. subst (λ v. SafeBy Names s c y (name_each t depth n v) (λ z m. HasNamed s t from z m)) (onward (first_index t) k (step t))
              (each_safe n (suc k) (omega arith) y ly hy (Before-trans bz by)
              (λ x i. named (Before-trans (since_before sz) by) w x i)))
              (suc t.birth.depth) (word_at s.geometry z (directory_at (first_index t + k * step t))) z z here lz hz here
              (record { child = hz; mine = mine z lz bz hz k low; is = refl }) (omega arith),
        )
      where
        onward : (a k m : ℕ) → a + suc k * m ≡ a + k * m + m
        onward a k m = omega arith

        named : {y : Past} → Before q y → WasNamed s.geometry from y (first_index t + k * step t) t.child → (x : ℕ) → x < suc k → WasNamed s.geometry from y (first_index t + x * step t) t.child
        named {y = y} by w x i = ⊎_elim (λ (v : x < k). named_later s.geometry from (first_index t + x * step t) t.child by (done x v))
            (λ (v : x ≡ k). subst (λ u. WasNamed s.geometry from y (first_index t + u * step t) t.child) (sym v) w) (below_or x k i)
          where
            below_or : (x k : ℕ) → x < suc k → (x < k) ⊎ (x ≡ k)
            below_or x k i = grind arith

  -- .. below the global depth that stood there
  pub below_safe : (deep q : Past) → Before from deep → Before deep q → Legal s q → Child s t from q → (global : ℕ) → word_at s.geometry deep 1 ≡ global → SafeBy Names s c q (name_below t global) (λ z m. HasNamed s t from z m)
  below_safe deep q b b2 l h global stood =
      let d = directs s deep (legal_before s b2 l) in
      subst (λ v. SafeBy Names s c q (name_each t v (indices t v) (first_index t)) (λ z m. HasNamed s t from z m)) (least global t.geometry.max_depth (let x = ap (λ (v : Geometry). v.max_depth) same in let y = d.depth_low in omega arith))
      (subst (λ v. SafeBy Names s c q (name_each t global (indices t global) v) (λ z m. HasNamed s t from z m)) (none (first_index t) (step t))
      (each_safe deep b global (indices t global) stood (covers q l h global (let y = d.depth_from in omega arith) (nat_lt global t.birth.depth) refl) (indices t global) 0 (omega arith) q l h b2 (λ x i. absurd (omega arith))))
    where
      least : (x m : ℕ) → x ≤ m → x ≡ min x m
      least x m h = omega arith

      none : (a m : ℕ) → a + 0 * m ≡ a
      none a m = omega arith
