-- A whole naming, by the text.
use Rattle.std.specs.Prelude.{◌≡◌, ℕ, ◌+◌, ◌^◌, ◌<◌, true, ◌==◌, ◌&&◌, nat_lt, reverse, refl}
use Rattle.std.proofs.Common.{sym, ap, subst, arith}
use Rattle.std.proofs.lemmas.Bool.Decides.{nat_tests}
use Rattle.node_words.specs.declared.geometry.Geometry.{Geometry}
use Rattle.verb_log.specs.Tables.{Past, here, word_at}
use Rattle.verbs.specs.Programs.{Prog}
use Rattle.race_laws.specs.Setting.{Setting}
use Rattle.race_laws.specs.Legal.{Legal}
use Rattle.log_facts.specs.Beside.{Firm, other}
use Rattle.log_facts.proofs.Naming.{depth_low}
use Rattle.pass_laws.specs.SafeIn.{SafeBy, Calmly, SafeIn}
use Rattle.pass_laws.proofs.Bridge.{safe_in_order}
use Rattle.pass_laws.proofs.Rules.{Holds, by_weaker, by_cond}
use Rattle.directory.specs.declared.naming.Naming.{Naming}
use Rattle.directory.specs.declared.naming.Named.{Named}
use Rattle.directory.specs.Text.{old_depth, name_below, double, after_depth, naming}
use Rattle.directory.specs.Law.{Names, MayName, HasNamed, IsSafeNaming, NamingIsSafe}
use Rattle.directory.proofs.Child.{Child, child_first, child_since, names_calmly}
use Rattle.directory.proofs.Each.{below_safe}
use Rattle.directory.proofs.Doubling.{two_pow, double_safe}

-- the global depth was read
depth_safe : (s : Setting) (c : ℕ) (t : Naming) → t.geometry ≡ s.geometry → (from z : Past) → Legal s z → Child s t from z → SafeBy Names s c z (after_depth t (word_at s.geometry z 1)) (λ y n. HasNamed s t from y n)
depth_safe s c t same from z l h =
    by_cond Names s c (λ y n. HasNamed s t from y n) z (nat_lt (word_at s.geometry z 1) t.geometry.max_depth && (word_at s.geometry z 1 + 1 == t.birth.depth)) (double t (2 ^ old_depth t) (2 ^ old_depth t)) (name_below t (word_at s.geometry z 1))
    (λ v. let b = both (word_at s.geometry z 1) t.geometry.max_depth t.birth.depth v in
    let m = ap (λ (g : Geometry). g.max_depth) same in
    let old : old_depth t ≡ word_at s.geometry z 1 = omega arith in
    let two = two_pow (word_at s.geometry z 1) in
    subst (λ x. SafeBy Names s c z (double t (2 ^ x) (2 ^ x)) (λ y n. HasNamed s t from y n)) (sym old)
    (double_safe s c t same from z h.begun (word_at s.geometry z 1) refl old (omega arith) (2 ^ word_at s.geometry z 1) (2 ^ word_at s.geometry z 1) (omega arith) (omega arith) z l h here (λ i a k. absurd (omega arith))))
    (λ v. below_safe s c t same from z z h.begun here l h (word_at s.geometry z 1) refl)
  where
    both : (x y w : ℕ) → (nat_lt x y && (x + 1 == w)) ≡ true → (x < y) × (x + 1 ≡ w)
    both x y w h = grind (arith, nat_tests)

-- a naming of any client: it makes Name and Deepen alone
pub naming_safe : (s : Setting) (c : ℕ) (t : Naming) (q : Past) → Legal s q → MayName s q t → SafeBy Names s c q (naming t) (λ y n. HasNamed s t q y n)
naming_safe s c t q l m = (depth_low s c q l, λ z lz sz. depth_safe s c t m.geometry q z lz (child_since s t q sz lz (child_first s t q m)))

-- a fact that entries beside keep is kept through a naming
pub names_holds : (s : Setting) (c : ℕ) (P : Past → Type 0) → Firm s c P → Holds Names s c P
names_holds s c P f = record { others = λ q e l o h. f q e l (other o) h; own = λ q e l r h. f q e l (names_calmly s c q e r).1 h }

-- .. as part of a call
pub naming_calm : (s : Setting) (c : ℕ) (t : Naming) (q : Past) → Legal s q → MayName s q t → SafeIn s c q (naming t) (λ y n. HasNamed s t q y n)
naming_calm s c t q l m = by_weaker Names s c Calmly (λ x e d. names_calmly s c x e d) q (naming t) (λ y n. HasNamed s t q y n) (λ y n. HasNamed s t q y n) (λ n a h. h) (naming_safe s c t q l m)

pub naming_is_safe : NamingIsSafe
naming_is_safe t s c log l m = safe_in_order s c log (naming t) (λ y n. HasNamed s t (reverse log) y n) (naming_calm s c t (reverse log) l m)

-- a program that is the naming is safe as the naming is
pub safe_as_naming : (t : Naming) (program : Prog Named) → program ≡ naming t → IsSafeNaming t program
safe_as_naming t program e = subst (IsSafeNaming t) (sym e) (naming_is_safe t)
