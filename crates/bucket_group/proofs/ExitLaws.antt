-- What the exit level of a hash says of its bits.

use Rattle.std.proofs.Common.{◌≡◌, ◌≢◌, ℕ, zero, suc, ◌+◌, ◌-◌, ◌*◌, ◌/◌, ◌%◌, ◌^◌, ◌<◌, ◌≤◌, ◌⊎◌, inl, inr, ⊎_elim, Some, None, refl, sym, ap, subst, ◌∙◌, arith, zero-mul, one-mul}
use Rattle.std.proofs.lemmas.Bool.{cases_eq}
use Rattle.std.proofs.lemmas.Nat.{mod-pow-add, field_of}
use Rattle.std.proofs.Math.Pow.{mod-mod-pow}
use Rattle.std.proofs.lemmas.Bool.Decides.{nat_tests}
use Rattle.std.specs.Prelude.{IfSome, IfNone, Option, None}
use Rattle.bucket_group.specs.ExitLevel.{bit_of, exit_from, exit_level, IsLeastSet}

-- a level is the least whose bit is set, of the n from b on
pub record IsExit (n b hash i : ℕ) : Type 0 where
  pub from : b ≤ i
  pub to : i < b + n
  pub set : bit_of hash i ≡ 1
  pub least : (j : ℕ) → b ≤ j → j < i → bit_of hash j ≡ 0

pub bit_cases : (hash i : ℕ) → (bit_of hash i ≡ 0) ⊎ (bit_of hash i ≡ 1)
bit_cases hash i = ⊎_elim (λ (e : bit_of hash i ≡ 0). inl e) (λ (e : bit_of hash i ≢ 0). inr (omega arith)) (cases_eq (bit_of hash i) 0)

pub bit_not : (hash i : ℕ) → bit_of hash i ≢ 1 → bit_of hash i ≡ 0
bit_not hash i h = ⊎_elim (λ (z : bit_of hash i ≡ 0). z) (λ (o : bit_of hash i ≡ 1). absurd (h o)) (bit_cases hash i)

-- one step of the search
pub exit-here : (n b hash : ℕ) → bit_of hash b ≡ 1 → exit_from (suc n) b hash ≡ Some b
exit-here n b hash h = grind (arith, nat_tests)

pub exit-on : (n b hash : ℕ) → bit_of hash b ≡ 0 → exit_from (suc n) b hash ≡ exit_from n (suc b) hash
exit-on n b hash h = grind (arith, nat_tests)

pub exit_wider : (n b hash i : ℕ) → bit_of hash b ≡ 0 → IsExit n (suc b) hash i → IsExit (suc n) b hash i
exit_wider n b hash i z r =
    let x = r.from in let y = r.to in
    record {
      from = omega arith;
      to = omega arith;
      set = r.set;
      least = λ j k l.
          ⊎_elim (λ (e : b ≡ j). ap (bit_of hash) (sym e) ∙ z) (λ (e : b ≢ j). r.least j (omega arith) l) (cases_eq b j);
    }

pub exit_from-some : (n b hash i : ℕ) → exit_from n b hash ≡ Some i → IsExit n b hash i
exit_from-some zero b hash i h = absurd (cc)
exit_from-some (suc n) b hash i h =
    ⊎_elim (λ (z : bit_of hash b ≡ 0).
    let r = exit_from-some n (suc b) hash i (sym (exit-on n b hash z) ∙ h) in
    exit_wider n b hash i z r)
    (λ (o : bit_of hash b ≡ 1).
    let e : b ≡ i = cc (exit-here n b hash o) in
    subst (IsExit (suc n) b hash) e (record { from = omega arith; to = omega arith; set = o; least = λ j k l. absurd (omega arith) }))
    (bit_cases hash b)

pub exit_from-none : (n b hash j : ℕ) → exit_from n b hash ≡ None → b ≤ j → j < b + n → bit_of hash j ≡ 0
exit_from-none zero b hash j h k l = absurd (omega arith)
exit_from-none (suc n) b hash j h k l =
    ⊎_elim (λ (z : bit_of hash b ≡ 0).
    ⊎_elim (λ (e : b ≡ j). ap (bit_of hash) (sym e) ∙ z)
    (λ (e : b ≢ j). exit_from-none n (suc b) hash j (sym (exit-on n b hash z) ∙ h) (omega arith) (omega arith)) (cases_eq b j))
    (λ (o : bit_of hash b ≡ 1). absurd (cc (exit-here n b hash o)))
    (bit_cases hash b)

-- and back: the least level whose bit is set is the exit level
pub exit_from-is : (n b hash i : ℕ) → IsExit n b hash i → exit_from n b hash ≡ Some i
exit_from-is zero b hash i r = let x = r.from in let y = r.to in absurd (omega arith)
exit_from-is (suc n) b hash i r =
    ⊎_elim (λ (e : b ≡ i). exit-here n b hash (ap (bit_of hash) e ∙ r.set) ∙ ap (λ v. Some v) e)
    (λ (e : b ≢ i). let x = r.from in let y = r.to in
    exit-on n b hash (r.least b (omega arith) (omega arith))
    ∙ exit_from-is n (suc b) hash i (record { from = omega arith; to = omega arith; set = r.set; least = λ j k l. r.least j (omega arith) l }))
    (cases_eq b i)

pub exit_from-is_none : (n b hash : ℕ) → ((j : ℕ) → b ≤ j → j < b + n → bit_of hash j ≡ 0) → exit_from n b hash ≡ None
exit_from-is_none zero b hash h = refl
exit_from-is_none (suc n) b hash h = exit-on n b hash (h b (omega arith) (omega arith)) ∙ exit_from-is_none n (suc b) hash (λ j k l. h j (omega arith) (omega arith))

-- the same of a table's exit level
pub exit-next : (hash b : ℕ) → b < 16 → bit_of hash b ≡ 0 → exit_level hash b ≡ exit_level hash (b + 1)
unfolding exit_level
exit-next hash b h z =
    let e : 16 - b ≡ suc (16 - suc b) = omega arith in let f : suc b ≡ b + 1 = omega arith in
    ap (λ n. exit_from n b hash) e ∙ exit-on (16 - suc b) b hash z ∙ ap (λ c. exit_from (16 - c) c hash) f

pub exit-found : (hash b : ℕ) → b < 16 → bit_of hash b ≡ 1 → exit_level hash b ≡ Some b
unfolding exit_level
exit-found hash b h o =
    let e : 16 - b ≡ suc (16 - suc b) = omega arith in
    ap (λ n. exit_from n b hash) e ∙ exit-here (16 - suc b) b hash o

pub exit-end : (hash b : ℕ) → 16 ≤ b → exit_level hash b ≡ None
unfolding exit_level
exit-end hash b h = let e : 16 - b ≡ 0 = omega arith in ap (λ n. exit_from n b hash) e

-- the exit level is the least level from the birth depth on whose bit is set
pub exit-some : (hash b i : ℕ) → exit_level hash b ≡ Some i → IsExit (16 - b) b hash i
unfolding exit_level
exit-some hash b i h = exit_from-some (16 - b) b hash i h

pub exit-below : (hash b i : ℕ) → exit_level hash b ≡ Some i → i < 16
exit-below hash b i h = let r = exit-some hash b i h in let x = r.from in let y = r.to in omega arith

pub exit-is : (hash b i : ℕ) → b ≤ i → i < 16 → bit_of hash i ≡ 1 → ((j : ℕ) → b ≤ j → j < i → bit_of hash j ≡ 0) → exit_level hash b ≡ Some i
unfolding exit_level
exit-is hash b i from to one least = exit_from-is (16 - b) b hash i (record { from = from; to = omega arith; set = one; least = least })

-- there is none where no bit from the birth depth on is set
pub exit-none : (hash b j : ℕ) → exit_level hash b ≡ None → b ≤ j → j < 16 → bit_of hash j ≡ 0
unfolding exit_level
exit-none hash b j h k l = exit_from-none (16 - b) b hash j h k (omega arith)

pub exit-is_none : (hash b : ℕ) → ((j : ℕ) → b ≤ j → j < 16 → bit_of hash j ≡ 0) → exit_level hash b ≡ None
unfolding exit_level
exit-is_none hash b h = exit_from-is_none (16 - b) b hash (λ j k l. h j k (omega arith))

-- both, of a result that is the exit level
pub exit-tells_some : (hash b : ℕ) (o : Option ℕ) → o ≡ exit_level hash b → IfSome o (λ i. IsLeastSet b hash i)
exit-tells_some hash b None e = tt
exit-tells_some hash b (Some i) e =
    let r = exit-some hash b i (sym e) in
    record { from = r.from; below = exit-below hash b i (sym e); set = r.set; least = r.least }

pub exit-tells_none : (hash b : ℕ) (o : Option ℕ) → o ≡ exit_level hash b → IfNone o ((i : ℕ) → b ≤ i → i < 16 → bit_of hash i ≡ 0)
exit-tells_none hash b None e = λ i h l. exit-none hash b i (sym e) h l
exit-tells_none hash b (Some i) e = tt

-- one more bit of a hash
pub low_bit : (hash i : ℕ) → hash % 2 ^ (i + 1) ≡ bit_of hash i * 2 ^ i + hash % 2 ^ i
low_bit hash i = let e : i + 1 ≡ 1 + i = omega arith in ap (λ n. hash % 2 ^ n) e ∙ mod-pow-add hash 1 i

-- as long as no bit is set the low bits are the same number
pub low_same : (hash b d : ℕ) → ((j : ℕ) → b ≤ j → j < b + d → bit_of hash j ≡ 0) → hash % 2 ^ (b + d) ≡ hash % 2 ^ b
low_same hash b zero h = let e : b + 0 ≡ b = omega arith in ap (λ n. hash % 2 ^ n) e
low_same hash b (suc d) h =
    let e : b + suc d ≡ b + d + 1 = omega arith in
    let z = h (b + d) (omega arith) (omega arith) in
    let l = low_bit hash (b + d) in
    let p : bit_of hash (b + d) * 2 ^ (b + d) ≡ 0 = ap (λ v. v * 2 ^ (b + d)) z ∙ zero-mul (2 ^ (b + d)) in
    ap (λ n. hash % 2 ^ n) e ∙ (let q = low_same hash b d (λ j k r. h j k (omega arith)) in omega arith)

-- the suffix of the child to which a key leaves: its table's suffix and the bit of the exit level
pub exit_suffix : (hash b i : ℕ) → exit_level hash b ≡ Some i → hash % 2 ^ (i + 1) ≡ hash % 2 ^ b + 2 ^ i
exit_suffix hash b i h =
    let r = exit-some hash b i h in let x = r.from in let l = low_bit hash i in
    let e : b + (i - b) ≡ i = omega arith in
    let s = low_same hash b (i - b) (λ j k m. r.least j k (omega arith)) in
    let t : hash % 2 ^ i ≡ hash % 2 ^ b = ap (λ n. hash % 2 ^ n) (sym e) ∙ s in
    let p : bit_of hash i * 2 ^ i ≡ 2 ^ i = ap (λ v. v * 2 ^ i) r.set ∙ one-mul (2 ^ i) in
    omega arith

-- the bits below a depth are those of the hash modulo 2 to this depth
pub bit_low : (hash depth i : ℕ) → i < depth → bit_of (hash % 2 ^ depth) i ≡ bit_of hash i
bit_low hash depth i h =
    let e : depth ≡ (depth - i) + i = omega arith in let f : depth - i ≡ (depth - i - 1) + 1 = omega arith in
    ap (λ n. hash % 2 ^ n / 2 ^ i % 2) e
    ∙ ap (λ n. n % 2) (field_of hash (depth - i) i)
    ∙ ap (λ n. hash / 2 ^ i % 2 ^ n % 2) f
    ∙ mod-mod-pow (hash / 2 ^ i) (depth - i - 1) 1

pub same_bit : (hash other depth i : ℕ) → hash % 2 ^ depth ≡ other % 2 ^ depth → i < depth → bit_of hash i ≡ bit_of other i
same_bit hash other depth i e h = sym (bit_low hash depth i h) ∙ ap (λ n. bit_of n i) e ∙ bit_low other depth i h

-- hashes that agree below a depth leave at the same level below it
pub exit_shared : (hash other depth b i : ℕ) → hash % 2 ^ depth ≡ other % 2 ^ depth → i < depth → exit_level hash b ≡ Some i → exit_level other b ≡ Some i
exit_shared hash other depth b i e h x =
    let r = exit-some hash b i x in let w = exit-below hash b i x in
    exit-is other b i r.from w (sym (same_bit hash other depth i e h) ∙ r.set) (λ j k l. sym (same_bit hash other depth j e (omega arith)) ∙ r.least j k l)
