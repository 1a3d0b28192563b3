-- All hashes of one index of the cached directory share their chain, and where their passes may start.
use Rattle.std.specs.Prelude.{◌≡◌, ℕ, ◌+◌, ◌-◌, ◌/◌, ◌%◌, ◌^◌, ◌<◌, Some, refl}
use Rattle.std.proofs.Common.{sym, ◌∙◌, ap, subst, arith}
use Rattle.std.proofs.lemmas.Nat.{field_of}
use Rattle.std.proofs.Math.Pow.{mod-mod-pow}
use Rattle.bucket_group.specs.ExitLevel.{bit_of, exit_level}
use Rattle.bucket_group.proofs.ExitLaws.{exit-some, exit-below, exit-is}
use Rattle.node_words.specs.Addresses.{first_table}
use Rattle.verb_log.specs.Decoded.{Header, PlainAt, SplittingAt, FillingAt, NoHeader}
use Rattle.verb_log.specs.Tables.{Past}
use Rattle.race_laws.specs.Setting.{Setting}
use Rattle.race_laws.specs.Standing.{IsTable, header_in, depth, IsGone}
use Rattle.race_laws.specs.Chains.{OnChain, starts, goes_on}
use Rattle.race_laws.specs.Legal.{Legal}
use Rattle.race_laws.proofs.Opening.{splits}
use Rattle.race_laws.proofs.Chain.{born_at, chain_table}
use Rattle.log_facts.specs.Start.{Start, on_chain, below}

-- hashes with the same lowest bits have the same bits there
bit_same : (h k m j : ℕ) → j < m → h % 2 ^ m ≡ k % 2 ^ m → bit_of h j ≡ bit_of k j
bit_same h k m j low e = sym (low_bits h) ∙ ap (λ v. v % 2 ^ (1 + j) / 2 ^ j) e ∙ low_bits k
  where
    up : m - (1 + j) + (1 + j) ≡ m
    up = omega arith

    low_bits : (n : ℕ) → n % 2 ^ m % 2 ^ (1 + j) / 2 ^ j ≡ bit_of n j
    low_bits n = ap (λ v. v / 2 ^ j) (ap (λ v. n % 2 ^ v % 2 ^ (1 + j)) (sym up) ∙ mod-mod-pow n (m - (1 + j)) (1 + j)) ∙ field_of n 1 j

-- and the same exit level, where it is below that
exit_same : (h k m b i : ℕ) → h % 2 ^ m ≡ k % 2 ^ m → i < m → exit_level h b ≡ Some i → exit_level k b ≡ Some i
exit_same h k m b i e low x =
    let r = exit-some h b i x in
    exit-is k b i r.from (exit-below h b i x) (sym (bit_same h k m i low e) ∙ r.set) (λ j f g. sym (bit_same h k m j (omega arith) e) ∙ r.least j f g)

-- a header shows a key gone at a level below the greatest depth
gone_low : (s : Setting) (q : Past) → Legal s q → (t i : ℕ) → IsTable s.geometry q t → IsGone (header_in s.geometry q t) i → i < s.geometry.max_depth
gone_low s q l t i h g = by (header_in s.geometry q t) refl g
  where
    by : (v : Header) → header_in s.geometry q t ≡ v → IsGone v i → i < s.geometry.max_depth
    by (PlainAt d) e g = let x = (splits s q l).deep t h in let y = ap depth e in omega arith
    by (SplittingAt d) e g = let x = ((splits s q l).splitting t d h e).0 in omega arith
    by (FillingAt d) e g = let x = (splits s q l).deep t h in let y = ap depth e in omega arith
    by NoHeader e g = absurd g

-- so all hashes of one index share their chain, and where their passes may begin
chain_shared : (s : Setting) (q : Past) → Legal s q → (h k : ℕ) → h % 2 ^ s.geometry.max_depth ≡ k % 2 ^ s.geometry.max_depth → (t : ℕ) → OnChain s.geometry q h t → OnChain s.geometry q k t
chain_shared s q l h k e t starts = subst (λ v. OnChain s.geometry q k (first_table s.geometry v)) (sym first) starts
  where
    up : s.geometry.max_depth - s.geometry.first_depth + s.geometry.first_depth ≡ s.geometry.max_depth
    up = let x = s.geometry.begins in omega arith

    low : (n : ℕ) → n % 2 ^ s.geometry.max_depth % 2 ^ s.geometry.first_depth ≡ n % 2 ^ s.geometry.first_depth
    low n = ap (λ v. n % 2 ^ v % 2 ^ s.geometry.first_depth) (sym up) ∙ mod-mod-pow n (s.geometry.max_depth - s.geometry.first_depth) s.geometry.first_depth

    first : h % 2 ^ s.geometry.first_depth ≡ k % 2 ^ s.geometry.first_depth
    first = sym (low h) ∙ ap (λ v. v % 2 ^ s.geometry.first_depth) e ∙ low k
chain_shared s q l h k e t (goes_on u i c ch ex g n z) =
    goes_on u i c (chain_shared s q l h k e u ch) (exit_same h k s.geometry.max_depth (born_at s.geometry q u) i e (gone_low s q l u i (chain_table s q l h u ch) g) ex) g n z

pub start_shared : (s : Setting) (q : Past) → Legal s q → (h k : ℕ) → h % 2 ^ s.geometry.max_depth ≡ k % 2 ^ s.geometry.max_depth → (t : ℕ) → Start s.geometry q h t → Start s.geometry q k t
start_shared s q l h k e t (on_chain u c) = on_chain t (chain_shared s q l h k e t c)
start_shared s q l h k e t (below u i c ch ex n z) =
    let tb = chain_table s q l h u ch in
    let born = (splits s q l).born u i t tb (exit-below h (born_at s.geometry q u) i ex) n z in
    let from = (splits s q l).from t born.table in
    let deep = (splits s q l).deep t born.table in
    let level = born.level in
    below u i t (chain_shared s q l h k e u ch) (exit_same h k s.geometry.max_depth (born_at s.geometry q u) i e (omega arith) ex) n z
