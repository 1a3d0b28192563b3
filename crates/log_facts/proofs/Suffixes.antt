-- The suffix of a table where a pass may start, and of one where a pass ended, by the depth of its last header. Of every legal log.
use Rattle.std.specs.Prelude.{◌≡◌, ◌≢◌, ℕ, ◌+◌, ◌-◌, ◌%◌, ◌^◌, ◌<◌, ◌≤◌, List, Option, Some, None, refl}
use Rattle.std.proofs.Common.{sym, ◌∙◌, ap, subst, arith, ⊎_elim}
use Rattle.std.proofs.lemmas.Bool.{cases_lt}
use Rattle.slot_word.specs.declared.births.Birth.{Birth}
use Rattle.bucket_group.specs.ExitLevel.{bit_of, exit_level}
use Rattle.bucket_group.proofs.ExitLaws.{exit-some, exit-none, exit-below, exit_suffix, low_same}
use Rattle.verb_log.specs.Decoded.{Header, PlainAt, SplittingAt, FillingAt, NoHeader}
use Rattle.verb_log.specs.Tables.{Past, Before, word_at}
use Rattle.race_laws.specs.Setting.{Setting, hash, main_of}
use Rattle.race_laws.specs.Standing.{IsTable, birth_in, key_header, depth, IsGone, Stays}
use Rattle.race_laws.specs.Chains as chains
use Rattle.race_laws.specs.Chains.{OnChain}
use Rattle.race_laws.specs.Legal.{Legal}
use Rattle.node_words.specs.Addresses.{first_table}
use Rattle.std.proofs.lemmas.Nat.{pow_pos, mod_below}
use Rattle.race_laws.proofs.Positions.{legal_before}
use Rattle.race_laws.proofs.Frames.{birth_before}
use Rattle.race_laws.proofs.Opening.{splits}
use Rattle.race_laws.proofs.Covers.{table_before}
use Rattle.race_laws.proofs.Chain.{born_at, chain_table}
use Rattle.log_facts.specs.Start.{Start, on_chain, below}
use Rattle.log_facts.proofs.Starts.{start_table}
use Rattle.log_facts.proofs.Keys.{main_below}
use Rattle.log_facts.proofs.Buckets.{bucket_depth, bucket_from}
use Rattle.log_facts.proofs.Heads.{bucket_valid}
use Rattle.log_facts.proofs.Directory.{bits, birth_small, first_birth_is}

-- the suffix of a table on the chain of a hash is that of the hash
pub chain_suffix : (s : Setting) (q : Past) → Legal s q → (h t : ℕ) → OnChain s.geometry q h t → (birth_in s.geometry q t).suffix ≡ h % 2 ^ born_at s.geometry q t
chain_suffix s q l h t chains.starts =
    let j = h % 2 ^ s.geometry.first_depth in
    let low : j < 2 ^ s.geometry.first_depth = mod_below h (2 ^ s.geometry.first_depth) (pow_pos s.geometry.first_depth) in
    let now = first_birth_is s q l (first_table s.geometry j) (record { index = j; below = low; is = refl; from = omega arith; to = omega arith }) in
    ap (λ (v : Birth). v.suffix) now ∙ ap (λ (v : Birth). h % 2 ^ v.depth) (sym now)
chain_suffix s q l h t (chains.goes_on u i c ch ex gn k n) =
    let tb = chain_table s q l h u ch in
    let born = (splits s q l).born u i t tb (exit-below h (born_at s.geometry q u) i ex) k n in
    born.suffix ∙ ap (λ v. v + 2 ^ i) (chain_suffix s q l h u ch) ∙ sym (exit_suffix h (born_at s.geometry q u) i ex) ∙ ap (λ v. h % 2 ^ v) (sym born.level)

-- the suffix of a table at which a pass for the hash may begin is that of the hash
pub start_suffix : (s : Setting) (q : Past) → Legal s q → (h t : ℕ) → Start s.geometry q h t → (birth_in s.geometry q t).suffix ≡ h % 2 ^ born_at s.geometry q t
start_suffix s q l h t (on_chain u ch) = chain_suffix s q l h t ch
start_suffix s q l h t (below u i x ch ex k n) =
    let tb = chain_table s q l h u ch in
    let born = (splits s q l).born u i t tb (exit-below h (born_at s.geometry q u) i ex) k n in
    born.suffix ∙ ap (λ v. v + 2 ^ i) (chain_suffix s q l h u ch) ∙ sym (exit_suffix h (born_at s.geometry q u) i ex) ∙ ap (λ v. h % 2 ^ v) (sym born.level)

-- where the key stays by a header of some depth, the bits from the birth depth up to it are 0
low_bits : (h b d : ℕ) (hd : Header) → hd ≢ NoHeader → depth hd ≡ d → d ≤ 16 → ((i : ℕ) → exit_level h b ≡ Some i → IsGone hd i → ⊥) → (j : ℕ) → b ≤ j → j < d → bit_of h j ≡ 0
low_bits h b d hd n e k st j a m = by (exit_level h b) refl
  where
    not_before : (x : Header) → x ≢ NoHeader → (i : ℕ) → i < depth x → IsGone x i
    not_before (PlainAt y) n i lt = lt
    not_before (SplittingAt y) n i lt = omega arith
    not_before (FillingAt y) n i lt = lt
    not_before NoHeader n i lt = absurd (n refl)

    by : (o : Option ℕ) → exit_level h b ≡ o → bit_of h j ≡ 0
    by None x = exit-none h b j x a (omega arith)
    by (Some i) x = ⊎_elim (λ (y : i < d). absurd (st i x (not_before hd n i (omega arith)))) (λ (y : d ≤ i). (exit-some h b i x).least j a (omega arith)) (cases_lt i d)

-- the table where a pass ended has as suffix the lowest bits of the hash, as many as its last header's depth
pub aimed : (s : Setting) (key : List ℕ) {at q : Past} → Before at q → Legal s q → (t : ℕ) (hd : Header) → Start s.geometry at (hash s key) t → key_header s at t key ≡ hd → Stays s at t key hd → IsTable s.geometry q t × ((birth_in s.geometry q t).suffix ≡ hash s key % 2 ^ depth hd)
aimed s key {at = at} bf l t hd st e stays =
    let la = legal_before s bf l in
    let tb = start_table s at la (hash s key) t st in
    let from = bucket_from s at la t (main_of s key) tb (main_below s key) in
    let low = subst (λ v. born_at s.geometry at t ≤ depth v) e from in
    let deep = bucket_depth s at la t (main_of s key) tb (main_below s key) in
    let max = (splits s at la).deep t tb in
    let g16 = s.geometry.deep in
    let same = ap depth e in
    let zeros = low_bits (hash s key) (born_at s.geometry at t) (depth hd) hd (λ z. bucket_valid s at la t (main_of s key) tb (main_below s key) (e ∙ z)) refl (omega arith) stays in (
      table_before s.geometry bf t t tb,
      ap (λ (v : Birth). v.suffix) (birth_before s bf l t tb) ∙ start_suffix s at la (hash s key) t st
          ∙ sym (low_same (hash s key) (born_at s.geometry at t) (depth hd - born_at s.geometry at t) (λ j a k. zeros j a (omega arith)))
          ∙ ap (λ v. hash s key % 2 ^ v) (plus (born_at s.geometry at t) (depth hd) low),
    )
  where
    plus : (b d : ℕ) → b ≤ d → b + (d - b) ≡ d
    plus b d k = omega arith

-- a key leaves a table at a level exactly where its hash has the suffix of the child of that level
pub suffix_leaves : (s : Setting) (q : Past) (h t d : ℕ) → born_at s.geometry q t ≤ d → d < 16 → h % 2 ^ (d + 1) ≡ (birth_in s.geometry q t).suffix + 2 ^ d → exit_level h (born_at s.geometry q t) ≡ Some d
suffix_leaves s q h t d from low e = (bits h (born_at s.geometry q t) d (birth_in s.geometry q t).suffix from low (birth_small (word_at s.geometry q t)) e).0

pub leaves_suffix : (s : Setting) (q : Past) → Legal s q → (h t d : ℕ) → OnChain s.geometry q h t → exit_level h (born_at s.geometry q t) ≡ Some d → h % 2 ^ (d + 1) ≡ (birth_in s.geometry q t).suffix + 2 ^ d
leaves_suffix s q l h t d ch ex = exit_suffix h (born_at s.geometry q t) d ex ∙ ap (λ v. v + 2 ^ d) (sym (chain_suffix s q l h t ch))
