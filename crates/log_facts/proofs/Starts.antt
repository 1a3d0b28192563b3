-- Where a pass may start: kept by every legal entry; and which starts are on the chain, and what a filling one is.
use Rattle.std.specs.Prelude.{◌≡◌, ◌≢◌, ℕ, ◌%◌, ◌^◌, ◌<◌, ◌≤◌, [], Some}
use Rattle.std.proofs.Common.{sym, ◌∙◌, ap, subst, arith, ⊎_elim}
use Rattle.std.proofs.lemmas.Nat.{pow_pos, mod_below}
use Rattle.std.proofs.lemmas.Bool.{cases_lt}
use Rattle.bucket_group.specs.ExitLevel.{exit_level}
use Rattle.bucket_group.proofs.ExitLaws.{exit-below}
use Rattle.node_words.specs.declared.geometry.Geometry.{Geometry}
use Rattle.node_words.specs.Addresses.{first_table, first_free}
use Rattle.verb_log.specs.Decoded.{Header, PlainAt, SplittingAt, FillingAt, NoHeader}
use Rattle.verb_log.specs.Tables.{Past, Before}
use Rattle.race_laws.specs.Setting.{Setting}
use Rattle.race_laws.specs.Standing.{IsTable, header_in, birth_in, child_in, depth, IsFilling, IsGone}
use Rattle.race_laws.specs.Chains as chains
use Rattle.race_laws.specs.Chains.{OnChain}
use Rattle.race_laws.specs.Legal.{Legal}
use Rattle.race_laws.proofs.Positions.{legal_before}
use Rattle.race_laws.proofs.SoundStep.{sound}
use Rattle.race_laws.proofs.Frames.{child_before}
use Rattle.race_laws.proofs.Finality.{ripe_before}
use Rattle.race_laws.proofs.Opening.{splits, opening_head, opening_birth_depth}
use Rattle.race_laws.proofs.Chain.{before_opening, first_is_table, born_at, born_before, chain_table, chain_before}
use Rattle.log_facts.specs.Start.{Start, on_chain, below}
use Rattle.log_facts.proofs.Within.{low_is_first}
use Rattle.log_facts.proofs.Heads.{filling_childless}

pub start_table : (s : Setting) (q : Past) → Legal s q → (h t : ℕ) → Start s.geometry q h t → IsTable s.geometry q t
start_table s q l h t (on_chain u c) = chain_table s q l h t c
start_table s q l h t (below u i c ch ex k n) = ((splits s q l).born u i t (chain_table s q l h u ch) (exit-below h (born_at s.geometry q u) i ex) k n).table

pub start_before : (s : Setting) {p q : Past} → Before p q → Legal s q → (h t : ℕ) → Start s.geometry p h t → Start s.geometry q h t
start_before s b l h t (on_chain u c) = on_chain t (chain_before s b l h t c)
start_before s {p = p} b l h t (below u i c ch ex k n) =
    let lp = legal_before s b l in
    let tb = chain_table s p lp h u ch in
    let e16 = exit-below h (born_at s.geometry p u) i ex in
    below u i t (chain_before s b l h u ch) (ap (exit_level h) (born_before s b l u tb) ∙ ex) (child_before s b l u i tb e16 (λ z. n (sym k ∙ z)) ∙ k) n

-- a header of a depth above the level shows the key gone
pub deep_gone : (h : Header) (i : ℕ) → (h ≡ NoHeader → ⊥) → i < depth h → IsGone h i
deep_gone (PlainAt d) i v x = x
deep_gone (SplittingAt d) i v x = let y : i ≤ d = less x in y
  where
    less : i < d → i ≤ d
    less h = omega arith
deep_gone (FillingAt d) i v x = x
deep_gone NoHeader i v x = absurd (omega arith)

-- where it does not fill it is on the chain
pub start_ripe : (s : Setting) (q : Past) → Legal s q → (h t : ℕ) → Start s.geometry q h t → (IsFilling (header_in s.geometry q t) → ⊥) → OnChain s.geometry q h t
start_ripe s q l h t (on_chain u c) f = c
start_ripe s q l h t (below u i c ch ex k n) f =
    let tb = chain_table s q l h u ch in
    let sp = splits s q l in
    let e16 = exit-below h (born_at s.geometry q u) i ex in
    ⊎_elim (λ (x : i < depth (header_in s.geometry q u)). chains.goes_on u i t ch ex (deep_gone (header_in s.geometry q u) i (sp.valid u tb) x) k n)
    (λ (x : depth (header_in s.geometry q u) ≤ i). absurd (f (sp.fills u i t tb e16 k n (λ y. let z : depth (header_in s.geometry q u) ≤ i = x in omega arith)))) (cases_lt i (depth (header_in s.geometry q u)))

-- where it has a child it is on the chain
pub start_on : (s : Setting) (q : Past) → Legal s q → (h t i : ℕ) → Start s.geometry q h t → i < 16 → child_in s.geometry q t i ≢ 0 → OnChain s.geometry q h t
start_on s q l h t i st k n = start_ripe s q l h t st (λ f. n (filling_childless s q l t i (start_table s q l h t st) k f))

-- a first table never fills
first_ripe : (s : Setting) (q : Past) → Legal s q → (j : ℕ) → j < 2 ^ s.geometry.first_depth → IsFilling (header_in s.geometry q (first_table s.geometry j)) → ⊥
first_ripe s q l j h =
    let tb = first_is_table s.geometry [] j h in
    let hd = opening_head s.geometry (first_table s.geometry j) tb in
    ripe_before s (before_opening q) l (first_table s.geometry j) tb (λ f. subst IsFilling hd f)

-- the parent of a filling start: it is on the chain, does not fill, and the start is its child at the exit level
pub record Above (g : Geometry) (q : Past) (h t : ℕ) : Type 0 where
  pub chain : OnChain g q h (birth_in g q t).parent
  pub ripe : IsFilling (header_in g q (birth_in g q t).parent) → ⊥
  pub level : ℕ
  pub exits : exit_level h (born_at g q (birth_in g q t).parent) ≡ Some level
  pub child : child_in g q (birth_in g q t).parent level ≡ t
  pub some : t ≢ 0

module _ (s : Setting) (q : Past) (l : Legal s q) (h : ℕ) where
  above_of : (u i t : ℕ) → OnChain s.geometry q h u → exit_level h (born_at s.geometry q u) ≡ Some i → child_in s.geometry q u i ≡ t → t ≢ 0 → Above s.geometry q h t
  above_of u i t ch ex k n =
      let tb = chain_table s q l h u ch in
      let e16 = exit-below h (born_at s.geometry q u) i ex in
      let born = (splits s q l).born u i t tb e16 k n in
      let par = sym born.parent in
      record {
        chain = subst (OnChain s.geometry q h) par ch;
        ripe = subst (λ v. IsFilling (header_in s.geometry q v) → ⊥) par (λ f. n (sym k ∙ filling_childless s q l u i tb e16 f));
        level = i;
        exits = subst (λ v. exit_level h (born_at s.geometry q v) ≡ Some i) par ex;
        child = subst (λ v. child_in s.geometry q v i ≡ t) par k;
        some = n;
      }

  pub start_above : (t : ℕ) → Start s.geometry q h t → IsFilling (header_in s.geometry q t) → Above s.geometry q h t
  start_above t (below u i c ch ex k n) f = above_of u i t ch ex k n
  start_above t (on_chain u c) f = by t c f
    where
      by : (t : ℕ) → OnChain s.geometry q h t → IsFilling (header_in s.geometry q t) → Above s.geometry q h t
      by t chains.starts f = absurd (first_ripe s q l (h % 2 ^ s.geometry.first_depth) (mod_below h (2 ^ s.geometry.first_depth) (pow_pos s.geometry.first_depth)) f)
      by t (chains.goes_on u i c ch ex gone k n) f = above_of u i t ch ex k n

-- the birth depth of a table that is a first table by its address
pub low_born : (s : Setting) (q : Past) → Legal s q → (t : ℕ) → IsTable s.geometry q t → t < first_free s.geometry → born_at s.geometry q t ≡ s.geometry.first_depth
low_born s q l t h low =
    let f = low_is_first s.geometry q (sound s q l) t h low in
    let tb : IsTable s.geometry [] t = subst (IsTable s.geometry []) (sym f.is) (first_is_table s.geometry [] f.index f.below) in
    born_before s (before_opening q) l t tb ∙ opening_birth_depth s.geometry t tb
