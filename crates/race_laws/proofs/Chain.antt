-- The chain of a hash: it only grows, its tables are told apart by their birth depths, and a key is gone from each table but
-- the last.
use Rattle.std.specs.Prelude.{◌≡◌, ◌≢◌, ℕ, ◌%◌, ◌^◌, ◌<◌, ◌≤◌, [], ◌∷◌, Option, Some, ◌⊎◌, refl}
use Rattle.std.proofs.Common.{sym, ◌∙◌, ap, subst, inl, inr, arith, ⊎_elim}
use Rattle.std.proofs.lemmas.Nat.{pow_pos, mod_below}
use Rattle.slot_word.specs.declared.births.Birth.{Birth}
use Rattle.bucket_group.specs.ExitLevel.{exit_level}
use Rattle.bucket_group.proofs.ExitLaws.{exit-some, exit-below}
use Rattle.node_words.specs.declared.geometry.Geometry.{Geometry}
use Rattle.node_words.specs.Addresses.{first_table}
use Rattle.node_words.proofs.FirstTables.{in_first}
use Rattle.verb_log.specs.Tables.{Past, Before, here, later}
use Rattle.race_laws.specs.Setting.{Setting}
use Rattle.race_laws.specs.Standing.{IsTable, header_in, birth_in, child_in, depth, IsFilling, IsGone}
use Rattle.race_laws.specs.Chains.{OnChain, starts, goes_on}
use Rattle.race_laws.specs.Legal.{Legal}
use Rattle.race_laws.proofs.Positions.{legal_before}
use Rattle.race_laws.proofs.Covers.{table_before}
use Rattle.race_laws.proofs.Frames.{birth_before, child_before}
use Rattle.race_laws.proofs.Finality.{gone_before}
use Rattle.race_laws.proofs.Splits.{Born, Splits}
use Rattle.race_laws.proofs.TablesStep.{filling_depth}
use Rattle.race_laws.proofs.Opening.{splits}

pub before_opening : (q : Past) → Before [] q
before_opening [] = here
before_opening (e ∷ q) = later (before_opening q)

pub first_is_table : (g : Geometry) (q : Past) (j : ℕ) → j < 2 ^ g.first_depth → IsTable g q (first_table g j)
first_is_table g q j h = table_before g (before_opening q) (first_table g j) (first_table g j) (in_first g j (first_table g j) h (omega arith) (omega arith))

-- the birth depth of a table
abbrev pub born_at : Geometry → Past → ℕ → ℕ
born_at g q t = (birth_in g q t).depth

pub born_before : (s : Setting) {p q : Past} → Before p q → Legal s q → (t : ℕ) → IsTable s.geometry p t → born_at s.geometry q t ≡ born_at s.geometry p t
born_before s b l t h = ap (λ (x : Birth). x.depth) (birth_before s b l t h)

-- one table further on the chain
pub record Further (g : Geometry) (q : Past) (h t c : ℕ) : Type 0 where
  pub level : ℕ
  pub exits : exit_level h (born_at g q t) ≡ Some level
  pub gone : IsGone (header_in g q t) level
  pub child : child_in g q t level ≡ c
  pub some : c ≢ 0

-- some tables further
pub data Reach (g : Geometry) (q : Past) (h : ℕ) : ℕ → ℕ → Type 0 where
  one : (t c : ℕ) → Further g q h t c → Reach g q h t c
  more : (t c u : ℕ) → Further g q h t c → Reach g q h c u → Reach g q h t u

module _ (s : Setting) (q : Past) (l : Legal s q) (h : ℕ) where
  sp : Splits s.geometry q
  sp = splits s q l

  pub further_born : (t c : ℕ) → IsTable s.geometry q t → (f : Further s.geometry q h t c) → Born s.geometry q t f.level c
  further_born t c k f = sp.born t f.level c k (exit-below h (born_at s.geometry q t) f.level f.exits) f.child f.some

  -- a table on a chain is a table of the log
  pub chain_table : (t : ℕ) → OnChain s.geometry q h t → IsTable s.geometry q t
  chain_table t starts = first_is_table s.geometry q (h % 2 ^ s.geometry.first_depth) (mod_below h (2 ^ s.geometry.first_depth) (pow_pos s.geometry.first_depth))
  chain_table t (goes_on u i c k ex gone ch n) = (further_born u c (chain_table u k) (record { level = i; exits = ex; gone = gone; child = ch; some = n })).table

  further_deeper : (t c : ℕ) → IsTable s.geometry q t → Further s.geometry q h t c → born_at s.geometry q t < born_at s.geometry q c
  further_deeper t c k f =
      let b = (further_born t c k f).level in
      let x = (exit-some h (born_at s.geometry q t) f.level f.exits).from in
      omega arith

  further_same : (t c d : ℕ) → (f : Further s.geometry q h t c) → (g : Further s.geometry q h t d) → c ≡ d
  further_same t c d f g = sym f.child ∙ ap (child_in s.geometry q t) (level_same f.exits g.exits) ∙ g.child
    where
      level_same : {o : Option ℕ} {i j : ℕ} → o ≡ Some i → o ≡ Some j → i ≡ j
      level_same x y = cc

  pub reach_deeper : (t u : ℕ) → IsTable s.geometry q t → Reach s.geometry q h t u → born_at s.geometry q t < born_at s.geometry q u
  reach_deeper t u k (one t2 c f) = further_deeper t2 c k f
  reach_deeper t u k (more t2 c u2 f r) = let x = further_deeper t2 c k f in let y = reach_deeper c u2 (further_born t2 c k f).table r in omega arith

  reach_on : (t u c : ℕ) → Reach s.geometry q h t u → Further s.geometry q h u c → Reach s.geometry q h t c
  reach_on t u c (one t2 u2 f) g = more t2 u2 c f (one u2 c g)
  reach_on t u c (more t2 d u2 f r) g = more t2 d c f (reach_on d u2 c r g)

  from_start : (t : ℕ) → OnChain s.geometry q h t → (t ≡ first_table s.geometry (h % 2 ^ s.geometry.first_depth)) ⊎ Reach s.geometry q h (first_table s.geometry (h % 2 ^ s.geometry.first_depth)) t
  from_start t starts = inl refl
  from_start t (goes_on u i c k ex gone ch n) =
      let f : Further s.geometry q h u c = record { level = i; exits = ex; gone = gone; child = ch; some = n } in
      inr (⊎_elim (λ (x : u ≡ first_table s.geometry (h % 2 ^ s.geometry.first_depth)). subst (λ v. Reach s.geometry q h v c) x (one u c f))
      (λ (x : Reach s.geometry q h (first_table s.geometry (h % 2 ^ s.geometry.first_depth)) u). reach_on _ u c x f) (from_start u k))

  -- of two tables on a chain one is the other or further on
  pub compare : (t u : ℕ) → OnChain s.geometry q h t → OnChain s.geometry q h u → (t ≡ u) ⊎ (Reach s.geometry q h t u ⊎ Reach s.geometry q h u t)
  compare t u starts k = ⊎_elim (λ (x : u ≡ first_table s.geometry (h % 2 ^ s.geometry.first_depth)). inl (sym x)) (λ x. inr (inl x)) (from_start u k)
  compare t u (goes_on v i c k ex gone ch n) m =
      let f : Further s.geometry q h v c = record { level = i; exits = ex; gone = gone; child = ch; some = n } in
      ⊎_elim (λ (x : v ≡ u). inr (inr (subst (λ w. Reach s.geometry q h w c) x (one v c f))))
      (λ x. ⊎_elim (λ (y : Reach s.geometry q h v u). after v u c f y) (λ (y : Reach s.geometry q h u v). inr (inr (reach_on u v c y f))) x) (compare v u k m)
    where
      after : (v u c : ℕ) → Further s.geometry q h v c → Reach s.geometry q h v u → (c ≡ u) ⊎ (Reach s.geometry q h c u ⊎ Reach s.geometry q h u c)
      after v u c f (one v2 d g) = inl (further_same v2 c d f g)
      after v u c f (more v2 d u2 g r) = inr (inl (subst (λ w. Reach s.geometry q h w u2) (further_same v2 d c g f) r))

  -- tables of a chain are told apart by their birth depths
  pub chain_same : (t u : ℕ) → OnChain s.geometry q h t → OnChain s.geometry q h u → born_at s.geometry q t ≡ born_at s.geometry q u → t ≡ u
  chain_same t u k m e = ⊎_elim (λ (x : t ≡ u). x)
      (λ x. ⊎_elim (λ (y : Reach s.geometry q h t u). let z = reach_deeper t u (chain_table t k) y in absurd (omega arith))
      (λ (y : Reach s.geometry q h u t). let z = reach_deeper u t (chain_table u m) y in absurd (omega arith)) x) (compare t u k m)

  -- the way down from a table to a deeper one
  pub way_down : (t u : ℕ) → OnChain s.geometry q h t → OnChain s.geometry q h u → born_at s.geometry q t < born_at s.geometry q u → (c : ℕ) × Further s.geometry q h t c × OnChain s.geometry q h c × (born_at s.geometry q c ≤ born_at s.geometry q u)
  way_down t u k m e = ⊎_elim (λ (x : t ≡ u). let y = ap (born_at s.geometry q) x in absurd (omega arith))
      (λ x. ⊎_elim (λ (y : Reach s.geometry q h t u). first y k)
      (λ (y : Reach s.geometry q h u t). let z = reach_deeper u t (chain_table u m) y in absurd (omega arith)) x) (compare t u k m)
    where
      first : {v w : ℕ} → Reach s.geometry q h v w → OnChain s.geometry q h v → (c : ℕ) × Further s.geometry q h v c × OnChain s.geometry q h c × (born_at s.geometry q c ≤ born_at s.geometry q w)
      first (one v c f) k = (c, f, goes_on v f.level c k f.exits f.gone f.child f.some, omega arith)
      first (more v c w f r) k = let z = reach_deeper c w (further_born v c (chain_table v k) f).table r in (c, f, goes_on v f.level c k f.exits f.gone f.child f.some, omega arith)

  -- a filling table is the last of a chain
  pub filling_last : (t c : ℕ) → IsTable s.geometry q t → IsFilling (header_in s.geometry q t) → Further s.geometry q h t c → ⊥
  filling_last t c k f w =
      let hd = filling_depth (header_in s.geometry q t) f in
      let fd = sp.first t (depth (header_in s.geometry q t)) k hd in
      let gone : w.level < depth (header_in s.geometry q t) = subst (λ x. IsGone x w.level) hd w.gone in
      let low = (exit-some h (born_at s.geometry q t) w.level w.exits).from in
      omega arith

-- a chain only grows
pub chain_before : (s : Setting) {p q : Past} → Before p q → Legal s q → (h t : ℕ) → OnChain s.geometry p h t → OnChain s.geometry q h t
chain_before s b l h t starts = starts
chain_before s {p = p} b l h t (goes_on u i c k ex gone ch n) =
    let lp = legal_before s b l in
    let table = chain_table s p lp h u k in
    let e16 = exit-below h (born_at s.geometry p u) i ex in
    goes_on u i c (chain_before s b l h u k) (ap (exit_level h) (born_before s b l u table) ∙ ex) (gone_before s b l u i table gone)
    (child_before s b l u i table e16 (λ z. n (sym ch ∙ z)) ∙ ch) n
