-- Places where a block may be placed: a ready place stays ready, by every legal entry; and where the key's header of a table does not
-- fill, the table is on the chain and each place is ready. Of every legal log.
use Rattle.std.specs.Prelude.{◌≡◌, ℕ, ◌+◌, ◌-◌, ◌<◌, List, ◌⊎◌}
use Rattle.std.proofs.Common.{sym, subst, inl, inr, arith, ⊎_elim}
use Rattle.slot_word.specs.declared.births.Birth.{Birth}
use Rattle.bucket_group.proofs.ExitLaws.{exit-some, exit-below}
use Rattle.verb_log.specs.Decoded.{Header, PlainAt, SplittingAt, FillingAt, NoHeader}
use Rattle.verb_log.specs.Tables.{Past, Before}
use Rattle.verb_log.proofs.Positions.{Before-trans}
use Rattle.race_laws.specs.Setting.{Setting, hash, main_of}
use Rattle.race_laws.specs.Standing.{IsTable, header_in, birth_in, key_header, depth, IsFilling}
use Rattle.race_laws.specs.Chains as chains
use Rattle.race_laws.specs.Chains.{OnChain}
use Rattle.race_laws.specs.Splits.{WasClear}
use Rattle.race_laws.specs.Rows.{IsPlace}
use Rattle.race_laws.specs.Legal.{Legal}
use Rattle.race_laws.proofs.Frames.{birth_before}
use Rattle.race_laws.proofs.Finality.{bucket_keeps, filling_on, ripe_before}
use Rattle.race_laws.proofs.Opening.{splits}
use Rattle.race_laws.proofs.Chain.{born_at, chain_table}
use Rattle.race_laws.proofs.Candidates.{finished}
use Rattle.log_facts.specs.Start.{Start}
use Rattle.log_facts.specs.Ready.{Ready}
use Rattle.log_facts.proofs.Keys.{main_below}
use Rattle.log_facts.proofs.Starts.{start_table, start_ripe, Above, start_above, deep_gone}
use Rattle.log_facts.proofs.Buckets.{bucket_ripe}

pub ready_before : (s : Setting) (t p : ℕ) {x y : Past} → Before x y → Legal s y → IsTable s.geometry x t → Ready s t p x → Ready s t p y
ready_before s t p {y = y} b l h (inl f) = inl (ripe_before s b l t h f)
ready_before s t p {x = x} {y = y} b l h (inr w) =
    inr (subst (λ (v : Birth). WasClear s y v.parent (v.depth - 1) p) (sym (birth_before s b l t h)) (record { at = w.at; before = Before-trans w.before b; clear = w.clear }))

is_filling : (h : Header) → IsFilling h ⊎ (IsFilling h → ⊥)
is_filling (PlainAt d) = inr (λ x. x)
is_filling (SplittingAt d) = inr (λ x. x)
is_filling (FillingAt d) = inl tt
is_filling NoHeader = inr (λ x. x)

module _ (s : Setting) (key : List ℕ) (q : Past) (l : Legal s q) (t : ℕ) (st : Start s.geometry q (hash s key) t) where
  abbrev H : ℕ
  H = hash s key

  -- where the split that made the table has finished, or the table does not fill, the table is on the chain and each place is ready
  pub after_split : (IsFilling (header_in s.geometry q t) → (a : Above s.geometry q H t) → a.level < depth (header_in s.geometry q (birth_in s.geometry q t).parent)) → OnChain s.geometry q H t × ((p : ℕ) → IsPlace s.geometry p → Ready s t p q)
  after_split f = ⊎_elim
      (λ (x : IsFilling (header_in s.geometry q t)).
      let a = start_above s q l H t st x in
      let deep = f x a in
      let tb = chain_table s q l H (birth_in s.geometry q t).parent a.chain in
      let e16 = exit-below H (born_at s.geometry q (birth_in s.geometry q t).parent) a.level a.exits in
      let born = (splits s q l).born (birth_in s.geometry q t).parent a.level t tb e16 a.child a.some in
      let low = (exit-some H (born_at s.geometry q (birth_in s.geometry q t).parent) a.level a.exits).from in (
        chains.goes_on (birth_in s.geometry q t).parent a.level t a.chain a.exits (deep_gone (header_in s.geometry q (birth_in s.geometry q t).parent) a.level ((splits s q l).valid (birth_in s.geometry q t).parent tb) deep) a.child a.some,
        λ p pl. inr (subst (λ v. WasClear s q (birth_in s.geometry q t).parent v p) (sym (minus (born_at s.geometry q t) a.level born.level)) (finished s q l (birth_in s.geometry q t).parent a.level p tb low deep pl)),
      ))
      (λ (x : IsFilling (header_in s.geometry q t) → ⊥). (start_ripe s q l H t st x, λ p pl. inl x)) (is_filling (header_in s.geometry q t))
    where
      minus : (x i : ℕ) → x ≡ i + 1 → x - 1 ≡ i
      minus x i h = omega arith

  -- so where the key's header does not fill
  pub by_last : (IsFilling (key_header s q t key) → ⊥) → OnChain s.geometry q H t × ((p : ℕ) → IsPlace s.geometry p → Ready s t p q)
  by_last f = after_split (λ x a.
      let tb = chain_table s q l H (birth_in s.geometry q t).parent a.chain in
      let e16 = exit-below H (born_at s.geometry q (birth_in s.geometry q t).parent) a.level a.exits in
      bucket_ripe s q l t (main_of s key) (birth_in s.geometry q t).parent a.level (start_table s q l H t st) (main_below s key) tb e16 a.child a.some f)

-- the last header did not fill at its reading, and does not now
pub last_ripe : (s : Setting) (key : List ℕ) {p q : Past} → Before p q → Legal s q → (t : ℕ) → IsTable s.geometry p t → (IsFilling (key_header s p t key) → ⊥) → IsFilling (key_header s q t key) → ⊥
last_ripe s key b l t h f = bucket_keeps s (λ v. IsFilling v → ⊥) (λ x k z y w. y (filling_on z w)) b l t (main_of s key) h (main_below s key) f
