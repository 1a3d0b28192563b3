-- The list of the tables of a walk, as it grows.
use Rattle.std.specs.Prelude.{◌≡◌, ℕ, zero, suc, ◌+◌, ◌-◌, ◌<◌, ◌≤◌, List, [], ◌∷◌, ◌++◌, length, refl}
use Rattle.std.specs.List.{flat_map}
use Rattle.std.proofs.Common.{sym, ◌∙◌, ap, subst, inl, inr, arith, append-nil, append_assoc, get_or, length-append}
use Rattle.std.proofs.lemmas.Grind.{flat_map-append}
use Rattle.node_words.specs.declared.geometry.Geometry.{Geometry}
use Rattle.race_laws.specs.Standing.{IsIn}
use Rattle.image_laws.specs.declared.table.ImageTable.{ImageTable}
use Rattle.image_laws.specs.Walk.{Words, firsts, children, tables, words_of}
use Rattle.image_laws.specs.Sound.{named_by, listed_by}
use Rattle.image_laws.proofs.Whole.{front, named_tables, all_walked, next_table, next_low, next_front}
use Rattle.image_audit.specs.Kept.{IsSmall, AllSmall}

get_in : (us : List ImageTable) (k : ℕ) (d : ImageTable) → k < length us → IsIn (get_or us k d) us
get_in [] k d h = absurd (omega arith)
get_in (u ∷ us) zero d h = inl refl
get_in (u ∷ us) (suc k) d h = inr (get_in us k d (omega arith))

pub small_at : (us : List ImageTable) (k : ℕ) (d : ImageTable) → k < length us → AllSmall us → IsSmall (get_or us k d)
small_at us k d h s = s (get_or us k d) (get_in us k d h)

-- the children of the first k tables stand in the list
pub record Listed (g : Geometry) (w : Words) (k : ℕ) (us : List ImageTable) : Type 0 where
  pub are : us ≡ listed_by g w (front g w k)
  pub low : k ≤ length us

pub listed_start : (g : Geometry) (w : Words) (us : List ImageTable) → us ≡ firsts g → Listed g w 0 us
listed_start g w us e = record { are = e ∙ sym (append-nil (firsts g)); low = omega arith }

named_one : (g : Geometry) (w : Words) (t : ImageTable) → flat_map (named_by w) (words_of g t) ≡ children g w t
named_one g w t = ap (flat_map (named_by w)) (sym (append-nil (words_of g t))) ∙ named_tables g w (t ∷ []) ∙ append-nil (children g w t)

module _ (g : Geometry) (w : Words) (k : ℕ) (us : List ImageTable) (h : Listed g w k us) where
  -- the next table
  module _ (t : ImageTable) (low : k < length us) (e : t ≡ get_or us k t) where
    in_front : k < length (listed_by g w (front g w k))
    in_front = subst (λ v. k < length v) h.are low

    pub next_is : t ≡ get_or (tables g w) k t
    next_is = e ∙ ap (λ v. get_or v k t) h.are ∙ next_table g w k t in_front

    pub next_small : AllSmall (tables g w) → IsSmall t
    next_small s = subst IsSmall (sym next_is) (small_at (tables g w) k t (next_low g w k in_front) s)

    pub listed_more : (vs : List ImageTable) → vs ≡ us ++ children g w t → Listed g w (k + 1) vs
    listed_more vs ve = record {
      are = ve ∙ ap (λ v. v ++ children g w t) h.are ∙ append_assoc (firsts g) (flat_map (named_by w) (front g w k)) (children g w t)
          ∙ ap (λ v. firsts g ++ v) (ap (λ v. flat_map (named_by w) (front g w k) ++ v) (sym (named_one g w t)) ∙ sym (flat_map-append (named_by w) (front g w k) (words_of g t))
          ∙ ap (flat_map (named_by w)) (ap (λ v. front g w k ++ words_of g v) next_is ∙ sym (next_front g w k t in_front)));
      low = (let a = ap length ve in let b = length-append us (children g w t) in omega arith);
    }

    pub listed_smaller : length (tables g w) - (k + 1) < length (tables g w) - k
    listed_smaller = let x = next_low g w k in_front in omega arith

  pub listed_end : length us ≤ k → us ≡ tables g w
  listed_end l = let a = ap length h.are in let b = h.low in h.are ∙ (all_walked g w k (omega arith)).0
