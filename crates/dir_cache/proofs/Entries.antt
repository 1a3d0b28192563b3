-- Entries that are kept as words.
use Rattle.std.proofs.Common.{◌≡◌, ◌≢◌, ◌∙◌, ℕ, zero, suc, ◌+◌, ◌%◌, ◌^◌, ◌<◌, Option, Some, None, List, ◌∷◌, length, map, get_or, slice_set, replicate, refl, ap, subst, arith, pow_pos}
use Rattle.std.proofs.lemmas.List.{get_or-map, get_or-set_same, get_or-set_other, length-map}
use Rattle.std.proofs.lemmas.Nat.{mod_below}
use Rattle.dir_cache.specs.Cached.{Cached, entry_of, entry_in}

-- the entry of a hash is that of the word with its index
pub entry_of-words : (depth : ℕ) (ws : List ℕ) (h : ℕ) → h % 2 ^ depth < length ws
    → entry_of (record { depth = depth; entries = map entry_in ws }) h ≡ entry_in (get_or ws (h % 2 ^ depth) 0)
entry_of-words depth ws h lt = get_or-map entry_in ws (h % 2 ^ depth) 0 None lt

-- words that are 0 are unknown entries
pub unknown : (n : ℕ) → map entry_in (replicate n 0) ≡ replicate n None
unknown zero = refl
unknown (suc n) = ap (λ (xs : List (Option ℕ)). None ∷ xs) (unknown n)

pub unknown-count : (n k : ℕ) → n ≡ k → map entry_in (replicate n 0) ≡ replicate k None
unknown-count n k e = unknown n ∙ ap (λ (m : ℕ). replicate m None) e

-- the word that names a table
pub entry_in-name : (table : ℕ) → entry_in (table + 1) ≡ Some table
entry_in-name table = let e : table + 1 ≡ suc table = omega arith in ap entry_in e

unknown-at : (n i : ℕ) → get_or (replicate {A = Option ℕ} n None) i None ≡ None
unknown-at zero i = refl
unknown-at (suc n) zero = refl
unknown-at (suc n) (suc i) = unknown-at n i

pub unknown-each : (depth : ℕ) (xs : List (Option ℕ)) (h : ℕ) → xs ≡ replicate (2 ^ depth) None → entry_of (record { depth = depth; entries = xs }) h ≡ None
unknown-each depth xs h e = ap (λ (ys : List (Option ℕ)). get_or ys (h % 2 ^ depth) None) e ∙ unknown-at (2 ^ depth) (h % 2 ^ depth)

-- the index of a hash is that of an entry
pub index-low : (depth : ℕ) (ws : List ℕ) (h : ℕ) → length ws ≡ 2 ^ depth → h % 2 ^ depth < length ws
index-low depth ws h long = rw long (mod_below h (2 ^ depth) (pow_pos depth))

-- the directory whose entries words keep, after one entry was set to a table
module _ (depth : ℕ) (ws : List ℕ) (now : Cached) (h table : ℕ) (is : record { depth = depth; entries = map entry_in ws } ≡ now) where
  pub set-is : length ws ≡ 2 ^ depth → entry_of (record { depth = depth; entries = slice_set now.entries (h % 2 ^ now.depth) (Some table) }) h ≡ Some table
  set-is long =
      let low : h % 2 ^ depth < length (map entry_in ws) = rw length-map (index-low depth ws h long) in
      subst (λ (c : Cached). entry_of (record { depth = depth; entries = slice_set c.entries (h % 2 ^ c.depth) (Some table) }) h ≡ Some table) is
      (get_or-set_same (map entry_in ws) (h % 2 ^ depth) (Some table) None low)

  pub set-others : (other : ℕ) → other % 2 ^ now.depth ≢ h % 2 ^ now.depth
      → entry_of (record { depth = depth; entries = slice_set now.entries (h % 2 ^ now.depth) (Some table) }) other ≡ entry_of now other
  set-others other =
      subst (λ (c : Cached). other % 2 ^ c.depth ≢ h % 2 ^ c.depth → entry_of (record { depth = depth; entries = slice_set c.entries (h % 2 ^ c.depth) (Some table) }) other ≡ entry_of c other) is
      (λ ne. get_or-set_other (map entry_in ws) (h % 2 ^ depth) (other % 2 ^ depth) (Some table) None ne)
