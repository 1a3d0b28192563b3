-- The list of forgotten tables, and a cache that forgets them.
use Rattle.std.specs.Prelude.{◌≡◌, ℕ, ◌+◌, ◌<◌, ◌≤◌, List, [], ◌∷◌, ◌++◌, length, take, map, refl}
use Rattle.std.proofs.Common.{sym, ◌∙◌, ap, get_or, arith}
use Rattle.std.proofs.lemmas.List.{take_all, take-append-le, length_push, take_more}
use Rattle.dir_cache.specs.Cached.{Cached, unless_names}
use Rattle.call_texts.specs.State.{forgetting}

pub one_more : (xs : List ℕ) (t : ℕ) → length xs < 17 → xs ++ t ∷ [] ≡ take 17 (xs ++ t ∷ [])
one_more xs t h = let e = length_push xs t in sym (take_all 17 (xs ++ t ∷ []) (omega arith))

pub no_more : (xs : List ℕ) (t : ℕ) → 17 ≤ length xs → length xs ≤ 17 → xs ≡ take 17 (xs ++ t ∷ [])
no_more xs t h k = sym (take-append-le 17 xs (t ∷ []) h ∙ take_all 17 xs k)

pub ruleset adds = (one_more, no_more)

-- one table more is forgotten
pub forgetting_push : (xs : List ℕ) (t : ℕ) (c : Cached) → forgetting (xs ++ t ∷ []) c ≡ record { depth = (forgetting xs c).depth; entries = map (unless_names t) (forgetting xs c).entries }
forgetting_push [] t c = refl
forgetting_push (x ∷ xs) t c = forgetting_push xs t (record { depth = c.depth; entries = map (unless_names x) c.entries })

pub forgets_next : (xs : List ℕ) (i : ℕ) (first old new : Cached) → i < length xs → old ≡ forgetting (take i xs) first → new.depth ≡ old.depth → new.entries ≡ map (unless_names (get_or xs i 0)) old.entries → new ≡ forgetting (take (i + 1) xs) first
forgets_next xs i first old new lt e d n =
    (λ k. let c : Cached = record { depth = d k; entries = n k } in c)
    ∙ ap (λ (x : Cached). let c : Cached = record { depth = x.depth; entries = map (unless_names (get_or xs i 0)) x.entries } in c) e
    ∙ sym (forgetting_push (take i xs) (get_or xs i 0) first)
    ∙ ap (λ ys. forgetting ys first) (sym (take_more xs i 0 lt))

pub forgets_depth : (xs : List ℕ) (c new : Cached) → new ≡ forgetting xs c → new.depth ≡ c.depth
forgets_depth xs c new e = ap (λ (x : Cached). x.depth) e ∙ same xs c
  where
    same : (xs : List ℕ) (c : Cached) → (forgetting xs c).depth ≡ c.depth
    same [] c = refl
    same (x ∷ xs) c = same xs (record { depth = c.depth; entries = map (unless_names x) c.entries })
