-- What the cache after a call names.
use Rattle.std.specs.Prelude.{◌≡◌, ℕ, zero, suc, ◌%◌, ◌^◌, Bool, true, false, cond, ◌==◌, List, [], ◌∷◌, Option, Some, None, map, slice_set, slice_index_or, ◌⊎◌, refl}
use Rattle.std.specs.Option.{option_to_list}
use Rattle.std.proofs.Common.{◌∙◌, ap, inl, inr, ⊎_elim, subst}
use Rattle.dir_cache.specs.Cached.{Cached, entry_of, unless_names}
use Rattle.call_texts.specs.State.{CallEnd, forgetting, refreshed, cache_after}

-- what is named after a table is forgotten was named before
gone_at : (u : ℕ) (xs : List (Option ℕ)) (n t : ℕ) → slice_index_or (map (unless_names u) xs) n None ≡ Some t → slice_index_or xs n None ≡ Some t
gone_at u [] n t e = e
gone_at u (None ∷ xs) zero t e = e
gone_at u (Some v ∷ xs) zero t e = by (v == u) e
  where
    by : (b : Bool) → cond b None (Some v) ≡ Some t → Some v ≡ Some t
    by true e = absurd (cc)
    by false e = e
gone_at u (x ∷ xs) (suc n) t e = gone_at u xs n t e

-- what is named after an entry was set was named before, or is the entry
set_at : (xs : List (Option ℕ)) (n m u t : ℕ) → slice_index_or (slice_set xs n (Some u)) m None ≡ Some t → (slice_index_or xs m None ≡ Some t) ⊎ ((m ≡ n) × (Some u ≡ Some t))
set_at [] n m u t e = inl e
set_at (x ∷ xs) zero zero u t e = inr (refl, e)
set_at (x ∷ xs) zero (suc m) u t e = inl e
set_at (x ∷ xs) (suc n) zero u t e = inl e
set_at (x ∷ xs) (suc n) (suc m) u t e = ⊎_elim (λ y. inl y) (λ (y : (m ≡ n) × (Some u ≡ Some t)). inr (ap suc y.0, y.1)) (set_at xs n m u t e)

forgotten_at : (ts : List ℕ) (cache : Cached) (i t : ℕ) → entry_of (forgetting ts cache) i ≡ Some t → entry_of cache i ≡ Some t
forgotten_at [] cache i t e = e
forgotten_at (u ∷ ts) cache i t e = gone_at u cache.entries (i % 2 ^ cache.depth) t (forgotten_at ts (record { depth = cache.depth; entries = map (unless_names u) cache.entries }) i t e)

forgetting_depth : (ts : List ℕ) (cache : Cached) → (forgetting ts cache).depth ≡ cache.depth
forgetting_depth [] cache = refl
forgetting_depth (u ∷ ts) cache = forgetting_depth ts (record { depth = cache.depth; entries = map (unless_names u) cache.entries })

refreshed_depth : (h : ℕ) (o : Option ℕ) (cache : Cached) → (refreshed h o cache).depth ≡ cache.depth
refreshed_depth h None cache = refl
refreshed_depth h (Some t) cache = refl

refreshed_at : (h : ℕ) (o : Option ℕ) (cache : Cached) (i t : ℕ) → entry_of (refreshed h o cache) i ≡ Some t → (entry_of cache i ≡ Some t) ⊎ ((i % 2 ^ cache.depth ≡ h % 2 ^ cache.depth) × (o ≡ Some t))
refreshed_at h None cache i t e = inl e
refreshed_at h (Some u) cache i t e = set_at cache.entries (h % 2 ^ cache.depth) (i % 2 ^ cache.depth) u t e

pub after_depth : (cache : Cached) (e : CallEnd) → (cache_after cache e).depth ≡ cache.depth
after_depth cache e =
    forgetting_depth (option_to_list e.split) (refreshed e.hash e.table (forgetting e.forgotten cache)) ∙ refreshed_depth e.hash e.table (forgetting e.forgotten cache) ∙ forgetting_depth e.forgotten cache

-- an entry after a call is as before, or it is the one of the call's hash and names the table where its last pass ended
pub after_at : (cache : Cached) (e : CallEnd) (i t : ℕ) → entry_of (cache_after cache e) i ≡ Some t → (entry_of cache i ≡ Some t) ⊎ ((i % 2 ^ cache.depth ≡ e.hash % 2 ^ cache.depth) × (e.table ≡ Some t))
after_at cache e i t x =
    let kept : Cached = forgetting e.forgotten cache in
    ⊎_elim (λ y. inl (forgotten_at e.forgotten cache i t y))
    (λ (y : (i % 2 ^ kept.depth ≡ e.hash % 2 ^ kept.depth) × (e.table ≡ Some t)). inr (subst (λ d. i % 2 ^ d ≡ e.hash % 2 ^ d) (forgetting_depth e.forgotten cache) y.0, y.1))
    (refreshed_at e.hash e.table kept i t (forgotten_at (option_to_list e.split) (refreshed e.hash e.table kept) i t x))
