-- A map that is kept as a `BTreeMap`: its entries make the map that clauses see.
use Rattle.std.proofs.Common.{◌≡◌, ℕ, Bool, cond, List, [], ◌∷◌, Option, Some, None, map as list_map, refl, sym, ap, ◌∙◌}
use Rattle.std.proofs.lemmas.List.{nil_from_length}
use Rattle.std.specs.declared.cmp.Ordering.TheVariants.{Less}
use Rattle.std.specs.List.{AllByRecursion}
use Rattle.std.specs.List.Sorted.{IsStrictlySortedBy}
use Rattle.std.specs.FinMap.{get, insert, remove, empty, entries, from_entries, find, get-from_entries, get-insert, get-remove, same_map, entries-insert, len-entries, len-empty}
use Rattle.std.specs.FinMap.Entries.{put, by_order}
use Rattle.std.specs.BTreeMap.{is_at}
use Rattle.std.specs.Map.{lookup}
use Rattle.std.specs.Cmp.{eq_by_cmp_equiv}
use Rattle.kv_block.specs.Bytes.{key_cmp}
use Rattle.kv_block.proofs.Keys.{key_cmp_total, key_cmp-IsAntisymmetric}

-- what entries have at a key
abbrev pub value_at : List (List ℕ × List ℕ) → List ℕ → Option (List ℕ)
value_at es key = lookup (is_at (key_cmp key)) es

find_key : (es : List (List ℕ × List ℕ)) (q : List ℕ) → find key_cmp q es ≡ value_at es q
find_key [] q = refl
find_key (e ∷ es) q = ap (cond (is_at (key_cmp q) e.0) (Some e.1)) (find_key es q)

pub get_kept : (es : List (List ℕ × List ℕ)) (q : List ℕ) → get (from_entries {R = key_cmp} es) q ≡ value_at es q
get_kept es q = get-from_entries key_cmp_total es q ∙ find_key es q

-- entries that differ at one key make maps that differ there
pub one_put : (es fs : List (List ℕ × List ℕ)) (k v : List ℕ) → ((q : List ℕ) → value_at fs q ≡ cond (is_at (key_cmp k) q) (Some v) (value_at es q))
    → from_entries {R = key_cmp} fs ≡ insert (from_entries es) k v
one_put es fs k v h = same_map key_cmp_total key_cmp-IsAntisymmetric _ _ (λ q.
    get_kept fs q ∙ h q ∙ ap (λ (b : Bool). cond b (Some v) (value_at es q)) ((eq_by_cmp_equiv key_cmp_total).symm k q)
    ∙ sym (get-insert key_cmp_total (from_entries es) k v q ∙ ap (cond (is_at (key_cmp q) k) (Some v)) (get_kept es q)))

pub one_removed : (es fs : List (List ℕ × List ℕ)) (k : List ℕ) → ((q : List ℕ) → value_at fs q ≡ cond (is_at (key_cmp k) q) None (value_at es q))
    → from_entries {R = key_cmp} fs ≡ remove (from_entries es) k
one_removed es fs k h = same_map key_cmp_total key_cmp-IsAntisymmetric _ _ (λ q.
    get_kept fs q ∙ h q ∙ ap (λ (b : Bool). cond b None (value_at es q)) ((eq_by_cmp_equiv key_cmp_total).symm k q)
    ∙ sym (get-remove key_cmp_total (from_entries es) k q ∙ ap (cond (is_at (key_cmp q) k) None) (get_kept es q)))

-- an entry whose key is below all is put at the front
put_front : (es : List (List ℕ × List ℕ)) (k v : List ℕ) → AllByRecursion (λ q. key_cmp k q ≡ Less) (list_map (λ (e : List ℕ × List ℕ). e.0) es) → put key_cmp k v es ≡ (k, v) ∷ es
put_front [] k v h = refl
put_front (e ∷ es) k v h = ap (λ o. by_order o ((k, v) ∷ e ∷ es) ((e.0, v) ∷ es) (e ∷ put key_cmp k v es)) h.0

-- entries in the order of their keys are those of the map that they make
pub entries_of_sorted : (es : List (List ℕ × List ℕ)) → IsStrictlySortedBy key_cmp (list_map (λ (e : List ℕ × List ℕ). e.0) es) → entries (from_entries {R = key_cmp} es) ≡ es
unfolding IsStrictlySortedBy
entries_of_sorted [] h = nil_from_length _ (sym (len-entries (empty {X = List ℕ} {R = key_cmp})) ∙ len-empty key_cmp (List ℕ))
entries_of_sorted (e ∷ es) h =
    entries-insert key_cmp_total (from_entries es) e.0 e.1 ∙ ap (put key_cmp e.0 e.1) (entries_of_sorted es h.1) ∙ put_front es e.0 e.1 h.0
