-- The entries of the maps of a script.
use Rattle.std.proofs.Common.{◌≡◌, ℕ, ◌<◌, Bool, false, List, [], ◌∷◌, ◌++◌, length, map, position, Option, Some, None, is_some, refl, sym, ap, ◌∙◌, arith, true≢false, slice_get, slice_index_or, ◌-◌, suc, zero}
use Rattle.std.proofs.lemmas.List.{map-append}
use Rattle.std.specs.Map.{keys_of, lookup}
use Rattle.indexmap.specs.IndexMap.{IndexMap, insert_entry}
use Rattle.indexmap.proofs.MapLemmas.{some_index}
use Rattle.indexmap.proofs.CallerLemmas.{insert_entry-new}
use Rattle.item_list.specs.RoomyList.{RoomyList}
use Rattle.map_model.specs.declared.calls.Call.{Call}
use Rattle.script_value.specs.Content.{client_view, called}
use Rattle.indexmap.specs.Layout.{set_value_at}

-- nothing is there where it says so
pub none-from : {A : Type 0} (o : Option A) → is_some o ≡ false → o ≡ None
none-from None h = refl
none-from (Some x) h = absurd (true≢false h)

-- the names are the keys
pub names-kept : (es : List (List ℕ × RoomyList Call)) → map (λ (e : List ℕ × List Call). e.0) (map client_view es) ≡ keys_of es
names-kept [] = refl
names-kept (e ∷ es) = ap (λ r. e.0 ∷ r) (names-kept es)

-- a new name goes last
pub insert-client : {S : Type 0} (eq : List ℕ → List ℕ → Bool) (m : IndexMap (List ℕ) (RoomyList Call) S) (name : List ℕ) (calls : RoomyList Call)
    → position (eq name) (map (λ (e : List ℕ × List Call). e.0) (map client_view m.entries)) ≡ None
    → map client_view (insert_entry eq m.entries name calls) ≡ map client_view m.entries ++ (name, calls.items) ∷ []
insert-client eq m name calls none =
    let absent = ap is_some (sym (ap (position (eq name)) (names-kept m.entries)) ∙ none) in
    let unknown = none-from (lookup (eq name) m.entries) (sym (some_index (eq name) m.entries) ∙ absent) in
    ap (map client_view) (insert_entry-new eq m name calls unknown) ∙ map-append client_view m.entries ((name, calls) ∷ [])

-- the client in the last place has one call more
called-at : (es : List (List ℕ × RoomyList Call)) (i : ℕ) (old new : RoomyList Call) (call : Call) → length es ≡ suc i
    → slice_get (map (λ (e : List ℕ × RoomyList Call). e.1) es) i ≡ Some old → new.items ≡ old.items ++ call ∷ []
    → map client_view (set_value_at es i new) ≡ called (map client_view es) call
called-at [] i old new call last at more = absurd (omega arith)
called-at (e ∷ []) zero old new call last at more =
    let same : e.1 ≡ old = cc in
    let own : new.items ≡ e.1.items ++ call ∷ [] = rw same more in
    ap (λ (items : List Call). (let entry : List ℕ × List Call = (e.0, items) in entry ∷ [])) own
called-at (e ∷ []) (suc i) old new call last at more = absurd (omega arith)
called-at (e ∷ f ∷ es) zero old new call last at more = absurd (omega arith)
called-at (e ∷ f ∷ es) (suc i) old new call last at more = ap (λ r. client_view e ∷ r) (called-at (f ∷ es) i old new call (omega arith) at more)

-- the same, by the number of clients
pub called-last : (es : List (List ℕ × RoomyList Call)) (old new : RoomyList Call) (call : Call) → 0 < length es
    → slice_get (map (λ (e : List ℕ × RoomyList Call). e.1) es) (length es - 1) ≡ Some old → new.items ≡ old.items ++ call ∷ []
    → map client_view (set_value_at es (length es - 1) new) ≡ called (map client_view es) call
called-last es old new call some at more = called-at es (length es - 1) old new call (omega arith) at more

-- the name of the client in a place
pub name-at : (es : List (List ℕ × RoomyList Call)) (i : ℕ) (e : List ℕ × RoomyList Call) → slice_get es i ≡ Some e
    → slice_index_or (map (λ (e : List ℕ × List Call). e.0) (map client_view es)) i [] ≡ e.0
name-at [] i e h = absurd (by h)
  where
    by : None ≡ Some e → ⊥
    by p = cc
name-at (d ∷ ds) zero e h = let same : d ≡ e = cc in ap (λ (e : List ℕ × RoomyList Call). e.0) same
name-at (d ∷ ds) (suc i) e h = name-at ds i e h
