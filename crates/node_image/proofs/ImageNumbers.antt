-- The numbers of an image, as they are counted and written.
use Rattle.std.specs.Prelude.{◌≡◌, ℕ, zero, suc, ◌+◌, ◌*◌, ◌/◌, ◌^◌, ◌<◌, ◌≤◌, List, [], ◌∷◌, ◌++◌, length, take, slice_get, slice_index, Some, Vec, ◌⊎◌, refl}
use Rattle.std.specs.List.{flat_map}
use Rattle.std.proofs.Common.{sym, ◌∙◌, ap, subst, inl, inr, arith, append-nil, append_assoc, get_or, length-append}
use Rattle.std.proofs.lemmas.List.{take_more, take_all}
use Rattle.std.proofs.lemmas.Grind.{flat_map-append}
use Rattle.kv_block.specs.Packing.{IsPair, packed, bytes_of}
use Rattle.kv_block.proofs.Packed.{length-packed, length-bytes_of}
use Rattle.key_hash.specs.Placing.{Pairs, AreDistinct}
use Rattle.node_words.specs.declared.geometry.Geometry.{Geometry}
use Rattle.race_laws.specs.Standing.{IsIn}
use Rattle.image_laws.proofs.Members.{in_cases}
use Rattle.image_audit.proofs.Images.{length-lists_of}
use Rattle.image_audit.specs.Shape.{ImageFits, lists_of}
use Rattle.node_image.specs.Numbers.{head_of, entry_of, entries_of, words_of_nodes, numbers_of, IsKey, AreKeys}
use Rattle.node_image.specs.Image.{IsImage}
use Rattle.node_image.specs.Parts.{image_bytes}

-- so many items of a list and the next one, written one after the other
pub written_more : {A : Type 0} (write : A → List ℕ) (xs : List A) (i : ℕ) (x : A) → i < length xs → x ≡ get_or xs i x → flat_map write (take (i + 1) xs) ≡ flat_map write (take i xs) ++ write x
written_more write xs i x h e = ap (flat_map write) (take_more xs i x h ∙ ap (λ v. take i xs ++ v ∷ []) (sym e)) ∙ flat_map-append write (take i xs) (x ∷ []) ∙ ap (λ v. flat_map write (take i xs) ++ v) (append-nil (write x))

-- what is written of so many items stands behind what stood there
pub behind_more : {A : Type 0} (write : A → List ℕ) (xs : List A) (i : ℕ) (x : A) (old now new : List ℕ) → i < length xs → x ≡ get_or xs i x → now ≡ old ++ flat_map write (take i xs) → new ≡ now ++ write x → new ≡ old ++ flat_map write (take (i + 1) xs)
behind_more write xs i x old now new h e f k = k ∙ ap (λ v. v ++ write x) f ∙ append_assoc old (flat_map write (take i xs)) (write x) ∙ ap (λ v. old ++ v) (sym (written_more write xs i x h e))

pub behind_all : {A : Type 0} (write : A → List ℕ) (xs : List A) (i : ℕ) (old now : List ℕ) → length xs ≤ i → now ≡ old ++ flat_map write (take i xs) → now ≡ old ++ flat_map write xs
behind_all write xs i old now h e = e ∙ ap (λ v. old ++ flat_map write v) (take_all i xs h)

-- the same, counted
pub count_more : {A : Type 0} (write : A → List ℕ) (xs : List A) (i n m : ℕ) (x : A) → i < length xs → x ≡ get_or xs i x → n ≡ length (flat_map write (take i xs)) → m ≡ length (write x) → n + m ≡ length (flat_map write (take (i + 1) xs))
count_more write xs i n m x h e f k = let a = ap length (written_more write xs i x h e) in let b = length-append (flat_map write (take i xs)) (write x) in omega arith

pub count_all : {A : Type 0} (write : A → List ℕ) (xs : List A) (i n : ℕ) → length xs ≤ i → n ≡ length (flat_map write (take i xs)) → n ≡ length (flat_map write xs)
count_all write xs i n h e = e ∙ ap (λ v. length (flat_map write v)) (take_all i xs h)

-- a listed key takes its length, its bytes and its hash
pub entry_length_is : (key : List ℕ) (hash n : ℕ) → n ≡ 2 + (length key + 7) / 8 → n ≡ length (entry_of (key, hash))
entry_length_is key hash n e = let a = length-packed key [] in let b = length-append (packed key []) (hash ∷ []) in omega arith

pub entry_is : (key : List ℕ) (hash : ℕ) (old now new value : List ℕ) → value ≡ [] → now ≡ old ++ packed key value → new ≡ now ++ hash ∷ [] → new ≡ old ++ entry_of (key, hash)
entry_is key hash old now new value z e f = f ∙ ap (λ v. v ++ hash ∷ []) (e ∙ ap (λ v. old ++ packed key v) z) ∙ append_assoc old (packed key []) (hash ∷ [])

pub key_is : (key value : List ℕ) (hash : ℕ) → IsPair (record { key = key; value = value }) → IsKey (key, hash)
key_is key value hash h = record { length = h.key_length; bytes = h.key_bytes }

-- so many keys may be listed
pub keys_start : (listed : Pairs) → AreKeys (take 0 listed)
keys_start listed p h = absurd h

pub keys_more : (listed : Pairs) (i : ℕ) (x : List ℕ × ℕ) → i < length listed → x ≡ get_or listed i x → AreKeys (take i listed) → IsKey x → AreKeys (take (i + 1) listed)
keys_more listed i x h e k n p q = by (in_cases p (take i listed) (x ∷ []) (subst (IsIn p) (take_more listed i x h ∙ ap (λ v. take i listed ++ v ∷ []) (sym e)) q))
  where
    by : IsIn p (take i listed) ⊎ IsIn p (x ∷ []) → IsKey p
    by (inl a) = k p a
    by (inr (inl a)) = subst IsKey (sym a) n
    by (inr (inr a)) = absurd a

pub keys_all : (listed : Pairs) (i : ℕ) → length listed ≤ i → AreKeys (take i listed) → AreKeys listed
keys_all listed i h k = subst AreKeys (take_all i listed h) k

-- a node's words among those of the nodes
pub node_here : {A : Type 0} (nodes : List (Vec ℕ A)) (k : ℕ) (v : Vec ℕ A) → k < length nodes → v ≡ get_or nodes k v → (k < length (lists_of nodes)) × (v.items ≡ get_or (lists_of nodes) k v.items) × (slice_get (lists_of nodes) k ≡ Some v.items)
node_here nodes k v h e = (long nodes k h, ap (λ z. z.items) e ∙ mapped nodes k v, found nodes k v h ∙ ap (λ z. Some z.items) (sym e))
  where
    long : {A : Type 0} (nodes : List (Vec ℕ A)) (k : ℕ) → k < length nodes → k < length (lists_of nodes)
    long [] k h = absurd (omega arith)
    long (x ∷ nodes) zero h = omega arith
    long (x ∷ nodes) (suc k) h = let r = long nodes k (omega arith) in omega arith

    mapped : {A : Type 0} (nodes : List (Vec ℕ A)) (k : ℕ) (d : Vec ℕ A) → (get_or nodes k d).items ≡ get_or (lists_of nodes) k d.items
    mapped [] k d = refl
    mapped (x ∷ nodes) zero d = refl
    mapped (x ∷ nodes) (suc k) d = mapped nodes k d

    found : {A : Type 0} (nodes : List (Vec ℕ A)) (k : ℕ) (d : Vec ℕ A) → k < length nodes → slice_get (lists_of nodes) k ≡ Some (get_or nodes k d).items
    found [] k d h = absurd (omega arith)
    found (x ∷ nodes) zero d h = refl
    found (x ∷ nodes) (suc k) d h = found nodes k d (omega arith)

pub nodes_end : {A : Type 0} (nodes : List (Vec ℕ A)) (k : ℕ) → length nodes ≤ k → length (lists_of nodes) ≤ k
nodes_end nodes k h = subst (λ n. n ≤ k) (sym (length-lists_of nodes)) h

-- a node is no longer than the longest
pub node_few : {A : Type 0} (g : Geometry) (nodes : List (Vec ℕ A)) (longest k n count : ℕ) (v : Vec ℕ A) → ImageFits g (lists_of nodes) longest → longest ≤ 2 ^ 24 → k < length nodes → v ≡ get_or nodes k v → n ≡ length v.items → count ≤ k * 2 ^ 24 → count + n ≤ (k + 1) * 2 ^ 24
node_few g nodes longest k n count v f low h e ne c = let x = (f.node k v.items (node_here nodes k v h e).2).short in omega arith

pub all_few : {A : Type 0} (g : Geometry) (nodes : List (Vec ℕ A)) (longest k count : ℕ) → ImageFits g (lists_of nodes) longest → k ≤ length nodes → count ≤ k * 2 ^ 24 → count ≤ 2 ^ 27
all_few g nodes longest k count f h c = let a = length-lists_of nodes in let b = f.count in let d = g.few in omega arith

-- a number of a list of numbers that all fit
pub small_in : (xs : List ℕ) → ((k : ℕ) → slice_index xs k < 2 ^ 64) → (x : ℕ) → IsIn x xs → x < 2 ^ 64
small_in [] f x h = absurd h
small_in (y ∷ xs) f x (inl e) = subst (λ v. v < 2 ^ 64) (sym e) (f 0)
small_in (y ∷ xs) f x (inr h) = small_in xs (λ k. f (suc k)) x h

-- all numbers
pub numbers_written : (g : Geometry) (listed : Pairs) (nodes : List (List ℕ)) (n : ℕ) (none head entries all : List ℕ) → none ≡ [] → n ≡ length listed → head ≡ none ++ (head_of g ++ n ∷ []) → entries ≡ head ++ entries_of listed → all ≡ entries ++ words_of_nodes nodes → all ≡ numbers_of g listed nodes
numbers_written g listed nodes n none head entries all z ne he ee ae =
    ae ∙ ap (λ v. v ++ words_of_nodes nodes) (ee ∙ ap (λ v. v ++ entries_of listed) (he ∙ ap (λ v. v ++ (head_of g ++ n ∷ [])) z))
    ∙ append_assoc (head_of g ++ n ∷ []) (entries_of listed) (words_of_nodes nodes)
    ∙ ap (λ m. head_of g ++ m ∷ (entries_of listed ++ words_of_nodes nodes)) ne

pub bytes_counted : (g : Geometry) (listed : Pairs) (nodes : List (List ℕ)) (n m : ℕ) → n ≡ length (entries_of listed) → m ≡ length (words_of_nodes nodes) → 8 * (7 + n + m) ≡ length (image_bytes g listed nodes)
unfolding image_bytes
bytes_counted g listed nodes n m e f = eight ∙ sym (length-bytes_of (numbers_of g listed nodes))
  where
    eight : 8 * (7 + n + m) ≡ 8 * length (numbers_of g listed nodes)
    eight = let a = length-append (entries_of listed) (words_of_nodes nodes) in omega arith

-- numbers that are those of keys, distinct, and of the nodes are an image where there are few enough
pub image_is : (g : Geometry) (listed : Pairs) (nodes : List (List ℕ)) (longest : ℕ) (numbers bytes : List ℕ) (n : ℕ) → numbers ≡ numbers_of g listed nodes → AreKeys listed → AreDistinct listed → ImageFits g nodes longest → ((x : ℕ) → IsIn x numbers → x < 2 ^ 64) → bytes ≡ bytes_of numbers → n ≡ length (image_bytes g listed nodes) → n ≤ 16777216 → (bytes ≡ image_bytes g listed nodes) × IsImage bytes g listed nodes
unfolding image_bytes
image_is g listed nodes longest numbers bytes n e keys dis f small be ne few = (
  whole,
  record {
    few = subst (λ v. v ≤ 16777216) (ne ∙ sym (ap length whole)) few;
    numbers = numbers;
    are = record { are = e; keys = keys; distinct = dis; stand = record { count = f.count; node = λ k v h. let x = f.node k v h in record { next = x.next; from = x.from; to = x.to } } };
    small = small;
    spell = be;
  },
)
  where
    whole : bytes ≡ bytes_of (numbers_of g listed nodes)
    whole = be ∙ ap bytes_of e
