-- The slot words that an audit keeps, and the map that is made of them.
use Rattle.std.specs.Prelude.{◌≡◌, ◌≢◌, ℕ, suc, ◌+◌, ◌-◌, ◌*◌, ◌/◌, ◌%◌, ◌<◌, nat_lt, if◌then◌else◌, Bool, true, false, cond, List, [], ◌∷◌, length, slice_get, Option, Some, None, ◌⊎◌, refl}
use Rattle.std.proofs.Common.{sym, ◌∙◌, ap, subst, inl, inr, arith, ⊎_elim}
use Rattle.std.proofs.lemmas.Bool.Decides.{nat_tests}
use Rattle.std.proofs.lemmas.Option.{slice_get-map, slice_get_within}
use Rattle.std.proofs.lemmas.Map.Entries.{btree_map_get_place}
use Rattle.std.specs.Option.{option_map}
use Rattle.std.specs.Map.{lookup, values_of}
use Rattle.std.specs.BTreeMap as tree
use Rattle.std.specs.BTreeMap.{is_at}
use Rattle.std.specs.FinMap as fin
use Rattle.slot_word.specs.declared.slots.Mark.TheVariants.{Live}
use Rattle.kv_block.specs.Bytes.{key_cmp, key_eq}
use Rattle.kv_block.specs.Packing.{Pair}
use Rattle.kv_block.proofs.Keys.{key_cmp_total, key_cmp-IsAntisymmetric, key_eq-same, at_is}
use Rattle.map_model.specs.Contents.{Contents}
use Rattle.map_model.specs.Machine.{changed}
use Rattle.node_words.specs.declared.geometry.Geometry.{Geometry}
use Rattle.race_laws.proofs.Slots.{full_same}
use Rattle.race_laws.proofs.Maps.{get-changed, get-changed_other}
use Rattle.race_laws.proofs.Touch.{same_or_not}
use Rattle.image_laws.specs.Walk.{Words}
use Rattle.image_laws.specs.Sound.{pair_from}
use Rattle.image_laws.specs.Answers.{sets}
use Rattle.image_laws.proofs.SetPairs.{key_cases}
use Rattle.image_audit.specs.Held.{Blocks, HoldsPair, IsHeld, Hold, Within, IsPut, Filled, place_at}

same_Some : {A : Type 0} {x y : A} → Some x ≡ Some y → x ≡ y
same_Some e = cc

-- a word holds one pair
pub holds_one : (g : Geometry) (w : Words) (word : ℕ) (q z : Pair) → HoldsPair g w word q → HoldsPair g w word z → q ≡ z
holds_one g w word q z h k = same_Some (sym h.packs ∙ ap (pair_from w) (full_same Live Live h.body k.body (sym h.stands ∙ k.stands)) ∙ k.packs)

-- one word more is kept, by a key of its own
pub hold_more : (g : Geometry) (w : Words) (m n : Blocks) (c : Contents) (word : ℕ) (q : Pair) → Hold g w m c → HoldsPair g w word q → ((k : List ℕ) → tree.get key_cmp n k ≡ cond (is_at (key_cmp q.key) k) (Some word) (tree.get key_cmp m k)) → Hold g w n (changed c (sets q))
hold_more g w m n c word q h p up = record {
  words = λ key x e. by key x (key_cases key q.key) (sym (up key ∙ ap (λ b. cond b (Some word) (tree.get key_cmp m key)) (at_is q.key key)) ∙ e);
  lacks = λ key e. none key (key_cases key q.key) (sym (up key ∙ ap (λ b. cond b (Some word) (tree.get key_cmp m key)) (at_is q.key key)) ∙ e);
}
  where
    by : (key : List ℕ) (x : ℕ) → (key ≡ q.key) ⊎ (key_eq key q.key ≡ false) → cond (key_eq key q.key) (Some word) (tree.get key_cmp m key) ≡ Some x → (i : IsHeld g w (changed c (sets q)) x) × (i.pair.key ≡ key)
    by key x (inl k) e = (record { pair = q; holds = subst (λ v. HoldsPair g w v q) (same_Some (sym (ap (λ b. cond b (Some word) (tree.get key_cmp m key)) (ap (λ v. key_eq v q.key) k ∙ key_eq-same q.key)) ∙ e)) p; has = get-changed c q.key q.value }, sym k)
    by key x (inr k) e =
        let i = h.words key x (sym (ap (λ b. cond b (Some word) (tree.get key_cmp m key)) k) ∙ e) in
        (record { pair = i.0.pair; holds = i.0.holds; has = get-changed_other c q.key i.0.pair.key (Some q.value) (ap (λ v. key_eq v q.key) i.1 ∙ k) ∙ i.0.has }, i.1)

    none : (key : List ℕ) → (key ≡ q.key) ⊎ (key_eq key q.key ≡ false) → cond (key_eq key q.key) (Some word) (tree.get key_cmp m key) ≡ None → fin.get (changed c (sets q)) key ≡ None
    none key (inl k) e = let x = ap (λ b. cond b (Some word) (tree.get key_cmp m key)) (ap (λ v. key_eq v q.key) k ∙ key_eq-same q.key) in absurd (cc)
    none key (inr k) e = get-changed_other c q.key key (Some q.value) k ∙ h.lacks key (sym (ap (λ b. cond b (Some word) (tree.get key_cmp m key)) k) ∙ e)

-- the words that are kept, as a list
pub all_held : (g : Geometry) (w : Words) (m : Blocks) (c : Contents) → tree.IsOrdered key_cmp m → Hold g w m c → (i word : ℕ) → slice_get (tree.values m) i ≡ Some word → IsHeld g w c word
all_held g w m c o h i word e = by (slice_get m.entries i) refl
  where
    by : (v : Option (List ℕ × ℕ)) → slice_get m.entries i ≡ v → IsHeld g w c word
    by None f = let x = slice_get-map (λ (p : List ℕ × ℕ). p.1) m.entries i ∙ ap (option_map (λ (p : List ℕ × ℕ). p.1)) f in absurd (cc)
    by (Some (key, v)) f =
        let x = slice_get-map (λ (p : List ℕ × ℕ). p.1) m.entries i ∙ ap (option_map (λ (p : List ℕ × ℕ). p.1)) f in
        (h.words key word (btree_map_get_place key_cmp_total m i key v o f ∙ sym x ∙ e)).0

listed : (es : List (List ℕ × ℕ)) (key : List ℕ) (word : ℕ) → lookup (is_at (key_cmp key)) es ≡ Some word → (i : ℕ) × (slice_get (values_of es) i ≡ Some word)
listed [] key word e = absurd (cc)
listed (p ∷ es) key word e = by (is_at (key_cmp key) p.0) refl (λ z. listed es key word z)
  where
    by : (b : Bool) → is_at (key_cmp key) p.0 ≡ b → (lookup (is_at (key_cmp key)) es ≡ Some word → (i : ℕ) × (slice_get (values_of es) i ≡ Some word)) → (i : ℕ) × (slice_get (values_of (p ∷ es)) i ≡ Some word)
    by true f ih = (0, sym (ap (λ b. cond b (Some p.1) (lookup (is_at (key_cmp key)) es)) f) ∙ e)
    by false f ih = let r = ih (sym (ap (λ b. cond b (Some p.1) (lookup (is_at (key_cmp key)) es)) f) ∙ e) in (suc r.0, r.1)

-- each place has its turn
turn_of : (i count : ℕ) → i < count → (turn : ℕ) × (turn < count) × (place_at turn count ≡ i)
turn_of i count h = ⊎_elim (λ (e : i % 2 ≡ 0). even e) (λ n. odd (one i n)) (same_or_not (i % 2) 0)
  where
    one : (i : ℕ) → i % 2 ≢ 0 → i % 2 ≡ 1
    one i n = omega arith

    odd : i % 2 ≡ 1 → (turn : ℕ) × (turn < count) × (place_at turn count ≡ i)
    odd e = (i / 2, omega arith, ap (λ b. if b then 2 * (i / 2) + 1 else 2 * (i / 2 - count / 2)) (below i count e h) ∙ whole i e)
      where
        below : (i count : ℕ) → i % 2 ≡ 1 → i < count → nat_lt (i / 2) (count / 2) ≡ true
        below i count e h = grind (arith, nat_tests)

        whole : (i : ℕ) → i % 2 ≡ 1 → 2 * (i / 2) + 1 ≡ i
        whole i e = omega arith

    even : i % 2 ≡ 0 → (turn : ℕ) × (turn < count) × (place_at turn count ≡ i)
    even e = (count / 2 + i / 2, omega arith, ap (λ b. if b then 2 * (count / 2 + i / 2) + 1 else 2 * (count / 2 + i / 2 - count / 2)) (above i count) ∙ whole i (count / 2) e)
      where
        above : (i count : ℕ) → nat_lt (count / 2 + i / 2) (count / 2) ≡ false
        above i count = grind (arith, nat_tests)

        whole : (i h : ℕ) → i % 2 ≡ 0 → 2 * (h + i / 2 - h) ≡ i
        whole i h e = omega arith

module _ (g : Geometry) (w : Words) (m : Contents) where
  pub filled_start : (n : Contents) (words : List ℕ) → n ≡ fin.empty → Filled g w m n words 0
  filled_start n words e = record {
    within = λ key value f. let x = sym (ap (λ c. fin.get c key) e ∙ fin.get-empty key_cmp key) ∙ f in absurd (cc);
    put = λ turn word h. absurd (omega arith);
  }

  -- the pair of one word more is put
  pub filled_more : (n p : Contents) (words : List ℕ) (turn word : ℕ) (q : Pair) → Filled g w m n words turn → slice_get words (place_at turn (length words)) ≡ Some word → IsHeld g w m word → HoldsPair g w word q → p ≡ changed n (sets q) → Filled g w m p words (turn + 1)
  filled_more n p words turn word q f at i h pe = subst (λ c. Filled g w m c words (turn + 1)) (sym pe) (record { within = within; put = put })
    where
      same : i.pair ≡ q
      same = holds_one g w word i.pair q i.holds h

      has : fin.get m q.key ≡ Some q.value
      has = ap (λ (z : Pair). fin.get m z.key) (sym same) ∙ i.has ∙ ap (λ (z : Pair). Some z.value) same

      within : Within (changed n (sets q)) m
      within key value e = ⊎_elim (λ (k : key ≡ q.key). ap (fin.get m) k ∙ has ∙ sym (get-changed n q.key q.value) ∙ ap (fin.get (changed n (sets q))) (sym k) ∙ e)
          (λ (k : key_eq key q.key ≡ false). f.within key value (sym (get-changed_other n q.key key (Some q.value) k) ∙ e)) (key_cases key q.key)

      -- what was put stays
      stays : (x : ℕ) → IsPut g w n x → IsPut g w (changed n (sets q)) x
      stays x y z zh = ⊎_elim
          (λ (k : z.key ≡ q.key). ap (fin.get (changed n (sets q))) k ∙ get-changed n q.key q.value ∙ sym has ∙ ap (fin.get m) (sym k) ∙ f.within z.key z.value (y z zh))
          (λ (k : key_eq z.key q.key ≡ false). get-changed_other n q.key z.key (Some q.value) k ∙ y z zh) (key_cases z.key q.key)

      new : (x : ℕ) → Some word ≡ Some x → IsPut g w (changed n (sets q)) x
      new x e z zh =
          let s = holds_one g w word z q (subst (λ v. HoldsPair g w v z) (sym (same_Some e)) zh) h in
          ap (λ (v : Pair). fin.get (changed n (sets q)) v.key) s ∙ get-changed n q.key q.value ∙ ap (λ (v : Pair). Some v.value) (sym s)

      put : (t x : ℕ) → t < turn + 1 → slice_get words (place_at t (length words)) ≡ Some x → IsPut g w (changed n (sets q)) x
      put t x low e = ⊎_elim (λ (k : t ≡ turn). new x (sym at ∙ ap (λ v. slice_get words (place_at v (length words))) (sym k) ∙ e)) (λ n. stays x (f.put t x (omega arith) e)) (same_or_not t turn)

  -- the map is whole once each turn was taken
  pub filled_whole : (n : Contents) (blocks : Blocks) (words : List ℕ) → Hold g w blocks m → words ≡ tree.values blocks → Filled g w m n words (length words) → n ≡ m
  filled_whole n blocks words h e f = fin.same_map key_cmp_total key_cmp-IsAntisymmetric n m (λ key. by key (fin.get m key) refl (fin.get n key) refl)
    where
      there : (key : List ℕ) (word : ℕ) → tree.get key_cmp blocks key ≡ Some word → (i : IsHeld g w m word) × (i.pair.key ≡ key) × (fin.get n i.pair.key ≡ Some i.pair.value)
      there key word b =
          let i = h.words key word b in
          let l = listed blocks.entries key word b in
          let at = ap (λ v. slice_get v l.0) e ∙ l.1 in
          let t = turn_of l.0 (length words) (slice_get_within words l.0 word at) in
          (i.0, i.1, f.put t.0 word t.1 (ap (slice_get words) t.2 ∙ at) i.0.pair i.0.holds)

      some : (key value : List ℕ) → fin.get m key ≡ Some value → (b : Option ℕ) → tree.get key_cmp blocks key ≡ b → fin.get n key ≡ Some value
      some key value a None b = let x = h.lacks key b in absurd (cc)
      some key value a (Some word) b = let r = there key word b in ap (fin.get n) (sym r.1) ∙ r.2 ∙ sym r.0.has ∙ ap (fin.get m) r.1 ∙ a

      by : (key : List ℕ) (a : Option (List ℕ)) → fin.get m key ≡ a → (b : Option (List ℕ)) → fin.get n key ≡ b → fin.get n key ≡ fin.get m key
      by key (Some value) a b x = some key value a (tree.get key_cmp blocks key) refl ∙ sym a
      by key None a None x = x ∙ sym a
      by key None a (Some v) x = let y = f.within key v x in absurd (cc)
