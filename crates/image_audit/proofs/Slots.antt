-- Slots, as an audit judges them.
use Rattle.std.specs.Prelude.{◌≡◌, ◌≢◌, ℕ, zero, suc, ◌+◌, ◌%◌, ◌^◌, ◌<◌, ◌≤◌, Bool, true, false, List, [], ◌∷◌, ◌++◌, map, length, take, slice_get, slice_set, Some, None, ◌⊎◌, refl}
use Rattle.std.proofs.Common.{sym, ◌∙◌, ap, subst, inl, inr, arith, ⊎_elim, length-set, append-nil}
use Rattle.std.proofs.lemmas.List.{take_more_set}
use Rattle.std.specs.List.{flat_map}
use Rattle.std.specs.FinMap as fin
use Rattle.std.specs.BTreeMap as tree
use Rattle.slot_word.specs.declared.slots.Mark.TheVariants.{Live}
use Rattle.kv_block.specs.Bytes.{key_cmp, key_eq}
use Rattle.kv_block.specs.Packing.{Pair}
use Rattle.bucket_group.specs.Buckets.{candidates, fingerprint_of}
use Rattle.bucket_group.specs.ExitLevel.{exit_level}
use Rattle.map_model.specs.Contents.{Contents}
use Rattle.map_model.specs.Machine.{map_after, changed}
use Rattle.node_words.specs.declared.geometry.Geometry.{Geometry}
use Rattle.node_words.specs.Addresses.{slot_at}
use Rattle.verb_log.specs.Decoded.{Body, Full, content}
use Rattle.race_laws.proofs.Touch.{same_or_not}
use Rattle.race_laws.specs.Standing.{IsIn}
use Rattle.race_laws.specs.Setting.{Setting, hash}
use Rattle.race_laws.proofs.Slots.{content-0, full_same}
use Rattle.race_laws.proofs.Maps.{get-changed, get-changed_other}
use Rattle.image_laws.specs.declared.table.ImageTable.{ImageTable}
use Rattle.image_laws.specs.Walk.{Words, WalkWord, TableWord, firsts, named_as}
use Rattle.image_laws.specs.Sound.{IsTaken, words_from, pair_from, depth_in, named_by, held_in, held_as, held_by, held, one_pair, LiveSlot, TableRule, PlainRule, Rule}
use Rattle.image_laws.specs.Answers.{sets}
use Rattle.image_laws.specs.Pairwise.{Pairwise}
use Rattle.image_laws.proofs.Offsets.{off_slot}
use Rattle.image_laws.proofs.SetPairs.{key_cases}
use Rattle.image_audit.specs.Held.{Blocks, Hold}
use Rattle.image_audit.specs.Kept.{Kept, IsAtHome, IsKeptBlock}
use Rattle.image_audit.proofs.HeldWords.{hold_more}
use Rattle.image_audit.proofs.Children.{kept_on, named_more, held_more}
use Rattle.key_hash.specs.Placing.{placed}

pub in_by_get : (xs : List ℕ) (k p : ℕ) → slice_get xs k ≡ Some p → IsIn p xs
in_by_get [] k p h = absurd (cc)
in_by_get (x ∷ xs) zero p h = inl (same h)
  where
    same : Some x ≡ Some p → p ≡ x
    same e = cc
in_by_get (x ∷ xs) (suc k) p h = inr (in_by_get xs k p h)

pub get_by_in : (xs : List ℕ) (p : ℕ) → IsIn p xs → (k : ℕ) × (k < length xs) × (slice_get xs k ≡ Some p)
get_by_in [] p h = absurd h
get_by_in (x ∷ xs) p (inl e) = (0, omega arith, ap Some (sym e))
get_by_in (x ∷ xs) p (inr h) = let r = get_by_in xs p h in (suc r.0, (let y = r.1 in omega arith), r.2)

pub words_more : (w : Words) (a n : ℕ) → words_from w a (n + 1) ≡ words_from w a n ++ w (a + n) ∷ []
words_more w a n = ap (words_from w a) (next n) ∙ by n a
  where
    next : (n : ℕ) → n + 1 ≡ suc n
    next n = omega arith

    by : (n a : ℕ) → words_from w a (suc n) ≡ words_from w a n ++ w (a + n) ∷ []
    by zero a = ap (λ v. w v ∷ []) (plus a)
      where
        plus : (a : ℕ) → a ≡ a + 0
        plus a = omega arith
    by (suc n) a = ap (λ v. w a ∷ v) (by n (suc a) ∙ ap (λ v. words_from w (suc a) n ++ w v ∷ []) (shift a n))
      where
        shift : (a n : ℕ) → suc a + n ≡ a + suc n
        shift a n = omega arith

-- so many words of a block were read
pub record Read (g : Geometry) (w : Words) (at : ℕ) (words : List ℕ) (n : ℕ) : Type 0 where
  pub front : take n words ≡ words_from w at n
  pub size : length words ≡ 256
  pub taken : (a : ℕ) → at ≤ a → a < at + n → IsTaken g w a

pub read_more : (g : Geometry) (w : Words) (at : ℕ) (words : List ℕ) (n x : ℕ) → Read g w at words n → n < 256 → IsTaken g w (at + n) → x ≡ w (at + n) → Read g w at (slice_set words n x) (n + 1)
read_more g w at words n x r h t e = record {
  front = take_more_set words n x (let y = r.size in omega arith) ∙ ap (λ v. v ++ x ∷ []) r.front ∙ ap (λ v. words_from w at n ++ v ∷ []) e ∙ sym (words_more w at n);
  size = length-set words n x ∙ r.size;
  taken = λ a b c. ⊎_elim (λ (z : a ≡ at + n). subst (IsTaken g w) (sym z) t) (λ z. r.taken a b (omega arith)) (same_or_not a (at + n));
}

-- a map of set pairs that lacks a key has no pair of it
still : (key : List ℕ) (qs : List Pair) (m : Contents) → fin.get (map_after m (map sets qs)) key ≡ None → fin.get m key ≡ None
still key [] m e = e
still key (q ∷ qs) m e = ⊎_elim
    (λ (k : key ≡ q.key). let x = still key qs (changed m (sets q)) e in let y = ap (fin.get (changed m (sets q))) k ∙ get-changed m q.key q.value in absurd (cc))
    (λ (k : key_eq key q.key ≡ false). sym (get-changed_other m q.key key (Some q.value) k) ∙ still key qs (changed m (sets q)) e) (key_cases key q.key)

lacks : (key : List ℕ) (qs : List Pair) (m : Contents) → fin.get (map_after m (map sets qs)) key ≡ None → (q : Pair) → IsIn q qs → q.key ≡ key → ⊥
lacks key [] m e q a k = a
lacks key (z ∷ qs) m e q (inl x) k =
    let h = still key qs (changed m (sets z)) e in
    let zk : key ≡ z.key = sym k ∙ ap (λ (v : Pair). v.key) x in
    let y = ap (fin.get (changed m (sets z))) zk ∙ get-changed m z.key z.value in
    cc
lacks key (z ∷ qs) m e q (inr a) k = lacks key qs (changed m (sets z)) e q a k

after_more : (m : Contents) (qs : List Pair) (q : Pair) → map_after m (map sets (qs ++ q ∷ [])) ≡ changed (map_after m (map sets qs)) (sets q)
after_more m [] q = refl
after_more m (z ∷ qs) q = after_more (changed m (sets z)) qs q

has : (key : List ℕ) (v : List ℕ) (qs : List Pair) (m : Contents) → fin.get (map_after m (map sets qs)) key ≡ Some v → fin.get m key ≡ None → (q : Pair) × IsIn q qs × (q.key ≡ key)
has key v [] m e n = absurd (cc)
has key v (z ∷ qs) m e n = by (key_cases key z.key) (λ k. has key v qs (changed m (sets z)) e (get-changed_other m z.key key (Some z.value) k ∙ n))
  where
    by : (key ≡ z.key) ⊎ (key_eq key z.key ≡ false) → (key_eq key z.key ≡ false → (q : Pair) × IsIn q qs × (q.key ≡ key)) → (q : Pair) × IsIn q (z ∷ qs) × (q.key ≡ key)
    by (inl k) ih = (z, inl refl, sym k)
    by (inr k) ih = let r = ih k in (r.0, inr r.1, r.2)

module _ (s : Setting) (w : Words) (place : ℕ → ℕ) (cells : ℕ) (before : List WalkWord) (ts : List ImageTable) (ms : List Bool) (m : Blocks) (k : Kept s w place cells before ts ms m) (t : ImageTable) (p : ℕ) (ps : p % 8 ≢ 0) where
  abbrev x : WalkWord
  x = TableWord t (20 + p)

  abbrev word : ℕ
  word = w (slot_at t.at p)

  to_rule : (word ≡ 0) ⊎ LiveSlot s w before t p → Rule s w before x
  to_rule r = (subst (TableRule s w before t) (sym (off_slot s.geometry t.at p ps)) r, subst (PlainRule w t (20 + p)) (sym (off_slot s.geometry t.at p ps)) tt)

  of_rule : Rule s w before x → (word ≡ 0) ⊎ LiveSlot s w before t p
  of_rule r = subst (TableRule s w before t) (off_slot s.geometry t.at p ps) r.0

  none_named : named_by w x ≡ []
  none_named = ap (named_as w t) (off_slot s.geometry t.at p ps)

  holds : held_by w x ≡ held_in w (content word)
  holds = ap (held_as w t) (off_slot s.geometry t.at p ps)

  pub zero_slot : word ≡ 0 → Rule s w before x × Kept s w place cells (before ++ x ∷ []) ts ms m
  zero_slot z = (to_rule (inl z), kept_on s w place cells before x ts ms m k none_named (holds ∙ ap (held_in w) (ap content z ∙ content-0)))

  -- a word that is not 0 and no live word
  pub dead_slot : word ≢ 0 → ((b : Body) → content word ≡ Full Live b → ⊥) → Rule s w before x → ⊥
  dead_slot n d r = ⊎_elim (λ (z : word ≡ 0). n z) (λ (l : LiveSlot s w before t p). d l.body l.stands) (of_rule r)

  module _ (n : word ≢ 0) (b : Body) (e : content word ≡ Full Live b) where
    lives : Rule s w before x → (l : LiveSlot s w before t p) × (l.body ≡ b)
    lives r = ⊎_elim (λ (z : word ≡ 0). absurd (n z)) (λ (l : LiveSlot s w before t p). (l, full_same Live Live l.body b (sym l.stands ∙ e))) (of_rule r)

    pub unread_slot : (((a : ℕ) → b.at ≤ a → a < b.at + b.length → IsTaken s.geometry w a) → (q : Pair) → pair_from w b ≡ Some q → ⊥) → Rule s w before x → ⊥
    unread_slot f r =
        let l = lives r in
        f (subst (λ (v : Body). (a : ℕ) → v.at ≤ a → a < v.at + v.length → IsTaken s.geometry w a) l.1 l.0.taken) l.0.pair (ap (pair_from w) (sym l.1) ∙ l.0.packs)

    module _ (q : Pair) (pk : pair_from w b ≡ Some q) (h d : ℕ) (he : h ≡ hash s q.key) (de : d ≡ depth_in w t.at) where
      same_pair : (l : LiveSlot s w before t p) → l.body ≡ b → l.pair ≡ q
      same_pair l f = pairs (sym l.packs ∙ ap (pair_from w) f ∙ pk)
        where
          pairs : {y z : Pair} → Some y ≡ Some z → y ≡ z
          pairs g = cc

      pub away_slot : (IsAtHome s.geometry.groups h t d p b.print → ⊥) → Rule s w before x → ⊥
      away_slot f r =
          let l = lives r in
          let z = same_pair l.0 l.1 in
          let hk : hash s l.0.pair.key ≡ h = ap (λ (v : Pair). hash s v.key) z ∙ sym he in
          f (record {
            same_print = sym (ap (λ (v : Body). v.print) l.1) ∙ l.0.print ∙ ap fingerprint_of hk;
            suffix = sym (l.0.suffix ∙ ap (λ v. v % 2 ^ t.depth) hk);
            stays = λ i g. subst (λ v. v ≤ i) (sym de) (l.0.stays i (ap (λ v. exit_level v t.depth) hk ∙ g));
            candidate = subst (λ v. IsIn p (candidates s.geometry.groups v)) hk l.0.candidate;
          })

      module _ (home : IsAtHome s.geometry.groups h t d p b.print) where
        pub known_slot : (v : ℕ) → tree.get key_cmp m q.key ≡ Some v → Rule s w before x → ⊥
        known_slot v g r =
            let l = lives r in
            let z = same_pair l.0 l.1 in
            let i = k.map.words q.key v g in
            let y = has q.key i.0.pair.value (held w before) fin.empty (ap (fin.get (map_after fin.empty (map sets (held w before)))) (sym i.1) ∙ i.0.has) (fin.get-empty key_cmp q.key) in
            l.0.once y.0 y.1 (y.2 ∙ ap (λ (u : Pair). u.key) (sym z))

        pub new_slot : (n2 : Blocks) → ((a : ℕ) → b.at ≤ a → a < b.at + b.length → IsTaken s.geometry w a) → IsKeptBlock true m n2 q.key word → Rule s w before x × Kept s w place cells (before ++ x ∷ []) ts ms n2
        new_slot n2 tk g = (
          to_rule (inr (record {
            body = b;
            pair = q;
            stands = e;
            taken = tk;
            packs = pk;
            print = home.same_print ∙ ap fingerprint_of he;
            suffix = sym home.suffix ∙ ap (λ v. v % 2 ^ t.depth) he;
            stays = λ i f. subst (λ v. v ≤ i) de (home.stays i (ap (λ v. exit_level v t.depth) he ∙ f));
            candidate = subst (λ v. IsIn p (candidates s.geometry.groups v)) he home.candidate;
            once = λ z a f. lacks q.key (held w before) fin.empty (k.map.lacks q.key g.0) z a f;
          })),
          record {
            listed = k.listed ∙ sym (ap (λ v. firsts s.geometry ++ v) same_named);
            size = k.size;
            taken = λ u a. k.taken u (subst (IsIn u) same_named a);
            given = λ u a. k.given u (subst (IsIn u) same_named a);
            only = λ j c. let r = k.only j c in (r.0, subst (IsIn r.0) (sym same_named) r.1, r.2, r.3, r.4, r.5);
            once = subst (λ v. Pairwise (λ (t u : ImageTable). t.at ≢ u.at) (firsts s.geometry ++ v)) (sym same_named) k.once;
            map = subst (λ v. Hold s.geometry w n2 v) (sym (after_more fin.empty (held w before) q) ∙ ap (λ v. map_after fin.empty (map sets v)) (sym (held_more w before x ∙ ap (λ v. held w before ++ v) (holds ∙ ap (held_in w) e ∙ ap one_pair pk))))
                (hold_more s.geometry w m n2 (map_after fin.empty (map sets (held w before))) word q k.map (record { body = b; stands = e; taken = tk; packs = pk }) g.1);
          },
        )
          where
            same_named : flat_map (named_by w) (before ++ x ∷ []) ≡ flat_map (named_by w) before
            same_named = named_more w before x ∙ ap (λ v. flat_map (named_by w) before ++ v) none_named ∙ append-nil (flat_map (named_by w) before)

        pub kept_slot : (fresh : Bool) (us : List ImageTable) (ns : List Bool) (n2 : Blocks) → ((a : ℕ) → b.at ≤ a → a < b.at + b.length → IsTaken s.geometry w a) → IsKeptBlock fresh m n2 q.key word → us ≡ ts → ns ≡ ms → (fresh ≡ true → Rule s w before x × Kept s w place cells (before ++ x ∷ []) us ns n2) × (fresh ≡ false → Rule s w before x → ⊥)
        kept_slot true us ns n2 tk kp ue ne = (
          (λ z. subst (λ v. Rule s w before x × Kept s w place cells (before ++ x ∷ []) v ns n2) (sym ue) (subst (λ v. Rule s w before x × Kept s w place cells (before ++ x ∷ []) ts v n2) (sym ne) (new_slot n2 tk kp))),
          (λ z r. absurd (cc)),
        )
        kept_slot false us ns n2 tk kp ue ne = ((λ z. absurd (cc)), (λ z r. known_slot kp.0 kp.1 r))

pub hash_is : (s : Setting) (key : List ℕ) (h : ℕ) → h ≡ placed s.listed key → h ≡ hash s key
unfolding hash
hash_is s key h e = e
