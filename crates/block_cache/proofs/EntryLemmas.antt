-- How entries stand to the blocks among them.
use Rattle.std.specs.Prelude.{◌≡◌, ℕ, zero, suc, ◌+◌, ◌-◌, ◌<◌, ◌≤◌, Bool, true, false, cond, nat_eq, List, [], ◌∷◌, length, take, slice_get, Option, Some, None, IsSome, is_some, option_map, refl}
use Rattle.std.proofs.Common.{sym, ◌∙◌, ap, subst, arith}
use Rattle.std.proofs.lemmas.Bool.Decides.{nat_tests}
use Rattle.std.specs.List.{IsDistinct, AllByRecursion}
use Rattle.std.specs.Map.{keys_of, lookup, lookup_entry, remove_entry}
use Rattle.std.proofs.lemmas.Map.Keys.{IsDistinct-head, IsDistinct-tail}
use Rattle.std.proofs.lemmas.List.{length-take-le, take_all}
use Rattle.std.proofs.lemmas.Option.{slice_get-get_or}
use Rattle.lru.specs.LruCache.{lru_cache, last_entry, promoted, put_entries}
use Rattle.block_cache.specs.declared.recent.KeptBlock.{KeptBlock}
use Rattle.block_cache.specs.Recent.{Entries, key_of, kept, holds, key_holding, IsPacked, first, found, without, to_front}

some_is : {A : Type 0} (a b : A) → Some a ≡ Some b → a ≡ b
some_is a b e = cc

eq_same : (a : ℕ) → nat_eq a a ≡ true
eq_same a = grind (arith, nat_tests)

eq_flip : (a b : ℕ) → nat_eq a b ≡ false → nat_eq b a ≡ false
eq_flip a b h = grind (arith, nat_tests)

-- what holds of every key holds of the one that has the block
all_keys : (P : ℕ → Type 0) (block : ℕ) (es : Entries) (k : ℕ) → AllByRecursion P (keys_of es) → key_holding block es ≡ Some k → P k
all_keys P block [] k a e = absurd (cc)
all_keys P block (x ∷ es) k a e = by (holds block x.1) (all_keys P block es k a.1) e
  where
    by : (v : Bool) → (key_holding block es ≡ Some k → P k) → cond v (Some x.0) (key_holding block es) ≡ Some k → P k
    by true ih is = subst P (some_is x.0 k is) a.0
    by false ih is = ih is

-- no blocks stay none, and are packed
none_removed : (test : ℕ → Bool) (es : Entries) → kept es ≡ [] → kept (remove_entry test es) ≡ []
none_removed test [] h = refl
none_removed test ((key, None) ∷ es) h = by (test key) (none_removed test es h)
  where
    by : (v : Bool) → kept (remove_entry test es) ≡ [] → kept (cond v es ((key, None) ∷ remove_entry test es)) ≡ []
    by true ih = h
    by false ih = ih
none_removed test ((key, Some held) ∷ es) h = absurd (cc)

pub none_packed : (es : Entries) → kept es ≡ [] → IsPacked es
none_packed [] h = tt
none_packed ((key, None) ∷ es) h = h
none_packed ((key, Some held) ∷ es) h = absurd (cc)

pub packed_removed : (test : ℕ → Bool) (es : Entries) → IsPacked es → IsPacked (remove_entry test es)
packed_removed test [] h = tt
packed_removed test ((key, None) ∷ es) h = by (test key)
  where
    by : (v : Bool) → IsPacked (cond v es ((key, None) ∷ remove_entry test es))
    by true = none_packed es h
    by false = none_removed test es h
packed_removed test ((key, Some held) ∷ es) h = by (test key) (packed_removed test es h)
  where
    by : (v : Bool) → IsPacked (remove_entry test es) → IsPacked (cond v es ((key, Some held) ∷ remove_entry test es))
    by true ih = h
    by false ih = ih

none_taken : (n : ℕ) (es : Entries) → kept es ≡ [] → kept (take n es) ≡ []
none_taken zero es h = refl
none_taken (suc n) [] h = refl
none_taken (suc n) ((key, None) ∷ es) h = none_taken n es h
none_taken (suc n) ((key, Some held) ∷ es) h = absurd (cc)

take_none : (n : ℕ) (hs : List KeptBlock) → hs ≡ [] → take n hs ≡ []
take_none zero hs e = refl
take_none (suc n) [] e = refl
take_none (suc n) (h ∷ hs) e = absurd (cc)

pub packed_taken : (n : ℕ) (es : Entries) → IsPacked es → IsPacked (take n es)
packed_taken zero es h = tt
packed_taken (suc n) [] h = tt
packed_taken (suc n) ((key, None) ∷ es) h = none_taken n es h
packed_taken (suc n) ((key, Some held) ∷ es) h = packed_taken n es h

-- of packed entries the first ones have the first blocks
pub kept_taken : (n : ℕ) (es : Entries) → IsPacked es → kept (take n es) ≡ take n (kept es)
kept_taken zero es h = refl
kept_taken (suc n) [] h = refl
kept_taken (suc n) ((key, None) ∷ es) h = none_taken n es h ∙ sym (take_none (suc n) (kept es) h)
kept_taken (suc n) ((key, Some held) ∷ es) h = ap (λ hs. held ∷ hs) (kept_taken n es h)

-- the block that a key has: its entry, and what is left without it
pub record HasBlock (block : ℕ) (es : Entries) (k : ℕ) : Type 0 where
  pub held : KeptBlock
  pub entry : lookup_entry (nat_eq k) es ≡ Some (k, Some held)
  pub first : found block (kept es) ≡ Some held
  pub rest : kept (remove_entry (nat_eq k) es) ≡ without block (kept es)
  pub fewer : length (remove_entry (nat_eq k) es) + 1 ≡ length es

pub has_block : (block : ℕ) (es : Entries) (k : ℕ) → IsDistinct nat_eq (keys_of es) → key_holding block es ≡ Some k → HasBlock block es k
has_block block [] k d e = absurd (cc)
has_block block ((key, None) ∷ es) k d e =
    let r = has_block block es k (IsDistinct-tail nat_eq key (keys_of es) d) e in
    let other : nat_eq k key ≡ false = eq_flip key k (all_keys (λ y. nat_eq key y ≡ false) block es k (IsDistinct-head nat_eq key (keys_of es) d) e) in
    let fewer = r.fewer in
    record {
      held = r.held;
      entry = rw other r.entry;
      first = r.first;
      rest = rw other r.rest;
      fewer = rw other (omega arith);
    }
has_block block ((key, Some h) ∷ es) k d e = by (nat_eq block h.at) refl (has_block block es k (IsDistinct-tail nat_eq key (keys_of es) d)) e
  where
    by : (v : Bool) → nat_eq block h.at ≡ v → (key_holding block es ≡ Some k → HasBlock block es k) → cond v (Some key) (key_holding block es) ≡ Some k → HasBlock block ((key, Some h) ∷ es) k
    by true t ih is =
        let same : key ≡ k = some_is key k is in
        subst (HasBlock block ((key, Some h) ∷ es)) same (let own = eq_same key in record {
          held = h;
          entry = rw own refl;
          first = rw t refl;
          rest = rw own (rw t refl);
          fewer = rw own (omega arith);
        })
    by false t ih is =
        let r = ih is in
        let other : nat_eq k key ≡ false = eq_flip key k (all_keys (λ y. nat_eq key y ≡ false) block es k (IsDistinct-head nat_eq key (keys_of es) d) is) in
        let fewer = r.fewer in
        record {
          held = r.held;
          entry = rw other r.entry;
          first = rw t r.first;
          rest = rw other (rw t (ap (λ hs. h ∷ hs) r.rest));
          fewer = rw other (omega arith);
        }

pub no_block : (block : ℕ) (es : Entries) → key_holding block es ≡ None → found block (kept es) ≡ None
no_block block [] e = refl
no_block block ((key, None) ∷ es) e = no_block block es e
no_block block ((key, Some h) ∷ es) e = by (nat_eq block h.at) (no_block block es) e
  where
    by : (v : Bool) → (key_holding block es ≡ None → found block (kept es) ≡ None) → cond v (Some key) (key_holding block es) ≡ None → cond v (Some h) (found block (kept es)) ≡ None
    by true ih is = absurd (cc)
    by false ih is = ih is

-- the last entry: its key is there, and what is left without it is all before it
pub record IsLast (es : Entries) (n k : ℕ) : Type 0 where
  pub held : Option KeptBlock
  pub entry : lookup_entry (nat_eq k) es ≡ Some (k, held)
  pub rest : remove_entry (nat_eq k) es ≡ take n es

all_last : (P : ℕ → Type 0) (es : Entries) (n : ℕ) (e : ℕ × Option KeptBlock) → AllByRecursion P (keys_of es) → slice_get es n ≡ Some e → P e.0
all_last P [] n e a is = absurd (cc)
all_last P (x ∷ es) zero e a is = subst P (ap (λ p. p.0) (some_is x e is)) a.0
all_last P (x ∷ es) (suc n) e a is = all_last P es n e a.1 is

is_at_end : (es : Entries) (n : ℕ) (e : ℕ × Option KeptBlock) → IsDistinct nat_eq (keys_of es) → length es ≡ suc n → slice_get es n ≡ Some e → IsLast es n e.0
is_at_end [] n e d l is = absurd (cc)
is_at_end (x ∷ []) zero e d l is = subst (λ (p : ℕ × Option KeptBlock). IsLast (x ∷ []) zero p.0) (some_is x e is) (let own = eq_same x.0 in record { held = x.1; entry = rw own refl; rest = rw own refl })
is_at_end (x ∷ y ∷ es) zero e d l is = absurd (omega arith)
is_at_end (x ∷ es) (suc n) e d l is =
    let r = is_at_end es n e (IsDistinct-tail nat_eq x.0 (keys_of es) d) (omega arith) is in
    let other : nat_eq e.0 x.0 ≡ false = eq_flip x.0 e.0 (all_last (λ k. nat_eq x.0 k ≡ false) es n e (IsDistinct-head nat_eq x.0 (keys_of es) d) is) in
    record { held = r.held; entry = rw other r.entry; rest = rw other (ap (λ zs. x ∷ zs) r.rest) }

pub is_last : (es : Entries) (e : ℕ × Option KeptBlock) → IsDistinct nat_eq (keys_of es) → last_entry es ≡ Some e → IsLast es (length es - 1) e.0
is_last [] e d is = absurd (cc)
is_last (x ∷ es) e d is = is_at_end (x ∷ es) (length (x ∷ es) - 1) e d (omega arith) is

lookup_of : (test : ℕ → Bool) (es : Entries) (e : ℕ × Option KeptBlock) → lookup_entry test es ≡ Some e → lookup test es ≡ Some e.1
lookup_of test [] e h = absurd (cc)
lookup_of test (x ∷ es) e h = by (test x.0) (lookup_of test es e) h
  where
    by : (v : Bool) → (lookup_entry test es ≡ Some e → lookup test es ≡ Some e.1) → cond v (Some x) (lookup_entry test es) ≡ Some e → cond v (Some x.1) (lookup test es) ≡ Some e.1
    by true ih is = ap (λ (p : ℕ × Option KeptBlock). Some p.1) (some_is x e is)
    by false ih is = ih is

-- the entry that has a block was made the first
pub record Promoted (block : ℕ) (es : Entries) (k : ℕ) : Type 0 where
  pub found_there : is_some (lookup (nat_eq k) es) ≡ is_some (found block (kept es))
  pub kept_so : kept (promoted (nat_eq k) es) ≡ to_front block (kept es)
  pub packed : IsPacked (promoted (nat_eq k) es)
  pub long : length (promoted (nat_eq k) es) ≡ length es

pub promoting : (block : ℕ) (es : Entries) (k : ℕ) → IsDistinct nat_eq (keys_of es) → IsPacked es → key_holding block es ≡ Some k → Promoted block es k
promoting block es k d p e =
    let r = has_block block es k d e in
    let there = lookup_of (nat_eq k) es (k, Some r.held) r.entry in
    let fewer = r.fewer in
    record {
      found_there = rw there (rw r.first refl);
      kept_so = rw r.entry (rw r.first (ap (λ hs. r.held ∷ hs) r.rest));
      packed = rw r.entry (packed_removed (nat_eq k) es p);
      long = rw r.entry (omega arith);
    }

-- a block was put into the last entry
pub record PutLast (held : KeptBlock) (es : Entries) (k cap : ℕ) : Type 0 where
  pub there : IsSome (lookup (nat_eq k) es)
  pub kept_so : kept (put_entries nat_eq (lru_cache es cap) k (Some held)) ≡ held ∷ take (length es - 1) (kept es)
  pub packed : IsPacked (put_entries nat_eq (lru_cache es cap) k (Some held))
  pub long : length (put_entries nat_eq (lru_cache es cap) k (Some held)) ≡ length es

putting : (held : KeptBlock) (es : Entries) (cap : ℕ) (e : ℕ × Option KeptBlock) → IsDistinct nat_eq (keys_of es) → IsPacked es → 1 ≤ length es → last_entry es ≡ Some e → PutLast held es e.0 cap
putting held es cap e d p some is =
    let r = is_last es e d is in
    let there = lookup_of (nat_eq e.0) es (e.0, r.held) r.entry in
    let long = length-take-le (length es - 1) es (omega arith) in
    record {
      there = rw there refl;
      kept_so = rw r.entry (ap (λ hs. held ∷ hs) (ap kept r.rest ∙ kept_taken (length es - 1) es p));
      packed = rw r.entry (subst IsPacked (sym r.rest) (packed_taken (length es - 1) es p));
      long = rw r.entry (let n = ap length r.rest in omega (arith, long, n));
    }

pub put_last : (held : KeptBlock) (es : Entries) (cap k : ℕ) → IsDistinct nat_eq (keys_of es) → IsPacked es → 1 ≤ length es → Some k ≡ option_map key_of (last_entry es) → PutLast held es k cap
put_last held es cap k d p some is = by (last_entry es) refl is
  where
    by : (o : Option (ℕ × Option KeptBlock)) → last_entry es ≡ o → Some k ≡ option_map key_of o → PutLast held es k cap
    by None e h = absurd (cc)
    by (Some x) e h = subst (λ n. PutLast held es n cap) (sym (some_is k x.0 h)) (putting held es cap x d p some e)

pub last_there : (es : Entries) → 1 ≤ length es → IsSome (option_map key_of (last_entry es))
last_there es h = rw (slice_get-get_or es (length es - 1) (0, None) (omega arith)) refl

-- entries without a block under the keys below n
pub record IsFresh (n : ℕ) (es : Entries) : Type 0 where
  pub none : kept es ≡ []
  pub long : length es ≡ n
  pub low : AllByRecursion (λ k. k < n) (keys_of es)

absent : (n : ℕ) (es : Entries) → AllByRecursion (λ k. k < n) (keys_of es) → lookup_entry (nat_eq n) es ≡ None
absent n [] a = refl
absent n (x ∷ es) a =
    let lt = a.0 in
    let other : nat_eq n x.0 ≡ false = grind (arith, nat_tests) in
    rw other (absent n es a.1)

lower : (n : ℕ) (ks : List ℕ) → AllByRecursion (λ k. k < n) ks → AllByRecursion (λ k. k < n + 1) ks
lower n [] a = tt
lower n (k ∷ ks) a = (let lt = a.0 in omega arith, lower n ks a.1)

pub fresh_more : (n cap : ℕ) (es : Entries) → n < cap → IsFresh n es → IsFresh (n + 1) (put_entries nat_eq (lru_cache es cap) n None)
fresh_more n cap es lt f =
    let all = take_all (cap - 1) es (let l = f.long in omega arith) in
    let long = f.long in
    rw (absent n es f.low) (rw all (record { none = f.none; long = omega arith; low = (omega arith, lower n (keys_of es) f.low) }))

-- the block of the first entry is the first block
pub first_some : (es : Entries) (key : ℕ) (o : Option KeptBlock) (held : KeptBlock) → Some (key, o) ≡ slice_get es 0 → o ≡ Some held → Some held ≡ first (kept es)
first_some [] key o held e is = absurd (cc)
first_some ((k, None) ∷ es) key o held e is = let same : o ≡ None = ap (λ (p : ℕ × Option KeptBlock). p.1) (some_is (key, o) (k, None) e) in absurd (cc)
first_some ((k, Some h) ∷ es) key o held e is = let same : o ≡ Some h = ap (λ (p : ℕ × Option KeptBlock). p.1) (some_is (key, o) (k, Some h) e) in cc

pub first_none : (es : Entries) (key : ℕ) (o : Option KeptBlock) → IsPacked es → Some (key, o) ≡ slice_get es 0 → o ≡ None → None ≡ first (kept es)
first_none [] key o p e is = absurd (cc)
first_none ((k, None) ∷ es) key o p e is = ap first (sym p)
first_none ((k, Some h) ∷ es) key o p e is = let same : o ≡ Some h = ap (λ (p : ℕ × Option KeptBlock). p.1) (some_is (key, o) (k, Some h) e) in absurd (cc)

pub first_empty : (es : Entries) → None ≡ slice_get es 0 → None ≡ first (kept es)
first_empty [] e = refl
first_empty (x ∷ es) e = absurd (cc)
