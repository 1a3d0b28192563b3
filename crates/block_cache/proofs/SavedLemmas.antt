-- The words served over block readings are those that are saved over them.
use Rattle.std.specs.Prelude.{◌≡◌, ℕ, zero, suc, ◌+◌, ◌-◌, ◌^◌, ◌<◌, ◌≤◌, Bool, true, false, cond, nat_eq, nat_lt, min, List, [], ◌∷◌, ◌++◌, length, take, slice_index, Option, Some, None, is_some, refl}
use Rattle.std.proofs.Common.{sym, ◌∙◌, ap, subst, arith}
use Rattle.std.proofs.lemmas.Bool.Decides.{nat_tests}
use Rattle.std.proofs.lemmas.List.{length-append, append-nil, append_assoc}
use Rattle.std.specs.List.{AllByRecursion}
use Rattle.kv_block.specs.Packing.{HasShape, block_length}
use Rattle.kv_block.proofs.Packed.{shape_least}
use Rattle.verbs.specs.Programs.{Act, do_verb, ask_hash}
use Rattle.block_cache.specs.declared.recent.KeptBlock.{KeptBlock}
use Rattle.block_cache.specs.declared.reading.Reading.{Reading}
use Rattle.block_cache.specs.declared.reading.Reading.TheVariants.{Idle, Serving, Taking}
use Rattle.block_cache.specs.Recent.{found, without}
use Rattle.block_cache.specs.Cache.{Cache, served, taken, went_read, went_act, went_acts}
use Rattle.block_cache.specs.Saved.{Readings, among, apart, met, saved_at, saved_over, met_over, words_read, acts_of, block_acts, addresses, HasWordsOf, IsWhole, IsBegun, AreReadings, CountsSaved, KeepsMet}
use Rattle.block_cache.proofs.KeptLemmas.{all_found, all_without, all_take}

pub eq_self : (a : ℕ) → nat_eq a a ≡ true
eq_self a = grind (arith, nat_tests)

-- the acts of one list and then of another
pub went_append : (xs ys : List (Act × ℕ)) (c : Cache) → went_acts c (xs ++ ys) ≡ went_acts (went_acts c xs) ys
went_append [] ys c = refl
went_append (x ∷ xs) ys c = went_append xs ys (went_act c x.0 x.1)

min_more : (s k m : ℕ) → min (min (s + 1) m + k) m ≡ min (s + suc k) m
min_more s k m = omega arith

plus_none : (n : ℕ) → n ≡ n + 0
plus_none n = omega arith

min_none : (s m : ℕ) → s ≤ m → min (s + 0) m ≡ s
min_none s m h = omega arith

-- what a further word is to a cache that serves a block
pub serve_next : (h : KeptBlock) (rest : List KeptBlock) (blocks saved i word : ℕ) → 1 ≤ i
    → went_read (record { kept = h ∷ rest; blocks = blocks; reading = Serving i; saved = saved }) h.at (h.at + i) word ≡ served (record { kept = h ∷ rest; blocks = blocks; reading = Serving i; saved = saved }) i
serve_next h rest blocks saved i word one =
    let far : nat_eq (h.at + i) h.at ≡ false = grind (arith, nat_tests) in
    rw far (rw (eq_self h.at) (rw (eq_self (h.at + i)) refl))

-- the rest of a block is served
all_served : (ws : List ℕ) (h : KeptBlock) (rest : List KeptBlock) (blocks saved i : ℕ) → 1 ≤ i → i + length ws ≡ length h.words → saved ≤ 2 ^ 64 - 1
    → went_acts (record { kept = h ∷ rest; blocks = blocks; reading = cond (nat_lt i (length h.words)) (Serving i) Idle; saved = saved }) (words_read h.at i ws)
    ≡ record { kept = h ∷ rest; blocks = blocks; reading = Idle; saved = min (saved + length ws) (2 ^ 64 - 1) }
all_served [] h rest blocks saved i one long few =
    let over : nat_lt i (length h.words) ≡ false = grind (arith, nat_tests) in
    rw over (rw (min_none saved (2 ^ 64 - 1) few) refl)
all_served (w ∷ ws) h rest blocks saved i one long few =
    let under : nat_lt i (length h.words) ≡ true = grind (arith, nat_tests) in
    rw under (
    ap (λ (c : Cache). went_acts c (words_read h.at (i + 1) ws)) (serve_next h rest blocks saved i w one)
    ∙ all_served ws h rest blocks (min (saved + 1) (2 ^ 64 - 1)) (i + 1) (omega arith) (omega arith) (omega arith)
    ∙ ap (λ n. let c : Cache = record { kept = h ∷ rest; blocks = blocks; reading = Idle; saved = n } in c) (min_more saved (length ws) (2 ^ 64 - 1)))

-- what the first word of a block is to a cache
pub serve_first : (w : ℕ) (h : KeptBlock) (kept : List KeptBlock) (blocks saved : ℕ) (reading : Reading) → found h.at kept ≡ Some h
    → went_read (record { kept = kept; blocks = blocks; reading = reading; saved = saved }) h.at (h.at + 0) w
    ≡ record { kept = h ∷ without h.at kept; blocks = blocks; reading = cond (nat_lt 1 (length h.words)) (Serving 1) Idle; saved = min (saved + 1) (2 ^ 64 - 1) }
serve_first w h kept blocks saved reading f =
    let near : nat_eq (h.at + 0) h.at ≡ true = grind (arith, nat_tests) in
    rw near (rw f refl)

pub take_word : (w b : ℕ) (kept : List KeptBlock) (blocks saved : ℕ) (reading : Reading) → found b kept ≡ None
    → went_read (record { kept = kept; blocks = blocks; reading = reading; saved = saved }) b (b + 0) w
    ≡ record { kept = kept; blocks = blocks; reading = Taking (record { at = b; words = w ∷ [] }) (block_length w); saved = saved }
take_word w b kept blocks saved reading f =
    let near : nat_eq (b + 0) b ≡ true = grind (arith, nat_tests) in
    rw near (rw f refl)

-- a kept block is served from its first word to its last
served_first : (w : ℕ) (ws : List ℕ) (h : KeptBlock) (kept : List KeptBlock) (blocks saved : ℕ) (reading : Reading) → found h.at kept ≡ Some h → suc (length ws) ≡ length h.words → saved ≤ 2 ^ 64 - 1
    → went_acts (record { kept = kept; blocks = blocks; reading = reading; saved = saved }) (words_read h.at 0 (w ∷ ws))
    ≡ record { kept = h ∷ without h.at kept; blocks = blocks; reading = Idle; saved = min (saved + suc (length ws)) (2 ^ 64 - 1) }
served_first w ws h kept blocks saved reading f long few =
    ap (λ (c : Cache). went_acts c (words_read h.at 1 ws)) (serve_first w h kept blocks saved reading f)
    ∙ all_served ws h (without h.at kept) blocks (min (saved + 1) (2 ^ 64 - 1)) 1 (omega arith) (omega arith) (omega arith)
    ∙ ap (λ n. let c : Cache = record { kept = h ∷ without h.at kept; blocks = blocks; reading = Idle; saved = n } in c) (min_more saved (length ws) (2 ^ 64 - 1))

-- a further word of a block that is read
pub take_next : (b : ℕ) (ks : List ℕ) (kept : List KeptBlock) (blocks saved total word : ℕ) → 1 ≤ length ks
    → went_read (record { kept = kept; blocks = blocks; reading = Taking (record { at = b; words = ks }) total; saved = saved }) b (b + length ks) word
    ≡ taken (record { kept = kept; blocks = blocks; reading = Taking (record { at = b; words = ks }) total; saved = saved }) (record { at = b; words = ks ++ word ∷ [] }) total
take_next b ks kept blocks saved total word one =
    let far : nat_eq (b + length ks) b ≡ false = grind (arith, nat_tests) in
    rw far (rw (eq_self b) (rw (eq_self (b + length ks)) refl))

taken_full : (ks : List ℕ) (w b : ℕ) (kept : List KeptBlock) (blocks saved total : ℕ) → nat_eq (length (ks ++ w ∷ [])) total ≡ true
    → taken (record { kept = kept; blocks = blocks; reading = Taking (record { at = b; words = ks }) total; saved = saved }) (record { at = b; words = ks ++ w ∷ [] }) total
    ≡ record { kept = record { at = b; words = ks ++ w ∷ [] } ∷ take (blocks - 1) kept; blocks = blocks; reading = Idle; saved = saved }
taken_full ks w b kept blocks saved total e = rw e refl

pub taken_more : (ks : List ℕ) (w b : ℕ) (kept : List KeptBlock) (blocks saved total : ℕ) → nat_eq (length (ks ++ w ∷ [])) total ≡ false
    → taken (record { kept = kept; blocks = blocks; reading = Taking (record { at = b; words = ks }) total; saved = saved }) (record { at = b; words = ks ++ w ∷ [] }) total
    ≡ record { kept = kept; blocks = blocks; reading = Taking (record { at = b; words = ks ++ w ∷ [] }) total; saved = saved }
taken_more ks w b kept blocks saved total e = rw e refl

-- the rest of a block is read
all_taken : (w : ℕ) (ws : List ℕ) (b : ℕ) (ks : List ℕ) (kept : List KeptBlock) (blocks saved total : ℕ) → 1 ≤ length ks → length ks + suc (length ws) ≡ total
    → went_acts (record { kept = kept; blocks = blocks; reading = Taking (record { at = b; words = ks }) total; saved = saved }) (words_read b (length ks) (w ∷ ws))
    ≡ record { kept = record { at = b; words = ks ++ w ∷ ws } ∷ take (blocks - 1) kept; blocks = blocks; reading = Idle; saved = saved }
all_taken w [] b ks kept blocks saved total one long =
    let n = length-append ks (w ∷ []) in
    let full : nat_eq (length (ks ++ w ∷ [])) total ≡ true = grind (arith, nat_tests, n) in
    take_next b ks kept blocks saved total w one ∙ taken_full ks w b kept blocks saved total full
all_taken w (x ∷ ws) b ks kept blocks saved total one long =
    let n = length-append ks (w ∷ []) in
    let more : nat_eq (length (ks ++ w ∷ [])) total ≡ false = grind (arith, nat_tests, n) in
    let next : length ks + 1 ≡ length (ks ++ w ∷ []) = omega (arith, n) in
    ap (λ (c : Cache). went_acts c (words_read b (length ks + 1) (x ∷ ws))) (take_next b ks kept blocks saved total w one ∙ taken_more ks w b kept blocks saved total more)
    ∙ ap (λ i. went_acts (record { kept = kept; blocks = blocks; reading = Taking (record { at = b; words = ks ++ w ∷ [] }) total; saved = saved }) (words_read b i (x ∷ ws))) next
    ∙ all_taken x ws b (ks ++ w ∷ []) kept blocks saved total (omega arith) (omega arith)
    ∙ ap (λ vs. let c : Cache = record { kept = record { at = b; words = vs } ∷ take (blocks - 1) kept; blocks = blocks; reading = Idle; saved = saved } in c) (append_assoc ks (w ∷ []) (x ∷ ws))

-- a block that is not kept is read from its first word to its last, and kept
taken_first : (w x : ℕ) (ws : List ℕ) (b : ℕ) (kept : List KeptBlock) (blocks saved : ℕ) (reading : Reading) → found b kept ≡ None → block_length w ≡ suc (suc (length ws))
    → went_acts (record { kept = kept; blocks = blocks; reading = reading; saved = saved }) (words_read b 0 (w ∷ x ∷ ws))
    ≡ record { kept = record { at = b; words = w ∷ x ∷ ws } ∷ take (blocks - 1) kept; blocks = blocks; reading = Idle; saved = saved }
taken_first w x ws b kept blocks saved reading f long =
    ap (λ (c : Cache). went_acts c (words_read b 1 (x ∷ ws))) (take_word w b kept blocks saved reading f)
    ∙ all_taken x ws b (w ∷ []) kept blocks saved (block_length w) (omega arith) (omega arith)

-- the addresses of what is kept
pub among_found : (at : ℕ) (hs : List KeptBlock) → among at (addresses hs) ≡ is_some (found at hs)
among_found at [] = refl
among_found at (h ∷ hs) = by (nat_eq at h.at) (among_found at hs)
  where
    by : (v : Bool) → among at (addresses hs) ≡ is_some (found at hs) → cond v true (among at (addresses hs)) ≡ is_some (cond v (Some h) (found at hs))
    by true ih = refl
    by false ih = ih

apart_without : (at : ℕ) (hs : List KeptBlock) → addresses (without at hs) ≡ apart at (addresses hs)
apart_without at [] = refl
apart_without at (h ∷ hs) = by (nat_eq at h.at) (apart_without at hs)
  where
    by : (v : Bool) → addresses (without at hs) ≡ apart at (addresses hs) → addresses (cond v hs (h ∷ without at hs)) ≡ cond v (addresses hs) (h.at ∷ apart at (addresses hs))
    by true ih = refl
    by false ih = ap (λ xs. h.at ∷ xs) ih

taken_addresses : (n : ℕ) (hs : List KeptBlock) → addresses (take n hs) ≡ take n (addresses hs)
taken_addresses zero hs = refl
taken_addresses (suc n) [] = refl
taken_addresses (suc n) (h ∷ hs) = ap (λ xs. h.at ∷ xs) (taken_addresses n hs)

take_first : (n x : ℕ) (xs : List ℕ) → 1 ≤ n → take n (x ∷ xs) ≡ x ∷ take (n - 1) xs
take_first zero x xs h = absurd (omega arith)
take_first (suc n) x xs h = let e : suc n - 1 ≡ n = omega arith in ap (λ k. x ∷ take k xs) (sym e)

found_block : (at : ℕ) (hs : List KeptBlock) (h : KeptBlock) → found at hs ≡ Some h → h.at ≡ at
found_block at [] h e = absurd (cc)
found_block at (x ∷ hs) h e = by (nat_eq at x.at) refl (found_block at hs h) e
  where
    by : (v : Bool) → nat_eq at x.at ≡ v → (found at hs ≡ Some h → h.at ≡ at) → cond v (Some x) (found at hs) ≡ Some h → h.at ≡ at
    by true t ih is = let same : x ≡ h = cc in subst (λ (y : KeptBlock). y.at ≡ at) same (grind (arith, nat_tests))
    by false t ih is = ih is

-- one block reading: what is kept then, and what was saved. Each block has the same words at each reading
pub record ReadOne (words_of : ℕ → List ℕ) (c next : Cache) (reading : ℕ × List ℕ) : Type 0 where
  pub kept_so : addresses next.kept ≡ met c.blocks (addresses c.kept) reading.0
  pub blocks : next.blocks ≡ c.blocks
  pub saved : next.saved ≡ min (c.saved + saved_at (addresses c.kept) reading) (2 ^ 64 - 1)
  pub same : AllByRecursion (λ h. h.words ≡ words_of h.at) next.kept

one_found : (words_of : ℕ → List ℕ) (c : Cache) (h : KeptBlock) (w x : ℕ) (ws : List ℕ) → c.saved ≤ 2 ^ 64 - 1 → AllByRecursion (λ k. k.words ≡ words_of k.at) c.kept → found h.at c.kept ≡ Some h → length h.words ≡ suc (suc (length ws))
    → ReadOne words_of c (went_acts c (words_read h.at 0 (w ∷ x ∷ ws))) (h.at, w ∷ x ∷ ws)
one_found words_of c h w x ws few all f long =
    let e = served_first w (x ∷ ws) h c.kept c.blocks c.saved c.reading f (omega arith) few in
    let here : among h.at (addresses c.kept) ≡ true = among_found h.at c.kept ∙ ap (λ (o : Option KeptBlock). is_some o) f in
    let P : KeptBlock → Type 0 = λ k. k.words ≡ words_of k.at in
    subst (λ (n : Cache). ReadOne words_of c n (h.at, w ∷ x ∷ ws)) (sym e) (record {
      kept_so = rw here (ap (λ xs. h.at ∷ xs) (apart_without h.at c.kept));
      blocks = refl;
      saved = rw here refl;
      same = ((all_found P h.at c.kept h all f).0, all_without P h.at c.kept all);
    })

one_new : (words_of : ℕ → List ℕ) (c : Cache) (b w x : ℕ) (ws : List ℕ) → 1 ≤ c.blocks → c.saved ≤ 2 ^ 64 - 1 → AllByRecursion (λ k. k.words ≡ words_of k.at) c.kept → found b c.kept ≡ None → block_length w ≡ suc (suc (length ws)) → w ∷ x ∷ ws ≡ words_of b
    → ReadOne words_of c (went_acts c (words_read b 0 (w ∷ x ∷ ws))) (b, w ∷ x ∷ ws)
one_new words_of c b w x ws some few all f long is =
    let e = taken_first w x ws b c.kept c.blocks c.saved c.reading f long in
    let here : among b (addresses c.kept) ≡ false = among_found b c.kept ∙ ap (λ (o : Option KeptBlock). is_some o) f in
    let P : KeptBlock → Type 0 = λ k. k.words ≡ words_of k.at in
    subst (λ (n : Cache). ReadOne words_of c n (b, w ∷ x ∷ ws)) (sym e) (record {
      kept_so = rw here (ap (λ xs. b ∷ xs) (taken_addresses (c.blocks - 1) c.kept) ∙ sym (take_first c.blocks b (addresses c.kept) some));
      blocks = refl;
      saved = rw here (sym (min_none c.saved (2 ^ 64 - 1) few));
      same = (is, all_take P (c.blocks - 1) c.kept all);
    })

read_one : (words_of : ℕ → List ℕ) (c : Cache) (b : ℕ) (ws : List ℕ) → 1 ≤ c.blocks → c.saved ≤ 2 ^ 64 - 1 → AllByRecursion (λ k. k.words ≡ words_of k.at) c.kept → ws ≡ words_of b → HasShape ws → ReadOne words_of c (went_acts c (words_read b 0 ws)) (b, ws)
read_one words_of c b [] some few all is shape = let least = shape_least [] shape in absurd (omega arith)
read_one words_of c b (w ∷ []) some few all is shape = let least = shape_least (w ∷ []) shape in absurd (omega arith)
read_one words_of c b (w ∷ x ∷ ws) some few all is shape = by (found b c.kept) refl
  where
    by : (o : Option KeptBlock) → found b c.kept ≡ o → ReadOne words_of c (went_acts c (words_read b 0 (w ∷ x ∷ ws))) (b, w ∷ x ∷ ws)
    by None f = one_new words_of c b w x ws some few all f (sym shape.count) is
    by (Some h) f =
        let at = found_block b c.kept h f in
        let its = (all_found (λ k. k.words ≡ words_of k.at) b c.kept h all f).0 in
        let long : length h.words ≡ suc (suc (length ws)) = ap (λ (vs : List ℕ). length vs) (its ∙ ap words_of at ∙ sym is) in
        subst (λ n. ReadOne words_of c (went_acts c (words_read n 0 (w ∷ x ∷ ws))) (n, w ∷ x ∷ ws)) at (one_found words_of c h w x ws few all (ap (λ n. found n c.kept) at ∙ f) long)

min_over : (s a b m : ℕ) → min (min (s + a) m + b) m ≡ min (s + (a + b)) m
min_over s a b m = omega arith

-- what a cache is known to have after a whole reading
pub has_next : (words_of : ℕ → List ℕ) (c next : Cache) (r : ℕ × List ℕ) → HasWordsOf words_of c → ReadOne words_of c next r → HasWordsOf words_of next
has_next words_of c next r has one =
    let blocks = one.blocks in let count = one.saved in let some = has.some in
    record { some = omega arith; few = omega arith; same = one.same }

pub read_whole : (words_of : ℕ → List ℕ) (c : Cache) (r : ℕ × List ℕ) → HasWordsOf words_of c → IsWhole words_of r → ReadOne words_of c (went_acts c (words_read r.0 0 r.1)) r
read_whole words_of c r has is = read_one words_of c r.0 r.1 has.some has.few has.same is.0 is.1

-- a reading that is cut short: so far as it came, it is served or not, as the whole would be
served_part : (ws : List ℕ) (h : KeptBlock) (rest : List KeptBlock) (blocks saved i : ℕ) → 1 ≤ i → i + length ws ≤ length h.words → saved ≤ 2 ^ 64 - 1
    → (went_acts (record { kept = h ∷ rest; blocks = blocks; reading = cond (nat_lt i (length h.words)) (Serving i) Idle; saved = saved }) (words_read h.at i ws)).saved ≡ min (saved + length ws) (2 ^ 64 - 1)
served_part [] h rest blocks saved i one long few = sym (min_none saved (2 ^ 64 - 1) few)
served_part (w ∷ ws) h rest blocks saved i one long few =
    let under : nat_lt i (length h.words) ≡ true = grind (arith, nat_tests) in
    rw under (
    ap (λ (c : Cache). (went_acts c (words_read h.at (i + 1) ws)).saved) (serve_next h rest blocks saved i w one)
    ∙ served_part ws h rest blocks (min (saved + 1) (2 ^ 64 - 1)) (i + 1) (omega arith) (omega arith) (omega arith)
    ∙ min_more saved (length ws) (2 ^ 64 - 1))

taken_part : (ws : List ℕ) (b : ℕ) (ks : List ℕ) (kept : List KeptBlock) (blocks saved total : ℕ) → 1 ≤ length ks → length ks + length ws < total
    → (went_acts (record { kept = kept; blocks = blocks; reading = Taking (record { at = b; words = ks }) total; saved = saved }) (words_read b (length ks) ws)).saved ≡ saved
taken_part [] b ks kept blocks saved total one short = refl
taken_part (w ∷ ws) b ks kept blocks saved total one short =
    let n = length-append ks (w ∷ []) in
    let more : nat_eq (length (ks ++ w ∷ [])) total ≡ false = grind (arith, nat_tests, n) in
    let next : length ks + 1 ≡ length (ks ++ w ∷ []) = omega (arith, n) in
    ap (λ (c : Cache). (went_acts c (words_read b (length ks + 1) ws)).saved) (take_next b ks kept blocks saved total w one ∙ taken_more ks w b kept blocks saved total more)
    ∙ ap (λ i. (went_acts (record { kept = kept; blocks = blocks; reading = Taking (record { at = b; words = ks ++ w ∷ [] }) total; saved = saved }) (words_read b i ws)).saved) next
    ∙ taken_part ws b (ks ++ w ∷ []) kept blocks saved total (omega arith) (omega arith)

-- of a last reading the words that it came to are counted where its block is kept
pub cut_short : (c : Cache) (b : ℕ) (ws : List ℕ) (long : ℕ) → c.saved ≤ 2 ^ 64 - 1 → length ws < long → ((h : KeptBlock) → found b c.kept ≡ Some h → length h.words ≡ long) → ((w : ℕ) (rest : List ℕ) → ws ≡ w ∷ rest → block_length w ≡ long)
    → (went_acts c (words_read b 0 ws)).saved ≡ min (c.saved + saved_at (addresses c.kept) (b, ws)) (2 ^ 64 - 1)
cut_short c b [] long few short kept first = by (among b (addresses c.kept))
  where
    by : (v : Bool) → c.saved ≡ min (c.saved + cond v 0 0) (2 ^ 64 - 1)
    by true = sym (min_none c.saved (2 ^ 64 - 1) few)
    by false = sym (min_none c.saved (2 ^ 64 - 1) few)
cut_short c b (w ∷ ws) long few short kept first = by (found b c.kept) refl
  where
    by : (o : Option KeptBlock) → found b c.kept ≡ o → (went_acts c (words_read b 0 (w ∷ ws))).saved ≡ min (c.saved + saved_at (addresses c.kept) (b, w ∷ ws)) (2 ^ 64 - 1)
    by None f =
        let here : among b (addresses c.kept) ≡ false = among_found b c.kept ∙ ap (λ (o : Option KeptBlock). is_some o) f in
        let total = first w ws refl in
        rw here (
        ap (λ (x : Cache). (went_acts x (words_read b 1 ws)).saved) (take_word w b c.kept c.blocks c.saved c.reading f)
        ∙ taken_part ws b (w ∷ []) c.kept c.blocks c.saved (block_length w) (omega arith) (omega arith)
        ∙ sym (min_none c.saved (2 ^ 64 - 1) few))
    by (Some h) f =
        let here : among b (addresses c.kept) ≡ true = among_found b c.kept ∙ ap (λ (o : Option KeptBlock). is_some o) f in
        let at = found_block b c.kept h f in
        let n = kept h f in
        rw here (subst (λ x. (went_acts c (words_read x 0 (w ∷ ws))).saved ≡ min (c.saved + suc (length ws)) (2 ^ 64 - 1)) at (
        ap (λ (x : Cache). (went_acts x (words_read h.at 1 ws)).saved) (serve_first w h c.kept c.blocks c.saved c.reading (ap (λ k. found k c.kept) at ∙ f))
        ∙ served_part ws h (without h.at c.kept) c.blocks (min (c.saved + 1) (2 ^ 64 - 1)) 1 (omega arith) (omega arith) (omega arith)
        ∙ min_more c.saved (length ws) (2 ^ 64 - 1)))

-- the words of a block that were read are the first of a block that has so many
pub begun_first : (ws part rest : List ℕ) (w : ℕ) (more : List ℕ) → HasShape ws → part ++ rest ≡ ws → part ≡ w ∷ more → block_length w ≡ length ws
begun_first ws part rest w more shape e is =
    let same : (w ∷ more) ++ rest ≡ ws = ap (λ xs. xs ++ rest) (sym is) ∙ e in
    ap (λ xs. block_length (slice_index xs 0)) same ∙ sym shape.count

-- the number after a reading that may be cut short
part_saved : (words_of : ℕ → List ℕ) (c : Cache) (r : ℕ × List ℕ) → HasWordsOf words_of c → IsBegun words_of r
    → (went_acts c (words_read r.0 0 r.1)).saved ≡ min (c.saved + saved_at (addresses c.kept) r) (2 ^ 64 - 1)
part_saved words_of c r has is = by is.0.0 is.0.1
  where
    by : (rest : List ℕ) → r.1 ++ rest ≡ words_of r.0 → (went_acts c (words_read r.0 0 r.1)).saved ≡ min (c.saved + saved_at (addresses c.kept) r) (2 ^ 64 - 1)
    by [] e =
        let whole : r.1 ≡ words_of r.0 = sym (append-nil r.1) ∙ e in
        (read_whole words_of c r has (whole, subst HasShape (sym whole) is.1)).saved
    by (x ∷ rest) e =
        let long : length r.1 + suc (length rest) ≡ length (words_of r.0) = sym (length-append r.1 (x ∷ rest)) ∙ ap (λ (xs : List ℕ). length xs) e in
        cut_short c r.0 r.1 (length (words_of r.0)) has.few (omega (arith, long))
        (λ h f. let all = all_found (λ k. k.words ≡ words_of k.at) r.0 c.kept h has.same f in ap (λ (xs : List ℕ). length xs) (all.0 ∙ ap words_of all.1))
        (λ w more is_so. begun_first (words_of r.0) r.1 (x ∷ rest) w more is.1 e is_so)

-- the served words are counted as they are saved over the readings
counting : (words_of : ℕ → List ℕ) (readings : Readings) (c : Cache) → HasWordsOf words_of c → AreReadings words_of readings
    → (went_acts c (acts_of readings)).saved ≡ min (c.saved + saved_over c.blocks (addresses c.kept) readings) (2 ^ 64 - 1)
counting words_of [] c has are = sym (min_none c.saved (2 ^ 64 - 1) has.few)
counting words_of (r ∷ []) c has are =
    ap (λ acts. (went_acts c acts).saved) (append-nil (words_read r.0 0 r.1)) ∙ part_saved words_of c r has are
    ∙ ap (λ n. min (c.saved + n) (2 ^ 64 - 1)) (plus_none (saved_at (addresses c.kept) r))
counting words_of (r ∷ s ∷ readings) c has are =
    let next = went_acts c (words_read r.0 0 r.1) in
    let one = read_whole words_of c r has are.0 in
    let rest : Readings = s ∷ readings in
    ap (λ (n : Cache). n.saved) (went_append (words_read r.0 0 r.1) (acts_of rest) c)
    ∙ counting words_of (s ∷ readings) next (has_next words_of c next r has one) are.1
    ∙ ap (λ n. min (next.saved + saved_over n (addresses next.kept) rest) (2 ^ 64 - 1)) one.blocks
    ∙ ap (λ ats. min (next.saved + saved_over c.blocks ats rest) (2 ^ 64 - 1)) one.kept_so
    ∙ ap (λ n. min (n + saved_over c.blocks (met c.blocks (addresses c.kept) r.0) rest) (2 ^ 64 - 1)) one.saved
    ∙ min_over c.saved (saved_at (addresses c.kept) r) (saved_over c.blocks (met c.blocks (addresses c.kept) r.0) rest) (2 ^ 64 - 1)

-- the blocks kept are those of the list
keeping : (words_of : ℕ → List ℕ) (readings : Readings) (c : Cache) → HasWordsOf words_of c → AllByRecursion (IsWhole words_of) readings
    → addresses (went_acts c (acts_of readings)).kept ≡ met_over c.blocks (addresses c.kept) readings
keeping words_of [] c has are = refl
keeping words_of (r ∷ readings) c has are =
    let next = went_acts c (words_read r.0 0 r.1) in
    let one = read_whole words_of c r has are.0 in
    ap (λ (n : Cache). addresses n.kept) (went_append (words_read r.0 0 r.1) (acts_of readings) c)
    ∙ keeping words_of readings next (has_next words_of c next r has one) are.1
    ∙ ap (λ n. met_over n (addresses next.kept) readings) one.blocks
    ∙ ap (λ ats. met_over c.blocks ats readings) one.kept_so

-- acts that name no block change nothing
went_blocks : (acts : List (Act × ℕ)) (c : Cache) → went_acts c acts ≡ went_acts c (block_acts acts)
went_blocks [] c = refl
went_blocks ((do_verb None verb, answer) ∷ acts) c = went_blocks acts c
went_blocks ((do_verb (Some block) verb, answer) ∷ acts) c = went_blocks acts (went_act c (do_verb (Some block) verb) answer)
went_blocks ((ask_hash key, answer) ∷ acts) c = went_blocks acts c

pub counts_saved : CountsSaved
counts_saved words_of readings c acts has are is = ap (λ (n : Cache). n.saved) (went_blocks acts c ∙ ap (went_acts c) is) ∙ counting words_of readings c has are

pub keeps_met : KeepsMet
keeps_met words_of readings c acts has are is = ap (λ (n : Cache). addresses n.kept) (went_blocks acts c ∙ ap (went_acts c) is) ∙ keeping words_of readings c has are
