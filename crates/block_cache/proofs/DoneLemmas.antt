-- Of block readings the reads that are done as verbs are those that are left to do.
use Rattle.std.specs.Prelude.{◌≡◌, ℕ, suc, ◌+◌, ◌-◌, ◌^◌, ◌≤◌, Bool, true, false, cond, nat_eq, nat_lt, min, List, [], ◌∷◌, ◌++◌, length, Option, Some, None, is_some, refl}
use Rattle.std.proofs.Common.{sym, ◌∙◌, ap, subst, arith}
use Rattle.std.proofs.lemmas.Bool.Decides.{nat_tests}
use Rattle.std.proofs.lemmas.List.{length-append, append-nil, append_assoc}
use Rattle.kv_block.specs.Packing.{HasShape, block_length}
use Rattle.verb_log.specs.declared.entry.Verb.TheVariants.{Read}
use Rattle.verbs.specs.Programs.{Act, do_verb}
use Rattle.block_cache.specs.declared.recent.KeptBlock.{KeptBlock}
use Rattle.block_cache.specs.declared.reading.Reading.TheVariants.{Idle, Serving, Taking}
use Rattle.block_cache.specs.Recent.{found, without}
use Rattle.block_cache.specs.Cache.{Cache, served, begun, went_act, went_acts, serves, done_by, done_of}
use Rattle.block_cache.specs.Saved.{Readings, among, words_read, acts_of, reads_of, left_at, left_over, addresses, HasWordsOf, DoesLeft}
use Rattle.block_cache.proofs.KeptLemmas.{all_found}
use Rattle.block_cache.proofs.SavedLemmas.{eq_self, serve_next, serve_first, take_word, take_next, taken_more, among_found, begun_first, has_next, read_whole}

pub done_append : (xs ys : List (Act × ℕ)) (c : Cache) → done_of c (xs ++ ys) ≡ done_of c xs ++ done_of (went_acts c xs) ys
done_append [] ys c = refl
done_append (x ∷ xs) ys c =
    ap (λ zs. done_by c x.0 x.1 ++ zs) (done_append xs ys (went_act c x.0 x.1))
    ∙ sym (append_assoc (done_by c x.0 x.1) (done_of (went_act c x.0 x.1) xs) (done_of (went_acts (went_act c x.0 x.1) xs) ys))

-- a read that is served, and the cache then
done_none : (c next : Cache) (block at word : ℕ) (acts : List (Act × ℕ)) → serves c (Some block) (Read at) ≡ true → went_act c (do_verb (Some block) (Read at)) word ≡ next
    → done_of c ((do_verb (Some block) (Read at), word) ∷ acts) ≡ done_of next acts
done_none c next block at word acts is goes =
    ap (λ v. cond v [] ((Read at, word) ∷ []) ++ done_of (went_act c (do_verb (Some block) (Read at)) word) acts) is ∙ ap (λ n. done_of n acts) goes

-- a read that is done, and the cache then
done_one : (c next : Cache) (block at word : ℕ) (acts : List (Act × ℕ)) → serves c (Some block) (Read at) ≡ false → went_act c (do_verb (Some block) (Read at)) word ≡ next
    → done_of c ((do_verb (Some block) (Read at), word) ∷ acts) ≡ (Read at, word) ∷ done_of next acts
done_one c next block at word acts is goes =
    ap (λ v. cond v [] ((Read at, word) ∷ []) ++ done_of (went_act c (do_verb (Some block) (Read at)) word) acts) is ∙ ap (λ n. (Read at, word) ∷ done_of n acts) goes

-- the next word of a block that is being served
serves_next : (h : KeptBlock) (rest : List KeptBlock) (blocks saved i : ℕ) → 1 ≤ i
    → serves (record { kept = h ∷ rest; blocks = blocks; reading = Serving i; saved = saved }) (Some h.at) (Read (h.at + i)) ≡ true
serves_next h rest blocks saved i one =
    let far : nat_eq (h.at + i) h.at ≡ false = grind (arith, nat_tests) in
    rw far (rw (eq_self h.at) (rw (eq_self (h.at + i)) refl))

-- the first word of a block
serves_first : (b : ℕ) (c : Cache) (v : Bool) → is_some (found b c.kept) ≡ v → serves c (Some b) (Read (b + 0)) ≡ v
serves_first b c v e =
    let near : nat_eq (b + 0) b ≡ true = grind (arith, nat_tests) in
    rw near e

-- a further word of a block that is being read
serves_taking : (b : ℕ) (ks : List ℕ) (kept : List KeptBlock) (blocks saved total : ℕ) → 1 ≤ length ks
    → serves (record { kept = kept; blocks = blocks; reading = Taking (record { at = b; words = ks }) total; saved = saved }) (Some b) (Read (b + length ks)) ≡ false
serves_taking b ks kept blocks saved total one =
    let far : nat_eq (b + length ks) b ≡ false = grind (arith, nat_tests) in
    rw far refl

-- the further words of a block that is kept are served
none_done : (ws : List ℕ) (h : KeptBlock) (rest : List KeptBlock) (blocks saved i : ℕ) → 1 ≤ i → i + length ws ≤ length h.words
    → done_of (record { kept = h ∷ rest; blocks = blocks; reading = cond (nat_lt i (length h.words)) (Serving i) Idle; saved = saved }) (words_read h.at i ws) ≡ []
none_done [] h rest blocks saved i one long = refl
none_done (w ∷ ws) h rest blocks saved i one long =
    let under : nat_lt i (length h.words) ≡ true = grind (arith, nat_tests) in
    let now : Cache = record { kept = h ∷ rest; blocks = blocks; reading = Serving i; saved = saved } in
    rw under (
    done_none now (served now i) h.at (h.at + i) w (words_read h.at (i + 1) ws) (serves_next h rest blocks saved i one) (serve_next h rest blocks saved i w one)
    ∙ none_done ws h rest blocks (min (saved + 1) (2 ^ 64 - 1)) (i + 1) (omega arith) (omega arith))

-- the further words of a block that is not kept are read
all_done : (ws : List ℕ) (b : ℕ) (ks : List ℕ) (kept : List KeptBlock) (blocks saved total : ℕ) → 1 ≤ length ks → length ks + length ws ≤ total
    → done_of (record { kept = kept; blocks = blocks; reading = Taking (record { at = b; words = ks }) total; saved = saved }) (words_read b (length ks) ws) ≡ reads_of b (length ks) ws
all_done [] b ks kept blocks saved total one long = refl
all_done (w ∷ []) b ks kept blocks saved total one long =
    let now : Cache = record { kept = kept; blocks = blocks; reading = Taking (record { at = b; words = ks }) total; saved = saved } in
    done_one now (went_act now (do_verb (Some b) (Read (b + length ks))) w) b (b + length ks) w [] (serves_taking b ks kept blocks saved total one) refl
all_done (w ∷ x ∷ ws) b ks kept blocks saved total one long =
    let n = length-append ks (w ∷ []) in
    let more : nat_eq (length (ks ++ w ∷ [])) total ≡ false = grind (arith, nat_tests, n) in
    let next : length ks + 1 ≡ length (ks ++ w ∷ []) = omega (arith, n) in
    let now : Cache = record { kept = kept; blocks = blocks; reading = Taking (record { at = b; words = ks }) total; saved = saved } in
    let then : Cache = record { kept = kept; blocks = blocks; reading = Taking (record { at = b; words = ks ++ w ∷ [] }) total; saved = saved } in
    done_one now then b (b + length ks) w (words_read b (length ks + 1) (x ∷ ws)) (serves_taking b ks kept blocks saved total one)
    (take_next b ks kept blocks saved total w one ∙ taken_more ks w b kept blocks saved total more)
    ∙ ap (λ i. (Read (b + length ks), w) ∷ done_of then (words_read b i (x ∷ ws))) next
    ∙ ap (λ zs. (Read (b + length ks), w) ∷ zs) (all_done (x ∷ ws) b (ks ++ w ∷ []) kept blocks saved total (omega arith) (omega (arith, n)))
    ∙ ap (λ i. (Read (b + length ks), w) ∷ reads_of b i (x ∷ ws)) (sym next)

-- a block that is kept is served
done_kept : (w : ℕ) (ws : List ℕ) (h : KeptBlock) (c : Cache) → found h.at c.kept ≡ Some h → suc (length ws) ≤ length h.words → done_of c (words_read h.at 0 (w ∷ ws)) ≡ []
done_kept w ws h c f long =
    done_none c (record { kept = h ∷ without h.at c.kept; blocks = c.blocks; reading = cond (nat_lt 1 (length h.words)) (Serving 1) Idle; saved = min (c.saved + 1) (2 ^ 64 - 1) })
    h.at (h.at + 0) w (words_read h.at 1 ws) (serves_first h.at c true (ap (λ (o : Option KeptBlock). is_some o) f)) (serve_first w h c.kept c.blocks c.saved c.reading f)
    ∙ none_done ws h (without h.at c.kept) c.blocks (min (c.saved + 1) (2 ^ 64 - 1)) 1 (omega arith) (omega arith)

-- a block that is not kept is read
done_new : (w : ℕ) (ws : List ℕ) (b : ℕ) (c : Cache) → found b c.kept ≡ None → suc (length ws) ≤ block_length w → done_of c (words_read b 0 (w ∷ ws)) ≡ reads_of b 0 (w ∷ ws)
done_new w ws b c f long =
    done_one c (begun c b w) b (b + 0) w (words_read b 1 ws) (serves_first b c false (ap (λ (o : Option KeptBlock). is_some o) f)) (take_word w b c.kept c.blocks c.saved c.reading f)
    ∙ ap (λ zs. (Read (b + 0), w) ∷ zs) (all_done ws b (w ∷ []) c.kept c.blocks c.saved (block_length w) (omega arith) (omega arith))

-- one reading, which may be cut short
done_part : (words_of : ℕ → List ℕ) (c : Cache) (b : ℕ) (part rest : List ℕ) → HasWordsOf words_of c → part ++ rest ≡ words_of b → HasShape (words_of b)
    → done_of c (words_read b 0 part) ≡ left_at (addresses c.kept) (b, part)
done_part words_of c b [] rest has e shape = by (among b (addresses c.kept))
  where
    by : (v : Bool) → [] ≡ cond v [] (reads_of b 0 [])
    by true = refl
    by false = refl
done_part words_of c b (w ∷ ws) rest has e shape = by (found b c.kept) refl
  where
    long : suc (length ws) ≤ length (words_of b)
    long = let n = length-append (w ∷ ws) rest in let same : length ((w ∷ ws) ++ rest) ≡ length (words_of b) = ap (λ (xs : List ℕ). length xs) e in omega (arith, n, same)

    by : (o : Option KeptBlock) → found b c.kept ≡ o → done_of c (words_read b 0 (w ∷ ws)) ≡ left_at (addresses c.kept) (b, w ∷ ws)
    by None f =
        let here : among b (addresses c.kept) ≡ false = among_found b c.kept ∙ ap (λ (o : Option KeptBlock). is_some o) f in
        let total = begun_first (words_of b) (w ∷ ws) rest w ws shape e refl in
        let fits = long in
        rw here (done_new w ws b c f (omega (arith, total, fits)))
    by (Some h) f =
        let here : among b (addresses c.kept) ≡ true = among_found b c.kept ∙ ap (λ (o : Option KeptBlock). is_some o) f in
        let its = all_found (λ k. k.words ≡ words_of k.at) b c.kept h has.same f in
        let count : length h.words ≡ length (words_of b) = ap (λ (xs : List ℕ). length xs) (its.0 ∙ ap words_of its.1) in
        let fits = long in
        rw here (subst (λ n. done_of c (words_read n 0 (w ∷ ws)) ≡ []) its.1 (done_kept w ws h c (ap (λ n. found n c.kept) its.1 ∙ f) (omega (arith, count, fits))))

pub does_left : DoesLeft
does_left words_of [] c has are = refl
does_left words_of (r ∷ []) c has are =
    ap (done_of c) (append-nil (words_read r.0 0 r.1)) ∙ done_part words_of c r.0 r.1 are.0.0 has are.0.1 are.1 ∙ sym (append-nil (left_at (addresses c.kept) r))
does_left words_of (r ∷ s ∷ readings) c has are =
    let next = went_acts c (words_read r.0 0 r.1) in
    let one = read_whole words_of c r has are.0 in
    let rest : Readings = s ∷ readings in
    let whole = are.0.0 in
    done_append (words_read r.0 0 r.1) (acts_of rest) c
    ∙ ap (λ zs. zs ++ done_of next (acts_of rest)) (done_part words_of c r.0 r.1 [] has (append-nil r.1 ∙ whole) (subst HasShape whole are.0.1))
    ∙ ap (λ zs. left_at (addresses c.kept) r ++ zs) (does_left words_of (s ∷ readings) next (has_next words_of c next r has one) are.1)
    ∙ ap (λ n. left_at (addresses c.kept) r ++ left_over n (addresses next.kept) rest) one.blocks
    ∙ ap (λ ats. left_at (addresses c.kept) r ++ left_over c.blocks ats rest) one.kept_so
