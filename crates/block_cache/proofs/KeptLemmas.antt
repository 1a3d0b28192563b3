-- What a block cache keeps stays published, and what it serves stands in the front.
use Rattle.std.specs.Prelude.{◌≡◌, ◌≢◌, ℕ, zero, suc, ◌+◌, ◌-◌, ◌<◌, ◌≤◌, Bool, true, false, cond, nat_eq, ◌&&◌, List, [], ◌∷◌, ◌++◌, length, take, slice_index, Option, Some, None, IfSome, is_some, refl}
use Rattle.std.proofs.Common.{sym, ◌∙◌, ap, subst, arith}
use Rattle.std.proofs.lemmas.Bool.Decides.{nat_tests}
use Rattle.std.specs.List.{AllByRecursion}
use Rattle.std.proofs.lemmas.List.{take_all, length-append, append-nil, append_assoc}
use Rattle.kv_block.specs.Packing.{block_length}
use Rattle.kv_block.proofs.Packed.{shape_least, shape_most}
use Rattle.verb_log.specs.declared.entry.Verb.{Verb}
use Rattle.verb_log.specs.declared.entry.Verb.TheVariants.{Read, Write, Swap}
use Rattle.verbs.specs.Programs.{Act, do_verb, ask_hash, Prog, ret, ask, next_act, next_verb, block_of}
use Rattle.verbs.proofs.Progs.{verb_act}
use Rattle.verbs.specs.Logs.{Entries, word, place_of}
use Rattle.verbs.specs.Safe.{Safe}
use Rattle.verbs.specs.Terms.{Terms, BlocksLast, ReadsBlock, Allowed, Step, told}
use Rattle.verbs.proofs.Safes.{published-step, told-more}
use Rattle.block_cache.specs.declared.recent.KeptBlock.{KeptBlock}
use Rattle.block_cache.specs.declared.reading.Reading.{Reading}
use Rattle.block_cache.specs.declared.reading.Reading.TheVariants.{Idle, Serving, Taking}
use Rattle.block_cache.specs.Recent.{first, found, without, with_first, to_front}
use Rattle.block_cache.specs.Cache.{Cache, HasWord, after_word, fronted, served, begun, with_word, taken, taken_by, next_if, next_of, next_in, went_act, went_acts, serves, done_by, done_of}
use Rattle.block_cache.specs.Keeps.{IsPublished, UnderWay, Keeps, ReadsIts}

-- lists of blocks
module _ (P : KeptBlock → Type 0) where
  pub all_found : (block : ℕ) (hs : List KeptBlock) (h : KeptBlock) → AllByRecursion P hs → found block hs ≡ Some h → P h × (h.at ≡ block)
  all_found block [] h a e = absurd (cc)
  all_found block (x ∷ hs) h a e = by (nat_eq block x.at) refl (all_found block hs h a.1) e
    where
      by : (v : Bool) → nat_eq block x.at ≡ v → (found block hs ≡ Some h → P h × (h.at ≡ block)) → cond v (Some x) (found block hs) ≡ Some h → P h × (h.at ≡ block)
      by true t ih is =
          let same : x ≡ h = cc in
          let at : x.at ≡ block = grind (arith, nat_tests) in
          (subst P same a.0, subst (λ y. y.at ≡ block) same at)
      by false t ih is = ih is

  pub all_without : (block : ℕ) (hs : List KeptBlock) → AllByRecursion P hs → AllByRecursion P (without block hs)
  all_without block [] a = tt
  all_without block (x ∷ hs) a = by (nat_eq block x.at) (all_without block hs a.1)
    where
      by : (v : Bool) → AllByRecursion P (without block hs) → AllByRecursion P (cond v hs (x ∷ without block hs))
      by true ih = a.1
      by false ih = (a.0, ih)

  pub all_front : (block : ℕ) (hs : List KeptBlock) → AllByRecursion P hs → AllByRecursion P (to_front block hs)
  all_front block hs a = by (found block hs) refl
    where
      by : (o : Option KeptBlock) → found block hs ≡ o → AllByRecursion P (with_first o block hs)
      by None e = a
      by (Some h) e = ((all_found block hs h a e).0, all_without block hs a)

  pub all_take : (n : ℕ) (hs : List KeptBlock) → AllByRecursion P hs → AllByRecursion P (take n hs)
  all_take zero hs a = tt
  all_take (suc n) [] a = tt
  all_take (suc n) (x ∷ hs) a = (a.0, all_take n hs a.1)

pub all_to : (P Q : KeptBlock → Type 0) → ((h : KeptBlock) → P h → Q h) → (hs : List KeptBlock) → AllByRecursion P hs → AllByRecursion Q hs
all_to P Q f [] a = tt
all_to P Q f (x ∷ hs) a = (f x a.0, all_to P Q f hs a.1)

-- the block that was found is the first then
pub front_found : (block : ℕ) (hs : List KeptBlock) → true ≡ is_some (found block hs) → (h : KeptBlock) × (found block hs ≡ Some h) × (first (to_front block hs) ≡ Some h)
front_found block hs e = by (found block hs) refl e
  where
    by : (o : Option KeptBlock) → found block hs ≡ o → true ≡ is_some o → (h : KeptBlock) × (found block hs ≡ Some h) × (first (with_first (found block hs) block hs) ≡ Some h)
    by None is t = absurd (cc)
    by (Some h) is t = (h, is, rw is refl)

pub first_word : (i : ℕ) (hs : List KeptBlock) (h : KeptBlock) → first hs ≡ Some h → i < length h.words → HasWord i hs
first_word i [] h e lt = absurd (cc)
first_word i (x ∷ hs) h e lt = let same : h ≡ x = cc in subst (λ (y : KeptBlock). i < length y.words) same lt

pub word_first : (i : ℕ) (hs : List KeptBlock) → HasWord i hs → (h : KeptBlock) × (first hs ≡ Some h) × (i < length h.words)
word_first i [] w = absurd w
word_first i (x ∷ hs) w = (x, refl, w)

pub all_first : (P : KeptBlock → Type 0) (hs : List KeptBlock) (h : KeptBlock) → AllByRecursion P hs → first hs ≡ Some h → P h
all_first P [] h a e = absurd (cc)
all_first P (x ∷ hs) h a e = let same : x ≡ h = cc in subst P same a.0

-- the word that is served next is at that address
pub next_is : (r : Reading) (hs : List KeptBlock) (h : KeptBlock) (block at next : ℕ) → first hs ≡ Some h → Some next ≡ next_in r hs block at → at ≡ h.at + next
next_is Idle hs h block at next e is = absurd (cc)
next_is (Taking held total) hs h block at next e is = absurd (cc)
next_is (Serving n) hs h block at next e is = by (nat_eq h.at block && nat_eq at (block + n)) refl (is ∙ ap (λ o. next_of o n block at) e)
  where
    by : (v : Bool) → (nat_eq h.at block && nat_eq at (block + n)) ≡ v → Some next ≡ next_if v n → at ≡ h.at + next
    by true t s = let same : next ≡ n = cc in grind (arith, nat_tests)
    by false t s = absurd (cc)

take_snoc : (i : ℕ) (ws : List ℕ) → i < length ws → take (suc i) ws ≡ take i ws ++ slice_index ws i ∷ []
take_snoc i [] h = absurd (omega arith)
take_snoc zero (w ∷ ws) h = refl
take_snoc (suc i) (w ∷ ws) h = ap (λ xs. w ∷ xs) (take_snoc i ws (omega arith))

one_more : (ws words : List ℕ) (word : ℕ) → ws ≡ take (length ws) words → length ws < length words → word ≡ slice_index words (length ws) → ws ++ word ∷ [] ≡ take (length (ws ++ word ∷ [])) words
one_more ws words word e lt is =
    let long : length (ws ++ word ∷ []) ≡ suc (length ws) = omega (arith, length-append ws (word ∷ [])) in
    ap (λ xs. xs ++ word ∷ []) e ∙ ap (λ w. take (length ws) words ++ w ∷ []) is ∙ sym (take_snoc (length ws) words lt) ∙ ap (λ n. take n words) (sym long)

read_at : (at block i : ℕ) → Read at ≡ Read (block + i) → at ≡ block + i
read_at at block i e = cc

module _ (t : Terms) (last : BlocksLast t) where
  -- a word of a published block, served where the front is
  pub serve_step : (l : Entries) (h : KeptBlock) (at i answer : ℕ) → t.grows l l → t.published l h.at h.words → i < length h.words → at ≡ h.at + i → answer ≡ slice_index h.words i → Step t l (Read at) l answer
  serve_step l h at i answer still pub_h lt is has = record {
    seen = l;
    longer = still;
    did = (refl, has ∙ sym (last.stands l h.at h.words pub_h i lt) ∙ ap (word t.geometry l) (sym is));
  }

  -- a word of a published block, read
  pub read_is : (l m : Entries) (block at i answer : ℕ) (words : List ℕ) → Step t l (Read at) m answer → t.published l block words → i < length words → at ≡ block + i → answer ≡ slice_index words i
  read_is l m block at i answer words s p lt is =
      s.did.1 ∙ ap (word t.geometry s.seen) is ∙ last.stands s.seen block words (last.among_others l s.seen block words s.longer p) i lt

  -- what was kept stays kept over a read
  pub blocks_read : (l m : Entries) (at answer : ℕ) (hs : List KeptBlock) → Step t l (Read at) m answer → AllByRecursion (IsPublished t l) hs → AllByRecursion (IsPublished t m) hs
  blocks_read l m at answer hs s a = all_to (IsPublished t l) (IsPublished t m) (λ h p. published-step t last l (Read at) m answer h.at h.words tt s p) hs a

  pub way_read : (l m : Entries) (verb : Verb) (answer : ℕ) (r : Reading) → Allowed t l verb → Step t l verb m answer → UnderWay t l r → UnderWay t m r
  way_read l m verb answer Idle al s u = tt
  way_read l m verb answer (Serving next) al s u = tt
  way_read l m verb answer (Taking held total) al s u = (u.0, published-step t last l verb m answer held.at u.0 al s u.1, u.2, u.3, u.4)

  -- over any verb
  pub keeps_step : (l m : Entries) (verb : Verb) (answer : ℕ) (c : Cache) → Allowed t l verb → Step t l verb m answer → Keeps t l c → Keeps t m c
  keeps_step l m verb answer c al s k = record {
    blocks = all_to (IsPublished t l) (IsPublished t m) (λ h p. published-step t last l verb m answer h.at h.words al s p) c.kept k.blocks;
    under_way = way_read l m verb answer c.reading al s k.under_way;
  }

  pub keeps_front : (l : Entries) (c : Cache) (block : ℕ) → Keeps t l c → Keeps t l (fronted c block)
  keeps_front l c block k = record { blocks = all_front (IsPublished t l) block c.kept k.blocks; under_way = tt }

  after_serving : (l : Entries) (v : Bool) (i : ℕ) → UnderWay t l (cond v (Serving (i + 1)) Idle)
  after_serving l true i = tt
  after_serving l false i = tt

  pub keeps_served : (l : Entries) (c : Cache) (i : ℕ) → Keeps t l c → Keeps t l (served c i)
  keeps_served l c i k = record { blocks = k.blocks; under_way = by (first c.kept) }
    where
      by : (o : Option KeptBlock) → UnderWay t l (after_word i o)
      by None = tt
      by (Some h) = after_serving l _ i

  -- the first word of a block was read
  pub first_read : (l m : Entries) (block at answer : ℕ) → Step t l (Read at) m answer → at ≡ block → (r : ReadsBlock t l block (Read at)) → (answer ≡ slice_index r.0 0) × (block_length answer ≡ length r.0)
  first_read l m block at answer s is r =
      let at_i = read_at at block r.2.0 r.2.2 in
      let lt = r.2.1 in
      let none : r.2.0 ≡ 0 = omega arith in
      let some : 0 < length r.0 = omega arith in
      let here : at ≡ block + 0 = omega arith in
      let w = read_is l m block at 0 answer r.0 s r.1 some here in
      (w, ap block_length w ∙ sym (last.shape l block r.0 r.1).count)

  pub begin_least : (l m : Entries) (block at answer : ℕ) → Step t l (Read at) m answer → at ≡ block → ReadsBlock t l block (Read at) → 2 ≤ block_length answer
  begin_least l m block at answer s is r = let e = (first_read l m block at answer s is r).1 in let k = shape_least r.0 (last.shape l block r.0 r.1) in subst (λ n. 2 ≤ n) (sym e) k

  pub begin_most : (l m : Entries) (block at answer : ℕ) → Step t l (Read at) m answer → at ≡ block → ReadsBlock t l block (Read at) → block_length answer ≤ 137
  begin_most l m block at answer s is r = let e = (first_read l m block at answer s is r).1 in let k = shape_most r.0 (last.shape l block r.0 r.1) in subst (λ n. n ≤ 137) (sym e) k

  one_word : (words : List ℕ) (w : ℕ) → 2 ≤ length words → w ≡ slice_index words 0 → w ∷ [] ≡ take (length (w ∷ [])) words
  one_word [] w h e = absurd (omega arith)
  one_word (x ∷ words) w h e = ap (λ y. y ∷ []) e

  pub keeps_begun : (l m : Entries) (c : Cache) (block at answer : ℕ) → Step t l (Read at) m answer → at ≡ block → ReadsBlock t l block (Read at) → Keeps t l c → Keeps t m (begun (fronted c block) block answer)
  keeps_begun l m c block at answer s is r k =
      let f = first_read l m block at answer s is r in
      let e = f.1 in
      let least = shape_least r.0 (last.shape l block r.0 r.1) in
      record {
        blocks = blocks_read l m at answer (to_front block c.kept) s (all_front (IsPublished t l) block c.kept k.blocks);
        under_way = (r.0, published-step t last l (Read at) m answer block r.0 tt s r.1, one_word r.0 answer least f.0, e, subst (λ n. 1 < n) (sym e) least);
      }

  -- a further word was read
  keeps_taken_more : (l m : Entries) (c : Cache) (held : KeptBlock) (total at answer : ℕ) → Step t l (Read at) m answer → at ≡ held.at + length held.words → UnderWay t l (Taking held total) → AllByRecursion (IsPublished t l) c.kept
      → (v : Bool) → nat_eq (length (held.words ++ answer ∷ [])) total ≡ v → Keeps t m (taken c (with_word held answer) total)
  keeps_taken_more l m c held total at answer s is u a true e =
      let total_is = u.3 in let lt = u.4 in
      let here : length held.words < length u.0 = omega arith in
      let w = read_is l m held.at at (length held.words) answer u.0 s u.1 here is in
      let more = one_more held.words u.0 answer u.2 here w in
      let full : length (held.words ++ answer ∷ []) ≡ length u.0 = grind (arith, nat_tests) in
      let whole : held.words ++ answer ∷ [] ≡ u.0 = more ∙ ap (λ n. take n u.0) full ∙ take_all (length u.0) u.0 (omega arith) in
      rw e (record {
        blocks = (subst (t.published m held.at) (sym whole) (published-step t last l (Read at) m answer held.at u.0 tt s u.1), all_take (IsPublished t m) (c.blocks - 1) c.kept (blocks_read l m at answer c.kept s a));
        under_way = tt;
      })
  keeps_taken_more l m c held total at answer s is u a false e =
      let total_is = u.3 in let lt = u.4 in
      let here : length held.words < length u.0 = omega arith in
      let w = read_is l m held.at at (length held.words) answer u.0 s u.1 here is in
      let long = length-append held.words (answer ∷ []) in
      let differs : length (held.words ++ answer ∷ []) ≢ total = grind (arith, nat_tests) in
      rw e (record {
        blocks = blocks_read l m at answer c.kept s a;
        under_way = (u.0, published-step t last l (Read at) m answer held.at u.0 tt s u.1, one_more held.words u.0 answer u.2 here w, u.3, omega arith);
      })

  pub keeps_taken : (l m : Entries) (c : Cache) (block at answer : ℕ) → Step t l (Read at) m answer → Keeps t l c → Keeps t m (taken_by c c.reading block at answer)
  keeps_taken l m c block at answer s k = by c.reading k.under_way
    where
      still : Keeps t m c
      still = keeps_step l m (Read at) answer c tt s k

      by : (r : Reading) → UnderWay t l r → Keeps t m (taken_by c r block at answer)
      by Idle u = still
      by (Serving next) u = still
      by (Taking held total) u = on (nat_eq held.at block && nat_eq at (block + length held.words)) refl
        where
          on : (v : Bool) → (nat_eq held.at block && nat_eq at (block + length held.words)) ≡ v → Keeps t m (cond v (taken c (with_word held answer) total) c)
          on true e = keeps_taken_more l m c held total at answer s (grind (arith, nat_tests)) u k.blocks _ refl
          on false e = still

  -- a kept block was made the most recent, and its first word is served
  pub record Fronted (l : Entries) (c : Cache) (block : ℕ) : Type 0 where
    pub held : KeptBlock
    pub first_is : first (to_front block c.kept) ≡ Some held
    pub published : t.published l held.at held.words
    pub at : held.at ≡ block
    pub some : 0 < length held.words

  pub fronting : (l : Entries) (c : Cache) (block : ℕ) → Keeps t l c → true ≡ is_some (found block c.kept) → Fronted l c block
  fronting l c block k e =
      let f = front_found block c.kept e in
      let p = all_found (IsPublished t l) block c.kept f.0 k.blocks f.1 in
      let least = shape_least (f.0).words (last.shape l (f.0).at (f.0).words p.0) in
      record { held = f.0; first_is = f.2; published = p.0; at = p.1; some = omega arith }

  pub fronted_word : (l : Entries) (c : Cache) (block : ℕ) → Keeps t l c → true ≡ is_some (found block c.kept) → HasWord 0 (to_front block c.kept)
  fronted_word l c block k e = let f = fronting l c block k e in first_word 0 (to_front block c.kept) f.held f.first_is f.some

  pub fronted_step : (l : Entries) (c : Cache) (block at answer : ℕ) → t.grows l l → Keeps t l c → true ≡ is_some (found block c.kept) → at ≡ block → IfSome (first (to_front block c.kept)) (λ held. answer ≡ slice_index held.words 0) → Step t l (Read at) l answer
  fronted_step l c block at answer still k e is w =
      let f = fronting l c block k e in
      let h = f.at in
      let place : at ≡ (f.held).at + 0 = omega arith in
      serve_step l f.held at 0 answer still f.published f.some place (let x = rw f.first_is at w in x)

  -- the next word of the most recent block is served
  pub next_step : (l : Entries) (c : Cache) (block at next answer : ℕ) → t.grows l l → Keeps t l c → HasWord next c.kept → Some next ≡ next_in c.reading c.kept block at → IfSome (first c.kept) (λ held. answer ≡ slice_index held.words next) → Step t l (Read at) l answer
  next_step l c block at next answer still k has e w =
      let f = word_first next c.kept has in
      serve_step l f.0 at next answer still (all_first (IsPublished t l) c.kept f.0 k.blocks f.1) f.2 (next_is c.reading c.kept f.0 block at next f.1 e) (let x = rw f.1 at w in x)

-- the verb of a safe program reads a word of the block that is said
pub safe_reads : {A : Type 0} (t : Terms) (hash : List ℕ → ℕ) (l : Entries) (p : Prog A) (End : Entries → A → Type 0) (block : Option ℕ) (verb : Verb) → t.grows l l → Some verb ≡ next_verb p → block ≡ block_of p → Safe t hash l p End → ReadsIts t l block verb
safe_reads t hash l (ret a) End block verb still e b h = absurd (cc)
safe_reads t hash l (ask (ask_hash key) k) End block verb still e b h = absurd (cc)
safe_reads t hash l (ask (do_verb None v) k) End block verb still e b h = subst (λ x. ReadsIts t l x verb) (sym b) tt
safe_reads t hash l (ask (do_verb (Some at) v) k) End block verb still e b h = subst (λ x. ReadsIts t l x verb) (sym b) (subst (ReadsBlock t l at) same (h.1 l still).0)
  where
    same : v ≡ verb
    same = cc

-- the act of a program whose verb is this
pub act_of : {A : Type 0} (p : Prog A) (block : Option ℕ) (verb : Verb) → Some verb ≡ next_verb p → block ≡ block_of p → next_act p ≡ Some (do_verb block verb)
act_of p block verb e b = verb_act p verb (sym e) ∙ ap (λ x. Some (do_verb x verb)) (sym b)

pub went_more : (c : Cache) (acts : List (Act × ℕ)) (act : Act) (answer : ℕ) → went_acts c (acts ++ (act, answer) ∷ []) ≡ went_act (went_acts c acts) act answer
went_more c [] act answer = refl
went_more c (x ∷ acts) act answer = went_more (went_act c x.0 x.1) acts act answer

-- a trace that goes on by nothing
pub told_nothing : (o : Option (List (Verb × ℕ))) → told o [] ≡ o
told_nothing None = refl
told_nothing (Some s) = ap (λ x. Some x) (append-nil s)

-- the trace after an act that was done or served
pub told_by : (c : Cache) (block : Option ℕ) (verb : Verb) (answer : ℕ) (old new : Option (List (Verb × ℕ))) → (serves c block verb ≡ true → new ≡ old) → (serves c block verb ≡ false → new ≡ told old ((verb, answer) ∷ [])) → new ≡ told old (done_by c (do_verb block verb) answer)
told_by c block verb answer old new same done = by (serves c block verb) same done
  where
    by : (v : Bool) → (v ≡ true → new ≡ old) → (v ≡ false → new ≡ told old ((verb, answer) ∷ [])) → new ≡ told old (cond v [] ((verb, answer) ∷ []))
    by true f g = f refl ∙ sym (told_nothing old)
    by false f g = g refl

pub done_more : (acts : List (Act × ℕ)) (c : Cache) (act : Act) (answer : ℕ) → done_of c (acts ++ (act, answer) ∷ []) ≡ done_of c acts ++ done_by (went_acts c acts) act answer
done_more [] c act answer = append-nil (done_by c act answer)
done_more (x ∷ acts) c act answer = ap (λ xs. done_by c x.0 x.1 ++ xs) (done_more acts (went_act c x.0 x.1) act answer) ∙ sym (append_assoc (done_by c x.0 x.1) (done_of (went_act c x.0 x.1) acts) (done_by (went_acts (went_act c x.0 x.1) acts) act answer))

-- the answer of a verb that is served is the word that stands there, where the log stays
pub served_stands : (t : Terms) (c : Cache) (l m : Entries) (block : Option ℕ) (verb : Verb) (answer : ℕ) → serves c block verb ≡ true → Step t l verb m answer → m ≡ l → answer ≡ word t.geometry l (place_of verb)
served_stands t c l m None verb answer is s same = absurd (cc)
served_stands t c l m (Some block) (Read at) answer is s same = s.did.1 ∙ ap (λ x. word t.geometry x at) (sym s.did.0 ∙ same)
served_stands t c l m (Some block) (Write at new) answer is s same = absurd (cc)
served_stands t c l m (Some block) (Swap at old new) answer is s same = absurd (cc)

-- the trace after acts and one act more
pub told_acts : (old now new : Option (List (Verb × ℕ))) (c next : Cache) (acts : List (Act × ℕ)) (act : Act) (answer : ℕ) → next ≡ went_acts c acts → now ≡ told old (done_of c acts) → new ≡ told now (done_by next act answer) → new ≡ told old (done_of c (acts ++ (act, answer) ∷ []))
told_acts old now new c next acts act answer cache before is =
    is ∙ ap (λ o. told o (done_by next act answer)) before ∙ told-more old (done_of c acts) (done_by next act answer)
    ∙ ap (λ x. told old (done_of c acts ++ done_by x act answer)) cache ∙ ap (told old) (sym (done_more acts c act answer))
