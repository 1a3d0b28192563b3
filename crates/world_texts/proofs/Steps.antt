-- What one verb of a client makes of a safe call.
use Rattle.std.specs.Prelude.{◌≡◌, ◌≢◌, ℕ, zero, suc, ◌<◌, ◌≤◌, List, length, Option, Some, None, refl}
use Rattle.std.proofs.Common.{subst, arith}
use Rattle.key_hash.specs.Placing.{placed}
use Rattle.kv_block.specs.declared.changes.Change.{Change}
use Rattle.verb_log.specs.declared.entry.Verb.{Verb}
use Rattle.verbs.specs.Logs.{Entries, Did, MayStand, Lengthened, place_of}
use Rattle.verbs.specs.Terms.{Terms, ReadsBlock, MayDo}
use Rattle.verbs.proofs.Safes.{MayDo-may, MayDo-map, May-did, May-left, left-stands, left-lengthened}
use Rattle.verbs.proofs.Growth.{lengthened-same, lengthened-then}
use Rattle.race_laws.specs.Setting.{Setting}
use Rattle.race_laws.specs.Legal.{MayFollow}
use Rattle.log_facts.specs.Among.{among, changes_of}
use Rattle.call_texts.specs.State.{CallEnd}
use Rattle.world_texts.specs.Sorts.{Sort, place_in, chosen, onward}
use Rattle.world_texts.specs.Safety.{Ends, SafeCall}

-- one verb of a client made m of l
pub record Grew (s : Setting) (c : ℕ) (l m : Entries) : Type 0 where
  pub stands : MayStand (MayFollow s) m
  pub others : (i : ℕ) → i ≢ c → Lengthened (MayFollow s) i l m

-- the end, and the other case
ends_none : (o : Option CallEnd) (End : CallEnd → Type 0) (On : Type 0) → o ≡ None → Ends o End On → On
ends_none None End On e h = h
ends_none (Some d) End On e h = absurd (cc)

ends_some : (o : Option CallEnd) (End : CallEnd → Type 0) (On : Type 0) (d : CallEnd) → o ≡ Some d → Ends o End On → End d
ends_some None End On d e h = absurd (cc)
ends_some (Some z) End On d e h = subst End (is e) h
  where
    is : Some z ≡ Some d → z ≡ d
    is e = cc

ends_on : (o : Option CallEnd) (End : CallEnd → Type 0) (On : Type 0) → o ≡ None → On → Ends o End On
ends_on None End On e h = h
ends_on (Some d) End On e h = absurd (cc)

ends_map : (o : Option CallEnd) (End : CallEnd → Type 0) (On Next : Type 0) → (On → Next) → Ends o End On → Ends o End Next
ends_map None End On Next f h = f h
ends_map (Some d) End On Next f h = h

-- a verb that may be done and names a block reads a word of it
named_reads : (t : Terms) (m : Entries) (o : Option ℕ) (block : ℕ) (verb : Verb) (Then : Entries → ℕ → Type 0) → o ≡ Some block → MayDo t m o verb Then → ReadsBlock t m block verb
named_reads t m None block verb Then e h = absurd (cc)
named_reads t m (Some at) block verb Then e h = subst (λ x. ReadsBlock t m x verb) (same e) h.0
  where
    same : Some at ≡ Some block → at ≡ block
    same e = cc

-- what an end asks of the changes before the last verb, of the log and of what the call comes to
abbrev pub Asked : Type 1
Asked = List Change → Entries → CallEnd → Type 0

module _ (k : Sort) (s : Setting) (c : ℕ) (End : Asked) where
  -- what is left of a safe call after its verb
  pub record Stepped (n : ℕ) (l m : Entries) (q : k.Text) : Type 0 where
    pub left : ℕ
    pub count : n ≡ suc left
    pub grew : Grew s c l m
    pub safe : SafeCall k s c left (changes_of s l) m q End

  pub safe_step : (n : ℕ) (before : List Change) (l m : Entries) (p : k.Text) (choice : ℕ) (verb : Verb) (w : ℕ) → MayStand (MayFollow s) l → SafeCall k s c n before l p End → k.answer p ≡ None → chosen (k.outstanding p) choice ≡ Some verb → Did s.geometry c l verb m w → Stepped n l m (onward k (placed s.listed) p choice w)
  safe_step zero before l m p choice verb w st h none e d = absurd (ends_none (k.answer p) (End before l) ⊥ none h)
  safe_step (suc n) before l m p choice verb w st h none e d =
      let on = ends_none (k.answer p) (End before l) _ none h in
      let i = place_in (k.outstanding p) choice in
      let may = MayDo-may (among s c) l (k.block p i) verb (λ q word. SafeCall k s c n (changes_of s l) q (onward k (placed s.listed) p choice word) End) ((on.2 i verb e).1 l (lengthened-same (MayFollow s) c l st)) in
      let left = May-left (among s c) l verb (λ q word. SafeCall k s c n (changes_of s l) q (onward k (placed s.listed) p choice word) End) m w may d in
      record {
        left = n;
        count = refl;
        grew = record { stands = left-stands (among s c) l m st left; others = λ i apart. left-lengthened (among s c) l m i apart st left };
        safe = May-did (among s c) l verb (λ q word. SafeCall k s c n (changes_of s l) q (onward k (placed s.listed) p choice word) End) m w may d;
      }

  -- while it has not ended a verb of it is outstanding
  pub safe_some : (n : ℕ) (before : List Change) (l : Entries) (p : k.Text) → SafeCall k s c n before l p End → k.answer p ≡ None → 1 ≤ length (k.outstanding p)
  safe_some zero before l p h none = absurd (ends_none (k.answer p) (End before l) ⊥ none h)
  safe_some (suc n) before l p h none = (ends_none (k.answer p) (End before l) _ none h).1

  -- the place of an outstanding verb
  pub safe_place : (n : ℕ) (before : List Change) (l : Entries) (p : k.Text) (choice : ℕ) (verb : Verb) → SafeCall k s c n before l p End → k.answer p ≡ None → chosen (k.outstanding p) choice ≡ Some verb → place_of verb < s.geometry.words
  safe_place zero before l p choice verb h none e = absurd (ends_none (k.answer p) (End before l) ⊥ none h)
  safe_place (suc n) before l p choice verb h none e = ((ends_none (k.answer p) (End before l) _ none h).2 (place_in (k.outstanding p) choice) verb e).0

  -- an outstanding verb that names a block reads a word of it, which is published, whatever others have added
  pub safe_reads : (n : ℕ) (before : List Change) (l m : Entries) (p : k.Text) (choice block : ℕ) (verb : Verb) → SafeCall k s c n before l p End → k.answer p ≡ None → chosen (k.outstanding p) choice ≡ Some verb
      → k.block p (place_in (k.outstanding p) choice) ≡ Some block → Lengthened (MayFollow s) c l m → ReadsBlock (among s c) m block verb
  safe_reads zero before l m p choice block verb h none e named b = absurd (ends_none (k.answer p) (End before l) ⊥ none h)
  safe_reads (suc n) before l m p choice block verb h none e named b =
      let i = place_in (k.outstanding p) choice in
      let End_on : Entries → ℕ → Type 0 = λ q word. SafeCall k s c n (changes_of s m) q (k.completed (placed s.listed) p i word) End in
      named_reads (among s c) m (k.block p i) block verb End_on named (((ends_none (k.answer p) (End before l) _ none h).2 i verb e).1 m b)

  -- others' entries leave a call that goes on safe
  pub safe_longer : (n : ℕ) (l m : Entries) (p : k.Text) → Lengthened (MayFollow s) c l m → k.answer p ≡ None → SafeCall k s c n (changes_of s l) l p End → SafeCall k s c n (changes_of s m) m p End
  safe_longer zero l m p b none h = absurd (ends_none (k.answer p) (End (changes_of s l) l) ⊥ none h)
  safe_longer (suc n) l m p b none h =
      let on = ends_none (k.answer p) (End (changes_of s l) l) _ none h in
      ends_on (k.answer p) (End (changes_of s m) m) _ none (refl, on.1, λ i v e. ((on.2 i v e).0, λ x d. (on.2 i v e).1 x (lengthened-then (MayFollow s) c l m x b d)))

  -- where the call has ended its end holds
  pub safe_end : (n : ℕ) (before : List Change) (l : Entries) (p : k.Text) (d : CallEnd) → k.answer p ≡ Some d → SafeCall k s c n before l p End → End before l d
  safe_end zero before l p d e h = ends_some (k.answer p) (End before l) ⊥ d e h
  safe_end (suc n) before l p d e h = ends_some (k.answer p) (End before l) _ d e h

  -- where it has not, its verb changed nothing, and it is safe from here on, with verbs left
  pub record GoesOn (n : ℕ) (before : List Change) (l : Entries) (p : k.Text) : Type 0 where
    pub quiet : changes_of s l ≡ before
    pub safe : SafeCall k s c n (changes_of s l) l p End
    pub some : 1 ≤ n

  pub safe_on : (n : ℕ) (before : List Change) (l : Entries) (p : k.Text) → k.answer p ≡ None → SafeCall k s c n before l p End → GoesOn n before l p
  safe_on zero before l p e h = absurd (ends_none (k.answer p) (End before l) ⊥ e h)
  safe_on (suc n) before l p e h =
      let on = ends_none (k.answer p) (End before l) _ e h in
      record { quiet = on.0; safe = ends_on (k.answer p) (End (changes_of s l) l) _ e (refl, on.1, on.2); some = omega arith }

  -- more verbs may be allowed
  pub safe_more : (n most : ℕ) (before : List Change) (l : Entries) (p : k.Text) → n ≤ most → SafeCall k s c n before l p End → SafeCall k s c most before l p End
  safe_more zero zero before l p few h = h
  safe_more zero (suc most) before l p few h = ends_map (k.answer p) (End before l) ⊥ _ (λ z. absurd z) h
  safe_more (suc n) zero before l p few h = absurd (omega arith)
  safe_more (suc n) (suc most) before l p few h = ends_map (k.answer p) (End before l) _ _ (λ on. (
    on.0,
    on.1,
    λ i v e. (
      (on.2 i v e).0,
      λ y b.
          MayDo-map (among s c) y (k.block p i) v (λ q w. SafeCall k s c n (changes_of s y) q (k.completed (placed s.listed) p i w) End) (λ q w. SafeCall k s c most (changes_of s y) q (k.completed (placed s.listed) p i w) End)
          (λ q w z. safe_more n most (changes_of s y) q (k.completed (placed s.listed) p i w) (omega arith) z) ((on.2 i v e).1 y b),
    ),
  )) h
