-- Each verb keeps the rule.
use Rattle.std.specs.Prelude.{◌≡◌, ◌≢◌, ℕ, ◌<◌, ◌==◌, cond, List, [], ◌∷◌, ◌++◌, length, refl, slice_index, slice_set}
use Rattle.std.proofs.Common.{sym, ◌∙◌, ap, subst, inl, ⊎_elim, append-nil, append_assoc}
use Rattle.std.proofs.lemmas.Bool.{cases_eq, eq-eqb, ne_eqb}
use Rattle.std.proofs.lemmas.List.{set-get_or}
use mathlib.Core.Option.{Option, some, none, some-injective}
use lib.ListN.{get_elem?}
use prog.Atomic.{either}
use Rattle.atomic_table.specs.Table.{State, Me, Act, keeps, Valid, stepped, carried_after, step, Allows}
use Rattle.atomic_table.proofs.Lists.{at_set, set_else, exchanged}
use Rattle.verb_log.specs.declared.entry.Verb.{Verb}
use Rattle.verb_log.specs.declared.entry.Verb.TheVariants.{Read, Write, Swap}
use Rattle.verb_log.specs.Replay.{replay}
use Rattle.verb_log.proofs.InOrder.{replay_push}
use Rattle.verbs.specs.Logs.{Entries, MayStand, Longer, Lengthened, Others, Did, change, word}
use Rattle.verbs.specs.Terms.{Allowed}
use Rattle.verbs.proofs.Growth.{may_stand-push, longer-others}
use Rattle.race_laws.specs.Setting.{Setting}
use Rattle.race_laws.specs.Legal.{MayFollow}
use Rattle.log_facts.specs.Among.{among}
use Rattle.client_seat.specs.declared.view.Deed.{Deed}
use Rattle.client_seat.specs.declared.view.Own.{Own}
use Rattle.client_seat.specs.declared.view.View.{View}
use Rattle.client_seat.specs.Traces.{made_in, IsTrace}
use Rattle.client_seat.specs.Views.{own_as, acting, seat_view, deeds_of}
use Rattle.client_seat.specs.Rule.{OfSeats, HasNumber, Fits, Has, Kept}
use Rattle.client_seat.specs.Plays.{Told, Loaded, Stored, Swapped, Compared}
use Rattle.client_seat.proofs.Traces.{made_in-own, trace-longer, trace-push}
use Rattle.client_seat.proofs.Views.{set_there, begins-longer, fits-longer}

of_seats-append : (n : ℕ) (l m : Entries) → OfSeats n l → OfSeats n m → OfSeats n (l ++ m)
of_seats-append n [] m a b = b
of_seats-append n (e ∷ l) m a b = (a.0, of_seats-append n l m a.1 b)

-- a token with one number, whose view stands at its place
module _ (s : Setting) (n : ℕ) (st : State ℕ View) (h : Kept s n st) (id : ℕ) (front : Entries) (c : ℕ) (deeds : List Deed) (met : List Entries) (there : get_elem? st.views id ≡ some (acting s n front (own_as c deeds ∷ []) met)) where
  fits : Fits s n h.log (acting s n front (own_as c deeds ∷ []) met)
  fits = h.fits id (acting s n front (own_as c deeds ∷ []) met) there refl

  place : h.owner c ≡ id
  place = h.owned id (acting s n front (own_as c deeds ∷ []) met) c there (record { live = refl; acts = refl; number = inl refl })

  others : Others c fits.rest
  others = (fits.own.0.alone refl).0

  few : c < n
  few = (fits.own.0.alone refl).1

  lengthened : Lengthened (MayFollow s) c front h.log
  lengthened = (h.legal, subst (Longer (MayFollow s) c front) (sym fits.grows) (longer-others (MayFollow s) c front fits.rest (subst (MayStand (MayFollow s)) fits.grows h.legal) others))

  whole_trace : IsTrace s.geometry h.log c deeds
  whole_trace = subst (λ l. IsTrace s.geometry l c deeds) (sym fits.grows) (trace-longer s.geometry front fits.rest c deeds fits.own.0.trace others)

  -- the numbers of other tokens are others
  apart : (i : ℕ) (v : View) (d : ℕ) → get_elem? st.views i ≡ some v → i ≢ id → Has v d → c ≢ d
  apart i v d e not has same = not (sym (h.owned i v d e has) ∙ ap h.owner (sym same) ∙ place)

  -- the token has the longest front, with its own entries
  moves : (mine : Entries) → ((d : ℕ) → c ≢ d → Others d mine) → OfSeats n mine → (new : List Deed) → IsTrace s.geometry (h.log ++ mine) c new → (ws : List ℕ) (hs : List (Option ℕ)) → MayStand (MayFollow s) (h.log ++ mine) → ws ≡ replay s.geometry (h.log ++ mine)
      → Kept s n (record { words = ws; homes = hs; views = slice_set st.views id (seat_view s n (h.log ++ mine) c new) })
  moves mine alone known new trace ws hs legal words = record {
    log = h.log ++ mine;
    legal = legal;
    known = of_seats-append n h.log mine h.known known;
    words = words;
    fits = λ i v e live. ⊎_elim
        (λ x. subst (Fits s n (h.log ++ mine)) x.1 (record { rest = []; grows = sym (append-nil (h.log ++ mine)); setting = refl; seats = refl; own = (record { trace = trace; alone = λ a. (tt, few) }, tt); met = tt }))
        (λ x. fits-longer s n h.log mine v (λ d a k. alone d (apart i v d x.1 x.0 (record { live = live; acts = a; number = k }))) (h.fits i v x.1 live))
        (at_set st.views id i (seat_view s n (h.log ++ mine) c new) v e);
    owner = h.owner;
    owned = λ i v d e has. ⊎_elim
        (λ x. ⊎_elim (λ same. ap h.owner (sym same) ∙ place ∙ sym x.0) (λ none. absurd none) (subst (λ (w : View). HasNumber w.own d) (sym x.1) has.number))
        (λ x. h.owned i v d x.1 has)
        (at_set st.views id i (seat_view s n (h.log ++ mine) c new) v e);
    held = λ d low.
        let x = h.held d low in
        ⊎_elim
        (λ same.
        let is : acting s n front (own_as c deeds ∷ []) met ≡ x.view = some-injective _ _ (sym there ∙ subst (λ i. get_elem? st.views i ≡ some x.view) same x.there) in
        record {
          view = seat_view s n (h.log ++ mine) c new;
          there = subst (λ i. get_elem? (slice_set st.views id (seat_view s n (h.log ++ mine) c new)) i ≡ some (seat_view s n (h.log ++ mine) c new)) (sym same) (set_there st.views id _ _ there);
          has = record { live = refl; acts = refl; number = subst (λ (w : View). HasNumber w.own d) (sym is) x.has.number };
        })
        (λ differs. record { view = x.view; there = set_else st.views id (h.owner d) (seat_view s n (h.log ++ mine) c new) differs ∙ x.there; has = x.has })
        (cases_eq (h.owner d) id);
    top = record { place = id; view = seat_view s n (h.log ++ mine) c new; there = set_there st.views id _ _ there; number = c; has = record { live = refl; acts = refl; number = inl refl }; whole = refl };
  }

  -- the verb was done on the longest front
  told : (verb : Verb) (answer : ℕ) (mine : Entries) → Did s.geometry c h.log verb (h.log ++ mine) answer → MayStand (MayFollow s) (h.log ++ mine)
      → IsTrace s.geometry (h.log ++ mine) c (deeds ++ record { verb = verb; answer = answer; position = length h.log } ∷ [])
      → Told verb (acting s n front (own_as c deeds ∷ []) met) answer (seat_view s n (h.log ++ mine) c (deeds ++ record { verb = verb; answer = answer; position = length h.log } ∷ []))
  told verb answer mine did legal trace = record {
    next = h.log ++ mine;
    step = record { seen = h.log; longer = lengthened; did = did };
    begins = (fits.rest ++ mine, ap (λ x. x ++ mine) fits.grows ∙ append_assoc front fits.rest mine);
    is = refl;
    sound = record { legal = legal; trace = trace; few = few };
  }

  stays : MayStand (MayFollow s) (h.log ++ [])
  stays = subst (MayStand (MayFollow s)) (sym (append-nil h.log)) h.legal

  same_words : (at : ℕ) → slice_set st.words at (slice_index st.words at) ≡ replay s.geometry (h.log ++ [])
  same_words at = set-get_or st.words at 0 ∙ h.words ∙ ap (replay s.geometry) (sym (append-nil h.log))

  new_words : (at new : ℕ) → slice_set st.words at new ≡ replay s.geometry (h.log ++ change s.geometry c h.log at new ∷ [])
  new_words at new = ap (λ (ws : List ℕ). slice_set ws at new) h.words ∙ sym (replay_push s.geometry h.log (change s.geometry c h.log at new))

  stands : (at : ℕ) → slice_index st.words at ≡ word s.geometry h.log at
  stands at = ap (λ (ws : List ℕ). slice_index ws at) h.words

  own_entry : (at new : ℕ) → (at, new) ∷ [] ≡ made_in c (change s.geometry c h.log at new ∷ [])
  own_entry at new = sym (made_in-own c (change s.geometry c h.log at new) [] refl)

  pushed : (at new : ℕ) → MayFollow s h.log (change s.geometry c h.log at new) → MayStand (MayFollow s) (h.log ++ change s.geometry c h.log at new ∷ [])
  pushed at new may = may_stand-push (MayFollow s) h.log (change s.geometry c h.log at new) h.legal may

pub loads : (s : Setting) (n slots id : ℕ) (front : Entries) (c : ℕ) (deeds : List Deed) (at : ℕ) → Allows (Kept s n) slots id (seat_view s n front c deeds, []) at (λ x. x) (Loaded (step slots at 0 0 none) (seat_view s n front c deeds, []))
loads s n slots id front c deeds at st h long there low =
    let answer = slice_index st.words at in
    let trace = trace-push s.geometry h.log [] c deeds (Read at) answer (whole_trace s n st h id front c deeds [] there) (stands s n st h id front c deeds [] there at) refl in (
      seat_view s n (h.log ++ []) c (deeds ++ record { verb = Read at; answer = answer; position = length h.log } ∷ []),
      keeps,
      tt,
      moves s n st h id front c deeds [] there [] (λ d a. tt) tt _ trace _ st.homes (stays s n st h id front c deeds [] there) (same_words s n st h id front c deeds [] there at),
      (told s n st h id front c deeds [] there (Read at) answer [] (append-nil h.log, stands s n st h id front c deeds [] there at) (stays s n st h id front c deeds [] there) trace, refl),
    )

pub stores : (s : Setting) (n slots id : ℕ) (front : Entries) (c : ℕ) (deeds : List Deed) (at new : ℕ) → Allowed (among s c) front (Write at new)
    → Allows (Kept s n) slots id (seat_view s n front c deeds, []) at (λ x. new) (λ x. Stored (step slots at new 0 none) (seat_view s n front c deeds, []) new)
stores s n slots id front c deeds at new rule st h long there low =
    let e = change s.geometry c h.log at new in
    let legal = pushed s n st h id front c deeds [] there at new (rule h.log (lengthened s n st h id front c deeds [] there)) in
    let trace = trace-push s.geometry h.log (e ∷ []) c deeds (Write at new) 0 (whole_trace s n st h id front c deeds [] there) tt (own_entry s n st h id front c deeds [] there at new) in (
      seat_view s n (h.log ++ e ∷ []) c (deeds ++ record { verb = Write at new; answer = 0; position = length h.log } ∷ []),
      keeps,
      tt,
      moves s n st h id front c deeds [] there (e ∷ []) (λ d a. (a, tt)) (few s n st h id front c deeds [] there, tt) _ trace _ st.homes legal (new_words s n st h id front c deeds [] there at new),
      (told s n st h id front c deeds [] there (Write at new) 0 (e ∷ []) (refl, refl) legal trace, refl),
    )

pub swaps : (s : Setting) (n slots id : ℕ) (front : Entries) (c : ℕ) (deeds : List Deed) (at old new : ℕ) → Allowed (among s c) front (Swap at old new)
    → Allows (Kept s n) slots id (seat_view s n front c deeds, []) at (λ x. either (x == old) new x) (Swapped (step slots at old new none) (seat_view s n front c deeds, []))
swaps s n slots id front c deeds at old new rule st h long there low =
    let answer = slice_index st.words at in
    let stood = stands s n st h id front c deeds [] there at in
    let whole = whole_trace s n st h id front c deeds [] there in
    let e = change s.geometry c h.log at new in
    exchanged answer old new
    (λ x. (w : View) × (a : Act ℕ) × Valid st.homes [] a × Kept s n (stepped st at x id [] w a) × Swapped (step slots at old new none) (seat_view s n front c deeds, []) answer (w, carried_after [] a))
    (λ is.
    let legal = pushed s n st h id front c deeds [] there at new (rule h.log (lengthened s n st h id front c deeds [] there) (sym stood ∙ is)) in
    let trace = trace-push s.geometry h.log (e ∷ []) c deeds (Swap at old new) answer whole stood (ap (λ b. cond b ((at, new) ∷ []) []) (eq-eqb answer old is) ∙ own_entry s n st h id front c deeds [] there at new) in (
      seat_view s n (h.log ++ e ∷ []) c (deeds ++ record { verb = Swap at old new; answer = answer; position = length h.log } ∷ []),
      keeps,
      tt,
      moves s n st h id front c deeds [] there (e ∷ []) (λ d a. (a, tt)) (few s n st h id front c deeds [] there, tt) _ trace _ st.homes legal (new_words s n st h id front c deeds [] there at new),
      (told s n st h id front c deeds [] there (Swap at old new) answer (e ∷ []) (stood, (λ same. refl), (λ not. absurd (not (sym stood ∙ is)))) legal trace, refl),
    ))
    (λ not.
    let legal = stays s n st h id front c deeds [] there in
    let trace = trace-push s.geometry h.log [] c deeds (Swap at old new) answer whole stood (ap (λ b. cond b ((at, new) ∷ []) []) (ne_eqb answer old not)) in (
      seat_view s n (h.log ++ []) c (deeds ++ record { verb = Swap at old new; answer = answer; position = length h.log } ∷ []),
      keeps,
      tt,
      moves s n st h id front c deeds [] there [] (λ d a. tt) tt _ trace _ st.homes legal (same_words s n st h id front c deeds [] there at),
      (told s n st h id front c deeds [] there (Swap at old new) answer [] (stood, (λ same. absurd (not (stood ∙ same))), (λ no. append-nil h.log)) legal trace, refl),
    ))

-- after a meeting: what was met begins the longest front
pub compares : (s : Setting) (n slots id : ℕ) (front : Entries) (c : ℕ) (deeds : List Deed) (met : List Entries) (at : ℕ) → Allows (Kept s n) slots id (acting s n front (own_as c deeds ∷ []) met, []) at (λ x. x) (Compared (step slots at 0 0 none) (acting s n front (own_as c deeds ∷ []) met, []))
compares s n slots id front c deeds met at st h long there low =
    let f = fits s n st h id front c deeds met there in
    let trace = subst (λ l. IsTrace s.geometry l c deeds) (sym (append-nil h.log)) (whole_trace s n st h id front c deeds met there) in (
      seat_view s n (h.log ++ []) c deeds,
      keeps,
      tt,
      moves s n st h id front c deeds met there [] (λ d a. tt) tt deeds trace _ st.homes (stays s n st h id front c deeds met there) (same_words s n st h id front c deeds met there at),
      (
        record {
          next = h.log ++ [];
          is = refl;
          sound = record { legal = stays s n st h id front c deeds met there; trace = trace; few = few s n st h id front c deeds met there };
          met = begins-longer h.log [] met f.met;
        },
        refl,
      ),
    )

-- the rule speaks of the setting that the view has
pub kept_in : (s t : Setting) (n m : ℕ) (st : State ℕ View) → s ≡ t → n ≡ m → Kept s n st → Kept t m st
kept_in s t n m st e f h = subst (λ x. Kept x m st) e (subst (λ x. Kept s x st) f h)

allows_in : (s t : Setting) (n m slots id : ℕ) (front : Entries) (own : List Own) (met : List Entries) (at : ℕ) (f : ℕ → ℕ) (Then : ℕ → Me ℕ View → Type 0) → Allows (Kept s n) slots id (acting s n front own met, []) at f Then → Allows (Kept t m) slots id (acting s n front own met, []) at f Then
allows_in s t n m slots id front own met at f Then a st h long there low =
    let fit = h.fits id (acting s n front own met) there refl in
    let x = a st (kept_in t s m n st (sym fit.setting) (sym fit.seats) h) long there low in
    (x.0, x.1, x.2, kept_in s t n m (stepped st at (f (slice_index st.words at)) id [] x.0 x.1) fit.setting fit.seats x.3, x.4)

-- the steps of a token that is known to be a seat's
module _ (t : Setting) (m slots id : ℕ) (me : Me ℕ View) (c : ℕ) (is : me ≡ (seat_view me.0.setting me.0.seats me.0.front c (deeds_of me.0), [])) (at : ℕ) where
  pub loads_as : Allows (Kept t m) slots id me at (λ x. x) (Loaded (step slots at 0 0 none) me)
  loads_as = subst (λ y. Allows (Kept t m) slots id y at (λ x. x) (Loaded (step slots at 0 0 none) y)) (sym is)
      (allows_in me.0.setting t me.0.seats m slots id me.0.front (own_as c (deeds_of me.0) ∷ []) [] at (λ x. x) (Loaded (step slots at 0 0 none) (seat_view me.0.setting me.0.seats me.0.front c (deeds_of me.0), []))
      (loads me.0.setting me.0.seats slots id me.0.front c (deeds_of me.0) at))

  pub stores_as : (new : ℕ) → Allowed (among me.0.setting c) me.0.front (Write at new) → Allows (Kept t m) slots id me at (λ x. new) (λ x. Stored (step slots at new 0 none) me new)
  stores_as new rule = subst (λ y. Allows (Kept t m) slots id y at (λ x. new) (λ x. Stored (step slots at new 0 none) y new)) (sym is)
      (allows_in me.0.setting t me.0.seats m slots id me.0.front (own_as c (deeds_of me.0) ∷ []) [] at (λ x. new) (λ x. Stored (step slots at new 0 none) (seat_view me.0.setting me.0.seats me.0.front c (deeds_of me.0), []) new)
      (stores me.0.setting me.0.seats slots id me.0.front c (deeds_of me.0) at new rule))

  pub swaps_as : (old new : ℕ) → Allowed (among me.0.setting c) me.0.front (Swap at old new) → Allows (Kept t m) slots id me at (λ x. either (x == old) new x) (Swapped (step slots at old new none) me)
  swaps_as old new rule = subst (λ y. Allows (Kept t m) slots id y at (λ x. either (x == old) new x) (Swapped (step slots at old new none) y)) (sym is)
      (allows_in me.0.setting t me.0.seats m slots id me.0.front (own_as c (deeds_of me.0) ∷ []) [] at (λ x. either (x == old) new x) (Swapped (step slots at old new none) (seat_view me.0.setting me.0.seats me.0.front c (deeds_of me.0), []))
      (swaps me.0.setting me.0.seats slots id me.0.front c (deeds_of me.0) at old new rule))

-- after a meeting, by what the token then knows
pub compares_as : (t : Setting) (m slots id : ℕ) (me : Me ℕ View) (at : ℕ) (c : ℕ) (deeds : List Deed) → me ≡ (acting me.0.setting me.0.seats me.0.front (own_as c deeds ∷ []) me.0.met, []) → Allows (Kept t m) slots id me at (λ x. x) (Compared (step slots at 0 0 none) me)
compares_as t m slots id me at c deeds is = subst (λ y. Allows (Kept t m) slots id y at (λ x. x) (Compared (step slots at 0 0 none) y)) (sym is)
    (allows_in me.0.setting t me.0.seats m slots id me.0.front (own_as c deeds ∷ []) me.0.met at (λ x. x) (Compared (step slots at 0 0 none) (acting me.0.setting me.0.seats me.0.front (own_as c deeds ∷ []) me.0.met, []))
    (compares me.0.setting me.0.seats slots id me.0.front c deeds me.0.met at))
