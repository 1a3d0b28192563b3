-- A memory that is closed.
use Rattle.std.specs.Prelude.{◌≡◌, ℕ, zero, suc, ◌<◌, Bool, true, List, [], ◌∷◌, map, length, Option, Some, None, IsSome, slice_get, refl}
use Rattle.std.specs.List.{AllByRecursion}
use Rattle.std.proofs.Common.{sym, ◌∙◌, ap, subst, inl, inr, ⊎_elim, arith}
use mathlib.Core.Option.{some, some-injective}
use lib.ListN.{get_elem?}
use Rattle.atomic_table.specs.Table.{State, Me}
use Rattle.atomic_table.specs.Seated.{TableId}
use Rattle.atomic_table.specs.declared.shared.Seat.{Seat as Token}
use Rattle.verb_log.specs.declared.entry.Entry.{Entry}
use Rattle.verb_log.specs.Replay.{replay}
use Rattle.verbs.specs.Logs.{Entries, MayStand, Begins}
use Rattle.race_laws.specs.Setting.{Setting}
use Rattle.race_laws.specs.Legal.{MayFollow}
use Rattle.log_facts.proofs.Growing.{stands_legal}
use Rattle.client_seat.specs.declared.view.Own.{Own}
use Rattle.client_seat.specs.declared.view.View.{View}
use Rattle.client_seat.specs.Views.{acting, kept}
use Rattle.client_seat.specs.Rule.{HasNumber, Numbered, Kept}
use Rattle.client_seat.specs.Plays.{IsSound}
use Rattle.client_seat.specs.Seated.{Home, Seated, seats_in, IsGiven}
use Rattle.client_seat.specs.Gathered.{own_of, IsAmong, Gathered}
use Rattle.client_seat.specs.Fronts.{traces_of, by_view, Keeps, IsClosed}
use Rattle.client_seat.proofs.Joins.{lengthened-met}
use Rattle.client_seat.proofs.Steps.{kept_in}

number-below : (s : Setting) (n : ℕ) (front rest : Entries) (acts : Bool) (own : List Own) (c : ℕ) → acts ≡ true → AllByRecursion (Numbered s n front rest acts) own → HasNumber own c → c < n
number-below s n front rest acts [] c on all h = absurd h
number-below s n front rest acts (o ∷ own) c on all h = ⊎_elim (λ e. subst (λ d. d < n) e (all.0.alone on).1) (λ k. number-below s n front rest acts own c on all.1 k) h

-- each seat has its number among these
number-at : (places : List (Option Seated)) (i : ℕ) (seat : Seated) → slice_get places i ≡ Some (Some seat) → HasNumber (map own_of (seats_in places)) seat.client
number-at [] i seat e = absurd (cc)
number-at (Some x ∷ places) zero seat e = inl (ap (λ (y : Seated). y.client) (same x seat e))
  where
    same : (x y : Seated) → Some (Some x) ≡ Some (Some y) → x ≡ y
    same x y e = cc
number-at (None ∷ places) zero seat e = absurd (cc)
number-at (Some x ∷ places) (suc i) seat e = inr (number-at places i seat e)
number-at (None ∷ places) (suc i) seat e = number-at places i seat e

seat-at : (places : List (Option Seated)) (i : ℕ) → AllByRecursion (λ o. IsSome o) places → i < length places → (seat : Seated) × (slice_get places i ≡ Some (Some seat))
seat-at [] i all low = absurd (omega arith)
seat-at (Some x ∷ places) zero all low = (x, refl)
seat-at (None ∷ places) zero all low = absurd (cc)
seat-at (x ∷ places) (suc i) all low = seat-at places i all.1 (omega arith)

pub numbers-all : (table : TableId) (me : Me ℕ View) (places : List (Option Seated)) → IsGiven table me places → AllByRecursion (λ o. IsSome o) places → (c : ℕ) → c < me.0.seats → HasNumber (map own_of (seats_in places)) c
numbers-all table me places h all c low =
    let long = h.all in
    let x = seat-at places c all (omega arith) in
    subst (HasNumber (map own_of (seats_in places))) (h.numbered c x.0 x.1).0 (number-at places c x.0 x.1)

pub homes-all : (home : Home) (places : List (Option Seated)) → ((i : ℕ) (seat : Seated) → slice_get places i ≡ Some (Some seat) → seat.home ≡ home) → AllByRecursion (λ seat. seat.home ≡ home) (seats_in places)
homes-all home [] h = tt
homes-all home (None ∷ places) h = homes-all home places (λ i seat e. h (suc i) seat e)
homes-all home (Some x ∷ places) h = (h zero x refl, homes-all home places (λ i seat e. h (suc i) seat e))

among-begins : (log l : Entries) (met : List Entries) → AllByRecursion (λ m. Begins m log) met → IsAmong l met → Begins l log
among-begins log l [] all h = absurd h
among-begins log l (m ∷ met) all h = ⊎_elim (λ e. subst (λ x. Begins x log) (sym e) all.0) (λ k. among-begins log l met all.1 k) h

keeps-all : (s : Setting) (n : ℕ) (log rest : Entries) (met : List Entries) (seats : List Seated) → MayStand (MayFollow s) log → AllByRecursion (λ m. Begins m log) met → AllByRecursion (Numbered s n log rest true) (map own_of seats)
    → AllByRecursion (λ seat. IsSound s n seat.front seat.client seat.trace) seats → AllByRecursion (λ seat. IsAmong seat.front met) seats → AllByRecursion (Keeps s log) seats
keeps-all s n log rest met [] legal begins own sound among = tt
keeps-all s n log rest met (seat ∷ seats) legal begins own sound among = (
  record {
    longer = lengthened-met s seat.client seat.trace seat.front log legal sound.0.trace own.0.trace (among-begins log seat.front met begins among.0);
    trace = own.0.trace;
  },
  keeps-all s n log rest met seats legal begins own.1 sound.1 among.1,
)

traces-all : (seats : List Seated) → traces_of (map own_of seats) ≡ map (λ (seat : Seated). seat.trace) seats
traces-all [] = refl
traces-all (seat ∷ seats) = ap (λ l. seat.trace ∷ l) (traces-all seats)

-- the token with all numbers has the longest front
module _ (s : Setting) (n id : ℕ) (front : Entries) (seats : List Seated) (met : List Entries) (all : (c : ℕ) → c < n → HasNumber (map own_of seats) c) (st : State ℕ View) (h : Kept s n st) (there : get_elem? st.views id ≡ some (acting s n front (map own_of seats) met)) where
  whole : front ≡ h.log
  whole =
      let top = h.top in
      let fit = h.fits top.place top.view top.there top.has.live in
      let low = number-below s n top.view.front fit.rest top.view.acts top.view.own top.number top.has.acts fit.own top.has.number in
      let place = sym (h.owned top.place top.view top.number top.there top.has) ∙ h.owned id (acting s n front (map own_of seats) met) top.number there (record { live = refl; acts = refl; number = all top.number low }) in
      ap (λ (v : View). v.front) (some-injective _ _ (sym there ∙ subst (λ i. get_elem? st.views i ≡ some top.view) place top.there)) ∙ top.whole

  closed : (table : TableId) → AllByRecursion (λ seat. IsSound s n seat.front seat.client seat.trace) seats → AllByRecursion (λ seat. IsAmong seat.front met) seats
      → IsClosed (record { table = table; setting = s; seats = n }) seats (by_view (kept (acting s n front (map own_of seats) met))) × (st.words ≡ replay s.geometry front)
  closed table sound among =
      let fit = h.fits id (acting s n front (map own_of seats) met) there refl in
      let legal = subst (MayStand (MayFollow s)) (sym whole) h.legal in
      let begins = subst (λ l. AllByRecursion (λ m. Begins m l) met) (sym whole) fit.met in (
        record {
          geometry = refl;
          ran = ap (λ traces. Some (record { listed = s.listed; traces = traces })) (traces-all seats);
          legal = stands_legal s front legal;
          known = subst (λ l. AllByRecursion (λ (e : Entry). e.client < n) l) (sym whole) h.known;
          each = keeps-all s n front fit.rest met seats legal begins fit.own sound among;
        },
        h.words ∙ ap (replay s.geometry) (sym whole),
      )

-- the words at the end, by the token that has gathered all seats
pub closes : (home : Home) (seats : List Seated) (token : Token ℕ View) (id : ℕ) (t : Setting) (m : ℕ) (st : State ℕ View) → Gathered home seats token → ((c : ℕ) → c < home.seats → HasNumber (map own_of seats) c) → Kept t m st → get_elem? st.views id ≡ some token.me.0
    → IsClosed home seats (by_view (kept token.me.0)) × (st.words ≡ replay home.setting.geometry token.me.0.front)
closes home seats token id t m st g all h there =
    let v = acting home.setting home.seats token.me.0.front (map own_of seats) token.me.0.met in
    let here : get_elem? st.views id ≡ some v = there ∙ ap (λ (x : Me ℕ View). some x.0) g.is in
    let fit = h.fits id v here refl in
    let h2 = kept_in t home.setting m home.seats st (sym fit.setting) (sym fit.seats) h in
    subst (λ (x : Me ℕ View). IsClosed home seats (by_view (kept x.0)) × (st.words ≡ replay home.setting.geometry x.0.front)) (sym g.is)
    (closed home.setting home.seats id token.me.0.front seats token.me.0.met all st h2 here home.table g.sound g.met)
