-- The places of each client's records, record by record.
use Rattle.std.proofs.Common.{◌≡◌, ◌≢◌, ℕ, zero, suc, ◌+◌, ◌<◌, ◌≤◌, ◌⊎◌, inl, inr, Bool, true, false, List, [], ◌∷◌, ◌++◌, length, take, drop, map, filter, Option, Some, None, slice_get, slice_set, get_or, cond, refl, sym, ap, subst, ◌∙◌, arith, append_assoc, append-nil, eq-eqb, ne_eqb}
use Rattle.std.proofs.lemmas.List.{take_more, take_all}
use Rattle.std.proofs.lemmas.List.Elements.{filter-append}
use Rattle.std.proofs.lemmas.Option.{slice_get_within, slice_get_read, slice_get-get_or}
use Rattle.std.specs.Option.{option_to_list}
use Rattle.item_list.specs.RoomyList.{RoomyList}
use Rattle.item_list.proofs.Pieces.{get_or-there, drop-step}
use Rattle.map_model.specs.declared.records.Record.{Record}
use Rattle.map_model.proofs.Filtered.{append_all}
use Rattle.play_report.specs.declared.report.Line.{Line}
use Rattle.play_lines.specs.PlayLines.{answered_line, open_lines, lines_from, is_of, records_at, AreOf, AreEmpty, AreListed}

-- an element of a list of which one was set
set_at : {A : Type 0} (l : List A) (i j : ℕ) (a b : A) → slice_get (slice_set l i a) j ≡ Some b → ((j ≡ i) × (a ≡ b)) ⊎ ((j ≢ i) × (slice_get l j ≡ Some b))
set_at [] i j a b e = absurd (cc)
set_at (x ∷ l) zero zero a b e = inl (refl, (cc))
set_at (x ∷ l) zero (suc j) a b e = inr ((λ same. omega (arith, same)), e)
set_at (x ∷ l) (suc i) zero a b e = inr ((λ same. omega (arith, same)), e)
set_at (x ∷ l) (suc i) (suc j) a b e = by (set_at l i j a b e)
  where
    by : ((j ≡ i) × (a ≡ b)) ⊎ ((j ≢ i) × (slice_get l j ≡ Some b)) → ((suc j ≡ suc i) × (a ≡ b)) ⊎ ((suc j ≢ suc i) × (slice_get l j ≡ Some b))
    by (inl (same, is)) = inl (ap suc same, is)
    by (inr (other, is)) = inr ((λ same. other (omega (arith, same))), is)

-- with no record there is no place
pub listed-none : (records : List Record) (lists : List (RoomyList ℕ)) → AreEmpty lists → AreListed records 0 lists
listed-none records [] h client own is = absurd (cc)
listed-none records (list ∷ lists) h zero own is = subst (λ places. AreOf records 0 zero places) (sym h.0 ∙ ap items same) (record { within = tt; named = refl })
  where
    items : RoomyList ℕ → List ℕ
    items l = l.items

    same : list ≡ own
    same = cc
listed-none records (list ∷ lists) h (suc client) own is = of-client (listed-none records lists h.1 client own is)
  where
    of-client : AreOf records 0 client own.items → AreOf records 0 (suc client) own.items
    of-client known = record { within = known.within; named = known.named }

-- the records at places, and one place more
at-more : (records : List Record) (places : List ℕ) (place : ℕ) (r : Record) → slice_get records place ≡ Some r → records_at records (places ++ place ∷ []) ≡ records_at records places ++ r ∷ []
at-more records [] place r there = ap (λ o. option_to_list o ++ []) there
at-more records (p ∷ places) place r there =
    ap (λ rs. option_to_list (slice_get records p) ++ rs) (at-more records places place r there)
    ∙ sym (append_assoc (option_to_list (slice_get records p)) (records_at records places) (r ∷ []))

filter-more : (client : ℕ) (rs : List Record) (r : Record) (t : Bool) → is_of client r ≡ t → filter (is_of client) (rs ++ r ∷ []) ≡ filter (is_of client) rs ++ cond t (r ∷ []) []
filter-more client rs r t is = filter-append (is_of client) rs (r ∷ []) ∙ ap (λ (b : Bool). filter (is_of client) rs ++ cond b (r ∷ []) []) is

-- one record more
taken : (records : List Record) (count client : ℕ) (r : Record) (t : Bool) → slice_get records count ≡ Some r → is_of client r ≡ t
    → filter (is_of client) (take (count + 1) records) ≡ filter (is_of client) (take count records) ++ cond t (r ∷ []) []
taken records count client r t there is =
    ap (filter (is_of client)) (take_more records count r (slice_get_within records count r there) ∙ ap (λ s. take count records ++ s ∷ []) (sym (get_or-there records count r there)))
    ∙ filter-more client (take count records) r t is

of-other : (records : List Record) (count client : ℕ) (places : List ℕ) (r : Record) → slice_get records count ≡ Some r → r.client ≢ client → AreOf records count client places → AreOf records (count + 1) client places
of-other records count client places r there other before = record {
  within = before.within;
  named = before.named ∙ sym (taken records count client r false there (ne_eqb r.client client other) ∙ append-nil _);
}

of-own : (records : List Record) (count client : ℕ) (places : List ℕ) (r : Record) → slice_get records count ≡ Some r → r.client ≡ client → AreOf records count client places → AreOf records (count + 1) client (places ++ count ∷ [])
of-own records count client places r there own before = record {
  within = append_all (λ place. place < length records) places (count ∷ []) before.within (slice_get_within records count r there, tt);
  named = at-more records places count r there ∙ ap (λ rs. rs ++ r ∷ []) before.named ∙ sym (taken records count client r true there (eq-eqb r.client client own));
}

-- the record's client has its place
pub listed-own : (records : List Record) (lists : List (RoomyList ℕ)) (count : ℕ) (r : Record) (own more : RoomyList ℕ) → slice_get records count ≡ Some r → slice_get lists r.client ≡ Some own
    → more.items ≡ own.items ++ count ∷ [] → AreListed records count lists → AreListed records (count + 1) (slice_set lists r.client more)
listed-own records lists count r own more there own-is pushed before client list is = by (set_at lists r.client client more list is)
  where
    items : RoomyList ℕ → List ℕ
    items l = l.items

    by : ((client ≡ r.client) × (more ≡ list)) ⊎ ((client ≢ r.client) × (slice_get lists client ≡ Some list)) → AreOf records (count + 1) client list.items
    by (inl (same, is-list)) =
        subst (AreOf records (count + 1) client) (sym pushed ∙ ap items is-list)
        (of-own records count client own.items r there (sym same) (subst (λ n. AreOf records count n own.items) (sym same) (before r.client own own-is)))
    by (inr (other, got)) = of-other records count client list.items r there (λ e. other (sym e)) (before client list got)

-- a record of no client that has a list
pub listed-past : (records : List Record) (lists : List (RoomyList ℕ)) (count : ℕ) (r : Record) → slice_get records count ≡ Some r → length lists ≤ r.client → AreListed records count lists → AreListed records (count + 1) lists
listed-past records lists count r there past before client list is =
    let within = slice_get_within lists client list is in
    of-other records count client list.items r there (λ e. omega (arith, e, within, past)) (before client list is)

-- all records
pub listed-whole : (records : List Record) (lists : List (RoomyList ℕ)) (count : ℕ) → count ≡ length records → AreListed records count lists → AreListed records (length records) lists
listed-whole records lists count all = subst (λ n. AreListed records n lists) all

-- an element below the length is there
pub element-there : {X : Type 0} (xs : List X) (i : ℕ) → i < length xs → (x : X) × (slice_get xs i ≡ Some x)
element-there [] i low = absurd (omega arith)
element-there (x ∷ xs) zero low = (x, refl)
element-there (x ∷ xs) (suc i) low = element-there xs i (omega arith)

-- a place was pushed to the list of the record's client
pub listed-pushed : (records : List Record) (lists after : List (RoomyList ℕ)) (count client : ℕ) (r : Record) (own more : RoomyList ℕ) → slice_get records count ≡ Some r → client ≡ r.client → client < length lists
    → own ≡ get_or lists client own → more.items ≡ own.items ++ count ∷ [] → after ≡ slice_set lists client more → AreListed records count lists → AreListed records (count + 1) after
listed-pushed records lists after count client r own more there same low read pushed set before =
    subst (AreListed records (count + 1)) (sym (set ∙ ap (λ n. slice_set lists n more) same))
    (listed-own records lists count r own more there (subst (λ n. slice_get lists n ≡ Some own) same (slice_get_read lists (length lists) client own refl low read)) pushed before)

-- one client more has its lines
pub client-done : (records : List Record) (unfinished : List (Option ℕ)) (client : ℕ) (before between after all : List Line) (places : List ℕ) → client < length unfinished → AreOf records (length records) client places
    → between ≡ before ++ map answered_line (records_at records places) → after ≡ between ++ open_lines client (get_or unfinished client None)
    → before ++ lines_from client (drop client unfinished) records ≡ all → after ++ lines_from (client + 1) (drop (client + 1) unfinished) records ≡ all
client-done records unfinished client before between after all places low own answered opened so-far =
    let number : Option ℕ = get_or unfinished client None in
    let calls : List Line = map answered_line (records_at records places) in
    let open-call : List Line = open_lines client number in
    let rest : List Line = lines_from (client + 1) (drop (client + 1) unfinished) records in
    let lines : calls ≡ map answered_line (filter (is_of client) records) =
    ap (map answered_line) (own.named ∙ ap (filter (is_of client)) (take_all (length records) records (omega arith))) in
    let next : drop client unfinished ≡ number ∷ drop (client + 1) unfinished = drop-step unfinished client number (slice_get-get_or unfinished client None low) in
    ap (λ ls. ls ++ rest) (opened ∙ ap (λ ls. ls ++ open-call) answered ∙ append_assoc before calls open-call)
    ∙ append_assoc before (calls ++ open-call) rest
    ∙ ap (λ ls. before ++ ((ls ++ open-call) ++ rest)) lines
    ∙ ap (λ os. before ++ lines_from client os records) (sym next)
    ∙ so-far
