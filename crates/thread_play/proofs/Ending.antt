-- What is told of a play on threads, from what its workers and the one client more have done.
use Rattle.std.specs.Prelude.{◌≡◌, ◌≢◌, ℕ, zero, suc, ◌+◌, ◌<◌, List, [], ◌∷◌, ◌++◌, length, map, slice_index_or, Option, Some, IsSome, refl}
use Rattle.std.specs.List.{AllByRecursion}
use Rattle.std.proofs.Common.{sym, ◌∙◌, ap, subst, inl, inr, ⊎_elim, arith}
use Rattle.std.proofs.lemmas.Bool.{cases_eq}
use Rattle.std.proofs.lemmas.Option.{none-some, same_Some}
use Rattle.kv_block.specs.declared.changes.Change.{Change}
use Rattle.map_model.specs.Contents.{Contents}
use Rattle.map_model.specs.declared.calls.Call.{Call}
use Rattle.map_model.specs.declared.calls.Call.TheVariants.{Insert, Search, Update, Delete, Resize}
use Rattle.map_model.specs.Machine.{key_of, change_of, map_at}
use Rattle.play_report.specs.declared.report.Line.{Line}
use Rattle.script_value.specs.Content.{ScriptValue}
use Rattle.verbs.specs.Logs.{Entries, Longer, Lengthened}
use Rattle.verbs.proofs.Growth.{longer-begins, longer-then}
use Rattle.race_laws.specs.Setting.{Setting}
use Rattle.race_laws.specs.Legal.{IsLegal, MayFollow}
use Rattle.log_facts.specs.Among.{changes_of}
use Rattle.client_seat.specs.Seated.{Home, Seated, fresh_seat, seats_in}
use Rattle.client_seat.specs.Fronts.{Fronted, IsClosed, Keeps}
use Rattle.running_client.specs.Points.{MadeNone, none_yet}
use Rattle.running_client.proofs.Fronts.{none_longer}
use Rattle.run_laws.specs.Headline.{Ran, HasRun, AreCounted, Stand, IsAsked, HeadlineBeside, ChangesAreAsked}
use Rattle.run_laws.specs.Whole.{HasMet, LastLooks}
use Rattle.run_laws.proofs.Living.{lives_seat, lives_many, lives_begins}
use Rattle.run_laws.proofs.Looks.{none_looked}
use Rattle.running_play.specs.declared.worker.Worked.{Worked}
use Rattle.running_play.specs.GivenBack.{AreNumbered, places_of, WorkersHaveRun}
use Rattle.play_ends.specs.Settings.{setting_of}
use Rattle.play_ends.specs.Nexts.{nexts_of}
use Rattle.thread_play.specs.Named.{IsNamed, NamesAll}
use Rattle.thread_play.specs.Seen.{searches, HasSeen}
use Rattle.thread_play.specs.Played.{HaveWorked, ran_by, seats_of, HasPlayed, lines_by}
use Rattle.thread_play.proofs.Pairs.{has_change, of_change}
use Rattle.thread_play.proofs.Learning.{searches_look, lives_quiet, learnt_map}
use Rattle.thread_play.proofs.Reading.{reading, reads_all}

-- the workers have numbered seats of the memory
pub are_numbered : (home : Home) (script : ScriptValue) (c : ℕ) (all : List Worked) → HaveWorked home script c all → AreNumbered home c all
are_numbered home script c [] h = tt
are_numbered home script c (w ∷ all) h = (h.0.home_is, h.0.client, are_numbered home script (c + 1) all h.1)

pub home_at : (home : Home) (script : ScriptValue) (c : ℕ) (all : List Worked) → HaveWorked home script c all → (i : ℕ) (d : Worked) → i < length all → (slice_index_or all i d).seat.home ≡ home
home_at home script c [] h i d low = absurd (omega arith)
home_at home script c (w ∷ all) h zero d low = h.0.home_is
home_at home script c (w ∷ all) h (suc i) d low = home_at home script (c + 1) all h.1 i d (omega arith)

-- all seats are given back
pub all_there : (all : List Worked) (last : Seated) → AllByRecursion IsSome (places_of all ++ Some last ∷ [])
all_there [] last = (refl, tt)
all_there (w ∷ all) last = (refl, all_there all last)

pub seats_there : (all : List Worked) (last : Seated) → seats_in (places_of all ++ Some last ∷ []) ≡ seats_of all ++ last ∷ []
seats_there [] last = refl
seats_there (w ∷ all) last = ap (λ l. w.seat ∷ l) (seats_there all last)

-- what they have run
ran_seats : (home : Home) (script : ScriptValue) (c : ℕ) (all : List Worked) (h : HaveWorked home script c all) → map (λ (r : Ran). r.seat) (ran_by home script c all h) ≡ seats_of all
ran_seats home script c [] h = refl
ran_seats home script c (w ∷ all) h = ap (λ l. w.seat ∷ l) (ran_seats home script (c + 1) all h.1)

ran_many : (home : Home) (script : ScriptValue) (c : ℕ) (all : List Worked) (h : HaveWorked home script c all) → length (ran_by home script c all h) ≡ length all
ran_many home script c [] h = refl
ran_many home script c (w ∷ all) h = ap suc (ran_many home script (c + 1) all h.1)

ran_counted : (home : Home) (script : ScriptValue) (c : ℕ) (all : List Worked) (h : HaveWorked home script c all) → AreCounted c (ran_by home script c all h)
ran_counted home script c [] h = tt
ran_counted home script c (w ∷ all) h = (h.0.client, ran_counted home script (c + 1) all h.1)

ran_all : WorkersHaveRun → (home : Home) (script : ScriptValue) (c : ℕ) (all : List Worked) (h : HaveWorked home script c all) → AllByRecursion (HasRun home) (ran_by home script c all h)
ran_all law home script c [] h = tt
ran_all law home script c (w ∷ all) h = (law home script (fresh_seat home c) w.seat w.lines.items refl refl h.0, ran_all law home script (c + 1) all h.1)

change_key : (call : Call) (change : Change) → change_of call ≡ Some change → key_of call ≡ change.key
change_key (Insert key value) change e = ap (λ (c : Change). c.key) (same_Some _ change e)
change_key (Search key) change e = absurd (none-some change e)
change_key (Update key value) change e = ap (λ (c : Change). c.key) (same_Some _ change e)
change_key (Delete key) change e = ap (λ (c : Change). c.key) (same_Some _ change e)
change_key (Resize key) change e = absurd (none-some change e)

-- a change of a call of theirs is of a key that the script names
asked_named : (home : Home) (script : ScriptValue) (keys : List (List ℕ)) (c : ℕ) (all : List Worked) (h : HaveWorked home script c all) (change : Change) → NamesAll script.content keys → c + length all ≡ length script.content.clients
    → IsAsked (ran_by home script c all h) change → IsNamed change.key keys
asked_named home script keys c [] h change names many asked = absurd asked
asked_named home script keys c (w ∷ all) h change names many (inl x) = subst (λ k. IsNamed k keys) (change_key x.1 change x.3) (names c (omega arith) x.0 x.1 x.2)
asked_named home script keys c (w ∷ all) h change names many (inr x) = asked_named home script keys (c + 1) all h.1 change names (omega arith) x

-- of closed seats
last_kept : (P : Seated → Type 0) (seats : List Seated) (last : Seated) → AllByRecursion P (seats ++ last ∷ []) → P last
last_kept P [] last h = h.0
last_kept P (s ∷ seats) last h = last_kept P seats last h.1

kept_at : (home : Home) (script : ScriptValue) (P : Seated → Type 0) (c : ℕ) (all : List Worked) (more : List Seated) → HaveWorked home script c all → AllByRecursion P (seats_of all ++ more)
    → (i : ℕ) (d : Worked) → i < length all → P (slice_index_or all i d).seat × ((slice_index_or all i d).seat.client ≡ c + i)
kept_at home script P c [] more h kept i d low = absurd (omega arith)
kept_at home script P c (w ∷ all) more h kept zero d low = (kept.0, h.0.client ∙ plus c)
  where
    plus : (k : ℕ) → k ≡ k + 0
    plus k = omega arith
kept_at home script P c (w ∷ all) more h kept (suc i) d low = let x = kept_at home script P (c + 1) all more h.1 kept.1 i d (omega arith) in (x.0, x.1 ∙ shift c i)
  where
    shift : (k j : ℕ) → k + 1 + j ≡ k + suc j
    shift k j = omega arith

a_worker : (all : List Worked) (i : ℕ) → i < length all → Worked
a_worker [] i low = absurd (omega arith)
a_worker (w ∷ all) i low = w

module _ (home : Home) (script : ScriptValue) (keys : List (List ℕ)) (all : List Worked) (worked : HaveWorked home script 0 all) (many : length all ≡ length script.content.clients) (seats : home.seats ≡ length script.content.clients + 1)
    (last : Seated) (pairs : Contents) (words : List ℕ) (seen : HasSeen home (fresh_seat home (length script.content.clients)) all keys last pairs words) (front : Fronted) (closed : IsClosed home (seats_of all ++ last ∷ []) front) where
  abbrev pub n : ℕ
  n = length script.content.clients

  abbrev pub s : Setting
  s = home.setting

  abbrev pub log : Entries
  log = front.entries

  begin_setting : seen.begin.home.setting ≡ s
  begin_setting = ap (λ (h : Home). h.setting) seen.home_is

  looked : (seen.last.home ≡ seen.begin.home) × (seen.last.client ≡ seen.begin.client)
  looked = lives_seat (searches keys) seen.begin seen.first (length keys) seen.last seen.looks.kept seen.looks.answers seen.looks.lives

  last_client : seen.last.client ≡ n
  last_client = looked.1 ∙ seen.client

  last_setting : seen.last.home.setting ≡ s
  last_setting = ap (λ (h : Home). h.setting) (looked.0 ∙ seen.home_is)

  -- from its looks on only others lengthened its front
  read_longer : Longer (MayFollow s) n seen.last.front last.front
  read_longer = subst (λ (t : Setting). Longer (MayFollow t) n seen.last.front last.front) last_setting
      (subst (λ (c : ℕ). Longer (MayFollow seen.last.home.setting) c seen.last.front last.front) last_client (reading seen.last s.geometry.nodes last words seen.reads).longer)

  own_client : last.client ≡ n
  own_client = (reading seen.last s.geometry.nodes last words seen.reads).client ∙ last_client

  -- it has made no change
  none_made : MadeNone s last.client [] last.front
  none_made =
      let met : MadeNone s n [] seen.begin.front = none_longer s n [] [] seen.begin.front seen.only none_yet in
      let begun : MadeNone seen.begin.home.setting seen.begin.client [] seen.begin.front =
      subst (λ (c : ℕ). MadeNone seen.begin.home.setting c [] seen.begin.front) (sym seen.client) (subst (λ (t : Setting). MadeNone t n [] seen.begin.front) (sym begin_setting) met) in
      let looks = none_looked (searches keys) seen.begin seen.first [] (searches_look keys) begun (length keys) seen.last seen.looks.kept seen.looks.answers seen.looks.lives in
      let ended : MadeNone s n [] seen.last.front =
      subst (λ (t : Setting). MadeNone t n [] seen.last.front) begin_setting (subst (λ (c : ℕ). MadeNone seen.begin.home.setting c [] seen.last.front) seen.client looks) in
      subst (λ (c : ℕ). MadeNone s c [] last.front) (sym own_client) (none_longer s n [] seen.last.front last.front read_longer ended)

  own_longer : Lengthened (MayFollow s) n last.front log
  own_longer = subst (λ (c : ℕ). Lengthened (MayFollow s) c last.front log) own_client (last_kept (Keeps s log) (seats_of all) last closed.each).longer

  -- it has met all others
  met_others : HasMet s (λ c. (c < home.seats) × (c ≢ seen.begin.client)) log seen.begin.front
  met_others c who =
      let own = seen.client in
      let low : c < length all = few c (length all) n home.seats many seats who.0 (λ e. who.1 (e ∙ sym own)) in
      let d = a_worker all c low in
      let x = kept_at home script (Keeps s log) 0 all (last ∷ []) worked closed.each c d low in
      let w : Worked = slice_index_or all c d in
      let number : w.seat.client ≡ c = x.1 ∙ none c in
      (w.seat.front, (subst (λ (k : ℕ). Lengthened (MayFollow s) k w.seat.front log) number x.0.longer, seen.met c d low))
    where
      none : (k : ℕ) → 0 + k ≡ k
      none k = omega arith

      few : (k a m b : ℕ) → a ≡ m → b ≡ m + 1 → k < b → (k ≢ m) → k < a
      few k a m b e f low not = ⊎_elim (λ same. absurd (not same)) (λ other. omega arith) (cases_eq k m)

  look_longer : Lengthened (MayFollow s) n seen.last.front log
  look_longer = (own_longer.0, longer-then (MayFollow s) n seen.last.front last.front log read_longer own_longer.1)

  module _ (workers_law : WorkersHaveRun) (beside_law : HeadlineBeside) (asked_law : ChangesAreAsked) (looks_law : LastLooks) (names : NamesAll script.content keys) (setting : s ≡ setting_of script) where
    abbrev pub ran : List Ran
    ran = ran_by home script 0 all worked

    closed_ran : IsClosed home (map (λ (r : Ran). r.seat) ran ++ last ∷ []) front
    closed_ran = subst (λ l. IsClosed home (l ++ last ∷ []) front) (sym (ran_seats home script 0 all worked)) closed

    ran_number : length ran ≡ n
    ran_number = ran_many home script 0 all worked ∙ many

    stand : Stand s log ran
    stand = beside_law home front ran last closed_ran (seats ∙ ap (λ k. k + 1) (sym ran_number)) (own_client ∙ sym ran_number) (ran_counted home script 0 all worked) (ran_all workers_law home script 0 all worked) none_made

    asked : AllByRecursion (IsAsked ran) (changes_of s log)
    asked = asked_law home front ran last closed_ran (seats ∙ ap (λ k. k + 1) (sym ran_number)) (own_client ∙ sym ran_number) (ran_counted home script 0 all worked) (ran_all workers_law home script 0 all worked) none_made

    -- what it has found is the map after all changes
    map_found : (log ≡ seen.last.front) × (pairs ≡ map_at (changes_of s log) (length (changes_of s log)))
    map_found =
        let looks = looks_law s home.seats log seen.begin seen.last (searches keys) seen.first seen.looks.kept (length keys) seen.looks.answers
        closed.known begin_setting met_others (subst (λ (c : ℕ). Lengthened (MayFollow s) c seen.last.front log) (sym seen.client) look_longer) seen.looks.lives (searches_look keys) in (
          looks.0,
          learnt_map keys seen.looks.answers pairs (map_at (changes_of s log) (length (changes_of s log))) seen.looks.learnt
              (lives_many (searches keys) seen.begin seen.first (length keys) seen.last seen.looks.kept seen.looks.answers seen.looks.lives)
              (λ i call a at answered. looks.1 i call a at answered (lives_quiet keys seen.begin seen.first (length keys) seen.last seen.looks.kept seen.looks.answers seen.looks.lives i a answered))
              (λ key value has.
              let c = of_change (IsAsked ran) key (changes_of s log) asked (has_change (changes_of s log) key value has) in
              subst (λ k. IsNamed k keys) c.1 (asked_named home script keys 0 all worked c.0 names (let number : 0 + length all ≡ n = omega (arith, many) in number) c.2)),
        )

    -- what it has read are the next words after the log
    next_found : words ≡ nexts_of s.geometry.nodes s.geometry log
    next_found =
        let begun = lives_begins (searches keys) seen.begin seen.first (length keys) seen.last seen.looks.kept seen.looks.answers seen.looks.lives in
        let reads = reads_all s home.seats log seen.begin.front seen.last last_setting closed.known (λ c who. met_others c (who.0, λ e. who.1 (e ∙ sym looked.1))) begun s.geometry.nodes last words seen.reads
        (longer-begins (MayFollow s) n last.front log own_longer.1) in
        reads.1 ∙ ap (nexts_of s.geometry.nodes s.geometry) (sym map_found.0)

    pub has_played : (lines : List Line) → lines ≡ lines_by all → HasPlayed script lines pairs words front
    has_played lines told = record {
      home = home;
      setting = setting;
      seats = seats;
      all = all;
      many = many;
      worked = worked;
      last = last;
      closed = closed;
      geometry = closed.geometry ∙ ap (λ (t : Setting). t.geometry) setting;
      legal = subst (λ (t : Setting). IsLegal t log) setting closed.legal;
      lines_are = told;
      stand = subst (λ (t : Setting). Stand t log ran) setting stand;
      map_is = subst (λ (t : Setting). pairs ≡ map_at (changes_of t log) (length (changes_of t log))) setting map_found.1;
      next_is = subst (λ (t : Setting). words ≡ nexts_of t.geometry.nodes t.geometry log) setting next_found;
    }

-- the seat that was looked from stays the one more
pub seen_seat : (home : Home) (seat : Seated) (all : List Worked) (keys : List (List ℕ)) (next : Seated) (pairs : Contents) (words : List ℕ) → HasSeen home seat all keys next pairs words → (next.home ≡ home) × (next.client ≡ seat.client)
seen_seat home seat all keys next pairs words seen =
    let looked = lives_seat (searches keys) seen.begin seen.first (length keys) seen.last seen.looks.kept seen.looks.answers seen.looks.lives in
    let read = reading seen.last home.setting.geometry.nodes next words seen.reads in
    (read.home ∙ looked.0 ∙ seen.home_is, read.client ∙ looked.1 ∙ seen.client)

-- .. which was dealt last
pub as_last : (home dealt : Home) (n k : ℕ) (last : Seated) (all : List Worked) (keys kept : List (List ℕ)) (next : Seated) (pairs : Contents) (words : List ℕ) → last ≡ fresh_seat dealt k → dealt ≡ home → k ≡ n → kept ≡ keys
    → HasSeen home last all kept next pairs words → HasSeen home (fresh_seat home n) all keys next pairs words
as_last home dealt n k last all keys kept next pairs words is here number same seen =
    subst (λ (s : Seated). HasSeen home s all keys next pairs words) (is ∙ (λ i. fresh_seat (here i) (number i)))
    (subst (λ l. HasSeen home last all l next pairs words) same seen)

-- the seats that were given back are those of the workers, and that one
pub as_closed : (home : Home) (all left : List Worked) (last : Seated) (places : List (Option Seated)) (front : Fronted) → left ≡ all → places ≡ places_of left ++ Some last ∷ [] → IsClosed home (seats_in places) front → IsClosed home (seats_of all ++ last ∷ []) front
as_closed home all left last places front same given closed =
    subst (λ l. IsClosed home l front) (ap seats_in given ∙ seats_there left last ∙ ap (λ ws. seats_of ws ++ last ∷ []) same) closed

pub as_setting : (home : Home) (script : ScriptValue) → home.setting.geometry ≡ script.geometry → home.setting.listed ≡ script.content.hashes → home.setting ≡ setting_of script
as_setting home script sizes hashes = λ i. (let t : Setting = record { geometry = sizes i; listed = hashes i } in t)
