-- From the lives of clients to what the records stand on.
use Rattle.std.specs.Prelude.{◌≡◌, ℕ, zero, suc, ◌+◌, ◌<◌, ◌≤◌, List, [], ◌∷◌, ◌++◌, length, map, reverse, slice_get, Some, refl}
use Rattle.std.specs.List.{AllByRecursion}
use Rattle.std.proofs.Common.{sym, ◌∙◌, ap, subst, inl, inr, arith, append_assoc, append-nil, length-append}
use Rattle.std.proofs.lemmas.Bool.{cases_lt}
use Rattle.std.proofs.lemmas.List.{length-map}
use Rattle.node_words.specs.declared.geometry.Geometry.{Geometry}
use Rattle.kv_block.specs.declared.changes.Change.{Change}
use Rattle.map_model.specs.declared.calls.Call.{Call}
use Rattle.map_model.specs.Machine.{reply_of}
use Rattle.verb_log.specs.declared.entry.Entry.{Entry}
use Rattle.verb_log.specs.Changes.{changes, changes_by}
use Rattle.verb_log.specs.Kinds.{kind}
use Rattle.verb_log.proofs.InOrder.{reverse_push}
use Rattle.verbs.specs.Logs.{Entries, Begins}
use Rattle.verbs.proofs.Growth.{begins-then}
use Rattle.race_laws.specs.Setting.{Setting}
use Rattle.log_facts.specs.Among.{changes_of}
use Rattle.client_seat.specs.Rule.{OfSeats}
use Rattle.client_seat.specs.Seated.{Home, Seated}
use Rattle.client_seat.specs.Fronts.{Keeps}
use Rattle.call_texts.specs.State.{State}
use Rattle.call_machine.specs.declared.answer.Answer.{Answer}
use Rattle.running_client.specs.Points.{MadeNone, none_yet, by_another, by_itself, Replied}
use Rattle.running_client.proofs.Fronts.{changes_begin, none_begins, none_longer}
use Rattle.run_records.specs.Lines.{Line, NoneOf, NoneFrom, IsCall, Went, EachWent}
use Rattle.run_records.proofs.Together.{records_stand}
use Rattle.run_records.proofs.Exist.{records_exist}
use Rattle.run_laws.specs.Lives.{Lives, lives_none, lives_more}
use Rattle.run_laws.specs.Headline.{owners, owners_of, told_by, Ran, all_told, HasRun, AreCounted, HeadlineForRun}
use Rattle.run_laws.proofs.Fronts.{others_longer, changes_push, map_front}
use Rattle.run_laws.proofs.Living.{change_at, one_longer, lives_seat, lives_many, lives_begins, replied_as}

owners_push : (s : Setting) (l : Entries) (e : Entry) → owners_of s (l ++ e ∷ []) ≡ owners_of s l ++ map (λ (c : Change). e.client) (changes_by s.geometry (reverse l) e (kind s.geometry (reverse l) e))
owners_push s l e = ap (owners s.geometry) (reverse_push l e)

owners_since : (s : Setting) (l m : Entries) → (more : List ℕ) × (owners_of s (l ++ m) ≡ owners_of s l ++ more)
owners_since s l [] = ([], ap (owners_of s) (append-nil l) ∙ sym (append-nil (owners_of s l)))
owners_since s l (e ∷ m) =
    let x = owners_since s (l ++ e ∷ []) m in
    let own = map (λ (c : Change). e.client) (changes_by s.geometry (reverse l) e (kind s.geometry (reverse l) e)) in
    (own ++ x.0, ap (owners_of s) (sym (append_assoc l (e ∷ []) m)) ∙ x.1 ∙ ap (λ y. y ++ x.0) (owners_push s l e) ∙ append_assoc (owners_of s l) own x.0)

-- each change has its owner
long : (g : Geometry) (past : List Entry) → length (owners g past) ≡ length (changes g past)
long g [] = refl
long g (e ∷ past) =
    let own = changes_by g past e (kind g past e) in
    length-append (owners g past) (map (λ (c : Change). e.client) own) ∙ (λ i. long g past i + length-map own (λ (c : Change). e.client) i) ∙ sym (length-append (changes g past) own)

pub owners_long : (s : Setting) (l : Entries) → length (owners_of s l) ≡ length (changes_of s l)
owners_long s l = long s.geometry (reverse l)

push_all : (P : ℕ → Type 0) (xs ys : List ℕ) → AllByRecursion P xs → AllByRecursion P ys → AllByRecursion P (xs ++ ys)
push_all P [] ys h g = g
push_all P (x ∷ xs) ys h g = (h.0, push_all P xs ys h.1 g)

of_one : (P : ℕ → Type 0) (c : ℕ) (own : List Change) → P c → AllByRecursion P (map (λ (x : Change). c) own)
of_one P c [] h = tt
of_one P c (x ∷ own) h = (h, of_one P c own h)

-- .. who has a seat
pub owners_known : (s : Setting) (n : ℕ) (l m : Entries) → AllByRecursion (λ c. c < n) (owners_of s l) → OfSeats n m → AllByRecursion (λ c. c < n) (owners_of s (l ++ m))
owners_known s n l [] h known = subst (λ x. AllByRecursion (λ c. c < n) (owners_of s x)) (sym (append-nil l)) h
owners_known s n l (e ∷ m) h known =
    subst (λ x. AllByRecursion (λ c. c < n) (owners_of s x)) (append_assoc l (e ∷ []) m)
    (owners_known s n (l ++ e ∷ []) m
    (subst (AllByRecursion (λ c. c < n)) (sym (owners_push s l e)) (push_all (λ c. c < n) (owners_of s l) _ h (of_one (λ c. c < n) e.client (changes_by s.geometry (reverse l) e (kind s.geometry (reverse l) e)) known.0)))
    known.1)

get_one : (c : ℕ) (own : List Change) (more : List ℕ) (p : ℕ) → p < length own → slice_get (map (λ (x : Change). c) own ++ more) p ≡ Some c
get_one c [] more p less = absurd (omega arith)
get_one c (x ∷ own) more zero less = refl
get_one c (x ∷ own) more (suc p) less = get_one c own more p (omega arith)

get_behind : (xs : List ℕ) (c : ℕ) (own : List Change) (more : List ℕ) (p : ℕ) → length xs ≤ p → p < length xs + length own → slice_get (xs ++ (map (λ (x : Change). c) own ++ more)) p ≡ Some c
get_behind [] c own more p low less = get_one c own more p (omega arith)
get_behind (x ∷ xs) c own more zero low less = absurd (omega arith)
get_behind (x ∷ xs) c own more (suc p) low less = get_behind xs c own more p (omega arith) (omega arith)

pub get_past : (xs : List ℕ) (p c : ℕ) → length xs ≤ p → slice_get xs p ≡ Some c → ⊥
get_past [] zero c low is = cc
get_past [] (suc p) c low is = cc
get_past (x ∷ xs) zero c low is = omega arith
get_past (x ∷ xs) (suc p) c low is = get_past xs p c (omega arith) is

-- the owner of what an entry changed
owner_at : (s : Setting) (m log : Entries) (e : Entry) (p : ℕ) → Begins (m ++ e ∷ []) log → length (changes_of s m) ≤ p → p < length (changes_of s (m ++ e ∷ [])) → slice_get (owners_of s log) p ≡ Some e.client
owner_at s m log e p b low less =
    let own = changes_by s.geometry (reverse m) e (kind s.geometry (reverse m) e) in
    let x = owners_since s (m ++ e ∷ []) b.0 in
    let many = owners_long s m in
    let pushed = ap (length {A = Change}) (changes_push s m e) ∙ length-append (changes_of s m) own in
    ap (λ l. slice_get l p) (ap (owners_of s) b.1 ∙ x.1 ∙ ap (λ y. y ++ x.0) (owners_push s m e) ∙ append_assoc (owners_of s m) (map (λ (c : Change). e.client) own) x.0)
    ∙ get_behind (owners_of s m) e.client own x.0 p (omega arith) (omega arith)

same_some : (a b : ℕ) → Some a ≡ Some b → a ≡ b
same_some a b e = cc

begins_one : (m log : Entries) (e : Entry) → Begins (m ++ e ∷ []) log → Begins m log
begins_one m log e b = begins-then m (m ++ e ∷ []) log (e ∷ [], refl) b

-- who made none between two logs owns none between their changes
pub made_none : (s : Setting) (c : ℕ) (l m log : Entries) → MadeNone s c l m → Begins m log → NoneOf (owners_of s log) c (length (changes_of s l)) (length (changes_of s m))
made_none s c l m log none_yet b p low less is = omega arith
made_none s c l m2 log (by_another {m = m} e h apart) b p low less is = elim (cases_lt p (length (changes_of s m))) [
  | inl below ↦ made_none s c l m log h (begins_one m log e b) p low below is
  | inr upto ↦ apart (same_some e.client c (sym (owner_at s m log e p b upto less) ∙ is))
]
made_none s c l m2 log (by_itself {m = m} e h quiet) b p low less is =
    let same = ap (length {A = Change}) quiet in
    made_none s c l m log h (begins_one m log e b) p low (omega arith) is

is_call : (s : Setting) (c : ℕ) (state : State) (call : Call) (before front log : Entries) (a : Answer) → Begins front log → Replied s c state call before front a
    → IsCall (changes_of s log) (owners_of s log) c (length (changes_of s before)) (length (changes_of s before)) (length (changes_of s front)) (record { call = call; reply = a.reply })
is_call s c state call before front log a b r = record {
  after = omega arith;
  order = changes_begin s before front r.begins;
  within = changes_begin s front log b;
  idle = λ p low less is. omega arith;
  left = λ e. made_none s c before front log (r.left e) b;
  quiet = λ h. let q = r.quiet h in (q.point, q.least, q.most, ap (λ m. reply_of m call) (map_front s front log q.point b q.most) ∙ q.answers);
  changed = λ h.
      let x = r.changed h in
      let point = length (changes_of s x.until) in
      let many = one_longer s x.until front x.change x.made in
      let behind : Begins (x.until ++ x.entry ∷ []) log = subst (λ f. Begins f log) x.last b in
      let counted = ap (λ f. length (changes_of s f)) x.last in (
        point,
        x.since,
        sym many,
        made_none s c before x.until log x.none (begins_one x.until log x.entry behind),
        owner_at s x.until log x.entry point behind (omega arith) (omega arith) ∙ ap (λ (n : ℕ). Some n) x.client,
        change_at s x.until front log x.change b x.made ∙ sym x.is,
        ap (λ y. reply_of y call) (map_front s front log point b (omega arith)) ∙ x.answers,
      );
}

told_push : (calls : List Call) (answers : List Answer) (call : Call) (a : Answer) → slice_get calls (length answers) ≡ Some call → told_by calls (answers ++ a ∷ []) ≡ told_by calls answers ++ record { call = call; reply = a.reply } ∷ []
told_push [] [] call a at = absurd (cc)
told_push (x ∷ calls) [] call a at = ap (λ (y : Call). told_by (y ∷ calls) (a ∷ [])) (same at)
  where
    same : Some x ≡ Some call → x ≡ call
    same e = cc
told_push [] (b ∷ answers) call a at = absurd (cc)
told_push (x ∷ calls) (b ∷ answers) call a at = ap (λ (ls : List Line). record { call = x; reply = b.reply } ∷ ls) (told_push calls answers call a at)

module _ (log : Entries) (calls : List Call) (begin : Seated) (first : State) where
  went_lives : (n : ℕ) (seat : Seated) (state : State) (answers : List Answer) (rest : List Line) → Begins seat.front log → Lives calls begin first n seat state answers
      → Went (changes_of begin.home.setting log) (owners_of begin.home.setting log) begin.client (length (changes_of begin.home.setting seat.front)) rest
      → Went (changes_of begin.home.setting log) (owners_of begin.home.setting log) begin.client (length (changes_of begin.home.setting begin.front)) (told_by calls answers ++ rest)
  went_lives n seat state answers rest b lives_none went = went
  went_lives n2 seat2 state2 answers2 rest b (lives_more {n = n} {seat = seat} {state = state} {answers = answers} call next kept a lives at called) went =
      let s = begin.home.setting in
      let c = begin.client in
      let line : Line = record { call = call; reply = a.reply } in
      let is = lives_seat calls begin first n seat state answers lives in
      let replied = replied_as begin seat state call next.front a is.0 is.1 called.replied in
      let many = lives_many calls begin first n seat state answers lives in
      subst (Went (changes_of s log) (owners_of s log) c (length (changes_of s begin.front)))
      (sym (append_assoc (told_by calls answers) (line ∷ []) rest) ∙ ap (λ (ls : List Line). ls ++ rest) (sym (told_push calls answers call a (ap (slice_get calls) many ∙ at))))
      (went_lives n seat state answers (line ∷ rest) (begins-then seat.front next.front log replied.begins b) lives
      (length (changes_of s seat.front), length (changes_of s next.front), is_call s c state call seat.front next.front log a b replied, went))

-- a client that had made no change before its first call
earlier : (changes : List Change) (own : List ℕ) (c t u : ℕ) (lines : List Line) → t ≤ u → NoneOf own c t u → Went changes own c u lines → Went changes own c t lines
earlier changes own c t u [] low none went = λ p from is. elim (cases_lt p u) [ inl less ↦ none p from less is | inr upto ↦ went p upto is ]
earlier changes own c t u (line ∷ lines) low none went =
    let call = went.2 in
    let after = call.after in (
      went.0,
      went.1,
      record {
        after = omega arith;
        order = call.order;
        within = call.within;
        idle = λ p from less is. elim (cases_lt p u) [ inl below ↦ none p from below is | inr upto ↦ call.idle p upto less is ];
        left = call.left;
        quiet = call.quiet;
        changed = call.changed;
      },
      went.3,
    )

went : (home : Home) (log : Entries) (r : Ran) → Keeps home.setting log r.seat → HasRun home r → Went (changes_of home.setting log) (owners_of home.setting log) r.seat.client 0 (told_by r.calls r.answers)
went home log r keeps ran =
    let s = home.setting in
    let c = r.seat.client in
    let front = ran.last.front in
    let o = others_longer s c r.seat.front log keeps.longer.1 in
    let end : Begins front log = begins-then front r.seat.front log (none_begins s c front r.seat.front ran.left) (o.0, o.1.0) in
    let after = made_none s c front log log (none_longer s c front r.seat.front log keeps.longer.1 ran.left) ([], sym (append-nil log)) in
    let many = owners_long s log in
    let last : NoneFrom (owners_of s log) c (length (changes_of s front)) = λ p low is. elim (cases_lt p (length (changes_of s log))) [
      | inl less ↦ after p low less is
      | inr upto ↦ get_past (owners_of s log) p c (omega arith) is
    ] in
    let begun : Begins ran.begin.front log = begins-then ran.begin.front front log (lives_begins r.calls ran.begin ran.first ran.many ran.last ran.kept r.answers ran.lives) end in
    let body : Went (changes_of s log) (owners_of s log) c (length (changes_of s ran.begin.front)) (told_by r.calls r.answers ++ []) =
    subst (λ (n : ℕ). Went (changes_of s log) (owners_of s log) n (length (changes_of s ran.begin.front)) (told_by r.calls r.answers ++ [])) ran.client
    (subst (λ (h : Home). Went (changes_of h.setting log) (owners_of h.setting log) ran.begin.client (length (changes_of h.setting ran.begin.front)) (told_by r.calls r.answers ++ [])) ran.home_is
    (went_lives log r.calls ran.begin ran.first ran.many ran.last ran.kept r.answers [] end ran.lives
    (subst (λ (h : Home). NoneFrom (owners_of h.setting log) ran.begin.client (length (changes_of h.setting front))) (sym ran.home_is)
    (subst (λ (n : ℕ). NoneFrom (owners_of s log) n (length (changes_of s front))) (sym ran.client) last)))) in
    earlier (changes_of s log) (owners_of s log) c 0 (length (changes_of s ran.begin.front)) (told_by r.calls r.answers) (omega arith)
    (made_none s c [] ran.begin.front log ran.none begun)
    (subst (Went (changes_of s log) (owners_of s log) c (length (changes_of s ran.begin.front))) (append-nil (told_by r.calls r.answers)) body)

pub each_went : (home : Home) (log : Entries) (c : ℕ) (all : List Ran) → AreCounted c all → AllByRecursion (Keeps home.setting log) (map (λ (r : Ran). r.seat) all) → AllByRecursion (HasRun home) all
    → EachWent (changes_of home.setting log) (owners_of home.setting log) c (all_told all)
each_went home log c [] counted keeps ran = tt
each_went home log c (r ∷ all) counted keeps ran =
    (subst (λ (n : ℕ). Went (changes_of home.setting log) (owners_of home.setting log) n 0 (told_by r.calls r.answers)) counted.0 (went home log r keeps.0 ran.0), each_went home log (c + 1) all counted.1 keeps.1 ran.1)

pub headline_for_run : HeadlineForRun
headline_for_run home front all closed many counted ran =
    let s = home.setting in
    let log = front.entries in
    let lines = length-map all (λ (r : Ran). told_by r.calls r.answers) in
    let each = each_went home log 0 all counted closed.each ran in (
      records_exist (changes_of s log) (owners_of s log) (all_told all) (owners_long s log) each,
      λ records recorded. records_stand (changes_of s log) (owners_of s log) (all_told all) records (owners_long s log)
          (subst (λ (n : ℕ). AllByRecursion (λ c. c < n) (owners_of s log)) (many ∙ sym lines) (owners_known s home.seats [] log tt closed.known))
          each recorded,
    )
