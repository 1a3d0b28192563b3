-- What searches learn, key by key.
use Rattle.std.specs.Prelude.{◌≡◌, ℕ, zero, suc, ◌+◌, ◌<◌, true, is_some, List, [], ◌∷◌, ◌++◌, length, slice_get, slice_index_or, Option, Some, None, refl}
use Rattle.std.proofs.Common.{sym, ◌∙◌, ap, subst, inl, inr, ⊎_elim, arith, get_or}
use Rattle.std.proofs.lemmas.Option.{none-some, same_Some, slice_get_within, slice_get-get_or}
use Rattle.node_words.specs.declared.geometry.Geometry.{Geometry}
use Rattle.std.specs.FinMap as fin
use Rattle.kv_block.specs.Bytes.{key_cmp}
use Rattle.map_model.specs.declared.calls.Call.{Call}
use Rattle.map_model.specs.declared.calls.Call.TheVariants.{Search}
use Rattle.map_model.specs.declared.calls.Reply.{Reply}
use Rattle.map_model.specs.declared.calls.Reply.TheVariants.{Found, Missing, Inserted, Exists, Updated, Deleted, Split, Again, FullDepth, FullWords, NoBlock}
use Rattle.map_model.specs.Machine.{reply_of, search_reply, change_of, is_quiet}
use Rattle.map_model.specs.Contents.{Contents}
use Rattle.verbs.specs.Logs.{Begins, Longer}
use Rattle.race_laws.specs.Legal.{MayFollow}
use Rattle.client_seat.specs.Seated.{Home, Seated}
use Rattle.call_machine.specs.Fresh.{fresh_state}
use Rattle.running_client.specs.Served.{Serving}
use Rattle.running_play.specs.declared.worker.Worked.{Worked}
use Rattle.call_texts.specs.State.{State}
use Rattle.call_machine.specs.declared.answer.Answer.{Answer}
use Rattle.running_client.specs.Called.{Called}
use Rattle.running_client.specs.Replies.{MayReply, SearchReply}
use Rattle.run_laws.specs.Lives.{Lives, lives_none, lives_more}
use Rattle.run_laws.proofs.Looks.{at_end}
use Rattle.run_laws.proofs.Living.{lives_many, lives_seat}
use Rattle.thread_play.specs.Named.{IsNamed}
use Rattle.thread_play.specs.Seen.{searches, value_found, put_found, Learnt, Looks, ReadNexts, HasSeen}
use Rattle.thread_play.proofs.Pairs.{get_own, put_keeps, put_has, same_pairs}

get_front : {A : Type 0} (l : List A) (a b : A) (i : ℕ) → slice_get l i ≡ Some b → slice_get (l ++ a ∷ []) i ≡ Some b
get_front [] a b zero h = absurd (none-some b h)
get_front [] a b (suc i) h = absurd (none-some b h)
get_front (x ∷ l) a b zero h = h
get_front (x ∷ l) a b (suc i) h = get_front l a b i h

get_last : {A : Type 0} (l : List A) (a : A) → slice_get (l ++ a ∷ []) (length l) ≡ Some a
get_last [] a = refl
get_last (x ∷ l) a = get_last l a

pub searches_at : (keys : List (List ℕ)) (i : ℕ) (key : List ℕ) → slice_get keys i ≡ Some key → slice_get (searches keys) i ≡ Some (Search key)
searches_at [] zero key h = absurd (none-some key h)
searches_at [] (suc i) key h = absurd (none-some key h)
searches_at (k ∷ keys) zero key h = ap (λ (q : List ℕ). Some (Search q)) (same_Some k key h)
searches_at (k ∷ keys) (suc i) key h = searches_at keys i key h

-- .. and no other call is among them
pub searches_alone : (keys : List (List ℕ)) (i : ℕ) (call : Call) → slice_get (searches keys) i ≡ Some call → (key : List ℕ) × (call ≡ Search key) × (slice_get keys i ≡ Some key)
searches_alone [] zero call h = absurd (none-some call h)
searches_alone [] (suc i) call h = absurd (none-some call h)
searches_alone (k ∷ keys) zero call h = (k, sym (same_Some (Search k) call h), refl)
searches_alone (k ∷ keys) (suc i) call h = searches_alone keys i call h

pub searches_look : (keys : List (List ℕ)) (i : ℕ) (call : Call) → slice_get (searches keys) i ≡ Some call → change_of call ≡ None
searches_look keys i call h = let x = searches_alone keys i call h in ap change_of x.1

-- the searches so far
pub record Learning (keys : List (List ℕ)) (begin : Seated) (first : State) (n : ℕ) (seat : Seated) (state : State) (m : Contents) : Type 0 where
  pub answers : List Answer
  pub lives : Lives (searches keys) begin first n seat state answers
  pub learnt : Learnt keys answers m

pub learning_none : (keys : List (List ℕ)) (begin : Seated) (first : State) (m : Contents) → m ≡ fin.empty → Learning keys begin first 0 begin first m
learning_none keys begin first m is = record {
  answers = [];
  lives = lives_none;
  learnt = record {
    sound = λ key value has. absurd (none-some value (sym (fin.get-empty key_cmp key) ∙ sym (ap (λ n. fin.get n key) is) ∙ has));
    full = λ i key value a at answered found. absurd (none_at i a answered);
  };
}
  where
    none_at : (i : ℕ) (a : Answer) → slice_get [] i ≡ Some a → ⊥
    none_at zero a h = none-some a h
    none_at (suc i) a h = none-some a h

-- one answer more
learnt_more : (keys : List (List ℕ)) (answers : List Answer) (m : Contents) (key : List ℕ) (a : Answer) (found : Option (List ℕ)) → found ≡ value_found a.reply → slice_get keys (length answers) ≡ Some key → Learnt keys answers m
    → Learnt keys (answers ++ a ∷ []) (put_found m key found)
learnt_more keys answers m key a None is at h = record {
  sound = λ q v has. let x = h.sound q v has in (x.0, x.1, x.2, get_front answers a x.1 x.0 x.3, x.4);
  full = λ i q v b there answered found. ⊎_elim
      (λ old. h.full i q v b there old found)
      (λ new. absurd (none-some v (is ∙ ap (λ (y : Answer). value_found y.reply) new.1 ∙ found)))
      (at_end answers a b i answered);
}
learnt_more keys answers m key a (Some v) is at h = record {
  sound = λ q w has. ⊎_elim
      (λ own. (length answers, a, at ∙ ap (λ (k : List ℕ). Some k) (sym own.0), get_last answers a, sym is ∙ ap (λ (u : List ℕ). Some u) (sym own.1)))
      (λ old. let x = h.sound q w old in (x.0, x.1, x.2, get_front answers a x.1 x.0 x.3, x.4))
      (put_has m key v q w has);
  full = λ i q w b there answered found. ⊎_elim
      (λ old. put_keeps m key v q (h.full i q w b there old found))
      (λ new.
      let own : key ≡ q = same_Some key q (sym at ∙ ap (slice_get keys) (sym new.0) ∙ there) in
      subst (λ (k : List ℕ). is_some (fin.get (fin.insert m key v) k) ≡ true) own (ap is_some (get_own m key v)))
      (at_end answers a b i answered);
}

pub learning_more : (keys : List (List ℕ)) (begin : Seated) (first : State) (n : ℕ) (seat next : Seated) (state kept : State) (m more : Contents) (key : List ℕ) (a : Answer) (found : Option (List ℕ)) → Learning keys begin first n seat state m
    → slice_get keys n ≡ Some key → Called seat state (Search key) next kept a → found ≡ value_found a.reply → more ≡ put_found m key found → Learning keys begin first (n + 1) next kept more
learning_more keys begin first n seat next state kept m more key a found h at called is put =
    let many = lives_many (searches keys) begin first n seat state h.answers h.lives in
    record {
      answers = h.answers ++ a ∷ [];
      lives = lives_more (Search key) next kept a h.lives (searches_at keys n key at) called;
      learnt = subst (Learnt keys (h.answers ++ a ∷ [])) (sym put) (learnt_more keys h.answers m key a found is (ap (slice_get keys) many ∙ at) h.learnt);
    }

pub learning_all : (keys : List (List ℕ)) (begin : Seated) (first : State) (n : ℕ) (seat : Seated) (state : State) (m : Contents) → n ≡ length keys → Learning keys begin first n seat state m → Looks keys begin first seat m
learning_all keys begin first n seat state m all h = record {
  kept = state;
  answers = h.answers;
  lives = subst (λ (k : ℕ). Lives (searches keys) begin first k seat state h.answers) all h.lives;
  learnt = h.learnt;
}

-- a search has a reply of the map
quiet_search : (r : Reply) (source target : ℕ) → SearchReply r source target → is_quiet r ≡ true
quiet_search (Found value) source target h = refl
quiet_search Missing source target h = refl
quiet_search Inserted source target h = absurd h
quiet_search (Exists value) source target h = absurd h
quiet_search (Updated old) source target h = absurd h
quiet_search (Deleted old) source target h = absurd h
quiet_search (Split table depth) source target h = absurd h
quiet_search (Again lost) source target h = absurd h
quiet_search (FullDepth depth) source target h = absurd h
quiet_search (FullWords next need) source target h = absurd h
quiet_search (NoBlock next need) source target h = absurd h

pub lives_quiet : (keys : List (List ℕ)) (begin : Seated) (first : State) (n : ℕ) (seat : Seated) (state : State) (answers : List Answer) → Lives (searches keys) begin first n seat state answers → (i : ℕ) (a : Answer) → slice_get answers i ≡ Some a → is_quiet a.reply ≡ true
lives_quiet keys begin first n seat state answers lives_none zero a at = absurd (none-some a at)
lives_quiet keys begin first n seat state answers lives_none (suc i) a at = absurd (none-some a at)
lives_quiet keys begin first n2 seat2 state2 answers2 (lives_more {n = n} {seat = seat} {state = state} {answers = answers} call next kept b lives there called) i a at = ⊎_elim
    (λ old. lives_quiet keys begin first n seat state answers lives i a old)
    (λ new.
    let x = searches_alone keys n call there in
    subst (λ (y : Answer). is_quiet y.reply ≡ true) new.1
    (quiet_search b.reply b.from b.to (subst (λ (c : Call). MayReply c b.reply b.from b.to) x.1 called.kind)))
    (at_end answers b a i at)

value_of_search : (o : Option (List ℕ)) → value_found (search_reply o) ≡ o
value_of_search (Some v) = refl
value_of_search None = refl

answer_at : (answers : List Answer) (i : ℕ) → i < length answers → (a : Answer) × (slice_get answers i ≡ Some a)
answer_at [] i low = absurd (omega arith)
answer_at (a ∷ answers) zero low = (a, refl)
answer_at (a ∷ answers) (suc i) low = answer_at answers i (omega arith)

named_at : (key : List ℕ) (keys : List (List ℕ)) → IsNamed key keys → (i : ℕ) × (slice_get keys i ≡ Some key)
named_at key [] h = absurd h
named_at key (k ∷ keys) (inl is) = (0, ap (λ (q : List ℕ). Some q) is)
named_at key (k ∷ keys) (inr h) = let x = named_at key keys h in (suc x.0, x.1)

-- what was learnt is the map whose replies the answers are, where it has no key besides
pub learnt_map : (keys : List (List ℕ)) (answers : List Answer) (m all : Contents) → Learnt keys answers m → length answers ≡ length keys
    → ((i : ℕ) (call : Call) (a : Answer) → slice_get (searches keys) i ≡ Some call → slice_get answers i ≡ Some a → reply_of all call ≡ Some a.reply)
    → ((key value : List ℕ) → fin.get all key ≡ Some value → IsNamed key keys) → m ≡ all
learnt_map keys answers m all h many right known = same_pairs m all
    (λ key value has.
    let x = h.sound key value has in
    sym (found_is x.0 key x.1 x.2 x.3) ∙ x.4)
    (λ key value has.
    let at = named_at key keys (known key value has) in
    let low = slice_get_within keys at.0 key at.1 in
    let b = answer_at answers at.0 (omega arith) in
    let there = is_there (fin.get m key) (h.full at.0 key value b.0 at.1 b.1 (found_is at.0 key b.0 at.1 b.1 ∙ has)) in
    let x = h.sound key there.0 there.1 in
    there.1 ∙ sym x.4 ∙ found_is x.0 key x.1 x.2 x.3 ∙ has)
  where
    found_is : (i : ℕ) (key : List ℕ) (a : Answer) → slice_get keys i ≡ Some key → slice_get answers i ≡ Some a → value_found a.reply ≡ fin.get all key
    found_is i key a at answered =
        ap value_found (sym (same_Some (search_reply (fin.get all key)) a.reply (right i (Search key) a (searches_at keys i key at) answered))) ∙ value_of_search (fin.get all key)

    is_there : (o : Option (List ℕ)) → is_some o ≡ true → (v : List ℕ) × (o ≡ Some v)
    is_there None e = absurd (cc)
    is_there (Some v) e = (v, refl)

-- a key at its place
pub key_at : (keys : List (List ℕ)) (i : ℕ) (key : List ℕ) → i < length keys → key ≡ get_or keys i key → slice_get keys i ≡ Some key
key_at keys i key low is = slice_get-get_or keys i key low ∙ ap (λ (k : List ℕ). Some k) (sym is)

-- the seat stays that of the same client
pub looks_home : (keys : List (List ℕ)) (begin : Seated) (first : State) (last : Seated) (pairs : Contents) → Looks keys begin first last pairs → last.home ≡ begin.home
looks_home keys begin first last pairs h = (lives_seat (searches keys) begin first (length keys) last h.kept h.answers h.lives).0

-- .. which was fresh
pub looks_from : (keys : List (List ℕ)) (client : Serving) (seat : Seated) (tries : ℕ) (home : Home) (last : Seated) (pairs : Contents) → client ≡ record { seat = seat; state = fresh_state seat.home.setting.geometry seat.client tries; cache = None } → seat.home ≡ home
    → Looks keys client.seat client.state last pairs → Looks keys seat (fresh_state home.setting.geometry seat.client tries) last pairs
looks_from keys client seat tries home last pairs made here h =
    subst (λ (x : Home). Looks keys seat (fresh_state x.setting.geometry seat.client tries) last pairs) here (subst (λ (x : Serving). Looks keys x.seat x.state last pairs) made h)

pub reads_from : (first at : Seated) (g h : Geometry) (next left : Seated) (words : List ℕ) → at ≡ first → g ≡ h → left ≡ next → ReadNexts at g.nodes next words → ReadNexts first h.nodes left words
reads_from first at g h next left words is sizes kept reads =
    subst (λ (s : Seated). ReadNexts first h.nodes s words) (sym kept) (subst (λ (x : Geometry). ReadNexts first x.nodes next words) sizes (subst (λ (s : Seated). ReadNexts s g.nodes next words) is reads))

-- what a seat has seen that has met all others and then looked
pub has_seen : (home : Home) (seat at next begin : Seated) (all : List Worked) (many : ℕ) (keys : List (List ℕ)) (first : State) (last left : Seated) (pairs : Contents) (words : List ℕ) → at ≡ seat → begin ≡ next → seat.home ≡ home → next.home ≡ at.home → next.client ≡ at.client
    → many ≡ length all → ((i : ℕ) (d : Worked) → i < many → Begins (slice_index_or all i d).seat.front next.front) → Longer (MayFollow at.home.setting) at.client at.front next.front
    → Looks keys begin first last pairs → ReadNexts last home.setting.geometry.nodes left words → HasSeen home seat all keys left pairs words
has_seen home seat at next begin all many keys first last left pairs words is kept here same own counted met only looks reads = record {
  begin = begin;
  home_is = ap (λ (s : Seated). s.home) kept ∙ same ∙ ap (λ (s : Seated). s.home) is ∙ here;
  client = ap (λ (s : Seated). s.client) kept ∙ own ∙ ap (λ (s : Seated). s.client) is;
  only = subst (λ (s : Seated). Longer (MayFollow home.setting) seat.client seat.front s.front) (sym kept)
      (subst (λ (h : Home). Longer (MayFollow h.setting) seat.client seat.front next.front) here (subst (λ (s : Seated). Longer (MayFollow s.home.setting) s.client s.front next.front) is only));
  met = λ i d low. subst (λ (s : Seated). Begins (slice_index_or all i d).seat.front s.front) (sym kept) (met i d (omega (arith, counted, low)));
  first = first;
  last = last;
  looks = looks;
  reads = reads;
}
