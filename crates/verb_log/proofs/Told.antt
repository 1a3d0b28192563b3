-- What the index tells, and how it is kept by one more entry.
use Rattle.std.proofs.Common.{◌≡◌, ℕ, ◌<◌, ◌≤◌, List, [], ◌∷◌, length, reverse, take, get_or, Bool, true, false, cond, ◌||◌, ◌&&◌, suc, Option, Some, None, refl, sym, ap, subst, ◌∙◌, arith}
use Rattle.std.specs.Prelude.{nat_lt, slice_get, option_map, IfSome}
use Rattle.std.proofs.lemmas.List.{reverse-reverse, get_or_default}
use Rattle.std.proofs.lemmas.Option.{get_or_from_slice_get}
use Rattle.std.proofs.lemmas.Bool.Decides.{nat_tests}
use Rattle.node_words.specs.declared.geometry.Geometry.{Geometry}
use Rattle.node_words.specs.Addresses.{table_words}
use Rattle.node_words.specs.Roles.{first_table_of}
use Rattle.verb_log.specs.declared.entry.Entry.{Entry}
use Rattle.verb_log.specs.declared.standing.Standing.{Standing}
use Rattle.verb_log.specs.declared.reach.Span.{Span}
use Rattle.verb_log.specs.declared.reach.Reach.{Reach}
use Rattle.verb_log.specs.Tables.{Past, Before, here, later, is_among, or_else, links, moves_across, publishes, table_of, is_taken, is_published, role, judged_role}
use Rattle.verb_log.specs.Links.{Link, older, link_of, table_then, take_of, publish_of, was_before}
use Rattle.verb_log.specs.Standings.{standing_of, in_span, Reaches}
use Rattle.verb_log.specs.Indexed.{TellsOf, link_number, told_number}
use Rattle.verb_log.proofs.Positions.{Before-prefix, length-position, position_take}
use Rattle.verb_log.proofs.Linked.{link_entry, table_take, table_low}
use Rattle.verb_log.proofs.Judged.{reach_links, reach_moves, reach_publishes}

-- a number that is told is that of the link
pub linked_number : (o : Option Link) (m : ℕ) → Some m ≡ option_map (λ (link : Link). link.number) o → (k : Link) × (o ≡ Some k) × (m ≡ k.number)
linked_number None m h = absurd (cc)
linked_number (Some k) m h = (k, refl, cc)

-- the table of the entry whose number is told for a word
pub told_table : (g : Geometry) (l : List Entry) (list : List (Option ℕ)) (a n m : ℕ) (o : Option ℕ) (e : Entry) → TellsOf (link_number g (reverse l)) list → a < length list → o ≡ get_or list a o → o ≡ Some m → m < n → e ≡ get_or l m e → Some e.new ≡ table_then n (link_of g (reverse l) a)
told_table g l list a n m o e tells within read is less entry =
    let told : Some m ≡ option_map (λ (link : Link). link.number) (link_of g (reverse l) a) = sym is ∙ read ∙ get_or_default list a o None within ∙ tells a within in
    let k = linked_number (link_of g (reverse l) a) m told in
    let x = link_entry g (reverse l) a k.0 k.1 in
    let there : slice_get l k.0.number ≡ Some x.entry = ap (λ (z : List Entry). slice_get z k.0.number) (sym (reverse-reverse l)) ∙ x.there in
    let same : e ≡ x.entry = entry ∙ ap (λ (i : ℕ). get_or l i e) k.2 ∙ get_or_from_slice_get l k.0.number x.entry e there in
    let seen : table_then n (link_of g (reverse l) a) ≡ Some k.0.table = ap (table_then n) k.1 ∙ below k.0.number n k.0.table (subst (λ (i : ℕ). i < n) k.2 less) in
    ap (λ (z : Entry). Some z.new) same ∙ ap (λ (t : ℕ). Some t) x.table ∙ sym seen
  where
    below : (i n t : ℕ) → i < n → cond (nat_lt i n) (Some t) None ≡ Some t
    below i n t h = grind (arith, nat_tests)

-- an address in no first table has the table of its link
pub table_by_link : (g : Geometry) (l : List Entry) (n a : ℕ) (o : Option ℕ) → n ≤ length l → first_table_of g a ≡ None → o ≡ table_then n (link_of g (reverse l) a) → o ≡ table_of g (reverse (take n l)) a
table_by_link g l n a o h none is = is ∙ sym (table_take g l n a h ∙ ap (λ (f : Option ℕ). or_else f (table_then n (link_of g (reverse l) a))) none)

pub low_table : (g : Geometry) (p : Past) (a : ℕ) (o : Option ℕ) → o ≡ table_of g p a → IfSome o (λ (t : ℕ). t ≤ a)
low_table g p a None h = tt
low_table g p a (Some t) h = table_low g p a t (sym h)

-- a number that is told is below the log's length
number_below : (b : Bool) (m n : ℕ) (o : Option ℕ) → ((k : ℕ) → o ≡ Some k → k < m) → or_else o (cond b (Some m) None) ≡ Some n → n ≤ m
number_below b m n (Some k) low h = let x = low k refl in let e : k ≡ n = cc in omega arith
number_below true m n None low h = let e : m ≡ n = cc in omega arith
number_below false m n None low h = absurd (cc)

pub take_below : (g : Geometry) (past : Past) (a n : ℕ) → take_of g past a ≡ Some n → n < length past
take_below g [] a n h = absurd (cc)
take_below g (e ∷ past) a n h = let x = number_below (moves_across g e (judged_role g past e.at) a) (length past) n (take_of g past a) (take_below g past a) h in omega arith

pub publish_below : (g : Geometry) (past : Past) (a n : ℕ) → publish_of g past a ≡ Some n → n < length past
publish_below g [] a n h = absurd (cc)
publish_below g (e ∷ past) a n h = let x = number_below (publishes g e (role g past e.at) a) (length past) n (publish_of g past a) (publish_below g past a) h in omega arith

-- one entry more: at the positions before it, and behind it
before_older : (b : Bool) (n m : ℕ) (o : Option ℕ) → n ≤ m → was_before n (or_else o (cond b (Some m) None)) ≡ was_before n o
before_older b n m (Some k) h = refl
before_older true n m None h = grind (arith, nat_tests)
before_older false n m None h = refl

before_now : (b : Bool) (m : ℕ) (o : Option ℕ) → ((k : ℕ) → o ≡ Some k → k < m) → (b || was_before m o) ≡ was_before (suc m) (or_else o (cond b (Some m) None))
before_now b m (Some k) low = let x : k < m = low k refl in now b (nat_lt k m) (nat_lt k (suc m)) (grind (arith, nat_tests)) (grind (arith, nat_tests))
  where
    now : (b x y : Bool) → x ≡ true → y ≡ true → (b || x) ≡ y
    now true x y p q = sym q
    now false x y p q = p ∙ sym q
before_now true m None low = grind (arith, nat_tests)
before_now false m None low = refl

-- what was taken at the end of a log, and at each position of it
taken_end : (g : Geometry) (past : Past) (a : ℕ) → is_taken g past a ≡ was_before (length past) (take_of g past a)
taken_end g [] a = refl
taken_end g (e ∷ past) a =
    ap (λ (x : Bool). moves_across g e (judged_role g past e.at) a || x) (taken_end g past a)
    ∙ before_now (moves_across g e (judged_role g past e.at) a) (length past) (take_of g past a) (take_below g past a)

taken_then : (g : Geometry) (p q : Past) (a : ℕ) → Before p q → is_taken g p a ≡ was_before (length p) (take_of g q a)
taken_then g p q' a here = taken_end g p a
taken_then g p (e ∷ q) a (later b) =
    taken_then g p q a b ∙ sym (before_older (moves_across g e (judged_role g q e.at) a) (length p) (length q) (take_of g q a) (position_take p q b).0)

published_end : (g : Geometry) (past : Past) (a : ℕ) → is_published g past a ≡ was_before (length past) (publish_of g past a)
published_end g [] a = refl
published_end g (e ∷ past) a =
    ap (λ (x : Bool). publishes g e (role g past e.at) a || x) (published_end g past a)
    ∙ before_now (publishes g e (role g past e.at) a) (length past) (publish_of g past a) (publish_below g past a)

published_then : (g : Geometry) (p q : Past) (a : ℕ) → Before p q → is_published g p a ≡ was_before (length p) (publish_of g q a)
published_then g p q' a here = published_end g p a
published_then g p (e ∷ q) a (later b) =
    published_then g p q a b ∙ sym (before_older (publishes g e (role g q e.at) a) (length p) (length q) (publish_of g q a) (position_take p q b).0)

-- of a log in order, by the lists
pub told_taken : (g : Geometry) (l : List Entry) (list : List (Option ℕ)) (n a : ℕ) (o : Option ℕ) → TellsOf (take_of g (reverse l)) list → a < length list → n ≤ length l → o ≡ get_or list a o → was_before n o ≡ is_taken g (reverse (take n l)) a
told_taken g l list n a o tells within h read =
    ap (was_before n) (read ∙ get_or_default list a o None within ∙ tells a within)
    ∙ sym (taken_then g (reverse (take n l)) (reverse l) a (Before-prefix l n) ∙ ap (λ (k : ℕ). was_before k (take_of g (reverse l) a)) (length-position l n h))

pub told_published : (g : Geometry) (l : List Entry) (list : List (Option ℕ)) (n a : ℕ) (o : Option ℕ) → TellsOf (publish_of g (reverse l)) list → a < length list → n ≤ length l → o ≡ get_or list a o → was_before n o ≡ is_published g (reverse (take n l)) a
told_published g l list n a o tells within h read =
    ap (was_before n) (read ∙ get_or_default list a o None within ∙ tells a within)
    ∙ sym (published_then g (reverse (take n l)) (reverse l) a (Before-prefix l n) ∙ ap (λ (k : ℕ). was_before k (publish_of g (reverse l) a)) (length-position l n h))

-- each list, told of one entry more
told_next : (before after : List (Option ℕ)) (span : Span) (number : ℕ) (was now : ℕ → Option ℕ) (reached : ℕ → Bool) → TellsOf was before → length after ≡ length before → ((a : ℕ) → a < length before → get_or after a None ≡ told_number span number before a) → ((a : ℕ) → in_span span a ≡ reached a) → ((a : ℕ) → or_else (was a) (cond (reached a) (Some number) None) ≡ now a) → TellsOf now after
told_next before after span number was now reached tells long told reaches next a within =
    let w : a < length before = omega arith in
    told a w ∙ ap (λ (o : Option ℕ). or_else o (cond (in_span span a) (Some number) None)) (tells a w) ∙ ap (λ (b : Bool). or_else (was a) (cond b (Some number) None)) (reaches a) ∙ next a

link_older : (o : Option Link) (b : Bool) (m t : ℕ) → or_else (option_map (λ (link : Link). link.number) o) (cond b (Some m) None) ≡ option_map (λ (link : Link). link.number) (older o (cond b (Some (record { number = m; table = t })) None))
link_older None true m t = refl
link_older None false m t = refl
link_older (Some k) b m t = refl

-- the three lists, told of an entry that follows the log
module _ (g : Geometry) (l : List Entry) (e : Entry) (there : Standing) (reach : Reach) (number : ℕ) (is : there ≡ standing_of g (reverse l) e.at) (reaches : Reaches g e there reach) (n : number ≡ length (reverse l)) where
  numbered : (o : Option ℕ) (b : Bool) → or_else o (cond b (Some number) None) ≡ or_else o (cond b (Some (length (reverse l))) None)
  numbered o b = ap (λ (k : ℕ). or_else o (cond b (Some k) None)) n

  pub linked_next : (before after : List (Option ℕ)) → TellsOf (link_number g (reverse l)) before → length after ≡ length before → ((a : ℕ) → a < length before → get_or after a None ≡ told_number reach.linked number before a) → TellsOf (link_number g (e ∷ reverse l)) after
  linked_next before after tells long told =
      told_next before after reach.linked number (link_number g (reverse l)) (link_number g (e ∷ reverse l)) (λ a. links g e (judged_role g (reverse l) e.at) && is_among e.new (table_words g) a) tells long told
      (λ a. reaches.linked a ∙ reach_links g (reverse l) e there a is)
      (λ a. numbered (link_number g (reverse l) a) (links g e (judged_role g (reverse l) e.at) && is_among e.new (table_words g) a) ∙ link_older (link_of g (reverse l) a) (links g e (judged_role g (reverse l) e.at) && is_among e.new (table_words g) a) (length (reverse l)) e.new)

  pub taken_next : (before after : List (Option ℕ)) → TellsOf (take_of g (reverse l)) before → length after ≡ length before → ((a : ℕ) → a < length before → get_or after a None ≡ told_number reach.taken number before a) → TellsOf (take_of g (e ∷ reverse l)) after
  taken_next before after tells long told =
      told_next before after reach.taken number (take_of g (reverse l)) (take_of g (e ∷ reverse l)) (moves_across g e (judged_role g (reverse l) e.at)) tells long told
      (λ a. reaches.taken a ∙ reach_moves g (reverse l) e there a is)
      (λ a. numbered (take_of g (reverse l) a) (moves_across g e (judged_role g (reverse l) e.at) a))

  pub published_next : (before after : List (Option ℕ)) → TellsOf (publish_of g (reverse l)) before → length after ≡ length before → ((a : ℕ) → a < length before → get_or after a None ≡ told_number reach.published number before a) → TellsOf (publish_of g (e ∷ reverse l)) after
  published_next before after tells long told =
      told_next before after reach.published number (publish_of g (reverse l)) (publish_of g (e ∷ reverse l)) (publishes g e (role g (reverse l) e.at)) tells long told
      (λ a. reaches.published a ∙ reach_publishes g (reverse l) e there a is)
      (λ a. numbered (publish_of g (reverse l) a) (publishes g e (role g (reverse l) e.at) a))
