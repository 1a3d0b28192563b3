-- How the kind of an entry is read from the log before it, and what one entry more says of an address.
use Rattle.std.proofs.Common.{◌≡◌, ℕ, ◌+◌, ◌-◌, ◌%◌, List, ◌∷◌, reverse, take, Bool, true, false, cond, not, ◌&&◌, ◌||◌, Option, Some, None, refl, sym, ap, ◌∙◌, arith}
use Rattle.std.specs.Prelude.{◌==◌, nat_le, nat_lt, slice_get}
use Rattle.std.proofs.lemmas.Bool.Decides.{nat_tests}
use Rattle.node_words.specs.declared.geometry.Geometry.{Geometry}
use Rattle.node_words.specs.Addresses.{node_size, node_of, table_words}
use Rattle.node_words.specs.Roles.{Role as WordRole, NextWord, DepthWord, DirectoryWord, BirthWord, HeaderWord, LockWord, ReservedWord, ChildWord, BucketWord, SlotWord, HeapWord, role_in, offset_role, outer_role}
use Rattle.node_words.proofs.RoleLemmas.{next_in}
use Rattle.verb_log.specs.declared.entry.Entry.{Entry}
use Rattle.verb_log.specs.declared.kind.Kind.{Kind}
use Rattle.verb_log.specs.declared.role.Role.{Role}
use Rattle.verb_log.specs.declared.role.Role.TheVariants.{Next, Child, Slot}
use Rattle.verb_log.specs.declared.standing.Standing.{Standing}
use Rattle.verb_log.specs.Decoded.{content}
use Rattle.verb_log.specs.Tables.{Past, is_among, is_address, or_else, covers, links, moves_across, publishes, may_store, judged, table_of, is_taken, is_published, role, judged_role}
use Rattle.verb_log.specs.Kinds.{kind, kind_of_role}
use Rattle.verb_log.specs.Replay.{kind_of_some, kind_at}
use Rattle.verb_log.specs.PlainRoles.{plain_role}
use Rattle.verb_log.specs.PlainKinds.{kind_of_plain}
use Rattle.verb_log.specs.Standings.{standing_of, role_there, judged_there, plain_links, plain_moves, plain_publishes, next_standing, may_reach}
use Rattle.verb_log.proofs.Positions.{position_next}

-- the table of kinds asks for no number of a role
pub plain_kind : (g : Geometry) (past : Past) (e : Entry) (r : WordRole) → kind_of_role g past e r ≡ kind_of_plain g (may_store g past e.at) e (plain_role r)
plain_kind g past e (NextWord k) = refl
plain_kind g past e DepthWord = refl
plain_kind g past e (DirectoryWord j) = refl
plain_kind g past e (BirthWord t) = refl
plain_kind g past e (HeaderWord t) = refl
plain_kind g past e (LockWord t) = refl
plain_kind g past e ReservedWord = refl
plain_kind g past e (ChildWord t i) = refl
plain_kind g past e (BucketWord t m) = refl
plain_kind g past e (SlotWord t p) = refl
plain_kind g past e HeapWord = refl

-- nor does what an entry links, takes and publishes
links_plainly : (g : Geometry) (e : Entry) (r : WordRole) (a : ℕ) → (links g e r && is_among e.new (table_words g) a) ≡ plain_links g e (plain_role r) a
links_plainly g e (NextWord k) a = refl
links_plainly g e DepthWord a = refl
links_plainly g e (DirectoryWord j) a = refl
links_plainly g e (BirthWord t) a = refl
links_plainly g e (HeaderWord t) a = refl
links_plainly g e (LockWord t) a = refl
links_plainly g e ReservedWord a = refl
links_plainly g e (ChildWord t i) a = refl
links_plainly g e (BucketWord t m) a = refl
links_plainly g e (SlotWord t p) a = refl
links_plainly g e HeapWord a = refl

moves_plainly : (g : Geometry) (e : Entry) (r : WordRole) (a : ℕ) → moves_across g e r a ≡ plain_moves g e (plain_role r) a
moves_plainly g e (NextWord k) a = refl
moves_plainly g e DepthWord a = refl
moves_plainly g e (DirectoryWord j) a = refl
moves_plainly g e (BirthWord t) a = refl
moves_plainly g e (HeaderWord t) a = refl
moves_plainly g e (LockWord t) a = refl
moves_plainly g e ReservedWord a = refl
moves_plainly g e (ChildWord t i) a = refl
moves_plainly g e (BucketWord t m) a = refl
moves_plainly g e (SlotWord t p) a = refl
moves_plainly g e HeapWord a = refl

publishes_plainly : (g : Geometry) (e : Entry) (r : WordRole) (a : ℕ) → publishes g e r a ≡ plain_publishes g e (plain_role r) a
publishes_plainly g e (NextWord k) a = refl
publishes_plainly g e DepthWord a = refl
publishes_plainly g e (DirectoryWord j) a = refl
publishes_plainly g e (BirthWord t) a = refl
publishes_plainly g e (HeaderWord t) a = refl
publishes_plainly g e (LockWord t) a = refl
publishes_plainly g e ReservedWord a = refl
publishes_plainly g e (ChildWord t i) a = refl
publishes_plainly g e (BucketWord t m) a = refl
publishes_plainly g e (SlotWord t p) a = refl
publishes_plainly g e HeapWord a = refl

-- what an entry reaches, by what is said of its word
pub reach_links : (g : Geometry) (past : Past) (e : Entry) (there : Standing) (a : ℕ) → there ≡ standing_of g past e.at → plain_links g e (judged_there g there e.at) a ≡ (links g e (judged_role g past e.at) && is_among e.new (table_words g) a)
reach_links g past e there a is = ap (λ (s : Standing). plain_links g e (judged_there g s e.at) a) is ∙ sym (links_plainly g e (judged_role g past e.at) a)

pub reach_moves : (g : Geometry) (past : Past) (e : Entry) (there : Standing) (a : ℕ) → there ≡ standing_of g past e.at → plain_moves g e (judged_there g there e.at) a ≡ moves_across g e (judged_role g past e.at) a
reach_moves g past e there a is = ap (λ (s : Standing). plain_moves g e (judged_there g s e.at) a) is ∙ sym (moves_plainly g e (judged_role g past e.at) a)

pub reach_publishes : (g : Geometry) (past : Past) (e : Entry) (there : Standing) (a : ℕ) → there ≡ standing_of g past e.at → plain_publishes g e (role_there g there e.at) a ≡ publishes g e (role g past e.at) a
reach_publishes g past e there a is = ap (λ (s : Standing). plain_publishes g e (role_there g s e.at) a) is ∙ sym (publishes_plainly g e (role g past e.at) a)

standings : Option ℕ → Bool → Bool → Standing
standings t x y = record { table = t; taken = x; published = y }

same_standings : {t u : Option ℕ} {x v y w : Bool} → t ≡ u → x ≡ v → y ≡ w → standings t x y ≡ standings u v w
same_standings p q r = cc

pub standing_is : (g : Geometry) (past : Past) (a : ℕ) {t : Option ℕ} {x y : Bool} → t ≡ table_of g past a → x ≡ is_taken g past a → y ≡ is_published g past a → (let s : Standing = record { table = t; taken = x; published = y } in s) ≡ standing_of g past a
unfolding standings
standing_is g past a p q r = same_standings p q r

-- the role of a word, by its table
pub role_inside : (g : Geometry) (a t : ℕ) (o : Option ℕ) → o ≡ Some t → role_in g a o ≡ offset_role t (a - t)
unfolding role_in
role_inside g a t o h = ap (role_in g a) h

pub role_outside : (g : Geometry) (a : ℕ) (o : Option ℕ) → o ≡ None → role_in g a o ≡ outer_role g a
unfolding role_in
role_outside g a o h = ap (role_in g a) h

-- one entry more
pub standing_next : (g : Geometry) (past : Past) (e : Entry) (there s : Standing) (a : ℕ) → there ≡ standing_of g past e.at → s ≡ standing_of g past a → next_standing g e there s a ≡ standing_of g (e ∷ past) a
unfolding standings
standing_next g past e there s a is own = same_standings
    (ap (λ (x : Standing). or_else x.table (cond (plain_links g e (judged_there g there e.at) a) (Some e.new) None)) own
    ∙ ap (λ (b : Bool). or_else (standing_of g past a).table (cond b (Some e.new) None)) (reach_links g past e there a is))
    (ap (λ (x : Standing). plain_moves g e (judged_there g there e.at) a || x.taken) own ∙ ap (λ (b : Bool). b || (standing_of g past a).taken) (reach_moves g past e there a is))
    (ap (λ (x : Standing). plain_publishes g e (role_there g there e.at) a || x.published) own ∙ ap (λ (b : Bool). b || (standing_of g past a).published) (reach_publishes g past e there a is))

-- an entry that may not reach an address, whatever the role of its word, says nothing of it
unreached_links : (g : Geometry) (e : Entry) (r : Role) (a : ℕ) → (is_address g e.new && is_among e.new (table_words g) a) ≡ false → plain_links g e r a ≡ false
unreached_links g e Child a h = by (e.old == 0) (is_address g e.new) (is_among e.new (table_words g) a) h
  where
    by : (x y z : Bool) → (y && z) ≡ false → ((x && y) && z) ≡ false
    by true y z h = h
    by false y z h = refl
unreached_links g e _ a h = refl

-- a word that the table of kinds takes for a next word is the first of its node
next_word : (r : WordRole) → plain_role r ≡ Next → (k : ℕ) × (r ≡ NextWord k)
next_word (NextWord k) h = (k, refl)
next_word DepthWord h = absurd (cc)
next_word (DirectoryWord j) h = absurd (cc)
next_word (BirthWord t) h = absurd (cc)
next_word (HeaderWord t) h = absurd (cc)
next_word (LockWord t) h = absurd (cc)
next_word ReservedWord h = absurd (cc)
next_word (ChildWord t i) h = absurd (cc)
next_word (BucketWord t m) h = absurd (cc)
next_word (SlotWord t p) h = absurd (cc)
next_word HeapWord h = absurd (cc)

next_first : (g : Geometry) (a : ℕ) (o : Option ℕ) (x y : Bool) → plain_role (judged x y (role_in g a o)) ≡ Next → a % node_size g ≡ 0
next_first g a o x y h = by (x && not y) h
  where
    by : (b : Bool) → plain_role (cond b HeapWord (role_in g a o)) ≡ Next → a % node_size g ≡ 0
    by true h = absurd (cc)
    by false h = let k = next_word (role_in g a o) h in (next_in g a o k.0 k.1).1

unreached_moves : (g : Geometry) (e : Entry) (r : Role) (a : ℕ) → (r ≡ Next → e.at % node_size g ≡ 0) → ((e.at % node_size g == 0) && nat_le e.old a && nat_lt a e.new) ≡ false → plain_moves g e r a ≡ false
unreached_moves g e Next a first h = by (e.at % node_size g == 0) (nat_le e.old a) (nat_lt a e.new) (node_of g a == node_of g e.at) (let z = first refl in grind (arith, nat_tests)) h
  where
    by : (f x y z : Bool) → f ≡ true → (f && x && y) ≡ false → (x && y && z) ≡ false
    by true true true z t h = absurd (cc)
    by true true false z t h = refl
    by true false y z t h = refl
    by false x y z t h = absurd (cc)
unreached_moves g e _ a first h = refl

unreached_publishes : (g : Geometry) (e : Entry) (r : Role) (a : ℕ) → (is_address g e.new && is_among e.new (table_words g) a) ≡ false → covers (content e.new) a ≡ false → plain_publishes g e r a ≡ false
unreached_publishes g e Slot a h k = k
unreached_publishes g e Child a h k = h
unreached_publishes g e _ a h k = refl

or_parts : (x y z : Bool) → (x || y || z) ≡ false → (x ≡ false) × (y ≡ false) × (z ≡ false)
or_parts true y z h = absurd (cc)
or_parts false true z h = absurd (cc)
or_parts false false z h = (refl, refl, h)

pub unreached : (g : Geometry) (e : Entry) (there s : Standing) (a : ℕ) → may_reach g e a ≡ false → next_standing g e there s a ≡ s
unfolding standings
unreached g e there s a h =
    let p = or_parts (is_address g e.new && is_among e.new (table_words g) a) ((e.at % node_size g == 0) && nat_le e.old a && nat_lt a e.new) (covers (content e.new) a) h in
    same_standings
    (ap (λ (b : Bool). or_else s.table (cond b (Some e.new) None)) (unreached_links g e (judged_there g there e.at) a p.0) ∙ none s.table)
    (ap (λ (b : Bool). b || s.taken) (unreached_moves g e (judged_there g there e.at) a (next_first g e.at there.table there.taken there.published) p.1))
    (ap (λ (b : Bool). b || s.published) (unreached_publishes g e (role_there g there e.at) a p.0 p.2))
  where
    none : (o : Option ℕ) → or_else o None ≡ o
    none None = refl
    none (Some t) = refl

-- of a log in order, behind the entry of a number
pub standing_on : (g : Geometry) (l : List Entry) (k : ℕ) (e : Entry) (there s : Standing) (a : ℕ) → slice_get l k ≡ Some e → there ≡ standing_of g (reverse (take k l)) e.at → s ≡ standing_of g (reverse (take k l)) a → next_standing g e there s a ≡ standing_of g (reverse (take (k + 1) l)) a
standing_on g l k e there s a at is own = standing_next g (reverse (take k l)) e there s a is own ∙ sym (ap (λ (p : Past). standing_of g p a) (position_next l k e at))

pub standing_same : (g : Geometry) (l : List Entry) (k : ℕ) (e : Entry) (s : Standing) (a : ℕ) → slice_get l k ≡ Some e → may_reach g e a ≡ false → s ≡ standing_of g (reverse (take k l)) a → s ≡ standing_of g (reverse (take (k + 1) l)) a
standing_same g l k e s a at h own = sym (unreached g e (standing_of g (reverse (take k l)) e.at) s a h) ∙ standing_on g l k e (standing_of g (reverse (take k l)) e.at) s a at refl own

-- the kind of an entry, by what is said of its word
pub kind_said : (g : Geometry) (past : Past) (e : Entry) (s : Standing) → s ≡ standing_of g past e.at → kind_of_plain g (may_store g past e.at) e (judged_there g s e.at) ≡ kind g past e
kind_said g past e s is = ap (λ (x : Standing). kind_of_plain g (may_store g past e.at) e (judged_there g x e.at)) is ∙ sym (plain_kind g past e (judged_role g past e.at))

pub kind_there : (g : Geometry) (l : List Entry) (n : ℕ) (e : Entry) (s : Standing) (k : Option Kind) → slice_get l n ≡ Some e → s ≡ standing_of g (reverse (take n l)) e.at → k ≡ kind_of_plain g (s.taken && not s.published) e (judged_there g s e.at) → k ≡ kind_at g l n
kind_there g l n e s k there is said =
    said
    ∙ ap (λ (x : Standing). kind_of_plain g (x.taken && not x.published) e (judged_there g s e.at)) is
    ∙ kind_said g (reverse (take n l)) e s is
    ∙ sym (ap (kind_of_some g (reverse (take n l))) there)
