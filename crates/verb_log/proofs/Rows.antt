-- The table of kinds answers a kind exactly where its row fits.
use Rattle.std.proofs.Common.{◌≡◌, ◌≢◌, ℕ, ◌+◌, ◌≤◌, ◌⊎◌, inl, inr, le_refl, Bool, true, false, not, cond, ◌&&◌, Option, Some, None, refl, sym, ap, subst, ◌∙◌, arith}
use Rattle.std.specs.Prelude.{◌==◌, nat_lt}
use Rattle.std.proofs.lemmas.Bool.Decides.{nat_tests}
use Rattle.node_words.specs.declared.geometry.Geometry.{Geometry}
use Rattle.node_words.specs.Roles.{Role as WordRole, NextWord, DepthWord, DirectoryWord, BirthWord, HeaderWord, LockWord, ReservedWord, ChildWord, BucketWord, SlotWord, HeapWord}
use Rattle.slot_word.specs.declared.slots.Mark.TheVariants.{Live, Pending, Copied, Moved}
use Rattle.slot_word.specs.declared.slots.Slot.{Slot as SlotRead}
use Rattle.slot_word.specs.Slots.{slot_of}
use Rattle.verb_log.specs.declared.entry.Entry.{Entry}
use Rattle.verb_log.specs.declared.kind.Kind.{Kind}
use Rattle.verb_log.specs.declared.kind.Kind.TheVariants.{Store, Take, Place, Drop, Commit, Replace, Remove, Lock, Unlock, Link, Begin, Open, Copy, Uncopy, Flip, Settle, Clear, Finish, Close, Ripen, Name, Deepen}
use Rattle.verb_log.specs.Decoded.{Body, Content, Empty, Full, content, content_of, Header, PlainAt, SplittingAt, FillingAt, header}
use Rattle.verb_log.specs.Tables.{Past, is_address, is_taken, is_published, may_store, role}
use Rattle.verb_log.specs.Kinds.{same_body, other_block, only_if, slot_kind, header_kind, bucket_kind, lock_kind, kind_of_role, kind}
use Rattle.verb_log.specs.PlainRoles.{plain_role}
use Rattle.verb_log.specs.PlainKinds.{kind_of_plain}
use Rattle.verb_log.specs.Laws.{RowsAreKinds, NoRowNoKind, OneRow}
use Rattle.verb_log.specs.declared.role.Role.TheVariants.{Slot, Header as HeaderRole, Bucket, Heap}
use Rattle.verb_log.specs.Fits.{Fits, IsAddress, row_number, IsFirstRow}
use Rattle.verb_log.proofs.Judged.{plain_kind}

-- the empty word, and no other, is empty
pub content_zero : (w : ℕ) → w ≡ 0 → content w ≡ Empty
unfolding content
content_zero w h = grind (arith, nat_tests)

pub content_some : (o : Option SlotRead) → content_of o ≢ Empty
content_some (Some s) h = cc
content_some None h = cc

pub content_empty : (w : ℕ) → content w ≡ Empty → w ≡ 0
unfolding content
content_empty w h = by (w == 0) refl
  where
    by : (b : Bool) → (w == 0) ≡ b → w ≡ 0
    by true t = grind (arith, nat_tests)
    by false t = absurd (content_some (slot_of w) (sym (ap (λ (b : Bool). cond b Empty (content_of (slot_of w))) t) ∙ h))

-- two blocks named in the same way
made_body : ℕ → ℕ → ℕ → Body
made_body p l a = record { print = p; length = l; at = a }

parts_same : (p l a q m b : ℕ) → p ≡ q → l ≡ m → a ≡ b → made_body p l a ≡ made_body q m b
parts_same p l a q m b x y z = cc

body_parts : (b : Body) → b ≡ made_body b.print b.length b.at
unfolding made_body
body_parts b = refl

pub same_bodies : (b c : Body) → same_body b c ≡ true → b ≡ c
same_bodies b c h =
    let p : b.print ≡ c.print = grind (arith, nat_tests) in
    let l : b.length ≡ c.length = grind (arith, nat_tests) in
    let a : b.at ≡ c.at = grind (arith, nat_tests) in
    body_parts b ∙ parts_same b.print b.length b.at c.print c.length c.at p l a ∙ sym (body_parts c)

pub same_body_own : (b : Body) → same_body b b ≡ true
same_body_own b = grind (arith, nat_tests)

pub other_blocks : (b c : Body) → other_block b c ≡ true → b.at ≢ c.at
other_blocks b c h e = grind (arith, nat_tests)

pub other_block_is : (b c : Body) → b.at ≢ c.at → other_block b c ≡ true
other_block_is b c h = grind (arith, nat_tests)

pub first_true : (b c : Bool) → (b && not c) ≡ true → b ≡ true
first_true true c h = refl
first_true false c h = absurd (cc)

pub second_false : (b c : Bool) → (b && not c) ≡ true → c ≡ false
second_false b true h = absurd (by b h)
  where
    by : (b : Bool) → (b && not true) ≡ true → ⊥
    by true h = cc
    by false h = cc
second_false b false h = refl

-- an address that may be named, by its test
pub address_is : (g : Geometry) (w : ℕ) → is_address g w ≡ true → IsAddress g w
address_is g w h = (λ z. grind (arith, nat_tests), grind (arith, nat_tests))

pub address_test : (g : Geometry) (w : ℕ) → IsAddress g w → is_address g w ≡ true
address_test g w h = let n = h.0 in let l = h.1 in grind (arith, nat_tests)

both : (x y : Bool) → (x && y) ≡ true → y ≡ true
both true y h = h
both false y h = absurd (cc)

some_same : {j k : Kind} → Some j ≡ Some k → j ≡ k
some_same h = cc

-- the first row is Store
row_zero : (k : Kind) → row_number k ≤ row_number Store → k ≡ Store
row_zero Store h = refl
row_zero Take h = absurd (omega arith)
row_zero Place h = absurd (omega arith)
row_zero Drop h = absurd (omega arith)
row_zero Commit h = absurd (omega arith)
row_zero Replace h = absurd (omega arith)
row_zero Remove h = absurd (omega arith)
row_zero Lock h = absurd (omega arith)
row_zero Unlock h = absurd (omega arith)
row_zero Link h = absurd (omega arith)
row_zero Begin h = absurd (omega arith)
row_zero Open h = absurd (omega arith)
row_zero Copy h = absurd (omega arith)
row_zero Uncopy h = absurd (omega arith)
row_zero Flip h = absurd (omega arith)
row_zero Settle h = absurd (omega arith)
row_zero Clear h = absurd (omega arith)
row_zero Finish h = absurd (omega arith)
row_zero Close h = absurd (omega arith)
row_zero Ripen h = absurd (omega arith)
row_zero Name h = absurd (omega arith)
row_zero Deepen h = absurd (omega arith)

-- a kind has its row, and no kind has none
abbrev RowOf : Geometry → Past → Entry → WordRole → Option Kind → Type 0
RowOf g past e r None = Unit {0}
RowOf g past e r (Some k) = Fits g past e r k

row_if : (g : Geometry) (past : Past) (e : Entry) (r : WordRole) (b : Bool) (k : Kind) → (b ≡ true → Fits g past e r k) → RowOf g past e r (only_if b k)
row_if g past e r true k f = f refl
row_if g past e r false k f = tt

module _ (g : Geometry) (past : Past) (e : Entry) where
  slot_row : (t p : ℕ) (c d : Content) → content e.old ≡ c → content e.new ≡ d → RowOf g past e (SlotWord t p) (slot_kind c d)
  slot_row t p Empty (Full Pending b) o n = (refl, content_empty e.old o, (b, n))
  slot_row t p Empty (Full Copied b) o n = (refl, inl (content_empty e.old o), (b, n))
  slot_row t p (Full Pending b) Empty o n = (refl, (b, o), content_empty e.new n)
  slot_row t p (Full Pending b) (Full Live c) o n = row_if g past e (SlotWord t p) (same_body b c) Commit (λ h. (refl, (b, o, n ∙ ap (Full Live) (sym (same_bodies b c h)))))
  slot_row t p (Full Live b) (Full Live c) o n = row_if g past e (SlotWord t p) (other_block b c) Replace (λ h. (refl, (b, c, o, n, other_blocks b c h)))
  slot_row t p (Full Live b) (Full Moved c) o n = row_if g past e (SlotWord t p) (same_body b c) Flip (λ h. (refl, (b, o, n ∙ ap (Full Moved) (sym (same_bodies b c h)))))
  slot_row t p (Full Live b) Empty o n = (refl, (b, o), content_empty e.new n)
  slot_row t p (Full Copied b) (Full Copied c) o n = (refl, inr (b, o), (c, n))
  slot_row t p (Full Copied b) (Full Live c) o n = row_if g past e (SlotWord t p) (same_body b c) Settle (λ h. (refl, (b, o, n ∙ ap (Full Live) (sym (same_bodies b c h)))))
  slot_row t p (Full Copied b) Empty o n = (refl, (b, o), content_empty e.new n)
  slot_row t p (Full Moved b) Empty o n = (refl, (b, o), content_empty e.new n)
  slot_row t p _ _ o n = tt

  header_row : (t : ℕ) (h k : Header) → header e.old ≡ h → header e.new ≡ k → RowOf g past e (HeaderWord t) (header_kind h k)
  header_row t (PlainAt d) (SplittingAt f) o n = row_if g past e (HeaderWord t) (f == d) Open (λ h. (refl, (d, o, n ∙ ap SplittingAt (let x : f ≡ d = grind (arith, nat_tests) in x))))
  header_row t (SplittingAt d) (PlainAt f) o n = row_if g past e (HeaderWord t) (f == d + 1) Finish (λ h. (refl, (d, o, n ∙ ap PlainAt (let x : f ≡ d + 1 = grind (arith, nat_tests) in x))))
  header_row t (FillingAt d) (PlainAt f) o n = row_if g past e (HeaderWord t) (f == d) Ripen (λ h. (inl refl, (d, o, n ∙ ap PlainAt (let x : f ≡ d = grind (arith, nat_tests) in x))))
  header_row t _ _ o n = tt

  bucket_row : (t m : ℕ) (h k : Header) → header e.old ≡ h → header e.new ≡ k → RowOf g past e (BucketWord t m) (bucket_kind h k)
  bucket_row t m (PlainAt d) (SplittingAt f) o n = row_if g past e (BucketWord t m) (f == d) Begin (λ h. (refl, (d, o, n ∙ ap SplittingAt (let x : f ≡ d = grind (arith, nat_tests) in x))))
  bucket_row t m (SplittingAt d) (PlainAt f) o n = row_if g past e (BucketWord t m) (f == d + 1) Close (λ h. (refl, (d, o, n ∙ ap PlainAt (let x : f ≡ d + 1 = grind (arith, nat_tests) in x))))
  bucket_row t m (FillingAt d) (PlainAt f) o n = row_if g past e (BucketWord t m) (f == d) Ripen (λ h. (inr refl, (d, o, n ∙ ap PlainAt (let x : f ≡ d = grind (arith, nat_tests) in x))))
  bucket_row t m _ _ o n = tt

  lock_row : (t : ℕ) → RowOf g past e (LockWord t) (lock_kind e)
  lock_row t = by ((e.old == 0) && (e.new == e.client + 1)) refl
    where
      by : (b : Bool) → ((e.old == 0) && (e.new == e.client + 1)) ≡ b → RowOf g past e (LockWord t) (cond b (Some Lock) (only_if ((e.old == e.client + 1) && (e.new == 0)) Unlock))
      by true h = (refl, grind (arith, nat_tests), grind (arith, nat_tests))
      by false h = row_if g past e (LockWord t) ((e.old == e.client + 1) && (e.new == 0)) Unlock (λ k. (refl, grind (arith, nat_tests), grind (arith, nat_tests)))

  rows : (r : WordRole) → RowOf g past e r (kind_of_role g past e r)
  rows (NextWord k) = row_if g past e (NextWord k) (nat_lt e.old e.new) Take (λ h. (refl, grind (arith, nat_tests)))
  rows DepthWord = row_if g past e DepthWord (e.new == e.old + 1) Deepen (λ h. (refl, grind (arith, nat_tests)))
  rows (DirectoryWord j) = row_if g past e (DirectoryWord j) (is_address g e.new) Name (λ h. (refl, address_is g e.new h))
  rows (BirthWord t) = tt
  rows (HeaderWord t) = header_row t (header e.old) (header e.new) refl refl
  rows (LockWord t) = lock_row t
  rows ReservedWord = tt
  rows (ChildWord t i) = row_if g past e (ChildWord t i) ((e.old == 0) && is_address g e.new) Link (λ h. (refl, grind (arith, nat_tests), address_is g e.new (both (e.old == 0) (is_address g e.new) h)))
  rows (BucketWord t m) = bucket_row t m (header e.old) (header e.new) refl refl
  rows (SlotWord t p) = slot_row t p (content e.old) (content e.new) refl refl
  rows HeapWord = row_if g past e HeapWord (may_store g past e.at) Store (λ h. (first_true (is_taken g past e.at) (is_published g past e.at) h, second_false (is_taken g past e.at) (is_published g past e.at) h))

  pub row_of : (r : WordRole) (k : Kind) → kind_of_role g past e r ≡ Some k → Fits g past e r k
  row_of r k h = subst (RowOf g past e r) h (rows r)

  -- and a row that fits is that of the kind
  slot_by : (c d : Content) → content e.old ≡ c → content e.new ≡ d → (r : WordRole) → plain_role r ≡ Slot → kind_of_role g past e r ≡ slot_kind c d
  slot_by c d o n r h = plain_kind g past e r ∙ ap (kind_of_plain g (may_store g past e.at) e) h ∙ ap (λ (x : Content). slot_kind x (content e.new)) o ∙ ap (slot_kind c) n

  header_by : (h k : Header) → header e.old ≡ h → header e.new ≡ k → (r : WordRole) → plain_role r ≡ HeaderRole → kind_of_role g past e r ≡ header_kind h k
  header_by h k o n r i = plain_kind g past e r ∙ ap (kind_of_plain g (may_store g past e.at) e) i ∙ ap (λ (x : Header). header_kind x (header e.new)) o ∙ ap (header_kind h) n

  bucket_by : (h k : Header) → header e.old ≡ h → header e.new ≡ k → (r : WordRole) → plain_role r ≡ Bucket → kind_of_role g past e r ≡ bucket_kind h k
  bucket_by h k o n r i = plain_kind g past e r ∙ ap (kind_of_plain g (may_store g past e.at) e) i ∙ ap (λ (x : Header). bucket_kind x (header e.new)) o ∙ ap (bucket_kind h) n

  if_so : (b : Bool) (k : Kind) → b ≡ true → only_if b k ≡ Some k
  if_so b k h = ap (λ (x : Bool). only_if x k) h

  own : (d : ℕ) → (d == d) ≡ true
  own d = grind (arith, nat_tests)

  -- a row that fits is Store, or that of the kind by the role
  kind_by_row : (r : WordRole) (k : Kind) → Fits g past e r k → (k ≡ Store) ⊎ (kind_of_role g past e r ≡ Some k)
  kind_by_row r Store f = inl refl
  kind_by_row r Take f = inr (plain_kind g past e r ∙ ap (kind_of_plain g (may_store g past e.at) e) f.0 ∙ if_so (nat_lt e.old e.new) Take (let h = f.1 in grind (arith, nat_tests)))
  kind_by_row r Place f = inr (slot_by Empty (Full Pending f.2.0) (content_zero e.old f.1) f.2.1 r f.0)
  kind_by_row r Drop f = inr (slot_by (Full Pending f.1.0) Empty f.1.1 (content_zero e.new f.2) r f.0)
  kind_by_row r Commit f = inr (slot_by (Full Pending f.1.0) (Full Live f.1.0) f.1.1 f.1.2 r f.0 ∙ if_so (same_body f.1.0 f.1.0) Commit (same_body_own f.1.0))
  kind_by_row r Replace f = inr (slot_by (Full Live f.1.0) (Full Live f.1.1) f.1.2 f.1.3 r f.0 ∙ if_so (other_block f.1.0 f.1.1) Replace (other_block_is f.1.0 f.1.1 f.1.4))
  kind_by_row r Remove f = inr (slot_by (Full Live f.1.0) Empty f.1.1 (content_zero e.new f.2) r f.0)
  kind_by_row r Lock f = inr (plain_kind g past e r ∙ ap (kind_of_plain g (may_store g past e.at) e) f.0 ∙ (let o = f.1 in let n = f.2 in grind (arith, nat_tests)))
  kind_by_row r Unlock f = inr (plain_kind g past e r ∙ ap (kind_of_plain g (may_store g past e.at) e) f.0 ∙ (let o = f.1 in let n = f.2 in grind (arith, nat_tests)))
  kind_by_row r Link f = inr (plain_kind g past e r ∙ ap (kind_of_plain g (may_store g past e.at) e) f.0 ∙ if_so ((e.old == 0) && is_address g e.new) Link (let o = f.1 in let n = address_test g e.new f.2 in grind (arith, nat_tests)))
  kind_by_row r Begin f = inr (bucket_by (PlainAt f.1.0) (SplittingAt f.1.0) f.1.1 f.1.2 r f.0 ∙ if_so (f.1.0 == f.1.0) Begin (own f.1.0))
  kind_by_row r Open f = inr (header_by (PlainAt f.1.0) (SplittingAt f.1.0) f.1.1 f.1.2 r f.0 ∙ if_so (f.1.0 == f.1.0) Open (own f.1.0))
  kind_by_row r Copy f = elim f.1 [
    | inl o ↦ inr (slot_by Empty (Full Copied f.2.0) (content_zero e.old o) f.2.1 r f.0)
    | inr o ↦ inr (slot_by (Full Copied o.0) (Full Copied f.2.0) o.1 f.2.1 r f.0)
  ]
  kind_by_row r Uncopy f = inr (slot_by (Full Copied f.1.0) Empty f.1.1 (content_zero e.new f.2) r f.0)
  kind_by_row r Flip f = inr (slot_by (Full Live f.1.0) (Full Moved f.1.0) f.1.1 f.1.2 r f.0 ∙ if_so (same_body f.1.0 f.1.0) Flip (same_body_own f.1.0))
  kind_by_row r Settle f = inr (slot_by (Full Copied f.1.0) (Full Live f.1.0) f.1.1 f.1.2 r f.0 ∙ if_so (same_body f.1.0 f.1.0) Settle (same_body_own f.1.0))
  kind_by_row r Clear f = inr (slot_by (Full Moved f.1.0) Empty f.1.1 (content_zero e.new f.2) r f.0)
  kind_by_row r Finish f = inr (header_by (SplittingAt f.1.0) (PlainAt (f.1.0 + 1)) f.1.1 f.1.2 r f.0 ∙ if_so (f.1.0 + 1 == f.1.0 + 1) Finish (own (f.1.0 + 1)))
  kind_by_row r Close f = inr (bucket_by (SplittingAt f.1.0) (PlainAt (f.1.0 + 1)) f.1.1 f.1.2 r f.0 ∙ if_so (f.1.0 + 1 == f.1.0 + 1) Close (own (f.1.0 + 1)))
  kind_by_row r Ripen f = elim f.0 [
    | inl h ↦ inr (header_by (FillingAt f.1.0) (PlainAt f.1.0) f.1.1 f.1.2 r h ∙ if_so (f.1.0 == f.1.0) Ripen (own f.1.0))
    | inr b ↦ inr (bucket_by (FillingAt f.1.0) (PlainAt f.1.0) f.1.1 f.1.2 r b ∙ if_so (f.1.0 == f.1.0) Ripen (own f.1.0))
  ]
  kind_by_row r Name f = inr (plain_kind g past e r ∙ ap (kind_of_plain g (may_store g past e.at) e) f.0 ∙ if_so (is_address g e.new) Name (address_test g e.new f.1))
  kind_by_row r Deepen f = inr (plain_kind g past e r ∙ ap (kind_of_plain g (may_store g past e.at) e) f.0 ∙ if_so (e.new == e.old + 1) Deepen (let n = f.1 in grind (arith, nat_tests)))

  -- a word that may be stored is stored, whatever its role
  stored : may_store g past e.at ≡ true → kind g past e ≡ Some Store
  stored h =
      ap (λ (b : Bool). kind_of_role g past e (cond b HeapWord (role g past e.at))) h ∙ ap (λ (b : Bool). only_if b Store) h

  unstored : may_store g past e.at ≡ false → kind g past e ≡ kind_of_role g past e (role g past e.at)
  unstored h = ap (λ (b : Bool). kind_of_role g past e (cond b HeapWord (role g past e.at))) h

  store_test : (r : WordRole) → Fits g past e r Store → may_store g past e.at ≡ true
  store_test r f = ap (λ (b : Bool). b && not (is_published g past e.at)) f.0 ∙ ap not f.1

  not_stored : (r : WordRole) (k : Kind) → may_store g past e.at ≡ false → Fits g past e r k → (k ≡ Store) ⊎ (kind_of_role g past e r ≡ Some k) → kind_of_role g past e r ≡ Some k
  not_stored r k h f (inl s) = absurd (let x = store_test r (subst (Fits g past e r) s f) in cc)
  not_stored r k h f (inr s) = s

  -- where the row Store does not fit, a row that fits is that of the kind
  pub kind_by : (k : Kind) → may_store g past e.at ≡ false → Fits g past e (role g past e.at) k → kind g past e ≡ Some k
  kind_by k h f = unstored h ∙ not_stored (role g past e.at) k h f (kind_by_row (role g past e.at) k f)

  fits_store : may_store g past e.at ≡ true → Fits g past e (role g past e.at) Store
  fits_store h = (first_true (is_taken g past e.at) (is_published g past e.at) h, second_false (is_taken g past e.at) (is_published g past e.at) h)

  -- the kind is the first row that fits
  first_of_kind : (b : Bool) → may_store g past e.at ≡ b → (k : Kind) → kind g past e ≡ Some k → IsFirstRow g past e (role g past e.at) k
  first_of_kind true h k is = let s : Store ≡ k = some_same (sym (stored h) ∙ is) in subst (IsFirstRow g past e (role g past e.at)) s (fits_store h, λ j f. omega arith)
  first_of_kind false h k is = (row_of (role g past e.at) k (sym (unstored h) ∙ is), λ j f. let s : k ≡ j = some_same (sym is ∙ kind_by j h f) in subst (λ (i : Kind). row_number k ≤ row_number i) s (le_refl (row_number k)))

  kind_of_first : (b : Bool) → may_store g past e.at ≡ b → (k : Kind) → IsFirstRow g past e (role g past e.at) k → kind g past e ≡ Some k
  kind_of_first true h k f = stored h ∙ ap (λ (j : Kind). Some j) (sym (row_zero k (f.1 Store (fits_store h))))
  kind_of_first false h k f = kind_by k h f.0

  fits_kind : (k : Kind) → Fits g past e (role g past e.at) k → kind g past e ≡ None → ⊥
  fits_kind k f none = by (may_store g past e.at) refl
    where
      by : (b : Bool) → may_store g past e.at ≡ b → ⊥
      by true h = let x = stored h in cc
      by false h = let x = kind_by k h f in cc

-- of a heap word no other row fits
pub heap_row : (g : Geometry) (past : Past) (e : Entry) (r : WordRole) (k : Kind) → plain_role r ≡ Heap → Fits g past e r k → k ≡ Store
heap_row g past e r Store h f = refl
heap_row g past e r Take h f = absurd (let x = f.0 in cc)
heap_row g past e r Place h f = absurd (let x = f.0 in cc)
heap_row g past e r Drop h f = absurd (let x = f.0 in cc)
heap_row g past e r Commit h f = absurd (let x = f.0 in cc)
heap_row g past e r Replace h f = absurd (let x = f.0 in cc)
heap_row g past e r Remove h f = absurd (let x = f.0 in cc)
heap_row g past e r Lock h f = absurd (let x = f.0 in cc)
heap_row g past e r Unlock h f = absurd (let x = f.0 in cc)
heap_row g past e r Link h f = absurd (let x = f.0 in cc)
heap_row g past e r Begin h f = absurd (let x = f.0 in cc)
heap_row g past e r Open h f = absurd (let x = f.0 in cc)
heap_row g past e r Copy h f = absurd (let x = f.0 in cc)
heap_row g past e r Uncopy h f = absurd (let x = f.0 in cc)
heap_row g past e r Flip h f = absurd (let x = f.0 in cc)
heap_row g past e r Settle h f = absurd (let x = f.0 in cc)
heap_row g past e r Clear h f = absurd (let x = f.0 in cc)
heap_row g past e r Finish h f = absurd (let x = f.0 in cc)
heap_row g past e r Close h f = absurd (let x = f.0 in cc)
heap_row g past e r Name h f = absurd (let x = f.0 in cc)
heap_row g past e r Deepen h f = absurd (let x = f.0 in cc)
heap_row g past e r Ripen h f = absurd (elim f.0 [ inl x ↦ (cc) | inr x ↦ (cc) ])

-- the laws
some_kind : (o : Option Kind) → ((k : Kind) → o ≡ Some k → ⊥) → o ≡ None
some_kind None h = refl
some_kind (Some k) h = absurd (h k refl)

pub rows_are_kinds : RowsAreKinds
rows_are_kinds g past e k = (first_of_kind g past e (may_store g past e.at) refl k, kind_of_first g past e (may_store g past e.at) refl k)

pub no_row_no_kind : NoRowNoKind
no_row_no_kind g past e = (
  λ none k f. fits_kind g past e k f none,
  λ none. some_kind (kind g past e) (λ k h. none k (first_of_kind g past e (may_store g past e.at) refl k h).0),
)

pub one_row : OneRow
one_row g past e j k store f h = by (may_store g past e.at) refl
  where
    by : (b : Bool) → may_store g past e.at ≡ b → j ≡ k
    by true s = absurd (store (fits_store g past e s))
    by false s = some_same (sym (kind_by g past e j s f) ∙ kind_by g past e k s h)
