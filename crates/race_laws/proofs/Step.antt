-- What a legal entry is, by the role of its word: the table of kinds turned round, once for all proofs.
use Rattle.std.specs.Prelude.{◌≡◌, ◌≢◌, ℕ, ◌+◌, ◌<◌, Bool, true, false, cond, not, ◌&&◌, nat_lt, ◌==◌, Some, ◌⊎◌, refl}
use Rattle.std.proofs.Common.{sym, ◌∙◌, ap, subst, inl, inr, arith}
use Rattle.std.proofs.lemmas.Bool.Decides.{nat_tests}
use Rattle.slot_word.specs.declared.slots.Mark.TheVariants.{Live, Pending, Copied, Moved}
use Rattle.node_words.specs.Roles.{Role, NextWord, DepthWord, DirectoryWord, BirthWord, HeaderWord, LockWord, ReservedWord, ChildWord, BucketWord, SlotWord, HeapWord}
use Rattle.verb_log.specs.declared.entry.Entry.{Entry}
use Rattle.verb_log.specs.declared.kind.Kind.{Kind}
use Rattle.verb_log.specs.declared.kind.Kind.TheVariants.{Store, Take, Place, Drop, Commit, Replace, Remove, Lock, Unlock, Link, Begin, Open, Copy, Uncopy, Flip, Settle, Clear, Finish, Close, Ripen, Name, Deepen}
use Rattle.verb_log.specs.Decoded.{Body, Content, Empty, Full, NoSlot, content, Header, PlainAt, SplittingAt, FillingAt, NoHeader, header}
use Rattle.verb_log.specs.Tables.{Past, word_at, is_address, is_taken, is_published, judged_role}
use Rattle.verb_log.specs.Kinds.{kind, same_body, other_block, only_if, slot_kind, header_kind, bucket_kind, kind_of_role}
use Rattle.verb_log.specs.Fits.{IsAddress}
use Rattle.verb_log.proofs.Rows.{address_is}
use Rattle.race_laws.specs.Setting.{Setting}
use Rattle.race_laws.specs.Rows.{TakeRow, PlaceRow, CommitRow, ReplaceRow, RemoveRow, UnlockRow, LinkRow, BeginRow, OpenRow, CopyRow, UncopyRow, FlipRow, SettleRow, ClearRow, FinishRow, CloseRow, RipenRow, RipenHeaderRow, NameRow, DeepenRow, StoreRow}
use Rattle.race_laws.specs.Legal.{SlotRow, HeaderRow, BucketRow, LockRow, IfKind, Row, Meets}

-- what stands in a slot word, and in a header word
abbrev pub content_at : Setting → Past → ℕ → Content
content_at s past a = content (word_at s.geometry past a)

abbrev pub header_at : Setting → Past → ℕ → Header
header_at s past a = header (word_at s.geometry past a)

-- what may happen to a slot
pub data SlotStep (s : Setting) (past : Past) (e : Entry) (t p : ℕ) : Type 0 where
  place : (b : Body) → kind s.geometry past e ≡ Some Place → content_at s past e.at ≡ Empty → content e.new ≡ Full Pending b → PlaceRow s past e t p → SlotStep s past e t p
  drop : (b : Body) → kind s.geometry past e ≡ Some Drop → content_at s past e.at ≡ Full Pending b → content e.new ≡ Empty → SlotStep s past e t p
  commit : (b : Body) → kind s.geometry past e ≡ Some Commit → content_at s past e.at ≡ Full Pending b → content e.new ≡ Full Live b → CommitRow s past e t p → SlotStep s past e t p
  replace : (b c : Body) → kind s.geometry past e ≡ Some Replace → content_at s past e.at ≡ Full Live b → content e.new ≡ Full Live c → c.at ≢ b.at → ReplaceRow s past e t p → SlotStep s past e t p
  remove : (b : Body) → kind s.geometry past e ≡ Some Remove → content_at s past e.at ≡ Full Live b → content e.new ≡ Empty → RemoveRow s past e t p → SlotStep s past e t p
  copy : (c : Body) → kind s.geometry past e ≡ Some Copy → (content_at s past e.at ≡ Empty) ⊎ ((b : Body) × (content_at s past e.at ≡ Full Copied b)) → content e.new ≡ Full Copied c → CopyRow s past e t p → SlotStep s past e t p
  uncopy : (b : Body) → kind s.geometry past e ≡ Some Uncopy → content_at s past e.at ≡ Full Copied b → content e.new ≡ Empty → UncopyRow s.geometry past e t p → SlotStep s past e t p
  flip : (b : Body) → kind s.geometry past e ≡ Some Flip → content_at s past e.at ≡ Full Live b → content e.new ≡ Full Moved b → FlipRow s past e t p → SlotStep s past e t p
  settle : (b : Body) → kind s.geometry past e ≡ Some Settle → content_at s past e.at ≡ Full Copied b → content e.new ≡ Full Live b → SettleRow s.geometry past e t p → SlotStep s past e t p
  clear : (b : Body) → kind s.geometry past e ≡ Some Clear → content_at s past e.at ≡ Full Moved b → content e.new ≡ Empty → ClearRow s.geometry past e t p → SlotStep s past e t p

-- to a table's header
pub data HeaderStep (s : Setting) (past : Past) (e : Entry) (t : ℕ) : Type 0 where
  open_it : (d : ℕ) → header_at s past e.at ≡ PlainAt d → header e.new ≡ SplittingAt d → OpenRow s.geometry past e t → HeaderStep s past e t
  finish : (d : ℕ) → header_at s past e.at ≡ SplittingAt d → header e.new ≡ PlainAt (d + 1) → FinishRow s past e t → HeaderStep s past e t
  ripen : (d : ℕ) → header_at s past e.at ≡ FillingAt d → header e.new ≡ PlainAt d → RipenHeaderRow s.geometry past e t → HeaderStep s past e t

-- to a bucket header
pub data BucketStep (s : Setting) (past : Past) (e : Entry) (t : ℕ) : Type 0 where
  begin : (d : ℕ) → header_at s past e.at ≡ PlainAt d → header e.new ≡ SplittingAt d → BeginRow s.geometry past e t → BucketStep s past e t
  close : (d : ℕ) → header_at s past e.at ≡ SplittingAt d → header e.new ≡ PlainAt (d + 1) → CloseRow s.geometry past e t → BucketStep s past e t
  ripen_bucket : (d : ℕ) → header_at s past e.at ≡ FillingAt d → header e.new ≡ PlainAt d → RipenRow s.geometry past e t → BucketStep s past e t

-- to a lock
pub data LockStep (s : Setting) (past : Past) (e : Entry) (t : ℕ) : Type 0 where
  lock : word_at s.geometry past e.at ≡ 0 → e.new ≡ e.client + 1 → LockStep s past e t
  unlock : word_at s.geometry past e.at ≡ e.client + 1 → e.new ≡ 0 → UnlockRow s.geometry past t → LockStep s past e t

-- what a legal entry is, by what the table of kinds takes its word for
abbrev pub StepAt : Setting → Past → Entry → Role → Type 0
StepAt s past e (NextWord n) = (word_at s.geometry past e.at < e.new) × TakeRow s.geometry past e n
StepAt s past e DepthWord = (e.new ≡ word_at s.geometry past e.at + 1) × DeepenRow s.geometry past e
StepAt s past e (DirectoryWord j) = (e.new ≢ 0) × NameRow s.geometry past e j
StepAt s past e (BirthWord t) = ⊥
StepAt s past e (HeaderWord t) = HeaderStep s past e t
StepAt s past e (LockWord t) = LockStep s past e t
StepAt s past e ReservedWord = ⊥
StepAt s past e (ChildWord t i) = (word_at s.geometry past e.at ≡ 0) × IsAddress s.geometry e.new × LinkRow s.geometry past e t i
StepAt s past e (BucketWord t m) = BucketStep s past e t
StepAt s past e (SlotWord t p) = SlotStep s past e t p
StepAt s past e HeapWord = (is_taken s.geometry past e.at ≡ true) × (is_published s.geometry past e.at ≡ false) × StoreRow s.geometry past e

body_is : (x y z u v w : ℕ) → x ≡ u → y ≡ v → z ≡ w → (let b : Body = record { print = x; length = y; at = z } in b) ≡ (let c : Body = record { print = u; length = v; at = w } in c)
body_is x y z u v w p q r = cc

both : (x y : Bool) → (x && y) ≡ true → (x ≡ true) × (y ≡ true)
both true true h = (refl, refl)
both true false h = cc
both false y h = cc

-- the same body twice is one body
pub same_body_is : (b c : Body) → same_body b c ≡ true → c ≡ b
same_body_is b c h =
    let x = both ((b.print == c.print) && (b.length == c.length)) (b.at == c.at) h in
    let y = both (b.print == c.print) (b.length == c.length) x.0 in
    let p : c.print ≡ b.print = grind (arith, nat_tests, y.0) in
    let q : c.length ≡ b.length = grind (arith, nat_tests, y.1) in
    let r : c.at ≡ b.at = grind (arith, nat_tests, x.1) in
    body_is c.print c.length c.at b.print b.length b.at p q r

-- a kind that needs a test: the test holds
needs : (fits : Bool) (k j : Kind) → only_if fits k ≡ Some j → (fits ≡ true) × (k ≡ j)
needs true k j h = (refl, (cc))
needs false k j h = cc

module _ (s : Setting) (past : Past) (e : Entry) (t p : ℕ) where
  commit_of : (b c : Body) (fits : Bool) → same_body b c ≡ fits → content_at s past e.at ≡ Full Pending b → content e.new ≡ Full Live c → kind s.geometry past e ≡ only_if fits Commit → SlotRow s past e t p (only_if fits Commit) → SlotStep s past e t p
  commit_of b c true q o n k r = commit b k o (n ∙ ap (Full Live) (same_body_is b c q)) r
  commit_of b c false q o n k r = absurd r

  replace_of : (b c : Body) (fits : Bool) → other_block b c ≡ fits → content_at s past e.at ≡ Full Live b → content e.new ≡ Full Live c → kind s.geometry past e ≡ only_if fits Replace → SlotRow s past e t p (only_if fits Replace) → SlotStep s past e t p
  replace_of b c true q o n k r = replace b c k o n (grind (arith, nat_tests, q)) r
  replace_of b c false q o n k r = absurd r

  flip_of : (b c : Body) (fits : Bool) → same_body b c ≡ fits → content_at s past e.at ≡ Full Live b → content e.new ≡ Full Moved c → kind s.geometry past e ≡ only_if fits Flip → SlotRow s past e t p (only_if fits Flip) → SlotStep s past e t p
  flip_of b c true q o n k r = flip b k o (n ∙ ap (Full Moved) (same_body_is b c q)) r
  flip_of b c false q o n k r = absurd r

  settle_of : (b c : Body) (fits : Bool) → same_body b c ≡ fits → content_at s past e.at ≡ Full Copied b → content e.new ≡ Full Live c → kind s.geometry past e ≡ only_if fits Settle → SlotRow s past e t p (only_if fits Settle) → SlotStep s past e t p
  settle_of b c true q o n k r = settle b k o (n ∙ ap (Full Live) (same_body_is b c q)) r
  settle_of b c false q o n k r = absurd r

  slot_step : (x y : Content) → content_at s past e.at ≡ x → content e.new ≡ y → kind s.geometry past e ≡ slot_kind x y → SlotRow s past e t p (slot_kind x y) → SlotStep s past e t p
  slot_step Empty Empty o n k r = absurd r
  slot_step Empty (Full Live c) o n k r = absurd r
  slot_step Empty (Full Pending c) o n k r = place c k o n r
  slot_step Empty (Full Copied c) o n k r = copy c k (inl o) n r
  slot_step Empty (Full Moved c) o n k r = absurd r
  slot_step Empty NoSlot o n k r = absurd r
  slot_step NoSlot y o n k r = absurd r
  slot_step (Full Live b) Empty o n k r = remove b k o n r
  slot_step (Full Live b) (Full Live c) o n k r = replace_of b c (other_block b c) refl o n k r
  slot_step (Full Live b) (Full Pending c) o n k r = absurd r
  slot_step (Full Live b) (Full Copied c) o n k r = absurd r
  slot_step (Full Live b) (Full Moved c) o n k r = flip_of b c (same_body b c) refl o n k r
  slot_step (Full Live b) NoSlot o n k r = absurd r
  slot_step (Full Pending b) Empty o n k r = drop b k o n
  slot_step (Full Pending b) (Full Live c) o n k r = commit_of b c (same_body b c) refl o n k r
  slot_step (Full Pending b) (Full Pending c) o n k r = absurd r
  slot_step (Full Pending b) (Full Copied c) o n k r = absurd r
  slot_step (Full Pending b) (Full Moved c) o n k r = absurd r
  slot_step (Full Pending b) NoSlot o n k r = absurd r
  slot_step (Full Copied b) Empty o n k r = uncopy b k o n r
  slot_step (Full Copied b) (Full Live c) o n k r = settle_of b c (same_body b c) refl o n k r
  slot_step (Full Copied b) (Full Pending c) o n k r = absurd r
  slot_step (Full Copied b) (Full Copied c) o n k r = copy c k (inr (b, o)) n r
  slot_step (Full Copied b) (Full Moved c) o n k r = absurd r
  slot_step (Full Copied b) NoSlot o n k r = absurd r
  slot_step (Full Moved b) Empty o n k r = clear b k o n r
  slot_step (Full Moved b) (Full Live c) o n k r = absurd r
  slot_step (Full Moved b) (Full Pending c) o n k r = absurd r
  slot_step (Full Moved b) (Full Copied c) o n k r = absurd r
  slot_step (Full Moved b) (Full Moved c) o n k r = absurd r
  slot_step (Full Moved b) NoSlot o n k r = absurd r

  open_of : (d x : ℕ) (fits : Bool) → (x == d) ≡ fits → header_at s past e.at ≡ PlainAt d → header e.new ≡ SplittingAt x → HeaderRow s past e t (only_if fits Open) → HeaderStep s past e t
  open_of d x true q o n r = let same : x ≡ d = grind (arith, nat_tests, q) in open_it d o (n ∙ ap SplittingAt same) r
  open_of d x false q o n r = absurd r

  finish_of : (d x : ℕ) (fits : Bool) → (x == d + 1) ≡ fits → header_at s past e.at ≡ SplittingAt d → header e.new ≡ PlainAt x → HeaderRow s past e t (only_if fits Finish) → HeaderStep s past e t
  finish_of d x true q o n r = let same : x ≡ d + 1 = grind (arith, nat_tests, q) in finish d o (n ∙ ap PlainAt same) r
  finish_of d x false q o n r = absurd r

  ripen_of : (d x : ℕ) (fits : Bool) → (x == d) ≡ fits → header_at s past e.at ≡ FillingAt d → header e.new ≡ PlainAt x → HeaderRow s past e t (only_if fits Ripen) → HeaderStep s past e t
  ripen_of d x true q o n r = let same : x ≡ d = grind (arith, nat_tests, q) in ripen d o (n ∙ ap PlainAt same) r
  ripen_of d x false q o n r = absurd r

  header_step : (x y : Header) → header_at s past e.at ≡ x → header e.new ≡ y → HeaderRow s past e t (header_kind x y) → HeaderStep s past e t
  header_step (PlainAt d) (PlainAt x) o n r = absurd r
  header_step (PlainAt d) (SplittingAt x) o n r = open_of d x (x == d) refl o n r
  header_step (PlainAt d) (FillingAt x) o n r = absurd r
  header_step (PlainAt d) NoHeader o n r = absurd r
  header_step (SplittingAt d) (PlainAt x) o n r = finish_of d x (x == d + 1) refl o n r
  header_step (SplittingAt d) (SplittingAt x) o n r = absurd r
  header_step (SplittingAt d) (FillingAt x) o n r = absurd r
  header_step (SplittingAt d) NoHeader o n r = absurd r
  header_step (FillingAt d) (PlainAt x) o n r = ripen_of d x (x == d) refl o n r
  header_step (FillingAt d) (SplittingAt x) o n r = absurd r
  header_step (FillingAt d) (FillingAt x) o n r = absurd r
  header_step (FillingAt d) NoHeader o n r = absurd r
  header_step NoHeader y o n r = absurd r

  begin_of : (d x : ℕ) (fits : Bool) → (x == d) ≡ fits → header_at s past e.at ≡ PlainAt d → header e.new ≡ SplittingAt x → BucketRow s past e t (only_if fits Begin) → BucketStep s past e t
  begin_of d x true q o n r = let same : x ≡ d = grind (arith, nat_tests, q) in begin d o (n ∙ ap SplittingAt same) r
  begin_of d x false q o n r = absurd r

  close_of : (d x : ℕ) (fits : Bool) → (x == d + 1) ≡ fits → header_at s past e.at ≡ SplittingAt d → header e.new ≡ PlainAt x → BucketRow s past e t (only_if fits Close) → BucketStep s past e t
  close_of d x true q o n r = let same : x ≡ d + 1 = grind (arith, nat_tests, q) in close d o (n ∙ ap PlainAt same) r
  close_of d x false q o n r = absurd r

  ripen_bucket_of : (d x : ℕ) (fits : Bool) → (x == d) ≡ fits → header_at s past e.at ≡ FillingAt d → header e.new ≡ PlainAt x → BucketRow s past e t (only_if fits Ripen) → BucketStep s past e t
  ripen_bucket_of d x true q o n r = let same : x ≡ d = grind (arith, nat_tests, q) in ripen_bucket d o (n ∙ ap PlainAt same) r
  ripen_bucket_of d x false q o n r = absurd r

  bucket_step : (x y : Header) → header_at s past e.at ≡ x → header e.new ≡ y → BucketRow s past e t (bucket_kind x y) → BucketStep s past e t
  bucket_step (PlainAt d) (PlainAt x) o n r = absurd r
  bucket_step (PlainAt d) (SplittingAt x) o n r = begin_of d x (x == d) refl o n r
  bucket_step (PlainAt d) (FillingAt x) o n r = absurd r
  bucket_step (PlainAt d) NoHeader o n r = absurd r
  bucket_step (SplittingAt d) (PlainAt x) o n r = close_of d x (x == d + 1) refl o n r
  bucket_step (SplittingAt d) (SplittingAt x) o n r = absurd r
  bucket_step (SplittingAt d) (FillingAt x) o n r = absurd r
  bucket_step (SplittingAt d) NoHeader o n r = absurd r
  bucket_step (FillingAt d) (PlainAt x) o n r = ripen_bucket_of d x (x == d) refl o n r
  bucket_step (FillingAt d) (SplittingAt x) o n r = absurd r
  bucket_step (FillingAt d) (FillingAt x) o n r = absurd r
  bucket_step (FillingAt d) NoHeader o n r = absurd r
  bucket_step NoHeader y o n r = absurd r

  unlock_of : (z y : Bool) → ((e.old == e.client + 1) ≡ z) → ((e.new == 0) ≡ y) → word_at s.geometry past e.at ≡ e.old → LockRow s past t (only_if (z && y) Unlock) → LockStep s past e t
  unlock_of true true q v w r = unlock (w ∙ grind (arith, nat_tests, q)) (grind (arith, nat_tests, v)) r
  unlock_of true false q v w r = absurd r
  unlock_of false y q v w r = absurd r

  lock_of : (z y : Bool) → ((e.old == 0) ≡ z) → ((e.new == e.client + 1) ≡ y) → word_at s.geometry past e.at ≡ e.old → LockRow s past t (cond (z && y) (Some Lock) (only_if ((e.old == e.client + 1) && (e.new == 0)) Unlock)) → LockStep s past e t
  lock_of true true q v w r = lock (w ∙ grind (arith, nat_tests, q)) (grind (arith, nat_tests, v))
  lock_of true false q v w r = unlock_of (e.old == e.client + 1) (e.new == 0) refl refl w r
  lock_of false y q v w r = unlock_of (e.old == e.client + 1) (e.new == 0) refl refl w r

  -- a row that a test guards
  guarded : (fits : Bool) (k : Kind) (P : Type 0) → IfKind (only_if fits k) P → (fits ≡ true) × P
  guarded true k P h = (refl, h)
  guarded false k P h = absurd h

-- the row of an entry by its role, turned round
step_by : (s : Setting) (past : Past) (e : Entry) (r : Role) → word_at s.geometry past e.at ≡ e.old → kind s.geometry past e ≡ kind_of_role s.geometry past e r → Row s past e r (kind_of_role s.geometry past e r) → StepAt s past e r
step_by s past e (NextWord n) w k h =
    let x = guarded s past e 0 0 (nat_lt e.old e.new) Take (TakeRow s.geometry past e n) h in
    let grows : e.old < e.new = grind (arith, nat_tests, x.0) in
    (subst (λ v. v < e.new) (sym w) grows, x.1)
step_by s past e DepthWord w k h =
    let x = guarded s past e 0 0 (e.new == e.old + 1) Deepen (DeepenRow s.geometry past e) h in
    let same : e.new ≡ e.old + 1 = grind (arith, nat_tests, x.0) in
    (subst (λ v. e.new ≡ v + 1) (sym w) same, x.1)
step_by s past e (DirectoryWord j) w k h =
    let x = guarded s past e 0 0 (is_address s.geometry e.new) Name (NameRow s.geometry past e j) h in
    ((address_is s.geometry e.new x.0).0, x.1)
step_by s past e (BirthWord t) w k h = absurd h
step_by s past e (HeaderWord t) w k h = header_step s past e t 0 (header e.old) (header e.new) (ap header w) refl h
step_by s past e (LockWord t) w k h = lock_of s past e t 0 (e.old == 0) (e.new == e.client + 1) refl refl w h
step_by s past e ReservedWord w k h = absurd h
step_by s past e (ChildWord t i) w k h =
    let x = guarded s past e 0 0 ((e.old == 0) && is_address s.geometry e.new) Link (LinkRow s.geometry past e t i) h in
    let y = both (e.old == 0) (is_address s.geometry e.new) x.0 in
    (w ∙ grind (arith, nat_tests, y.0), address_is s.geometry e.new y.1, x.1)
step_by s past e (BucketWord t m) w k h = bucket_step s past e t 0 (header e.old) (header e.new) (ap header w) refl h
step_by s past e (SlotWord t p) w k h = slot_step s past e t p (content e.old) (content e.new) (ap content w) refl k h
step_by s past e HeapWord w k h =
    let x = guarded s past e 0 0 (is_taken s.geometry past e.at && not (is_published s.geometry past e.at)) Store (StoreRow s.geometry past e) h in
    let y = both (is_taken s.geometry past e.at) (not (is_published s.geometry past e.at)) x.0 in
    (y.0, not_true (is_published s.geometry past e.at) y.1, x.1)
  where
    not_true : (x : Bool) → not x ≡ true → x ≡ false
    not_true true h = cc
    not_true false h = refl

-- what a legal entry is: by the role of its word, since the table of kinds takes each word of a legal log for what it is
-- (`Sound.judged_is`)
pub step_of : (s : Setting) (past : Past) (e : Entry) → Meets s past e → StepAt s past e (judged_role s.geometry past e.at)
step_of s past e m = step_by s past e (judged_role s.geometry past e.at) m.stands refl m.row
