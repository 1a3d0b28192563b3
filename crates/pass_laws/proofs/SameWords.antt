-- What the text and the pass over lists read off words is the same.
use Rattle.std.specs.Prelude.{◌≡◌, ◌≢◌, ℕ, zero, suc, ◌+◌, ◌*◌, ◌/◌, ◌%◌, ◌^◌, ◌<◌, ◌≤◌, Bool, true, false, cond, ◌&&◌, ◌||◌, ◌==◌, nat_lt, List, [], ◌∷◌, ◌++◌, length, drop, slice_index, slice_set, get_or, unwrap_or, Option, Some, None, ◌⊎◌, refl}
use Rattle.std.proofs.Common.{sym, ◌∙◌, ap, subst, inl, inr, arith}
use Rattle.std.proofs.lemmas.Bool.Decides.{nat_tests}
use Rattle.slot_word.specs.declared.slots.Mark.{Mark}
use Rattle.slot_word.specs.declared.slots.Mark.TheVariants.{Moved}
use Rattle.slot_word.specs.declared.slots.Slot.{Slot}
use Rattle.slot_word.specs.declared.heads.Head.{Head}
use Rattle.slot_word.specs.declared.heads.State.{State}
use Rattle.slot_word.specs.declared.heads.State.TheVariants.{Plain, Splitting, Filling}
use Rattle.slot_word.specs.Heads.{head_of}
use Rattle.slot_word.specs.Slots.{mark_bits, slot_of, slot_word, fields_of}
use Rattle.slot_word.proofs.SlotLaws.{slot_of-some, slot_word-slot_of}
use Rattle.std.proofs.lemmas.List.{get_or-set_other}
use Rattle.std.proofs.lemmas.Nat.{mod_below, pow_pos}
use Rattle.bucket_group.specs.ExitLevel.{exit_level}
use Rattle.verb_log.specs.Decoded.{Body, Empty, Full, content, content_of, Header, NoHeader, header, header_of, header_with}
use Rattle.verb_log.specs.Kinds.{same_body}
use Rattle.verbs.specs.Programs.{Prog}
use Rattle.pass_text.specs.Words.{level_if_gone, is_gone}
use Rattle.pass_laws.proofs.ListPass.{Shown, held, clear, gone, spent, is_moved, shows_moved, exit_by, shows_gone}
use Rattle.pass_text.specs.declared.job.PassMode.{PassMode}
use Rattle.pass_text.specs.declared.job.PassMode.TheVariants.{Look, Sweep, Walk}
use Rattle.pass_text.specs.Pass as m
use Rattle.pass_text.specs.Words as w
use Rattle.pass_laws.proofs.Sim.{Sim, FreeFrom, FreeSo}

-- words are read in the same way
pub words_sim : {A B : Type 0} (R : A → B → Type 0) (block n at : ℕ) (ws : List ℕ) (k : List ℕ → Prog A) (h : List ℕ → Prog B) → ((v : List ℕ) → Sim R (k v) (h v)) → Sim R (m.read_words block n at ws k) (m.read_words block n at ws h)
words_sim R block zero at ws k h f = f ws
words_sim R block (suc n) at ws k h f = (refl, λ x. words_sim R block n (at + 1) (ws ++ x ∷ []) k h f)

-- a header's level
pub level_same : (word hash born : ℕ) → w.level_left hash born (w.head_in word) ≡ exit_by (header word) (exit_level hash born)
unfolding w.level_left w.head_in header
level_same word hash born = by (head_of word) (exit_level hash born)
  where
    never : (i : ℕ) → cond (nat_lt i 0) (Some i) None ≡ None
    never i = grind (arith, nat_tests)

    by : (o : Option Head) (e : Option ℕ) → level_if_gone (unwrap_or o (record { depth = 0; state = Plain })) e ≡ exit_by (header_of o) e
    by None None = refl
    by None (Some i) = never i
    by (Some h) None = refl
    by (Some h) (Some i) = state h.state h.depth i
      where
        state : (st : State) (d i : ℕ) → cond (is_gone st d i) (Some i) None ≡ cond (shows_gone (header_with d st) i) (Some i) None
        state Plain d i = refl
        state Splitting d i = refl
        state Filling d i = refl

pub head_alike : (word : ℕ) → (header_of (Some (w.head_in word)) ≡ header word) ⊎ (header word ≡ NoHeader)
unfolding w.head_in header
head_alike word = by (head_of word)
  where
    by : (o : Option Head) → (header_of (Some (unwrap_or o (record { depth = 0; state = Plain }))) ≡ header_of o) ⊎ (header_of o ≡ NoHeader)
    by None = inr refl
    by (Some h) = inl refl

-- the first n of a list left out, and the next one
pub drop_at : (xs : List ℕ) (i : ℕ) → i < length xs → drop i xs ≡ slice_index xs i ∷ drop (i + 1) xs
drop_at [] i h = absurd (omega arith)
drop_at (x ∷ xs) zero h = refl
drop_at (x ∷ xs) (suc i) h = drop_at xs i (omega arith) ∙ ap (λ n. slice_index xs i ∷ drop n (x ∷ xs)) (up i)
  where
    up : (i : ℕ) → suc (i + 1) ≡ suc i + 1
    up i = omega arith

pub drop_all : (xs : List ℕ) (i : ℕ) → length xs ≤ i → drop i xs ≡ []
drop_all [] zero h = refl
drop_all [] (suc i) h = refl
drop_all (x ∷ xs) zero h = absurd (omega arith)
drop_all (x ∷ xs) (suc i) h = drop_all xs i (omega arith)

pub shows_push : (xs : List Shown) (x : Shown) (p : ℕ) (b : Body) → shows_moved (xs ++ x ∷ []) p b ≡ (shows_moved xs p b || ((x.place == p) && is_moved b (content x.word)))
shows_push [] x p b = or_false ((x.place == p) && is_moved b (content x.word))
  where
    or_false : (v : Bool) → (v || false) ≡ (false || v)
    or_false true = refl
    or_false false = refl
shows_push (y ∷ xs) x p b = ap (λ v. ((y.place == p) && is_moved b (content y.word)) || v) (shows_push xs x p b) ∙ assoc ((y.place == p) && is_moved b (content y.word)) (shows_moved xs p b) ((x.place == p) && is_moved b (content x.word))
  where
    assoc : (a b c : Bool) → (a || (b || c)) ≡ ((a || b) || c)
    assoc true b c = refl
    assoc false b c = refl

pub both : (x y : Bool) → (x ≡ true → y ≡ true) → (y ≡ true → x ≡ true) → x ≡ y
both true y f g = sym (f refl)
both false true f g = g refl
both false false f g = refl

pub none_false : (v : Bool) → (v ≡ true → ⊥) → v ≡ false
none_false true f = absurd (f refl)
none_false false f = refl

pub equal : (x y : ℕ) → (x == y) ≡ true → x ≡ y
equal x y h = grind (arith, nat_tests)

pub equal_true : (x y : ℕ) → x ≡ y → (x == y) ≡ true
equal_true x y h = grind (arith, nat_tests)

pub equal_false : (x y : ℕ) → x ≢ y → (x == y) ≡ false
equal_false x y h = none_false (x == y) (λ e. h (equal x y e))

abbrev pub body_of : Slot → Body
body_of b = record { print = b.fp; length = b.len; at = b.at }

-- the slot that a word packs has an address and a length in range
pub record Fits (x : Slot) : Type 0 where
  pub low : 1 ≤ x.at
  pub high : x.at < 2 ^ 46
  pub words : x.len < 2 ^ 8

pub slot_fits : (word : ℕ) (x : Slot) → slot_of word ≡ Some x → Fits x
unfolding fields_of
slot_fits word x e =
    let f = slot_of-some word x e in
    let at : word % 2 ^ 46 ≡ x.at = ap (λ (v : Slot). v.at) f.1 in
    let len : word / 2 ^ 48 % 2 ^ 8 ≡ x.len = ap (λ (v : Slot). v.len) f.1 in
    record {
      low = subst (λ v. 1 ≤ v) at f.0;
      high = subst (λ v. v < 2 ^ 46) at (mod_below word (2 ^ 46) (pow_pos 46));
      words = subst (λ v. v < 2 ^ 8) len (mod_below (word / 2 ^ 48) (2 ^ 8) (pow_pos 8));
    }

-- a moved word is the moved form of a slot exactly where it names the same block
pub form_same : (word : ℕ) (a b : Slot) → slot_of word ≡ Some a → a.mark ≡ Moved → Fits a → Fits b → (word == w.moved_form b) ≡ same_body (body_of a) (body_of b)
unfolding w.moved_form slot_word
form_same word a b e mk sa sb = both (word == slot_word moved) (same_body (body_of a) (body_of b))
    (λ h. fields (sym made ∙ equal word (slot_word moved) h))
    (λ h. equal_true word (slot_word moved) (made ∙ back (parts a.fp b.fp a.len b.len a.at b.at h)))
  where
    moved : Slot
    moved = record { mark = Moved; fp = b.fp; len = b.len; at = b.at }

    made : word ≡ a.fp * 2 ^ 56 + a.len * 2 ^ 48 + 3 * 2 ^ 46 + a.at
    made = sym (slot_word-slot_of word a e) ∙ ap (λ (v : Mark). a.fp * 2 ^ 56 + a.len * 2 ^ 48 + mark_bits v * 2 ^ 46 + a.at) mk

    fields : a.fp * 2 ^ 56 + a.len * 2 ^ 48 + 3 * 2 ^ 46 + a.at ≡ b.fp * 2 ^ 56 + b.len * 2 ^ 48 + 3 * 2 ^ 46 + b.at → same_body (body_of a) (body_of b) ≡ true
    fields q = by a.fp b.fp a.len b.len a.at b.at sa.high sb.high sa.words sb.words q
      where
        test : (x y z u v n : ℕ) → x ≡ y → z ≡ u → v ≡ n → ((x == y) && (z == u) && (v == n)) ≡ true
        test x y z u v n e f g = grind (arith, nat_tests)

        by : (x y z u v n : ℕ) → v < 2 ^ 46 → n < 2 ^ 46 → z < 2 ^ 8 → u < 2 ^ 8 → x * 2 ^ 56 + z * 2 ^ 48 + 3 * 2 ^ 46 + v ≡ y * 2 ^ 56 + u * 2 ^ 48 + 3 * 2 ^ 46 + n → ((x == y) && (z == u) && (v == n)) ≡ true
        by x y z u v n lv ln lz lu q =
            let at : v ≡ n = omega arith in
            let len : z ≡ u = omega arith in
            let fp : x ≡ y = omega arith in
            test x y z u v n fp len at

    parts : (x y z u v n : ℕ) → ((x == y) && (z == u) && (v == n)) ≡ true → (x ≡ y) × (z ≡ u) × (v ≡ n)
    parts x y z u v n h = (grind (arith, nat_tests), grind (arith, nat_tests), grind (arith, nat_tests))

    back : (a.fp ≡ b.fp) × (a.len ≡ b.len) × (a.at ≡ b.at) → a.fp * 2 ^ 56 + a.len * 2 ^ 48 + 3 * 2 ^ 46 + a.at ≡ b.fp * 2 ^ 56 + b.len * 2 ^ 48 + 3 * 2 ^ 46 + b.at
    back q = λ i. q.0 i * 2 ^ 56 + q.1 i * 2 ^ 48 + 3 * 2 ^ 46 + q.2 i

pub form_some : (b : Slot) → Fits b → (0 == w.moved_form b) ≡ false
unfolding w.moved_form slot_word
form_some b sb = some b.fp b.len b.at
  where
    some : (x z v : ℕ) → (0 == x * 2 ^ 56 + z * 2 ^ 48 + 3 * 2 ^ 46 + v) ≡ false
    some x z v = none_false (0 == x * 2 ^ 56 + z * 2 ^ 48 + 3 * 2 ^ 46 + v) (λ h. let e = equal 0 (x * 2 ^ 56 + z * 2 ^ 48 + 3 * 2 ^ 46 + v) h in omega arith)

-- the slot of a content
pub content_slot : (word : ℕ) (mk : Mark) (c : Body) → content word ≡ Full mk c → (a : Slot) × (slot_of word ≡ Some a) × (a.mark ≡ mk) × (body_of a ≡ c)
unfolding content
content_slot word mk c e = by (word == 0) (slot_of word) refl e
  where
    mark_is : (x y : Mark) (a b : Body) → Full x a ≡ Full y b → x ≡ y
    mark_is x y a b h = cc

    body_is : (x y : Mark) (a b : Body) → Full x a ≡ Full y b → a ≡ b
    body_is x y a b h = cc

    by : (v : Bool) (o : Option Slot) → slot_of word ≡ o → cond v Empty (content_of o) ≡ Full mk c → (a : Slot) × (slot_of word ≡ Some a) × (a.mark ≡ mk) × (body_of a ≡ c)
    by true o q e = absurd (cc)
    by false None q e = absurd (cc)
    by false (Some a) q e = (a, q, mark_is a.mark mk (body_of a) c e, body_is a.mark mk (body_of a) c e)

-- an array of places that are free
pub free_push : (f : List Bool) (k : ℕ) (xs : List Shown) (x : Shown) (i : ℕ) → k + length xs ≡ i → FreeFrom f k xs → get_or f i false ≡ (x.word == 0) → FreeFrom f k (xs ++ x ∷ [])
free_push f k [] x i e h g = (ap (λ n. get_or f n false) (plus e) ∙ g, tt)
  where
    plus : k + 0 ≡ i → k ≡ i
    plus e = omega arith
free_push f k (y ∷ xs) x i e h g = (h.0, free_push f (k + 1) xs x i (omega arith) h.1 g)

pub free_set : (f : List Bool) (k : ℕ) (xs : List Shown) (i : ℕ) (v : Bool) → k + length xs ≤ i → FreeFrom f k xs → FreeFrom (slice_set f i v) k xs
free_set f k [] i v e h = tt
free_set f k (y ∷ xs) i v e h = (get_or-set_other f i k v false (λ q. omega (arith, e, q)) ∙ h.0, free_set f (k + 1) xs i v (omega arith) h.1)

pub free_held : (pm : PassMode) (f : List Bool) (p x : ℕ) (q : List ℕ) → FreeSo pm f (held p x q)
free_held Look f p x q = tt
free_held (Sweep own n) f p x q = tt
free_held Walk f p x q = tt

pub free_gone : (pm : PassMode) (f : List Bool) (h : Header) → FreeSo pm f (gone h)
free_gone Look f h = tt
free_gone (Sweep own n) f h = tt
free_gone Walk f h = tt

pub free_spent : (pm : PassMode) (f : List Bool) → FreeSo pm f spent
free_spent Look f = tt
free_spent (Sweep own n) f = tt
free_spent Walk f = tt

pub free_clear : (pm : PassMode) (f : List Bool) (parent : Option ℕ) (shown : List Shown) (h : Header) → (pm ≡ Look → FreeFrom f 0 shown) → FreeSo pm f (clear parent shown h)
free_clear Look f parent shown h x = x refl
free_clear (Sweep own n) f parent shown h x = tt
free_clear Walk f parent shown h x = tt

pub sweep_look : {own n : ℕ} → Sweep own n ≡ Look → ⊥
sweep_look e = cc
