-- The choices that events made.
use Rattle.std.specs.Prelude.{◌≡◌, ℕ, ◌+◌, List, [], ◌∷◌, ◌++◌, Bool, length, refl}
use Rattle.std.specs.List.{AllByRecursion}
use Rattle.std.proofs.Common.{sym, ◌∙◌, arith}
use Rattle.world_texts.specs.Sorts.{Kind}
use Rattle.verb_core.specs.Play.{Play, Event, Turn}
use Rattle.verb_core.specs.Drawn.{Drawn, Alike}

pub drawn_same : (a b : ℕ → ℕ) (es : List Event) (next : ℕ → ℕ) → ((n : ℕ) → a n ≡ b n) → Drawn a es next → Drawn b es next
drawn_same a b [] next e h = λ n. h n ∙ e n
drawn_same a b (x ∷ es) next e h = (h.0 ∙ e 0, drawn_same (λ n. a (n + 1)) (λ n. b (n + 1)) es next (λ n. e (n + 1)) h.1)

-- one list of choices and then another
pub drawn_then : (a : ℕ → ℕ) (es : List Event) (b : ℕ → ℕ) (fs : List Event) (next : ℕ → ℕ) → Drawn a es b → Drawn b fs next → Drawn a (es ++ fs) next
drawn_then a [] b fs next h k = drawn_same b a fs next h k
drawn_then a (x ∷ es) b fs next h k = (h.0, drawn_then (λ n. a (n + 1)) es b fs next h.1 k)

pub drawn_none : (a : ℕ → ℕ) → Drawn a [] a
drawn_none a = λ n. refl

-- a turn under the first choice
pub turn_drawn : {M : Type 0} (kind : Kind M) (w : Play M) (c : ℕ) (b : Bool) (v : Play M) (choice : ℕ) (a next : ℕ → ℕ) → choice ≡ a 0 → ((n : ℕ) → next n ≡ a (n + 1)) → (e : Event) × Turn kind w c e b v × (e.choice ≡ choice) → (e : Event) × Turn kind w c e b v × Drawn a (e ∷ []) next
turn_drawn kind w c b v choice a next now then t = (t.0, t.1, (t.2 ∙ now, then))

-- lists of choices from one stream
pub drawn_alike : (a : ℕ → ℕ) (es fs : List Event) (b next : ℕ → ℕ) → Drawn a es b → Drawn a fs next → Alike es fs
drawn_alike a [] fs b next h k = tt
drawn_alike a (x ∷ es) [] b next h k = tt
drawn_alike a (x ∷ es) (y ∷ fs) b next h k = (h.0 ∙ sym k.0, drawn_alike (λ n. a (n + 1)) es fs b next h.1 k.1)

-- the first is always chosen
pub drawn_first : (a : ℕ → ℕ) (es : List Event) (next : ℕ → ℕ) → ((n : ℕ) → a n ≡ 0) → Drawn a es next → AllByRecursion (λ (e : Event). e.choice ≡ 0) es
drawn_first a [] next z h = tt
drawn_first a (x ∷ es) next z h = (h.0 ∙ z 0, drawn_first (λ n. a (n + 1)) es next (λ n. z (n + 1)) h.1)

-- parts of lists that are alike
pub alike_front : (es gs fs hs : List Event) → Alike (es ++ gs) (fs ++ hs) → Alike es fs
alike_front [] gs fs hs h = tt
alike_front (e ∷ es) gs [] hs h = tt
alike_front (e ∷ es) gs (f ∷ fs) hs h = (h.0, alike_front es gs fs hs h.1)

pub alike_last : (es gs fs hs : List Event) (e f : Event) → length es ≡ length fs → Alike (es ++ e ∷ gs) (fs ++ f ∷ hs) → e.choice ≡ f.choice
alike_last [] gs [] hs e f n h = h.0
alike_last [] gs (y ∷ fs) hs e f n h = absurd (omega arith)
alike_last (x ∷ es) gs [] hs e f n h = absurd (omega arith)
alike_last (x ∷ es) gs (y ∷ fs) hs e f n h = alike_last es gs fs hs e f (omega arith) h.1

pub alike_rest : (es gs hs : List Event) → Alike (es ++ gs) (es ++ hs) → Alike gs hs
alike_rest [] gs hs h = h
alike_rest (e ∷ es) gs hs h = alike_rest es gs hs h.1

pub alike_sym : (es fs : List Event) → Alike es fs → Alike fs es
alike_sym [] [] h = tt
alike_sym [] (f ∷ fs) h = tt
alike_sym (e ∷ es) [] h = tt
alike_sym (e ∷ es) (f ∷ fs) h = (sym h.0, alike_sym es fs h.1)

pub drawn_left : (a : ℕ → ℕ) (es : List Event) (b next : ℕ → ℕ) → Drawn a es b → Drawn b [] next → Drawn a es next
drawn_left a [] b next h k = λ n. k n ∙ h n
drawn_left a (x ∷ es) b next h k = (h.0, drawn_left (λ n. a (n + 1)) es b next h.1 k)

pub alike_left : (es fs hs : List Event) → Alike es (fs ++ hs) → Alike es fs
alike_left [] fs hs h = tt
alike_left (e ∷ es) [] hs h = tt
alike_left (e ∷ es) (f ∷ fs) hs h = (h.0, alike_left es fs hs h.1)
