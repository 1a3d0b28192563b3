-- The opening words are put one by one, and then the words are those of the opening.
use Rattle.std.proofs.Common.{◌≡◌, ◌≢◌, ℕ, ◌+◌, ◌*◌, ◌/◌, ◌%◌, ◌<◌, List, length, slice_set, sym, ap, ◌∙◌, subst, inl, inr, arith}
use Rattle.std.specs.Prelude.{slice_index, replicate}
use Rattle.std.proofs.lemmas.List.{length-set, length-replicate, ext_get_or, get_or-set_same, get_or-set_other, get_or_past}
use Rattle.std.proofs.lemmas.List.Elements.{All-replicate}
use Rattle.std.proofs.lemmas.Bool.{cases_eq, cases_lt}
use Rattle.node_words.specs.declared.geometry.Geometry.{Geometry}
use Rattle.node_words.specs.Opening.{opening, opening_word}
use Rattle.node_words.specs.Addresses.{first_free, node_at, node_size}
use Rattle.node_words.proofs.OpeningWords.{opening_heap, opening-index, length-opening}
use Rattle.node_words.proofs.Sizes.{node_below, node_of-div, node_at_is, node_at-mod, node_ends, node_size_range, node_at-is, node_size-is, first_free_words}
use Rattle.verbs.specs.Begun.{Begun}

here : (words : List ℕ) (at w a : ℕ) → at < length words → a ≡ at → slice_index (slice_set words at w) a ≡ w
here words at w a low e = ap (slice_index (slice_set words at w)) e ∙ get_or-set_same words at w 0 low

elsewhere : (words : List ℕ) (at w a : ℕ) → a ≢ at → slice_index (slice_set words at w) a ≡ slice_index words a
elsewhere words at w a other = get_or-set_other words at a w 0 other

zero-there : (n a : ℕ) → slice_index (replicate n 0) a ≡ 0
zero-there n a = elim (cases_lt a n) [
  | inl low ↦ All-replicate (λ (w : ℕ). w ≡ 0) n 0 (omega arith) a 0 (omega (arith, long))
  | inr high ↦ get_or_past (replicate n 0) a 0 (omega (arith, long))
]
  where
    long : length {A = ℕ} (replicate n 0) ≡ n
    long = length-replicate n 0

pub begun-none : (g : Geometry) (words : List ℕ) → words ≡ replicate g.words 0 → Begun g 0 0 words
begun-none g words is = record {
  len = ap length is ∙ length-replicate g.words 0;
  front = λ a l. absurd (omega arith);
  nexts = λ k l. absurd (omega arith);
  rest = λ a l n. ap (λ (ws : List ℕ). slice_index ws a) is ∙ zero-there g.words a;
}

begun-front_set : (g : Geometry) (at : ℕ) (words : List ℕ) → Begun g at 0 words → at < g.words → Begun g (at + 1) 0 (slice_set words at (opening_word g at))
begun-front_set g at words b low =
    let n = b.len in
    let within : at < length words = omega arith in
    record {
      len = length-set words at (opening_word g at) ∙ b.len;
      front = λ a l. elim (cases_eq a at) [
        | inl e ↦ here words at (opening_word g at) a within e ∙ ap (opening_word g) (sym e)
        | inr other ↦ elsewhere words at (opening_word g at) a other ∙ b.front a (omega arith)
      ];
      nexts = λ k l. absurd (omega arith);
      rest = λ a l n. let other : a ≢ at = λ e. absurd (omega arith) in elsewhere words at (opening_word g at) a other ∙ b.rest a (omega arith) (λ k f. absurd (omega arith));
    }

begun-next_set : (g : Geometry) (upto k at : ℕ) (words : List ℕ) → Begun g upto k words → at ≡ node_at g k → at < g.words → Begun g upto (k + 1) (slice_set words at (opening_word g at))
begun-next_set g upto k at words b place low =
    let n = b.len in
    let within : at < length words = omega arith in
    let w = opening_word g at in
    record {
      len = length-set words at w ∙ b.len;
      front = λ a l. elim (cases_eq a at) [
        | inl e ↦ here words at w a within e ∙ ap (opening_word g) (sym e)
        | inr other ↦ elsewhere words at w a other ∙ b.front a l
      ];
      nexts = λ j l. elim (cases_eq (node_at g j) at) [
        | inl e ↦ here words at w (node_at g j) within e ∙ ap (opening_word g) (sym e)
        | inr other ↦
            let differs : j ≢ k = λ e. other (ap (node_at g) e ∙ sym place) in
            elsewhere words at w (node_at g j) other ∙ b.nexts j (omega arith)
      ];
      rest = λ a l n.
          let other : a ≢ at = λ e. n k (omega arith) (e ∙ place) in
          elsewhere words at w a other ∙ b.rest a l (λ j f. n j (omega arith));
    }

-- the same of the words then
pub begun-front : (g : Geometry) (at : ℕ) (words now : List ℕ) → Begun g at 0 words → at < g.words → now ≡ slice_set words at (opening_word g at) → Begun g (at + 1) 0 now
begun-front g at words now b low put = subst (Begun g (at + 1) 0) (sym put) (begun-front_set g at words b low)

pub begun-next : (g : Geometry) (upto k at : ℕ) (words now : List ℕ) → Begun g upto k words → at ≡ node_at g k → at < g.words → now ≡ slice_set words at (opening_word g at) → Begun g upto (k + 1) now
begun-next g upto k at words now b place low put = subst (Begun g upto (k + 1)) (sym put) (begun-next_set g upto k at words b place low)

begun-all : (g : Geometry) (words : List ℕ) → Begun g (first_free g) g.nodes words → (a : ℕ) → a < g.words → slice_index words a ≡ opening_word g a
begun-all g words b a low = elim (cases_lt a (first_free g)) [
  | inl l ↦ b.front a l
  | inr h ↦ elim (cases_eq (a % node_size g) 0) [
    | inl e ↦
        let k = a / node_size g in
        let p : a ≡ node_at g k = node_at_is g a e in
        let n : k < g.nodes = subst (λ (j : ℕ). j < g.nodes) (node_of-div g a) (node_below g a low) in
        ap (slice_index words) p ∙ b.nexts k n ∙ ap (opening_word g) (sym p)
    | inr n ↦ b.rest a h (λ k l e. n (ap (λ (i : ℕ). i % node_size g) e ∙ node_at-mod g k)) ∙ sym (opening_heap g a h n)
  ]
]

pub begun-opening : (g : Geometry) (words : List ℕ) → Begun g (first_free g) g.nodes words → words ≡ opening g
begun-opening g words b =
    let n = b.len in
    ext_get_or 0 words (opening g) (b.len ∙ sym (length-opening g)) (λ a low. let within : a < g.words = omega arith in begun-all g words b a within ∙ sym (opening-index g a within))

pub next-within : (g : Geometry) (k : ℕ) → k < g.nodes → node_at g k < g.words
next-within g k h = let a = node_ends g k h in let b = node_size_range g in omega (arith, a, b)

pub next-is : (g : Geometry) (k n : ℕ) → n ≡ k * (g.words / g.nodes) → n ≡ node_at g k
next-is g k n e = e ∙ ap (λ (s : ℕ). k * s) (sym (node_size-is g)) ∙ sym (node_at-is g k)

-- the front lies in the memory
pub front-within : (g : Geometry) (at : ℕ) → at < first_free g → at < g.words
front-within g at h = let a = first_free_words g in omega (arith, a)

pub ruleset puts = (begun-none, begun-front, begun-next, front-within)

pub ruleset places = (next-within, next-is)

pub ruleset ends = (begun-opening)
