-- The words that a Take moves across in its own node are one span.
use Rattle.std.proofs.Common.{◌≡◌, ℕ, ◌+◌, ◌-◌, ◌*◌, ◌/◌, ◌<◌, ◌≤◌, Bool, true, false, ◌&&◌, refl, sym, ap, subst, ◌∙◌, arith}
use Rattle.std.specs.Prelude.{◌==◌, nat_le, nat_lt, max, min}
use Rattle.std.proofs.lemmas.Bool.Decides.{nat_tests}
use Rattle.node_words.specs.declared.geometry.Geometry.{Geometry}
use Rattle.node_words.specs.Addresses.{node_size, node_of, node_at}
use Rattle.node_words.proofs.Sizes.{node_from, node_to, node_is, node_of-div, node_at-is, node_size-is}
use Rattle.verb_log.specs.declared.entry.Entry.{Entry}
use Rattle.verb_log.specs.Tables.{is_among}

same_tests : (x y : Bool) → (x ≡ true → y ≡ true) → (y ≡ true → x ≡ true) → x ≡ y
same_tests true y f h = sym (f refl)
same_tests false true f h = h refl
same_tests false false f h = refl

-- the addresses of a node
in_node : (g : Geometry) (k a : ℕ) → node_at g k ≤ a → a < node_at g k + node_size g → node_of g a ≡ k
in_node g k a h l = ap (node_of g) (sym (cut (node_at g k) a h)) ∙ node_is g k (a - node_at g k) (omega arith)
  where
    cut : (x y : ℕ) → x ≤ y → x + (y - x) ≡ y
    cut x y h = omega arith

of_node : (g : Geometry) (k a : ℕ) → node_of g a ≡ k → (node_at g k ≤ a) × (a < node_at g k + node_size g)
of_node g k a h = (subst (λ (n : ℕ). node_at g n ≤ a) h (node_from g a), subst (λ (n : ℕ). a < node_at g n + node_size g) h (node_to g a))

-- the span between two greatest and two least numbers
span_in : (o n s z a : ℕ) → is_among (max o s) (min n (s + z) - max o s) a ≡ true → (o ≤ a) × (a < n) × (s ≤ a) × (a < s + z)
span_in o n s z a h = (grind (arith, nat_tests, h), grind (arith, nat_tests, h), grind (arith, nat_tests, h), grind (arith, nat_tests, h))

span_of : (o n s z a : ℕ) → o ≤ a → a < n → s ≤ a → a < s + z → is_among (max o s) (min n (s + z) - max o s) a ≡ true
span_of o n s z a h k l m = grind (arith, nat_tests)

tests : (o n a k j : ℕ) → (nat_le o a && nat_lt a n && (k == j)) ≡ true → (o ≤ a) × (a < n) × (k ≡ j)
tests o n a k j h = (grind (arith, nat_tests, h), grind (arith, nat_tests, h), grind (arith, nat_tests, h))

tested : (o n a k j : ℕ) → o ≤ a → a < n → k ≡ j → (nat_le o a && nat_lt a n && (k == j)) ≡ true
tested o n a k j h l m = grind (arith, nat_tests)

moves_span : (g : Geometry) (o n x a : ℕ) → is_among (max o (node_at g (node_of g x))) (min n (node_at g (node_of g x) + node_size g) - max o (node_at g (node_of g x))) a ≡ (nat_le o a && nat_lt a n && (node_of g a == node_of g x))
moves_span g o n x a = same_tests _ _
    (λ h. let t = span_in o n (node_at g (node_of g x)) (node_size g) a h in tested o n a (node_of g a) (node_of g x) t.0 t.1 (in_node g (node_of g x) a t.2 t.3))
    (λ h. let t = tests o n a (node_of g a) (node_of g x) h in let m = of_node g (node_of g x) a t.2 in span_of o n (node_at g (node_of g x)) (node_size g) a t.0 t.1 m.0 m.1)

-- as the program works it out
pub taken_span : (g : Geometry) (e : Entry) (from to count a : ℕ) → from ≡ max e.old (e.at / (g.words / g.nodes) * (g.words / g.nodes)) → to ≡ min e.new (e.at / (g.words / g.nodes) * (g.words / g.nodes) + g.words / g.nodes) → count ≡ to - from → is_among from count a ≡ (nat_le e.old a && nat_lt a e.new && (node_of g a == node_of g e.at))
taken_span g e from to count a f t c =
    let z = node_size-is g in
    let s : e.at / (g.words / g.nodes) * (g.words / g.nodes) ≡ node_at g (node_of g e.at) = ap (λ (n : ℕ). e.at / n * n) (sym z) ∙ ap (λ (k : ℕ). k * node_size g) (sym (node_of-div g e.at)) ∙ sym (node_at-is g (node_of g e.at)) in
    let f2 : from ≡ max e.old (node_at g (node_of g e.at)) = f ∙ ap (max e.old) s in
    let t2 : to ≡ min e.new (node_at g (node_of g e.at) + node_size g) = t ∙ ap (λ (k : ℕ). min e.new (k + g.words / g.nodes)) s ∙ ap (λ (k : ℕ). min e.new (node_at g (node_of g e.at) + k)) (sym z) in
    ap (λ (k : ℕ). is_among from k a) c
    ∙ ap (λ (k : ℕ). is_among from (k - from) a) t2
    ∙ ap (λ (k : ℕ). is_among k (min e.new (node_at g (node_of g e.at) + node_size g) - k) a) f2
    ∙ moves_span g e.old e.new e.at a
