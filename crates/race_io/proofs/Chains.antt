-- Steps of reading and writing, one after another.
use Rattle.std.proofs.Common.{◌≡◌, ℕ, ◌+◌, ◌-◌, ◌≤◌, List, [], ◌++◌, length, take, Option, Some, None, inl, inr, refl, sym, ◌∙◌, ap, append_assoc, arith, append-nil, drop, take-append-drop, length-drop, subst}
use Rattle.std.proofs.lemmas.List.{drop-take, take-take, take_all}
use Rattle.std.specs.Io.KnownBytes.{Consumes, Appends, Keeps}
use Rattle.race_io.specs.Counts.{Rose}

-- two pieces taken one after the other are one
pub Consumes-then : (a b c : Option (List ℕ)) (xs ys : List ℕ) → Consumes a b xs → Consumes b c ys → Consumes a c (xs ++ ys)
Consumes-then None b c xs ys h k = tt
Consumes-then (Some p) None c xs ys h k = absurd h
Consumes-then (Some p) (Some q) None xs ys h k = absurd k
Consumes-then (Some p) (Some q) (Some r) xs ys h k = h ∙ ap (λ z. xs ++ z) k ∙ sym (append_assoc xs ys r)

-- nothing taken
pub Consumes-none : (a : Option (List ℕ)) → Consumes a a []
Consumes-none None = tt
Consumes-none (Some p) = refl

-- a piece taken, and then what is left is kept
pub Consumes-kept : (a b c : Option (List ℕ)) (xs : List ℕ) → Consumes a b xs → Keeps b c → Consumes a c xs
Consumes-kept None b c xs h k = tt
Consumes-kept (Some p) None c xs h k = absurd h
Consumes-kept (Some p) (Some q) None xs h k = absurd k
Consumes-kept (Some p) (Some q) (Some r) xs h k = h ∙ ap (λ z. xs ++ z) (sym k)

-- two pieces appended one after the other are one
pub Appends-then : (a b c : Option (List ℕ)) (xs ys : List ℕ) → Appends a b xs → Appends b c ys → Appends a c (xs ++ ys)
Appends-then None b c xs ys h k = tt
Appends-then (Some p) None c xs ys h k = absurd h
Appends-then (Some p) (Some q) None xs ys h k = absurd k
Appends-then (Some p) (Some q) (Some r) xs ys h k = k ∙ ap (λ z. z ++ ys) h ∙ append_assoc p xs ys

-- nothing appended
pub Appends-none : (a : Option (List ℕ)) → Appends a a []
Appends-none None = tt
Appends-none (Some p) = sym (append-nil p)

-- a piece appended, and then what was taken is kept
pub Appends-kept : (a b c : Option (List ℕ)) (xs : List ℕ) → Appends a b xs → Keeps b c → Appends a c xs
Appends-kept None b c xs h k = tt
Appends-kept (Some p) None c xs h k = absurd h
Appends-kept (Some p) (Some q) None xs h k = absurd k
Appends-kept (Some p) (Some q) (Some r) xs h k = k ∙ h

-- a count that rose after it did not fall has risen
pub Rose-after : (a b c : ℕ) → a ≤ b → Rose b c → Rose a c
Rose-after a b c h (inl r) = inl (omega arith)
Rose-after a b c h (inr r) = inr r

-- the first n of a list, and the next m
pub take-then : (n m : ℕ) (xs : List ℕ) → take n xs ++ take m (drop n xs) ≡ take (n + m) xs
take-then n m xs =
    let short : take n (take (n + m) xs) ≡ take n xs = take-take n (n + m) xs (omega arith) in
    ap (λ z. take n xs ++ z) (sym (drop-take n m xs)) ∙ ap (λ z. z ++ drop n (take (n + m) xs)) (sym short) ∙ take-append-drop n (take (n + m) xs)

-- the first n bytes appended, and then the next m
pub Appends-next : (a b c : Option (List ℕ)) (xs : List ℕ) (n m : ℕ) → Appends a b (take n xs) → Appends b c (take m (take (length xs - n) (drop n xs))) → Appends a c (take (n + m) xs)
Appends-next a b c xs n m h k =
    let whole : take (length xs - n) (drop n xs) ≡ drop n xs = take_all (length xs - n) (drop n xs) (omega (arith, length-drop n xs)) in
    let P : List ℕ → Type 0 = λ z. Appends b c (take m z) in
    let Q : List ℕ → Type 0 = λ z. Appends a c z in
    subst Q (take-then n m xs) (Appends-then a b c (take n xs) (take m (drop n xs)) h (subst P whole k))
